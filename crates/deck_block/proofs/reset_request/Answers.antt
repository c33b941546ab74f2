-- An opcode that is read is asked for; one that is refused is 45.
use mathlib.Core.Path.{ap, sym, ◌∙◌}
use Rattle.protocol_codes.specs.Reading.{reset_read_told}
use Rattle.deck_block.specs.Reading.{card_told, asks_reset, reset_request}
use Rattle.deck_block.proofs.reset_request.Goals as goal

pub returns-in_default : goal.returns-in_default
unfolding card_told asks_reset reset_request reset_read_told
returns-in_default c = sym (ap asks_reset (sym c.try_from.ensures ∙ ap reset_read_told c.in_default.is))

pub returns : goal.returns
unfolding card_told asks_reset reset_request reset_read_told
returns c = sym (ap asks_reset (sym c.try_from.ensures ∙ ap reset_read_told c.in-Ok.is))
