-- A block that is refused is turned away by its number, and any other is carried out; 43 has bounded what it asks for.
use Rattle.std.proofs.Common.{sym, ap, ◌∙◌}
use Rattle.deck_block.specs.Reading.{card_told}
use Rattle.deck_block.proofs.ByKind.{passed_rules}
use Rattle.deck_block.proofs.Fitting.{asked_fits}
use Rattle.deck.proofs.DealingLaws.{as_dealt, refused_card, asked_card}
use Rattle.deck.proofs.dealing.deal_block.Goals as goal

pub returns-in_default : goal.returns-in_default
returns-in_default c =
    let a = c.args in
    let card = c.read_card-card in
    as_dealt _ _ _ a.tag a.block.now card.result _ card.ensures
    (refused_card card.result _ c.in_default.is _ a.tag a.device a.flash.now a.store.now _ c.number.ensures c.turned_away.ensures)

pub deal_request-requires : goal.deal_request-requires
unfolding card_told
deal_request-requires c =
    let a = c.args in
    let card = c.read_card-card in
    asked_fits a.block.now _ (passed_rules a.tag a.block.now _ (sym card.ensures ∙ ap card_told c.in-Ok.is))

pub returns : goal.returns
returns c =
    let a = c.args in
    let card = c.read_card-card in
    as_dealt _ _ _ a.tag a.block.now card.result _ card.ensures
    (asked_card card.result _ _ _ _ a.tag _ c.in-Ok.is c.deal_request.ensures)
