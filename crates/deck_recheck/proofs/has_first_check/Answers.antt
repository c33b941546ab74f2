-- The two bytes behind the checked ones, high byte first, and the first check of those.
use Rattle.std.proofs.Common.{eqb, sym, ap, ◌∙◌, ap₂, arith}
use Rattle.promise.specs.Bytes.{from_high}
use Rattle.protocol_bytes.proofs.Short.{field_elements}
use Rattle.deck_block.specs.Block.{fields_of}
use Rattle.deck_recheck.proofs.has_first_check.Goals as goal

pub bounds-block-510 : goal.bounds-block-510
bounds-block-510 c = omega (arith, c.requires)

pub bounds-block-511 : goal.bounds-block-511
bounds-block-511 c = omega (arith, c.requires)

pub returns : goal.returns
unfolding fields_of
returns c =
    ap₂ eqb (c.u16_from_be_bytes.ensures ∙ ap from_high (sym (field_elements 2 510 c.args.block.now (omega (arith, c.requires))))) c.first_check.ensures
