-- The part that is programmed is the range, which lies in the flash; the rest of the flash behind it is looked at and left.
use Prim.Native.Nat.{◌*◌}
use mathlib.Core.Path.{ap, ◌∙◌}
use Rattle.protocol_bytes.specs.Sector.{sector_size}
use Rattle.mock_effects.specs.Effects.{cells_told}
use Rattle.mock_effects.proofs.Programming.{all_the_rest, put_programmed}
use Rattle.mock_effects.proofs.apply.program.Goals as goal

pub returns : goal.returns
returns c =
    let flash = c.args.flash.now in
    let asked = c.args.«data».now in
    let start = c.args.range.first * sector_size in (
      c.cells_told-pending.ensures ∙ ap (cells_told asked) (all_the_rest start asked flash c.requires),
      put_programmed start asked flash c.requires c.clear_bits.new.part c.clear_bits.ensures,
    )
