-- The part that is read is the range, which lies in the flash.
use Prim.Native.Nat.{ℕ, ◌+◌, ◌-◌, ◌*◌}
use mathlib.Core.Path.{◌≡◌, ap, sym, ◌∙◌}
use mathlib.Core.List.{List, ◌++◌}
use native.Mathlib.Omega.{arith}
use lib.ListN.{length, drop, length-take, length-drop}
use Rattle.promise.specs.Bytes.{field}
use Rattle.protocol_bytes.specs.Sector.{sector_size}
use Rattle.mock_effects.proofs.apply.supply.Goals as goal

pub returns : goal.returns
returns c =
    let flash = c.args.flash.now in
    let before = c.args.«data».now in
    let start = c.args.range.first * sector_size in
    let size = c.args.range.count * sector_size in
    let sent = field start size flash in
    let k : start + size - start ≡ size = omega arith in
    let long : length sent ≡ size = simp (length-take, length-drop) (omega (arith, c.requires.0)) in
    let read : c.copy_from_slice.new.self ≡ sent = c.copy_from_slice.ensures.after ∙ ap (λ (m : ℕ). field start m flash) k in
    ap (λ (l : List ℕ). l ++ drop size before) read ∙ ap (λ (m : ℕ). sent ++ drop m before) (sym long)
