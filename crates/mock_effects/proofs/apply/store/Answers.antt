-- The part that is written is the range, which lies in the flash.
use Prim.Native.Nat.{ℕ, ◌+◌, ◌-◌, ◌*◌}
use mathlib.Core.Path.{◌≡◌, ap, sym, ◌∙◌}
use mathlib.Core.List.{List}
use native.Mathlib.Omega.{arith}
use lib.ListN.{length}
use Rattle.protocol_bytes.specs.Sector.{sector_size}
use Rattle.promise.specs.Over.{over}
use Rattle.promise.proofs.Copied.{put_over}
use Rattle.mock_effects.proofs.apply.store.Goals as goal

pub returns : goal.returns
returns c =
    let flash = c.args.flash.now in
    let start = c.args.range.first * sector_size in
    let size = length c.args.«data».now in
    let k : start + size - start ≡ size = omega arith in
    let last = c.copy_from_slice.ensures.after in
    put_over start (start + size - start) flash c.copy_from_slice.new.self (ap length last ∙ sym k)
    ∙ ap (λ (l : List ℕ). over start l flash) last
