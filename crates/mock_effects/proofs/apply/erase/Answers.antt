-- The part that is filled is the range, which lies in the flash.
use Prim.Native.Nat.{ℕ, ◌+◌, ◌-◌, ◌*◌}
use mathlib.Core.Path.{◌≡◌, ap, sym, ◌∙◌}
use mathlib.Core.List.{List}
use native.Mathlib.Omega.{arith}
use lib.ListN.{length, take, drop, replicate, length-take, length-drop, length-replicate}
use Rattle.protocol_bytes.specs.Sector.{sector_size}
use Rattle.promise.specs.Over.{over}
use Rattle.promise.proofs.Copied.{put_over}
use Rattle.mock_effects.specs.Effects.{erased}
use Rattle.mock_effects.proofs.apply.erase.Goals as goal

pub returns : goal.returns
returns c =
    let flash = c.args.flash.now in
    let start = c.args.range.first * sector_size in
    let size = c.args.range.count * sector_size in
    let k : start + size - start ≡ size = omega arith in
    let n : length (take (start + size - start) (drop start flash)) ≡ size = simp (length-take, length-drop) (omega (arith, c.requires)) in
    let last : c.fill.new.self ≡ replicate size erased = c.fill.ensures.after (λ y e. e) ∙ ap (λ (m : ℕ). replicate m erased) n in
    put_over start (start + size - start) flash c.fill.new.self (ap length last ∙ length-replicate size erased ∙ sym k)
    ∙ ap (λ (l : List ℕ). over start l flash) last
