-- As many bytes are taken as the block has room for, which are the definition's (`take_min`), and where they fill it the output begins with the
-- block (`filled_block`).
use Rattle.std.proofs.Common.{◌≡◌, ℕ, ◌+◌, ◌-◌, ◌<◌, ◌≤◌, false, List, [], ◌++◌, length, take, drop, min, refl, ap, ap₂, sym, ◌∙◌, arith, rules, length-take}
use lib.Seq.{length-take-le}
use Rattle.promise.specs.Told.{given}
use Rattle.promise.specs.Does.{does}
use Rattle.maskrom_transfer.proofs.Lists.{take_min}
use Rattle.maskrom_transfer.proofs.Cases.{acts}
use Rattle.maskrom_transfer.specs.declared.MaskRomSteps.{MaskRomSteps}
use Rattle.maskrom_transfer.specs.declared.MaskRomSteps.TheVariants.{Writing}
use Rattle.maskrom.specs.declared.MaskRomOperation.{MaskRomOperation}
use Rattle.maskrom.specs.declared.Control.{Control}
use Rattle.maskrom.specs.declared.PartStepped.{PartStepped}
use Rattle.maskrom.specs.Answers.{control, took, filled, part_told}
use Rattle.maskrom.specs.PartWise.{waiting, held, closed, holding, takes, part_step}
use Rattle.maskrom.proofs.Lists.{filled_block, filled_length}
use Rattle.maskrom.proofs.Cases.{part_takes, takes_full, takes_some}
use Rattle.maskrom.proofs.MaskRomOperation.part.Goals as goal

open_yet : (steps : MaskRomSteps) → steps ≡ Writing → closed steps ≡ false
unfolding closed
open_yet steps e = ap closed e

-- once it is known how many bytes are taken
module _ (m : MaskRomOperation) (xs : List ℕ) (n : ℕ) (e : n ≡ min (4096 - waiting m) (length xs)) where
  many : length (take n xs) ≡ n
  many = length-take n xs ∙ omega arith

  step_takes : (room : ℕ) → 4096 ≤ room → closed m.steps ≡ false → m.taken + length xs ≤ 4294967295
      → part_step m xs room ≡ given (takes m (take n xs))
  step_takes room fits yet short =
      part_takes m xs room fits yet short
      ∙ ap (λ (l : List ℕ). given (takes m l)) (sym (ap (λ (k : ℕ). take k xs) e ∙ take_min (4096 - waiting m) xs))

pub returns-then-at-n-lt-BLOCK : goal.returns-then-at-n-lt-BLOCK
unfolding part_told
returns-then-at-n-lt-BLOCK c =
    let m = c.args.self in
    let xs = c.args.part.now in
    let n = c.min-n.result in
    let r = c.after_part-then-at-n-lt-BLOCK in
    let ys = take n xs in
    let yet : closed m.steps ≡ false = search (rules, open_yet) in
    let long : length ys ≡ n = many m xs n c.min-n.ensures in
    let short : waiting m + length ys < 4096 = omega arith in
    acts (does (took (length ys)) [] (holding m ys))
    (step_takes m xs n c.min-n.ensures (length c.args.out.now) c.if-out-lt-BLOCK.false yet c.if-taken-part-gt-LONGEST.false
    ∙ ap given (takes_some m ys short))
    (ap (λ (s : PartStepped). part_told s.step) r.ensures ∙ ap (λ (k : ℕ). given (took k)) (sym long))
    (ap (λ (s : PartStepped). s.next) r.ensures ∙ c.hold-next.ensures) refl

pub copy_from_slice-requires : goal.copy_from_slice-requires
copy_from_slice-requires c =
    let long : length c.hold-next.result.block ≡ 4096 = search rules in
    length-take-le 4096 c.args.out.now c.if-out-lt-BLOCK.false ∙ sym long

pub returns : goal.returns
unfolding part_told
returns c =
    let m = c.args.self in
    let xs = c.args.part.now in
    let out = c.args.out.now in
    let n = c.min-n.result in
    let ys = take n xs in
    let yet : closed m.steps ≡ false = search (rules, open_yet) in
    let block_long : length m.block ≡ 4096 = search rules in
    let long : length ys ≡ n = many m xs n c.min-n.ensures in
    let full : waiting m + length ys ≡ 4096 = omega arith in
    let block : c.hold-next.result.block ≡ held m ++ ys =
    ap (λ (o : MaskRomOperation). o.block) c.hold-next.ensures ∙ filled_block m.block (waiting m) ys block_long full in
    acts (does (filled (length ys) (control m.area 4096)) (held m ++ ys) (holding m ys))
    (step_takes m xs n c.min-n.ensures (length out) c.if-out-lt-BLOCK.false yet c.if-taken-part-gt-LONGEST.false
    ∙ ap given (takes_full m ys full))
    (ap (λ (s : PartStepped). part_told s.step) c.after_part-2.ensures
    ∙ ap₂ (λ (k : ℕ) (t : Control). given (filled k t)) (sym long) c.control_of.ensures)
    (ap (λ (s : PartStepped). s.next) c.after_part-2.ensures ∙ c.hold-next.ensures)
    (ap (λ (l : List ℕ). l ++ drop 4096 out) (c.copy_from_slice.ensures.after ∙ block)
    ∙ ap (λ (k : ℕ). (held m ++ ys) ++ drop k out) (sym (filled_length m.block (waiting m) ys block_long full)))
