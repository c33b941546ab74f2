-- Programs that the contract of `step` rules out: bytes of a full transfer that are not the image's own, bytes behind a transfer that are touched,
-- a check that does not go over the bytes.
use Prim.Native.Nat.{ℕ, zero, suc, ◌≤◌}
use mathlib.Core.Path.{◌≡◌, refl, ap, sym, ◌∙◌}
use mathlib.Core.List.{List, [], ◌∷◌, ◌++◌}
use native.Mathlib.Omega.{arith}
use lib.ListN.{length, take, drop, get_or, replicate, length-replicate}
use lib.Seq.{length-take-le, take_all}
use Rattle.crc.specs.Check.{start, bit_step, bits_step, byte_step, crc_over}
use Rattle.promise.specs.Told.{Told, given, and_then}
use Rattle.promise.specs.Rules.{or_refuse}
use Rattle.promise.specs.Bytes.{front, low_first, high_first}
use Rattle.promise.specs.Does.{Does, does, Meets, sent, after}
use Rattle.maskrom_transfer.specs.declared.MaskRomSteps.TheVariants.{Writing}
use Rattle.maskrom_transfer.specs.Moves.{Moves, writing, moves_at}
use Rattle.maskrom_transfer.specs.Sending.{send_step}
use Rattle.maskrom_transfer.proofs.Cases.{writing_block}
use Rattle.maskrom.specs.declared.Control.{Control}
use Rattle.maskrom.specs.declared.WholeUpload.{WholeUpload}
use Rattle.maskrom.specs.declared.WholeStepped.{WholeStepped}
use Rattle.maskrom.specs.Answers.{Asks, writes, step_told}
use Rattle.maskrom.specs.PartWise.{asks}
use Rattle.maskrom.specs.Whole.{fresh_whole, most, sent_on, sends_on, whole_step}
use Rattle.maskrom.specs.Calls.{StepMeets}
use Rattle.maskrom.proofs.Cases.{whole_sends, sends_acts}
use Rattle.maskrom.proofs.Transfers.{step_untouched}

-- `step`: bytes behind the transfer's own are touched, whichever transfer it is
pub tail_touched : (r : WholeStepped) (u : WholeUpload) (image before now : List ℕ) (c : Control) → StepMeets r u image before now
    → step_told r.step ≡ given (writes c) → (drop c.size now ≡ drop c.size before → ⊥) → ⊥
tail_touched r u image before now c meets told touched = touched (step_untouched r u image before now meets c told)

-- the first step of an upload whose image has a full transfer
module _ (r : WholeStepped) (area : ℕ) (image before now : List ℕ) (room : 4096 ≤ length before) (long : 4096 ≤ length image)
    (meets : StepMeets r (fresh_whole area (length image)) image before now) where
  full : length (take 4096 image) ≡ 4096
  full = length-take-le 4096 image long

  acts :
      let u = fresh_whole area (length image) in
      let w = take 4096 image in
      whole_step u image (length before) ≡ given (does (asks Writing area (length w)) w (sent_on u (length w) (crc_over start w) Writing))
  unfolding most moves_at
  acts =
      let u = fresh_whole area (length image) in
      let w = take 4096 image in
      whole_sends u image (length before) room refl
      ∙ sends_acts u w (length before) room
      ∙ ap (λ (to : Moves). given (does (asks Writing area (length to.bytes)) to.bytes (sent_on u (length w) to.crc to.steps))) (writing_block (crc_over start w) w full)

  leaves : now ≡ take 4096 image ++ drop 4096 before
  unfolding sent
  leaves =
      meets.leaves
      ∙ ap (λ (t : Told (Does Asks WholeUpload)). front (sent t) before) acts
      ∙ ap (λ (n : ℕ). take 4096 image ++ drop n before) full

  crc_after : r.next.crc ≡ crc_over start (take 4096 image)
  unfolding after
  crc_after = ap (λ (u : WholeUpload). u.crc) (meets.next ∙ ap (after (fresh_whole area (length image))) acts)

-- `step`: a full transfer taken one byte late, of 1 and then 4,096 zeros
pub one_byte_late : (r : WholeStepped) (area : ℕ) (before now : List ℕ) → 4096 ≤ length before
    → let image : List ℕ = 1 ∷ replicate 4096 0 in
    StepMeets r (fresh_whole area (length image)) image before now → take 4096 now ≡ take 4096 (drop 1 image) → ⊥
one_byte_late r area before now room meets late =
    let image : List ℕ = 1 ∷ replicate 4096 0 in
    let long : 4096 ≤ length image = omega (arith, length-replicate {A = ℕ} 4096 0) in
    let differ : ◌≡◌ {A = ℕ} 0 1 =
    ap (λ (l : List ℕ). get_or l 0 0) (sym late ∙ ap (take 4096) (leaves r area image before now room long meets)) in
    omega arith

-- zeros leave a register of 0 as it is
over_zeros : (n : ℕ) → crc_over 0 (replicate n 0) ≡ 0
unfolding crc_over byte_step bits_step bit_step
over_zeros zero = refl
over_zeros (suc n) = over_zeros n

-- `step`: the check not carried over the bytes of a full transfer, which take it from its start to 0
pub check_not_carried : (r : WholeStepped) (area : ℕ) (before now : List ℕ) → 4096 ≤ length before
    → let image : List ℕ = 0xFF ∷ 0xFF ∷ replicate 4094 0 in
    StepMeets r (fresh_whole area (length image)) image before now → r.next.crc ≡ start → ⊥
unfolding crc_over byte_step bits_step bit_step
check_not_carried r area before now room meets kept =
    let zeros : List ℕ = replicate 4094 0 in
    let image : List ℕ = 0xFF ∷ 0xFF ∷ zeros in
    let n : length zeros ≡ 4094 = length-replicate {A = ℕ} 4094 0 in
    let long : 4096 ≤ length image = omega arith in
    let whole : take 4096 image ≡ image = take_all 4096 image (omega arith) in
    let differ : ◌≡◌ {A = ℕ} 0xFFFF 0 =
    sym kept ∙ crc_after r area image before now room long meets ∙ ap (crc_over start) whole ∙ over_zeros 4094 in
    omega arith

-- `step`: the check not carried over the bytes of a last transfer, where it is then sent as it started
pub last_not_checked : (r : WholeStepped) (area : ℕ) (before now : List ℕ)
    → let image : List ℕ = 0xFF ∷ 0xFF ∷ [] in
    Meets (step_told r.step) r.next before now (fresh_whole area 2) (whole_step (fresh_whole area 2) image 4096)
    → take 4 now ≡ 0xFF ∷ 0xFF ∷ 0xFF ∷ 0xFF ∷ [] → ⊥
unfolding whole_step sends_on and_then send_step or_refuse moves_at writing high_first low_first most crc_over byte_step bits_step bit_step sent
last_not_checked r area before now meets started =
    let differ : ◌≡◌ {A = ℕ} 0xFF 0 = ap (λ (l : List ℕ). get_or l 2 0) (sym started ∙ ap (take 4) meets.leaves) in omega arith
