-- What holds of every refusal of a call and of what comes of it where it is not refused holds of the call.
use Prim.Native.Nat.{ℕ, ◌+◌, ◌-◌, ◌<◌, ◌≤◌}
use mathlib.Core.Path.{◌≡◌, sym, subst, ◌∙◌}
use mathlib.Core.Bool.{false}
use mathlib.Core.List.{List, [], ◌∷◌}
use native.Mathlib.Omega.{arith}
use native.Mathlib.Decide.{dec_lt, ℕ_discrete}
use borrow.Author.Tests.{ltb-false}
use lib.Dec.{ltb}
use lib.ListN.{length, take}
use Rattle.crc.specs.Check.{crc_over}
use Rattle.promise.specs.Told.{Told, given, refused}
use Rattle.promise.specs.Rules.{rule, room_rule, too_short, differs}
use Rattle.promise.specs.Does.{Does, does, Meets}
use Rattle.promise.proofs.Outcome.{either_way}
use Rattle.maskrom_transfer.specs.Moves.{block_size, moves_at}
use Rattle.maskrom.specs.declared.MaskRomOperation.{MaskRomOperation}
use Rattle.maskrom.specs.declared.WholeUpload.{WholeUpload}
use Rattle.maskrom.specs.Answers.{longest, too_long, closed_already, Handed, Asks}
use Rattle.maskrom.specs.PartWise.{waiting, held, closed, takes, part_step, asks, with_moved, close_step}
use Rattle.maskrom.specs.Whole.{chunk, sent_on, whole_step}
use Rattle.maskrom.proofs.Cases.{close_20, close_acts, whole_20, whole_27, whole_sends, sends_acts}

-- what is given is not refused
pub clash : {A C : Type 0} (a : A) (n : ℕ) (values : List ℕ) → ◌≡◌ {A = Told A} (given a) (refused n values) → C
clash a n values e = absurd (let z : ◌≡◌ {A = ℕ} 0 1 = cc in omega arith)

-- a promise, once it is known which branch its step takes
pub as_step : {A R : Type 0} {told : Told A} {back self : R} {old new : List ℕ} {step branch : Told (Does A R)} → step ≡ branch
    → Meets told back old new self step → Meets told back old new self branch
as_step {A} {R} {told} {back} {self} {old} {new} e meets = subst (λ (s : Told (Does A R)). Meets told back old new self s) e meets

pub part_either : (P : Told (Does Handed MaskRomOperation) → Type 0) (m : MaskRomOperation) (part : List ℕ) (room : ℕ)
    → ((n : ℕ) (values : List ℕ) → P (refused n values))
    → (closed m.steps ≡ false → m.taken + length part ≤ longest → P (given (takes m (take (4096 - waiting m) part))))
    → P (part_step m part room)
unfolding part_step
part_either P m part room refusing taking =
    either_way P refused
    (room_rule room block_size ∷ rule (closed m.steps) closed_already [] ∷ rule (ltb longest (m.taken + length part)) too_long [] ∷ [])
    (given (takes m (take (4096 - waiting m) part))) refusing
    (λ met. taking met.1.0 (ltb-false longest (m.taken + length part) met.1.1.0))

-- a closing step's branches, by the room
module _ (P : Told (Does Asks MaskRomOperation) → Type 0) (m : MaskRomOperation) (room : ℕ) (short : P (refused too_short []))
    (closing :
    let to = moves_at m.steps m.crc (held m) in
    P (given (does (asks m.steps m.area (length to.bytes)) to.bytes (with_moved m to.crc to.steps)))) where
  close_by : Dec (room < 4096) → P (close_step m room)
  close_by (yes h) = subst P (sym (close_20 m room h)) short
  close_by (no l) = subst P (sym (close_acts m room (omega arith))) closing

  pub close_either : P (close_step m room)
  close_either = close_by (dec_lt room 4096)

-- a whole-upload step's branches, by the room and the image's length
module _ (P : Told (Does Asks WholeUpload) → Type 0) (u : WholeUpload) (image : List ℕ) (room : ℕ)
    (short : P (refused too_short [])) (other : P (refused differs []))
    (sending : length image ≡ u.length →
    let w = chunk u image in
    let to = moves_at u.steps (crc_over u.crc w) w in
    P (given (does (asks u.steps u.area (length to.bytes)) to.bytes (sent_on u (length w) to.crc to.steps)))) where
  step_by : Dec (room < 4096) → Dec (length image ≡ u.length) → P (whole_step u image room)
  step_by (yes h) d = subst P (sym (whole_20 u image room h)) short
  step_by (no l) (no d) = subst P (sym (whole_27 u image room (omega arith) d)) other
  step_by (no l) (yes e) =
      let h : 4096 ≤ room = omega arith in
      subst P (sym (whole_sends u image room h e ∙ sends_acts u (chunk u image) room h)) (sending e)

  pub step_either : P (whole_step u image room)
  step_either = step_by (dec_lt room 4096) (ℕ_discrete (length image) u.length)
