-- One law for each branch of a definition, and what the promises of callers are made from.
use Prim.Native.Nat.{ℕ, ◌+◌, ◌<◌, ◌≤◌}
use mathlib.Core.Path.{◌≡◌, refl, ap, ap₂, sym, subst, ◌∙◌}
use mathlib.Core.List.{List, [], ◌∷◌, ◌++◌, append_assoc}
use native.Mathlib.Omega.{arith}
use lib.ListN.{length, set, length-append}
use borrow.Author.Tests.{eq-eqb, ne_eqb, lt-ltb, le-ltb}
use Rattle.crc.specs.Check.{crc_over}
use Rattle.promise.specs.Told.{Told, given, refused, and_then}
use Rattle.promise.specs.Rules.{or_refuse, too_short}
use Rattle.promise.specs.Bytes.{front}
use Rattle.maskrom_transfer.specs.declared.Moved.{Moved}
use Rattle.maskrom_transfer.specs.declared.MaskRomSteps.{MaskRomSteps}
use Rattle.maskrom_transfer.specs.declared.MaskRomSteps.TheVariants.{Writing, Check, Dummy, Done}
use Rattle.maskrom_transfer.specs.Moves.{check_bytes, Moves, moves, writing, moves_at}
use Rattle.maskrom_transfer.specs.Code.{PutMeets, SendMeets}
use Rattle.maskrom_transfer.proofs.Lists.{stored}
use Rattle.promise.specs.Does.{Does, does, said, sent, after, Meets}
use Rattle.maskrom_transfer.specs.Sending.{moved, send_step}

module _ (crc : ℕ) (w : List ℕ) where
  pub writing_block : length w ≡ 4096 → writing crc w ≡ moves w crc Writing
  unfolding writing
  writing_block e = rw (eq-eqb (length w) 4096 e)

  pub writing_pad : length w ≡ 4095 → writing crc w ≡ moves (w ++ (0 ∷ [])) (crc_over crc (0 ∷ [])) Check
  unfolding writing
  writing_pad e = rw (ne_eqb (length w) 4096 (omega arith), eq-eqb (length w) 4095 e)

  pub writing_dummy : length w ≡ 4094 → writing crc w ≡ moves (w ++ check_bytes crc) crc Dummy
  unfolding writing
  writing_dummy e =
      rw (ne_eqb (length w) 4096 (omega arith), ne_eqb (length w) 4095 (omega arith), eq-eqb (length w) 4094 e)

  pub writing_last : length w < 4094 → writing crc w ≡ moves (w ++ check_bytes crc) crc Done
  unfolding writing
  writing_last h =
      rw (ne_eqb (length w) 4096 (omega arith), ne_eqb (length w) 4095 (omega arith), ne_eqb (length w) 4094 (omega arith))

-- a byte stored behind bytes that were put at the front, and two
pub put_byte : (n v : ℕ) (bs old new : List ℕ) → PutMeets n bs old new → length bs < length old → PutMeets (n + 1) (bs ++ (v ∷ [])) old (set new n v)
put_byte n v bs old new h fits = (
  ap (λ (k : ℕ). k + 1) h.0 ∙ sym (length-append bs (v ∷ [])),
  ap₂ (λ (l : List ℕ) (k : ℕ). set l k v) h.1 h.0 ∙ stored bs old v fits,
)

pub put_two : (n u v : ℕ) (bs old new : List ℕ) → PutMeets n bs old new → length bs + 1 < length old
    → PutMeets (n + 2) (bs ++ (u ∷ v ∷ [])) old (set (set new n u) (n + 1) v)
put_two n u v bs old new h fits =
    let longer : length (bs ++ (u ∷ [])) < length old = simp length-append (omega arith) in
    let both = put_byte (n + 1) v (bs ++ (u ∷ [])) old (set new n u) (put_byte n u bs old new h (omega arith)) longer in (
      ap (λ (k : ℕ). k + 2) h.0 ∙ sym (length-append bs (u ∷ v ∷ [])),
      both.1 ∙ ap (λ (l : List ℕ). front l old) (append_assoc bs (u ∷ []) (v ∷ [])),
    )

-- bytes put at the front are the step's, with the register that covers them
pub meets : (size crc crc' : ℕ) (steps : MaskRomSteps) (bs old new : List ℕ) → PutMeets size bs old new → crc ≡ crc'
    → SendMeets (record { size = size; crc = crc; steps = steps }) old new (moves bs crc' steps)
meets size crc crc' steps bs old new put covers = record { size = put.0; crc = covers; steps = refl; leaves = put.1 }

pub at_steps : (r : Moved) (old new : List ℕ) (crc : ℕ) (w : List ℕ) {x y : MaskRomSteps} → x ≡ y
    → SendMeets r old new (moves_at y crc w) → SendMeets r old new (moves_at x crc w)
at_steps r old new crc w e = subst (λ (x : MaskRomSteps). SendMeets r old new (moves_at x crc w)) (sym e)

pub moved_is : (r : Moved) (old new : List ℕ) (to : Moves) → SendMeets r old new to → r ≡ moved to
moved_is r old new to m =
    ap₂ (λ (n c : ℕ). record { size = n; crc = c; steps = r.steps }) m.size m.crc
    ∙ ap (λ (s : MaskRomSteps). record { size = length to.bytes; crc = to.crc; steps = s }) m.steps

module _ (steps : MaskRomSteps) (crc : ℕ) (w : List ℕ) (room : ℕ) where
  pub send_20 : room < 4096 → send_step steps crc w room ≡ refused too_short []
  unfolding send_step or_refuse
  send_20 h = rw (lt-ltb room 4096 h)

  pub send_acts : 4096 ≤ room
      → send_step steps crc w room ≡ given (does (moved (moves_at steps crc w)) (moves_at steps crc w).bytes tt)
  unfolding send_step or_refuse
  send_acts h = rw (le-ltb room 4096 h)

-- a promise, from the branch that its definition takes
pub keeps : {A R : Type 0} {told : Told A} {back self : R} {old new : List ℕ} {step : Told (Does A R)} (n : ℕ)
    → step ≡ refused n [] → told ≡ refused n [] → back ≡ self → new ≡ old → Meets told back old new self step
unfolding said sent after
keeps n e t b o = rw e (record { tells = t; next = b; leaves = o })

pub acts : {A R : Type 0} {told : Told A} {back self : R} {old new : List ℕ} {step : Told (Does A R)} (d : Does A R)
    → step ≡ given d → told ≡ given d.says → back ≡ d.becomes → new ≡ front d.sends old → Meets told back old new self step
unfolding said sent after
acts d e t b o = rw e (record { tells = t; next = b; leaves = o })

never : {A : Type 0} (a : A) (n : ℕ) (vs : List ℕ) → ◌≡◌ {A = Told A} (given a) (refused n vs) → ⊥
never a n vs e = let z : ◌≡◌ {A = ℕ} 0 1 = cc in omega arith

-- a promise that rests on another: what was told there is told on, or a refusal is passed on
module _ {A B R : Type 0} (self : R) (old new : List ℕ) where
  pub goes_on : (a : A) (f : A → B) (g : A → R) (step : Told (Does A Unit)) → Meets (given a) tt old new tt step
      → Meets (given (f a)) (g a) old new self (and_then step (λ (d : Does A Unit). given (does (f d.says) d.sends (g d.says))))
  unfolding and_then said sent after
  goes_on a f g (given d) m =
      let e : a ≡ d.says = cc m.tells in
      record { tells = ap (λ (x : A). given (f x)) e; next = ap g e; leaves = m.leaves }
  goes_on a f g (refused n vs) m = absurd (never a n vs m.tells)

  pub passes_on : (n : ℕ) (f : Does A Unit → Told (Does B R)) (step : Told (Does A Unit)) → Meets (refused n []) tt old new tt step
      → Meets (refused n []) self old new self (and_then step f)
  unfolding and_then said sent after
  passes_on n f (given d) m = absurd (never d.says n [] (sym m.tells))
  passes_on n f (refused k vs) m =
      let e : n ≡ k = cc m.tells in
      let h : [] ≡ vs = cc m.tells in
      record { tells = ap₂ refused e h; next = refl; leaves = m.leaves }
