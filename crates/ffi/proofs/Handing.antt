-- What the loop over parts keeps, and how it is left.
use Prim.Native.Nat.{ℕ, suc, ◌+◌, ◌-◌, ◌<◌, ◌≤◌, min}
use mathlib.Core.Path.{◌≡◌, refl, ap, sym, ◌∙◌, subst}
use mathlib.Core.Bool.{Bool, true, false}
use mathlib.Core.List.{List, [], ◌∷◌, ◌++◌}
use native.Mathlib.Omega.{arith}
use lib.Dec.{eqb, ltb}
use borrow.Author.Tests.{ne_eqb}
use lib.ListN.{length, take, drop, length-take, length-drop}
use Rattle.std.specs.Prelude.{Result}
use Rattle.std.specs.declared.result.Result.TheVariants.{Ok, Err}
use Rattle.rule_number.specs.Number.{number_of}
use Rattle.promise.specs.Told.{Told, given, refused, number}
use Rattle.promise.specs.Rules.{or_refuse, Rule, rule, unless, pick, too_short}
use Rattle.promise.specs.Does.{Does, does, Meets, said}
use Rattle.maskrom_transfer.proofs.Lists.{take_min}
use Rattle.maskrom.specs.declared.MaskRomOperation.{MaskRomOperation}
use Rattle.maskrom_transfer.specs.Moves.{block_size}
use Rattle.maskrom.specs.declared.PartError.{PartError}
use Rattle.maskrom.specs.declared.PartError.TheVariants.{OutputTooShort, AlreadyClosed, ImageTooLong}
use Rattle.maskrom.specs.Answers.{part_told, part_error_number, longest, too_long, closed_already, control, Handed, took, filled}
use Rattle.maskrom.specs.PartWise.{waiting, held, closed, holding, takes, part_step}
use Rattle.promise.specs.Run.{ends, goes, end_told, Ran, runs}
use Rattle.promise.proofs.Loop.{On, goes_on, stops, spent}
use Rattle.ffi.specs.declared.driving.HandedOver.{HandedOver}
use Rattle.ffi.specs.Drive.{Handing, handing, on_part, part_turn}
use Rattle.ffi.specs.Code.{HandsOver, IsNumbered, part_pace}

-- a part that took nothing is refused by its number
pub refused_pace : (error : PartError) → ◌≡◌ {A = Result ℕ ℕ} (Err (part_error_number error)) (part_pace (part_told (Err error)))
unfolding part_told part_pace
refused_pace OutputTooShort = refl
refused_pace AlreadyClosed = refl
refused_pace ImageTooLong = refl

-- and no refusal has the number 0
err_suc : {A : Type 0} (n : ℕ) → IsNumbered {A = A} (Err (suc n))
err_suc n e = let z : ◌≡◌ {A = ℕ} (suc n) 0 = cc in absurd (omega (arith, z))

pub numbered : (error : PartError) → IsNumbered {A = ℕ} (Err (part_error_number error))
numbered OutputTooShort = err_suc 19
numbered AlreadyClosed = err_suc 25
numbered ImageTooLong = err_suc 24

pub out_of_steps_numbered : IsNumbered {A = Unit} (Err 28)
out_of_steps_numbered = err_suc 27

over_numbered : IsNumbered {A = Unit} (Ok tt)
over_numbered e = absurd (let z : ◌≡◌ {A = ℕ} 0 1 = cc in omega arith)

same_numbered : (n : ℕ) → IsNumbered {A = ℕ} (Err n) → IsNumbered {A = Unit} (Err n)
same_numbered n h e = let z : n ≡ 0 = cc in h (ap (λ (x : ℕ). Err x) z)

took_only : {C : Type 0} (n m : ℕ) → ◌≡◌ {A = Result ℕ ℕ} (Ok n) (Err m) → C
took_only n m e = absurd (let z : ◌≡◌ {A = ℕ} 0 1 = cc in omega arith)

ending : Told Handed → Told Unit
ending (given a) = given tt
ending (refused n vs) = refused n vs

module _ (m : MaskRomOperation) (left out : List ℕ) where
  pace_took : (t : Told Handed) (n : ℕ) → part_pace t ≡ Ok n → on_part t m left out ≡ goes (handing m (drop n left) out)
  unfolding part_pace on_part
  pace_took (given (took k)) n e = let same : k ≡ n = cc in ap (λ (x : ℕ). goes (handing m (drop x left) out)) same
  pace_took (given (filled k c)) n e = let same : k ≡ n = cc in ap (λ (x : ℕ). goes (handing m (drop x left) out)) same
  pace_took (refused k vs) n e = took_only n k (sym e)

  pace_refused : (t : Told Handed) (n : ℕ) → part_pace t ≡ Err n → on_part t m left out ≡ ends (ending t) (handing m left out)
  unfolding part_pace on_part ending
  pace_refused (given (took k)) n e = took_only k n e
  pace_refused (given (filled k c)) n e = took_only k n e
  pace_refused (refused k vs) n e = refl

pace_number : (t : Told Handed) (n : ℕ) → part_pace t ≡ Err n → n ≡ number (ending t)
unfolding part_pace ending number
pace_number (given (took k)) n e = took_only k n e
pace_number (given (filled k c)) n e = took_only k n e
pace_number (refused k vs) n e = cc

-- a part gives no more than it has

Within : ℕ → Result ℕ ℕ → Type 0
Within most (Ok n) = n ≤ most
Within most (Err n) = Unit

pick_both : {A : Type 0} (P : A → Type 0) (b : Bool) (x y : A) → P x → P y → P (pick b x y)
pick_both P true x y h k = h
pick_both P false x y h k = k

within_unless : (most : ℕ) (rules : List Rule) (t : Told (Does Handed MaskRomOperation)) → Within most (part_pace (said t))
    → Within most (part_pace (said (unless rules t)))
unfolding or_refuse said part_pace Within
within_unless most [] t h = h
within_unless most (r ∷ rs) t h =
    pick_both (λ (x : Told (Does Handed MaskRomOperation)). Within most (part_pace (said x))) r.broken (refused r.number r.values) (unless rs t) tt
    (within_unless most rs t h)

part_within : (m : MaskRomOperation) (part : List ℕ) (room : ℕ) → Within (length part) (part_pace (said (part_step m part room)))
unfolding part_step takes said part_pace Within
part_within m part room =
    let ys = take (block_size - waiting m) part in
    let few : length ys ≤ length part = simp length-take (omega arith) in
    within_unless (length part)
    (rule (ltb room block_size) too_short []
    ∷ rule (closed m.steps) closed_already []
    ∷ rule (ltb longest (m.taken + length part)) too_long []
    ∷ [])
    (given (takes m ys))
    (pick_both (λ (d : Does Handed MaskRomOperation). Within (length part) (part_pace (given d.says))) (eqb (waiting m + length ys) block_size)
    (does (filled (length ys) (control m.area block_size)) (held m ++ ys) (holding m ys)) (does (took (length ys)) [] (holding m ys)) few few)

pub took_within : (m : MaskRomOperation) (part : List ℕ) (room n : ℕ) → part_pace (said (part_step m part room)) ≡ Ok n → n ≤ length part
unfolding Within
took_within m part room n e = subst (λ (p : Result ℕ ℕ). Within (length part) p) e (part_within m part room)

-- the bytes that are lent on are the next of what is left
pub lent_part : (size from r : ℕ) (l : List ℕ) → r ≡ min size (length l - from) → take (from + r - from) (drop from l) ≡ take size (drop from l)
lent_part size from r l e =
    let same : from + r - from ≡ min size (length (drop from l)) = omega (arith, length-drop from l) in
    ap (λ (n : ℕ). take n (drop from l)) same ∙ take_min size (drop from l)

module _ (size budget : ℕ) (m₀ : MaskRomOperation) (image out₀ : List ℕ) where
  abbrev whole : Ran Unit Handing
  whole = runs (part_turn size) budget (handing m₀ image out₀)

  -- `used` calls brought the drive here
  abbrev pub Handling : ℕ → MaskRomOperation → List ℕ → List ℕ → Type 0
  Handling used m left out = On (part_turn size) budget used whole (handing m left out)

  abbrev made : Result Unit ℕ → MaskRomOperation → HandedOver
  made r m = record { answer = r; operation = m }

  handed : (r : Result Unit ℕ) (m : MaskRomOperation) (out : List ℕ) (run : Ran Unit Handing) → whole ≡ run
      → number_of (λ (n : ℕ). n) r ≡ number (end_told run.end) → IsNumbered r → m ≡ run.state.operation → out ≡ run.state.out → HandsOver (made r m) out whole
  handed r m out run e f k g h =
      subst (λ (x : Ran Unit Handing). HandsOver (made r m) out x) (sym e) (record { tells = f; numbered = k; next = g; leaves = h })

  module _ (used : ℕ) (m : MaskRomOperation) (left out : List ℕ) (on : Handling used m left out) where
    pub hand_spent : used ≡ budget → HandsOver (made (Err 28) m) out whole
    unfolding number end_told
    hand_spent e = handed (Err 28) m out _ (spent (part_turn size) budget used (handing m left out) e on) refl out_of_steps_numbered refl refl

    pub hand_done : used < budget → length left ≡ 0 → HandsOver (made (Ok tt) m) out whole
    unfolding number end_told part_turn
    hand_done h e =
        handed (Ok tt) m out _
        (stops (part_turn size) budget used (handing m left out) (handing m left out) (given tt) h (rw e refl) on) refl over_numbered refl refl

    module _ (h : used < budget) (more : 0 < length left) (told : Told Handed) (back : MaskRomOperation) (after-out : List ℕ)
        (meets : Meets told back out after-out m (part_step m (take size left) (length out))) where
      turned : part_turn size (handing m left out) ≡ on_part told back left after-out
      unfolding part_turn
      turned =
          let some : eqb (length left) 0 ≡ false = ne_eqb (length left) 0 (λ (z : length left ≡ 0). omega arith) in
          rw (some, meets.tells, meets.next, meets.leaves) refl

      pub hand_on : (n : ℕ) → part_pace told ≡ Ok n → Handling (used + 1) back (drop n left) after-out
      hand_on n e =
          goes_on (part_turn size) budget used (handing m left out) (handing back (drop n left) after-out) h (turned ∙ pace_took back left after-out told n e) on

      pub hand_refused : (n : ℕ) → part_pace told ≡ Err n → IsNumbered {A = ℕ} (Err n) → HandsOver (made (Err n) back) after-out whole
      unfolding end_told
      hand_refused n e k =
          handed (Err n) back after-out _
          (stops (part_turn size) budget used (handing m left out) (handing back left after-out) (ending told) h (turned ∙ pace_refused back left after-out told n e) on)
          (pace_number told n e) (same_numbered n k) refl refl
