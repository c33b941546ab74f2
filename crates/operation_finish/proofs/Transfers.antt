-- When a transfer is whole, when it is short and when it is refused, each both ways; what tells the two apart; and what is left of either with the
-- distinction forgotten.
use Prim.Native.Nat.{ℕ, ◌-◌, ◌<◌, ◌≤◌}
use mathlib.Core.Path.{◌≡◌, refl, ap, ap₂}
use mathlib.Core.List.{List, []}
use lib.Dec.{eqb, ltb}
use native.Mathlib.Nat.{sub-zero}
use native.Mathlib.Omega.{arith}
use borrow.Author.Tests.{lt-ltb, le-ltb, eq-eqb, ne_eqb, ltb-true, ltb-false, eqb-true, eqb-false}
use Rattle.promise.specs.Told.{given, refused, and_then}
use Rattle.promise.specs.Rules.{or_refuse}
use Rattle.promise.proofs.Outcome.{on_test}
use Rattle.protocol_reply.specs.declared.size.Transferred.{Transferred}
use Rattle.operation_finish.specs.declared.ShortTransfer.{ShortTransfer}
use Rattle.operation_finish.specs.declared.SectorTransfer.{SectorTransfer}
use Rattle.operation_finish.specs.declared.SectorTransfer.TheVariants.{Whole, Short}
use Rattle.operation_finish.specs.Transfer.{bytes, whole, short, transfer_values, transfer_of, moved_of, forgets}

module _ (length residue : ℕ) where
  pub transfer_14 : length < residue → transfer_of length residue ≡ refused 14 []
  unfolding transfer_of or_refuse
  transfer_14 h = rw (lt-ltb length residue h)

  pub transfer_whole : residue ≡ 0 → transfer_of length residue ≡ given (whole length)
  unfolding transfer_of or_refuse
  transfer_whole e = rw (le-ltb length residue (omega (arith, e)), eq-eqb residue 0 e)

  pub transfer_short : 0 < residue → residue ≤ length → transfer_of length residue ≡ given (short (length - residue) length)
  unfolding transfer_of or_refuse
  transfer_short some h = rw (le-ltb length residue h, ne_eqb residue 0 (λ e. omega (arith, e, some)))

  -- there is no fourth way
  three_ways : {C : Type 0} → (length < residue → transfer_of length residue ≡ refused 14 [] → C) → (residue ≡ 0 → transfer_of length residue ≡ given (whole length) → C)
      → (0 < residue → residue ≤ length → transfer_of length residue ≡ given (short (length - residue) length) → C) → C
  three_ways f g h =
      on_test (ltb length residue) (λ t. let more = ltb-true length residue t in f more (transfer_14 more))
      (λ t. on_test (eqb residue 0) (λ e. let z = eqb-true residue 0 e in g z (transfer_whole z))
      (λ e. let some : 0 < residue = omega (arith, eqb-false residue 0 e) in
      let few = ltb-false length residue t in h some few (transfer_short some few)))

  -- WHOLE only where nothing is left over
  pub whole_only : (count : Transferred) → transfer_of length residue ≡ given (Whole count) → (residue ≡ 0) × (count ≡ bytes length)
  whole_only count e =
      three_ways
      (λ more f. let z : ◌≡◌ {A = ℕ} 0 1 = cc in absurd (omega arith))
      (λ none f. (none, cc))
      (λ some few f. let z : ◌≡◌ {A = ℕ} 0 1 = cc in absurd (omega arith))

  -- SHORT only where something is left over, and no more than was asked; what was moved is the rest
  pub short_only : (s : ShortTransfer) → transfer_of length residue ≡ given (Short s)
      → (0 < residue) × (residue ≤ length) × (s.moved ≡ bytes (length - residue)) × (s.asked ≡ bytes length)
  short_only s e =
      three_ways
      (λ more f. let z : ◌≡◌ {A = ℕ} 0 1 = cc in absurd (omega arith))
      (λ none f. let z : ◌≡◌ {A = ℕ} 0 1 = cc in absurd (omega arith))
      (λ some few f. let same : s ≡ record { moved = bytes (length - residue); asked = bytes length } = cc in
      (some, few, ap (λ (x : ShortTransfer). x.moved) same, ap (λ (x : ShortTransfer). x.asked) same))

  -- 14 only where more is left over than was asked
  pub refused_only : (n : ℕ) (values : List ℕ) → transfer_of length residue ≡ refused n values → length < residue
  refused_only n values e =
      three_ways
      (λ more f. more)
      (λ none f. let z : ◌≡◌ {A = ℕ} 0 1 = cc in absurd (omega arith))
      (λ some few f. let z : ◌≡◌ {A = ℕ} 0 1 = cc in absurd (omega arith))

  -- FORGOTTEN. The Rust's answer, at every length and residue
  pub transfer_forgotten : and_then (transfer_of length residue) (λ transfer. given (forgets transfer)) ≡ moved_of length residue
  unfolding transfer_of moved_of or_refuse and_then forgets
  transfer_forgotten =
      on_test (ltb length residue) (λ t. rw t)
      (λ t. on_test (eqb residue 0) (λ e. rw (t, e, eqb-true residue 0 e, sub-zero length)) (λ e. rw (t, e)))

-- an operation of 0 bytes is whole with 0
pub nothing_asked_lem : transfer_of 0 0 ≡ given (whole 0)
nothing_asked_lem = transfer_whole 0 0 refl

-- the values tell a whole transfer from a short one, and each from every other
pub values_apart : (x y : SectorTransfer) → transfer_values x ≡ transfer_values y → x ≡ y
unfolding transfer_values
values_apart (Whole a) (Whole b) e =
    let same : a.0 ≡ b.0 = cc in ap (λ (n : ℕ). whole n) same
values_apart (Whole a) (Short t) e = let z : ◌≡◌ {A = ℕ} 0 1 = cc in absurd (omega arith)
values_apart (Short s) (Whole b) e = let z : ◌≡◌ {A = ℕ} 0 1 = cc in absurd (omega arith)
values_apart (Short s) (Short t) e =
    let moved : s.moved.0 ≡ t.moved.0 = cc in
    let asked : s.asked.0 ≡ t.asked.0 = cc in ap₂ (λ (m a : ℕ). short m a) moved asked
