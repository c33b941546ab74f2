-- Reading a status, by cases of the rule.
use Prim.Native.Nat.{ℕ, ◌<◌, ◌≤◌}
use mathlib.Core.Path.{◌≡◌, refl, sym, ◌∙◌}
use mathlib.Core.Logic.{◌⊎◌, inl, inr}
use mathlib.Core.Bool.{true, false, not}
use mathlib.Core.List.{List, [], ◌∷◌}
use native.Mathlib.Omega.{arith}
use borrow.Author.Tests.{lt-ltb, le-ltb}
use lib.Dec.{ltb}
use lib.ListN.{length, get_or, take}
use Rattle.promise.specs.Told.{Told, given, refused, and_then}
use Rattle.promise.specs.Rules.{or_refuse}
use Rattle.promise.proofs.Outcome.{by_test}
use Rattle.protocol_codes.specs.Reading.{status_of}
use Rattle.protocol_codes.specs.Numbers.{status_number, statuses}
use Rattle.protocol_codes.specs.declared.Status.{Status}
use Rattle.protocol_codes.proofs.Reading.{known_refused}
use Rattle.protocol_bytes.specs.Signature.{usbs, same, signature_in}
use Rattle.protocol_status.specs.declared.report.CommandStatus.{CommandStatus}
use Rattle.protocol_bytes.specs.declared.signature.Parse.{Parse}
use Rattle.protocol_status.specs.declared.report.CommandStatusParseError.{CommandStatusParseError}
use Rattle.protocol_status.specs.declared.report.CommandStatusParseError.TheVariants.{InvalidSignature, InvalidLength, InvalidStatus}
use Rattle.protocol_status.specs.StatusBytes.{report_of, read_status}
use Rattle.protocol_status.specs.StatusMeets.{status_error_told, status_told, StatusMeets}
use Rattle.protocol_bytes.specs.Signature.{parsed}
use Rattle.std.specs.declared.result.Result.TheVariants.{Ok, Err}

module _ (bytes : List ℕ) where
  pub read_short : length bytes < 13 → read_status bytes ≡ refused 5 (length bytes ∷ [])
  unfolding read_status or_refuse
  read_short few = rw (lt-ltb (length bytes) 13 few) refl

  pub read_unsigned : 13 ≤ length bytes → same (take 4 bytes) usbs ≡ false → read_status bytes ≡ refused 6 (take 4 bytes)
  unfolding read_status or_refuse
  read_unsigned enough other = rw (le-ltb (length bytes) 13 enough, other) refl

  pub read_signed : 13 ≤ length bytes → same (take 4 bytes) usbs ≡ true
      → read_status bytes ≡ and_then (status_of (get_or bytes 12 0)) (λ (status : Status). given (report_of bytes status))
  unfolding read_status or_refuse
  read_signed enough own = rw (le-ltb (length bytes) 13 enough, own) refl

  module _ (r : Parse CommandStatus CommandStatusParseError) where
    pub meets_short : length bytes < 13 → r ≡ parsed (Err (InvalidLength (length bytes))) → StatusMeets r (read_status bytes)
    unfolding status_told status_error_told signature_in
    meets_short few e = rw (read_short few, e) (record { tells = refl; signature = refl })

    pub meets_unsigned : 13 ≤ length bytes → same (take 4 bytes) usbs ≡ false → r.answer ≡ Err InvalidSignature → r.signature ≡ take 4 bytes
        → StatusMeets r (read_status bytes)
    unfolding status_told status_error_told signature_in
    meets_unsigned enough other a s = rw (read_unsigned enough other) (record { tells = rw (a, s) refl; signature = s })

    pub meets_unknown : (m : ℕ) (vs : List ℕ) → 13 ≤ length bytes → same (take 4 bytes) usbs ≡ true → status_of (get_or bytes 12 0) ≡ refused m vs
        → r ≡ parsed (Err (InvalidStatus (get_or bytes 12 0))) → StatusMeets r (read_status bytes)
    unfolding status_told status_error_told signature_in and_then status_of
    meets_unknown m vs enough own unknown e =
        rw (read_signed enough own, known_refused 7 status_number statuses (get_or bytes 12 0) m vs unknown, e) (record { tells = refl; signature = refl })

    pub meets_given : (status : Status) → 13 ≤ length bytes → same (take 4 bytes) usbs ≡ true → status_of (get_or bytes 12 0) ≡ given status
        → r ≡ parsed (Ok (report_of bytes status)) → StatusMeets r (read_status bytes)
    unfolding status_told signature_in and_then
    meets_given status enough own here e = rw (read_signed enough own, here, e) (record { tells = refl; signature = refl })

-- told by no refusal but 5, 6 and 7
abbrev ThreeAlone : Told CommandStatus → Type 0
ThreeAlone told = (n : ℕ) (values : List ℕ) → told ≡ refused n values → (n ≡ 5) ⊎ ((n ≡ 6) ⊎ (n ≡ 7))

by_status_lem : (bytes : List ℕ) (t : Told Status) → t ≡ status_of (get_or bytes 12 0) → ThreeAlone (and_then t (λ (status : Status). given (report_of bytes status)))
unfolding and_then status_of
by_status_lem bytes (given status) e n values f = let z : ◌≡◌ {A = ℕ} 0 1 = cc in absurd (omega arith)
by_status_lem bytes (refused m told) e n values f =
    let known : refused m told ≡ refused 7 (get_or bytes 12 0 ∷ []) = e ∙ known_refused 7 status_number statuses (get_or bytes 12 0) m told (sym e) in
    let seven : n ≡ 7 = cc in
    inr (inr seven)

-- the numbers that `at_finish` has a number for are all there are
pub parse_refusals : (bytes : List ℕ) (n : ℕ) (values : List ℕ) → read_status bytes ≡ refused n values → (n ≡ 5) ⊎ ((n ≡ 6) ⊎ (n ≡ 7))
unfolding read_status or_refuse
parse_refusals bytes =
    by_test ThreeAlone (ltb (length bytes) 13) {a = refused 5 (length bytes ∷ [])} (λ short n values f. inl cc)
    (λ long. by_test ThreeAlone (not (same (take 4 bytes) usbs)) {a = refused 6 (take 4 bytes)} (λ other n values f. inr (inl cc))
    (λ own. by_status_lem bytes (status_of (get_or bytes 12 0)) refl))
