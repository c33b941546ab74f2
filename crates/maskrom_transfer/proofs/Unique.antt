-- Two answers that one promise allows are equal, and so are the bytes they leave.
use Prim.Native.Nat.{ℕ}
use mathlib.Core.Path.{◌≡◌, refl, ap, sym, ◌∙◌}
use mathlib.Core.List.{List}
use Rattle.promise.specs.Told.{Told, given, refused}
use Rattle.maskrom_transfer.specs.declared.Moved.{Moved}
use Rattle.promise.specs.Does.{Does, Meets}
use Rattle.maskrom_transfer.specs.Sending.{sent_told}
use Rattle.std.specs.Prelude.{Result}
use Rattle.rule_number.specs.declared.OutputTooShort.{OutputTooShort}
use Rattle.std.specs.declared.result.Result.TheVariants.{Ok, Err}

pub record Same {A R : Type 0} (told told' : Told A) (back back' : R) (new new' : List ℕ) : Type 0 where
  pub tells : told ≡ told'
  pub next : back ≡ back'
  pub leaves : new ≡ new'

pub same : {A R : Type 0} (told told' : Told A) (back back' self : R) (old new new' : List ℕ) (step : Told (Does A R))
    → Meets told back old new self step → Meets told' back' old new' self step → Same told told' back back' new new'
same told told' back back' self old new new' step m m' = record {
  tells = m.tells ∙ sym m'.tells;
  next = m.next ∙ sym m'.next;
  leaves = m.leaves ∙ sym m'.leaves;
}

-- number and values say which answer it was
sent_of : Told Moved → Result Moved OutputTooShort
sent_of (given m) = Ok m
sent_of (refused n vs) = Err (record {})

sent_back : (r : Result Moved OutputTooShort) → sent_of (sent_told r) ≡ r
unfolding sent_of sent_told
sent_back (Ok m) = refl
sent_back (Err e) = refl

pub send_one : (r r' : Result Moved OutputTooShort) → sent_told r ≡ sent_told r' → r ≡ r'
send_one r r' e = sym (sent_back r) ∙ ap sent_of e ∙ sent_back r'
