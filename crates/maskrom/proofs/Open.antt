-- Until a closing step is answered the image is open: no part shuts it, whatever it takes, and no closing step that is refused.
use Prim.Native.Nat.{ℕ, ◌+◌, ◌-◌, ◌<◌}
use mathlib.Core.Path.{◌≡◌, refl, ap, sym, ◌∙◌}
use mathlib.Core.Bool.{Bool, true, false}
use mathlib.Core.List.{List, [], ◌++◌}
use native.Mathlib.Omega.{arith}
use native.Mathlib.Decide.{dec_lt}
use lib.Dec.{eqb}
use lib.ListN.{length, take}
use Rattle.promise.specs.Told.{Told, refused}
use Rattle.promise.specs.Rules.{pick, too_short}
use Rattle.promise.specs.Does.{Does, does, said, after}
use Rattle.maskrom_transfer.specs.declared.MaskRomSteps.TheVariants.{Writing}
use Rattle.maskrom_transfer.specs.Moves.{block_size}
use Rattle.maskrom.specs.declared.MaskRomOperation.{MaskRomOperation}
use Rattle.maskrom.specs.declared.PartStepped.{PartStepped}
use Rattle.maskrom.specs.Answers.{longest, too_long, closed_already, control, Handed, took, filled, part_told}
use Rattle.maskrom.specs.PartWise.{fresh, waiting, held, closed, holding, takes, part_step}
use Rattle.maskrom.specs.Calls.{PartMeets, PartCalls, no_calls, part_call, close_call, NoneClosed}
use Rattle.maskrom.proofs.Cases.{part_20, part_25, part_takes}
use Rattle.maskrom.proofs.Branches.{clash, part_either}
use Rattle.maskrom.proofs.Shut.{refused_shuts_nothing}

taking_place : (test : Bool) (a b : Handed) (bytes : List ℕ) (n : MaskRomOperation) → (pick test (does a bytes n) (does b [] n)).becomes ≡ n
taking_place true a b bytes n = refl
taking_place false a b bytes n = refl

-- a part, whatever it takes, shuts nothing
pub part_shuts_nothing : (r : PartStepped) (m : MaskRomOperation) (part before now : List ℕ) → PartMeets r m part before now → r.next.steps ≡ m.steps
unfolding after takes
part_shuts_nothing r m part before now meets =
    let ys = take (4096 - waiting m) part in
    ap (λ (n : MaskRomOperation). n.steps) meets.next
    ∙ part_either (λ (t : Told (Does Handed MaskRomOperation)). (after m t).steps ≡ m.steps) m part (length before)
    (λ n values. refl)
    (λ unshut fits.
    ap (λ (n : MaskRomOperation). n.steps)
    (taking_place (eqb (waiting m + length ys) block_size) (filled (length ys) (control m.area block_size)) (took (length ys)) (held m ++ ys) (holding m ys)))

-- calls of which every closing step was refused leave the upload where it stood
pub none_closed : (m : MaskRomOperation) (p : List ℕ) (later : MaskRomOperation) (calls : PartCalls m p later) → NoneClosed m p later calls
    → later.steps ≡ m.steps
unfolding after
none_closed m p later no_calls none = refl
none_closed m p later (part_call q here calls part r before now meets) none =
    part_shuts_nothing r here part before now meets ∙ none_closed m q here calls none
none_closed m p later (close_call q here calls r before now meets) none =
    ap (λ (n : MaskRomOperation). n.steps) (refused_shuts_nothing r here before now meets too_short [] none.1).next ∙ none_closed m q here calls none.0

-- 26 is for a shut image alone ..
module _ (r : PartStepped) (m : MaskRomOperation) (part before now : List ℕ) (meets : PartMeets r m part before now) (writes_on : m.steps ≡ Writing) where
  not_26 : (told : Told Handed) → told ≡ said (part_step m part (length before)) → Dec (length before < 4096) → Dec (longest < m.taken + length part)
      → told ≡ refused closed_already [] → ⊥
  unfolding said closed
  not_26 told e (yes h) d f =
      let other : ◌≡◌ {A = Told Handed} (refused too_short []) (refused closed_already []) = sym (e ∙ ap said (part_20 m part (length before) h)) ∙ f in
      let z : ◌≡◌ {A = ℕ} 20 26 = cc in omega arith
  not_26 told e (no l) (yes h) f =
      let other : ◌≡◌ {A = Told Handed} (refused too_long []) (refused closed_already []) =
      sym (e ∙ ap said (part_25 m part (length before) (omega arith) (ap closed writes_on) h)) ∙ f in
      let z : ◌≡◌ {A = ℕ} 25 26 = cc in omega arith
  not_26 told e (no l) (no h) f =
      clash _ closed_already [] (sym (e ∙ ap said (part_takes m part (length before) (omega arith) (ap closed writes_on) (omega arith))) ∙ f)

  pub open_not_26 : part_told r.step ≡ refused closed_already [] → ⊥
  open_not_26 = not_26 (part_told r.step) meets.tells (dec_lt (length before) 4096) (dec_lt longest (m.taken + length part))

-- .. so that no part of a fresh upload is told it before a closing step is answered
pub not_26_before : (area : ℕ) (p : List ℕ) (later : MaskRomOperation) (calls : PartCalls (fresh area) p later)
    → NoneClosed (fresh area) p later calls → (r : PartStepped) (part before now : List ℕ) → PartMeets r later part before now
    → part_told r.step ≡ refused closed_already [] → ⊥
not_26_before area p later calls none r part before now meets =
    open_not_26 r later part before now meets (none_closed (fresh area) p later calls none)
