-- What holds of every refusal and of the outcome holds of both together; and what is told is what the rules tell.
use Prim.Native.Nat.{ℕ}
use mathlib.Core.Path.{◌≡◌, refl, sym, ◌∙◌}
use native.Mathlib.Omega.{arith}
use mathlib.Core.Bool.{Bool, true, false}
use mathlib.Core.List.{List, [], ◌∷◌, ◌++◌}
use Rattle.promise.specs.Told.{Told, given, refused}
use Rattle.promise.specs.Rules.{Rule, pick, unless, or_refuse}

-- no rule of the list is broken
abbrev pub Met : List Rule → Type 0
Met [] = Unit
Met (r ∷ rules) = (r.broken ≡ false) × Met rules

pub by_test : {A : Type 0} (P : A → Type 0) (test : Bool) {a b : A} → (test ≡ true → P a) → (test ≡ false → P b) → P (pick test a b)
by_test P true f g = f refl
by_test P false f g = g refl

-- by whether a test is passed
pub on_test : {C : Type 0} (test : Bool) → (test ≡ true → C) → (test ≡ false → C) → C
on_test true f g = f refl
on_test false f g = g refl

-- of the outcome it is only asked where every rule is met
pub either_way : {A : Type 0} (P : A → Type 0) (refuse : ℕ → List ℕ → A) (rules : List Rule) (done : A)
    → ((n : ℕ) (values : List ℕ) → P (refuse n values)) → (Met rules → P done) → P (or_refuse refuse rules done)
unfolding or_refuse
either_way P refuse [] done f g = g tt
either_way P refuse (r ∷ rules) done f g =
    by_test P r.broken (λ e. f r.number r.values) (λ e. either_way P refuse rules done f (λ met. g (e, met)))

pub tells_as : {A B : Type 0} (told : A → Told B) (refuse : ℕ → List ℕ → A)
    → ((n : ℕ) (values : List ℕ) → told (refuse n values) ≡ refused n values)
    → (rules : List Rule) (done : A) → told (or_refuse refuse rules done) ≡ unless rules (told done)
unfolding or_refuse
tells_as told refuse h [] done = refl
tells_as told refuse h (r ∷ rules) done =
    by_test (λ t. told t ≡ pick r.broken (refused r.number r.values) (unless rules (told done))) r.broken
    (λ e. rw e (h r.number r.values))
    (λ e. rw e (tells_as told refuse h rules done))

-- what is given behind rules met them all
pub passed : {A B : Type 0} (told : A → Told B) (refuse : ℕ → List ℕ → A)
    → ((n : ℕ) (values : List ℕ) → told (refuse n values) ≡ refused n values)
    → (rules : List Rule) (done : A) (b : B) → told (or_refuse refuse rules done) ≡ given b → Met rules × (or_refuse refuse rules done ≡ done)
unfolding or_refuse
passed told refuse h [] done b e = (tt, refl)
passed told refuse h (r ∷ rules) done b e =
    on_test r.broken
    (λ t. let z : told (refuse r.number r.values) ≡ given b = rw t at e in
    let clash : refused r.number r.values ≡ given b = sym (h r.number r.values) ∙ z in
    let n : ◌≡◌ {A = ℕ} 0 1 = cc in absurd (omega arith))
    (λ t. let rest = passed told refuse h rules done b (rw t at e) in ((t, rest.0), rw t rest.1))

-- rules that are the first of more: a refusal by them is the refusal of all, and where they are met the rest decides
pub unmet_first : {A B : Type 0} (refuse : ℕ → List ℕ → B) (rules more : List Rule) (value : A) (done : B) (n : ℕ) (values : List ℕ)
    → unless rules (given value) ≡ refused n values → or_refuse refuse (rules ++ more) done ≡ refuse n values
unfolding or_refuse
unmet_first {A} refuse [] more value done n values e = absurd (let z : ◌≡◌ {A = ℕ} 0 1 = cc in omega arith)
unmet_first {A} refuse (r ∷ rules) more value done n values e =
    on_test r.broken
    (λ t.
    let told : ◌≡◌ {A = Told A} (refused r.number r.values) (refused n values) = rw t at e in
    let m : r.number ≡ n = cc in
    let w : r.values ≡ values = cc in
    rw (t, m, w))
    (λ f. let told : unless rules (given value) ≡ refused n values = rw f at e in rw f (unmet_first refuse rules more value done n values told))

pub met_first : {A B : Type 0} (refuse : ℕ → List ℕ → B) (rules more : List Rule) (value other : A) (done : B)
    → unless rules (given value) ≡ given other → or_refuse refuse (rules ++ more) done ≡ or_refuse refuse more done
unfolding or_refuse
met_first refuse [] more value other done e = refl
met_first {A} refuse (r ∷ rules) more value other done e =
    on_test r.broken
    (λ t. let told : ◌≡◌ {A = Told A} (refused r.number r.values) (given other) = rw t at e in absurd (let z : ◌≡◌ {A = ℕ} 0 1 = cc in omega arith))
    (λ f. let told : unless rules (given value) ≡ given other = rw f at e in rw f (met_first refuse rules more value other done told))
