-- Laws of `all`: what is given so far, and the first refusal.
use Prim.Native.Nat.{ℕ}
use mathlib.Core.Path.{◌≡◌, refl, ap, ap₂, sym, ◌∙◌}
use mathlib.Core.List.{List, [], ◌∷◌, ◌++◌}
use native.Mathlib.Omega.{arith}
use Rattle.promise.specs.Told.{Told, given, refused, and_then}
use Rattle.protocol_bytes.proofs.Given.{first_given}
use Rattle.loader_walk.specs.Entries.{all}
use Rattle.loader_walk.proofs.Ahead.{given_same}

module _ {A : Type 0} where
  -- each of these, given
  abbrev pub all_given : List A → List (Told A)
  all_given [] = []
  all_given (a ∷ rest) = given a ∷ all_given rest

  pub given_more : (known : List A) (a : A) (ts : List (Told A)) → all_given known ++ (given a ∷ ts) ≡ all_given (known ++ (a ∷ [])) ++ ts
  given_more [] a ts = refl
  given_more (b ∷ known) a ts = ap (λ (l : List (Told A)). given b ∷ l) (given_more known a ts)

  pub all_given_lem : (known : List A) → all (all_given known) ≡ given known
  unfolding all and_then
  all_given_lem [] = refl
  all_given_lem (a ∷ known) = ap (λ (t : Told (List A)). and_then t (λ rest. given (a ∷ rest))) (all_given_lem known)

  pub all_refused : (known : List A) (n : ℕ) (vs : List ℕ) (ts : List (Told A)) → all (all_given known ++ (refused n vs ∷ ts)) ≡ refused n vs
  unfolding all and_then
  all_refused [] n vs ts = refl
  all_refused (a ∷ known) n vs ts = ap (λ (t : Told (List A)). and_then t (λ rest. given (a ∷ rest))) (all_refused known n vs ts)

  -- whose list is given was given, each of them
  pub all_from : (ts : List (Told A)) (known : List A) → all ts ≡ given known → ts ≡ all_given known
  unfolding all
  all_from [] known e = ap all_given (given_same [] known e)
  all_from (t ∷ ts) known e =
      let first = first_given t (λ a. and_then (all ts) (λ rest. given (a ∷ rest))) known e in
      let second = first_given (all ts) (λ rest. given (first.0 ∷ rest)) known first.2 in
      ap₂ (λ (x : Told A) (l : List (Told A)). x ∷ l) first.1 (all_from ts second.0 second.1)
      ∙ ap all_given (given_same (first.0 ∷ second.0) known second.2)

  pub given_lists_same : (known other : List A) → all_given known ≡ all_given other → known ≡ other
  given_lists_same known other e = given_same known other (sym (all_given_lem known) ∙ ap all e ∙ all_given_lem other)

  head_of : Told A → List (Told A) → Told A
  head_of none [] = none
  head_of none (t ∷ ts) = t

  tail_of : List (Told A) → List (Told A)
  tail_of [] = []
  tail_of (t ∷ ts) = ts

  is_empty : List (Told A) → ℕ
  is_empty [] = 0
  is_empty (t ∷ ts) = 1

  pub heads_same : (t u : Told A) (ts us : List (Told A)) → t ∷ ts ≡ u ∷ us → t ≡ u
  unfolding head_of
  heads_same t u ts us e = ap (head_of t) e

  pub tails_same : (t u : Told A) (ts us : List (Told A)) → t ∷ ts ≡ u ∷ us → ts ≡ us
  unfolding tail_of
  tails_same t u ts us e = ap tail_of e

  pub not_empty : {B : Type 0} (t : Told A) (ts : List (Told A)) → t ∷ ts ≡ [] → B
  unfolding is_empty
  not_empty t ts e = let z : ◌≡◌ {A = ℕ} 1 0 = ap is_empty e in absurd (omega arith)

  -- where two lists joined are all given, so is each
  pub record Split (ts us : List (Told A)) (known : List A) : Type 0 where
    pub first : List A
    pub second : List A
    pub left : ts ≡ all_given first
    pub right : us ≡ all_given second
    pub joined : known ≡ first ++ second

  pub split : (ts us : List (Told A)) (known : List A) → ts ++ us ≡ all_given known → Split ts us known
  split [] us known e = record { first = []; second = known; left = refl; right = e; joined = refl }
  split (t ∷ ts) us [] e = not_empty t (ts ++ us) e
  split (t ∷ ts) us (a ∷ known) e =
      let rest = split ts us known (tails_same t (given a) (ts ++ us) (all_given known) e) in
      record {
        first = a ∷ rest.first;
        second = rest.second;
        left = ap₂ (λ (x : Told A) (l : List (Told A)). x ∷ l) (heads_same t (given a) (ts ++ us) (all_given known) e) rest.left;
        right = rest.right;
        joined = ap (λ (l : List A). a ∷ l) rest.joined;
      }
