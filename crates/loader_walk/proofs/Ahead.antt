-- What a walk meets: nothing, or the entry that stands there, and then what is behind that entry.
use Prim.Native.Nat.{ℕ, zero, suc, ◌+◌, ◌<◌}
use mathlib.Core.Path.{◌≡◌, refl, ap, ap₂, sym, subst, ◌∙◌}
use mathlib.Core.Bool.{Bool, true, false}
use mathlib.Core.List.{List, [], ◌∷◌}
use native.Mathlib.Omega.{arith}
use borrow.Author.Tests.{ltb-true, ltb-false}
use lib.Dec.{ltb}
use lib.ListN.{length}
use Rattle.promise.specs.Told.{Told, given, refused}
use Rattle.promise.specs.Rules.{rule, or_refuse}
use Rattle.protocol_bytes.proofs.Given.{rule_met, first_given}
use Rattle.loader_records.specs.declared.list.RkBootHeaderEntry.{RkBootHeaderEntry}
use Rattle.loader_records.specs.declared.header.RkBootHeader.{RkBootHeader}
use Rattle.loader_records.specs.Records.{entry_length}
use Rattle.loader_walk.specs.Entries.{Found, found, lookup, rest_of, start_of, entry_at, list_at}
use Rattle.loader_walk.specs.Walking.{Next, entry, no_more, first_of}
use Rattle.loader_walk.proofs.Rests.{rest_here, rest_on, rest_end}

module _ {A : Type 0} where
  abbrev found_in : A → Told A → A
  found_in none (given a) = a
  found_in none (refused n vs) = none

  pub given_same : (a b : A) → given a ≡ given b → a ≡ b
  given_same a b e = ap (found_in a) e

abbrev found_of : Found → Next → Found
found_of none (entry f) = f
found_of none no_more = none

entry_same : (f g : Found) → entry f ≡ entry g → f ≡ g
entry_same f g e = ap (found_of f) e

abbrev is_entry : Told Next → ℕ
is_entry (given (entry f)) = 1
is_entry (given no_more) = 0
is_entry (refused n vs) = 0

no_entry_lem : {A : Type 0} (f : Found) → first_of [] ≡ given (entry f) → A
unfolding first_of
no_entry_lem f e = let z : ◌≡◌ {A = ℕ} 0 1 = ap is_entry e in absurd (omega arith)

-- the rules that an entry met which is given
pub record Fitting (file : List ℕ) (list : ℕ) (l : RkBootHeaderEntry) (i : ℕ) (f : Found) : Type 0 where
  pub wide : ltb l.size entry_length ≡ false
  pub inside : ltb (length file) (start_of l i + entry_length) ≡ false
  pub held : ltb (length file) ((entry_at file l i).data_offset + (entry_at file l i).data_size) ≡ false
  pub is : found list i (entry_at file l i) ≡ f

pub looked_up : (file : List ℕ) (list : ℕ) (l : RkBootHeaderEntry) (i : ℕ) (f : Found) → lookup file list l i ≡ given f → Fitting file list l i f
unfolding lookup or_refuse
looked_up file list l i f e =
    let values = list ∷ i ∷ [] in
    let held = rule (ltb (length file) ((entry_at file l i).data_offset + (entry_at file l i).data_size)) 74 values in
    let inside = rule (ltb (length file) (start_of l i + entry_length)) 73 values in
    let one = rule_met (rule (ltb l.size entry_length) 72 values) (inside ∷ held ∷ []) (given (found list i (entry_at file l i))) f e in
    let two = rule_met inside (held ∷ []) (given (found list i (entry_at file l i))) f one.1 in
    let three = rule_met held [] (given (found list i (entry_at file l i))) f two.1 in
    record { wide = one.0; inside = two.0; held = three.0; is = given_same (found list i (entry_at file l i)) f three.1 }

module _ (file : List ℕ) (h : RkBootHeader) where
  pub data Ahead (ts : List (Told Found)) : Type 0 where
    nothing : ts ≡ [] → Ahead ts
    one : (list i : ℕ) → list < 3 → i < (list_at h list).count → ts ≡ lookup file list (list_at h list) i ∷ rest_of file h list (suc i) → Ahead ts

  ahead_by : (list i : ℕ) (t : Bool) → ltb i (list_at h list).count ≡ t → list < 3 → Ahead (rest_of file h (suc list) 0) → Ahead (rest_of file h list i)
  ahead_by list i true e below next =
      let inside = ltb-true i (list_at h list).count e in one list i below inside (rest_here file h list i below inside)
  ahead_by list i false e below next = subst Ahead (sym (rest_on file h list i below (ltb-false i (list_at h list).count e))) next

  ahead_in : (list i : ℕ) → list < 3 → Ahead (rest_of file h (suc list) 0) → Ahead (rest_of file h list i)
  ahead_in list i below next = ahead_by list i (ltb i (list_at h list).count) refl below next

  pub ahead : (list i : ℕ) → Ahead (rest_of file h list i)
  ahead zero i = ahead_in 0 i (omega arith) (ahead_in 1 0 (omega arith) (ahead_in 2 0 (omega arith) (nothing (rest_end file h 3 0 (omega arith)))))
  ahead (suc zero) i = ahead_in 1 i (omega arith) (ahead_in 2 0 (omega arith) (nothing (rest_end file h 3 0 (omega arith))))
  ahead (suc (suc zero)) i = ahead_in 2 i (omega arith) (nothing (rest_end file h 3 0 (omega arith)))
  ahead (suc (suc (suc list))) i = nothing (rest_end file h (suc (suc (suc list))) i (omega arith))

  -- the entry that is told is the first of what is left, and the rest is what is left behind it
  taken : (list i : ℕ) (f : Found) → lookup file list (list_at h list) i ≡ given f
      → lookup file list (list_at h list) i ∷ rest_of file h list (suc i) ≡ given f ∷ rest_of file h f.at.list (f.at.entry + 1)
  taken list i f e =
      let fitting = looked_up file list (list_at h list) i f e in
      let next : suc i ≡ i + 1 = omega arith in
      ap₂ (λ (t : Told Found) (ts : List (Told Found)). t ∷ ts) e
      (ap₂ (rest_of file h) (ap (λ (g : Found). g.at.list) fitting.is) (next ∙ ap (λ (g : Found). g.at.entry + 1) fitting.is))

  told_first : (t : Told Found) (ts : List (Told Found)) (f : Found) → first_of (t ∷ ts) ≡ given (entry f) → t ≡ given f
  unfolding first_of
  told_first t ts f e =
      let told = first_given t (λ g. given (entry g)) (entry f) e in
      told.1 ∙ ap given (entry_same told.0 f (given_same (entry told.0) (entry f) told.2))

  takes_from : (ts : List (Told Found)) (f : Found) → Ahead ts → first_of ts ≡ given (entry f) → ts ≡ given f ∷ rest_of file h f.at.list (f.at.entry + 1)
  unfolding first_of
  takes_from ts f (nothing none) e = no_entry_lem f (sym (ap first_of none) ∙ e)
  takes_from ts f (one list i below inside is) e =
      is ∙ taken list i f (told_first (lookup file list (list_at h list) i) (rest_of file h list (suc i)) f (sym (ap first_of is) ∙ e))

  pub takes : (list i : ℕ) (f : Found) → first_of (rest_of file h list i) ≡ given (entry f)
      → rest_of file h list i ≡ given f ∷ rest_of file h f.at.list (f.at.entry + 1)
  takes list i f e = takes_from (rest_of file h list i) f (ahead list i) e

  -- where the entry stands that is told
  pub record Looked (f : Found) : Type 0 where
    pub list : ℕ
    pub number : ℕ
    pub below : list < 3
    pub inside : number < (list_at h list).count
    pub fits : Fitting file list (list_at h list) number f

  looked_from : (ts : List (Told Found)) (f : Found) → Ahead ts → first_of ts ≡ given (entry f) → Looked f
  looked_from ts f (nothing none) e = no_entry_lem f (sym (ap first_of none) ∙ e)
  looked_from ts f (one list i below inside is) e =
      let told = told_first (lookup file list (list_at h list) i) (rest_of file h list (suc i)) f (sym (ap first_of is) ∙ e) in
      record { list = list; number = i; below = below; inside = inside; fits = looked_up file list (list_at h list) i f told }

  pub looked : (list i : ℕ) (f : Found) → first_of (rest_of file h list i) ≡ given (entry f) → Looked f
  looked list i f e = looked_from (rest_of file h list i) f (ahead list i) e
