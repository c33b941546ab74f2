-- Where every entry is given, each list has as many as the header says.
use Prim.Native.Nat.{ℕ, zero, suc, ◌+◌, ◌-◌}
use mathlib.Core.Path.{◌≡◌, refl, ap, ap₂, sym, ◌∙◌}
use mathlib.Core.Bool.{Bool, true, false}
use mathlib.Core.List.{List, [], ◌∷◌, ◌++◌}
use native.Mathlib.Omega.{arith}
use lib.Dec.{eqb}
use Rattle.promise.specs.Told.{given}
use Rattle.promise.specs.Rules.{pick}
use Rattle.loader_records.specs.declared.list.RkBootHeaderEntry.{RkBootHeaderEntry}
use Rattle.loader_records.specs.declared.header.RkBootHeader.{RkBootHeader}
use Rattle.loader_walk.specs.Entries.{Found, lookup, lookups, list_from, rest_of}
use Rattle.loader_walk.specs.Walking.{count_in, counts_of}
use Rattle.loader_walk.specs.Code.{header_counts}
use Rattle.loader_walk.proofs.Ahead.{looked_up}
use Rattle.loader_walk.proofs.All.{all_given, heads_same, tails_same, not_empty, split}

abbrev one_if : Bool → ℕ
one_if t = pick t 1 0

one_more : (t : Bool) (n : ℕ) → pick t 1 0 + pick t n 0 ≡ pick t (suc n) 0
one_more true n = omega arith
one_more false n = omega arith

none : (t : Bool) → ◌≡◌ {A = ℕ} 0 (pick t 0 0)
none true = refl
none false = refl

count_joined : (list : ℕ) (fs gs : List Found) → count_in list (fs ++ gs) ≡ count_in list fs + count_in list gs
unfolding count_in
count_joined list [] gs = omega arith
count_joined list (f ∷ fs) gs = omega (arith, count_joined list fs gs)

-- n entries of one list
count_list : (file : List ℕ) (list : ℕ) (l : RkBootHeaderEntry) (which i n : ℕ) (fs : List Found) → lookups file list l i n ≡ all_given fs
    → count_in which fs ≡ pick (eqb list which) n 0
unfolding lookups count_in
count_list file list l which i zero [] e = none (eqb list which)
count_list file list l which i zero (f ∷ fs) e = not_empty (given f) (all_given fs) (sym e)
count_list file list l which i (suc n) [] e = not_empty (lookup file list l i) (lookups file list l (suc i) n) e
count_list file list l which i (suc n) (f ∷ fs) e =
    let fits = looked_up file list l i f (heads_same (lookup file list l i) (given f) (lookups file list l (suc i) n) (all_given fs) e) in
    let here : one_if (eqb f.at.list which) ≡ one_if (eqb list which) = sym (ap (λ (g : Found). one_if (eqb g.at.list which)) fits.is) in
    ap₂ ◌+◌ here (count_list file list l which (suc i) n fs (tails_same (lookup file list l i) (given f) (lookups file list l (suc i) n) (all_given fs) e))
    ∙ one_more (eqb list which) n

module _ (file : List ℕ) (h : RkBootHeader) (fs : List Found) (e : rest_of file h 0 0 ≡ all_given fs) where
  count_which : (which : ℕ) → count_in which fs
      ≡ pick (eqb 0 which) (h.entry_471.count - 0) 0
      + (pick (eqb 1 which) (h.entry_472.count - 0) 0 + pick (eqb 2 which) (h.entry_loader.count - 0) 0)
  unfolding rest_of
  count_which which =
      let one = split (list_from file 0 h.entry_471 0) (list_from file 1 h.entry_472 0 ++ list_from file 2 h.entry_loader 0) fs e in
      let two = split (list_from file 1 h.entry_472 0) (list_from file 2 h.entry_loader 0) one.second one.right in
      ap (count_in which) (one.joined ∙ ap (λ (l : List Found). one.first ++ l) two.joined)
      ∙ count_joined which one.first (two.first ++ two.second)
      ∙ ap₂ ◌+◌ (count_list file 0 h.entry_471 which 0 (h.entry_471.count - 0) one.first one.left)
      (count_joined which two.first two.second
      ∙ ap₂ ◌+◌ (count_list file 1 h.entry_472 which 0 (h.entry_472.count - 0) two.first two.left)
      (count_list file 2 h.entry_loader which 0 (h.entry_loader.count - 0) two.second two.right))

  pub counts_right : counts_of fs ≡ header_counts h
  counts_right =
      let zero-th : count_in 0 fs ≡ h.entry_471.count = omega (arith, count_which 0) in
      let first : count_in 1 fs ≡ h.entry_472.count = omega (arith, count_which 1) in
      let second : count_in 2 fs ≡ h.entry_loader.count = omega (arith, count_which 2) in
      rw (zero-th, first, second) refl
