-- What is left from an entry of a list on: that entry and then the rest, or what the next list begins with, or nothing.
use Prim.Native.Nat.{ℕ, zero, suc, ◌-◌, ◌≤◌, ◌<◌}
use mathlib.Core.Path.{◌≡◌, refl, ap}
use mathlib.Core.List.{List, [], ◌∷◌, ◌++◌}
use native.Mathlib.Omega.{arith}
use Rattle.promise.specs.Told.{Told}
use Rattle.loader_records.specs.declared.list.RkBootHeaderEntry.{RkBootHeaderEntry}
use Rattle.loader_records.specs.declared.header.RkBootHeader.{RkBootHeader}
use Rattle.loader_walk.specs.Entries.{Found, lookup, lookups, list_from, rest_of, list_at}

from_here : (file : List ℕ) (list i : ℕ) (l : RkBootHeaderEntry) → i < l.count → list_from file list l i ≡ lookup file list l i ∷ list_from file list l (suc i)
unfolding lookups
from_here file list i l inside = let e : l.count - i ≡ suc (l.count - suc i) = omega arith in ap (lookups file list l i) e

-- "A list with count 0 is empty and nothing else of it is looked at", at i = 0; and nothing is left of a list behind its last entry
pub from_none : (file : List ℕ) (list i : ℕ) (l : RkBootHeaderEntry) → l.count ≤ i → list_from file list l i ≡ []
unfolding lookups
from_none file list i l past = let e : l.count - i ≡ 0 = omega arith in ap (lookups file list l i) e

module _ (file : List ℕ) (h : RkBootHeader) where
  pub rest_here : (list i : ℕ) → list < 3 → i < (list_at h list).count
      → rest_of file h list i ≡ lookup file list (list_at h list) i ∷ rest_of file h list (suc i)
  unfolding rest_of list_at
  rest_here zero i below inside =
      ap (λ (l : List (Told Found)). l ++ (list_from file 1 h.entry_472 0 ++ list_from file 2 h.entry_loader 0)) (from_here file 0 i h.entry_471 inside)
  rest_here (suc zero) i below inside = ap (λ (l : List (Told Found)). l ++ list_from file 2 h.entry_loader 0) (from_here file 1 i h.entry_472 inside)
  rest_here (suc (suc zero)) i below inside = from_here file 2 i h.entry_loader inside
  rest_here (suc (suc (suc list))) i below inside = absurd (omega arith)

  pub rest_on : (list i : ℕ) → list < 3 → (list_at h list).count ≤ i → rest_of file h list i ≡ rest_of file h (suc list) 0
  unfolding rest_of list_at
  rest_on zero i below past =
      ap (λ (l : List (Told Found)). l ++ (list_from file 1 h.entry_472 0 ++ list_from file 2 h.entry_loader 0)) (from_none file 0 i h.entry_471 past)
  rest_on (suc zero) i below past = ap (λ (l : List (Told Found)). l ++ list_from file 2 h.entry_loader 0) (from_none file 1 i h.entry_472 past)
  rest_on (suc (suc zero)) i below past = from_none file 2 i h.entry_loader past
  rest_on (suc (suc (suc list))) i below past = absurd (omega arith)

  pub rest_end : (list i : ℕ) → 3 ≤ list → rest_of file h list i ≡ []
  unfolding rest_of
  rest_end zero i past = absurd (omega arith)
  rest_end (suc zero) i past = absurd (omega arith)
  rest_end (suc (suc zero)) i past = absurd (omega arith)
  rest_end (suc (suc (suc list))) i past = refl
