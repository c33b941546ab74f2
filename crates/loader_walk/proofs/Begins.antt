-- 72 is told "as a nonempty list begins": of a file it is told with entry 0.
use Prim.Native.Nat.{ℕ, zero, suc, ◌+◌, ◌-◌}
use mathlib.Core.Path.{◌≡◌, refl, ap, sym, subst, ◌∙◌}
use mathlib.Core.Bool.{Bool, true, false, not}
use mathlib.Core.List.{List, [], ◌∷◌, ◌++◌, append-nil}
use native.Mathlib.Omega.{arith}
use lib.Dec.{ltb}
use lib.ListN.{length, get_or, take}
use Rattle.promise.specs.Told.{Told, given, refused, number, and_then}
use Rattle.promise.specs.Rules.{or_refuse, pick}
use Rattle.loader_records.specs.declared.list.RkBootHeaderEntry.{RkBootHeaderEntry}
use Rattle.loader_records.specs.declared.header.RkBootHeader.{RkBootHeader}
use Rattle.loader_records.specs.Records.{entry_length, is_tag, header_of}
use Rattle.loader_walk.specs.Entries.{Found, found, start_of, entry_at, lookup, lookups, list_from, rest_of, all, entries_of}

-- the entry that a refusal tells, 0 where there is none
abbrev entry_told : {A : Type 0} → Told A → ℕ
entry_told (given a) = 0
entry_told (refused n values) = get_or values 1 0

-- refused by 72 with entry 0, if by 72 at all
abbrev AtFirst : {A : Type 0} → Told A → Type 0
AtFirst told = number told ≡ 72 → entry_told told ≡ 0

behind_given : (f : Found) (rest : Told (List Found)) → AtFirst rest → AtFirst (and_then rest (λ fs. given (f ∷ fs)))
unfolding and_then number
behind_given f (given fs) first e = refl
behind_given f (refused n values) first e = first e

-- an entry of a list that is wide enough is refused by 73 or 74, or what is behind it decides
behind_wide : (t u : Bool) (values : List ℕ) (f : Found) (rest : Told (List Found)) → AtFirst rest
    → AtFirst (and_then (pick t (refused 73 values) (pick u (refused 74 values) (given f))) (λ a. and_then rest (λ fs. given (a ∷ fs))))
unfolding and_then number
behind_wide true u values f rest first e = absurd (omega arith)
behind_wide false true values f rest first e = absurd (omega arith)
behind_wide false false values f rest first e = behind_given f rest first e

module _ (file : List ℕ) (list : ℕ) (l : RkBootHeaderEntry) (ts : List (Told Found)) (first : AtFirst (all ts)) where
  wide_list : (i n : ℕ) → ltb l.size entry_length ≡ false → AtFirst (all (lookups file list l i n ++ ts))
  unfolding lookups lookup or_refuse all
  wide_list i zero wide = first
  wide_list i (suc n) wide =
      rw wide
      (behind_wide (ltb (length file) (start_of l i + entry_length)) (ltb (length file) ((entry_at file l i).data_offset + (entry_at file l i).data_size))
      (list ∷ i ∷ []) (found list i (entry_at file l i)) (all (lookups file list l (suc i) n ++ ts)) (wide_list (suc i) n wide))

  narrow_list : (n : ℕ) → ltb l.size entry_length ≡ true → AtFirst (all (lookups file list l 0 n ++ ts))
  unfolding lookups lookup or_refuse all and_then number
  narrow_list zero narrow = first
  narrow_list (suc n) narrow = rw narrow (λ e. refl)

  list_by : (n : ℕ) (t : Bool) → ltb l.size entry_length ≡ t → AtFirst (all (lookups file list l 0 n ++ ts))
  list_by n true narrow = narrow_list n narrow
  list_by n false wide = wide_list 0 n wide

  whole_list : AtFirst (all (list_from file list l 0 ++ ts))
  whole_list = list_by (l.count - 0) (ltb l.size entry_length) refl

nothing_left : AtFirst (all {A = Found} [])
unfolding all number
nothing_left e = refl

three_lists : (file : List ℕ) (h : RkBootHeader) → AtFirst (all (rest_of file h 0 0))
unfolding rest_of
three_lists file h =
    whole_list file 0 h.entry_471 (list_from file 1 h.entry_472 0 ++ list_from file 2 h.entry_loader 0)
    (whole_list file 1 h.entry_472 (list_from file 2 h.entry_loader 0)
    (subst (λ (ts : List (Told Found)). AtFirst (all ts)) (append-nil (list_from file 2 h.entry_loader 0))
    (whole_list file 2 h.entry_loader [] nothing_left)))

-- the header is refused by 70 or 71, or the lists decide
with_header : (t u : Bool) (vs ws : List ℕ) (h : RkBootHeader) (f : RkBootHeader → Told (List Found)) → ((x : RkBootHeader) → AtFirst (f x))
    → AtFirst (and_then (pick t (refused 70 vs) (pick u (refused 71 ws) (given h))) f)
unfolding and_then number
with_header true u vs ws h f lists e = absurd (omega arith)
with_header false true vs ws h f lists e = absurd (omega arith)
with_header false false vs ws h f lists e = lists h e

pub first_of_its_list : (file : List ℕ) (list i : ℕ) → entries_of file ≡ refused 72 (list ∷ i ∷ []) → i ≡ 0
unfolding entries_of or_refuse number
first_of_its_list file list i e =
    let told : AtFirst (entries_of file) =
    with_header (ltb (length file) 102) (not (is_tag (take 4 file))) (length file ∷ []) (take 4 file) (header_of (take 102 file)) (λ h. all (rest_of file h 0 0)) (three_lists file) in
    sym (ap entry_told e) ∙ told (ap number e)
