-- What a step finds is in the file, and `data_of` gives all of it; a walk finds 765 entries at most.
use Prim.Native.Nat.{ℕ, zero, suc, ◌+◌, ◌-◌, ◌≤◌, ◌<◌}
use mathlib.Core.Path.{◌≡◌, refl, ap, sym, subst, ◌∙◌}
use mathlib.Core.List.{List, [], ◌∷◌, ◌++◌}
use native.Mathlib.Omega.{arith}
use borrow.Author.Tests.{ltb-false, le-ltb}
use lib.ListN.{length, drop, take, length-take, length-drop, length-append}
use lib.Seq.{get_or-take, get_or-drop}
use Rattle.promise.specs.Told.{given}
use Rattle.promise.specs.Rules.{or_refuse}
use Rattle.promise.specs.Bytes.{AreBytes, field}
use Rattle.protocol_bytes.proofs.Given.{rule_met, first_given}
use Rattle.loader_records.specs.declared.list.RkBootHeaderEntry.{RkBootHeaderEntry}
use Rattle.loader_records.specs.declared.header.RkBootHeader.{RkBootHeader}
use Rattle.loader_records.specs.Records.{entry_length, read_header, header_of, list_of, short_rule, tag_rule}
use Rattle.loader_walk.specs.declared.walk.Walk.{Walk}
use Rattle.loader_walk.specs.Entries.{Found, lookups, list_from, rest_of, all, entries_of, start_of, entry_at, data_of, list_at}
use Rattle.loader_walk.specs.Walking.{entry}
use Rattle.loader_walk.specs.Calls.{Finds, Walked, Held, Stands}
use Rattle.loader_walk.proofs.Ahead.{looked, given_same}
use Rattle.loader_walk.proofs.All.{all_given, all_from}
use Rattle.loader_walk.proofs.AnyCaller.{found_told, told_by_lem, read_so, walked_rest}

-- what a step found stands in the file where it says, and the file has all of its data
pub found_stands : (file : List ℕ) (w next : Walk) (f : Found) → Finds file w f next → Stands file f
found_stands file w next f finds =
    let told = found_told file w next f finds in
    let read = read_so file w (entry f) told in
    let at = looked file read.0 w.list w.entry f (sym (told_by_lem file read.0 read.1 w) ∙ told) in
    let l = list_at read.0 at.list in
    let e = entry_at file l at.number in
    let held : e.data_offset + e.data_size ≤ length file = ltb-false (length file) (e.data_offset + e.data_size) at.fits.held in
    subst (Stands file) at.fits.is
    (record {
      header = read.0;
      read = read.1;
      list = at.below;
      number = at.inside;
      wide = ltb-false l.size entry_length at.fits.wide;
      inside = ltb-false (length file) (start_of l at.number + entry_length) at.fits.inside;
      is = refl;
      held = held;
    })

-- and so `data_of` gives as many bytes as the entry says, those that stand there
pub held_data : (file : List ℕ) (f : Found) → Held file f
    → (data_of file f.at.place f.at.length ≡ field f.at.place f.at.length file) × (length (data_of file f.at.place f.at.length) ≡ f.at.length)
unfolding data_of
held_data file f held =
    let there : data_of file f.at.place f.at.length ≡ field f.at.place f.at.length file =
    rw (le-ltb (length file) (f.at.place + f.at.length) held) refl in
    (there, ap length there ∙ simp (length-take, length-drop) (omega arith))

lookups_long : (file : List ℕ) (list : ℕ) (l : RkBootHeaderEntry) (i n : ℕ) → length (lookups file list l i n) ≡ n
unfolding lookups
lookups_long file list l i zero = refl
lookups_long file list l i (suc n) = ap suc (lookups_long file list l (suc i) n)

-- what is left from any place on
rest_long : (file : List ℕ) (h : RkBootHeader) (list i : ℕ)
    → length (rest_of file h list i) ≤ h.entry_471.count + (h.entry_472.count + h.entry_loader.count)
unfolding rest_of
rest_long file h zero i =
    let first = list_from file 0 h.entry_471 i in
    let second = list_from file 1 h.entry_472 0 in
    let third = list_from file 2 h.entry_loader 0 in
    omega (
      arith,
      length-append first (second ++ third),
      length-append second third,
      lookups_long file 0 h.entry_471 i (h.entry_471.count - i),
      lookups_long file 1 h.entry_472 0 (h.entry_472.count - 0),
      lookups_long file 2 h.entry_loader 0 (h.entry_loader.count - 0),
    )
rest_long file h (suc zero) i =
    let second = list_from file 1 h.entry_472 i in
    let third = list_from file 2 h.entry_loader 0 in
    omega (
      arith,
      length-append second third,
      lookups_long file 1 h.entry_472 i (h.entry_472.count - i),
      lookups_long file 2 h.entry_loader 0 (h.entry_loader.count - 0),
    )
rest_long file h (suc (suc zero)) i = omega (arith, lookups_long file 2 h.entry_loader i (h.entry_loader.count - i))
rest_long file h (suc (suc (suc list))) i = omega arith

-- a list's count is one byte
count_small : (file : List ℕ) (at : ℕ) → AreBytes file → at + 6 ≤ 102 → (list_of (field at 6 (take 102 file))).count < 256
unfolding list_of
count_small file at are inside =
    rw (get_or-take 6 (drop at (take 102 file)) 0 0 (omega arith), get_or-drop at (take 102 file) 0 0, get_or-take 102 file (at + 0) 0 (omega arith)) (are (at + 0))

header_is : (file : List ℕ) (h : RkBootHeader) → read_header file ≡ given h → header_of (take 102 file) ≡ h
unfolding or_refuse
header_is file h e =
    let one = rule_met (short_rule 102 file) (tag_rule file ∷ []) (given (header_of (take 102 file))) h e in
    let two = rule_met (tag_rule file) [] (given (header_of (take 102 file))) h one.1 in
    given_same (header_of (take 102 file)) h two.1

rest_small : (file : List ℕ) (h : RkBootHeader) (list i : ℕ) → AreBytes file → header_of (take 102 file) ≡ h → length (rest_of file h list i) ≤ 765
unfolding header_of
rest_small file h list i are is =
    let counts : length (rest_of file (header_of (take 102 file)) list i) ≤ 765 =
    omega (
      arith,
      rest_long file (header_of (take 102 file)) list i,
      count_small file 25 are (omega arith),
      count_small file 31 are (omega arith),
      count_small file 37 are (omega arith),
    ) in
    subst (λ (x : RkBootHeader). length (rest_of file x list i) ≤ 765) is counts

given_long : (fs : List Found) → length (all_given fs) ≡ length fs
given_long [] = refl
given_long (f ∷ fs) = ap suc (given_long fs)

-- "765 entries at most": of a file
pub entries_at_most_765 : (file : List ℕ) (gs : List Found) → AreBytes file → entries_of file ≡ given gs → length gs ≤ 765
unfolding entries_of
entries_at_most_765 file gs are e =
    let first = first_given (read_header file) (λ h. all (rest_of file h 0 0)) gs e in
    let small = rest_small file first.0 0 0 are (header_is file first.0 first.1) in
    omega (arith, small, ap length (all_from (rest_of file first.0 0 0) gs first.2), given_long gs)

-- and of a walk, wherever it begins
pub at_most_765 : (file : List ℕ) (fs : List Found) (w end : Walk) → AreBytes file → Walked file w fs end → length fs ≤ 765
at_most_765 file [] w end are walked = omega arith
at_most_765 file (f ∷ fs) w end are walked =
    let read = read_so file w (entry f) (found_told file w walked.0 f walked.1) in
    let rest = rest_of file read.0 end.list end.entry in
    let small = rest_small file read.0 w.list w.entry are (header_is file read.0 read.1) in
    let e = ap length (walked_rest file read.0 read.1 (f ∷ fs) w end walked) in
    omega (arith, small, e, length-append (all_given (f ∷ fs)) rest, given_long (f ∷ fs))
