-- Programs that the contracts rule out: no proof at all can exist for them.
use Prim.Native.Nat.{ℕ, ◌+◌, ◌*◌}
use mathlib.Core.Path.{◌≡◌, ap, sym, ◌∙◌}
use mathlib.Core.List.{List, [], ◌∷◌}
use native.Mathlib.Omega.{arith}
use lib.ListN.{get_or, length, take}
use Rattle.promise.specs.Told.{Told, given, refused, and_then, number}
use Rattle.promise.specs.Rules.{or_refuse}
use Rattle.promise.specs.Bytes.{from_low, field}
use Rattle.protocol_bytes.specs.Signature.{same}
use Rattle.loader_records.specs.declared.answer.RkBootError.{RkBootError}
use Rattle.loader_records.specs.declared.answer.RkBootError.TheVariants.{UnknownTag, SizeBelowEntry, EntryPastEnd, DataPastEnd}
use Rattle.loader_records.specs.declared.list.RkBootHeaderEntry.{RkBootHeaderEntry}
use Rattle.loader_records.specs.declared.entry.RkBootEntry.{RkBootEntry}
use Rattle.loader_records.specs.declared.header.RkBootHeader.{RkBootHeader}
use Rattle.loader_records.specs.Records.{time_of, list_of, units_from, entry_of, header_of, is_tag}
use Rattle.loader_walk.specs.declared.walk.Walk.{Walk}
use Rattle.loader_walk.specs.declared.walk.EntryPlace.{EntryPlace}
use Rattle.loader_walk.specs.declared.walk.WalkStep.{WalkStep}
use Rattle.loader_walk.specs.declared.whole.EntryCounts.{EntryCounts}
use Rattle.loader_walk.specs.declared.whole.Examined.{Examined}
use Rattle.loader_walk.specs.Entries.{list_at, start_of, lookup, lookups, rest_of, all, entries_of, data_of}
use Rattle.loader_walk.proofs.Files.{list_bytes, empty, file_of, entry_bytes, small, apart, third, brim}
use Rattle.loader_walk.specs.Walking.{new_walk, next_of, first_of, walk_after, walk_told, walk_number, entry_in, WalkMeets, count_in, examined, examine_told, examine_number, ExamineMeets}
use Rattle.std.specs.Prelude.{Option, Result}
use Rattle.std.specs.declared.result.Result.TheVariants.{Ok, Err}
use Rattle.std.specs.declared.option.Option.TheVariants.{Some, None}

abbrev is_refused : {A : Type 0} → Told A → ℕ
is_refused (given a) = 0
is_refused (refused n values) = 1

abbrev in_first : Told EntryCounts → ℕ
in_first (given counts) = counts.entry_471
in_first (refused n values) = 0

-- `step` with entry i at the list's offset plus i times 57
pub entries_57_apart : (r : WalkStep) → r.entry ≡ entry_of (field (102 + 1 * 57) 57 apart)
    → WalkMeets r (record { list = 0; entry = 1 }) (next_of (record { list = 0; entry = 1 }) apart) → ⊥
unfolding next_of and_then or_refuse is_tag same header_of time_of list_of from_low first_of rest_of lookups lookup entry_of units_from entry_in
entries_57_apart r e met = let differ : ◌≡◌ {A = ℕ} 9 57 = ap (λ (x : RkBootEntry). x.size) (sym e ∙ met.says) in omega arith

-- `step` that tells 72 for an empty list
pub empty_list_looked_at : (r : WalkStep) → r.answer ≡ Err (SizeBelowEntry 0 0) → WalkMeets r new_walk (next_of new_walk (file_of empty empty empty [])) → ⊥
unfolding next_of and_then or_refuse is_tag same header_of time_of list_of from_low first_of rest_of lookups walk_told number
empty_list_looked_at r e met =
    let differ : ◌≡◌ {A = ℕ} 72 0 = ap number (sym (ap (λ (a : Result (Option EntryPlace) RkBootError). walk_told a r.entry r.unknown_tag) e) ∙ met.tells) in omega arith

-- `step` that tells 74 where 73 comes first: all but the last byte of an entry are there, and its data is not
pub data_before_entry : (r : WalkStep) → r.answer ≡ Err (DataPastEnd 0 0)
    → WalkMeets r new_walk (next_of new_walk (file_of (list_bytes 1 102 57) empty empty (take 56 (entry_bytes (small 255) (small 255))))) → ⊥
unfolding next_of and_then or_refuse is_tag same header_of time_of list_of from_low first_of rest_of lookups lookup entry_of units_from walk_told number
data_before_entry r e met =
    let differ : ◌≡◌ {A = ℕ} 74 73 = ap number (sym (ap (λ (a : Result (Option EntryPlace) RkBootError). walk_told a r.entry r.unknown_tag) e) ∙ met.tells) in omega arith

-- `step` whose sum of place and length wraps in 32 bits: 4,294,967,295 and 2 make 1
pub data_end_wraps : (r : WalkStep) (at : EntryPlace) → r.answer ≡ Ok (Some at)
    → WalkMeets r new_walk (next_of new_walk (file_of (list_bytes 1 102 57) empty empty (entry_bytes (255 ∷ 255 ∷ 255 ∷ 255 ∷ []) (small 2)))) → ⊥
unfolding next_of and_then or_refuse is_tag same header_of time_of list_of from_low first_of rest_of lookups lookup entry_of units_from walk_told number
data_end_wraps r at e met =
    let differ : ◌≡◌ {A = ℕ} 0 74 = ap number (sym (ap (λ (a : Result (Option EntryPlace) RkBootError). walk_told a r.entry r.unknown_tag) e) ∙ met.tells) in omega arith

-- `step` whose place of an entry wraps in 32 bits: the offset is 4,294,967,239, and 57 more is 0, where the header's first bytes are taken for an
-- entry
pub entry_start_wraps : (r : WalkStep) (at : EntryPlace) → r.answer ≡ Ok (Some at)
    → WalkMeets r (record { list = 0; entry = 1 }) (next_of (record { list = 0; entry = 1 }) (file_of (2 ∷ 199 ∷ 255 ∷ 255 ∷ 255 ∷ 57 ∷ []) empty empty [])) → ⊥
unfolding next_of and_then or_refuse is_tag same header_of time_of list_of from_low first_of rest_of lookups lookup entry_of units_from walk_told number
entry_start_wraps r at e met =
    let differ : ◌≡◌ {A = ℕ} 0 73 = ap number (sym (ap (λ (a : Result (Option EntryPlace) RkBootError). walk_told a r.entry r.unknown_tag) e) ∙ met.tells) in omega arith

-- `step` that refuses an entry which ends with the file: 72 for a size field of 57, 73 at the last byte, or 74 for data of no length at the file's
-- end
pub brim_refused : (r : WalkStep) (error : RkBootError) → r.answer ≡ Err error → WalkMeets r new_walk (next_of new_walk brim) → ⊥
unfolding next_of and_then or_refuse is_tag same header_of time_of list_of from_low first_of rest_of lookups lookup entry_of units_from walk_told
brim_refused r error e met =
    let differ : ◌≡◌ {A = ℕ} 1 0 = ap is_refused (sym (ap (λ (a : Result (Option EntryPlace) RkBootError). walk_told a r.entry r.unknown_tag) e) ∙ met.tells) in omega arith

-- `step` that tests the three size fields before any entry: the first list's entry passes the file's end, and the second list's size field is 56
pub sizes_tested_first : (r : WalkStep) → r.answer ≡ Err (SizeBelowEntry 1 0)
    → WalkMeets r new_walk (next_of new_walk (file_of (list_bytes 1 102 57) (list_bytes 1 102 56) empty [])) → ⊥
unfolding next_of and_then or_refuse is_tag same header_of time_of list_of from_low first_of rest_of lookups lookup walk_told number
sizes_tested_first r e met =
    let differ : ◌≡◌ {A = ℕ} 72 73 = ap number (sym (ap (λ (a : Result (Option EntryPlace) RkBootError). walk_told a r.entry r.unknown_tag) e) ∙ met.tells) in omega arith

-- `step` that takes a list past the third for the third, which has a size field of 56, whatever list and entry it then tells
pub list_7_taken_for_the_third : (r : WalkStep) (error : RkBootError) → r.answer ≡ Err error
    → WalkMeets r (record { list = 7; entry = 0 }) (next_of (record { list = 7; entry = 0 }) third) → ⊥
unfolding next_of and_then or_refuse is_tag same header_of time_of list_of from_low first_of rest_of walk_told
list_7_taken_for_the_third r error e met =
    let differ : ◌≡◌ {A = ℕ} 1 0 = ap is_refused (sym (ap (λ (a : Result (Option EntryPlace) RkBootError). walk_told a r.entry r.unknown_tag) e) ∙ met.tells) in omega arith

-- `step` that tells 73 where 72 comes first: the list's size field is 56, and its entry passes the file's end
pub entry_before_size : (r : WalkStep) → r.answer ≡ Err (EntryPastEnd 0 0)
    → WalkMeets r new_walk (next_of new_walk (file_of (list_bytes 1 102 56) empty empty [])) → ⊥
unfolding next_of and_then or_refuse is_tag same header_of time_of list_of from_low first_of rest_of lookups lookup walk_told number
entry_before_size r e met =
    let differ : ◌≡◌ {A = ℕ} 73 72 = ap number (sym (ap (λ (a : Result (Option EntryPlace) RkBootError). walk_told a r.entry r.unknown_tag) e) ∙ met.tells) in omega arith

-- `step` that refuses everything, whatever it tells
pub step_always_refusing : (r : WalkStep) (n : ℕ) (values : List ℕ) → walk_told r.answer r.entry r.unknown_tag ≡ refused n values
    → WalkMeets r new_walk (next_of new_walk apart) → ⊥
unfolding next_of and_then or_refuse is_tag same header_of time_of list_of from_low first_of rest_of lookups lookup entry_of units_from
step_always_refusing r n values e met = let differ : ◌≡◌ {A = ℕ} 1 0 = ap is_refused (sym e ∙ met.tells) in omega arith

-- `step` that leaves the walk where it was when it found an entry
pub walk_not_moved : (r : WalkStep) → r.walk ≡ new_walk → WalkMeets r new_walk (next_of new_walk apart) → ⊥
unfolding next_of and_then or_refuse is_tag same header_of time_of list_of from_low first_of rest_of lookups lookup entry_of units_from walk_after
walk_not_moved r e met = let differ : ◌≡◌ {A = ℕ} 0 1 = ap (λ (w : Walk). w.entry) (sym e ∙ met.next) in omega arith

-- `step` that ends behind the second list
pub third_list_passed_over : (r : WalkStep) → r.answer ≡ Ok None → WalkMeets r new_walk (next_of new_walk third) → ⊥
unfolding next_of and_then or_refuse is_tag same header_of time_of list_of from_low first_of rest_of lookups lookup walk_told number
third_list_passed_over r e met =
    let differ : ◌≡◌ {A = ℕ} 0 72 = ap number (sym (ap (λ (a : Result (Option EntryPlace) RkBootError). walk_told a r.entry r.unknown_tag) e) ∙ met.tells) in omega arith

-- `examine` that does not look at the third list
pub third_list_not_examined : (r : Examined) (counts : EntryCounts) → r.answer ≡ Ok counts → ExamineMeets r (examined third) → ⊥
unfolding examined entries_of all and_then or_refuse is_tag same header_of time_of list_of from_low rest_of lookups lookup examine_told number
third_list_not_examined r counts e met =
    let differ : ◌≡◌ {A = ℕ} 0 72 = ap number (sym (ap (λ (a : Result EntryCounts RkBootError). examine_told a r.unknown_tag) e) ∙ met.tells) in omega arith

-- `examine` that counts an entry of 471 as one of 472
pub counted_in_another_list : (r : Examined) (counts : EntryCounts) → counts.entry_471 ≡ 0 → r.answer ≡ Ok counts → ExamineMeets r (examined apart) → ⊥
unfolding examined entries_of all and_then or_refuse is_tag same header_of time_of list_of from_low rest_of lookups lookup entry_of units_from examine_told count_in
counted_in_another_list r counts none e met =
    let differ : ◌≡◌ {A = ℕ} 0 2 = sym none ∙ ap in_first (sym (ap (λ (a : Result EntryCounts RkBootError). examine_told a r.unknown_tag) e) ∙ met.tells) in omega arith

-- `examine` that refuses every file
pub always_refusing : (r : Examined) (n : ℕ) (values : List ℕ) → examine_told r.answer r.unknown_tag ≡ refused n values → ExamineMeets r (examined apart) → ⊥
unfolding examined entries_of all and_then or_refuse is_tag same header_of time_of list_of from_low rest_of lookups lookup entry_of units_from count_in
always_refusing r n values e met = let differ : ◌≡◌ {A = ℕ} 1 0 = ap is_refused (sym e ∙ met.tells) in omega arith

-- `Walk::new` that begins with the second list, or behind the first entry
pub begins_with_472 : record { list = 1; entry = 0 } ≡ new_walk → ⊥
begins_with_472 e = let differ : ◌≡◌ {A = ℕ} 1 0 = ap (λ (w : Walk). w.list) e in omega arith

pub begins_behind_the_first : record { list = 0; entry = 1 } ≡ new_walk → ⊥
begins_behind_the_first e = let differ : ◌≡◌ {A = ℕ} 1 0 = ap (λ (w : Walk). w.entry) e in omega arith

-- `list_at` that takes the second list for the third, or the third for any behind it
pub second_for_third : (h : RkBootHeader) → h.entry_472.count ≡ 1 → h.entry_loader.count ≡ 0 → h.entry_472 ≡ list_at h 2 → ⊥
unfolding list_at
second_for_third h one none e = let differ : ◌≡◌ {A = ℕ} 1 0 = sym one ∙ ap (λ (l : RkBootHeaderEntry). l.count) e ∙ none in omega arith

pub third_for_the_seventh : (h : RkBootHeader) → h.entry_loader.count ≡ 1 → h.entry_loader ≡ list_at h 7 → ⊥
unfolding list_at list_of
third_for_the_seventh h one e = let differ : ◌≡◌ {A = ℕ} 1 0 = sym one ∙ ap (λ (l : RkBootHeaderEntry). l.count) e in omega arith

-- `start_of` that goes on by 57, or wraps in 32 bits
pub starts_57_apart : 102 + 1 * 57 ≡ start_of (record { count = 2; offset = 102; size = 58 }) 1 → ⊥
starts_57_apart e = omega arith

pub start_wraps : 56 ≡ start_of (record { count = 2; offset = 4294967295; size = 57 }) 1 → ⊥
start_wraps e = omega arith

-- `data_of` that gives what there is of data that is not all there
pub data_cut_short : 2 ∷ 3 ∷ [] ≡ data_of (1 ∷ 2 ∷ 3 ∷ []) 1 3 → ⊥
unfolding data_of
data_cut_short e = let differ : ◌≡◌ {A = ℕ} 2 0 = ap length e in omega arith

-- `data_of` that starts a byte late
pub one_byte_late : 3 ∷ [] ≡ data_of (1 ∷ 2 ∷ 3 ∷ []) 1 1 → ⊥
unfolding data_of
one_byte_late e = let differ : ◌≡◌ {A = ℕ} 3 2 = ap (λ (l : List ℕ). get_or l 0 0) e in omega arith

-- `number` of a step's answer: a refusal told as 0, and one number for all
pub walk_refusal_told_as_0 : 0 ≡ walk_number (Err UnknownTag) → ⊥
unfolding walk_told number
walk_refusal_told_as_0 e = omega arith

pub one_number_for_steps : (n : ℕ) → n ≡ walk_number (Ok None) → n ≡ walk_number (Err UnknownTag) → ⊥
unfolding walk_told number
one_number_for_steps n e f = omega arith

-- `number` of an examination's answer: a refusal told as 0, and a whole file told as refused
pub examine_refusal_told_as_0 : 0 ≡ examine_number (Err (EntryPastEnd 0 0)) → ⊥
unfolding examine_told number
examine_refusal_told_as_0 e = omega arith

pub whole_told_as_refusal : (counts : EntryCounts) → 72 ≡ examine_number (Ok counts) → ⊥
unfolding examine_told number
whole_told_as_refusal counts e = omega arith
