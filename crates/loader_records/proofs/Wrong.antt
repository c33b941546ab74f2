-- Programs that the contracts rule out: no proof at all can exist for them.
use Prim.Native.Nat.{ℕ, zero, suc}
use mathlib.Core.Path.{◌≡◌, ap, sym, ◌∙◌}
use mathlib.Core.List.{List, [], ◌∷◌, ◌++◌}
use native.Mathlib.Omega.{arith}
use lib.ListN.{get_or, take}
use Rattle.promise.specs.Told.{number}
use Rattle.promise.specs.Rules.{or_refuse}
use Rattle.promise.specs.Bytes.{from_low, from_high, field}
use Rattle.protocol_bytes.specs.Signature.{same, signature_in}
use Rattle.loader_records.specs.declared.answer.RkBootError.TheVariants.{TooShort, UnknownTag, DataPastEnd}
use Rattle.loader_records.specs.declared.time.RkTime.{RkTime}
use Rattle.loader_records.specs.declared.list.RkBootHeaderEntry.{RkBootHeaderEntry}
use Rattle.loader_records.specs.declared.entry.RkBootEntry.{RkBootEntry}
use Rattle.loader_records.specs.declared.header.RkBootHeader.{RkBootHeader}
use Rattle.loader_records.specs.Records.{time_of, list_of, units_from, entry_of, header_of, is_tag, boot, ldr, no_time, no_list, no_entry, no_header, read_time, read_list, read_entry, read_header}
use Rattle.loader_records.specs.Refusals.{boot_error_number, boot_error_values, boot_answer_number, boot_told, value_in, no_tag, ReadMeets}
use Rattle.std.specs.Prelude.{Result}
use Rattle.loader_records.specs.declared.answer.RkBootError.{RkBootError}
use Rattle.std.specs.declared.result.Result.TheVariants.{Ok, Err}

-- `RkBootError::number` with one number for all
pub one_number : (n : ℕ) → n ≡ boot_error_number UnknownTag → n ≡ boot_error_number (DataPastEnd 0 0) → ⊥
one_number n e f = omega arith

-- `RkBootError::number` with 73 and 74 exchanged
pub past_end_exchanged : 73 ≡ boot_error_number (DataPastEnd 0 0) → ⊥
past_end_exchanged e = omega arith

-- `number` of an answer that tells 0 for a refusal
pub refusal_told_as_0 : 0 ≡ boot_answer_number (Err UnknownTag) → ⊥
unfolding boot_told number
refusal_told_as_0 e = omega arith

-- `number` of an answer that tells a refusal where a record was read
pub record_told_as_refusal : 70 ≡ boot_answer_number (Ok tt) → ⊥
unfolding boot_told number
record_told_as_refusal e = omega arith

-- bytes that go up by one
abbrev counting : ℕ → ℕ → List ℕ
counting zero from = []
counting (suc n) from = from ∷ counting n (suc from)

-- `RkTime::from_bytes` with the year's high byte first
pub year_high_first : (r : RkTime) → r.year ≡ from_high (1 ∷ 2 ∷ []) → ReadMeets (Ok tt) r no_tag no_time (read_time (counting 7 1)) → ⊥
unfolding or_refuse value_in time_of from_low from_high
year_high_first r e met = let differ : ◌≡◌ {A = ℕ} 258 513 = sym e ∙ ap (λ (t : RkTime). t.year) met.value in omega arith

-- `RkTime::from_bytes` that wants a byte more
pub seven_refused : (r : RkTime) → ReadMeets (Err (TooShort 7)) r no_tag no_time (read_time (counting 7 1)) → ⊥
unfolding or_refuse boot_told boot_error_values number
seven_refused r met = let differ : ◌≡◌ {A = ℕ} 70 0 = ap number met.tells in omega arith

-- `RkBootHeaderEntry::from_bytes` with count and size in each other's place
pub count_and_size_exchanged : (r : RkBootHeaderEntry) → r.count ≡ 6 → ReadMeets (Ok tt) r no_tag no_list (read_list (counting 6 1)) → ⊥
unfolding or_refuse value_in list_of from_low
count_and_size_exchanged r e met = let differ : ◌≡◌ {A = ℕ} 6 1 = sym e ∙ ap (λ (l : RkBootHeaderEntry). l.count) met.value in omega arith

-- `RkBootHeaderEntry::from_bytes` that refuses a slice longer than the record
pub longer_refused : (r : RkBootHeaderEntry) → ReadMeets (Err (TooShort 7)) r no_tag no_list (read_list (counting 7 1)) → ⊥
unfolding or_refuse boot_told boot_error_values number
longer_refused r met = let differ : ◌≡◌ {A = ℕ} 70 0 = ap number met.tells in omega arith

-- `RkBootEntry::none` that has its own size in it
pub none_has_a_size : (r : RkBootEntry) → r.size ≡ 57 → r ≡ no_entry → ⊥
unfolding entry_of
none_has_a_size r e is = let differ : ◌≡◌ {A = ℕ} 57 0 = sym e ∙ ap (λ (x : RkBootEntry). x.size) is in omega arith

-- `RkBootEntry::none` with a delay
pub none_has_a_delay : (r : RkBootEntry) → r.data_delay ≡ 1 → r ≡ no_entry → ⊥
unfolding entry_of from_low
none_has_a_delay r e is = let differ : ◌≡◌ {A = ℕ} 1 0 = sym e ∙ ap (λ (x : RkBootEntry). x.data_delay) is in omega arith

-- `RkBootEntry::from_bytes` with the high byte of a name's unit first
pub unit_high_first : (r : RkBootEntry) → get_or r.name 0 0 ≡ from_high (6 ∷ 7 ∷ []) → ReadMeets (Ok tt) r no_tag no_entry (read_entry (counting 57 1)) → ⊥
unfolding or_refuse value_in entry_of units_from from_low from_high
unit_high_first r e met = let differ : ◌≡◌ {A = ℕ} 1543 1798 = sym e ∙ ap (λ (x : RkBootEntry). get_or x.name 0 0) met.value in omega arith

-- `RkBootEntry::from_bytes` with the data's size and the delay in each other's place
pub size_and_delay_exchanged : (r : RkBootEntry) → r.data_delay ≡ from_low (counting 4 50) → ReadMeets (Ok tt) r no_tag no_entry (read_entry (counting 57 1)) → ⊥
unfolding or_refuse value_in entry_of units_from from_low
size_and_delay_exchanged r e met =
    let differ : from_low (counting 4 50) ≡ from_low (counting 4 54) = sym e ∙ ap (λ (x : RkBootEntry). x.data_delay) met.value in omega arith

-- `RkBootEntry::from_bytes` that leaves what it read beside a refusal
pub left_beside_refusal : (r : RkBootEntry) → r.size ≡ 1 → ReadMeets (Err (TooShort 56)) r no_tag no_entry (read_entry (counting 56 1)) → ⊥
unfolding or_refuse value_in entry_of units_from from_low
left_beside_refusal r e met = let differ : ◌≡◌ {A = ℕ} 1 0 = sym e ∙ ap (λ (x : RkBootEntry). x.size) met.value in omega arith

-- headers with each of the two tags, and with none of them
abbrev tagged : List ℕ → List ℕ
tagged tag = tag ++ counting 98 5

-- `RkBootHeader::from_bytes` with the chip's bytes not reversed
pub chip_not_reversed : (r : RkBootHeader) → r.supported_chip ≡ field 21 4 (tagged boot) → ReadMeets (Ok tt) r no_tag no_header (read_header (tagged boot)) → ⊥
unfolding or_refuse is_tag same value_in header_of
chip_not_reversed r e met =
    let differ : ◌≡◌ {A = ℕ} 22 25 = ap (λ (l : List ℕ). get_or l 0 0) (sym e ∙ ap (λ (h : RkBootHeader). h.supported_chip) met.value) in omega arith

-- `RkBootHeader::from_bytes` that knows `BOOT` alone
pub ldr_refused : (r : RkBootHeader) → ReadMeets (Err UnknownTag) r ldr no_header (read_header (tagged ldr)) → ⊥
unfolding or_refuse is_tag same boot_told boot_error_values number
ldr_refused r met = let differ : ◌≡◌ {A = ℕ} 71 0 = ap number met.tells in omega arith

-- `RkBootHeader::from_bytes` that takes every tag
pub tag_not_looked_at : (r : RkBootHeader) → ReadMeets (Ok tt) r no_tag no_header (read_header (tagged (counting 4 1))) → ⊥
unfolding or_refuse is_tag same boot_told number
tag_not_looked_at r met = let differ : ◌≡◌ {A = ℕ} 0 71 = ap number met.tells in omega arith

-- `RkBootHeader::from_bytes` that does not tell the tag
pub tag_not_told : (r : RkBootHeader) → ReadMeets (Err UnknownTag) r no_tag no_header (read_header (tagged (counting 4 1))) → ⊥
unfolding or_refuse is_tag same signature_in
tag_not_told r met = let differ : ◌≡◌ {A = ℕ} 0 1 = ap (λ (l : List ℕ). get_or l 0 0) met.tag in omega arith

-- `RkBootHeader::from_bytes` that reads a header of 45 bytes, all of it that is looked at
pub forty_five_read : (r : RkBootHeader) → ReadMeets (Ok tt) r no_tag no_header (read_header (take 45 (tagged boot))) → ⊥
unfolding or_refuse is_tag same boot_told number
forty_five_read r met = let differ : ◌≡◌ {A = ℕ} 0 70 = ap number met.tells in omega arith

-- `RkTime::from_bytes` with one answer for all: the same at no bytes and at a time
pub one_time_for_all : (a : Result Unit RkBootError) (r : RkTime) (t : List ℕ) → ReadMeets a r t no_time (read_time []) → ReadMeets a r t no_time (read_time (counting 7 1)) → ⊥
unfolding or_refuse number
one_time_for_all a r t p q = let differ : ◌≡◌ {A = ℕ} 70 0 = ap number (sym p.tells ∙ q.tells) in omega arith
