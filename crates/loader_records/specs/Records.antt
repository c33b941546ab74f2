-- The records of a loader file as their bytes say them, all numbers little-endian, and reading one.
use Rattle.std.specs.Prelude.{ℕ, zero, suc, Bool, true, not, List, [], ◌∷◌, reverse, ltb, length, get_or, take, replicate}
use Rattle.promise.specs.Told.{Told, given}
use Rattle.promise.specs.Rules.{Rule, rule, unless, pick}
use Rattle.promise.specs.Bytes.{from_low, field}
use Rattle.protocol_bytes.specs.Signature.{same}
use Rattle.loader_records.specs.declared.time.RkTime.{RkTime}
use Rattle.loader_records.specs.declared.list.RkBootHeaderEntry.{RkBootHeaderEntry}
use Rattle.loader_records.specs.declared.entry.RkBootEntry.{RkBootEntry}
use Rattle.loader_records.specs.declared.header.RkBootHeader.{RkBootHeader}

-- how many bytes each record has
abbrev pub time_length : ℕ
time_length = 7

abbrev pub list_length : ℕ
list_length = 6

abbrev pub entry_length : ℕ
entry_length = 57

abbrev pub header_length : ℕ
header_length = 102

-- the time of a release
unfoldable pub time_of : List ℕ → RkTime
time_of bytes =
    record {
      year = from_low (field 0 2 bytes);
      month = get_or bytes 2 0;
      day = get_or bytes 3 0;
      hour = get_or bytes 4 0;
      minute = get_or bytes 5 0;
      second = get_or bytes 6 0;
    }

-- "the 6-byte lists": count, offset, size
unfoldable pub list_of : List ℕ → RkBootHeaderEntry
list_of bytes = record { count = get_or bytes 0 0; offset = from_low (field 1 4 bytes); size = get_or bytes 5 0 }

-- so many units of two bytes each, from byte `at` on
unfoldable pub units_from : ℕ → ℕ → List ℕ → List ℕ
units_from zero at bytes = []
units_from (suc n) at bytes = from_low (field at 2 bytes) ∷ units_from n (suc (suc at)) bytes

-- "the 57-byte entries": size, type, 20 name units, data offset, data size, delay
abbrev pub name_of : List ℕ → List ℕ
name_of bytes = units_from 20 5 bytes

unfoldable pub entry_of : List ℕ → RkBootEntry
entry_of bytes =
    record {
      size = get_or bytes 0 0;
      type_ = from_low (field 1 4 bytes);
      name = name_of bytes;
      data_offset = from_low (field 45 4 bytes);
      data_size = from_low (field 49 4 bytes);
      data_delay = from_low (field 53 4 bytes);
    }

-- "the 102-byte header": tag, size, version, merge version, release time, the chip's four bytes reversed, the three lists, sign flag, RC4 flag;
-- "bytes 45 to 101 ignored"
unfoldable pub header_of : List ℕ → RkBootHeader
header_of bytes =
    record {
      tag = take 4 bytes;
      size = from_low (field 4 2 bytes);
      version = from_low (field 6 4 bytes);
      merge_version = from_low (field 10 4 bytes);
      release = time_of (field 14 time_length bytes);
      supported_chip = reverse (field 21 4 bytes);
      entry_471 = list_of (field 25 list_length bytes);
      entry_472 = list_of (field 31 list_length bytes);
      entry_loader = list_of (field 37 list_length bytes);
      sign_flag = get_or bytes 43 0;
      rc4_flag = get_or bytes 44 0;
    }

-- what stands where no record was read: every field zero
abbrev pub no_time : RkTime
no_time = time_of (replicate time_length 0)

abbrev pub no_list : RkBootHeaderEntry
no_list = list_of (replicate list_length 0)

abbrev pub no_entry : RkBootEntry
no_entry = entry_of (replicate entry_length 0)

abbrev pub no_header : RkBootHeader
no_header = header_of (replicate header_length 0)

-- `BOOT`
abbrev pub boot : List ℕ
boot = 0x42 ∷ 0x4F ∷ 0x4F ∷ 0x54 ∷ []

-- `LDR `
abbrev pub ldr : List ℕ
ldr = 0x4C ∷ 0x44 ∷ 0x52 ∷ 0x20 ∷ []

unfoldable pub is_tag : List ℕ → Bool
is_tag tag = pick (same tag boot) true (same tag ldr)

-- 70: "slice shorter than the record", with its length
abbrev pub short_rule : ℕ → List ℕ → Rule
short_rule wanted bytes = rule (ltb (length bytes) wanted) 70 (length bytes ∷ [])

-- 71: "tag", with its four bytes
abbrev pub tag_rule : List ℕ → Rule
tag_rule bytes = rule (not (is_tag (take 4 bytes))) 71 (take 4 bytes)

-- "Longer slices than a record are read by the record's first bytes"
abbrev pub read_time : List ℕ → Told RkTime
read_time bytes = unless (short_rule time_length bytes ∷ []) (given (time_of (take time_length bytes)))

abbrev pub read_list : List ℕ → Told RkBootHeaderEntry
read_list bytes = unless (short_rule list_length bytes ∷ []) (given (list_of (take list_length bytes)))

abbrev pub read_entry : List ℕ → Told RkBootEntry
read_entry bytes = unless (short_rule entry_length bytes ∷ []) (given (entry_of (take entry_length bytes)))

abbrev pub read_header : List ℕ → Told RkBootHeader
read_header bytes = unless (short_rule header_length bytes ∷ tag_rule bytes ∷ []) (given (header_of (take header_length bytes)))
