-- A header and an entry, field by field.
use Prim.Native.Nat.{ℕ, ◌+◌, ◌≤◌}
use mathlib.Core.Path.{◌≡◌, refl}
use mathlib.Core.List.{List, reverse}
use native.Mathlib.Omega.{arith}
use lib.ListN.{length, get_or}
use Rattle.promise.specs.Bytes.{from_low, field}
use Rattle.protocol_bytes.proofs.Short.{field_elements, elements}
use Rattle.loader_records.specs.declared.time.RkTime.{RkTime}
use Rattle.loader_records.specs.declared.list.RkBootHeaderEntry.{RkBootHeaderEntry}
use Rattle.loader_records.specs.declared.entry.RkBootEntry.{RkBootEntry}
use Rattle.loader_records.specs.declared.header.RkBootHeader.{RkBootHeader}
use Rattle.loader_records.specs.Records.{time_of, list_of, name_of, entry_of, header_of}

module _ (b : List ℕ) (n : ℕ) (long : length b ≡ n) where
  at_place : (at k : ℕ) → at + k ≤ n → field at k b ≡ elements k at b
  at_place at k inside = field_elements k at b (omega arith)

-- a header's fields are in the first 45 bytes, whatever stands behind them
module _ (b : List ℕ) (long : 45 ≤ length b) where
  pub header_fields : {size version merge : ℕ} {release : RkTime} {list₁ list₂ list₃ : RkBootHeaderEntry} → size ≡ from_low (elements 2 4 b)
      → version ≡ from_low (elements 4 6 b) → merge ≡ from_low (elements 4 10 b) → release ≡ time_of (elements 7 14 b) → list₁ ≡ list_of (elements 6 25 b)
      → list₂ ≡ list_of (elements 6 31 b) → list₃ ≡ list_of (elements 6 37 b)
      → ◌≡◌ {A = RkBootHeader}
      (record {
        tag = elements 4 0 b;
        size = size;
        version = version;
        merge_version = merge;
        release = release;
        supported_chip = reverse (elements 4 21 b);
        entry_471 = list₁;
        entry_472 = list₂;
        entry_loader = list₃;
        sign_flag = get_or b 43 0;
        rc4_flag = get_or b 44 0;
      })
      (header_of b)
  unfolding header_of
  header_fields e₁ e₂ e₃ e₄ e₅ e₆ e₇ =
      rw (
        e₁,
        e₂,
        e₃,
        e₄,
        e₅,
        e₆,
        e₇,
        at_place b (length b) refl 0 4 (omega arith),
        at_place b (length b) refl 4 2 (omega arith),
        at_place b (length b) refl 6 4 (omega arith),
        at_place b (length b) refl 10 4 (omega arith),
        at_place b (length b) refl 14 7 (omega arith),
        at_place b (length b) refl 21 4 (omega arith),
        at_place b (length b) refl 25 6 (omega arith),
        at_place b (length b) refl 31 6 (omega arith),
        at_place b (length b) refl 37 6 (omega arith),
      )
      refl

module _ (b : List ℕ) (long : length b ≡ 57) where
  pub entry_fields : {type place size delay : ℕ} {name : List ℕ} → type ≡ from_low (elements 4 1 b) → name ≡ name_of b → place ≡ from_low (elements 4 45 b)
      → size ≡ from_low (elements 4 49 b) → delay ≡ from_low (elements 4 53 b)
      → ◌≡◌ {A = RkBootEntry}
      (record { size = get_or b 0 0; type_ = type; name = name; data_offset = place; data_size = size; data_delay = delay })
      (entry_of b)
  unfolding entry_of
  entry_fields e₁ e₂ e₃ e₄ e₅ =
      rw (
        e₁,
        e₂,
        e₃,
        e₄,
        e₅,
        at_place b 57 long 1 4 (omega arith),
        at_place b 57 long 45 4 (omega arith),
        at_place b 57 long 49 4 (omega arith),
        at_place b 57 long 53 4 (omega arith),
      )
      refl
