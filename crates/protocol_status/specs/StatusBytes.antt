-- The status block as bytes, and bytes as a status block.
use Rattle.std.specs.Prelude.{ℕ, ◌<◌, ◌^◌, not, List, [], ◌∷◌, ◌++◌, ltb, length, get_or, take}
use Rattle.promise.specs.Told.{Told, given, and_then}
use Rattle.promise.specs.Rules.{rule, unless}
use Rattle.promise.specs.Bytes.{low_first, high_first, from_low, from_high, field}
use Rattle.protocol_codes.specs.Numbers.{status_number}
use Rattle.protocol_codes.specs.Reading.{status_of}
use Rattle.protocol_codes.specs.declared.Status.{Status}
use Rattle.protocol_status.specs.declared.report.CommandStatus.{CommandStatus}
use Rattle.protocol_bytes.specs.Signature.{usbs, same}
use Rattle.protocol_bytes.specs.Writing.{Writing, writing}

-- Status, 13 bytes
abbrev pub status_length : ℕ
status_length = 13

-- `USBS`; tag, big-endian; residue, little-endian; status 0 or 1
unfoldable pub status_bytes : CommandStatus → List ℕ
status_bytes s = usbs ++ (high_first 4 s.tag ++ (low_first 4 s.residue ++ (status_number s.status ∷ [])))

-- numbers that the fields can hold
pub record StatusFits (s : CommandStatus) : Type 0 where
  pub tag : s.tag < 256 ^ 4
  pub residue : s.residue < 256 ^ 4

-- longer output is written in its first 13
unfoldable pub write_status : CommandStatus → ℕ → Writing
write_status s room = writing status_length (status_bytes s) room

-- the fields where they stand, the status being known
unfoldable pub report_of : List ℕ → Status → CommandStatus
report_of bytes status = record { tag = from_high (field 4 4 bytes); residue = from_low (field 8 4 bytes); status = status }

-- 5 to 7 in this order: status length (n), signature (4 bytes), status (byte)
unfoldable pub read_status : List ℕ → Told CommandStatus
read_status bytes =
    unless (rule (ltb (length bytes) status_length) 5 (length bytes ∷ []) ∷ rule (not (same (take 4 bytes) usbs)) 6 (take 4 bytes) ∷ [])
    (and_then (status_of (get_or bytes 12 0)) (λ status. given (report_of bytes status)))
