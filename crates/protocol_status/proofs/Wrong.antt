-- Programs that the contracts rule out: no proof at all can exist for them.
use Prim.Native.Nat.{ℕ, ◌<◌}
use mathlib.Core.Path.{◌≡◌, ap, sym, ◌∙◌}
use mathlib.Core.List.{List, [], ◌∷◌, ◌++◌}
use native.Mathlib.Omega.{arith}
use lib.Dec.{lit<}
use lib.ListN.{get_or, length, replicate}
use Rattle.promise.specs.Told.{Told, given, refused, number}
use Rattle.promise.specs.Rules.{or_refuse}
use Rattle.promise.specs.Bytes.{low_first, high_first}
use Rattle.protocol_codes.specs.declared.Status.TheVariants.{SUCCESS}
use Rattle.protocol_bytes.specs.Signature.{usbs, no_signature}
use Rattle.protocol_bytes.specs.Writing.{writing, written_told, WriteMeets}
use Rattle.protocol_status.specs.declared.report.CommandStatus.{CommandStatus}
use Rattle.protocol_bytes.specs.declared.signature.Parse.{Parse}
use Rattle.protocol_status.specs.declared.report.CommandStatusParseError.{CommandStatusParseError}
use Rattle.protocol_status.specs.StatusBytes.{status_bytes, read_status, write_status}
use Rattle.protocol_status.specs.declared.report.CommandStatusParseError.TheVariants.{InvalidSignature, InvalidLength, InvalidStatus}
use Rattle.protocol_status.specs.declared.failure.UsbOperationError.{UsbOperationError}
use Rattle.protocol_status.specs.declared.failure.UsbOperationError.TheVariants.{TagMismatch, InvalidStatusSignature, InvalidStatusLength, FailedStatus}
use Rattle.protocol_status.specs.StatusMeets.{status_error_told, status_told, StatusMeets}
use Rattle.protocol_status.specs.Failure.{failure_number, failure_values, failure_told, at_finish}
use Rattle.protocol_status.proofs.Reading.{read_short}
use Rattle.protocol_status.proofs.Trips.{reads_back}
use Rattle.std.specs.Prelude.{Result}
use Rattle.rule_number.specs.declared.OutputTooShort.{OutputTooShort}
use Rattle.std.specs.declared.result.Result.TheVariants.{Ok, Err}

-- two statuses that differ in their tag alone, and one of them as bytes
abbrev tagged : ℕ → CommandStatus
tagged tag = record { tag = tag; residue = 0; status = SUCCESS }

abbrev zeros : List ℕ
zeros = replicate 13 0

abbrev sent : List ℕ
sent = status_bytes (tagged 1) ++ []

read_sent : read_status sent ≡ given (tagged 1)
read_sent = reads_back (tagged 1) [] (record { tag = lit< tt; residue = lit< tt })

-- a reader that refuses everything, whatever it tells
pub always_refusing : (r : Parse CommandStatus CommandStatusParseError) (n : ℕ) (values : List ℕ) → status_told r.answer r.signature ≡ refused n values
    → StatusMeets r (read_status sent) → ⊥
always_refusing r n values told meets = let z : ◌≡◌ {A = ℕ} 0 1 = cc (meets.tells, read_sent) in omega arith

-- a reader with one answer for all
pub fixed_answer : (r : Parse CommandStatus CommandStatusParseError) → StatusMeets r (read_status []) → StatusMeets r (read_status sent) → ⊥
fixed_answer r none some = always_refusing r 5 (0 ∷ []) (none.tells ∙ read_short [] (lit< tt)) some

-- a writer that writes one block for all
pub fixed_block : (r : Result ℕ OutputTooShort) (after : List ℕ) → WriteMeets r zeros after (write_status (tagged 1) 13) → WriteMeets r zeros after (write_status (tagged 2) 13) → ⊥
unfolding write_status writing status_bytes low_first high_first
fixed_block r after first second =
    let differ : ◌≡◌ {A = ℕ} 1 2 = ap (λ (l : List ℕ). get_or l 7 0) (sym first.leaves ∙ second.leaves) in omega arith

-- a writer that writes nothing
pub doing_nothing : (r : Result ℕ OutputTooShort) → WriteMeets r zeros zeros (write_status (tagged 1) 13) → ⊥
unfolding write_status writing status_bytes low_first high_first
doing_nothing r meets = let differ : ◌≡◌ {A = ℕ} 0 0x55 = ap (λ (l : List ℕ). get_or l 0 0) meets.leaves in omega arith

-- a reader for which fewer than 13 bytes are enough
pub fewer_bytes_read : (bytes : List ℕ) (r : Parse CommandStatus CommandStatusParseError) (s : CommandStatus) → length bytes < 13 → status_told r.answer r.signature ≡ given s
    → StatusMeets r (read_status bytes) → ⊥
fewer_bytes_read bytes r s few told meets = let z : ◌≡◌ {A = ℕ} 0 1 = cc (meets.tells, read_short bytes few) in omega arith

-- the residue that is told
abbrev residue_in : Told CommandStatus → ℕ
residue_in (given s) = s.residue
residue_in (refused n values) = 0

-- a reader that takes the residue in the other order: at residue 1 it gives 16,777,216
pub residue_in_the_other_order : (r : Parse CommandStatus CommandStatusParseError) → status_told r.answer r.signature ≡ given (record { tag = 1; residue = 0x01000000; status = SUCCESS })
    → StatusMeets r (read_status (status_bytes (record { tag = 1; residue = 1; status = SUCCESS }) ++ [])) → ⊥
residue_in_the_other_order r told meets =
    let one : CommandStatus = record { tag = 1; residue = 1; status = SUCCESS } in
    let back : read_status (status_bytes one ++ []) ≡ given one = reads_back one [] (record { tag = lit< tt; residue = lit< tt }) in
    let differ : ◌≡◌ {A = ℕ} 0x01000000 1 = ap residue_in (sym told ∙ meets.tells ∙ back) in omega arith

-- a writer for which 12 bytes are enough
pub twelve_bytes_written : (s : CommandStatus) (n : ℕ) (before after : List ℕ) → WriteMeets (Ok n) before after (write_status s 12) → ⊥
unfolding write_status writing or_refuse written_told
twelve_bytes_written s n before after meets = let z : ◌≡◌ {A = ℕ} 0 1 = cc meets.tells in omega arith

-- a writer that refuses every buffer
pub every_buffer_refused : (s : CommandStatus) (before after : List ℕ) → WriteMeets (Err (record {})) before after (write_status s 13) → ⊥
unfolding write_status writing or_refuse written_told
every_buffer_refused s before after meets = let z : ◌≡◌ {A = ℕ} 0 1 = cc meets.tells in omega arith

-- a writer that puts the tag in the other order
pub tag_in_the_other_order : (r : Result ℕ OutputTooShort) → WriteMeets r zeros (usbs ++ (low_first 4 1 ++ replicate 5 0)) (write_status (tagged 1) 13) → ⊥
unfolding write_status writing status_bytes low_first high_first
tag_in_the_other_order r meets = let differ : ◌≡◌ {A = ℕ} 1 0 = ap (λ (l : List ℕ). get_or l 4 0) meets.leaves in omega arith

-- what the finish is told of a status of 12 bytes and of one with another signature
abbrev short_told : List ℕ → Told CommandStatus
short_told signature = at_finish (status_error_told (InvalidLength 12) signature)

abbrev unsigned_told : List ℕ → Told CommandStatus
unsigned_told signature = at_finish (status_error_told InvalidSignature signature)

-- one failure of a finish for every refusal
pub one_failure_for_all : (r : UsbOperationError) → failure_told r no_signature ≡ unsigned_told no_signature → failure_told r no_signature ≡ short_told no_signature → ⊥
unfolding status_error_told at_finish
one_failure_for_all r e f = let differ : ◌≡◌ {A = ℕ} 11 13 = cc in omega arith

-- a wrong signature told as a wrong length
pub signature_turned_into_length : failure_told InvalidStatusLength no_signature ≡ unsigned_told no_signature → ⊥
unfolding failure_number failure_values status_error_told at_finish
signature_turned_into_length e = let differ : ◌≡◌ {A = ℕ} 13 11 = cc in omega arith

-- a wrong length told as FAILED
pub length_turned_into_failed : failure_told FailedStatus no_signature ≡ short_told no_signature → ⊥
unfolding failure_number failure_values status_error_told at_finish
length_turned_into_failed e = let differ : ◌≡◌ {A = ℕ} 15 13 = cc in omega arith

-- `CommandStatusParseError::number` with one number for all
pub one_number_for_errors : (n : ℕ) → n ≡ number (status_error_told InvalidSignature no_signature) → n ≡ number (status_error_told (InvalidStatus 2) no_signature) → ⊥
unfolding number status_error_told
one_number_for_errors n e f = omega arith

-- `CommandStatusParseError::number` with the number that the finish has for it
pub number_of_the_finish : failure_number InvalidStatusSignature ≡ number (status_error_told InvalidSignature no_signature) → ⊥
unfolding number failure_number status_error_told
number_of_the_finish e = omega arith

-- `UsbOperationError::number` with one number for all
pub one_number_for_failures : (n : ℕ) → n ≡ failure_number TagMismatch → n ≡ failure_number FailedStatus → ⊥
unfolding failure_number
one_number_for_failures n e f = omega arith

-- `UsbOperationError::number` with the number that the reader has for it
pub number_of_the_reader : number (status_error_told InvalidSignature no_signature) ≡ failure_number InvalidStatusSignature → ⊥
unfolding number failure_number status_error_told
number_of_the_reader e = omega arith

-- `number` of a status answer that tells 0 for a refusal
pub refusal_told_as_0 : 0 ≡ number (status_told (Err InvalidSignature) no_signature) → ⊥
unfolding number status_told status_error_told
refusal_told_as_0 e = omega arith

-- `number` of a status answer that tells a refusal where a status was read
pub status_told_as_refusal : (s : CommandStatus) → 7 ≡ number (status_told (Ok s) no_signature) → ⊥
unfolding number status_told
status_told_as_refusal s e = omega arith
