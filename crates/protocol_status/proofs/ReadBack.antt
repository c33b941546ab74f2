-- What `to_bytes` wrote `from_bytes` reads.
use Prim.Native.Nat.{ℕ, ◌≤◌}
use mathlib.Core.Path.{◌≡◌, refl, ap, ◌∙◌}
use mathlib.Core.List.{List, ◌++◌}
use borrow.Author.Tests.{le-ltb}
use lib.ListN.{length, drop}
use Rattle.promise.specs.Told.{given}
use Rattle.promise.specs.Bytes.{low_first, high_first}
use Rattle.protocol_bytes.specs.Signature.{no_signature, signature_in}
use Rattle.protocol_bytes.specs.Writing.{writing, WriteMeets}
use Rattle.protocol_status.specs.declared.report.CommandStatus.{CommandStatus}
use Rattle.protocol_bytes.specs.declared.signature.Parse.{Parse}
use Rattle.protocol_status.specs.declared.report.CommandStatusParseError.{CommandStatusParseError}
use Rattle.protocol_status.specs.StatusBytes.{status_bytes, read_status, write_status, StatusFits}
use Rattle.protocol_status.specs.StatusMeets.{StatusMeets, status_told}
use Rattle.protocol_status.proofs.Trips.{reads_back}
use Rattle.protocol_status.proofs.Unique.{status_unique}
use Rattle.std.specs.Prelude.{Result}
use Rattle.rule_number.specs.declared.OutputTooShort.{OutputTooShort}
use Rattle.std.specs.declared.result.Result.TheVariants.{Ok}

status_meets : (s : CommandStatus) → StatusMeets (record { answer = Ok s; signature = no_signature }) (given s)
unfolding status_told signature_in
status_meets s = record { tells = refl; signature = refl }

-- the buffer after a write into one that is long enough
long_enough : (s : CommandStatus) (before after : List ℕ) (w : Result ℕ OutputTooShort) → 13 ≤ length before
    → WriteMeets w before after (write_status s (length before)) → after ≡ status_bytes s ++ drop 13 before
unfolding write_status writing status_bytes high_first low_first
long_enough s before after w room wrote = wrote.leaves ∙ rw (le-ltb (length before) 13 room) refl

-- `to_bytes` of a status into a buffer of at least 13 bytes, whatever it held, and then `from_bytes` of that buffer: the status, and no signature. That
-- the status fits is a part of the contract of `to_bytes`.
pub status_reads_back : (s : CommandStatus) (before after : List ℕ) (w : Result ℕ OutputTooShort) (r : Parse CommandStatus CommandStatusParseError) → 13 ≤ length before
    → WriteMeets w before after (write_status s (length before)) → StatusFits s → StatusMeets r (read_status after)
    → r ≡ record { answer = Ok s; signature = no_signature }
status_reads_back s before after w r room wrote fits read =
    let told : read_status after ≡ given s = ap read_status (long_enough s before after w room wrote) ∙ reads_back s (drop 13 before) fits in
    status_unique (given s) r (record { answer = Ok s; signature = no_signature }) (rw told at read) (status_meets s)
