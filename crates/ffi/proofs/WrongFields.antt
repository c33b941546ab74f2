-- Programs that the contracts of a command over numbers rule out, whatever their proofs: each answer is refuted at a named command.
use Prim.Native.Nat.{ℕ, ◌+◌, ◌*◌, ◌^◌, ◌<◌}
use mathlib.Core.Path.{◌≡◌, ap, sym, ◌∙◌}
use mathlib.Core.List.{List, [], ◌++◌}
use native.Mathlib.Omega.{arith}
use lib.Dec.{lit<, lit≤}
use lib.ListN.{get_or, replicate}
use Rattle.promise.specs.Told.{number}
use Rattle.promise.specs.Rules.{or_refuse}
use Rattle.promise.specs.Bytes.{low_first, high_first, front}
use Rattle.protocol_bytes.specs.Writing.{writing}
use Rattle.protocol.specs.Commands.{read_lba_command}
use Rattle.protocol.specs.CommandBytes.{command_bytes, read_command, write_command}
use Rattle.protocol.proofs.Reading.{read_short}
use Rattle.protocol.proofs.Trips.{reads_back}
use Rattle.ffi.specs.Command.{command_number}

abbrev zeros : List ℕ
zeros = replicate 31 0

-- 31 zeros after the command that reads one sector from this one was written to them
abbrev written : ℕ → List ℕ
written first = front (write_command (read_lba_command 1 first 1) 31).sent zeros

-- one block for all sectors
pub another_sector : (after : List ℕ) → after ≡ written 0 → after ≡ written 1 → ⊥
unfolding write_command writing command_bytes low_first high_first
another_sector after first second = let differ : ◌≡◌ {A = ℕ} 0 1 = ap (λ (l : List ℕ). get_or l 20 0) (sym first ∙ second) in omega arith

-- a writer that writes nothing
pub nothing_written : zeros ≡ written 0 → ⊥
unfolding write_command writing command_bytes low_first high_first
nothing_written e = let differ : ◌≡◌ {A = ℕ} 0 0x55 = ap (λ (l : List ℕ). get_or l 0 0) e in omega arith

-- an output that is too short, told as written
pub short_output_unsaid : 0 ≡ number (write_command (read_lba_command 1 0 1) 0).told → ⊥
unfolding number write_command writing or_refuse
short_output_unsaid e = let z : ◌≡◌ {A = ℕ} 0 20 = e in omega arith

-- the command that reads 3 sectors from sector 2
abbrev sent : List ℕ
sent = command_bytes (read_lba_command 1 2 3) ++ replicate 7 0

sent_number : command_number (read_command sent) ≡ 0x14 + 2 * 2 ^ 8 + 3 * 2 ^ 40
unfolding command_number
sent_number =
    ap command_number (reads_back (read_lba_command 1 2 3) (replicate 7 0) (record { tag = lit< tt; transfer = lit< tt; address = lit< tt; count = lit< tt }) (lit≤ tt))

-- the count told in the place of the address
pub count_for_address : 0x14 + 3 * 2 ^ 8 + 3 * 2 ^ 40 ≡ command_number (read_command sent) → ⊥
count_for_address e = let differ : 0x14 + 3 * 2 ^ 8 + 3 * 2 ^ 40 ≡ 0x14 + 2 * 2 ^ 8 + 3 * 2 ^ 40 = e ∙ sent_number in omega arith

-- no bytes at all told as a command
pub refusal_unsaid : (r : ℕ) → r < 2 ^ 56 → r ≡ command_number (read_command []) → ⊥
unfolding command_number
refusal_unsaid r small e = let none : r ≡ 1 * 2 ^ 56 = e ∙ ap command_number (read_short [] (lit< tt)) in omega arith

-- one number for all
pub one_number : (r : ℕ) → r ≡ command_number (read_command []) → r ≡ command_number (read_command sent) → ⊥
one_number r none some = refusal_unsaid r (let e : r ≡ 0x14 + 2 * 2 ^ 8 + 3 * 2 ^ 40 = some ∙ sent_number in omega arith) none
