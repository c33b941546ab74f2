-- Programs that the contracts rule out: no proof at all can exist for them.
use Prim.Native.Nat.{ℕ, ◌<◌}
use mathlib.Core.Path.{◌≡◌, ap, sym, ◌∙◌}
use mathlib.Core.List.{List, [], ◌∷◌, ◌++◌}
use native.Mathlib.Omega.{arith}
use lib.Dec.{lit<, lit≤}
use lib.ListN.{get_or, length, replicate, take, drop}
use Rattle.promise.specs.Told.{Told, given, refused, number}
use Rattle.promise.specs.Rules.{or_refuse}
use Rattle.promise.specs.Bytes.{low_first, high_first}
use Rattle.protocol_codes.specs.Numbers.{code_number}
use Rattle.protocol_codes.specs.declared.Direction.{Direction}
use Rattle.protocol_codes.specs.declared.Direction.TheVariants.{In, Out}
use Rattle.protocol_codes.specs.declared.CommandCode.{CommandCode}
use Rattle.protocol_codes.specs.declared.CommandCode.TheVariants.{TestBadBlock, ReadFlashId, ReadFlashInfo, ReadCapability, ReadChipInfo, GetStorageMedia, EraseLBA, EraseForce, ReadLBA, WriteLBA, DeviceReset, SwitchStorage}
use Rattle.protocol_codes.specs.declared.ResetOpcode.{ResetOpcode}
use Rattle.protocol_codes.specs.declared.StorageIndex.{StorageIndex}
use Rattle.protocol_bytes.specs.Signature.{no_signature}
use Rattle.protocol_bytes.specs.Writing.{writing, written_told, WriteMeets}
use Rattle.protocol.specs.declared.CommandBlock.{CommandBlock}
use Rattle.protocol_bytes.specs.declared.signature.Parse.{Parse}
use Rattle.protocol.specs.declared.CommandBlockParseError.{CommandBlockParseError}
use Rattle.protocol.specs.declared.CommandBlockParseError.TheVariants.{InvalidSignature, InvalidLength, UnknownFlags, UnknownCommandCode}
use Rattle.protocol.specs.Commands.{flash_id_command, flash_info_command, capability_command, chip_info_command, storage_command, erase_lba_command, erase_force_command, read_lba_command, write_lba_command, reset_command, switch_command}
use Rattle.protocol.specs.CommandBytes.{command_bytes, read_command, write_command}
use Rattle.protocol.specs.CommandMeets.{command_error_number, command_told, CommandMeets}
use Rattle.protocol.proofs.Reading.{read_short}
use Rattle.protocol.proofs.Trips.{reads_back}
use Rattle.std.specs.Prelude.{Result}
use Rattle.rule_number.specs.declared.OutputTooShort.{OutputTooShort}
use Rattle.std.specs.declared.result.Result.TheVariants.{Ok, Err}

-- two commands that differ in their tag alone, and one of them as bytes
abbrev one : CommandBlock
one = read_lba_command 1 0 1

abbrev other : CommandBlock
other = read_lba_command 2 0 1

abbrev zeros : List ℕ
zeros = replicate 31 0

abbrev sent : List ℕ
sent = command_bytes one ++ replicate 7 0

read_sent : read_command sent ≡ given one
read_sent = reads_back one (replicate 7 0) (record { tag = lit< tt; transfer = lit< tt; address = lit< tt; count = lit< tt }) (lit≤ tt)

-- a reader that refuses everything, whatever it tells
pub always_refusing : (r : Parse CommandBlock CommandBlockParseError) (n : ℕ) (values : List ℕ) → command_told r.answer r.signature ≡ refused n values
    → CommandMeets r (read_command sent) → ⊥
always_refusing r n values told meets = let z : ◌≡◌ {A = ℕ} 0 1 = cc (meets.tells, read_sent) in omega arith

-- a reader with one answer for all
pub fixed_answer : (r : Parse CommandBlock CommandBlockParseError) → CommandMeets r (read_command []) → CommandMeets r (read_command sent) → ⊥
fixed_answer r none some = always_refusing r 1 (0 ∷ []) (none.tells ∙ read_short [] (lit< tt)) some

-- a writer that writes one block for all
pub fixed_block : (r : Result ℕ OutputTooShort) (after : List ℕ) → WriteMeets r zeros after (write_command one 31) → WriteMeets r zeros after (write_command other 31) → ⊥
unfolding write_command writing command_bytes low_first high_first
fixed_block r after first second =
    let differ : ◌≡◌ {A = ℕ} 1 2 = ap (λ (l : List ℕ). get_or l 7 0) (sym first.leaves ∙ second.leaves) in omega arith

-- a writer that writes nothing
pub doing_nothing : (r : Result ℕ OutputTooShort) → WriteMeets r zeros zeros (write_command one 31) → ⊥
unfolding write_command writing command_bytes low_first high_first
doing_nothing r meets = let differ : ◌≡◌ {A = ℕ} 0 0x55 = ap (λ (l : List ℕ). get_or l 0 0) meets.leaves in omega arith

-- a block with another code than this one
abbrev Other : CommandBlock → CommandCode → Type 0
Other r code = r.cd_code ≡ code → ⊥

-- a constructor that asks for another code than its own, each of the eleven by itself
pub another_code : (r : CommandBlock) (tag first count : ℕ) (opcode : ResetOpcode) (index : StorageIndex)
    → (Other r ReadFlashId → r ≡ flash_id_command tag → ⊥)
    × (Other r ReadFlashInfo → r ≡ flash_info_command tag → ⊥)
    × (Other r ReadCapability → r ≡ capability_command tag → ⊥)
    × (Other r ReadChipInfo → r ≡ chip_info_command tag → ⊥)
    × (Other r GetStorageMedia → r ≡ storage_command tag → ⊥)
    × (Other r EraseLBA → r ≡ erase_lba_command tag first count → ⊥)
    × (Other r EraseForce → r ≡ erase_force_command tag first count → ⊥)
    × (Other r ReadLBA → r ≡ read_lba_command tag first count → ⊥)
    × (Other r WriteLBA → r ≡ write_lba_command tag first count → ⊥)
    × (Other r DeviceReset → r ≡ reset_command tag opcode → ⊥)
    × (Other r SwitchStorage → r ≡ switch_command tag index → ⊥)
another_code r tag first count opcode index = (
  (λ other e. other (ap (λ (b : CommandBlock). b.cd_code) e)),
  (λ other e. other (ap (λ (b : CommandBlock). b.cd_code) e)),
  (λ other e. other (ap (λ (b : CommandBlock). b.cd_code) e)),
  (λ other e. other (ap (λ (b : CommandBlock). b.cd_code) e)),
  (λ other e. other (ap (λ (b : CommandBlock). b.cd_code) e)),
  (λ other e. other (ap (λ (b : CommandBlock). b.cd_code) e)),
  (λ other e. other (ap (λ (b : CommandBlock). b.cd_code) e)),
  (λ other e. other (ap (λ (b : CommandBlock). b.cd_code) e)),
  (λ other e. other (ap (λ (b : CommandBlock). b.cd_code) e)),
  (λ other e. other (ap (λ (b : CommandBlock). b.cd_code) e)),
  (λ other e. other (ap (λ (b : CommandBlock). b.cd_code) e)),
)

one_tag : (r a b : CommandBlock) → (a.tag ≡ b.tag → ⊥) → r ≡ a → r ≡ b → ⊥
one_tag r a b apart e f = apart (ap (λ (x : CommandBlock). x.tag) (sym e ∙ f))

-- a constructor that drops the tag, each of the eleven by itself: one block for tags 1 and 2
pub tag_dropped : (r : CommandBlock) (first count : ℕ) (opcode : ResetOpcode) (index : StorageIndex)
    → (r ≡ flash_id_command 1 → r ≡ flash_id_command 2 → ⊥)
    × (r ≡ flash_info_command 1 → r ≡ flash_info_command 2 → ⊥)
    × (r ≡ capability_command 1 → r ≡ capability_command 2 → ⊥)
    × (r ≡ chip_info_command 1 → r ≡ chip_info_command 2 → ⊥)
    × (r ≡ storage_command 1 → r ≡ storage_command 2 → ⊥)
    × (r ≡ erase_lba_command 1 first count → r ≡ erase_lba_command 2 first count → ⊥)
    × (r ≡ erase_force_command 1 first count → r ≡ erase_force_command 2 first count → ⊥)
    × (r ≡ read_lba_command 1 first count → r ≡ read_lba_command 2 first count → ⊥)
    × (r ≡ write_lba_command 1 first count → r ≡ write_lba_command 2 first count → ⊥)
    × (r ≡ reset_command 1 opcode → r ≡ reset_command 2 opcode → ⊥)
    × (r ≡ switch_command 1 index → r ≡ switch_command 2 index → ⊥)
tag_dropped r first count opcode index = (
  one_tag r (flash_id_command 1) (flash_id_command 2) (λ e. omega arith),
  one_tag r (flash_info_command 1) (flash_info_command 2) (λ e. omega arith),
  one_tag r (capability_command 1) (capability_command 2) (λ e. omega arith),
  one_tag r (chip_info_command 1) (chip_info_command 2) (λ e. omega arith),
  one_tag r (storage_command 1) (storage_command 2) (λ e. omega arith),
  one_tag r (erase_lba_command 1 first count) (erase_lba_command 2 first count) (λ e. omega arith),
  one_tag r (erase_force_command 1 first count) (erase_force_command 2 first count) (λ e. omega arith),
  one_tag r (read_lba_command 1 first count) (read_lba_command 2 first count) (λ e. omega arith),
  one_tag r (write_lba_command 1 first count) (write_lba_command 2 first count) (λ e. omega arith),
  one_tag r (reset_command 1 opcode) (reset_command 2 opcode) (λ e. omega arith),
  one_tag r (switch_command 1 index) (switch_command 2 index) (λ e. omega arith),
)

-- two blocks that differ in every field, the first of them with different numbers in all its fields
abbrev asked : CommandBlock
asked =
    record { tag = 1; transfer_length = 2; flags = In; lun = 4; cdb_length = 5; cd_code = ReadLBA; cd_opcode = 3; cd_address = 7; cd_length = 8 }

abbrev asked_otherwise : CommandBlock
asked_otherwise =
    record {
      tag = 11;
      transfer_length = 12;
      flags = Out;
      lun = 14;
      cdb_length = 15;
      cd_code = WriteLBA;
      cd_opcode = 13;
      cd_address = 17;
      cd_length = 18;
    }

-- an accessor with one answer for all, each of the seven by itself
pub accessor_fixed : (n : ℕ) (d : Direction) (c : CommandCode)
    → (n ≡ asked.tag → n ≡ asked_otherwise.tag → ⊥) × (n ≡ asked.transfer_length → n ≡ asked_otherwise.transfer_length → ⊥)
    × (d ≡ asked.flags → d ≡ asked_otherwise.flags → ⊥) × (c ≡ asked.cd_code → c ≡ asked_otherwise.cd_code → ⊥)
    × (n ≡ asked.cd_opcode → n ≡ asked_otherwise.cd_opcode → ⊥) × (n ≡ asked.cd_address → n ≡ asked_otherwise.cd_address → ⊥)
    × (n ≡ asked.cd_length → n ≡ asked_otherwise.cd_length → ⊥)
accessor_fixed n d c = (
  (λ e f. omega arith),
  (λ e f. omega arith),
  (λ e f. let z : ◌≡◌ {A = ℕ} 0 1 = cc in omega arith),
  (λ e f. let z : ◌≡◌ {A = ℕ} 0 1 = cc in omega arith),
  (λ e f. omega arith),
  (λ e f. omega arith),
  (λ e f. omega arith),
)

-- an accessor that gives another field, each of the seven by itself: for the direction the other one, for the code the one whose number is the opcode
pub accessor_of_another_field : (asked.cd_address ≡ asked.tag → ⊥) × (asked.tag ≡ asked.transfer_length → ⊥) × (Out ≡ asked.flags → ⊥)
    × (TestBadBlock ≡ asked.cd_code → ⊥) × (asked.lun ≡ asked.cd_opcode → ⊥) × (asked.tag ≡ asked.cd_address → ⊥)
    × (asked.cdb_length ≡ asked.cd_length → ⊥)
accessor_of_another_field = (
  (λ e. omega arith),
  (λ e. omega arith),
  (λ e. let z : ◌≡◌ {A = ℕ} 0 1 = cc in omega arith),
  (λ e. let z : ◌≡◌ {A = ℕ} 0 1 = cc in omega arith),
  (λ e. omega arith),
  (λ e. omega arith),
  (λ e. omega arith),
)

-- a reader for which fewer than 31 bytes are enough
pub fewer_bytes_read : (bytes : List ℕ) (r : Parse CommandBlock CommandBlockParseError) (b : CommandBlock) → length bytes < 31 → command_told r.answer r.signature ≡ given b
    → CommandMeets r (read_command bytes) → ⊥
fewer_bytes_read bytes r b few told meets = let z : ◌≡◌ {A = ℕ} 0 1 = cc (meets.tells, read_short bytes few) in omega arith

-- the lun that is told
abbrev lun_in : Told CommandBlock → ℕ
lun_in (given b) = b.lun
lun_in (refused n values) = 0

-- a reader that takes the lun from the byte beside, where the CDB length stands
pub lun_read_beside : (r : Parse CommandBlock CommandBlockParseError) (b : CommandBlock) → b.lun ≡ one.cdb_length → command_told r.answer r.signature ≡ given b
    → CommandMeets r (read_command sent) → ⊥
lun_read_beside r b beside told meets =
    let differ : b.lun ≡ one.lun = ap lun_in (sym told ∙ meets.tells ∙ read_sent) in omega arith

-- a writer for which 24 bytes are enough
pub twenty_four_bytes_written : (b : CommandBlock) (n : ℕ) (before after : List ℕ) → WriteMeets (Ok n) before after (write_command b 24) → ⊥
unfolding write_command writing or_refuse written_told
twenty_four_bytes_written b n before after meets = let z : ◌≡◌ {A = ℕ} 0 1 = cc meets.tells in omega arith

-- a writer that refuses every buffer
pub every_buffer_refused : (b : CommandBlock) (before after : List ℕ) → WriteMeets (Err (record {})) before after (write_command b 31) → ⊥
unfolding write_command writing or_refuse written_told
every_buffer_refused b before after meets = let z : ◌≡◌ {A = ℕ} 0 1 = cc meets.tells in omega arith

-- a writer that puts the tag in the other order
pub tag_in_the_other_order : (r : Result ℕ OutputTooShort) (after : List ℕ) → take 4 (drop 4 after) ≡ low_first 4 one.tag → WriteMeets r zeros after (write_command one 31) → ⊥
unfolding write_command writing command_bytes low_first high_first
tag_in_the_other_order r after wrong meets =
    let differ : ◌≡◌ {A = ℕ} 0 1 = ap (λ (l : List ℕ). get_or (take 4 (drop 4 l)) 0 0) (sym meets.leaves) ∙ ap (λ (l : List ℕ). get_or l 0 0) wrong in omega arith

-- a writer that puts the transfer length, 512, in the other order
pub transfer_length_in_the_other_order : (r : Result ℕ OutputTooShort) (after : List ℕ) → take 4 (drop 8 after) ≡ high_first 4 one.transfer_length
    → WriteMeets r zeros after (write_command one 31) → ⊥
unfolding write_command writing command_bytes low_first high_first
transfer_length_in_the_other_order r after wrong meets =
    let differ : ◌≡◌ {A = ℕ} 2 0 = ap (λ (l : List ℕ). get_or (take 4 (drop 8 l)) 1 0) (sym meets.leaves) ∙ ap (λ (l : List ℕ). get_or l 1 0) wrong in omega arith

-- a writer that puts zeros into bytes 24 to 30, where there were ones
pub tail_written : (r : Result ℕ OutputTooShort) → WriteMeets r (replicate 31 1) (command_bytes one ++ replicate 7 0) (write_command one 31) → ⊥
unfolding write_command writing command_bytes low_first high_first
tail_written r meets = let differ : ◌≡◌ {A = ℕ} 0 1 = ap (λ (l : List ℕ). get_or l 24 0) meets.leaves in omega arith

-- `CommandBlockParseError::number` with one number for all
pub one_number_for_errors : (n : ℕ) → n ≡ command_error_number InvalidSignature → n ≡ command_error_number (UnknownFlags 1) → ⊥
unfolding command_error_number
one_number_for_errors n e f = omega arith

-- `CommandBlockParseError::number` with the byte that was refused
pub byte_for_number : 2 ≡ command_error_number (UnknownCommandCode 2) → ⊥
unfolding command_error_number
byte_for_number e = omega arith

-- `number` of a command answer that tells 0 for a refusal
pub refusal_told_as_0 : 0 ≡ number (command_told (Err (InvalidLength 30)) no_signature) → ⊥
unfolding number command_told command_error_number
refusal_told_as_0 e = omega arith

-- `number` of a command answer that tells the code where a command was read
pub code_for_number : code_number one.cd_code ≡ number (command_told (Ok one) no_signature) → ⊥
unfolding number command_told
code_for_number e = omega arith
