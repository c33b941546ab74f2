-- Lists of bytes, and that what goes out for a command is one: the wide fields are written byte by byte, and the others hold one.
use Prim.Native.Nat.{ℕ, zero, suc, ◌+◌, ◌/◌, ◌%◌, ◌<◌}
use mathlib.Core.Path.{◌≡◌, sym, subst}
use mathlib.Core.List.{List, [], ◌∷◌, ◌++◌, reverse_aux}
use native.Mathlib.Omega.{arith}
use lib.ListN.{take, drop, replicate}
use lib.Seq.{get_or-drop}
use Rattle.promise.specs.Bytes.{low_first, high_first, AreBytes}
use Rattle.protocol_codes.specs.Numbers.{direction_number, code_number, reset_number}
use Rattle.protocol_codes.specs.declared.Direction.{Direction}
use Rattle.protocol_codes.specs.declared.Direction.TheVariants.{In, Out}
use Rattle.protocol_codes.specs.declared.CommandCode.{CommandCode}
use Rattle.protocol_codes.specs.declared.CommandCode.TheVariants as code
use Rattle.protocol_codes.specs.declared.ResetOpcode.{ResetOpcode}
use Rattle.protocol_codes.specs.declared.ResetOpcode.TheVariants as reset
use Rattle.protocol.specs.CommandBytes.{command_bytes}
use Rattle.protocol.specs.declared.CommandBlock.{CommandBlock}
use Rattle.operation.specs.declared.steps.UsbOperation.{UsbOperation}
use Rattle.operation.specs.Record.{command_out}
use Rattle.operation.specs.Made.{Starts, chip_info_lem, flash_id_lem, flash_info_lem, capability, storage, erase_lba_lem, erase_force_lem, reset_device_lem, switch_storage_lem, read_lba_lem, write_lba_lem, Made, at_first, stepped, gave}
use Rattle.operation.proofs.Made.{made_stands}

pub are_none : AreBytes []
are_none i = omega arith

pub are_cons : (b : ℕ) (bytes : List ℕ) → b < 256 → AreBytes bytes → AreBytes (b ∷ bytes)
are_cons b bytes hb h zero = hb
are_cons b bytes hb h (suc i) = h i

pub are_joined : (bytes behind : List ℕ) → AreBytes bytes → AreBytes behind → AreBytes (bytes ++ behind)
are_joined [] behind h hb = hb
are_joined (b ∷ bytes) behind h hb = are_cons b (bytes ++ behind) (h 0) (are_joined bytes behind (λ i. h (suc i)) hb)

pub are_take : (n : ℕ) (bytes : List ℕ) → AreBytes bytes → AreBytes (take n bytes)
are_take zero bytes h = are_none
are_take (suc n) [] h = are_none
are_take (suc n) (b ∷ bytes) h = are_cons b (take n bytes) (h 0) (are_take n bytes (λ i. h (suc i)))

pub are_drop : (n : ℕ) (bytes : List ℕ) → AreBytes bytes → AreBytes (drop n bytes)
are_drop n bytes h i = rw (get_or-drop n bytes i 0) (h (n + i))

pub are_copies : (n b : ℕ) → b < 256 → AreBytes (replicate n b)
are_copies zero b h = are_none
are_copies (suc n) b h = are_cons b (replicate n b) h (are_copies n b h)

are_reversed : (bytes behind : List ℕ) → AreBytes bytes → AreBytes behind → AreBytes (reverse_aux bytes behind)
are_reversed [] behind h hb = hb
are_reversed (b ∷ bytes) behind h hb = are_reversed bytes (b ∷ behind) (λ i. h (suc i)) (are_cons b behind (h 0) hb)

are_low : (k v : ℕ) → AreBytes (low_first k v)
unfolding low_first
are_low zero v = are_none
are_low (suc k) v = are_cons (v % 256) (low_first k (v / 256)) (omega arith) (are_low k (v / 256))

are_high : (k v : ℕ) → AreBytes (high_first k v)
unfolding high_first
are_high k v = are_reversed (low_first k v) [] (are_low k v) are_none

direction_byte : (d : Direction) → direction_number d < 256
direction_byte In = omega arith
direction_byte Out = omega arith

code_byte : (c : CommandCode) → code_number c < 256
code_byte code.TestUnitReady = omega arith
code_byte code.ReadFlashId = omega arith
code_byte code.TestBadBlock = omega arith
code_byte code.ReadSector = omega arith
code_byte code.WriteSector = omega arith
code_byte code.EraseNormal = omega arith
code_byte code.EraseForce = omega arith
code_byte code.ReadLBA = omega arith
code_byte code.WriteLBA = omega arith
code_byte code.EraseSystemDisk = omega arith
code_byte code.ReadSDram = omega arith
code_byte code.WriteSDram = omega arith
code_byte code.ExecuteSDram = omega arith
code_byte code.ReadFlashInfo = omega arith
code_byte code.ReadChipInfo = omega arith
code_byte code.SetResetFlag = omega arith
code_byte code.WriteEFuse = omega arith
code_byte code.ReadEFuse = omega arith
code_byte code.ReadSPIFlash = omega arith
code_byte code.WriteSPIFlash = omega arith
code_byte code.WriteNewEfuse = omega arith
code_byte code.ReadNewEfuse = omega arith
code_byte code.EraseLBA = omega arith
code_byte code.SwitchStorage = omega arith
code_byte code.GetStorageMedia = omega arith
code_byte code.ReadCapability = omega arith
code_byte code.DeviceReset = omega arith

pub reset_byte : (opcode : ResetOpcode) → reset_number opcode < 256
reset_byte reset.Reset = omega arith
reset_byte reset.MSC = omega arith
reset_byte reset.PowerOff = omega arith
reset_byte reset.Maskrom = omega arith
reset_byte reset.Disconnect = omega arith

-- the same, so that the bytes can be read off
record Are (bytes : List ℕ) : Type 0 where
  all : AreBytes bytes

one : {b : ℕ} {bytes : List ℕ} → b < 256 → Are bytes → Are (b ∷ bytes)
one {b} {bytes} byte rest = record { all = are_cons b bytes byte rest.all }

some : (bytes : List ℕ) {behind : List ℕ} → AreBytes bytes → Are behind → Are (bytes ++ behind)
some bytes {behind} are rest = record { all = are_joined bytes behind are rest.all }

-- whatever the tag, the lengths and the address are
command_bytes_lem : (c : CommandBlock) → c.lun < 256 → c.cdb_length < 256 → c.cd_opcode < 256 → Are (command_bytes c)
unfolding command_bytes
command_bytes_lem c lun cdb opcode =
    one (omega arith) (one (omega arith) (one (omega arith) (one (omega arith)
    (some (high_first 4 c.tag) (are_high 4 c.tag)
    (some (low_first 4 c.transfer_length) (are_low 4 c.transfer_length)
    (one (direction_byte c.flags)
    (one lun
    (one cdb
    (one (code_byte c.cd_code)
    (one opcode
    (some (high_first 4 c.cd_address) (are_high 4 c.cd_address)
    (one (omega arith) (record { all = are_high 2 c.cd_length })))))))))))))

pub command_goes_out_as_bytes : (op : UsbOperation) → op.command.lun < 256 → op.command.cdb_length < 256 → op.command.cd_opcode < 256
    → AreBytes (command_out op)
command_goes_out_as_bytes op lun cdb opcode =
    are_joined (command_bytes op.command) (replicate 7 0) (command_bytes_lem op.command lun cdb opcode).all (are_copies 7 0 (omega arith))

-- each of the eleven starts; an opcode is a byte, as its field's type has it
pub start_goes_out_as_bytes : (start : UsbOperation) → Starts start → start.command.cd_opcode < 256 → AreBytes (command_out start)
start_goes_out_as_bytes start (chip_info_lem tag) byte = command_goes_out_as_bytes start (omega arith) (omega arith) byte
start_goes_out_as_bytes start (flash_id_lem tag) byte = command_goes_out_as_bytes start (omega arith) (omega arith) byte
start_goes_out_as_bytes start (flash_info_lem tag) byte = command_goes_out_as_bytes start (omega arith) (omega arith) byte
start_goes_out_as_bytes start (capability tag) byte = command_goes_out_as_bytes start (omega arith) (omega arith) byte
start_goes_out_as_bytes start (storage tag) byte = command_goes_out_as_bytes start (omega arith) (omega arith) byte
start_goes_out_as_bytes start (erase_lba_lem tag first count) byte = command_goes_out_as_bytes start (omega arith) (omega arith) byte
start_goes_out_as_bytes start (erase_force_lem tag first count) byte = command_goes_out_as_bytes start (omega arith) (omega arith) byte
start_goes_out_as_bytes start (reset_device_lem tag opcode) byte = command_goes_out_as_bytes start (omega arith) (omega arith) byte
start_goes_out_as_bytes start (switch_storage_lem tag index) byte = command_goes_out_as_bytes start (omega arith) (omega arith) byte
start_goes_out_as_bytes start (read_lba_lem tag first size) byte = command_goes_out_as_bytes start (omega arith) (omega arith) byte
start_goes_out_as_bytes start (write_lba_lem tag first size) byte = command_goes_out_as_bytes start (omega arith) (omega arith) byte

started : (start op : UsbOperation) → Made start op → Starts start
started start _ (at_first s) = s
started start _ (stepped op r lent before after made meets) = started start op made
started start _ (gave op r bytes before after made meets) = started start op made

-- and whatever calls make of it
pub made_goes_out_as_bytes : (start op : UsbOperation) → Made start op → op.command.cd_opcode < 256 → AreBytes (command_out op)
made_goes_out_as_bytes start op made byte =
    let same : op.command ≡ start.command = (made_stands start op made).command in
    let own : start.command.cd_opcode < 256 = subst (λ (c : CommandBlock). c.cd_opcode < 256) same byte in
    subst (λ (c : CommandBlock). AreBytes (command_bytes c ++ replicate 7 0)) (sym same) (start_goes_out_as_bytes start (started start op made) own)
