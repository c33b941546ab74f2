-- The stand-in as it stood before it had a second variety: its transaction table, what its effects do, its bulk calls, and a turn of a run over them.
-- The text is the one of then, but that a success is written out wherever a status stands now, and that effects and replies that there were not do
-- nothing. The words that it is made of (`refuses`, `done`, `is_erase`, `reply_size`, `range_rule`, `length_rule`, `flash_sectors`, `keeps`, `bulk`,
-- `wrote`, `got`) are today's; of these `reply_size` has the storage more, and `bulk` hands the variety on.
use Rattle.std.specs.Prelude.{ℕ, ◌*◌, ◌/◌, ◌≡◌, not, List, [], ◌∷◌, eqb, length, take, replicate}
use Rattle.promise.specs.Told.{Told, given, refused}
use Rattle.promise.specs.Bytes.{field, front}
use Rattle.promise.specs.Rules.{rule, pick, or_refuse}
use Rattle.promise.specs.Over.{over}
use Rattle.promise.specs.Run.{Turned, ends}
use Rattle.protocol_codes.specs.Numbers.{code_number}
use Rattle.protocol_codes.specs.Reading.{reset_of}
use Rattle.protocol_codes.specs.declared.ResetOpcode.{ResetOpcode}
use Rattle.protocol_codes.specs.declared.Direction.{Direction}
use Rattle.protocol_codes.specs.declared.Direction.TheVariants.{In, Out}
use Rattle.protocol_codes.specs.declared.CommandCode.TheVariants.{ReadFlashId, ReadFlashInfo, ReadChipInfo, ReadCapability, ReadLBA, WriteLBA, DeviceReset}
use Rattle.protocol_codes.specs.declared.Status.TheVariants.{SUCCESS}
use Rattle.protocol_bytes.specs.Sector.{sector_size}
use Rattle.protocol_status.specs.StatusBytes.{status_bytes}
use Rattle.protocol.specs.CommandBytes.{command_length, read_command}
use Rattle.protocol.specs.declared.CommandBlock.{CommandBlock}
use Rattle.operation_finish.specs.Reply.{Reply}
use Rattle.operation.specs.Step.{Asks, writes_command, writes_data, reads, finished, usb_step}
use Rattle.mock_base.specs.Config.{flash_info}
use Rattle.mock_base.specs.Flash.{flash_sectors}
use Rattle.mock_base.specs.declared.cells.Variety.TheVariants.{First}
use Rattle.mock_base.specs.declared.config.MockDeviceConfig.{MockDeviceConfig}
use Rattle.mock_base.specs.declared.range.FlashRange.{FlashRange}
use Rattle.mock_table.specs.Turn.{Turn, refuses, done, has_code, is_erase, is_in, is_out, reply_size, Quiet}
use Rattle.mock_table.specs.Table.{range_of, range_rule, length_rule}
use Rattle.mock_table.specs.declared.session.CommandState.{CommandState}
use Rattle.mock_table.specs.declared.session.CommandState.TheVariants.{None, IO, Status}
use Rattle.mock_table.specs.declared.session.Session.{Session}
use Rattle.mock_table.specs.declared.outcome.Effect.{Effect}
use Rattle.mock_table.specs.declared.outcome.Effect.TheVariants.{Nothing, Fill, Store, Program, Supply, Reply as Replies}
use Rattle.mock_table.specs.declared.outcome.ReplyKind.{ReplyKind}
use Rattle.mock_table.specs.declared.outcome.ReplyKind.TheVariants as reply
use Rattle.mock_effects.specs.Effects.{erased}
use Rattle.mock_effects.specs.Steps.{Step, keeps}
use Rattle.mock.specs.Device.{Call, session_of, bulk}
use Rattle.mock.specs.declared.device.MockState.{MockState}
use Rattle.run_turn.specs.Turn.{UsbState, usb_state, wrote, buffer_for, got}
use Rattle.std.specs.Prelude.{Option}
use Rattle.std.specs.declared.option.Option.TheVariants.{Some, None}

-- which way the data of a command over sectors goes
unfoldable pub moved_by : Direction → FlashRange → Effect
moved_by Out range = Store range
moved_by In range = Supply range

-- range (57); length (50), count times 512; then awaits status
unfoldable pub sector_turn : Option ResetOpcode → CommandBlock → Direction → ℕ → ℕ → Turn
sector_turn last c direction sectors actual =
    or_refuse (refuses last) (range_rule c sectors ∷ length_rule (c.cd_length * sector_size) actual ∷ [])
    (done (Status c SUCCESS) last (moved_by direction (range_of c)))

-- reset (52) stores its opcode
unfoldable pub stored_reset : Told ResetOpcode → (Option ResetOpcode) → CommandBlock → Turn
stored_reset (given opcode) last c = done (Status c SUCCESS) (Some opcode) Nothing
stored_reset (refused number values) last c = refuses last number values

abbrev pub reset_turn : Option ResetOpcode → CommandBlock → Turn
reset_turn last c = stored_reset (reset_of c.cd_opcode) last c

-- transfer length 0: erases (both codes, 57) fill with 0xFF, reset (52) stores its opcode, others 53; then awaits status
unfoldable pub zero_length_turn : Option ResetOpcode → CommandBlock → ℕ → Turn
zero_length_turn last c sectors =
    pick (is_erase c) (or_refuse (refuses last) (range_rule c sectors ∷ []) (done (Status c SUCCESS) last (Fill (range_of c))))
    (pick (has_code c DeviceReset) (reset_turn last c)
    (refuses last 53 (code_number c.cd_code ∷ [])))

-- write in none: parse (56); transfer length 0: as above; non-zero: awaits data
unfoldable pub start_turn : Told CommandBlock → (Option ResetOpcode) → ℕ → Turn
start_turn (given c) last sectors = pick (eqb c.transfer_length 0) (zero_length_turn last c sectors) (done (IO c) last Nothing)
start_turn (refused number values) last sectors = refuses last 56 (number ∷ values)

-- write awaiting data: direction out, else 55; code WriteLBA, else 55; range (57); length (50)
unfoldable pub write_io_turn : Option ResetOpcode → CommandBlock → ℕ → ℕ → Turn
write_io_turn last c sectors actual =
    or_refuse (refuses last) (rule (not (is_out c.flags)) 55 [] ∷ rule (not (has_code c WriteLBA)) 55 [] ∷ [])
    (sector_turn last c Out sectors actual)

-- a bulk write, by the transaction; awaiting status: 55
unfoldable pub write_row : CommandState → (Option ResetOpcode) → ℕ → List ℕ → Turn
write_row None last sectors bytes = start_turn (read_command bytes) last sectors
write_row (IO c) last sectors bytes = write_io_turn last c sectors (length bytes)
write_row (Status c status) last sectors bytes = refuses last 55 []

abbrev pub write_turn : Session → ℕ → List ℕ → Turn
write_turn s sectors bytes = write_row s.current_command s.last_reset sectors bytes

-- the four replies (50 on length)
unfoldable pub reply_turn : Option ResetOpcode → CommandBlock → ReplyKind → ℕ → Turn
reply_turn last c kind room = or_refuse (refuses last) (length_rule (reply_size kind) room ∷ []) (done (Status c SUCCESS) last (Replies kind))

-- .. or ReadLBA (57, then 50); other codes 54
unfoldable pub code_turn : Option ResetOpcode → CommandBlock → ℕ → ℕ → Turn
code_turn last c sectors room =
    pick (has_code c ReadFlashId) (reply_turn last c reply.FlashId room)
    (pick (has_code c ReadFlashInfo) (reply_turn last c reply.FlashInfo room)
    (pick (has_code c ReadChipInfo) (reply_turn last c reply.ChipInfo room)
    (pick (has_code c ReadCapability) (reply_turn last c reply.Capability room)
    (pick (has_code c ReadLBA) (sector_turn last c In sectors room)
    (refuses last 54 [])))))

-- read awaiting data: direction in, else 54; then as above
unfoldable pub read_io_turn : Option ResetOpcode → CommandBlock → ℕ → ℕ → Turn
read_io_turn last c sectors room = or_refuse (refuses last) (rule (not (is_in c.flags)) 54 [] ∷ []) (code_turn last c sectors room)

-- awaiting status: a 13-byte buffer gets tag, residue 0, success; other sizes 54
unfoldable pub status_turn : Option ResetOpcode → CommandBlock → ℕ → Turn
status_turn last c room =
    or_refuse (refuses last) (rule (not (eqb room (reply_size (reply.Status c.tag SUCCESS)))) 54 [] ∷ []) (done None last (Replies (reply.Status c.tag SUCCESS)))

-- a bulk read into `room` bytes, by the transaction; in none: 54
unfoldable pub read_row : CommandState → (Option ResetOpcode) → ℕ → ℕ → Turn
read_row None last sectors room = refuses last 54 []
read_row (IO c) last sectors room = read_io_turn last c sectors room
read_row (Status c status) last sectors room = status_turn last c room

abbrev pub read_turn : Session → ℕ → ℕ → Turn
read_turn s sectors room = read_row s.current_command s.last_reset sectors room

-- the flash after a write's effect: `bytes` are the call's data
unfoldable pub flash_after : Effect → List ℕ → List ℕ → List ℕ
flash_after Nothing bytes flash = flash
flash_after (Fill range) bytes flash = over (range.first * sector_size) (replicate (range.count * sector_size) erased) flash
flash_after (Store range) bytes flash = over (range.first * sector_size) bytes flash
flash_after (Program range) bytes flash = flash
flash_after (Supply range) bytes flash = flash
flash_after (Replies kind) bytes flash = flash

-- a status has the command's tag, residue 0 and success
unfoldable pub reply_bytes : MockDeviceConfig → ℕ → ReplyKind → List ℕ
reply_bytes config sectors reply.FlashId = config.flash_id
reply_bytes config sectors reply.FlashInfo = flash_info config sectors
reply_bytes config sectors reply.ChipInfo = config.chip_info
reply_bytes config sectors reply.Capability = config.capability
reply_bytes config sectors reply.Storage = []
reply_bytes config sectors (reply.Status tag status) = status_bytes (record { tag = tag; residue = 0; status = SUCCESS })

-- a read's buffer after its effect
unfoldable pub buffer_after : MockDeviceConfig → Effect → List ℕ → List ℕ → List ℕ
buffer_after config Nothing flash buffer = buffer
buffer_after config (Fill range) flash buffer = buffer
buffer_after config (Store range) flash buffer = buffer
buffer_after config (Program range) flash buffer = buffer
buffer_after config (Supply range) flash buffer = front (field (range.first * sector_size) (range.count * sector_size) flash) buffer
buffer_after config (Replies kind) flash buffer = front (reply_bytes config (length flash / sector_size) kind) buffer

unfoldable pub write_step_of : Told ℕ → Session → List ℕ → List ℕ → Step
write_step_of (refused number values) s flash bytes = keeps s flash number values
write_step_of (given sectors) s flash bytes =
    record {
      told = (write_turn s sectors bytes).told;
      next = (write_turn s sectors bytes).next;
      leaves = flash_after (write_turn s sectors bytes).effect bytes flash;
    }

unfoldable pub write_step : Session → List ℕ → List ℕ → Step
write_step s flash bytes = write_step_of (flash_sectors (length flash)) s flash bytes

unfoldable pub read_step_of : Told ℕ → Session → MockDeviceConfig → List ℕ → List ℕ → Step
read_step_of (refused number values) s config flash buffer = keeps s buffer number values
read_step_of (given sectors) s config flash buffer =
    record {
      told = (read_turn s sectors (length buffer)).told;
      next = (read_turn s sectors (length buffer)).next;
      leaves = buffer_after config (read_turn s sectors (length buffer)).effect flash buffer;
    }

unfoldable pub read_step : Session → MockDeviceConfig → List ℕ → List ℕ → Step
read_step s config flash buffer = read_step_of (flash_sectors (length flash)) s config flash buffer

-- a bulk call is a step of the session
unfoldable pub write_bulk : MockState → List ℕ → List ℕ → Call
write_bulk s flash bytes = bulk s (write_step (session_of s) flash bytes)

unfoldable pub read_bulk : MockState → List ℕ → List ℕ → Call
read_bulk s flash buffer = bulk s (read_step (session_of s) s.config flash buffer)

-- a turn of a run over these calls
unfoldable pub transfers : Told Asks → List ℕ → UsbState → Turned Reply UsbState
transfers (given writes_command) sent s = wrote s (write_bulk s.device s.flash sent)
transfers (given (writes_data n)) sent s = wrote s (write_bulk s.device s.flash (take n s.«data»))
transfers (given (reads asked n)) sent s = got asked s (read_bulk s.device s.flash (buffer_for asked n s))
transfers (given (finished reply)) sent s = ends (given reply) s
transfers (refused number values) sent s = ends (refused number values) s

unfoldable pub usb_turn : UsbState → Turned Reply UsbState
usb_turn s =
    transfers (usb_step s.operation (length s.«data») command_length).told (usb_step s.operation (length s.«data») command_length).sent
    (usb_state (usb_step s.operation (length s.«data») command_length).next s.device s.flash s.«data»)

-- a device of the first variety with no FAILED status pending: those that there were then
pub record AsThen (s : MockState) : Type 0 where
  pub own : s.variety ≡ First
  pub quiet : Quiet s.current_command
