-- The transaction table of the rules. Each row is a session's transaction and a bulk call.
use Rattle.std.specs.Prelude.{ℕ, ◌*◌, not, List, [], ◌∷◌, eqb, length}
use Rattle.promise.specs.Told.{Told, given, refused}
use Rattle.promise.specs.Rules.{Rule, rule, pick, or_refuse}
use Rattle.protocol_codes.specs.Numbers.{code_number}
use Rattle.protocol_codes.specs.Reading.{reset_of}
use Rattle.protocol_codes.specs.declared.ResetOpcode.{ResetOpcode}
use Rattle.protocol_codes.specs.declared.Direction.{Direction}
use Rattle.protocol_codes.specs.declared.Direction.TheVariants.{In, Out}
use Rattle.protocol_codes.specs.declared.CommandCode.TheVariants.{ReadFlashId, ReadFlashInfo, ReadChipInfo, ReadCapability, ReadLBA, WriteLBA, DeviceReset}
use Rattle.protocol_codes.specs.declared.Status as told
use Rattle.protocol_codes.specs.declared.Status.TheVariants.{SUCCESS}
use Rattle.protocol_bytes.specs.Sector.{sector_size}
use Rattle.protocol.specs.CommandBytes.{read_command}
use Rattle.protocol.specs.declared.CommandBlock.{CommandBlock}
use Rattle.mock_base.specs.Flash.{fit_rule}
use Rattle.mock_base.specs.declared.cells.Variety.{Variety}
use Rattle.mock_base.specs.declared.range.FlashRange.{FlashRange}
use Rattle.mock_table.specs.Turn.{Turn, refuses, done, has_code, is_erase, is_in, is_out, reply_size}
use Rattle.mock_table.specs.Ways.{moved_by, splits, switches, switched, tells_storage}
use Rattle.mock_table.specs.declared.session.CommandState.{CommandState}
use Rattle.mock_table.specs.declared.session.CommandState.TheVariants.{None, IO, Status}
use Rattle.mock_table.specs.declared.session.Session.{Session}
use Rattle.mock_table.specs.declared.outcome.Effect.TheVariants.{Nothing, Fill, Reply}
use Rattle.mock_table.specs.declared.outcome.ReplyKind.{ReplyKind}
use Rattle.mock_table.specs.declared.outcome.ReplyKind.TheVariants as reply
use Rattle.std.specs.Prelude.{Option}
use Rattle.std.specs.declared.option.Option.TheVariants.{Some}

-- the sectors that a command names
abbrev pub range_of : CommandBlock → FlashRange
range_of c = record { first = c.cd_address; count = c.cd_length }

-- 57: the range is not within the flash's sectors
abbrev pub range_rule : CommandBlock → ℕ → Rule
range_rule c sectors = fit_rule sectors c.cd_address c.cd_length

-- 50: (expected, actual)
abbrev pub length_rule : ℕ → ℕ → Rule
length_rule expected actual = rule (not (eqb actual expected)) 50 (expected ∷ actual ∷ [])

-- range (57); length (50), count times 512; then awaits status
unfoldable pub sector_turn : Variety → Option ResetOpcode → CommandBlock → Direction → ℕ → ℕ → Turn
sector_turn v last c direction sectors actual =
    or_refuse (refuses last) (range_rule c sectors ∷ length_rule (c.cd_length * sector_size) actual ∷ [])
    (done (Status c SUCCESS) last (moved_by v direction (range_of c)))

-- reset (52) stores its opcode
unfoldable pub stored_reset : Told ResetOpcode → Option ResetOpcode → CommandBlock → Turn
stored_reset (given opcode) last c = done (Status c SUCCESS) (Some opcode) Nothing
stored_reset (refused number values) last c = refuses last number values

abbrev pub reset_turn : Option ResetOpcode → CommandBlock → Turn
reset_turn last c = stored_reset (reset_of c.cd_opcode) last c

-- an erase: 57; of NOR 63, an address or a count that isn't a multiple of the block size
unfoldable pub erase_rules : Variety → ℕ → CommandBlock → ℕ → List Rule
erase_rules v block c sectors = range_rule c sectors ∷ rule (splits v block c) 63 [] ∷ []

-- erases (both codes) fill with 0xFF; then awaits status
unfoldable pub erase_turn : Variety → ℕ → Option ResetOpcode → CommandBlock → ℕ → Turn
erase_turn v block last c sectors = or_refuse (refuses last) (erase_rules v block c sectors) (done (Status c SUCCESS) last (Fill (range_of c)))

-- transfer length 0: erases (57, 63), reset (52) stores its opcode, NOR takes the switch, others 53; then awaits status
unfoldable pub zero_length_turn : Variety → ℕ → Option ResetOpcode → CommandBlock → ℕ → Turn
zero_length_turn v block last c sectors =
    pick (is_erase c) (erase_turn v block last c sectors)
    (pick (has_code c DeviceReset) (reset_turn last c)
    (pick (switches v c) (done (Status c (switched c.cd_opcode)) last Nothing)
    (refuses last 53 (code_number c.cd_code ∷ []))))

-- write in none: parse (56); transfer length 0: as above; non-zero: awaits data
unfoldable pub start_turn : Variety → ℕ → Told CommandBlock → Option ResetOpcode → ℕ → Turn
start_turn v block (given c) last sectors = pick (eqb c.transfer_length 0) (zero_length_turn v block last c sectors) (done (IO c) last Nothing)
start_turn v block (refused number values) last sectors = refuses last 56 (number ∷ values)

-- write awaiting data: direction out, else 55; code WriteLBA, else 55; range (57); length (50)
unfoldable pub write_io_turn : Variety → Option ResetOpcode → CommandBlock → ℕ → ℕ → Turn
write_io_turn v last c sectors actual =
    or_refuse (refuses last) (rule (not (is_out c.flags)) 55 [] ∷ rule (not (has_code c WriteLBA)) 55 [] ∷ [])
    (sector_turn v last c Out sectors actual)

-- a bulk write at a flash of this variety and block size, by the transaction; awaiting status: 55
unfoldable pub write_row : Variety → ℕ → CommandState → Option ResetOpcode → ℕ → List ℕ → Turn
write_row v block None last sectors bytes = start_turn v block (read_command bytes) last sectors
write_row v block (IO c) last sectors bytes = write_io_turn v last c sectors (length bytes)
write_row v block (Status c status) last sectors bytes = refuses last 55 []

abbrev pub write_turn : Variety → ℕ → Session → ℕ → List ℕ → Turn
write_turn v block s sectors bytes = write_row v block s.current_command s.last_reset sectors bytes

-- a reply (50 on length)
unfoldable pub reply_turn : Option ResetOpcode → CommandBlock → ReplyKind → ℕ → Turn
reply_turn last c kind room = or_refuse (refuses last) (length_rule (reply_size kind) room ∷ []) (done (Status c SUCCESS) last (Reply kind))

-- the four replies, ReadLBA (57, then 50), of NOR its storage; other codes 54
unfoldable pub code_turn : Variety → Option ResetOpcode → CommandBlock → ℕ → ℕ → Turn
code_turn v last c sectors room =
    pick (has_code c ReadFlashId) (reply_turn last c reply.FlashId room)
    (pick (has_code c ReadFlashInfo) (reply_turn last c reply.FlashInfo room)
    (pick (has_code c ReadChipInfo) (reply_turn last c reply.ChipInfo room)
    (pick (has_code c ReadCapability) (reply_turn last c reply.Capability room)
    (pick (has_code c ReadLBA) (sector_turn v last c In sectors room)
    (pick (tells_storage v c) (reply_turn last c reply.Storage room)
    (refuses last 54 []))))))

-- read awaiting data: direction in, else 54; then as above
unfoldable pub read_io_turn : Variety → Option ResetOpcode → CommandBlock → ℕ → ℕ → Turn
read_io_turn v last c sectors room = or_refuse (refuses last) (rule (not (is_in c.flags)) 54 [] ∷ []) (code_turn v last c sectors room)

-- awaiting status: a 13-byte buffer gets tag, residue 0, and the status that is pending; other sizes 54
unfoldable pub status_turn : Option ResetOpcode → CommandBlock → told.Status → ℕ → Turn
status_turn last c status room =
    or_refuse (refuses last) (rule (not (eqb room (reply_size (reply.Status c.tag status)))) 54 [] ∷ [])
    (done None last (Reply (reply.Status c.tag status)))

-- a bulk read into `room` bytes, by the transaction; in none: 54
unfoldable pub read_row : Variety → CommandState → Option ResetOpcode → ℕ → ℕ → Turn
read_row v None last sectors room = refuses last 54 []
read_row v (IO c) last sectors room = read_io_turn v last c sectors room
read_row v (Status c status) last sectors room = status_turn last c status room

abbrev pub read_turn : Variety → Session → ℕ → ℕ → Turn
read_turn v s sectors room = read_row v s.current_command s.last_reset sectors room
