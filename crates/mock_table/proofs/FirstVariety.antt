-- Of the first variety no turn leaves a FAILED status pending, and none programs.
use Prim.Native.Nat.{ℕ, ◌*◌}
use mathlib.Core.Path.{refl}
use mathlib.Core.Bool.{not}
use mathlib.Core.List.{List, [], ◌∷◌}
use lib.Dec.{eqb}
use lib.ListN.{length}
use Rattle.promise.specs.Told.{Told, given, refused}
use Rattle.promise.specs.Rules.{rule}
use Rattle.promise.proofs.Outcome.{by_test, either_way}
use Rattle.protocol_codes.specs.Numbers.{code_number}
use Rattle.protocol_codes.specs.Reading.{reset_of}
use Rattle.protocol_codes.specs.declared.ResetOpcode.{ResetOpcode}
use Rattle.protocol_codes.specs.declared.Direction.{Direction}
use Rattle.protocol_codes.specs.declared.Direction.TheVariants.{In, Out}
use Rattle.protocol_codes.specs.declared.CommandCode.TheVariants.{ReadFlashId, ReadFlashInfo, ReadChipInfo, ReadCapability, ReadLBA, WriteLBA, DeviceReset}
use Rattle.protocol_codes.specs.declared.Status as pending
use Rattle.protocol_codes.specs.declared.Status.TheVariants.{SUCCESS}
use Rattle.protocol_bytes.specs.Sector.{sector_size}
use Rattle.protocol.specs.CommandBytes.{read_command}
use Rattle.protocol.specs.declared.CommandBlock.{CommandBlock}
use Rattle.mock_base.specs.declared.cells.Variety.TheVariants.{First}
use Rattle.mock_table.specs.Turn.{Turn, refuses, done, has_code, is_erase, is_in, is_out, reply_size, Quiet}
use Rattle.mock_table.specs.Ways.{stored_by, moved_by, switches, tells_storage}
use Rattle.mock_table.specs.Table.{range_of, range_rule, length_rule, sector_turn, stored_reset, erase_rules, erase_turn, zero_length_turn, start_turn, write_io_turn, write_row, reply_turn, code_turn, read_io_turn, status_turn, read_row}
use Rattle.mock_table.specs.declared.session.CommandState.{CommandState}
use Rattle.mock_table.specs.declared.session.CommandState.TheVariants.{None, IO, Status}
use Rattle.mock_table.specs.declared.outcome.Effect.{Effect}
use Rattle.mock_table.specs.declared.outcome.Effect.TheVariants.{Nothing, Fill, Store, Program, Supply, Reply}
use Rattle.mock_table.specs.declared.outcome.ReplyKind.{ReplyKind}
use Rattle.mock_table.specs.declared.outcome.ReplyKind.TheVariants as reply
use Rattle.std.specs.Prelude.{Option}

unfoldable pub NoProgram : Effect → Type 0
NoProgram Nothing = Unit
NoProgram (Fill range) = Unit
NoProgram (Store range) = Unit
NoProgram (Program range) = ⊥
NoProgram (Supply range) = Unit
NoProgram (Reply kind) = Unit

pub record Firsts (t : Turn) : Type 0 where
  pub quiet : Quiet t.next.current_command
  pub stores : NoProgram t.effect

module _ (block : ℕ) (last : Option ResetOpcode) (sectors actual : ℕ) where
  refuses_first : (number : ℕ) (values : List ℕ) → Firsts (refuses last number values)
  unfolding refuses Quiet NoProgram
  refuses_first number values = record { quiet = tt; stores = tt }

  module _ (c : CommandBlock) where
    moved_first : (direction : Direction) → NoProgram (moved_by First direction (range_of c))
    unfolding moved_by stored_by NoProgram
    moved_first In = tt
    moved_first Out = tt

    sector_first : (direction : Direction) → Firsts (sector_turn First last c direction sectors actual)
    unfolding sector_turn done Quiet
    sector_first direction =
        either_way Firsts (refuses last) (range_rule c sectors ∷ length_rule (c.cd_length * sector_size) actual ∷ [])
        (done (Status c SUCCESS) last (moved_by First direction (range_of c))) refuses_first (λ met. record { quiet = refl; stores = moved_first direction })

    reset_first : (t : Told ResetOpcode) → Firsts (stored_reset t last c)
    unfolding stored_reset done Quiet NoProgram
    reset_first (given opcode) = record { quiet = refl; stores = tt }
    reset_first (refused number values) = refuses_first number values

    erase_first : Firsts (erase_turn First block last c sectors)
    unfolding erase_turn done Quiet NoProgram
    erase_first =
        either_way Firsts (refuses last) (erase_rules First block c sectors) (done (Status c SUCCESS) last (Fill (range_of c))) refuses_first
        (λ met. record { quiet = refl; stores = tt })

    zero_length_first : Firsts (zero_length_turn First block last c sectors)
    unfolding zero_length_turn switches
    zero_length_first =
        by_test Firsts (is_erase c) (λ e. erase_first)
        (λ e. by_test Firsts (has_code c DeviceReset) (λ f. reset_first (reset_of c.cd_opcode)) (λ f. refuses_first 53 (code_number c.cd_code ∷ [])))

    write_io_first : Firsts (write_io_turn First last c sectors actual)
    unfolding write_io_turn
    write_io_first =
        either_way Firsts (refuses last) (rule (not (is_out c.flags)) 55 [] ∷ rule (not (has_code c WriteLBA)) 55 [] ∷ [])
        (sector_turn First last c Out sectors actual) refuses_first (λ met. sector_first Out)

    reply_first : (kind : ReplyKind) → Firsts (reply_turn last c kind actual)
    unfolding reply_turn done Quiet NoProgram
    reply_first kind =
        either_way Firsts (refuses last) (length_rule (reply_size kind) actual ∷ []) (done (Status c SUCCESS) last (Reply kind)) refuses_first
        (λ met. record { quiet = refl; stores = tt })

    code_first : Firsts (code_turn First last c sectors actual)
    unfolding code_turn tells_storage
    code_first =
        by_test Firsts (has_code c ReadFlashId) (λ e. reply_first reply.FlashId)
        (λ e. by_test Firsts (has_code c ReadFlashInfo) (λ f. reply_first reply.FlashInfo)
        (λ f. by_test Firsts (has_code c ReadChipInfo) (λ g. reply_first reply.ChipInfo)
        (λ g. by_test Firsts (has_code c ReadCapability) (λ h. reply_first reply.Capability)
        (λ h. by_test Firsts (has_code c ReadLBA) (λ k. sector_first In) (λ k. refuses_first 54 [])))))

    read_io_first : Firsts (read_io_turn First last c sectors actual)
    unfolding read_io_turn
    read_io_first =
        either_way Firsts (refuses last) (rule (not (is_in c.flags)) 54 [] ∷ []) (code_turn First last c sectors actual) refuses_first (λ met. code_first)

    status_first : (status : pending.Status) → Firsts (status_turn last c status actual)
    unfolding status_turn done Quiet NoProgram
    status_first status =
        either_way Firsts (refuses last) (rule (not (eqb actual (reply_size (reply.Status c.tag status)))) 54 [] ∷ [])
        (done None last (Reply (reply.Status c.tag status))) refuses_first (λ met. record { quiet = tt; stores = tt })

  start_first : (t : Told CommandBlock) → Firsts (start_turn First block t last sectors)
  unfolding start_turn done Quiet NoProgram
  start_first (given c) = by_test Firsts (eqb c.transfer_length 0) (λ e. zero_length_first c) (λ e. record { quiet = tt; stores = tt })
  start_first (refused number values) = refuses_first 56 (number ∷ values)

  pub read_first : (at : CommandState) → Firsts (read_row First at last sectors actual)
  unfolding read_row
  read_first None = refuses_first 54 []
  read_first (IO c) = read_io_first c
  read_first (Status c status) = status_first c status

-- whatever the transaction is
pub write_first : (block : ℕ) (last : Option ResetOpcode) (sectors : ℕ) (bytes : List ℕ) (at : CommandState) → Firsts (write_row First block at last sectors bytes)
unfolding write_row
write_first block last sectors bytes None = start_first block last sectors (length bytes) (read_command bytes)
write_first block last sectors bytes (IO c) = write_io_first block last sectors (length bytes) c
write_first block last sectors bytes (Status c status) = refuses_first block last sectors (length bytes) 55 []
