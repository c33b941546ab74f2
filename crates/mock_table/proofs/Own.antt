-- A turn touches no sectors but those that its command names.
use Prim.Native.Nat.{ℕ, ◌*◌}
use mathlib.Core.Path.{◌≡◌, refl, sym, subst}
use mathlib.Core.Bool.{not}
use mathlib.Core.List.{List, [], ◌∷◌}
use lib.Dec.{eqb}
use lib.ListN.{length}
use Rattle.promise.specs.Told.{Told, given, refused}
use Rattle.promise.specs.Rules.{rule}
use Rattle.protocol_codes.specs.Numbers.{code_number}
use Rattle.protocol_codes.specs.Reading.{reset_of}
use Rattle.protocol_codes.specs.declared.ResetOpcode.{ResetOpcode}
use Rattle.protocol_codes.specs.declared.Direction.{Direction}
use Rattle.protocol_codes.specs.declared.Direction.TheVariants.{In, Out}
use Rattle.protocol_codes.specs.declared.CommandCode.TheVariants.{WriteLBA, DeviceReset}
use Rattle.protocol_codes.specs.declared.Status.TheVariants.{SUCCESS}
use Rattle.protocol_bytes.specs.Sector.{sector_size}
use Rattle.protocol.specs.CommandBytes.{read_command}
use Rattle.protocol.specs.declared.CommandBlock.{CommandBlock}
use Rattle.promise.proofs.Outcome.{by_test, either_way}
use Rattle.mock_base.specs.declared.cells.Variety.{Variety}
use Rattle.mock_base.specs.declared.cells.Variety.TheVariants.{First, Nor}
use Rattle.mock_base.specs.declared.range.FlashRange.{FlashRange}
use Rattle.mock_table.specs.Turn.{Turn, refuses, done, has_code, is_erase, is_out}
use Rattle.mock_table.specs.Ways.{stored_by, moved_by, switches}
use Rattle.mock_table.specs.Table.{range_of, range_rule, length_rule, sector_turn, stored_reset, erase_rules, erase_turn, zero_length_turn, start_turn, write_io_turn, write_row, write_turn}
use Rattle.mock_table.specs.declared.session.CommandState.{CommandState}
use Rattle.mock_table.specs.declared.session.CommandState.TheVariants.{None, IO, Status}
use Rattle.mock_table.specs.declared.session.Session.{Session}
use Rattle.mock_table.specs.declared.outcome.Effect.{Effect}
use Rattle.mock_table.specs.declared.outcome.Effect.TheVariants.{Nothing, Fill, Store, Program, Supply, Reply}
use Rattle.std.specs.Prelude.{Option}

-- an effect's range, if it has one, is this
unfoldable pub Within : FlashRange → Effect → Type 0
Within range Nothing = Unit
Within range (Fill own) = own ≡ range
Within range (Store own) = own ≡ range
Within range (Program own) = own ≡ range
Within range (Supply own) = own ≡ range
Within range (Reply kind) = Unit

-- the command that a write goes by: the one that awaits data or status, else what the bytes are read as
unfoldable pub command_of : CommandState → List ℕ → Told CommandBlock
command_of None bytes = read_command bytes
command_of (IO c) bytes = given c
command_of (Status c status) bytes = given c

module _ (v : Variety) (block : ℕ) (last : Option ResetOpcode) (sectors actual : ℕ) (c : CommandBlock) where
  abbrev OwnTurn : Turn → Type 0
  OwnTurn t = Within (range_of c) t.effect

  refuses_own : (number : ℕ) (values : List ℕ) → OwnTurn (refuses last number values)
  unfolding refuses Within
  refuses_own number values = tt

  stored_own : (w : Variety) → Within (range_of c) (stored_by w (range_of c))
  unfolding stored_by Within
  stored_own First = refl
  stored_own Nor = refl

  moved_own : (direction : Direction) → Within (range_of c) (moved_by v direction (range_of c))
  unfolding moved_by Within
  moved_own In = refl
  moved_own Out = stored_own v

  sector_own : (direction : Direction) → OwnTurn (sector_turn v last c direction sectors actual)
  unfolding sector_turn done
  sector_own direction =
      either_way OwnTurn (refuses last) (range_rule c sectors ∷ length_rule (c.cd_length * sector_size) actual ∷ [])
      (done (Status c SUCCESS) last (moved_by v direction (range_of c))) refuses_own (λ met. moved_own direction)

  reset_own : (t : Told ResetOpcode) → OwnTurn (stored_reset t last c)
  unfolding stored_reset done Within
  reset_own (given opcode) = tt
  reset_own (refused number values) = refuses_own number values

  erase_own : OwnTurn (erase_turn v block last c sectors)
  unfolding erase_turn done Within
  erase_own = either_way OwnTurn (refuses last) (erase_rules v block c sectors) (done (Status c SUCCESS) last (Fill (range_of c))) refuses_own (λ met. refl)

  zero_length_own : OwnTurn (zero_length_turn v block last c sectors)
  unfolding zero_length_turn done Within
  zero_length_own =
      by_test OwnTurn (is_erase c) (λ e. erase_own)
      (λ e. by_test OwnTurn (has_code c DeviceReset) (λ f. reset_own (reset_of c.cd_opcode))
      (λ f. by_test OwnTurn (switches v c) (λ g. tt) (λ g. refuses_own 53 (code_number c.cd_code ∷ []))))

  start_own : OwnTurn (start_turn v block (given c) last sectors)
  unfolding start_turn done Within
  start_own = by_test OwnTurn (eqb c.transfer_length 0) (λ e. zero_length_own) (λ e. tt)

  write_io_own : OwnTurn (write_io_turn v last c sectors actual)
  unfolding write_io_turn
  write_io_own =
      either_way OwnTurn (refuses last) (rule (not (is_out c.flags)) 55 [] ∷ rule (not (has_code c WriteLBA)) 55 [] ∷ [])
      (sector_turn v last c Out sectors actual) refuses_own (λ met. sector_own Out)

write_row_own : (v : Variety) (block : ℕ) (state : CommandState) (last : Option ResetOpcode) (sectors : ℕ) (bytes : List ℕ) (c : CommandBlock) → command_of state bytes ≡ given c
    → Within (range_of c) (write_row v block state last sectors bytes).effect
unfolding command_of write_row
write_row_own v block None last sectors bytes c e =
    subst (λ (t : Told CommandBlock). Within (range_of c) (start_turn v block t last sectors).effect) (sym e) (start_own v block last sectors (length bytes) c)
write_row_own v block (IO own) last sectors bytes c e =
    let same : own ≡ c = cc in
    subst (λ (x : CommandBlock). Within (range_of x) (write_io_turn v last own sectors (length bytes)).effect) same (write_io_own v block last sectors (length bytes) own)
write_row_own v block (Status own status) last sectors bytes c e = refuses_own v block last sectors (length bytes) c 55 []

pub write_own : (v : Variety) (block : ℕ) (s : Session) (sectors : ℕ) (bytes : List ℕ) (c : CommandBlock) → command_of s.current_command bytes ≡ given c
    → Within (range_of c) (write_turn v block s sectors bytes).effect
write_own v block s sectors bytes c e = write_row_own v block s.current_command s.last_reset sectors bytes c e
