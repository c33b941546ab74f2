-- Every turn of the table: its effect fits the flash and the bytes lent, and a refusal has none and ends the transaction.
use Prim.Native.Nat.{ℕ, ◌*◌}
use mathlib.Core.Path.{◌≡◌, refl}
use mathlib.Core.Bool.{true, not}
use mathlib.Core.List.{List, [], ◌∷◌}
use native.Mathlib.Omega.{arith}
use lib.Dec.{eqb}
use lib.ListN.{length}
use borrow.Author.Tests.{eqb-true, not-false}
use Rattle.promise.specs.Told.{Told, given, refused}
use Rattle.promise.specs.Rules.{rule}
use Rattle.protocol_codes.specs.Numbers.{code_number}
use Rattle.protocol_codes.specs.Reading.{reset_of}
use Rattle.protocol_codes.specs.declared.ResetOpcode.{ResetOpcode}
use Rattle.protocol_codes.specs.declared.Direction.{Direction}
use Rattle.protocol_codes.specs.declared.Direction.TheVariants.{In, Out}
use Rattle.protocol_codes.specs.declared.CommandCode.TheVariants.{ReadFlashId, ReadFlashInfo, ReadChipInfo, ReadCapability, ReadLBA, WriteLBA, DeviceReset}
use Rattle.protocol_codes.specs.declared.Status as told
use Rattle.protocol_codes.specs.declared.Status.TheVariants.{SUCCESS}
use Rattle.protocol_bytes.specs.Sector.{sector_size}
use Rattle.protocol.specs.CommandBytes.{read_command}
use Rattle.protocol.specs.declared.CommandBlock.{CommandBlock}
use Rattle.promise.proofs.Outcome.{by_test, either_way}
use Rattle.mock_base.specs.Flash.{fits_in}
use Rattle.mock_base.proofs.Fitting.{fits_sectors}
use Rattle.mock_base.specs.declared.cells.Variety.{Variety}
use Rattle.mock_base.specs.declared.cells.Variety.TheVariants.{First, Nor}
use Rattle.mock_table.specs.Turn.{refuses, done, has_code, is_erase, is_in, is_out, reply_size, EffectFits, Sane}
use Rattle.mock_table.specs.Ways.{stored_by, moved_by, switches, switched, tells_storage}
use Rattle.mock_table.specs.Table.{range_of, range_rule, length_rule, sector_turn, stored_reset, erase_rules, erase_turn, zero_length_turn, start_turn, write_io_turn, write_row, write_turn, reply_turn, code_turn, read_io_turn, status_turn, read_row, read_turn}
use Rattle.mock_table.specs.declared.session.CommandState.{CommandState}
use Rattle.mock_table.specs.declared.session.CommandState.TheVariants.{None, IO, Status}
use Rattle.mock_table.specs.declared.session.Session.{Session}
use Rattle.mock_table.specs.declared.outcome.Effect.{Effect}
use Rattle.mock_table.specs.declared.outcome.Effect.TheVariants.{Nothing, Fill, Reply}
use Rattle.mock_table.specs.declared.outcome.ReplyKind.{ReplyKind}
use Rattle.mock_table.specs.declared.outcome.ReplyKind.TheVariants as reply
use Rattle.std.specs.Prelude.{Option}
use Rattle.std.specs.declared.option.Option.TheVariants.{Some}

module _ (v : Variety) (block : ℕ) (last : Option ResetOpcode) (sectors actual : ℕ) where
  refuses_sane : (number : ℕ) (values : List ℕ) → Sane last sectors actual (refuses last number values)
  unfolding refuses EffectFits
  refuses_sane number values = record { fits = tt; ends = λ n vs e. (refl, refl) }

  done_sane : (state : CommandState) (reset : Option ResetOpcode) (effect : Effect) → EffectFits sectors actual effect
      → Sane last sectors actual (done state reset effect)
  unfolding done
  done_sane state reset effect h = record { fits = h; ends = λ n vs e. let z : ◌≡◌ {A = ℕ} 0 1 = cc in absurd (omega arith) }

  stored_fits : (w : Variety) (c : CommandBlock) → fits_in sectors c.cd_address c.cd_length ≡ true
      → actual ≡ c.cd_length * sector_size → EffectFits sectors actual (stored_by w (range_of c))
  unfolding stored_by EffectFits
  stored_fits First c f e = (fits_sectors sectors c.cd_address c.cd_length f, e)
  stored_fits Nor c f e = (fits_sectors sectors c.cd_address c.cd_length f, e)

  moved_fits : (direction : Direction) (c : CommandBlock) → fits_in sectors c.cd_address c.cd_length ≡ true
      → actual ≡ c.cd_length * sector_size → EffectFits sectors actual (moved_by v direction (range_of c))
  unfolding moved_by EffectFits
  moved_fits In c f e = (fits_sectors sectors c.cd_address c.cd_length f, e)
  moved_fits Out c f e = stored_fits v c f e

  sector_sane : (c : CommandBlock) (direction : Direction) → Sane last sectors actual (sector_turn v last c direction sectors actual)
  unfolding sector_turn
  sector_sane c direction =
      let fit = fits_in sectors c.cd_address c.cd_length in
      let expected = c.cd_length * sector_size in
      either_way (Sane last sectors actual) (refuses last) (range_rule c sectors ∷ length_rule expected actual ∷ [])
      (done (Status c SUCCESS) last (moved_by v direction (range_of c))) refuses_sane
      (λ met. done_sane (Status c SUCCESS) last (moved_by v direction (range_of c))
      (moved_fits direction c (not-false fit met.0) (eqb-true actual expected (not-false (eqb actual expected) met.1.0))))

  reset_sane : (c : CommandBlock) (t : Told ResetOpcode) → Sane last sectors actual (stored_reset t last c)
  unfolding stored_reset EffectFits
  reset_sane c (given opcode) = done_sane (Status c SUCCESS) (Some opcode) Nothing tt
  reset_sane c (refused number values) = refuses_sane number values

  erase_sane : (c : CommandBlock) → Sane last sectors actual (erase_turn v block last c sectors)
  unfolding erase_turn erase_rules EffectFits
  erase_sane c =
      either_way (Sane last sectors actual) (refuses last) (erase_rules v block c sectors) (done (Status c SUCCESS) last (Fill (range_of c))) refuses_sane
      (λ met. done_sane (Status c SUCCESS) last (Fill (range_of c))
      (fits_sectors sectors c.cd_address c.cd_length (not-false (fits_in sectors c.cd_address c.cd_length) met.0)))

  zero_length_sane : (c : CommandBlock) → Sane last sectors actual (zero_length_turn v block last c sectors)
  unfolding zero_length_turn EffectFits
  zero_length_sane c =
      by_test (Sane last sectors actual) (is_erase c) (λ e. erase_sane c)
      (λ e. by_test (Sane last sectors actual) (has_code c DeviceReset) (λ f. reset_sane c (reset_of c.cd_opcode))
      (λ f. by_test (Sane last sectors actual) (switches v c) (λ g. done_sane (Status c (switched c.cd_opcode)) last Nothing tt)
      (λ g. refuses_sane 53 (code_number c.cd_code ∷ []))))

  start_sane : (t : Told CommandBlock) → Sane last sectors actual (start_turn v block t last sectors)
  unfolding start_turn EffectFits
  start_sane (given c) =
      by_test (Sane last sectors actual) (eqb c.transfer_length 0) (λ e. zero_length_sane c) (λ e. done_sane (IO c) last Nothing tt)
  start_sane (refused number values) = refuses_sane 56 (number ∷ values)

  write_io_sane : (c : CommandBlock) → Sane last sectors actual (write_io_turn v last c sectors actual)
  unfolding write_io_turn
  write_io_sane c =
      either_way (Sane last sectors actual) (refuses last) (rule (not (is_out c.flags)) 55 [] ∷ rule (not (has_code c WriteLBA)) 55 [] ∷ [])
      (sector_turn v last c Out sectors actual) refuses_sane (λ met. sector_sane c Out)

  reply_sane : (c : CommandBlock) (kind : ReplyKind) → Sane last sectors actual (reply_turn last c kind actual)
  unfolding reply_turn EffectFits
  reply_sane c kind =
      either_way (Sane last sectors actual) (refuses last) (length_rule (reply_size kind) actual ∷ []) (done (Status c SUCCESS) last (Reply kind)) refuses_sane
      (λ met. done_sane (Status c SUCCESS) last (Reply kind) (eqb-true actual (reply_size kind) (not-false (eqb actual (reply_size kind)) met.0)))

  code_sane : (c : CommandBlock) → Sane last sectors actual (code_turn v last c sectors actual)
  unfolding code_turn
  code_sane c =
      by_test (Sane last sectors actual) (has_code c ReadFlashId) (λ e. reply_sane c reply.FlashId)
      (λ e. by_test (Sane last sectors actual) (has_code c ReadFlashInfo) (λ f. reply_sane c reply.FlashInfo)
      (λ f. by_test (Sane last sectors actual) (has_code c ReadChipInfo) (λ g. reply_sane c reply.ChipInfo)
      (λ g. by_test (Sane last sectors actual) (has_code c ReadCapability) (λ h. reply_sane c reply.Capability)
      (λ h. by_test (Sane last sectors actual) (has_code c ReadLBA) (λ k. sector_sane c In)
      (λ k. by_test (Sane last sectors actual) (tells_storage v c) (λ l. reply_sane c reply.Storage) (λ l. refuses_sane 54 []))))))

  read_io_sane : (c : CommandBlock) → Sane last sectors actual (read_io_turn v last c sectors actual)
  unfolding read_io_turn
  read_io_sane c =
      either_way (Sane last sectors actual) (refuses last) (rule (not (is_in c.flags)) 54 [] ∷ []) (code_turn v last c sectors actual) refuses_sane
      (λ met. code_sane c)

  status_sane : (c : CommandBlock) (status : told.Status) → Sane last sectors actual (status_turn last c status actual)
  unfolding status_turn EffectFits
  status_sane c status =
      let size = reply_size (reply.Status c.tag status) in
      either_way (Sane last sectors actual) (refuses last) (rule (not (eqb actual size)) 54 [] ∷ []) (done None last (Reply (reply.Status c.tag status)))
      refuses_sane
      (λ met. done_sane None last (Reply (reply.Status c.tag status)) (eqb-true actual size (not-false (eqb actual size) met.0)))

  read_row_sane : (state : CommandState) → Sane last sectors actual (read_row v state last sectors actual)
  unfolding read_row
  read_row_sane None = refuses_sane 54 []
  read_row_sane (IO c) = read_io_sane c
  read_row_sane (Status c status) = status_sane c status

write_row_sane : (v : Variety) (block : ℕ) (last : Option ResetOpcode) (sectors : ℕ) (bytes : List ℕ) (state : CommandState)
    → Sane last sectors (length bytes) (write_row v block state last sectors bytes)
unfolding write_row
write_row_sane v block last sectors bytes None = start_sane v block last sectors (length bytes) (read_command bytes)
write_row_sane v block last sectors bytes (IO c) = write_io_sane v block last sectors (length bytes) c
write_row_sane v block last sectors bytes (Status c status) = refuses_sane v block last sectors (length bytes) 55 []

pub write_sane : (v : Variety) (block : ℕ) (s : Session) (sectors : ℕ) (bytes : List ℕ) → Sane s.last_reset sectors (length bytes) (write_turn v block s sectors bytes)
write_sane v block s sectors bytes = write_row_sane v block s.last_reset sectors bytes s.current_command

pub read_sane : (v : Variety) (s : Session) (sectors room : ℕ) → Sane s.last_reset sectors room (read_turn v s sectors room)
read_sane v s sectors room = read_row_sane v 0 s.last_reset sectors room s.current_command
