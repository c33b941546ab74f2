-- A bulk call that is refused ends the transaction, and so does every read of 13 bytes: no reply is that long, and no sectors are.
use Prim.Native.Nat.{ℕ, ◌*◌}
use mathlib.Core.Path.{◌≡◌, refl, ap, ap₂, sym, ◌∙◌}
use mathlib.Core.Bool.{not}
use mathlib.Core.Logic.{◌⊎◌, inl, inr}
use mathlib.Core.List.{List, [], ◌∷◌}
use native.Mathlib.Omega.{arith}
use lib.Dec.{eqb}
use lib.ListN.{length, replicate}
use borrow.Author.Tests.{eqb-true, not-false}
use Rattle.promise.specs.Told.{given, refused}
use Rattle.promise.specs.Rules.{rule, or_refuse}
use Rattle.promise.proofs.Outcome.{by_test, either_way}
use Rattle.protocol_codes.specs.declared.CommandCode.TheVariants.{ReadFlashId, ReadFlashInfo, ReadChipInfo, ReadCapability, ReadLBA}
use Rattle.protocol_codes.specs.declared.Direction.TheVariants.{In}
use Rattle.protocol_codes.specs.declared.Status as status
use Rattle.protocol_codes.specs.declared.Status.TheVariants.{SUCCESS}
use Rattle.protocol_bytes.specs.Sector.{sector_size}
use Rattle.protocol.specs.declared.CommandBlock.{CommandBlock}
use Rattle.mock_base.specs.Flash.{flash_sectors}
use Rattle.mock_base.specs.declared.cells.Variety.{Variety}
use Rattle.mock_table.specs.Turn.{Turn, refuses, done, has_code, is_in, reply_size}
use Rattle.mock_table.specs.Ways.{moved_by, tells_storage}
use Rattle.mock_table.specs.Table.{range_of, range_rule, length_rule, sector_turn, reply_turn, code_turn, read_io_turn, write_turn, status_turn, read_row, read_turn}
use Rattle.mock_table.specs.declared.session.CommandState.{CommandState}
use Rattle.mock_table.specs.declared.session.CommandState.TheVariants.{None, IO, Status}
use Rattle.mock_table.specs.declared.session.Session.{Session}
use Rattle.mock_table.proofs.Sane.{write_sane, read_sane}
use Rattle.mock.specs.declared.device.MockState.{MockState}
use Rattle.mock.specs.Device.{Call, session_of, write_bulk, read_bulk}
use Rattle.mock_table.specs.declared.outcome.Effect.{Effect}
use Rattle.mock_table.specs.declared.outcome.Effect.TheVariants as effect
use Rattle.mock_effects.specs.Effects.{pending_after}
use Rattle.mock_effects.specs.Steps.{pend}
use Rattle.mock_table.specs.declared.outcome.ReplyKind.TheVariants as reply
use Rattle.theorems.proofs.CallsByTurn.{writes_as, reads_as}
use Rattle.std.specs.Prelude.{Option}
use Rattle.protocol_codes.specs.declared.ResetOpcode.{ResetOpcode}

-- whatever the transaction is, a read of 13 bytes is refused or is its status: no reply is that long, and no sectors are
module _ (v : Variety) (last : Option ResetOpcode) where
  abbrev pub StatusRead : Turn → Type 0
  StatusRead t =
      ((number : ℕ) × (values : List ℕ) × (t ≡ refuses last number values)) ⊎ ((tag : ℕ) × (pending : status.Status) × (t ≡ done None last (effect.Reply (reply.Status tag pending))))

  refused_read : (number : ℕ) (values : List ℕ) → StatusRead (refuses last number values)
  refused_read number values = inl (number, values, refl)

  sectors_read : (c : CommandBlock) (sectors : ℕ) → StatusRead (sector_turn v last c In sectors 13)
  unfolding sector_turn
  sectors_read c sectors =
      let expected = c.cd_length * sector_size in
      either_way StatusRead (refuses last) (range_rule c sectors ∷ length_rule expected 13 ∷ []) (done (Status c SUCCESS) last (moved_by v In (range_of c))) refused_read
      (λ met. absurd (omega (arith, eqb-true 13 expected (not-false (eqb 13 expected) met.1.0))))

  code_read : (c : CommandBlock) (sectors : ℕ) → StatusRead (code_turn v last c sectors 13)
  unfolding code_turn reply_turn or_refuse reply_size
  code_read c sectors =
      by_test StatusRead (has_code c ReadFlashId) (λ e. refused_read 50 (5 ∷ 13 ∷ []))
      (λ e. by_test StatusRead (has_code c ReadFlashInfo) (λ f. refused_read 50 (11 ∷ 13 ∷ []))
      (λ f. by_test StatusRead (has_code c ReadChipInfo) (λ g. refused_read 50 (16 ∷ 13 ∷ []))
      (λ g. by_test StatusRead (has_code c ReadCapability) (λ h. refused_read 50 (8 ∷ 13 ∷ []))
      (λ h. by_test StatusRead (has_code c ReadLBA) (λ k. sectors_read c sectors)
      (λ k. by_test StatusRead (tells_storage v c) (λ l. refused_read 50 (4 ∷ 13 ∷ [])) (λ l. refused_read 54 []))))))

  pub row_read : (state : CommandState) (sectors : ℕ) → StatusRead (read_row v state last sectors 13)
  unfolding read_row read_io_turn status_turn
  row_read None sectors = refused_read 54 []
  row_read (IO c) sectors =
      either_way StatusRead (refuses last) (rule (not (is_in c.flags)) 54 [] ∷ []) (code_turn v last c sectors 13) refused_read (λ met. code_read c sectors)
  row_read (Status c pending) sectors =
      either_way StatusRead (refuses last) (rule (not (eqb 13 (reply_size (reply.Status c.tag pending)))) 54 [] ∷ []) (done None last _) refused_read
      (λ met. inr (c.tag, pending, refl))

  read_none : (t : Turn) → StatusRead t → t.next.current_command ≡ None
  unfolding refuses done
  read_none t (inl refusal) = ap (λ (x : Turn). x.next.current_command) refusal.2
  read_none t (inr pending) = ap (λ (x : Turn). x.next.current_command) pending.2

module _ (device : MockState) (flash : List ℕ) (sectors : ℕ) (legal : flash_sectors (length flash) ≡ given sectors) where
  -- a refused bulk call ends the transaction
  pub write_ends : (bytes : List ℕ) (n : ℕ) (values : List ℕ) → (write_bulk device flash bytes).told ≡ refused n values
      → (write_bulk device flash bytes).next.current_command ≡ None
  unfolding pending_after pend
  write_ends bytes n values e =
      let turn = write_turn device.variety device.config.block_size_sectors (session_of device) sectors bytes in
      let call = writes_as device flash bytes sectors device.current_command turn legal refl refl in
      let ended = (write_sane device.variety device.config.block_size_sectors (session_of device) sectors bytes).ends n values (ap (λ (c : Call). c.told) (sym call) ∙ e) in
      ap (λ (c : Call). c.next.current_command) call
      ∙ ap₂ (λ (p : status.Status) (x : Session). pend p x.current_command) (ap (λ (x : Effect). pending_after x bytes flash) ended.1) ended.0

  pub read_ends : (buffer : List ℕ) (n : ℕ) (values : List ℕ) → (read_bulk device flash buffer).told ≡ refused n values
      → (read_bulk device flash buffer).next.current_command ≡ None
  read_ends buffer n values e =
      let call = reads_as device flash buffer sectors device.current_command (read_turn device.variety (session_of device) sectors (length buffer)) legal refl refl in
      let ended = (read_sane device.variety (session_of device) sectors (length buffer)).ends n values (ap (λ (c : Call). c.told) (sym call) ∙ e) in
      ap (λ (c : Call). c.next.current_command) call ∙ ap (λ (x : Session). x.current_command) ended.0

  pub status_ends : (read_bulk device flash (replicate 13 0)).next.current_command ≡ None
  status_ends =
      ap (λ (c : Call). c.next.current_command)
      (reads_as device flash (replicate 13 0) sectors device.current_command (read_turn device.variety (session_of device) sectors 13) legal refl refl)
      ∙ read_none device.variety device.last_reset _ (row_read device.variety device.last_reset device.current_command sectors)
