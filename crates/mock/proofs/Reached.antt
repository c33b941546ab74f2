-- A record that calls from a fresh start made: configuration and store length are those of its creation, its areas are as writes fill them, and its
-- transaction is over a command that was read.
use Prim.Native.Nat.{ℕ, suc, ◌+◌, ◌*◌, ◌≤◌, ◌<◌, ◌^◌}
use mathlib.Core.Path.{◌≡◌, refl, sym, subst, ◌∙◌}
use mathlib.Core.Bool.{not}
use mathlib.Core.List.{List, [], ◌∷◌}
use native.Mathlib.Omega.{arith}
use lib.Dec.{eqb}
use lib.ListN.{length}
use borrow.Author.Tests.{eqb-true, eqb-false, not-false}
use Rattle.promise.specs.Told.{Told, given, refused}
use Rattle.promise.specs.Rules.{rule}
use Rattle.promise.specs.Bytes.{from_low, from_high, field, AreBytes}
use Rattle.promise.proofs.Outcome.{by_test, either_way}
use Rattle.protocol_bytes.specs.Sector.{sector_size}
use Rattle.protocol_bytes.proofs.Short.{field_elements}
use Rattle.protocol_codes.specs.Numbers.{code_number}
use Rattle.protocol_codes.specs.Reading.{reset_of}
use Rattle.protocol_codes.specs.declared.ResetOpcode.{ResetOpcode}
use Rattle.protocol_codes.specs.declared.ResetOpcode.TheVariants as opcode
use Rattle.protocol_codes.specs.declared.Status as pending
use Rattle.protocol_codes.specs.declared.Status.TheVariants.{SUCCESS, FAILED}
use Rattle.protocol_codes.specs.declared.Direction.{Direction}
use Rattle.protocol_codes.specs.declared.Direction.TheVariants.{In, Out}
use Rattle.protocol_codes.specs.declared.CommandCode.TheVariants.{ReadFlashId, ReadFlashInfo, ReadChipInfo, ReadCapability, ReadLBA, WriteLBA, DeviceReset}
use Rattle.protocol.specs.CommandBytes.{read_command, block_of, BlockFits}
use Rattle.protocol.specs.declared.CommandBlock.{CommandBlock}
use Rattle.protocol.proofs.Trips.{accepted}
use Rattle.mock_base.specs.Flash.{flash_sectors}
use Rattle.mock_base.specs.declared.cells.Variety.{Variety}
use Rattle.mock_base.specs.declared.cells.Variety.TheVariants.{First, Nor}
use Rattle.mock_base.specs.declared.config.MockDeviceConfig.{MockDeviceConfig}
use Rattle.mock_areas.specs.Append.{append_step}
use Rattle.mock_areas.specs.Contents.{Sound}
use Rattle.mock_areas.specs.Reached.{Filled}
use Rattle.mock_areas.proofs.Reached.{fresh_filled, append_filled, filled_sound}
use Rattle.mock_table.specs.Turn.{Turn, refuses, done, has_code, is_erase, is_in, is_out, reply_size, Quiet}
use Rattle.mock_table.specs.Ways.{moved_by, switches, tells_storage}
use Rattle.mock_table.specs.Table.{range_of, range_rule, length_rule, sector_turn, stored_reset, erase_rules, erase_turn, zero_length_turn, start_turn, write_io_turn, write_row, write_turn, reply_turn, code_turn, read_io_turn, status_turn, read_row}
use Rattle.mock_table.specs.declared.session.CommandState.{CommandState}
use Rattle.mock_table.specs.declared.session.CommandState.TheVariants.{None, IO, Status}
use Rattle.mock_table.specs.declared.session.Session.{Session}
use Rattle.mock_table.specs.declared.outcome.Effect.TheVariants.{Fill, Reply}
use Rattle.mock_table.proofs.FirstVariety.{write_first, read_first}
use Rattle.mock_table.specs.declared.outcome.ReplyKind.{ReplyKind}
use Rattle.mock_table.specs.declared.outcome.ReplyKind.TheVariants as reply
use Rattle.mock_effects.specs.Effects.{pending_after}
use Rattle.mock_effects.proofs.Frames.{settled}
use Rattle.mock_effects.specs.Steps.{failed, pend, write_step_of, write_step_by, read_step_of, read_step_by}
use Rattle.mock.specs.Device.{Call, CreateMeets, MockMeets, fresh_state, created, session_of, with_areas, control_rules, write_bulk, read_bulk, write_control}
use Rattle.mock.specs.Made.{Made, creates, writes, reads, controls, FromBlock, OfBlock, OfVariety, OfOpcode, Reached}
use Rattle.mock.specs.declared.device.MockState.{MockState}
use Rattle.mock.specs.declared.device.MockStep.{MockStep}
use Rattle.std.specs.Prelude.{Option}
use Rattle.std.specs.declared.option.Option.TheVariants as option

-- what was read from bytes fits its fields

module _ (bytes : List ℕ) (are : AreBytes bytes) where
  high_four : (at : ℕ) → at + 4 ≤ length bytes → from_high (field at 4 bytes) < 256 ^ 4
  unfolding from_high from_low
  high_four at h =
      rw (field_elements 4 at bytes h) (omega (arith, are at, are (suc at), are (suc (suc at)), are (suc (suc (suc at)))))

  low_four : (at : ℕ) → at + 4 ≤ length bytes → from_low (field at 4 bytes) < 256 ^ 4
  unfolding from_low
  low_four at h =
      rw (field_elements 4 at bytes h) (omega (arith, are at, are (suc at), are (suc (suc at)), are (suc (suc (suc at)))))

  high_two : (at : ℕ) → at + 2 ≤ length bytes → from_high (field at 2 bytes) < 256 ^ 2
  unfolding from_high from_low
  high_two at h = rw (field_elements 2 at bytes h) (omega (arith, are at, are (suc at)))

  pub read_fits : (c : CommandBlock) → read_command bytes ≡ given c → BlockFits c
  unfolding block_of
  read_fits c told =
      let read = accepted bytes c told in
      let long : 31 ≤ length bytes = read.long in
      record {
        tag = subst (λ (b : CommandBlock). b.tag < 256 ^ 4) read.fields (high_four 4 (omega arith));
        transfer = subst (λ (b : CommandBlock). b.transfer_length < 256 ^ 4) read.fields (low_four 8 (omega arith));
        address = subst (λ (b : CommandBlock). b.cd_address < 256 ^ 4) read.fields (high_four 17 (omega arith));
        count = subst (λ (b : CommandBlock). b.cd_length < 256 ^ 2) read.fields (high_two 22 (omega arith));
      }

  from_block : (c : CommandBlock) → read_command bytes ≡ given c → FromBlock c
  from_block c told = record { block = bytes; are = are; told = told; fits = read_fits c told }

-- every turn of the table: a refused one has no transaction, and every other is over the command that it had or read
abbrev Stands : Turn → Type 0
Stands t = OfBlock t.next.current_command

module _ (v : Variety) (block : ℕ) (last : Option ResetOpcode) (sectors actual : ℕ) where
  refuses_stands : (number : ℕ) (values : List ℕ) → Stands (refuses last number values)
  unfolding refuses
  refuses_stands number values = tt

  module _ (c : CommandBlock) (from : FromBlock c) where
    sector_stands : (direction : Direction) → Stands (sector_turn v last c direction sectors actual)
    unfolding sector_turn done
    sector_stands direction =
        either_way Stands (refuses last) (range_rule c sectors ∷ length_rule (c.cd_length * sector_size) actual ∷ [])
        (done (Status c SUCCESS) last (moved_by v direction (range_of c))) refuses_stands (λ met. from)

    reset_stands : (t : Told ResetOpcode) → Stands (stored_reset t last c)
    unfolding stored_reset done
    reset_stands (given code) = from
    reset_stands (refused number values) = refuses_stands number values

    erase_stands : Stands (erase_turn v block last c sectors)
    unfolding erase_turn done
    erase_stands =
        either_way Stands (refuses last) (erase_rules v block c sectors) (done (Status c SUCCESS) last (Fill (range_of c))) refuses_stands (λ met. from)

    zero_length_stands : Stands (zero_length_turn v block last c sectors)
    unfolding zero_length_turn done
    zero_length_stands =
        by_test Stands (is_erase c) (λ e. erase_stands)
        (λ e. by_test Stands (has_code c DeviceReset) (λ f. reset_stands (reset_of c.cd_opcode))
        (λ f. by_test Stands (switches v c) (λ g. from) (λ g. refuses_stands 53 (code_number c.cd_code ∷ []))))

    write_io_stands : Stands (write_io_turn v last c sectors actual)
    unfolding write_io_turn
    write_io_stands =
        either_way Stands (refuses last) (rule (not (is_out c.flags)) 55 [] ∷ rule (not (has_code c WriteLBA)) 55 [] ∷ [])
        (sector_turn v last c Out sectors actual) refuses_stands (λ met. sector_stands Out)

    reply_stands : (kind : ReplyKind) → Stands (reply_turn last c kind actual)
    unfolding reply_turn done
    reply_stands kind =
        either_way Stands (refuses last) (length_rule (reply_size kind) actual ∷ []) (done (Status c SUCCESS) last (Reply kind)) refuses_stands (λ met. from)

    code_stands : Stands (code_turn v last c sectors actual)
    unfolding code_turn
    code_stands =
        by_test Stands (has_code c ReadFlashId) (λ e. reply_stands reply.FlashId)
        (λ e. by_test Stands (has_code c ReadFlashInfo) (λ f. reply_stands reply.FlashInfo)
        (λ f. by_test Stands (has_code c ReadChipInfo) (λ g. reply_stands reply.ChipInfo)
        (λ g. by_test Stands (has_code c ReadCapability) (λ h. reply_stands reply.Capability)
        (λ h. by_test Stands (has_code c ReadLBA) (λ k. sector_stands In)
        (λ k. by_test Stands (tells_storage v c) (λ l. reply_stands reply.Storage) (λ l. refuses_stands 54 []))))))

    read_io_stands : Stands (read_io_turn v last c sectors actual)
    unfolding read_io_turn
    read_io_stands =
        either_way Stands (refuses last) (rule (not (is_in c.flags)) 54 [] ∷ []) (code_turn v last c sectors actual) refuses_stands (λ met. code_stands)

    status_stands : (status : pending.Status) → Stands (status_turn last c status actual)
    unfolding status_turn done
    status_stands status =
        either_way Stands (refuses last) (rule (not (eqb actual (reply_size (reply.Status c.tag status)))) 54 [] ∷ [])
        (done None last (Reply (reply.Status c.tag status))) refuses_stands (λ met. tt)

  start_stands : (t : Told CommandBlock) → ((c : CommandBlock) → t ≡ given c → FromBlock c) → Stands (start_turn v block t last sectors)
  unfolding start_turn done
  start_stands (given c) from =
      by_test Stands (eqb c.transfer_length 0) (λ e. zero_length_stands c (from c refl)) (λ e. (from c refl, eqb-false c.transfer_length 0 e))
  start_stands (refused number values) from = refuses_stands 56 (number ∷ values)

  read_row_stands : (at : CommandState) → OfBlock at → Stands (read_row v at last sectors actual)
  unfolding read_row
  read_row_stands None of = refuses_stands 54 []
  read_row_stands (IO c) of = read_io_stands c of.0
  read_row_stands (Status c status) of = status_stands c of status

write_row_stands : (v : Variety) (block : ℕ) (at : CommandState) (last : Option ResetOpcode) (sectors : ℕ) (bytes : List ℕ) → AreBytes bytes → OfBlock at → Stands (write_row v block at last sectors bytes)
unfolding write_row
write_row_stands v block None last sectors bytes are of = start_stands v block last sectors (length bytes) (read_command bytes) (from_block bytes are)
write_row_stands v block (IO c) last sectors bytes are of = write_io_stands v block last sectors (length bytes) c of.0
write_row_stands v block (Status c status) last sectors bytes are of = refuses_stands v block last sectors (length bytes) 55 []

-- a bulk call keeps that; 60 and 61 keep the transaction itself
failed_of : (at : CommandState) → OfBlock at → OfBlock (failed at)
unfolding failed
failed_of None of = of
failed_of (IO c) of = of
failed_of (Status c status) of = of

pend_of : (status : pending.Status) (at : CommandState) → OfBlock at → OfBlock (pend status at)
unfolding pend
pend_of SUCCESS at of = of
pend_of FAILED at of = failed_of at of

write_of : (t : Told ℕ) (v : Variety) (block : ℕ) (s : Session) (flash bytes : List ℕ) → AreBytes bytes → OfBlock s.current_command
    → OfBlock (write_step_of t v block s flash bytes).next.current_command
unfolding write_step_of
write_of (given sectors) v block s flash bytes are of =
    pend_of (pending_after (write_turn v block s sectors bytes).effect bytes flash) (write_turn v block s sectors bytes).next.current_command
    (write_row_stands v block s.current_command s.last_reset sectors bytes are of)
write_of (refused number values) v block s flash bytes are of = of

read_of : (t : Told ℕ) (v : Variety) (s : Session) (config : MockDeviceConfig) (flash buffer : List ℕ) → OfBlock s.current_command
    → OfBlock (read_step_of t v s config flash buffer).next.current_command
unfolding read_step_of
read_of (given sectors) v s config flash buffer of = read_row_stands v 0 s.last_reset sectors (length buffer) s.current_command of
read_of (refused number values) v s config flash buffer of = of

-- the first variety leaves no FAILED status

pub write_quiet : (t : Told ℕ) (block : ℕ) (s : Session) (flash bytes : List ℕ) → Quiet s.current_command
    → Quiet (write_step_of t First block s flash bytes).next.current_command
unfolding write_step_of pend
write_quiet (given sectors) block s flash bytes quiet =
    let first = write_first block s.last_reset sectors bytes s.current_command in
    subst (λ (status : pending.Status). Quiet (pend status (write_turn First block s sectors bytes).next.current_command))
    (sym (settled (write_turn First block s sectors bytes).effect bytes flash first.stores)) first.quiet
write_quiet (refused number values) block s flash bytes quiet = quiet

pub read_quiet : (t : Told ℕ) (s : Session) (config : MockDeviceConfig) (flash buffer : List ℕ) → Quiet s.current_command
    → Quiet (read_step_of t First s config flash buffer).next.current_command
unfolding read_step_of
read_quiet (given sectors) s config flash buffer quiet = (read_first 0 s.last_reset sectors (length buffer) s.current_command).quiet
read_quiet (refused number values) s config flash buffer quiet = quiet

none_pending : (v : Variety) → OfVariety v None
unfolding Quiet
none_pending First = tt
none_pending Nor = tt

write_pending : (t : Told ℕ) (v w : Variety) (block : ℕ) (s : Session) (flash bytes : List ℕ) → w ≡ v → OfVariety v s.current_command
    → OfVariety v (write_step_of t w block s flash bytes).next.current_command
write_pending t First w block s flash bytes own quiet =
    subst (λ (x : Variety). Quiet (write_step_of t x block s flash bytes).next.current_command) (sym own) (write_quiet t block s flash bytes quiet)
write_pending t Nor w block s flash bytes own quiet = tt

read_pending : (t : Told ℕ) (v w : Variety) (s : Session) (config : MockDeviceConfig) (flash buffer : List ℕ) → w ≡ v → OfVariety v s.current_command
    → OfVariety v (read_step_of t w s config flash buffer).next.current_command
read_pending t First w s config flash buffer own quiet =
    subst (λ (x : Variety). Quiet (read_step_of t x s config flash buffer).next.current_command) (sym own) (read_quiet t s config flash buffer quiet)
read_pending t Nor w s config flash buffer own quiet = tt

-- an opcode is one of five
of_opcode : (last : Option ResetOpcode) → OfOpcode last
of_opcode option.None = tt
of_opcode (option.Some opcode.Reset) = omega arith
of_opcode (option.Some opcode.MSC) = omega arith
of_opcode (option.Some opcode.PowerOff) = omega arith
of_opcode (option.Some opcode.Maskrom) = omega arith
of_opcode (option.Some opcode.Disconnect) = omega arith

-- what creation and each call make of it

module _ (v : Variety) (config : MockDeviceConfig) (n : ℕ) where
  created_reached : (flash : ℕ) → Reached v config n (created v config flash n).fresh
  unfolding created fresh_state
  created_reached flash = record { configured = refl; own = refl; stored = refl; filled = fresh_filled n; transaction = tt; pending = none_pending v; opcode = tt }

  write_reached : (s : MockState) (flash bytes : List ℕ) → AreBytes bytes → Reached v config n s → Reached v config n (write_bulk s flash bytes).next
  unfolding write_bulk write_step_by
  write_reached s flash bytes are r =
      record {
        configured = r.configured;
        own = r.own;
        stored = r.stored;
        filled = r.filled;
        transaction = write_of (flash_sectors (length flash)) s.variety s.config.block_size_sectors (session_of s) flash bytes are r.transaction;
        pending = write_pending (flash_sectors (length flash)) v s.variety s.config.block_size_sectors (session_of s) flash bytes r.own r.pending;
        opcode = of_opcode (write_step_by s.variety s.config.block_size_sectors (session_of s) flash bytes).next.last_reset;
      }

  read_reached : (s : MockState) (flash buffer : List ℕ) → Reached v config n s → Reached v config n (read_bulk s flash buffer).next
  unfolding read_bulk read_step_by
  read_reached s flash buffer r =
      record {
        configured = r.configured;
        own = r.own;
        stored = r.stored;
        filled = r.filled;
        transaction = read_of (flash_sectors (length flash)) s.variety (session_of s) s.config flash buffer r.transaction;
        pending = read_pending (flash_sectors (length flash)) v s.variety (session_of s) s.config flash buffer r.own r.pending;
        opcode = of_opcode (read_step_by s.variety (session_of s) s.config flash buffer).next.last_reset;
      }

  control_reached : (s : MockState) (type request value index : ℕ) (bytes store : List ℕ) → Reached v config n s
      → Reached v config n (write_control s type request value index bytes store).next
  unfolding write_control control_rules
  control_reached s type request value index bytes store r =
      let a = append_step s.areas index bytes store in
      either_way (λ (c : Call). Reached v config n c.next) (λ number values. record { told = refused number values; next = s; leaves = store })
      (control_rules s type request value (length store)) (record { told = a.told; next = with_areas s a.next; leaves = a.leaves })
      (λ m values. r)
      (λ met.
      let long : length store ≡ n = eqb-true (length store) s.store_length (not-false (eqb (length store) s.store_length) met.0) ∙ r.stored in
      record {
        configured = r.configured;
        own = r.own;
        stored = r.stored;
        filled = subst (λ (k : ℕ). Filled a.next k) long
            (append_filled s.areas index bytes store (subst (λ (k : ℕ). Filled s.areas k) (sym long) r.filled));
        transaction = r.transaction;
        pending = r.pending;
        opcode = r.opcode;
      })

-- REACHED. So is every record that calls from a fresh start make
pub made_reached : (v : Variety) (config : MockDeviceConfig) (n : ℕ) (s : MockState) → Made v config n s → Reached v config n s
made_reached v config n s (creates flash) = created_reached v config n flash
made_reached v config n s (writes before flash bytes made are) = write_reached v config n before flash bytes are (made_reached v config n before made)
made_reached v config n s (reads before flash buffer made) = read_reached v config n before flash buffer (made_reached v config n before made)
made_reached v config n s (controls before type request value index bytes store made) =
    control_reached v config n before type request value index bytes store (made_reached v config n before made)

-- .. and its areas are sound over every store of its length
pub made_sound : (v : Variety) (config : MockDeviceConfig) (s : MockState) (store : List ℕ) → Made v config (length store) s → Sound s.areas store
made_sound v config s store made = filled_sound s.areas store (made_reached v config (length store) s made).filled

-- over the contracts: what `MockState::new` hands back is such a record, and what each call hands back for one, refused or not
module _ (v : Variety) (config : MockDeviceConfig) (n : ℕ) (r : MockStep) where
  pub new_made : (flash : ℕ) → CreateMeets r (created v config flash n) → Made v config n r.state
  new_made flash m = subst (λ (x : MockState). Made v config n x) (sym m.fresh) (creates flash)

  module _ (s : MockState) (made : Made v config n s) (after : List ℕ) where
    pub write_made : (flash bytes : List ℕ) → AreBytes bytes → MockMeets r after (write_bulk s flash bytes) → Made v config n r.state
    write_made flash bytes are m = subst (λ (x : MockState). Made v config n x) (sym m.next) (writes s flash bytes made are)

    pub read_made : (flash buffer : List ℕ) → MockMeets r after (read_bulk s flash buffer) → Made v config n r.state
    read_made flash buffer m = subst (λ (x : MockState). Made v config n x) (sym m.next) (reads s flash buffer made)

    pub control_made : (type request value index : ℕ) (bytes store : List ℕ) → MockMeets r after (write_control s type request value index bytes store)
        → Made v config n r.state
    control_made type request value index bytes store m =
        subst (λ (x : MockState). Made v config n x) (sym m.next) (controls s type request value index bytes store made)
