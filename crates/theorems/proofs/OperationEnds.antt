-- What each operation ends in from its start, at a device with no transaction that is lent a flash of whole sectors and its store: a reply, 53, 57;
-- of the first variety 54, of NOR 15 and 63. Rows that are the same for both are said once.
use Prim.Native.Nat.{ℕ, suc, ◌*◌, ◌/◌, ◌<◌, ◌≤◌, ◌^◌, min}
use mathlib.Core.Path.{◌≡◌, refl, ap, sym, ◌∙◌}
use mathlib.Core.Bool.{true, false, not}
use mathlib.Core.List.{List, [], ◌∷◌, ◌++◌}
use native.Mathlib.Omega.{arith}
use lib.ListN.{length, take, drop, replicate}
use lib.Seq.{take_at}
use borrow.Author.Tests.{eq-eqb}
use Rattle.promise.specs.Told.{Told, given, refused, and_then}
use Rattle.promise.specs.Rules.{pick, unless, or_refuse}
use Rattle.promise.specs.Bytes.{low_first, from_low, front}
use Rattle.promise.proofs.Outcome.{by_test, on_test}
use Rattle.protocol_codes.specs.Numbers.{code_number, storage_number}
use Rattle.protocol_codes.specs.declared.CommandCode.{CommandCode}
use Rattle.protocol_codes.specs.declared.CommandCode.TheVariants.{EraseLBA, EraseForce, ReadFlashId, ReadFlashInfo, ReadChipInfo, ReadCapability, ReadLBA, WriteLBA, GetStorageMedia, SwitchStorage, DeviceReset}
use Rattle.protocol_codes.specs.declared.Direction.{Direction}
use Rattle.protocol_codes.specs.declared.Direction.TheVariants.{In, Out}
use Rattle.protocol_codes.specs.declared.ResetOpcode.{ResetOpcode}
use Rattle.protocol_codes.specs.declared.StorageIndex.{StorageIndex}
use Rattle.protocol_codes.specs.declared.StorageIndex.TheVariants.{SpiNor}
use Rattle.protocol_codes.specs.declared.Status as status
use Rattle.protocol_codes.specs.declared.Status.TheVariants.{SUCCESS}
use Rattle.protocol_codes.specs.Reading.{storage_of, by_number}
use Rattle.protocol_codes.proofs.Back.{reset_back}
use Rattle.protocol_reply.specs.Media.{read_storage, only_place, places_set}
use Rattle.protocol_bytes.specs.Sector.{sector_size}
use Rattle.protocol.specs.declared.CommandBlock.{CommandBlock}
use Rattle.protocol.specs.Commands.{reply_command, opcode_command, sector_command, chip_info_command, flash_id_command, flash_info_command, capability_command, storage_command, erase_lba_command, erase_force_command, read_lba_command, write_lba_command, reset_command, switch_command}
use Rattle.operation_finish.specs.Reply.{Reply, chip_info, flash_id, flash_info, capability, nothing, storage, moved}
use Rattle.operation_finish.specs.Transfer as transfer
use Rattle.operation_finish.specs.Finish.{sector_reply, storage_reply, reply_by, reply_of}
use Rattle.operation_finish.proofs.Cases.{sectors_whole}
use Rattle.operation_finish.specs.declared.Kind.{Kind}
use Rattle.operation_finish.specs.declared.Kind.TheVariants as kind
use Rattle.operation.specs.declared.steps.IOBytes.TheVariants as io
use Rattle.operation.specs.Record.{io_of}
use Rattle.mock_base.specs.Flash.{fits_in}
use Rattle.mock_base.specs.declared.cells.Variety.{Variety}
use Rattle.mock_base.specs.declared.cells.Variety.TheVariants.{First, Nor}
use Rattle.mock_table.specs.Turn.{refuses, done, has_code, is_erase, is_in, is_out, reply_size}
use Rattle.mock_table.specs.Ways.{stored_by, moved_by, splits, switches, switched, tells_storage}
use Rattle.mock_table.specs.Table.{range_of, sector_turn, stored_reset, erase_rules, erase_turn, zero_length_turn, start_turn, write_io_turn, reply_turn, code_turn, read_io_turn}
use Rattle.mock_table.specs.declared.session.CommandState.TheVariants.{Status}
use Rattle.mock_table.specs.declared.outcome.Effect.TheVariants as effect
use Rattle.mock_table.specs.declared.outcome.ReplyKind.{ReplyKind}
use Rattle.mock_table.specs.declared.outcome.ReplyKind.TheVariants as reply
use Rattle.mock_base.specs.Config.{default_config}
use Rattle.mock_base.specs.Config as config
use Rattle.mock_effects.specs.Effects.{cells_told, reply_bytes, pending_after}
use Rattle.mock_effects.specs.Steps.{written_status}
use Rattle.mock.specs.declared.device.MockState.{MockState}
use Rattle.promise.specs.Run.{tells}
use Rattle.run_operation.specs.Run.{sector_data}
use Rattle.theorems.specs.Standing.{Standing, Sized}
use Rattle.theorems.specs.Told.{by_status}
use Rattle.theorems.proofs.FromStart.{refused_at_once, done_at_once}
use Rattle.theorems.specs.Runs.{operation_run}
use Rattle.theorems.proofs.FromData.{inband_refused, inband_answered, read_refused, read_answered, write_refused, write_answered}
use Rattle.protocol.specs.CommandBytes.{BlockFits}
use Rattle.std.specs.Prelude.{Option}
use Rattle.std.specs.declared.option.Option.TheVariants.{Some}

pub default_sized : Sized default_config
unfolding default_config
default_sized = record { chip = refl; id = refl; capability = refl; extra = refl }

-- sectors, by whether the range fits
module _ (v : Variety) (last : Option ResetOpcode) (c : CommandBlock) (direction : Direction) (sectors : ℕ) where
  abbrev size : ℕ
  size = c.cd_length * sector_size

  pub sector_fits : fits_in sectors c.cd_address c.cd_length ≡ true → sector_turn v last c direction sectors size ≡ done (Status c SUCCESS) last (moved_by v direction (range_of c))
  unfolding sector_turn or_refuse
  sector_fits e = rw (e, eq-eqb size size refl)

  sector_out : fits_in sectors c.cd_address c.cd_length ≡ false → sector_turn v last c direction sectors size ≡ refuses last 57 []
  unfolding sector_turn or_refuse
  sector_out e = rw e

module _ (v : Variety) (device : MockState) (flash bytes : List ℕ) (store sectors : ℕ) (stands : Standing v device flash store sectors) (tag : ℕ) (small : tag < 256 ^ 4) where
  abbrev block : ℕ
  block = device.config.block_size_sectors

  -- a command without data that is no erase, no reset and no switch
  no_switch : (c : CommandBlock) → c.transfer_length ≡ 0 → is_erase c ≡ false → has_code c DeviceReset ≡ false → has_code c SwitchStorage ≡ false → (x : Variety)
      → start_turn x block (given c) device.last_reset sectors ≡ refuses device.last_reset 53 (code_number c.cd_code ∷ [])
  unfolding start_turn zero_length_turn switches
  no_switch c empty erase resets other First = rw (eq-eqb c.transfer_length 0 empty, erase, resets)
  no_switch c empty erase resets other Nor = rw (eq-eqb c.transfer_length 0 empty, erase, resets, other)

  -- REPLIES, of n bytes
  module _ (k : Kind) (n : ℕ) (code : CommandCode) (some : 0 < n) (few : n ≤ 16) (inband : io_of k ≡ io.Inband) (free : sector_data k n ≡ 0) where
    reply_fits : BlockFits (reply_command tag n code)
    reply_fits = record { tag = small; transfer = omega arith; address = omega arith; count = omega arith }

    whole : min n 16 ≡ n
    whole = omega arith

    -- a reply that is more than its bytes in a wrapper
    replied_as : (own : ReplyKind)
        → read_io_turn device.variety device.last_reset (reply_command tag n code) sectors n ≡ done (Status (reply_command tag n code) SUCCESS) device.last_reset (effect.Reply own)
        → length (reply_bytes device.config (length flash / sector_size) own) ≡ n
        → (operation_run k (reply_command tag n code) device flash bytes store).end
        ≡ tells (reply_of k n 0 (front (reply_bytes device.config (length flash / sector_size) own) (replicate 16 0)))
    replied_as own turn long =
        let c = reply_command tag n code in
        inband_answered k c v device flash bytes store sectors stands reply_fits (omega (arith, free)) (λ e. omega arith) inband own
        (ap (read_io_turn device.variety device.last_reset c sectors) whole ∙ turn) (long ∙ sym whole)

    replied : (own : ReplyKind) (wrap : List ℕ → Reply)
        → read_io_turn device.variety device.last_reset (reply_command tag n code) sectors n ≡ done (Status (reply_command tag n code) SUCCESS) device.last_reset (effect.Reply own)
        → ((inband : List ℕ) → reply_of k n 0 inband ≡ given (wrap (take n inband))) → length (reply_bytes device.config (length flash / sector_size) own) ≡ n
        → (operation_run k (reply_command tag n code) device flash bytes store).end ≡ tells (given (wrap (reply_bytes device.config (length flash / sector_size) own)))
    replied own wrap turn gives long =
        let own_bytes = reply_bytes device.config (length flash / sector_size) own in
        let behind : List ℕ = drop (length own_bytes) (replicate 16 0) in
        replied_as own turn long
        ∙ ap tells (gives (own_bytes ++ behind) ∙ ap (λ (l : List ℕ). given (wrap l)) (take_at own_bytes behind n long))

    unreplied : (number : ℕ) (values : List ℕ)
        → read_io_turn device.variety device.last_reset (reply_command tag n code) sectors n ≡ refuses device.last_reset number values
        → (operation_run k (reply_command tag n code) device flash bytes store).end ≡ tells (refused number values)
    unreplied number values turn =
        let c = reply_command tag n code in
        inband_refused k c v device flash bytes store sectors stands reply_fits (omega (arith, free)) (λ e. omega arith) inband number values
        (ap (read_io_turn device.variety device.last_reset c sectors) whole ∙ turn)

  module _ (sized : Sized device.config) where
    pub chip_info_ends : (operation_run kind.ChipInfo (chip_info_command tag) device flash bytes store).end ≡ tells (given (chip_info (record { 0 = device.config.chip_info })))
    unfolding sector_data read_io_turn code_turn reply_turn or_refuse has_code is_in reply_size reply_bytes reply_by
    chip_info_ends =
        replied kind.ChipInfo 16 ReadChipInfo (omega arith) (omega arith) refl refl reply.ChipInfo (λ l. chip_info (record { 0 = l })) refl (λ l. refl) sized.chip

    pub flash_id_ends : (operation_run kind.FlashId (flash_id_command tag) device flash bytes store).end ≡ tells (given (flash_id (record { 0 = device.config.flash_id })))
    unfolding sector_data read_io_turn code_turn reply_turn or_refuse has_code is_in reply_size reply_bytes reply_by
    flash_id_ends =
        replied kind.FlashId 5 ReadFlashId (omega arith) (omega arith) refl refl reply.FlashId (λ l. flash_id (record { 0 = l })) refl (λ l. refl) sized.id

    pub flash_info_ends : (operation_run kind.FlashInfo (flash_info_command tag) device flash bytes store).end
        ≡ tells (given (flash_info (record { 0 = config.flash_info device.config (length flash / sector_size) })))
    unfolding sector_data read_io_turn code_turn reply_turn or_refuse has_code is_in reply_size reply_bytes reply_by config.flash_info low_first
    flash_info_ends =
        replied kind.FlashInfo 11 ReadFlashInfo (omega arith) (omega arith) refl refl reply.FlashInfo (λ l. flash_info (record { 0 = l })) refl (λ l. refl)
        (ap (λ (n : ℕ). suc (suc (suc (suc (suc (suc n)))))) sized.extra)

    pub capability_ends : (operation_run kind.Capability (capability_command tag) device flash bytes store).end
        ≡ tells (given (capability (record { 0 = device.config.capability })))
    unfolding sector_data read_io_turn code_turn reply_turn or_refuse has_code is_in reply_size reply_bytes reply_by
    capability_ends =
        replied kind.Capability 8 ReadCapability (omega arith) (omega arith) refl refl reply.Capability (λ l. capability (record { 0 = l })) refl (λ l. refl) sized.capability

  -- the first variety tells no storage; NOR has SpiNor, place 4
  pub storage_ends : v ≡ First → (operation_run kind.Storage (storage_command tag) device flash bytes store).end ≡ tells (refused 54 [])
  unfolding sector_data read_io_turn code_turn or_refuse has_code is_in tells_storage
  storage_ends first =
      let own = stands.own ∙ first in
      unreplied kind.Storage 4 GetStorageMedia (omega arith) (omega arith) refl refl 54 []
      (ap (λ (x : Variety). read_io_turn x device.last_reset (storage_command tag) sectors 4) own)

  pub nor_storage_ends : v ≡ Nor → (operation_run kind.Storage (storage_command tag) device flash bytes store).end ≡ tells (given (storage SpiNor))
  unfolding sector_data read_io_turn code_turn reply_turn or_refuse has_code is_in tells_storage reply_size reply_bytes reply_by storage_reply and_then read_storage only_place places_set from_low storage_of by_number
  nor_storage_ends nor =
      let own = stands.own ∙ nor in
      replied_as kind.Storage 4 GetStorageMedia (omega arith) (omega arith) refl refl reply.Storage
      (ap (λ (x : Variety). read_io_turn x device.last_reset (storage_command tag) sectors 4) own) refl

  -- NO DATA: a reset by a known opcode, and the switch of a storage, which the first variety does not know and NOR takes to 4 alone
  opcode_fits : (code : CommandCode) (opcode : ℕ) → BlockFits (opcode_command tag code opcode)
  opcode_fits code opcode = record { tag = small; transfer = omega arith; address = omega arith; count = omega arith }

  pub reset_ends : (opcode : ResetOpcode) → (operation_run kind.Nothing (reset_command tag opcode) device flash bytes store).end ≡ tells (given nothing)
  unfolding sector_data start_turn zero_length_turn stored_reset is_erase has_code reply_by by_status pending_after
  reset_ends opcode =
      let c = reset_command tag opcode in
      done_at_once kind.Nothing c v device flash bytes store sectors stands (opcode_fits c.cd_code c.cd_opcode) (omega arith) SUCCESS (Some opcode) effect.Nothing refl
      (ap (λ (t : Told ResetOpcode). stored_reset t device.last_reset c) (reset_back opcode)) refl

  unknown_ends : (k : Kind) (c : CommandBlock) → BlockFits c → sector_data k c.transfer_length ≤ length bytes
      → start_turn device.variety block (given c) device.last_reset sectors ≡ refuses device.last_reset 53 (code_number c.cd_code ∷ [])
      → (operation_run k c device flash bytes store).end ≡ tells (refused 53 (code_number c.cd_code ∷ []))
  unfolding refuses
  unknown_ends k c fits enough first =
      let values = code_number c.cd_code ∷ [] in
      refused_at_once k c v device flash bytes store sectors stands fits enough (refuses device.last_reset 53 values) first 53 values refl

  pub switch_ends : v ≡ First → (index : StorageIndex)
      → (operation_run kind.Nothing (switch_command tag index) device flash bytes store).end ≡ tells (refused 53 (code_number SwitchStorage ∷ []))
  unfolding sector_data start_turn zero_length_turn is_erase has_code switches
  switch_ends first index =
      let c = switch_command tag index in
      let own = stands.own ∙ first in
      unknown_ends kind.Nothing c (opcode_fits c.cd_code c.cd_opcode) (omega arith)
      (ap (λ (x : Variety). start_turn x block (given c) device.last_reset sectors) own)

  pub nor_switch_ends : v ≡ Nor → (index : StorageIndex)
      → (operation_run kind.Nothing (switch_command tag index) device flash bytes store).end ≡ tells (by_status (switched (storage_number index)) (given nothing))
  unfolding sector_data start_turn zero_length_turn is_erase has_code switches reply_by pending_after
  nor_switch_ends nor index =
      let c = switch_command tag index in
      let own = stands.own ∙ nor in
      done_at_once kind.Nothing c v device flash bytes store sectors stands (opcode_fits c.cd_code c.cd_opcode) (omega arith)
      (switched c.cd_opcode) device.last_reset effect.Nothing refl
      (ap (λ (x : Variety). start_turn x block (given c) device.last_reset sectors) own) refl

  -- SECTORS
  module _ (first count : ℕ) (low : first < 256 ^ 4) (few : count < 256 ^ 2) where
    sector_block_fits : (length : ℕ) (flags : Direction) (code : CommandCode) → length < 256 ^ 4 → BlockFits (sector_command tag length flags code first count)
    sector_block_fits length flags code h = record { tag = small; transfer = h; address = low; count = few }

    -- erases, by either code: 57, then of NOR 63
    erase_ends : (code : CommandCode) → is_erase (sector_command tag 0 Out code first count) ≡ true
        → (operation_run kind.Nothing (sector_command tag 0 Out code first count) device flash bytes store).end
        ≡ tells (unless (erase_rules device.variety block (sector_command tag 0 Out code first count) sectors) (given nothing))
    unfolding sector_data start_turn zero_length_turn erase_turn reply_by refuses by_status pending_after or_refuse erase_rules
    erase_ends code erases =
        let c = sector_command tag 0 Out code first count in
        let fits = sector_block_fits 0 Out code (omega arith) in
        let last = device.last_reset in
        by_test (λ (x : Told Reply). (operation_run kind.Nothing c device flash bytes store).end ≡ tells x) (not (fits_in sectors first count))
        (λ e. refused_at_once kind.Nothing c v device flash bytes store sectors stands fits (omega arith) (refuses last 57 []) (rw (erases, e)) 57 [] refl)
        (λ e. by_test (λ (x : Told Reply). (operation_run kind.Nothing c device flash bytes store).end ≡ tells x) (splits device.variety block c)
        (λ f. refused_at_once kind.Nothing c v device flash bytes store sectors stands fits (omega arith) (refuses last 63 []) (rw (erases, e, f)) 63 [] refl)
        (λ f. done_at_once kind.Nothing c v device flash bytes store sectors stands fits (omega arith) SUCCESS last (effect.Fill (range_of c)) refl (rw (erases, e, f)) refl))

    pub erase_lba_ends : (operation_run kind.Nothing (erase_lba_command tag first count) device flash bytes store).end
        ≡ tells (unless (erase_rules device.variety block (erase_lba_command tag first count) sectors) (given nothing))
    unfolding is_erase has_code
    erase_lba_ends = erase_ends EraseLBA refl

    pub erase_force_ends : (operation_run kind.Nothing (erase_force_command tag first count) device flash bytes store).end
        ≡ tells (unless (erase_rules device.variety block (erase_force_command tag first count) sectors) (given nothing))
    unfolding is_erase has_code
    erase_force_ends = erase_ends EraseForce refl

    -- so every erase of the first variety that fits is done
    first_erase : v ≡ First → (c : CommandBlock) → c.cd_address ≡ first → c.cd_length ≡ count
        → ◌≡◌ {A = Told Reply} (unless (erase_rules device.variety block c sectors) (given nothing)) (pick (fits_in sectors first count) (given nothing) (refused 57 []))
    unfolding erase_rules or_refuse splits
    first_erase e c address length =
        rw (stands.own ∙ e, address, length)
        (on_test (fits_in sectors first count) (λ t. rw t refl) (λ t. rw t refl))

    pub first_erase_lba_ends : v ≡ First → (operation_run kind.Nothing (erase_lba_command tag first count) device flash bytes store).end
        ≡ tells (pick (fits_in sectors first count) (given nothing) (refused 57 []))
    first_erase_lba_ends e = erase_lba_ends ∙ ap tells (first_erase e (erase_lba_command tag first count) refl refl)

    pub first_erase_force_ends : v ≡ First → (operation_run kind.Nothing (erase_force_command tag first count) device flash bytes store).end
        ≡ tells (pick (fits_in sectors first count) (given nothing) (refused 57 []))
    first_erase_force_ends e = erase_force_ends ∙ ap tells (first_erase e (erase_force_command tag first count) refl refl)

    -- reads and writes of some sectors ..
    module _ (some : 0 < count) (enough : count * sector_size ≤ length bytes) where
      by_fit : (k : Kind) (c : CommandBlock) (pending : status.Status)
          → (fits_in sectors first count ≡ true → (operation_run k c device flash bytes store).end ≡ tells (by_status pending (sector_reply (count * sector_size) 0)))
          → (fits_in sectors first count ≡ false → (operation_run k c device flash bytes store).end ≡ tells (refused 57 []))
          → (operation_run k c device flash bytes store).end
          ≡ tells (pick (fits_in sectors first count) (by_status pending (given (moved (transfer.whole (count * sector_size))))) (refused 57 []))
      by_fit k c pending within out =
          by_test (λ (x : Told Reply). (operation_run k c device flash bytes store).end ≡ tells x) (fits_in sectors first count)
          (λ e. within e ∙ ap (λ (x : Told Reply). tells (by_status pending x)) (sectors_whole (count * sector_size) 0 refl))
          out

      pub read_ends : (operation_run kind.Read (read_lba_command tag first count) device flash bytes store).end
          ≡ tells (pick (fits_in sectors first count) (given (moved (transfer.whole (count * sector_size)))) (refused 57 []))
      unfolding sector_data read_io_turn code_turn or_refuse has_code is_in reply_by by_status
      read_ends =
          let c = read_lba_command tag first count in
          let fits = sector_block_fits (count * sector_size) In ReadLBA (omega arith) in
          let last = device.last_reset in
          by_fit kind.Read c SUCCESS
          (λ e. read_answered kind.Read c v device flash bytes store sectors stands fits enough (λ z. omega arith) enough refl (moved_by device.variety In (range_of c)) (sector_fits device.variety last c In sectors e))
          (λ e. read_refused kind.Read c v device flash bytes store sectors stands fits enough (λ z. omega arith) enough refl 57 [] (sector_out device.variety last c In sectors e))

      -- what a write is told at a flash of this variety
      abbrev written_by : Variety → Told Reply
      written_by x =
          pick (fits_in sectors first count)
          (by_status (written_status x (write_lba_command tag first count) (take (count * sector_size) bytes) flash) (given (moved (transfer.whole (count * sector_size)))))
          (refused 57 [])

      -- of NOR 15 where a cell did not take its byte; what was written is the first transfer-length bytes lent
      pub write_ends : (operation_run kind.Write (write_lba_command tag first count) device flash bytes store).end
          ≡ tells (written_by device.variety)
      unfolding sector_data write_io_turn or_refuse has_code is_out reply_by moved_by
      write_ends =
          let c = write_lba_command tag first count in
          let fits = sector_block_fits (count * sector_size) Out WriteLBA (omega arith) in
          let last = device.last_reset in
          by_fit kind.Write c (written_status device.variety c (take (count * sector_size) bytes) flash)
          (λ e. write_answered kind.Write c v device flash bytes store sectors stands fits enough (λ z. omega arith) enough refl (moved_by device.variety Out (range_of c)) (sector_fits device.variety last c Out sectors e))
          (λ e. write_refused kind.Write c v device flash bytes store sectors stands fits enough (λ z. omega arith) enough refl 57 [] (sector_out device.variety last c Out sectors e))

      -- so every write of the first variety that fits is whole, and NOR's are as the cells told
      pub first_write_ends : v ≡ First → (operation_run kind.Write (write_lba_command tag first count) device flash bytes store).end
          ≡ tells (pick (fits_in sectors first count) (given (moved (transfer.whole (count * sector_size)))) (refused 57 []))
      unfolding stored_by pending_after by_status
      first_write_ends e = write_ends ∙ ap (λ (x : Variety). tells (written_by x)) (stands.own ∙ e)

      pub nor_write_ends : v ≡ Nor → (operation_run kind.Write (write_lba_command tag first count) device flash bytes store).end
          ≡ tells (pick (fits_in sectors first count)
          (by_status (cells_told (take (count * sector_size) bytes) (drop (first * sector_size) flash)) (given (moved (transfer.whole (count * sector_size)))))
          (refused 57 []))
      unfolding stored_by pending_after
      nor_write_ends e = write_ends ∙ ap (λ (x : Variety). tells (written_by x)) (stands.own ∙ e)

  -- .. and of none, which have no data and so are unknown
  module _ (first : ℕ) (low : first < 256 ^ 4) where
    pub read_none_ends : (operation_run kind.Read (read_lba_command tag first 0) device flash bytes store).end ≡ tells (refused 53 (code_number ReadLBA ∷ []))
    unfolding sector_data start_turn zero_length_turn is_erase has_code switches
    read_none_ends = unknown_ends kind.Read (read_lba_command tag first 0) (sector_block_fits first 0 low (omega arith) 0 In ReadLBA (omega arith)) (omega arith) (no_switch (read_lba_command tag first 0) refl refl refl refl device.variety)

    pub write_none_ends : (operation_run kind.Write (write_lba_command tag first 0) device flash bytes store).end ≡ tells (refused 53 (code_number WriteLBA ∷ []))
    unfolding sector_data start_turn zero_length_turn is_erase has_code switches
    write_none_ends = unknown_ends kind.Write (write_lba_command tag first 0) (sector_block_fits first 0 low (omega arith) 0 Out WriteLBA (omega arith)) (omega arith) (no_switch (write_lba_command tag first 0) refl refl refl refl device.variety)
