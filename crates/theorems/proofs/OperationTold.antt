-- What an operation may be told from its start, at a device that stands: a reply, 53 or 57; of the first variety 54, of NOR 15 and 63.
use Prim.Native.Nat.{ℕ, zero, suc, ◌*◌, ◌<◌, ◌≤◌, ◌^◌}
use mathlib.Core.Path.{◌≡◌, refl, sym, subst}
use mathlib.Core.Bool.{Bool, true, false, not}
use mathlib.Core.List.{List, []}
use native.Mathlib.Omega.{arith}
use lib.ListN.{length}
use Rattle.promise.specs.Told.{Told, given, refused}
use Rattle.promise.specs.Rules.{pick, unless, or_refuse}
use Rattle.promise.proofs.Outcome.{by_test}
use Rattle.protocol_bytes.specs.Sector.{sector_size}
use Rattle.protocol.specs.declared.CommandBlock.{CommandBlock}
use Rattle.protocol.specs.Commands.{chip_info_command, flash_id_command, flash_info_command, capability_command, erase_lba_command, erase_force_command, read_lba_command, write_lba_command}
use Rattle.operation_finish.specs.Reply.{Reply, nothing}
use Rattle.operation_finish.specs.declared.Kind.{Kind}
use Rattle.operation_finish.specs.declared.Kind.TheVariants as kind
use Rattle.mock_base.specs.Flash.{fits_in}
use Rattle.mock_base.specs.declared.cells.Variety.{Variety}
use Rattle.mock_base.specs.declared.cells.Variety.TheVariants.{First, Nor}
use Rattle.protocol_codes.specs.declared.Status as status
use Rattle.protocol_codes.specs.declared.Status.TheVariants.{SUCCESS, FAILED}
use Rattle.mock_table.specs.Ways.{splits}
use Rattle.mock_table.specs.Table.{erase_rules}
use Rattle.mock.specs.declared.device.MockState.{MockState}
use Rattle.promise.specs.Run.{End, tells, end_told}
use Rattle.theorems.specs.Standing.{Standing, Sized}
use Rattle.theorems.specs.Runs.{operation_run}
use Rattle.theorems.proofs.OperationEnds.{chip_info_ends, flash_id_ends, flash_info_ends, capability_ends, storage_ends, nor_storage_ends, erase_lba_ends, erase_force_ends, first_erase_lba_ends, first_erase_force_ends, read_ends, read_none_ends, first_write_ends, nor_write_ends, write_none_ends, reset_ends, switch_ends, nor_switch_ends}
use Rattle.theorems.specs.Told.{Started, OperationTold, chip_info_lem, flash_id_lem, flash_info_lem, capability, storage, reset, switch, erase_lba_lem, erase_force_lem, read, write, replies, unknown, unexpected, out_of_range, failed, splits_blocks, by_status}

by_end : (v : Variety) (end : End Reply) (told : Told Reply) → end ≡ tells told → OperationTold v told → OperationTold v (end_told end)
unfolding end_told
by_end v end told e h = subst (λ (x : End Reply). OperationTold v (end_told x)) (sym e) h

by_range : (v : Variety) (fits : Bool) (told : Told Reply) → OperationTold v told → OperationTold v (pick fits told (refused 57 []))
by_range v true told h = h
by_range v false told h = out_of_range v

by_pending : (pending : status.Status) (reply : Reply) → OperationTold Nor (by_status pending (given reply))
unfolding by_status
by_pending SUCCESS reply = replies Nor reply
by_pending FAILED reply = failed

erase_told : (block : ℕ) (c : CommandBlock) (sectors : ℕ) (reply : Reply) → OperationTold Nor (unless (erase_rules Nor block c sectors) (given reply))
unfolding erase_rules or_refuse
erase_told block c sectors reply =
    by_test (OperationTold Nor) (not (fits_in sectors c.cd_address c.cd_length)) (λ e. out_of_range Nor)
    (λ e. by_test (OperationTold Nor) (splits Nor block c) (λ f. splits_blocks) (λ f. replies Nor reply))

module _ (v : Variety) (device : MockState) (flash bytes : List ℕ) (store sectors : ℕ) (stands : Standing v device flash store sectors) where
  read_told : (tag first count : ℕ) → tag < 256 ^ 4 → first < 256 ^ 4 → count < 256 ^ 2 → count * sector_size ≤ length bytes
      → OperationTold v (end_told (operation_run kind.Read (read_lba_command tag first count) device flash bytes store).end)
  read_told tag first zero small low few enough = by_end v _ _ (read_none_ends v device flash bytes store sectors stands tag small first low) (unknown v _)
  read_told tag first (suc n) small low few enough =
      by_end v _ _ (read_ends v device flash bytes store sectors stands tag small first (suc n) low few (omega arith) enough)
      (by_range v (fits_in sectors first (suc n)) _ (replies v _))

  none_told : (tag first : ℕ) → tag < 256 ^ 4 → first < 256 ^ 4 → OperationTold v (end_told (operation_run kind.Write (write_lba_command tag first 0) device flash bytes store).end)
  none_told tag first small low = by_end v _ _ (write_none_ends v device flash bytes store sectors stands tag small first low) (unknown v _)

  -- that which the varieties tell alike
  alike : (k : Kind) (c : CommandBlock) → Type 0
  alike k c = OperationTold v (end_told (operation_run k c device flash bytes store).end)

  info_told : Sized device.config → (tag : ℕ) → tag < 256 ^ 4
      → alike kind.ChipInfo (chip_info_command tag) × alike kind.FlashId (flash_id_command tag) × alike kind.FlashInfo (flash_info_command tag) × alike kind.Capability (capability_command tag)
  unfolding alike
  info_told sized tag small = (
    by_end v _ _ (chip_info_ends v device flash bytes store sectors stands tag small sized) (replies v _),
    by_end v _ _ (flash_id_ends v device flash bytes store sectors stands tag small sized) (replies v _),
    by_end v _ _ (flash_info_ends v device flash bytes store sectors stands tag small sized) (replies v _),
    by_end v _ _ (capability_ends v device flash bytes store sectors stands tag small sized) (replies v _),
  )

module _ (device : MockState) (flash bytes : List ℕ) (store sectors : ℕ) where
  module _ (stands : Standing First device flash store sectors) where
    first_write_told : (tag first count : ℕ) → tag < 256 ^ 4 → first < 256 ^ 4 → count < 256 ^ 2 → count * sector_size ≤ length bytes
        → OperationTold First (end_told (operation_run kind.Write (write_lba_command tag first count) device flash bytes store).end)
    first_write_told tag first zero small low few enough = none_told First device flash bytes store sectors stands tag first small low
    first_write_told tag first (suc n) small low few enough =
        by_end First _ _ (first_write_ends First device flash bytes store sectors stands tag small first (suc n) low few (omega arith) enough refl)
        (by_range First (fits_in sectors first (suc n)) _ (replies First _))

    first_operation_told : (k : Kind) (c : CommandBlock) → Sized device.config → Started (length bytes) k c
        → OperationTold First (end_told (operation_run k c device flash bytes store).end)
    unfolding alike
    first_operation_told k c sized (chip_info_lem tag small) = (info_told First device flash bytes store sectors stands sized tag small).0
    first_operation_told k c sized (flash_id_lem tag small) = (info_told First device flash bytes store sectors stands sized tag small).1
    first_operation_told k c sized (flash_info_lem tag small) = (info_told First device flash bytes store sectors stands sized tag small).2
    first_operation_told k c sized (capability tag small) = (info_told First device flash bytes store sectors stands sized tag small).3
    first_operation_told k c sized (storage tag small) = by_end First _ _ (storage_ends First device flash bytes store sectors stands tag small refl) unexpected
    first_operation_told k c sized (reset tag opcode small) = by_end First _ _ (reset_ends First device flash bytes store sectors stands tag small opcode) (replies First _)
    first_operation_told k c sized (switch tag index small) = by_end First _ _ (switch_ends First device flash bytes store sectors stands tag small refl index) (unknown First _)
    first_operation_told k c sized (erase_lba_lem tag first count small low few) =
        by_end First _ _ (first_erase_lba_ends First device flash bytes store sectors stands tag small first count low few refl) (by_range First (fits_in sectors first count) _ (replies First _))
    first_operation_told k c sized (erase_force_lem tag first count small low few) =
        by_end First _ _ (first_erase_force_ends First device flash bytes store sectors stands tag small first count low few refl) (by_range First (fits_in sectors first count) _ (replies First _))
    first_operation_told k c sized (read tag first count small low few enough) = read_told First device flash bytes store sectors stands tag first count small low few enough
    first_operation_told k c sized (write tag first count small low few enough) = first_write_told tag first count small low few enough

  module _ (stands : Standing Nor device flash store sectors) where
    nor_write_told : (tag first count : ℕ) → tag < 256 ^ 4 → first < 256 ^ 4 → count < 256 ^ 2 → count * sector_size ≤ length bytes
        → OperationTold Nor (end_told (operation_run kind.Write (write_lba_command tag first count) device flash bytes store).end)
    nor_write_told tag first zero small low few enough = none_told Nor device flash bytes store sectors stands tag first small low
    nor_write_told tag first (suc n) small low few enough =
        by_end Nor _ _ (nor_write_ends Nor device flash bytes store sectors stands tag small first (suc n) low few (omega arith) enough refl)
        (by_range Nor (fits_in sectors first (suc n)) _ (by_pending _ _))

    nor_erase_told : (c : CommandBlock) → OperationTold Nor (unless (erase_rules device.variety device.config.block_size_sectors c sectors) (given nothing))
    nor_erase_told c =
        subst (λ (x : Variety). OperationTold Nor (unless (erase_rules x device.config.block_size_sectors c sectors) (given nothing))) (sym stands.own)
        (erase_told device.config.block_size_sectors c sectors nothing)

    nor_operation_told : (k : Kind) (c : CommandBlock) → Sized device.config → Started (length bytes) k c
        → OperationTold Nor (end_told (operation_run k c device flash bytes store).end)
    unfolding alike
    nor_operation_told k c sized (chip_info_lem tag small) = (info_told Nor device flash bytes store sectors stands sized tag small).0
    nor_operation_told k c sized (flash_id_lem tag small) = (info_told Nor device flash bytes store sectors stands sized tag small).1
    nor_operation_told k c sized (flash_info_lem tag small) = (info_told Nor device flash bytes store sectors stands sized tag small).2
    nor_operation_told k c sized (capability tag small) = (info_told Nor device flash bytes store sectors stands sized tag small).3
    nor_operation_told k c sized (storage tag small) = by_end Nor _ _ (nor_storage_ends Nor device flash bytes store sectors stands tag small refl) (replies Nor _)
    nor_operation_told k c sized (reset tag opcode small) = by_end Nor _ _ (reset_ends Nor device flash bytes store sectors stands tag small opcode) (replies Nor _)
    nor_operation_told k c sized (switch tag index small) = by_end Nor _ _ (nor_switch_ends Nor device flash bytes store sectors stands tag small refl index) (by_pending _ _)
    nor_operation_told k c sized (erase_lba_lem tag first count small low few) =
        by_end Nor _ _ (erase_lba_ends Nor device flash bytes store sectors stands tag small first count low few) (nor_erase_told (erase_lba_command tag first count))
    nor_operation_told k c sized (erase_force_lem tag first count small low few) =
        by_end Nor _ _ (erase_force_ends Nor device flash bytes store sectors stands tag small first count low few) (nor_erase_told (erase_force_command tag first count))
    nor_operation_told k c sized (read tag first count small low few enough) = read_told Nor device flash bytes store sectors stands tag first count small low few enough
    nor_operation_told k c sized (write tag first count small low few enough) = nor_write_told tag first count small low few enough

-- of either
pub operation_told : (v : Variety) (device : MockState) (flash bytes : List ℕ) (store sectors : ℕ) → Standing v device flash store sectors → (k : Kind) (c : CommandBlock)
    → Sized device.config → Started (length bytes) k c → OperationTold v (end_told (operation_run k c device flash bytes store).end)
operation_told First device flash bytes store sectors stands k c sized started = first_operation_told device flash bytes store sectors stands k c sized started
operation_told Nor device flash bytes store sectors stands k c sized started = nor_operation_told device flash bytes store sectors stands k c sized started
