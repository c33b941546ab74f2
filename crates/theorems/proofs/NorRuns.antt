-- Runs at a head with NOR flash. A write that the cells refuse ends in 15, its steps counted, the operation rearmed, and old AND new left; behind an
-- erase of its blocks every write is whole and is read back.
use Prim.Native.Nat.{ℕ, ◌+◌, ◌*◌, ◌<◌, ◌≤◌, ◌^◌}
use mathlib.Core.Path.{◌≡◌, refl, ap, sym, subst, ◌∙◌}
use mathlib.Core.Bool.{Bool, true}
use mathlib.Core.List.{List, [], ◌++◌, append_assoc}
use native.Mathlib.Omega.{arith}
use lib.Bits.{bit_and}
use lib.ListN.{length, take, drop, get_or, replicate, length-drop}
use lib.Seq.{length-take-le, take_at, get_or-drop}
use Rattle.promise.specs.Told.{Told, given, refused}
use Rattle.promise.specs.Rules.{pick, or_refuse}
use Rattle.promise.specs.Bytes.{AreBytes, field, front}
use Rattle.promise.specs.Over.{over}
use Rattle.promise.proofs.Over.{field_same}
use Rattle.promise.specs.Run.{tells, Ran}
use Rattle.protocol_bytes.specs.Signature.{same}
use Rattle.protocol_bytes.specs.Sector.{sector_size}
use Rattle.protocol_codes.specs.declared.CommandCode.{CommandCode}
use Rattle.protocol_codes.specs.declared.Direction.TheVariants.{Out}
use Rattle.protocol_codes.specs.declared.Status as status
use Rattle.protocol_codes.specs.declared.Status.TheVariants.{SUCCESS, FAILED}
use Rattle.protocol.specs.CommandBytes.{BlockFits}
use Rattle.protocol.specs.Commands.{sector_command, read_lba_command, write_lba_command}
use Rattle.protocol.specs.declared.CommandBlock.{CommandBlock}
use Rattle.operation_finish.specs.Reply.{Reply, nothing, moved}
use Rattle.operation_finish.specs.Transfer as transfer
use Rattle.operation_finish.specs.Finish.{reply_by}
use Rattle.operation_finish.specs.declared.Kind.TheVariants as kind
use Rattle.operation_finish.proofs.Cases.{sectors_whole}
use Rattle.operation.specs.Record.{fresh}
use Rattle.operation.specs.declared.steps.Operation.TheVariants as operation
use Rattle.mock_base.specs.Flash.{flash_sectors, fits_in}
use Rattle.mock_base.specs.declared.config.MockDeviceConfig.{MockDeviceConfig}
use Rattle.mock_base.specs.declared.cells.Variety.{Variety}
use Rattle.mock_base.specs.declared.cells.Variety.TheVariants.{Nor}
use Rattle.mock_base.proofs.Fitting.{fits_sectors, sectors_fit, whole_sectors}
use Rattle.mock_table.specs.Turn.{has_code, is_out, refuses, done}
use Rattle.mock_table.specs.Ways.{stored_by, moved_by}
use Rattle.mock_table.specs.Table.{range_of, write_io_turn}
use Rattle.mock_table.specs.Erasing.{Erases, Splits}
use Rattle.mock_table.specs.declared.session.CommandState.TheVariants.{None}
use Rattle.mock_table.specs.declared.outcome.Effect.TheVariants as effect
use Rattle.mock_table.proofs.Touches.{erases_fill, splits_63}
use Rattle.mock_effects.specs.Effects.{erased, programmed, cells_told, flash_after, pending_after}
use Rattle.mock_effects.proofs.Programming.{length_programmed, told_success, tells_success, tells_failed, takes_bits}
use Rattle.mock_effects.proofs.Cells.{byte_inside, taken_after_erase}
use Rattle.mock_effects.specs.Steps.{pend}
use Rattle.mock.specs.Device.{CreateMeets, created, fresh_state}
use Rattle.mock.specs.declared.device.MockState.{MockState}
use Rattle.mock.specs.declared.device.MockStep.{MockStep}
use Rattle.mock.specs.Nor.{DiffersAt}
use Rattle.mock.proofs.Nor.{differ_at, failed_same}
use Rattle.run_turn.specs.Turn.{UsbState, usb_state}
use Rattle.run_operation.specs.declared.UsbRun.{UsbRun}
use Rattle.run_operation.specs.Run.{sector_data, whole_budget}
use Rattle.run_operation.specs.Answers.{answer_end, RunMeets}
use Rattle.theorems.specs.Runs.{operation_run}
use Rattle.theorems.specs.Standing.{Standing, AtCommand}
use Rattle.theorems.specs.Told.{by_status}
use Rattle.theorems.proofs.BetweenRuns.{operation_stands}
use Rattle.theorems.proofs.FromStart.{refused_at_once_whole, done_at_once_whole}
use Rattle.theorems.proofs.FromData.{write_answered_whole}
use Rattle.theorems.proofs.OperationEnds.{sector_fits, nor_write_ends, read_ends}
use Rattle.theorems.proofs.SectorsLand.{read_lands}

-- a write of sectors that are in the flash, at a head of either variety
module _ (v : Variety) (device : MockState) (flash bytes : List ℕ) (store sectors : ℕ) (stands : Standing v device flash store sectors) (tag : ℕ) (small : tag < 256 ^ 4)
    (first count : ℕ) (low : first < 256 ^ 4) (few : count < 256 ^ 2) (some : 0 < count) (enough : count * sector_size ≤ length bytes)
    (fits : fits_in sectors first count ≡ true) where
  abbrev command : CommandBlock
  command = write_lba_command tag first count

  abbrev asked : List ℕ
  asked = take (count * sector_size) bytes

  abbrev pending : status.Status
  pending = pending_after (stored_by device.variety (range_of command)) asked flash

  abbrev run : Ran Reply UsbState
  run = operation_run kind.Write command device flash bytes store

  -- WRITTEN. Four steps; the end is what the cells told; the operation starts again at its command; the flash is as the variety stores; no
  -- transaction
  pub write_run : (run.end ≡ tells (by_status pending (given (moved (transfer.whole (count * sector_size)))))) × (run.steps ≡ 4)
      × (run.state.operation.next ≡ operation.CommandBlock) × (run.state.flash ≡ flash_after (stored_by device.variety (range_of command)) asked flash)
      × (run.state.device.current_command ≡ None) × (run.state.«data» ≡ bytes)
  unfolding sector_data write_io_turn or_refuse has_code is_out reply_by moved_by
  write_run =
      let block-fits : BlockFits command = record { tag = small; transfer = omega arith; address = low; count = few } in
      let whole = write_answered_whole kind.Write command v device flash bytes store sectors stands block-fits enough (λ z. omega arith) enough refl
      (moved_by device.variety Out (range_of command)) (sector_fits device.variety device.last_reset command Out sectors fits) in (
        ap (λ (r : Ran Reply UsbState). r.end) whole ∙ ap (λ (t : Told Reply). tells (by_status pending t)) (sectors_whole (count * sector_size) 0 refl),
        ap (λ (r : Ran Reply UsbState). r.steps) whole,
        ap (λ (r : Ran Reply UsbState). r.state.operation.next) whole,
        ap (λ (r : Ran Reply UsbState). r.state.flash) whole,
        ap (λ (r : Ran Reply UsbState). r.state.device.current_command) whole,
        ap (λ (r : Ran Reply UsbState). r.state.«data») whole,
      )

-- .. at a head with NOR flash
module _ (device : MockState) (flash bytes : List ℕ) (store sectors : ℕ) (stands : Standing Nor device flash store sectors) (tag : ℕ) (small : tag < 256 ^ 4)
    (first count : ℕ) (low : first < 256 ^ 4) (few : count < 256 ^ 2) (some : 0 < count) (enough : count * sector_size ≤ length bytes)
    (fits : fits_in sectors first count ≡ true) where
  abbrev at : ℕ
  at = first * sector_size

  abbrev wanted : List ℕ
  wanted = take (count * sector_size) bytes

  abbrev cells : List ℕ
  cells = programmed wanted (drop at flash)

  abbrev its_run : Ran Reply UsbState
  its_run = operation_run kind.Write (write_lba_command tag first count) device flash bytes store

  ended : its_run.end ≡ tells (by_status (cells_told wanted (drop at flash)) (given (moved (transfer.whole (count * sector_size)))))
  ended =
      nor_write_ends Nor device flash bytes store sectors stands tag small first count low few some enough refl
      ∙ ap (λ (b : Bool). tells (pick b (by_status (cells_told wanted (drop at flash)) (given (moved (transfer.whole (count * sector_size))))) (refused 57 []))) fits

  left : its_run.state.flash ≡ over at cells flash
  unfolding stored_by flash_after
  left =
      (write_run Nor device flash bytes store sectors stands tag small first count low few some enough fits).3
      ∙ ap (λ (x : Variety). flash_after (stored_by x (range_of (write_lba_command tag first count))) wanted flash) stands.own

  in-flash : at + length cells ≤ length flash
  in-flash =
      let long = length_programmed wanted (drop at flash) in
      let size = length-take-le (count * sector_size) bytes enough in
      omega (arith, long, size, fits_sectors sectors first count fits, (whole_sectors (length flash) sectors stands.legal).0)

  byte_there : (i : ℕ) → i < length wanted → get_or its_run.state.flash (at + i) 0 ≡ get_or cells i 0
  byte_there i h =
      ap (λ (l : List ℕ). get_or l (at + i) 0) left ∙ byte_inside at cells flash in-flash i (omega (arith, length_programmed wanted (drop at flash)))

  by_status_lem : (pending : status.Status) → tells (by_status pending (given (moved (transfer.whole (count * sector_size))))) ≡ tells (refused 15 []) → pending ≡ FAILED
  unfolding by_status
  by_status_lem SUCCESS e = absurd (let z : ◌≡◌ {A = ℕ} 0 1 = cc in omega arith)
  by_status_lem FAILED e = refl

  -- 15 EXACTLY where some byte is not the one asked; and whatever the end, four steps were counted, the operation starts again at its command, each
  -- byte is old AND new, all else of the flash as it was, and the head has no transaction
  pub cells_refuse_exactly : (DiffersAt at wanted its_run.state.flash → its_run.end ≡ tells (refused 15 []))
      × (its_run.end ≡ tells (refused 15 []) → DiffersAt at wanted its_run.state.flash)
  unfolding by_status cells_told
  cells_refuse_exactly = (
    (λ d.
        let failed : cells_told wanted (drop at flash) ≡ FAILED =
        tells_failed wanted (drop at flash) (λ same. d.other (byte_there d.place d.among ∙ ap (λ (l : List ℕ). get_or l d.place 0) same)) in
        ended ∙ ap (λ (p : status.Status). tells (by_status p (given (moved (transfer.whole (count * sector_size)))))) failed),
    (λ e.
        let failed : cells_told wanted (drop at flash) ≡ FAILED = by_status_lem (cells_told wanted (drop at flash)) (sym ended ∙ e) in
        let d = differ_at cells wanted (length_programmed wanted (drop at flash)) (failed_same (same cells wanted) failed) in
        record { place = d.0; among = d.1; other = λ f. d.2 (sym (byte_there d.0 d.1) ∙ f) }),
  )

  -- for any caller of the runs: what is left, and the end by the bytes that stand there afterwards, or by the bits of the cells before
  pub nor_write_leaves : (r : UsbRun) (after leaves : List ℕ) → RunMeets r after leaves its_run
      → (r.steps ≡ 4) × (r.operation.next ≡ operation.CommandBlock) × (after ≡ over at cells flash) × (leaves ≡ bytes) × (r.device.current_command ≡ None)
  nor_write_leaves r after leaves m =
      let w = write_run Nor device flash bytes store sectors stands tag small first count low few some enough fits in (
        m.steps ∙ w.1,
        ap (λ (s : UsbState). s.operation.next) m.leaves ∙ w.2,
        ap (λ (s : UsbState). s.flash) m.leaves ∙ left,
        ap (λ (s : UsbState). s.«data») m.leaves ∙ w.5,
        ap (λ (s : UsbState). s.device.current_command) m.leaves ∙ w.4,
      )

  pub nor_write_15 : (r : UsbRun) (after leaves : List ℕ) → RunMeets r after leaves its_run
      → (DiffersAt at wanted after → answer_end r.answer r.beside ≡ tells (refused 15 [])) × (answer_end r.answer r.beside ≡ tells (refused 15 []) → DiffersAt at wanted after)
  nor_write_15 r after leaves m =
      let same = ap (λ (s : UsbState). s.flash) m.leaves in (
        (λ d. m.tells ∙ cells_refuse_exactly.0 (subst (DiffersAt at wanted) same d)),
        (λ e. subst (DiffersAt at wanted) (sym same) (cells_refuse_exactly.1 (sym m.tells ∙ e))),
      )

  pub nor_write_whole : (r : UsbRun) (after leaves : List ℕ) → RunMeets r after leaves its_run
      → ((i : ℕ) → i < length wanted → bit_and (get_or flash (at + i) 0) (get_or wanted i 0) ≡ get_or wanted i 0)
      → (answer_end r.answer r.beside ≡ tells (given (moved (transfer.whole (count * sector_size))))) × (after ≡ over at wanted flash)
  unfolding by_status
  nor_write_whole r after leaves m all =
      let room : length wanted ≤ length (drop at flash) = simp length-drop (omega (arith, in-flash, length_programmed wanted (drop at flash))) in
      let same = takes_bits wanted (drop at flash) room (λ i h. ap (λ (x : ℕ). bit_and x (get_or wanted i 0)) (get_or-drop at flash i 0) ∙ all i h) in
      let success = tells_success wanted (drop at flash) same in (
        m.tells ∙ ended ∙ ap (λ (p : status.Status). tells (by_status p (given (moved (transfer.whole (count * sector_size)))))) success,
        ap (λ (s : UsbState). s.flash) m.leaves ∙ left ∙ ap (λ (l : List ℕ). over at l flash) same,
      )

-- an erase that is taken
module _ (device : MockState) (flash bytes : List ℕ) (store sectors : ℕ) (stands : Standing Nor device flash store sectors) (tag : ℕ) (small : tag < 256 ^ 4)
    (first count : ℕ) (low : first < 256 ^ 4) (few : count < 256 ^ 2) (code : CommandCode)
    (takes : Erases Nor device.config.block_size_sectors sectors (sector_command tag 0 Out code first count)) where
  abbrev erasing : CommandBlock
  erasing = sector_command tag 0 Out code first count

  abbrev erase_run : Ran Reply UsbState
  erase_run = operation_run kind.Nothing erasing device flash bytes store

  -- ERASED. Its sectors are 0xFF, and all else of the flash is as it was
  pub erased_by_run : (erase_run.end ≡ tells (given nothing)) × (erase_run.state.flash ≡ over (first * sector_size) (replicate (count * sector_size) erased) flash)
  unfolding sector_data reply_by by_status pending_after flash_after done
  erased_by_run =
      let block = device.config.block_size_sectors in
      let block-fits : BlockFits erasing = record { tag = small; transfer = omega arith; address = low; count = few } in
      let row = subst (λ (x : Variety). Erases x block sectors erasing) (sym stands.own) takes in
      let whole = done_at_once_whole kind.Nothing erasing Nor device flash bytes store sectors stands block-fits (omega arith) SUCCESS device.last_reset (effect.Fill (range_of erasing)) refl
      (erases_fill device.variety block device.last_reset sectors erasing row) refl in
      (ap (λ (r : Ran Reply UsbState). r.end) whole, ap (λ (r : Ran Reply UsbState). r.state.flash) whole)

  abbrev erased_device : MockState
  erased_device = erase_run.state.device

  abbrev erased_flash : List ℕ
  erased_flash = erase_run.state.flash

  still_stands : Standing Nor erased_device erased_flash store sectors
  still_stands = operation_stands Nor device flash sectors (fresh kind.Nothing erasing) bytes store stands

  -- WHOLE. A write inside it, of bytes, is told whole, and leaves what was asked
  module _ (lent : List ℕ) (tag₁ : ℕ) (small₁ : tag₁ < 256 ^ 4) (from n : ℕ) (some : 0 < n) (begins : first ≤ from) (ends : from + n ≤ first + count) (enough : n * sector_size ≤ length lent)
      (are : AreBytes (take (n * sector_size) lent)) where
    abbrev write_after : Ran Reply UsbState
    write_after = operation_run kind.Write (write_lba_command tag₁ from n) erased_device erased_flash lent store

    in-range : fits_in sectors from n ≡ true
    in-range = sectors_fit sectors from n (omega (arith, fits_sectors sectors first count takes.within.fits))

    from_low : from < 256 ^ 4
    from_low =
        let whole = whole_sectors (length flash) sectors stands.legal in
        omega (arith, whole.1, fits_sectors sectors first count takes.within.fits)

    success : cells_told (take (n * sector_size) lent) (drop (from * sector_size) erased_flash) ≡ SUCCESS
    success =
        let size = length-take-le (n * sector_size) lent enough in
        let whole = whole_sectors (length flash) sectors stands.legal in
        let fit = fits_sectors sectors first count takes.within.fits in
        ap (λ (l : List ℕ). cells_told (take (n * sector_size) lent) (drop (from * sector_size) l)) erased_by_run.1
        ∙ taken_after_erase (first * sector_size) (count * sector_size) (from * sector_size) (take (n * sector_size) lent) flash (omega (arith, whole.0, fit)) (omega arith) (omega (arith, size)) are

    pub write_after_erase : (write_after.end ≡ tells (given (moved (transfer.whole (n * sector_size)))))
        × (write_after.state.flash ≡ over (from * sector_size) (take (n * sector_size) lent) erased_flash)
    unfolding by_status
    write_after_erase = (
      ended erased_device erased_flash lent store sectors still_stands tag₁ small₁ from n from_low (omega arith) some enough in-range
          ∙ ap (λ (p : status.Status). tells (by_status p (given (moved (transfer.whole (n * sector_size)))))) success,
      left erased_device erased_flash lent store sectors still_stands tag₁ small₁ from n from_low (omega arith) some enough in-range
          ∙ ap (λ (l : List ℕ). over (from * sector_size) l erased_flash) (told_success (take (n * sector_size) lent) (drop (from * sector_size) erased_flash) success),
    )

    -- READ BACK. And a read of those sectors then gives these bytes
    module _ (room : List ℕ) (tag₂ : ℕ) (small₂ : tag₂ < 256 ^ 4) (space : n * sector_size ≤ length room) where
      abbrev read_after : Ran Reply UsbState
      read_after = operation_run kind.Read (read_lba_command tag₂ from n) write_after.state.device write_after.state.flash room store

      read_stands : Standing Nor write_after.state.device write_after.state.flash store sectors
      read_stands = operation_stands Nor erased_device erased_flash sectors (fresh kind.Write (write_lba_command tag₁ from n)) lent store still_stands

      read_whole : read_after.end ≡ tells (given (moved (transfer.whole (n * sector_size))))
      read_whole =
          read_ends Nor write_after.state.device write_after.state.flash room store sectors read_stands tag₂ small₂ from n from_low (omega arith) some space
          ∙ ap (λ (b : Bool). tells (pick b (given (moved (transfer.whole (n * sector_size)))) (refused 57 []))) in-range

      pub read_back : (read_after.end ≡ tells (given (moved (transfer.whole (n * sector_size))))) × (take (n * sector_size) read_after.state.«data» ≡ take (n * sector_size) lent)
      read_back =
          let s = usb_state (fresh kind.Read (read_lba_command tag₂ from n)) write_after.state.device write_after.state.flash room in
          let size : length (take (n * sector_size) lent) ≡ n * sector_size = length-take-le (n * sector_size) lent enough in
          let block-fits : BlockFits (read_lba_command tag₂ from n) = record { tag = small₂; transfer = omega arith; address = from_low; count = omega arith } in
          let at_command : AtCommand s = record { here = refl; none = read_stands.none; fits = block-fits; long = λ z. omega arith } in
          let landed = (read_lands s store whole_budget (moved (transfer.whole (n * sector_size))) at_command refl refl read_whole).1 in
          let at = from * sector_size in
          let fit = fits_sectors sectors from n in-range in
          let erased-whole = whole_sectors (length erased_flash) sectors still_stands.legal in
          let inside : at + length (take (n * sector_size) lent) ≤ length erased_flash = omega (arith, size, erased-whole.0, fit) in
          let there : field at (n * sector_size) write_after.state.flash ≡ take (n * sector_size) lent =
          ap (field at (n * sector_size)) write_after_erase.1
          ∙ ap (λ (k : ℕ). field at k (over at (take (n * sector_size) lent) erased_flash)) (sym size)
          ∙ field_same at (take (n * sector_size) lent) erased_flash inside in
          let sent = take (n * sector_size) lent in
          let held = take (n * sector_size) room in
          let behind = drop (length (front sent held)) room in (
            read_whole,
            ap (take (n * sector_size)) (landed ∙ ap (λ (l : List ℕ). front (front l held) room) there ∙ append_assoc sent (drop (length sent) held) behind)
                ∙ take_at sent (drop (length sent) held ++ behind) (n * sector_size) size,
          )

      -- for any caller of the runs, who hands each run the head and the flash that the one before left
      pub nor_read_back : (erasure written read : UsbRun) (flash₁ data₁ flash₂ data₂ flash₃ data₃ : List ℕ) → RunMeets erasure flash₁ data₁ erase_run
          → RunMeets written flash₂ data₂ (operation_run kind.Write (write_lba_command tag₁ from n) erasure.device flash₁ lent store)
          → RunMeets read flash₃ data₃ (operation_run kind.Read (read_lba_command tag₂ from n) written.device flash₂ room store)
          → (answer_end erasure.answer erasure.beside ≡ tells (given nothing))
          × (answer_end written.answer written.beside ≡ tells (given (moved (transfer.whole (n * sector_size)))))
          × (answer_end read.answer read.beside ≡ tells (given (moved (transfer.whole (n * sector_size)))))
          × (take (n * sector_size) data₃ ≡ take (n * sector_size) lent)
      nor_read_back erasure written read flash₁ data₁ flash₂ data₂ flash₃ data₃ me mw mr =
          let writes = ap (λ (s : UsbState). operation_run kind.Write (write_lba_command tag₁ from n) s.device s.flash lent store) me.leaves in
          let reads = ap (λ (s : UsbState). operation_run kind.Read (read_lba_command tag₂ from n) s.device s.flash room store) (mw.leaves ∙ ap (λ (x : Ran Reply UsbState). x.state) writes) in (
            me.tells ∙ erased_by_run.0,
            mw.tells ∙ ap (λ (x : Ran Reply UsbState). x.end) writes ∙ write_after_erase.0,
            mr.tells ∙ ap (λ (x : Ran Reply UsbState). x.end) reads ∙ read_back.0,
            ap (λ (s : UsbState). take (n * sector_size) s.«data») (mr.leaves ∙ ap (λ (x : Ran Reply UsbState). x.state) reads) ∙ read_back.1,
          )

-- an erase that 63 refuses, for any caller: one step, the flash as it was, and no transaction
module _ (device : MockState) (flash bytes : List ℕ) (store sectors : ℕ) (stands : Standing Nor device flash store sectors) (tag : ℕ) (small : tag < 256 ^ 4)
    (first count : ℕ) (low : first < 256 ^ 4) (few : count < 256 ^ 2) (code : CommandCode)
    (parts : Splits Nor device.config.block_size_sectors sectors (sector_command tag 0 Out code first count)) where
  abbrev refused_run : Ran Reply UsbState
  refused_run = operation_run kind.Nothing (sector_command tag 0 Out code first count) device flash bytes store

  pub nor_erase_63 : (r : UsbRun) (after leaves : List ℕ) → RunMeets r after leaves refused_run
      → (answer_end r.answer r.beside ≡ tells (refused 63 [])) × (r.steps ≡ 1) × (after ≡ flash) × (r.device.current_command ≡ None)
  unfolding sector_data refuses flash_after pending_after pend
  nor_erase_63 r after leaves m =
      let c = sector_command tag 0 Out code first count in
      let block = device.config.block_size_sectors in
      let block-fits : BlockFits c = record { tag = small; transfer = omega arith; address = low; count = few } in
      let row = subst (λ (x : Variety). Splits x block sectors c) (sym stands.own) parts in
      let whole = refused_at_once_whole kind.Nothing c Nor device flash bytes store sectors stands block-fits (omega arith) (refuses device.last_reset 63 [])
      (splits_63 device.variety block device.last_reset sectors c row) 63 [] refl in (
        m.tells ∙ ap (λ (x : Ran Reply UsbState). x.end) whole,
        m.steps ∙ ap (λ (x : Ran Reply UsbState). x.steps) whole,
        ap (λ (s : UsbState). s.flash) (m.leaves ∙ ap (λ (x : Ran Reply UsbState). x.state) whole),
        ap (λ (s : UsbState). s.device.current_command) (m.leaves ∙ ap (λ (x : Ran Reply UsbState). x.state) whole),
      )

-- a head that a creation gave, unrefused, is one that all of this is said of
pub created_stands : (v : Variety) (config : MockDeviceConfig) (flash : List ℕ) (store sectors : ℕ) (r : MockStep) → CreateMeets r (created v config (length flash) store)
    → flash_sectors (length flash) ≡ given sectors → Standing v r.state flash store sectors
unfolding created fresh_state
created_stands v config flash store sectors r m legal =
    record {
      own = ap (λ (s : MockState). s.variety) m.fresh;
      legal = legal;
      stored = sym (ap (λ (s : MockState). s.store_length) m.fresh);
      none = ap (λ (s : MockState). s.current_command) m.fresh;
    }
