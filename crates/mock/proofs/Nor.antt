-- A head with NOR flash, for any caller of the device's calls.
use Prim.Native.Nat.{ℕ, suc, ◌+◌, ◌*◌, ◌/◌, ◌%◌, ◌≤◌, ◌<◌}
use mathlib.Core.Path.{◌≡◌, refl, ap, ap₂, sym, subst, ◌∙◌}
use mathlib.Core.Bool.{Bool, true, false, not}
use mathlib.Core.Logic.{◌⊎◌, inl, inr, ⊎_elim}
use mathlib.Core.List.{List, [], ◌∷◌}
use native.Mathlib.Omega.{arith}
use lib.Bits.{bit_and, and_self}
use lib.Dec.{eqb, ltb}
use lib.ListN.{length, drop, get_or, length-drop}
use lib.Seq.{get_or-drop}
use borrow.Author.Tests.{eqb-true, eq-eqb}
use Rattle.promise.specs.Told.{Told, given, refused, number, and_then}
use Rattle.promise.specs.Rules.{pick, unless, or_refuse}
use Rattle.promise.specs.Bytes.{field, front, AreBytes}
use Rattle.promise.specs.Over.{over}
use Rattle.promise.proofs.Over.{field_same}
use Rattle.promise.proofs.Outcome.{on_test, either_way}
use Rattle.protocol_bytes.specs.Signature.{same}
use Rattle.protocol_bytes.specs.Sector.{sector_size}
use Rattle.protocol_codes.specs.declared.Status as status
use Rattle.protocol_codes.specs.declared.Status.TheVariants.{SUCCESS, FAILED}
use Rattle.protocol.specs.declared.CommandBlock.{CommandBlock}
use Rattle.protocol_status.specs.StatusBytes.{status_bytes}
use Rattle.mock_base.specs.Flash.{most_flash_sectors, flash_rules, flash_sectors}
use Rattle.mock_base.specs.Told.{result_told, error_values}
use Rattle.mock_base.specs.declared.cells.Variety.{Variety}
use Rattle.mock_base.specs.declared.cells.Variety.TheVariants.{First, Nor}
use Rattle.mock_base.specs.declared.config.MockDeviceConfig.{MockDeviceConfig}
use Rattle.mock_base.specs.declared.error.MockTransportError.TheVariants.{UnalignedErase, ZeroBlockSize}
use Rattle.mock_base.proofs.Unique.{result_from, error_from, result_from_lem}
use Rattle.mock_table.specs.Turn.{Turn, refuses, done, reply_size}
use Rattle.mock_table.specs.Ways.{stored_by, splits}
use Rattle.mock_table.specs.Table.{start_turn, write_row, write_turn, status_turn, read_row, range_of}
use Rattle.mock_table.specs.Erasing.{command_in, Splits}
use Rattle.mock_table.specs.declared.session.CommandState.{CommandState}
use Rattle.mock_table.specs.declared.session.CommandState.TheVariants.{None, IO, Status}
use Rattle.mock_table.specs.declared.session.Session.{Session}
use Rattle.mock_table.specs.declared.outcome.Effect.{Effect}
use Rattle.mock_table.specs.declared.outcome.Effect.TheVariants.{Reply}
use Rattle.mock_table.proofs.Sane.{write_sane}
use Rattle.mock_table.specs.declared.outcome.ReplyKind.TheVariants as reply
use Rattle.mock_table.proofs.Touches.{write_touches, splits_63}
use Rattle.mock_effects.specs.Effects.{erased, programmed, cells_told, flash_after, pending_after, reply_bytes, buffer_after}
use Rattle.mock_effects.specs.Steps.{pend, write_step_of, write_step_by, read_step_of, read_step_by}
use Rattle.mock_effects.specs.Cells.{GainsNone}
use Rattle.mock_effects.proofs.Cells.{and_through, byte_inside, write_keeps, whole_block, tail_not_erased}
use Rattle.mock_effects.proofs.Programming.{length_programmed, told_success, tells_success, tells_failed, takes_bits, bits_taken, erased_takes}
use Rattle.mock_effects.proofs.ReadBack.{stored}
use Rattle.mock.specs.Device.{Call, MockMeets, CreateMeets, session_of, bulk, block_rules, create_told, created, is_upload, control_rules, write_bulk, read_bulk, write_control}
use Rattle.mock.specs.Nor.{like, DiffersAt, ErasedBy, BlockErased, Through, no_call, a_write, a_read, a_control}
use Rattle.mock.specs.declared.device.MockState.{MockState}
use Rattle.mock.specs.declared.device.MockStep.{MockStep}
use Rattle.std.specs.Prelude.{Result}
use Rattle.mock_base.specs.declared.error.MockTransportError.{MockTransportError}
use Rattle.std.specs.declared.result.Result.TheVariants.{Ok, Err}

-- BITS. A byte that has one more bit after a bulk write lies in an erase that the head took: no write sets one
pub bits_by_erase : (s : MockState) (flash bytes after : List ℕ) (r : MockStep) → s.variety ≡ Nor → MockMeets r after (write_bulk s flash bytes) → (i : ℕ)
    → GainsNone flash after i ⊎ ErasedBy s flash bytes i
unfolding write_bulk
bits_by_erase s flash bytes after r nor meets i =
    let block = s.config.block_size_sectors in
    let leaves : after ≡ (write_step_by Nor block (session_of s) flash bytes).leaves =
    meets.leaves ∙ ap (λ (x : Variety). (write_step_by x block (session_of s) flash bytes).leaves) nor in
    subst (λ (l : List ℕ). GainsNone flash l i ⊎ ErasedBy s flash bytes i) (sym leaves) (write_keeps block (session_of s) flash bytes i)

-- .. and the whole block of that byte lies in it
pub bits_by_block : (s : MockState) (flash bytes after : List ℕ) (r : MockStep) → s.variety ≡ Nor → MockMeets r after (write_bulk s flash bytes) → (i : ℕ)
    → GainsNone flash after i ⊎ BlockErased s flash bytes i
bits_by_block s flash bytes after r nor meets i =
    ⊎_elim (λ h. inl h)
    (λ e. inr (record { erase = e; whole = whole_block s.config.block_size_sectors (length flash / sector_size) (command_in s.current_command bytes) i e }))
    (bits_by_erase s flash bytes after r nor meets i)

-- so a byte behind the last whole block gains none
pub tail_gains_none : (s : MockState) (flash bytes after : List ℕ) (r : MockStep) → s.variety ≡ Nor → MockMeets r after (write_bulk s flash bytes) → (i : ℕ)
    → length flash / sector_size / s.config.block_size_sectors * s.config.block_size_sectors ≤ i / sector_size → GainsNone flash after i
tail_gains_none s flash bytes after r nor meets i behind =
    ⊎_elim (λ h. h)
    (λ e. absurd (tail_not_erased s.config.block_size_sectors (length flash / sector_size) (command_in s.current_command bytes) i behind e))
    (bits_by_erase s flash bytes after r nor meets i)

-- no call makes another variety of a head
control_own : (s : MockState) (type request value index : ℕ) (bytes store : List ℕ) → (write_control s type request value index bytes store).next.variety ≡ s.variety
unfolding write_control
control_own s type request value index bytes store =
    either_way (λ (c : Call). c.next.variety ≡ s.variety) _ (control_rules s type request value (length store)) _ (λ n values. refl) (λ met. refl)

through_own : (i : ℕ) (s : MockState) (flash : List ℕ) (t : MockState) (held : List ℕ) → Through i s flash t held → t.variety ≡ s.variety
unfolding write_bulk read_bulk
through_own i s flash _ _ no_call = refl
through_own i s flash _ _ (a_write t held bytes after r before m apart) = ap (λ (x : MockState). x.variety) m.next ∙ through_own i s flash t held before
through_own i s flash _ _ (a_read t held buffer after r before m) = ap (λ (x : MockState). x.variety) m.next ∙ through_own i s flash t held before
through_own i s flash _ _ (a_control t type request value index held bytes store after r before m) =
    ap (λ (x : MockState). x.variety) m.next ∙ control_own t type request value index bytes store ∙ through_own i s flash t held before

-- .. and over any calls, none of which erases it, a byte gains none
pub no_bits_through : (i : ℕ) (s : MockState) (flash : List ℕ) (t : MockState) (held : List ℕ) → s.variety ≡ Nor → Through i s flash t held → GainsNone flash held i
no_bits_through i s flash _ _ nor no_call = and_self (get_or flash i 0)
no_bits_through i s flash _ _ nor (a_write t held bytes after r before m apart) =
    let first = no_bits_through i s flash t held nor before in
    ⊎_elim (λ h. and_through (get_or flash i 0) (get_or held i 0) (get_or after i 0) first h) (λ e. absurd (apart e))
    (bits_by_erase t held bytes after r (through_own i s flash t held before ∙ nor) m i)
no_bits_through i s flash _ _ nor (a_read t held buffer after r before m) = no_bits_through i s flash t held nor before
no_bits_through i s flash _ _ nor (a_control t type request value index held bytes store after r before m) = no_bits_through i s flash t held nor before

-- two lists of one length that are not equal differ at a place
pub differ_at : (xs ys : List ℕ) → length xs ≡ length ys → same xs ys ≡ false → (i : ℕ) × (i < length ys) × (get_or xs i 0 ≡ get_or ys i 0 → ⊥)
unfolding same
differ_at [] [] long e = absurd (let z : ◌≡◌ {A = ℕ} 0 1 = cc in omega arith)
differ_at [] (y ∷ ys) long e = absurd (omega arith)
differ_at (x ∷ xs) [] long e = absurd (omega arith)
differ_at (x ∷ xs) (y ∷ ys) long e =
    on_test (eqb x y)
    (λ t.
    let rest : same xs ys ≡ false = rw t at e in
    let d = differ_at xs ys (omega arith) rest in
    (suc d.0, omega (arith, d.1), d.2))
    (λ t. (0, omega arith, λ f. let z : true ≡ false = sym (eq-eqb x y f) ∙ t in let w : ◌≡◌ {A = ℕ} 0 1 = cc in omega arith))

pub failed_same : (all : Bool) → pick all SUCCESS FAILED ≡ FAILED → all ≡ false
failed_same true e = absurd (let z : ◌≡◌ {A = ℕ} 0 1 = cc in omega arith)
failed_same false e = refl

-- a write of sector data that the head took
module _ (s : MockState) (flash bytes after : List ℕ) (r : MockStep) (c : CommandBlock) (nor : s.variety ≡ Nor) (awaits : s.current_command ≡ IO c)
    (meets : MockMeets r after (write_bulk s flash bytes)) (accepted : r.answer.result ≡ (Ok tt)) where
  abbrev at : ℕ
  at = c.cd_address * sector_size

  abbrev cells : List ℕ
  cells = programmed bytes (drop at flash)

  as_nor : (write_bulk s flash bytes).told ≡ given tt
  unfolding result_told
  as_nor = sym meets.tells.tells ∙ ap (λ (x : Result Unit MockTransportError). result_told x r.answer.signature) accepted

  put : (after ≡ over at cells flash) × (at + length bytes ≤ length flash) × (r.state.current_command ≡ Status c (cells_told bytes (drop at flash)))
  unfolding write_bulk stored_by flash_after pending_after
  put =
      let block = s.config.block_size_sectors in
      let w = stored s.variety block (session_of s) flash bytes c awaits as_nor in (
        meets.leaves ∙ w.leaves ∙ ap (λ (x : Variety). flash_after (stored_by x (range_of c)) bytes flash) nor,
        w.inside,
        ap (λ (x : MockState). x.current_command) meets.next ∙ w.pending
            ∙ ap (λ (x : Variety). Status c (pending_after (stored_by x (range_of c)) bytes flash)) nor,
      )

  -- OLD AND NEW. Whatever the status will be, each byte is the one that stood there AND the one asked, and all else is as it was
  pub old_and_new : after ≡ over at cells flash
  old_and_new = put.0

  fits_there : at + length cells ≤ length flash
  fits_there = omega (arith, put.1, length_programmed bytes (drop at flash))

  stands_there : (i : ℕ) → i < length bytes → get_or after (at + i) 0 ≡ get_or cells i 0
  stands_there i h =
      ap (λ (l : List ℕ). get_or l (at + i) 0) old_and_new ∙ byte_inside at cells flash fits_there i (omega (arith, length_programmed bytes (drop at flash)))

  by_cells : (status : status.Status) → cells_told bytes (drop at flash) ≡ status → r.state.current_command ≡ Status c status
  by_cells status e = put.2 ∙ ap (Status c) e

  told_of : (status : status.Status) → r.state.current_command ≡ Status c status → cells_told bytes (drop at flash) ≡ status
  told_of status e = let f : Status c (cells_told bytes (drop at flash)) ≡ Status c status = sym put.2 ∙ e in cc

  -- FAILED is pending exactly if some byte is not the one asked ..
  pub failed_exactly : (DiffersAt at bytes after → r.state.current_command ≡ Status c FAILED) × (r.state.current_command ≡ Status c FAILED → DiffersAt at bytes after)
  unfolding cells_told
  failed_exactly = (
    (λ d. by_cells FAILED (tells_failed bytes (drop at flash)
        (λ same. d.other (stands_there d.place d.among ∙ ap (λ (l : List ℕ). get_or l d.place 0) same)))),
    (λ e.
        let none : same cells bytes ≡ false = failed_same (same cells bytes) (told_of FAILED e) in
        let d = differ_at cells bytes (length_programmed bytes (drop at flash)) none in
        record { place = d.0; among = d.1; other = λ f. d.2 (sym (stands_there d.0 d.1) ∙ f) }),
  )

  -- .. and success exactly if all bytes are as asked
  pub success_exactly : (after ≡ over at bytes flash → r.state.current_command ≡ Status c SUCCESS) × (r.state.current_command ≡ Status c SUCCESS → after ≡ over at bytes flash)
  success_exactly = (
    (λ e.
        let all : cells ≡ bytes =
        sym (field_same at cells flash fits_there) ∙ ap (field at (length cells)) (sym old_and_new ∙ e)
        ∙ ap (λ (n : ℕ). field at n (over at bytes flash)) (length_programmed bytes (drop at flash)) ∙ field_same at bytes flash put.1 in
        by_cells SUCCESS (tells_success bytes (drop at flash) all)),
    (λ e. old_and_new ∙ ap (λ (l : List ℕ). over at l flash) (told_success bytes (drop at flash) (told_of SUCCESS e))),
  )

  -- .. and that goes by the cells as they were: success exactly if no byte asked has a bit that its cell had not, as no byte has where all cells are
  -- 0xFF
  pub success_by_bits : (((i : ℕ) → i < length bytes → bit_and (get_or flash (at + i) 0) (get_or bytes i 0) ≡ get_or bytes i 0) → r.state.current_command ≡ Status c SUCCESS)
      × (r.state.current_command ≡ Status c SUCCESS → (i : ℕ) → i < length bytes → bit_and (get_or flash (at + i) 0) (get_or bytes i 0) ≡ get_or bytes i 0)
  success_by_bits =
      let room : length bytes ≤ length (drop at flash) = simp length-drop (omega (arith, put.1)) in (
        (λ all. by_cells SUCCESS (tells_success bytes (drop at flash)
            (takes_bits bytes (drop at flash) room (λ i h. ap (λ (x : ℕ). bit_and x (get_or bytes i 0)) (get_or-drop at flash i 0) ∙ all i h)))),
        (λ e i h. ap (λ (x : ℕ). bit_and x (get_or bytes i 0)) (sym (get_or-drop at flash i 0))
            ∙ bits_taken bytes (drop at flash) room (told_success bytes (drop at flash) (told_of SUCCESS e)) i h),
      )

  pub erased_cells_take : ((i : ℕ) → i < length bytes → get_or flash (at + i) 0 ≡ erased) → AreBytes bytes → (r.state.current_command ≡ Status c SUCCESS) × (after ≡ over at bytes flash)
  erased_cells_take clear are =
      let success = success_by_bits.0 (λ i h. ap (λ (x : ℕ). bit_and x (get_or bytes i 0)) (clear i h) ∙ erased_takes (get_or bytes i 0) (are i)) in
      (success, success_exactly.1 success)

-- the status that is pending is what a read of 13 bytes gets, with the command's tag and residue 0, at either variety; and then there is no
-- transaction
module _ (s : MockState) (flash buffer after : List ℕ) (r : MockStep) (c : CommandBlock) (pending : status.Status) (awaits : s.current_command ≡ Status c pending)
    (sectors : ℕ) (legal : flash_sectors (length flash) ≡ given sectors) (long : length buffer ≡ 13) (meets : MockMeets r after (read_bulk s flash buffer)) where
  abbrev step : Call
  step = read_bulk s flash buffer

  row : read_row s.variety s.current_command s.last_reset sectors (length buffer) ≡ done None s.last_reset (Reply (reply.Status c.tag pending))
  unfolding read_row status_turn or_refuse reply_size
  row = ap (λ (x : CommandState). read_row s.variety x s.last_reset sectors (length buffer)) awaits ∙ rw (eq-eqb (length buffer) 13 long) refl

  pub status_told_lem : (after ≡ front (status_bytes (record { tag = c.tag; residue = 0; status = pending })) buffer) × (r.state.current_command ≡ None)
  unfolding read_bulk read_step_by read_step_of done buffer_after reply_bytes
  status_told_lem = (
    meets.leaves ∙ ap (λ (t : Told ℕ). (read_step_of t s.variety (session_of s) s.config flash buffer).leaves) legal
        ∙ ap (λ (t : Turn). buffer_after s.config t.effect flash buffer) row,
    ap (λ (x : MockState). x.current_command) meets.next
        ∙ ap (λ (t : Told ℕ). (read_step_of t s.variety (session_of s) s.config flash buffer).next.current_command) legal
        ∙ ap (λ (t : Turn). t.next.current_command) row,
  )

-- 63 EXACTLY: of a head with NOR flash, for a command that is an erase within the flash and splits a block; then nothing is erased, and the
-- transaction has ended (`unaligned_leaves`)
splits_nor : (v : Variety) (block : ℕ) (c : CommandBlock) → splits v block c ≡ true → v ≡ Nor
unfolding splits
splits_nor First block c e = absurd (let z : ◌≡◌ {A = ℕ} 0 1 = cc in omega arith)
splits_nor Nor block c e = refl

module _ (s : MockState) (flash bytes after : List ℕ) (r : MockStep) (sectors : ℕ) (legal : flash_sectors (length flash) ≡ given sectors)
    (meets : MockMeets r after (write_bulk s flash bytes)) where
  abbrev block : ℕ
  block = s.config.block_size_sectors

  abbrev turn : Turn
  turn = write_turn s.variety block (session_of s) sectors bytes

  abbrev Splitting : Type 0
  Splitting = (c : CommandBlock) × (command_in s.current_command bytes ≡ given c) × Splits s.variety block sectors c

  told_by_lem : (write_bulk s flash bytes).told ≡ turn.told
  unfolding write_bulk write_step_by write_step_of
  told_by_lem = ap (λ (t : Told ℕ). (write_step_of t s.variety block (session_of s) flash bytes).told) legal

  as_turn : (told : Told Unit) → turn.told ≡ told → r.answer.result ≡ result_from told
  as_turn told e = sym (result_from_lem r.answer.result r.answer.signature) ∙ ap result_from (meets.tells.tells ∙ told_by_lem ∙ e)

  row_63 : (state : CommandState) (c : CommandBlock) → command_in state bytes ≡ given c → Splits s.variety block sectors c
      → (write_row s.variety block state s.last_reset sectors bytes).told ≡ refused 63 []
  unfolding command_in write_row refuses
  row_63 None c read h =
      ap (λ (t : Turn). t.told) (ap (λ (t : Told CommandBlock). start_turn s.variety block t s.last_reset sectors) read ∙ splits_63 s.variety block s.last_reset sectors c h)
  row_63 (IO d) c read h = absurd (let z : ◌≡◌ {A = ℕ} 0 1 = cc in omega arith)
  row_63 (Status d status) c read h = absurd (let z : ◌≡◌ {A = ℕ} 0 1 = cc in omega arith)

  pub unaligned_exactly : (Splitting → r.answer.result ≡ Err UnalignedErase) × (r.answer.result ≡ Err UnalignedErase → (s.variety ≡ Nor) × Splitting)
  unfolding result_from error_from result_told error_values command_in write_row refuses
  unaligned_exactly = (
    (λ h. as_turn (refused 63 []) (row_63 s.current_command h.0 h.1 h.2)),
    (λ e.
        let told : turn.told ≡ refused 63 [] = sym told_by_lem ∙ sym meets.tells.tells ∙ ap (λ (x : Result Unit MockTransportError). result_told x r.answer.signature) e in
        let found = (write_touches s.variety block s.current_command s.last_reset sectors bytes).by_63 [] told in
        (splits_nor s.variety block found.0 found.2.parts, found)),
  )

  pub unaligned_leaves : r.answer.result ≡ Err UnalignedErase → (after ≡ flash) × (r.state.current_command ≡ None)
  unfolding result_told error_values write_bulk write_step_by write_step_of flash_after pending_after pend
  unaligned_leaves e =
      let told : turn.told ≡ refused 63 [] = sym told_by_lem ∙ sym meets.tells.tells ∙ ap (λ (x : Result Unit MockTransportError). result_told x r.answer.signature) e in
      let ended = (write_sane s.variety block (session_of s) sectors bytes).ends 63 [] told in (
        meets.leaves ∙ ap (λ (t : Told ℕ). (write_step_of t s.variety block (session_of s) flash bytes).leaves) legal
            ∙ ap (λ (x : Effect). flash_after x bytes flash) ended.1,
        ap (λ (x : MockState). x.current_command) meets.next
            ∙ ap (λ (t : Told ℕ). (write_step_of t s.variety block (session_of s) flash bytes).next.current_command) legal
            ∙ ap₂ (λ (p : status.Status) (x : Session). pend p x.current_command) (ap (λ (x : Effect). pending_after x bytes flash) ended.1) ended.0,
      )

-- 62 EXACTLY: of a head with NOR flash that is lent a flash of whole sectors, at creation
size_refusals : (n k : ℕ) (values : List ℕ) → flash_sectors n ≡ refused k values → k ≡ 62 → ⊥
unfolding flash_sectors flash_rules or_refuse number
size_refusals n k values e is =
    on_test (not (eqb (n % sector_size) 0))
    (λ t. let f : ◌≡◌ {A = Told ℕ} (refused 60 (n ∷ [])) (refused k values) = rw t at e in let z : 60 ≡ k = ap (λ (x : Told ℕ). number x) f in omega arith)
    (λ t. on_test (ltb most_flash_sectors (n / sector_size))
    (λ u. let f : ◌≡◌ {A = Told ℕ} (refused 61 []) (refused k values) = rw (t, u) at e in let z : 61 ≡ k = ap (λ (x : Told ℕ). number x) f in omega arith)
    (λ u. let f : given (n / sector_size) ≡ refused k values = rw (t, u) at e in let z : ◌≡◌ {A = ℕ} 0 1 = cc in omega arith))

module _ (config : MockDeviceConfig) (n m : ℕ) (r : MockStep) (meets : CreateMeets r (created Nor config n m)) where
  abbrev ZeroBlock : Type 0
  ZeroBlock = (sectors : ℕ) × (flash_sectors n ≡ given sectors) × (config.block_size_sectors ≡ 0)

  told_62 : (t : Told ℕ) → flash_sectors n ≡ t → ◌≡◌ {A = Told Unit} (and_then t (λ sectors. unless (block_rules Nor config.block_size_sectors) (given tt))) (refused 62 []) → ZeroBlock
  unfolding and_then block_rules or_refuse number
  told_62 (refused k values) e told = absurd (size_refusals n k values e (ap (λ (x : Told Unit). number x) told))
  told_62 (given sectors) e told =
      on_test (eqb config.block_size_sectors 0) (λ t. (sectors, e, eqb-true config.block_size_sectors 0 t))
      (λ t. let f : ◌≡◌ {A = Told Unit} (given tt) (refused 62 []) = rw t at told in absurd (let z : ◌≡◌ {A = ℕ} 0 1 = cc in omega arith))

  pub zero_block_exactly : (ZeroBlock → r.answer.result ≡ Err ZeroBlockSize) × (r.answer.result ≡ Err ZeroBlockSize → ZeroBlock)
  unfolding created create_told result_from error_from result_told error_values and_then block_rules or_refuse
  zero_block_exactly = (
    (λ z.
        let told : create_told Nor config.block_size_sectors n ≡ refused 62 [] =
        ap (λ (t : Told ℕ). and_then t (λ sectors. unless (block_rules Nor config.block_size_sectors) (given tt))) z.1 ∙ rw (eq-eqb config.block_size_sectors 0 z.2) refl in
        sym (result_from_lem r.answer.result r.answer.signature) ∙ ap result_from (meets.tells.tells ∙ told)),
    (λ e. told_62 (flash_sectors n) refl (sym meets.tells.tells ∙ ap (λ (x : Result Unit MockTransportError). result_told x r.answer.signature) e)),
  )

-- 60 AND 61 keep everything, a status that is pending too, at either variety
module _ (s : MockState) (flash : List ℕ) (n : ℕ) (values : List ℕ) (size : flash_sectors (length flash) ≡ refused n values) (r : MockStep) (after : List ℕ) where
  pub write_kept : (bytes : List ℕ) → MockMeets r after (write_bulk s flash bytes) → (r.state ≡ s) × (after ≡ flash)
  unfolding write_bulk write_step_by write_step_of
  write_kept bytes meets = (
    meets.next ∙ ap (λ (t : Told ℕ). (bulk s (write_step_of t s.variety s.config.block_size_sectors (session_of s) flash bytes)).next) size,
    meets.leaves ∙ ap (λ (t : Told ℕ). (write_step_of t s.variety s.config.block_size_sectors (session_of s) flash bytes).leaves) size,
  )

  pub read_kept : (buffer : List ℕ) → MockMeets r after (read_bulk s flash buffer) → (r.state ≡ s) × (after ≡ buffer)
  unfolding read_bulk read_step_by read_step_of
  read_kept buffer meets = (
    meets.next ∙ ap (λ (t : Told ℕ). (bulk s (read_step_of t s.variety (session_of s) s.config flash buffer)).next) size,
    meets.leaves ∙ ap (λ (t : Told ℕ). (read_step_of t s.variety (session_of s) s.config flash buffer).leaves) size,
  )

-- CONTROL WRITES go by neither variety nor transaction: what is told, the areas and the store are the same whatever they are
pub control_alike : (s : MockState) (v : Variety) (state : CommandState) (type request value index : ℕ) (bytes store : List ℕ)
    → ((write_control (like s v state) type request value index bytes store).told ≡ (write_control s type request value index bytes store).told)
    × ((write_control (like s v state) type request value index bytes store).next ≡ like (write_control s type request value index bytes store).next v state)
    × ((write_control (like s v state) type request value index bytes store).leaves ≡ (write_control s type request value index bytes store).leaves)
unfolding write_control control_rules or_refuse
control_alike s v state type request value index bytes store =
    on_test (not (eqb (length store) s.store_length)) (λ t. (rw t refl, rw t refl, rw t refl))
    (λ t. on_test (not (is_upload type request value)) (λ u. (rw (t, u) refl, rw (t, u) refl, rw (t, u) refl)) (λ u. (rw (t, u) refl, rw (t, u) refl, rw (t, u) refl)))
