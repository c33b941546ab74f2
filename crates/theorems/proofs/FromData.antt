-- The data of an operation from its start, which the device awaits: the table's turn for it decides how the run ends.
use Prim.Native.Nat.{ℕ, ◌/◌, ◌≤◌}
use mathlib.Core.Path.{◌≡◌, refl, ap, ◌∙◌}
use mathlib.Core.List.{List, [], append-nil, ◌++◌}
use native.Mathlib.Omega.{arith}
use lib.ListN.{length, take, replicate, length-replicate, drop_of_length-le}
use lib.Seq.{length-take-le}
use borrow.Author.Tests.{ne_eqb}
use Rattle.promise.specs.Told.{given, refused}
use Rattle.promise.specs.Bytes.{front}
use Rattle.protocol_bytes.specs.Sector.{sector_size}
use Rattle.protocol.specs.declared.CommandBlock.{CommandBlock}
use Rattle.operation_finish.specs.Reply.{Reply}
use Rattle.operation_finish.specs.Finish.{reply_of}
use Rattle.operation_finish.specs.declared.Kind.{Kind}
use Rattle.operation.specs.declared.steps.Operation.TheVariants as operation
use Rattle.operation.specs.declared.steps.IOBytes.{IOBytes}
use Rattle.operation.specs.declared.steps.IOBytes.TheVariants as io
use Rattle.operation.specs.declared.steps.Asked.{Asked}
use Rattle.operation.specs.declared.steps.Asked.TheVariants as asked
use Rattle.operation.specs.declared.steps.UsbOperation.{UsbOperation}
use Rattle.operation.specs.Record.{fresh, io_of, inband_length, after_command, turned, with_inband, commanded}
use Rattle.operation.specs.Step.{Step, writes_data, reads, does, io_step, usb_step}
use Rattle.operation.specs.Give.{Give, nothing_asked, asks_for, owed, usb_give}
use Rattle.operation.specs.Give as giving
use Rattle.operation.proofs.Laws.{at_io, data_inband, data_read, data_write}
use Rattle.operation.proofs.Cases.{give_taken}
use Rattle.mock_base.specs.Flash.{flash_sectors}
use Rattle.mock_table.specs.Turn.{Turn, session, refuses, done}
use Rattle.mock_table.specs.Table.{write_io_turn, write_row, read_io_turn, read_row}
use Rattle.mock_table.specs.declared.session.CommandState.TheVariants.{IO, Status}
use Rattle.mock_table.specs.declared.outcome.Effect.{Effect}
use Rattle.mock_table.specs.declared.outcome.Effect.TheVariants as effect
use Rattle.mock_table.specs.declared.outcome.ReplyKind.{ReplyKind}
use Rattle.mock_effects.specs.Effects.{flash_after, pending_after, buffer_after, reply_bytes}
use Rattle.mock_effects.specs.Steps.{pend}
use Rattle.protocol_codes.specs.declared.Status.TheVariants.{SUCCESS}
use Rattle.mock_base.specs.declared.cells.Variety.{Variety}
use Rattle.mock.specs.declared.device.MockState.{MockState}
use Rattle.mock.specs.Device.{Call, with_session, write_bulk}
use Rattle.promise.specs.Run.{tells, Ran, ran, counted, follow, runs}
use Rattle.run_turn.specs.Turn.{UsbState, usb_state, onward, wrote, buffer_for, landed, gives, received, got, transfers, after, usb_turn}
use Rattle.run_operation.specs.Run.{sector_data}
use Rattle.theorems.proofs.NoTransactionLeft.{landed_long}
use Rattle.mock_effects.proofs.ReadBack.{pend_told}
use Rattle.theorems.specs.Told.{by_status}
use Rattle.theorems.proofs.CallsByTurn.{as_call, applied, writes_as, reads_as}
use Rattle.theorems.proofs.FromStatus.{answered, answered_whole}
use Rattle.theorems.specs.Standing.{Standing}
use Rattle.theorems.proofs.FromStart.{long_left, awaiting, awaits_whole, awaits}
use Rattle.theorems.specs.Runs.{operation_run, rearmed}
use Rattle.protocol.specs.CommandBytes.{BlockFits}

module _ (k : Kind) (c : CommandBlock) (v : Variety) (device : MockState) (flash bytes : List ℕ) (store sectors : ℕ) (stands : Standing v device flash store sectors)
    (fits : BlockFits c) (enough : sector_data k c.transfer_length ≤ length bytes) (some : c.transfer_length ≡ 0 → ⊥) where
  abbrev waiting : MockState
  waiting = with_session device (session (IO c) device.last_reset)

  -- the operation behind its data, having asked so
  abbrev behind : Asked → UsbOperation
  behind a = turned (commanded (fresh k c)) operation.CommandStatus a

  data_step : (i : IOBytes) → io_of k ≡ i → usb_step (commanded (fresh k c)) (length bytes) 31 ≡ io_step i (commanded (fresh k c)) (length bytes)
  unfolding after_command
  data_step i e =
      let here : after_command c.transfer_length ≡ operation.IO = rw (ne_eqb c.transfer_length 0 some) in
      at_io (commanded (fresh k c)) (length bytes) 31 here ∙ ap (λ (x : IOBytes). io_step x (commanded (fresh k c)) (length bytes)) e

  -- a read of its data, or a write, by the table's turn
  module _ (a : Asked) (n : ℕ) (step : usb_step (commanded (fresh k c)) (length bytes) 31 ≡ does (given (reads a n)) [] (behind a)) (t : Turn)
      (turn : read_io_turn device.variety device.last_reset c sectors (length (buffer_for a n (usb_state (behind a) waiting flash bytes))) ≡ t) where
    abbrev left : List ℕ
    left = buffer_after device.config t.effect flash (buffer_for a n (usb_state (behind a) waiting flash bytes))

    data_read_by : (operation_run k c device flash bytes store).end
        ≡ (follow (received t.told a (usb_state (behind a) (with_session device t.next) flash (landed a left bytes)) left) (λ next. runs usb_turn 2 next)).end
    unfolding runs usb_turn transfers read_row
    data_read_by =
        awaits k c v device flash bytes store sectors stands fits enough some
        ∙ ap (λ (x : Step). (follow (after x (awaiting k c device flash bytes)) (λ next. runs usb_turn 2 next)).end) step
        ∙ ap (λ (x : Call). (follow (got a (usb_state (behind a) waiting flash bytes) x) (λ next. runs usb_turn 2 next)).end)
        (reads_as waiting flash (buffer_for a n (usb_state (behind a) waiting flash bytes)) sectors (IO c) t stands.legal refl turn)

  module _ (n : ℕ) (step : usb_step (commanded (fresh k c)) (length bytes) 31 ≡ does (given (writes_data n)) [] (behind asked.Nothing)) (t : Turn)
      (turn : write_io_turn device.variety device.last_reset c sectors (length (take n bytes)) ≡ t) where
    written : write_bulk waiting flash (take n bytes) ≡ as_call waiting (applied t (take n bytes) flash) (flash_after t.effect (take n bytes) flash)
    unfolding write_row
    written = writes_as waiting flash (take n bytes) sectors (IO c) t stands.legal refl turn

    -- the state behind the data
    abbrev put : UsbState
    put = usb_state (behind asked.Nothing) (with_session device (applied t (take n bytes) flash).next) (flash_after t.effect (take n bytes) flash) bytes

    data_written_whole : operation_run k c device flash bytes store ≡ counted 1 (follow (onward t.told put) (λ next. runs usb_turn 2 next))
    unfolding runs usb_turn transfers
    data_written_whole =
        awaits_whole k c v device flash bytes store sectors stands fits enough some
        ∙ ap (λ (x : Step). counted 1 (follow (after x (awaiting k c device flash bytes)) (λ next. runs usb_turn 2 next))) step
        ∙ ap (λ (x : Call). counted 1 (follow (wrote (usb_state (behind asked.Nothing) waiting flash bytes) x) (λ next. runs usb_turn 2 next))) written

    data_written_by : (operation_run k c device flash bytes store).end ≡ (follow (onward t.told put) (λ next. runs usb_turn 2 next)).end
    data_written_by = ap (λ (r : Ran Reply UsbState). r.end) data_written_whole

  -- in-band bytes
  module _ (inband : io_of k ≡ io.Inband) where
    abbrev size : ℕ
    size = inband_length (fresh k c)

    inband_step : usb_step (commanded (fresh k c)) (length bytes) 31 ≡ does (given (reads asked.Inband size)) [] (behind asked.Inband)
    inband_step = data_step io.Inband inband ∙ data_inband (commanded (fresh k c)) (length bytes)

    pub inband_refused : (number : ℕ) (values : List ℕ) → read_io_turn device.variety device.last_reset c sectors size ≡ refuses device.last_reset number values
        → (operation_run k c device flash bytes store).end ≡ tells (refused number values)
    unfolding follow received refuses buffer_for
    inband_refused number values turn =
        data_read_by asked.Inband size inband_step (refuses device.last_reset number values)
        (ap (read_io_turn device.variety device.last_reset c sectors) (length-replicate {A = ℕ} size 0) ∙ turn)

    pub inband_answered : (kind : ReplyKind) → read_io_turn device.variety device.last_reset c sectors size ≡ done (Status c SUCCESS) device.last_reset (effect.Reply kind)
        → length (reply_bytes device.config (length flash / sector_size) kind) ≡ size
        → (operation_run k c device flash bytes store).end
        ≡ tells (reply_of k c.transfer_length 0 (front (reply_bytes device.config (length flash / sector_size) kind) (replicate 16 0)))
    unfolding by_status follow received gives landed done buffer_for buffer_after giving.received nothing_asked asks_for owed
    inband_answered kind turn long =
        let t = done (Status c SUCCESS) device.last_reset (effect.Reply kind) in
        let own = reply_bytes device.config (length flash / sector_size) kind in
        let got = front own (replicate size 0) in
        let none : length (replicate {A = ℕ} size 0) ≤ length own = omega (arith, long, length-replicate {A = ℕ} size 0) in
        let whole : got ≡ own = ap (λ (l : List ℕ). own ++ l) (drop_of_length-le (replicate size 0) none) ∙ append-nil own in
        let next = with_inband (behind asked.Inband) (front own (replicate 16 0)) in
        let few : length got ≤ size = omega (arith, ap length whole, long) in
        let gave : (usb_give (behind asked.Inband) got 0).next ≡ next =
        ap (λ (g : Give). g.next) (give_taken asked.Inband (behind asked.Inband) got 0 refl few (omega arith))
        ∙ ap (λ (l : List ℕ). with_inband (behind asked.Inband) (front l (replicate 16 0))) whole in
        data_read_by asked.Inband size inband_step t (ap (read_io_turn device.variety device.last_reset c sectors) (length-replicate {A = ℕ} size 0) ∙ turn)
        ∙ ap (λ (o : UsbOperation). (runs usb_turn 2 (usb_state o (with_session device (session (Status c SUCCESS) device.last_reset)) flash bytes)).end) gave
        ∙ answered (usb_state next (with_session device (session (Status c SUCCESS) device.last_reset)) flash bytes) c SUCCESS sectors stands.legal refl refl refl fits.tag 0

  -- sectors
  module _ (lent : c.transfer_length ≤ length bytes) where
    abbrev size_lent : ℕ
    size_lent = c.transfer_length

    module _ (sector : io_of k ≡ io.Read) where
      read_step : usb_step (commanded (fresh k c)) (length bytes) 31 ≡ does (given (reads asked.Sectors size_lent)) [] (behind asked.Sectors)
      read_step = data_step io.Read sector ∙ data_read (commanded (fresh k c)) (length bytes) lent

      pub read_refused : (number : ℕ) (values : List ℕ) → read_io_turn device.variety device.last_reset c sectors size_lent ≡ refuses device.last_reset number values
          → (operation_run k c device flash bytes store).end ≡ tells (refused number values)
      unfolding follow received refuses buffer_for
      read_refused number values turn =
          data_read_by asked.Sectors size_lent read_step (refuses device.last_reset number values)
          (ap (read_io_turn device.variety device.last_reset c sectors) (length-take-le size_lent bytes lent) ∙ turn)

      pub read_answered : (moves : Effect) → read_io_turn device.variety device.last_reset c sectors size_lent ≡ done (Status c SUCCESS) device.last_reset moves
          → (operation_run k c device flash bytes store).end ≡ tells (reply_of k size_lent 0 (replicate 16 0))
      unfolding by_status follow received gives landed done buffer_for giving.received nothing_asked asks_for owed
      read_answered moves turn =
          let t = done (Status c SUCCESS) device.last_reset moves in
          let after = front (buffer_after device.config moves flash (take size_lent bytes)) bytes in
          let room : size_lent ≤ length after = omega (arith, landed_long asked.Sectors (buffer_after device.config moves flash (take size_lent bytes)) bytes) in
          let gave : (usb_give (behind asked.Sectors) [] (length after)).next ≡ behind asked.Nothing =
          ap (λ (g : Give). g.next) (give_taken asked.Sectors (behind asked.Sectors) [] (length after) refl (omega arith) room) in
          data_read_by asked.Sectors size_lent read_step t (ap (read_io_turn device.variety device.last_reset c sectors) (length-take-le size_lent bytes lent) ∙ turn)
          ∙ ap (λ (o : UsbOperation). (runs usb_turn 2 (usb_state o (with_session device (session (Status c SUCCESS) device.last_reset)) flash after)).end) gave
          ∙ answered (usb_state (behind asked.Nothing) (with_session device (session (Status c SUCCESS) device.last_reset)) flash after) c SUCCESS sectors stands.legal refl refl refl fits.tag 0

    module _ (sector : io_of k ≡ io.Write) where
      write_step : usb_step (commanded (fresh k c)) (length bytes) 31 ≡ does (given (writes_data size_lent)) [] (behind asked.Nothing)
      write_step = data_step io.Write sector ∙ data_write (commanded (fresh k c)) (length bytes) lent

      sized : (t : Turn) → write_io_turn device.variety device.last_reset c sectors size_lent ≡ t → write_io_turn device.variety device.last_reset c sectors (length (take size_lent bytes)) ≡ t
      sized t turn = ap (write_io_turn device.variety device.last_reset c sectors) (length-take-le size_lent bytes lent) ∙ turn

      pub write_refused : (number : ℕ) (values : List ℕ) → write_io_turn device.variety device.last_reset c sectors size_lent ≡ refuses device.last_reset number values
          → (operation_run k c device flash bytes store).end ≡ tells (refused number values)
      unfolding follow onward refuses
      write_refused number values turn =
          data_written_by size_lent write_step (refuses device.last_reset number values) (sized (refuses device.last_reset number values) turn)

      -- the state behind the data, whose effect was this
      abbrev pub wrote_by : Effect → UsbState
      wrote_by moves =
          usb_state (behind asked.Nothing)
          (with_session device (session (pend (pending_after moves (take size_lent bytes) flash) (Status c SUCCESS)) device.last_reset))
          (flash_after moves (take size_lent bytes) flash) bytes

      pub write_answered_whole : (moves : Effect) → write_io_turn device.variety device.last_reset c sectors size_lent ≡ done (Status c SUCCESS) device.last_reset moves
          → operation_run k c device flash bytes store
          ≡ ran (tells (by_status (pending_after moves (take size_lent bytes) flash) (reply_of k size_lent 0 (replicate 16 0)))) 4
          (rearmed (wrote_by moves) c.tag (pending_after moves (take size_lent bytes) flash))
      unfolding follow onward done
      write_answered_whole moves turn =
          let t = done (Status c SUCCESS) device.last_reset moves in
          let pending = pending_after moves (take size_lent bytes) flash in
          let after = flash_after moves (take size_lent bytes) flash in
          let legal : flash_sectors (length after) ≡ given sectors =
          ap flash_sectors (long_left waiting flash (take size_lent bytes) (applied t (take size_lent bytes) flash) after (written size_lent write_step t (sized t turn))) ∙ stands.legal in
          data_written_whole size_lent write_step t (sized t turn)
          ∙ ap (λ (r : Ran Reply UsbState). counted 1 (counted 1 r)) (answered_whole (wrote_by moves) c pending sectors legal refl (pend_told pending c) refl fits.tag 0)

      pub write_answered : (moves : Effect) → write_io_turn device.variety device.last_reset c sectors size_lent ≡ done (Status c SUCCESS) device.last_reset moves
          → (operation_run k c device flash bytes store).end
          ≡ tells (by_status (pending_after moves (take size_lent bytes) flash) (reply_of k size_lent 0 (replicate 16 0)))
      write_answered moves turn = ap (λ (r : Ran Reply UsbState). r.end) (write_answered_whole moves turn)
