-- Over a whole run at a head with NOR flash, whatever its record and its budget: a byte gains no bit, or a bulk write of the run was an erase that
-- took it.
use Prim.Native.Nat.{ℕ, zero, suc}
use mathlib.Core.Path.{◌≡◌, refl, ap, sym, subst, ◌∙◌}
use mathlib.Core.Logic.{◌⊎◌, inl, inr, ⊎_elim}
use mathlib.Core.List.{List}
use lib.Bits.{and_self}
use lib.ListN.{length, take, get_or}
use Rattle.promise.specs.Told.{Told, given, refused}
use Rattle.promise.specs.Run.{Turned, ends, goes, Ran, follow, runs}
use Rattle.promise.proofs.Outcome.{either_way}
use Rattle.operation_finish.specs.Reply.{Reply}
use Rattle.operation.specs.declared.steps.Asked.{Asked}
use Rattle.operation.specs.declared.steps.Asked.TheVariants as asked
use Rattle.operation.specs.Step.{Asks, writes_command, writes_data, reads, finished, usb_step}
use Rattle.mock_base.specs.declared.cells.Variety.{Variety}
use Rattle.mock_base.specs.declared.cells.Variety.TheVariants.{Nor}
use Rattle.mock_effects.specs.Cells.{GainsNone}
use Rattle.mock_effects.specs.Steps.{write_step_by}
use Rattle.mock_effects.proofs.Cells.{and_through, write_keeps}
use Rattle.mock.specs.Device.{session_of, write_bulk, read_bulk}
use Rattle.mock.specs.Nor.{ErasedBy}
use Rattle.mock.specs.declared.device.MockState.{MockState}
use Rattle.run_turn.specs.Turn.{UsbState, usb_state, onward, wrote, buffer_for, gives, received, transfers, usb_turn}
use Rattle.run_operation.specs.declared.UsbRun.{UsbRun}
use Rattle.run_operation.specs.Run.{run_rules, unstarted, usb_run}
use Rattle.run_operation.specs.Answers.{RunMeets}

-- no call makes another variety of a head
write_own : (s : MockState) (flash bytes : List ℕ) → (write_bulk s flash bytes).next.variety ≡ s.variety
unfolding write_bulk
write_own s flash bytes = refl

read_own : (s : MockState) (flash buffer : List ℕ) → (read_bulk s flash buffer).next.variety ≡ s.variety
unfolding read_bulk
read_own s flash buffer = refl

module _ (i : ℕ) where
  -- some bulk write that erases byte i, and that a NOR head takes
  abbrev Erased : Type 0
  Erased = (s : MockState) × (flash : List ℕ) × (bytes : List ℕ) × ErasedBy s flash bytes i

  abbrev Kept : List ℕ → List ℕ → Type 0
  Kept flash after = GainsNone flash after i ⊎ Erased

  -- a state of the run, from a flash on
  record From (flash : List ℕ) (s : UsbState) : Type 0 where
    own : s.device.variety ≡ Nor
    kept : Kept flash s.flash

  written : (s : MockState) (flash bytes : List ℕ) → s.variety ≡ Nor → Kept flash (write_bulk s flash bytes).leaves
  unfolding write_bulk
  written s flash bytes nor =
      let block = s.config.block_size_sectors in
      subst (λ (v : Variety). Kept flash (write_step_by v block (session_of s) flash bytes).leaves) (sym nor)
      (⊎_elim (λ h. inl h) (λ e. inr (s, flash, bytes, e)) (write_keeps block (session_of s) flash bytes i))

  joined : (a b c : List ℕ) → Kept a b → Kept b c → Kept a c
  joined a b c (inl f) (inl g) = inl (and_through (get_or a i 0) (get_or b i 0) (get_or c i 0) f g)
  joined a b c (inl f) (inr e) = inr e
  joined a b c (inr e) after = inr e

  module _ (flash : List ℕ) where
    abbrev Keeps : Turned Reply UsbState → Type 0
    Keeps (goes s) = From flash s
    Keeps (ends told s) = From flash s

    onward_keeps : (told : Told Unit) (s : UsbState) → From flash s → Keeps (onward told s)
    unfolding onward
    onward_keeps (given done) s from = from
    onward_keeps (refused number values) s from = from

    gives_keeps : (a : Asked) (s : UsbState) (bytes : List ℕ) → From flash s → From flash (gives a s bytes)
    unfolding gives
    gives_keeps asked.Nothing s bytes from = record { own = from.own; kept = from.kept }
    gives_keeps asked.Inband s bytes from = record { own = from.own; kept = from.kept }
    gives_keeps asked.Sectors s bytes from = record { own = from.own; kept = from.kept }
    gives_keeps asked.Status s bytes from = record { own = from.own; kept = from.kept }

    received_keeps : (told : Told Unit) (a : Asked) (s : UsbState) (bytes : List ℕ) → From flash s → Keeps (received told a s bytes)
    unfolding received
    received_keeps (given done) a s bytes from = gives_keeps a s bytes from
    received_keeps (refused number values) a s bytes from = from

    wrote_keeps : (s : UsbState) (bytes : List ℕ) → From flash s → Keeps (wrote s (write_bulk s.device s.flash bytes))
    wrote_keeps s bytes from =
        let w = write_bulk s.device s.flash bytes in
        onward_keeps w.told (usb_state s.operation w.next w.leaves s.«data»)
        (record { own = write_own s.device s.flash bytes ∙ from.own; kept = joined flash s.flash w.leaves from.kept (written s.device s.flash bytes from.own) })

    transfers_keep : (told : Told Asks) (sent : List ℕ) (s : UsbState) → From flash s → Keeps (transfers told sent s)
    unfolding transfers
    transfers_keep (given writes_command) sent s from = wrote_keeps s sent from
    transfers_keep (given (writes_data n)) sent s from = wrote_keeps s (take n s.«data») from
    transfers_keep (given (reads asked n)) sent s from =
        received_keeps _ asked _ _ (record { own = read_own s.device s.flash (buffer_for asked n s) ∙ from.own; kept = from.kept })
    transfers_keep (given (finished reply)) sent s from = from
    transfers_keep (refused number values) sent s from = from

    turn_keeps : (s : UsbState) → From flash s → Keeps (usb_turn s)
    unfolding usb_turn
    turn_keeps s from =
        let step = usb_step s.operation (length s.«data») 31 in
        transfers_keep step.told step.sent (usb_state step.next s.device s.flash s.«data») (record { own = from.own; kept = from.kept })

    followed : (t : Turned Reply UsbState) → Keeps t → (rest : UsbState → Ran Reply UsbState) → ((s : UsbState) → From flash s → From flash (rest s).state)
        → From flash (follow t rest).state
    unfolding follow
    followed (ends told s) keeps rest kept = keeps
    followed (goes s) keeps rest kept = kept s keeps

    runs_keep : (budget : ℕ) (s : UsbState) → From flash s → From flash (runs usb_turn budget s).state
    unfolding runs
    runs_keep zero s from = from
    runs_keep (suc budget) s from = followed (usb_turn s) (turn_keeps s from) (λ next. runs usb_turn budget next) (λ next kept. runs_keep budget next kept)

  -- BITS. For any caller of the runs
  pub run_bits : (s : UsbState) (store budget : ℕ) (r : UsbRun) (after leaves : List ℕ) → s.device.variety ≡ Nor → RunMeets r after leaves (usb_run s store budget)
      → GainsNone s.flash after i ⊎ ((t : MockState) × (held : List ℕ) × (bytes : List ℕ) × ErasedBy t held bytes i)
  unfolding usb_run
  run_bits s store budget r after leaves nor m =
      let at_first : From s.flash s = record { own = nor; kept = inl (and_self (get_or s.flash i 0)) } in
      let last : From s.flash (usb_run s store budget).state =
      either_way (λ (x : Ran Reply UsbState). From s.flash x.state) (unstarted s) (run_rules s store) (runs usb_turn budget s) (λ n values. at_first)
      (λ met. runs_keep s.flash budget s at_first) in
      subst (Kept s.flash) (sym (ap (λ (x : UsbState). x.flash) m.leaves)) last.kept
