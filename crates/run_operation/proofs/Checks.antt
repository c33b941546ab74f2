-- What the checks before the first step come to, in their order.
use Prim.Native.Nat.{ℕ, ◌/◌, ◌<◌, ◌≤◌}
use mathlib.Core.Path.{◌≡◌, refl, ap, sym, subst, ◌∙◌}
use mathlib.Core.Bool.{Bool, true, false}
use mathlib.Core.List.{List, [], ◌∷◌}
use native.Mathlib.Omega.{arith}
use lib.ListN.{length}
use borrow.Author.Tests.{eq-eqb, ne_eqb, lt-ltb, le-ltb}
use Rattle.promise.specs.Told.{given}
use Rattle.promise.specs.Rules.{Rule, pick, or_refuse, differs}
use Rattle.promise.proofs.Outcome.{unmet_first, met_first}
use Rattle.protocol_bytes.specs.Signature.{no_signature, signature_in}
use Rattle.protocol_bytes.specs.Sector.{sector_size}
use Rattle.protocol.specs.CommandMeets.{command_error_number, command_error_values}
use Rattle.protocol.specs.declared.CommandBlockParseError.{CommandBlockParseError}
use Rattle.protocol.specs.declared.CommandBlockParseError.TheVariants as block
use Rattle.mock_base.specs.Told.{error_number, error_values, inner_signature, signature_beside}
use Rattle.mock_base.specs.Flash.{flash_rules, flash_sectors, size_told}
use Rattle.mock_base.specs.declared.error.MockTransportError.{MockTransportError}
use Rattle.mock_base.specs.declared.error.MockTransportError.TheVariants as error
use Rattle.operation_finish.specs.Reply.{Reply, blank}
use Rattle.operation.specs.declared.steps.UsbOperation.{UsbOperation}
use Rattle.operation.specs.Record.{transfer_length}
use Rattle.operation.specs.Step.{data_rule}
use Rattle.mock.specs.declared.device.MockState.{MockState}
use Rattle.mock.specs.Device.{store_rule}
use Rattle.promise.specs.Run.{Ran, runs}
use Rattle.run_turn.specs.declared.StopError.TheVariants as stop
use Rattle.run_turn.specs.Turn.{UsbState, usb_state, usb_turn}
use Rattle.run_turn.specs.Answers.{stop_told, signature_told, beside_told}
use Rattle.run_operation.specs.declared.UsbRun.{UsbRun}
use Rattle.run_operation.specs.Run.{sector_data, run_rules, unstarted, usb_run}
use Rattle.run_operation.specs.Answers.{answer_end, beside_end, RunMeets}
use Rattle.run_operation.specs.Code.{unstarted_by}
use Rattle.std.specs.Prelude.{Result}
use Rattle.std.specs.declared.result.Result.TheVariants.{Ok, Err}

inner_none : (e : CommandBlockParseError) → signature_told 56 (command_error_number e ∷ command_error_values e no_signature) ≡ no_signature
unfolding signature_told signature_beside inner_signature signature_in command_error_number command_error_values
inner_none block.InvalidSignature = refl
inner_none (block.UnknownCommandCode byte) = refl
inner_none (block.UnknownFlags byte) = refl
inner_none (block.InvalidLength n) = refl

-- nothing stands beside a refusal with no signature
none_beside : (e : MockTransportError) → signature_told (error_number e) (error_values e no_signature) ≡ no_signature
unfolding signature_told signature_beside inner_signature error_values
none_beside (error.InvalidTransferLength expected actual) = refl
none_beside (error.UnsupportedControl type request value) = refl
none_beside (error.InvalidReset opcode) = refl
none_beside (error.UnknownCommand code) = refl
none_beside error.UnexpectedRead = refl
none_beside error.UnexpectedWrite = refl
none_beside (error.CommandBlockError e) = inner_none e
none_beside error.OutOfRange = refl
none_beside error.NoSlot = refl
none_beside error.SlotFull = refl
none_beside (error.FlashSize n) = refl
none_beside error.TooManySectors = refl
none_beside error.ZeroBlockSize = refl
none_beside error.UnalignedErase = refl
none_beside error.StoreLength = refl

module _ (op : UsbOperation) (device : MockState) (flash bytes : List ℕ) where
  pub device_unstarted : (e : MockTransportError)
      → RunMeets (unstarted_by (stop.Device e) op device) flash bytes (unstarted (usb_state op device flash bytes) (error_number e) (error_values e no_signature))
  unfolding answer_end beside_end stop_told beside_told
  device_unstarted e = record { tells = refl; beside = ap blank (sym (none_beside e)); steps = refl; leaves = refl }

  pub data_unstarted : RunMeets (unstarted_by stop.DataDiffers op device) flash bytes (unstarted (usb_state op device flash bytes) differs [])
  unfolding answer_end beside_end stop_told beside_told signature_told signature_beside inner_signature
  data_unstarted = record { tells = refl; beside = refl; steps = refl; leaves = refl }

-- the run's rules, by where the first is broken
module _ (s : UsbState) (store budget : ℕ) where
  abbrev late : List Rule
  late =
      store_rule s.device store
      ∷ data_rule (length s.«data») (sector_data s.operation.kind (transfer_length s.operation))
      ∷ []

  pub flash_refused : (e : MockTransportError) → size_told (Err e) ≡ flash_sectors (length s.flash)
      → usb_run s store budget ≡ unstarted s (error_number e) (error_values e no_signature)
  unfolding usb_run run_rules size_told flash_sectors
  flash_refused e h =
      unmet_first (unstarted s) (flash_rules (length s.flash)) late (length s.flash / sector_size) (runs usb_turn budget s) (error_number e) (error_values e no_signature) (sym h)

  module _ (sectors : ℕ) (h : flash_sectors (length s.flash) ≡ given sectors) where
    met : usb_run s store budget ≡ or_refuse (unstarted s) late (runs usb_turn budget s)
    unfolding usb_run run_rules flash_sectors
    met = met_first (unstarted s) (flash_rules (length s.flash)) late (length s.flash / sector_size) sectors (runs usb_turn budget s) h

    pub store_refused : (store ≡ s.device.store_length → ⊥) → usb_run s store budget ≡ unstarted s 65 []
    unfolding or_refuse
    store_refused n = met ∙ rw (ne_eqb store s.device.store_length n)

    pub data_refused : store ≡ s.device.store_length → length s.«data» < sector_data s.operation.kind (transfer_length s.operation)
        → usb_run s store budget ≡ unstarted s differs []
    unfolding or_refuse
    data_refused e l =
        met ∙ rw (eq-eqb store s.device.store_length e, lt-ltb (length s.«data») (sector_data s.operation.kind (transfer_length s.operation)) l)

    pub unrefused : store ≡ s.device.store_length → sector_data s.operation.kind (transfer_length s.operation) ≤ length s.«data»
        → usb_run s store budget ≡ runs usb_turn budget s
    unfolding or_refuse
    unrefused e l =
        met ∙ rw (eq-eqb store s.device.store_length e, le-ltb (length s.«data») (sector_data s.operation.kind (transfer_length s.operation)) l)

-- by what the code made and by what the definition comes to
pub as_run : (r made : UsbRun) (flash bytes : List ℕ) (run comes : Ran Reply UsbState) → r ≡ made → run ≡ comes → RunMeets made flash bytes comes → RunMeets r flash bytes run
as_run r made flash bytes run comes e f m =
    subst (λ (x : UsbRun). RunMeets x flash bytes run) (sym e) (subst (λ (w : Ran Reply UsbState). RunMeets made flash bytes w) (sym f) m)

pub whole_size : (sectors : Result ℕ MockTransportError) (n k : ℕ) → size_told sectors ≡ flash_sectors n → sectors ≡ Ok k → flash_sectors n ≡ given k
unfolding size_told
whole_size sectors n k h e = sym h ∙ ap size_told e

pub refused_size : (sectors : Result ℕ MockTransportError) (n : ℕ) (e : MockTransportError) → size_told sectors ≡ flash_sectors n → sectors ≡ Err e
    → size_told (Err e) ≡ flash_sectors n
refused_size sectors n e h f = sym (ap size_told f) ∙ h

pub length_picked : (b : Bool) (xs ys : List ℕ) → length (pick b xs ys) ≡ pick b (length xs) (length ys)
length_picked true xs ys = refl
length_picked false xs ys = refl

pub nothing_long : (l : List ℕ) → length l ≡ 0 → l ≡ []
nothing_long [] e = refl
nothing_long (x ∷ l) e = absurd (omega arith)
