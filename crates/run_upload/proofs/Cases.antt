-- A law for each thing that a turn comes to.
use Prim.Native.Nat.{ℕ}
use mathlib.Core.Path.{◌≡◌, refl, ap, sym, ◌∙◌}
use mathlib.Core.List.{List}
use Rattle.promise.specs.Told.{Told, given, refused}
use Rattle.protocol_bytes.specs.Signature.{no_signature}
use Rattle.promise.specs.Does.{Does, said, sent, after}
use Rattle.maskrom_transfer.specs.Moves.{block_size}
use Rattle.maskrom.specs.declared.Control.{Control}
use Rattle.maskrom.specs.declared.WholeUpload.{WholeUpload}
use Rattle.maskrom.specs.Answers.{Asks, writes, finish}
use Rattle.maskrom.specs.Whole.{whole_step}
use Rattle.mock_base.specs.Told.{result_told, signature_beside}
use Rattle.mock.specs.declared.device.MockStep.{MockStep}
use Rattle.mock.specs.Device.{Call, MockMeets, write_control}
use Rattle.promise.specs.Run.{ends}
use Rattle.run_upload.specs.Load.{LoadState, load_state, onward, carried, carries, load_turn}
use Rattle.run_upload.specs.Answers.{load_stop_told, turn_told, TurnMeets}
use Rattle.run_upload.specs.Code.{after_result, after_control}
use Rattle.std.specs.Prelude.{Result}
use Rattle.mock_base.specs.declared.error.MockTransportError.{MockTransportError}
use Rattle.std.specs.declared.result.Result.TheVariants.{Ok, Err}

-- what the device answered decides whether the run goes on
after_told : (r : Result Unit MockTransportError) (s : LoadState) → turn_told (after_result r) s ≡ onward (result_told r no_signature) s
unfolding turn_told after_result onward result_told load_stop_told
after_told (Ok u) s = refl
after_told (Err error) s = refl

pub carried_by : (upload : WholeUpload) (m : MockStep) (store : List ℕ) (call : Call) → MockMeets m store call
    → signature_beside call.told ≡ no_signature → TurnMeets (after_control upload m) store (carried upload call)
carried_by upload m store call h quiet =
    let r = m.answer.result in
    let plain : m.answer.signature ≡ no_signature = h.tells.signature ∙ quiet in
    let told : result_told r no_signature ≡ call.told = ap (result_told r) (sym plain) ∙ h.tells.tells in
    let state : load_state upload m.state store ≡ load_state upload call.next call.leaves = rw (h.next, h.leaves) refl in
    record { tells = after_told r (load_state upload m.state store) ∙ ap (λ (t : Told Unit). onward t (load_state upload m.state store)) told ∙ ap (onward call.told) state }

module _ (image : List ℕ) (s : LoadState) where
  abbrev step : Told (Does Asks WholeUpload)
  step = whole_step s.upload image block_size

  pub turn_carries : (c : Control) → said step ≡ given (writes c)
      → load_turn image s ≡ carried (after s.upload step) (write_control s.device c.request_type c.request c.value c.index (sent step) s.store)
  unfolding load_turn carries
  turn_carries c e = ap (λ (t : Told Asks). carries t (sent step) (load_state (after s.upload step) s.device s.store)) e

  pub turn_finishes : said step ≡ given finish → load_turn image s ≡ ends (given tt) (load_state (after s.upload step) s.device s.store)
  unfolding load_turn carries
  turn_finishes e = ap (λ (t : Told Asks). carries t (sent step) (load_state (after s.upload step) s.device s.store)) e

  pub turn_refuses : (n : ℕ) (values : List ℕ) → said step ≡ refused n values
      → load_turn image s ≡ ends (refused n values) (load_state (after s.upload step) s.device s.store)
  unfolding load_turn carries
  turn_refuses n values e = ap (λ (t : Told Asks). carries t (sent step) (load_state (after s.upload step) s.device s.store)) e
