-- When a turn meets its definition: by what the device answered, and by what the step asked for.
use Prim.Native.Nat.{ℕ, ◌+◌, ◌-◌, ◌≤◌}
use mathlib.Core.Path.{◌≡◌, refl, ap, ap₂, sym, subst, ◌∙◌}
use mathlib.Core.List.{List, [], ◌∷◌, ◌++◌, append-nil}
use native.Mathlib.Omega.{arith}
use lib.Dec.{ltb}
use lib.ListN.{length, take, drop, replicate, length-replicate, replicate-append-replicate}
use lib.Seq.{length-take-le, take_at}
use Rattle.promise.specs.Told.{Told, given, refused}
use Rattle.promise.specs.Rules.{rule}
use Rattle.promise.specs.Bytes.{front}
use Rattle.promise.proofs.Outcome.{either_way}
use Rattle.protocol_bytes.specs.Signature.{signature_in}
use Rattle.protocol_status.specs.Failure.{failure_number, failure_values, failure_told}
use Rattle.protocol_status.specs.declared.failure.UsbOperationError.TheVariants as failure
use Rattle.mock_base.specs.Told.{error_number, error_values, error_told, result_told, inner_signature, signature_beside, Answers}
use Rattle.mock_base.specs.declared.error.MockTransportError.{MockTransportError}
use Rattle.mock_base.specs.declared.error.MockTransportError.TheVariants as error
use Rattle.mock_base.specs.declared.error.MockAnswer.{MockAnswer}
use Rattle.operation_finish.specs.Reply.{Reply, blank, beside_of}
use Rattle.operation.specs.declared.steps.Asked.{Asked}
use Rattle.operation.specs.declared.steps.Asked.TheVariants as asked
use Rattle.operation.specs.declared.steps.UsbOperation.{UsbOperation}
use Rattle.operation.specs.declared.steps.UsbStep.TheVariants as step
use Rattle.operation.specs.declared.steps.UsbStepped.{UsbStepped}
use Rattle.operation.specs.Step.{Asks, usb_step, step_told, beside_asks, beside_at, StepMeets}
use Rattle.operation.specs.Give.{Give, keeps, nothing_asked, asks_for, owed, give_of}
use Rattle.operation.specs.Give as give
use Rattle.mock.specs.declared.device.MockState.{MockState}
use Rattle.mock.specs.Device.{Call, write_bulk, read_bulk}
use Rattle.promise.specs.Run.{Turned, ends, goes}
use Rattle.run_turn.specs.declared.StopError.TheVariants as stop
use Rattle.run_turn.specs.declared.UsbTurned.{UsbTurned}
use Rattle.run_turn.specs.Turn.{UsbState, usb_state, onward, wrote, landed, gives, received, got, buffer_for, transfers, usb_turn}
use Rattle.run_turn.specs.Answers.{stop_told, signature_told, beside_told, turn_told, beside_turned, TurnMeets}
use Rattle.run_turn.specs.Code.{stop_of, turn_after, where_done, turned_by, ended_by}
use Rattle.run_turn.proofs.Fine.{Fine, fine}
use Rattle.std.specs.Prelude.{Result}
use Rattle.std.specs.declared.result.Result.TheVariants.{Ok, Err}
use Rattle.operation_finish.specs.declared.UsbReply.{UsbReply}
use Rattle.protocol_status.specs.declared.failure.UsbOperationError.{UsbOperationError}
use Rattle.operation.specs.declared.steps.UsbStep.{UsbStep}
use Rattle.operation.specs.declared.steps.StepError.{StepError}
use Rattle.operation.specs.declared.steps.StepError.TheVariants as step_error
use Rattle.run_turn.specs.declared.StopError.{StopError}

-- the device's answer

error_signature : (e : MockTransportError) (g : List ℕ) → signature_told (error_number e) (error_values e g) ≡ signature_beside (error_told e g)
unfolding signature_told
error_signature (error.InvalidTransferLength expected actual) g = refl
error_signature (error.UnsupportedControl type request value) g = refl
error_signature (error.InvalidReset opcode) g = refl
error_signature (error.UnknownCommand code) g = refl
error_signature error.UnexpectedRead g = refl
error_signature error.UnexpectedWrite g = refl
error_signature (error.CommandBlockError e) g = refl
error_signature error.OutOfRange g = refl
error_signature error.NoSlot g = refl
error_signature error.SlotFull g = refl
error_signature (error.FlashSize n) g = refl
error_signature error.TooManySectors g = refl
error_signature error.ZeroBlockSize g = refl
error_signature error.UnalignedErase g = refl
error_signature error.StoreLength g = refl

-- the device's answer is told, with the signature that it has beside it, and nothing else changes
pub after_answer : (x : Result Unit MockTransportError) (g : List ℕ) (told : Told Unit) (op : UsbOperation) (device : MockState) (flash bytes : List ℕ)
    → result_told x g ≡ told → g ≡ signature_beside told
    → TurnMeets (turned_by (turn_after x) (blank g) op device) flash bytes (onward told (usb_state op device flash bytes))
unfolding result_told turn_after onward turn_told stop_told beside_turned beside_told signature_beside
after_answer (Ok u) g told op device flash bytes e s =
    subst (λ (t : Told Unit). TurnMeets (turned_by (turn_after (Ok tt)) (blank g) op device) flash bytes (onward t (usb_state op device flash bytes))) e
    (record { tells = refl; beside = ap blank (s ∙ ap signature_beside (sym e)) })
after_answer (Err error) g told op device flash bytes e s =
    subst (λ (t : Told Unit). TurnMeets (turned_by (turn_after (Err error)) (blank g) op device) flash bytes (onward t (usb_state op device flash bytes))) e
    (record { tells = refl; beside = ap blank (s ∙ ap signature_beside (sym e) ∙ sym (error_signature error g)) })

-- a transfer, from what its call left

pub written : (r : UsbTurned) (op : UsbOperation) (w : Call) (state : MockState) (flash bytes : List ℕ) → state ≡ w.next → flash ≡ w.leaves
    → TurnMeets r flash bytes (onward w.told (usb_state op state flash bytes))
    → TurnMeets r flash bytes (onward w.told (usb_state op w.next w.leaves bytes))
written r op w state flash bytes e f m =
    subst (λ (d : MockState). TurnMeets r flash bytes (onward w.told (usb_state op d w.leaves bytes))) e
    (subst (λ (l : List ℕ). TurnMeets r flash bytes (onward w.told (usb_state op state l bytes))) f m)

-- what is read is given where the device did it, and a refused read is the end
as_received : (x : Result Unit MockTransportError) (g : List ℕ) (told : Told Unit) (what : Asked) (op : UsbOperation) (device : MockState) (flash bytes l : List ℕ) → result_told x g ≡ told
    → gives what (usb_state op device flash bytes) l ≡ usb_state (gives what (usb_state op device flash bytes) l).operation device flash bytes
    → onward told (usb_state (where_done x (gives what (usb_state op device flash bytes) l).operation op) device flash bytes) ≡ received told what (usb_state op device flash bytes) l
unfolding result_told onward received
as_received (Ok u) g told what op device flash bytes l e same =
    subst
    (λ (t : Told Unit). onward t (usb_state (gives what (usb_state op device flash bytes) l).operation device flash bytes) ≡ received t what (usb_state op device flash bytes) l) e
    (ap goes (sym same))
as_received (Err error) g told what op device flash bytes l e same =
    subst (λ (t : Told Unit). onward t (usb_state op device flash bytes) ≡ received t what (usb_state op device flash bytes) l) e refl

pub read_meets : (r : UsbTurned) (a : MockAnswer) (what : Asked) (op next : UsbOperation) (state : MockState) (flash bytes : List ℕ) (g : Call)
    → Answers a g.told → state ≡ g.next
    → gives what (usb_state op state flash bytes) g.leaves ≡ usb_state (gives what (usb_state op state flash bytes) g.leaves).operation state flash bytes
    → next ≡ where_done a.result (gives what (usb_state op state flash bytes) g.leaves).operation op
    → TurnMeets r flash bytes (onward g.told (usb_state next state flash bytes))
    → TurnMeets r flash bytes (received g.told what (usb_state op g.next flash bytes) g.leaves)
read_meets r a what op next state flash bytes g m e same n t =
    subst (λ (d : MockState). TurnMeets r flash bytes (received g.told what (usb_state op d flash bytes) g.leaves)) e
    (subst (λ (u : Turned Reply UsbState). TurnMeets r flash bytes u)
    (ap (λ (o : UsbOperation). onward g.told (usb_state o state flash bytes)) n
    ∙ as_received a.result a.signature g.told what op state flash bytes g.leaves m.tells same) t)

-- an empty giving puts nothing into the caller's data
received_none : (what : Asked) (op : UsbOperation) → (give.received what op []).sent ≡ []
unfolding give.received
received_none asked.Nothing op = refl
received_none asked.Inband op = refl
received_none asked.Sectors op = refl
received_none asked.Status op = refl

pub empty_put : (what : Asked) (op : UsbOperation) (lent : ℕ) → (give_of what op [] lent).sent ≡ []
unfolding give_of
empty_put what op lent =
    either_way (λ (g : Give). g.sent ≡ []) (keeps op)
    (rule (nothing_asked what) 22 [] ∷ rule (ltb (asks_for what op) 0) 21 [] ∷ rule (ltb lent (owed what op)) 27 [] ∷ [])
    (give.received what op []) (λ n values. refl) (λ met. received_none what op)

-- what the step asked for

-- what stands beside a refusal at the finish, as the run says it
beside_failure : (error : UsbOperationError) (g : List ℕ) → beside_of (failure_told error g) ≡ beside_told (failure_told error g)
unfolding beside_told beside_of failure_number failure_values signature_told signature_beside inner_signature signature_in
beside_failure failure.TagMismatch g = refl
beside_failure failure.InvalidStatusSignature g = refl
beside_failure (failure.InvalidStatusStatus byte) g = refl
beside_failure failure.InvalidStatusLength g = refl
beside_failure failure.ReplyParseFailure g = refl
beside_failure failure.FailedStatus g = refl

-- a reply and a status are read alike
pub as_status : (told : Told Unit) (s : UsbState) (bytes : List ℕ) → received told asked.Status s bytes ≡ received told asked.Inband s bytes
unfolding received gives
as_status (given done) s bytes = refl
as_status (refused number values) s bytes = refl

module _ (s : UsbState) (stepped : UsbStepped) (out : List ℕ) (m : StepMeets stepped (replicate 31 0) out (usb_step s.operation (length s.«data») 31)) where
  asked_for : (x : Result UsbStep StepError) → stepped.step ≡ x → (usb_step s.operation (length s.«data») 31).told ≡ step_told x stepped.beside
  asked_for x e = sym m.tells ∙ ap (λ (y : Result UsbStep StepError). step_told y stepped.beside) e

  -- what it asked for is within what was lent
  pub within : (x : Result UsbStep StepError) → stepped.step ≡ x
      → Fine s.operation.kind (length s.«data») (step_told x stepped.beside) (usb_step s.operation (length s.«data») 31).sent
  within x e =
      subst (λ (t : Told Asks). Fine s.operation.kind (length s.«data») t (usb_step s.operation (length s.«data») 31).sent) (asked_for x e)
      (fine s.operation (length s.«data»))

  pub turned_by_lem : (x : Result UsbStep StepError) → stepped.step ≡ x
      → usb_turn s ≡ transfers (step_told x stepped.beside) (usb_step s.operation (length s.«data») 31).sent (usb_state stepped.next s.device s.flash s.«data»)
  unfolding usb_turn
  turned_by_lem x e =
      ap₂
      (λ (t : Told Asks) (n : UsbOperation).
      transfers t (usb_step s.operation (length s.«data») 31).sent (usb_state n s.device s.flash s.«data»))
      (asked_for x e) (sym m.next)

  -- the command is the whole output
  pub command_out_lem : stepped.step ≡ (Ok step.WriteCommand) → out ≡ (usb_step s.operation (length s.«data») 31).sent
  unfolding step_told
  command_out_lem e =
      let long : length (usb_step s.operation (length s.«data») 31).sent ≡ 31 = within (Ok step.WriteCommand) e in
      m.leaves ∙ ap (λ (k : ℕ). (usb_step s.operation (length s.«data») 31).sent ++ drop k (replicate 31 0)) long
      ∙ append-nil (usb_step s.operation (length s.«data») 31).sent

  module _ (r : UsbTurned) (flash bytes : List ℕ) where
    pub command_meets : stepped.step ≡ (Ok step.WriteCommand)
        → TurnMeets r flash bytes (wrote (usb_state stepped.next s.device s.flash s.«data») (write_bulk s.device s.flash out))
        → TurnMeets r flash bytes (usb_turn s)
    unfolding step_told transfers
    command_meets e t =
        subst (λ (u : Turned Reply UsbState). TurnMeets r flash bytes u)
        (ap (λ (l : List ℕ). wrote (usb_state stepped.next s.device s.flash s.«data») (write_bulk s.device s.flash l)) (command_out_lem e)
        ∙ sym (turned_by_lem (Ok step.WriteCommand) e)) t

    pub data_meets : (n : ℕ) → stepped.step ≡ Ok (step.WriteData n)
        → TurnMeets r flash bytes (wrote (usb_state stepped.next s.device s.flash s.«data») (write_bulk s.device s.flash (take n s.«data»)))
        → TurnMeets r flash bytes (usb_turn s)
    unfolding step_told transfers
    data_meets n e t = subst (λ (u : Turned Reply UsbState). TurnMeets r flash bytes u) (sym (turned_by_lem (Ok (step.WriteData n)) e)) t

    pub inband_meets : (n : ℕ) → stepped.step ≡ Ok (step.ReadInband n)
        → TurnMeets r flash bytes (got asked.Status (usb_state stepped.next s.device s.flash s.«data») (read_bulk s.device s.flash (replicate n 0)))
        → TurnMeets r flash bytes (usb_turn s)
    unfolding step_told transfers buffer_for landed
    inband_meets n e t =
        let g = read_bulk s.device s.flash (replicate n 0) in
        subst (λ (u : Turned Reply UsbState). TurnMeets r flash bytes u)
        (as_status g.told (usb_state stepped.next g.next s.flash s.«data») g.leaves ∙ sym (turned_by_lem (Ok (step.ReadInband n)) e)) t

    pub sectors_meets : (n : ℕ) → stepped.step ≡ Ok (step.ReadData n)
        → TurnMeets r flash bytes (got asked.Sectors (usb_state stepped.next s.device s.flash s.«data») (read_bulk s.device s.flash (take n s.«data»)))
        → TurnMeets r flash bytes (usb_turn s)
    unfolding step_told transfers buffer_for
    sectors_meets n e t = subst (λ (u : Turned Reply UsbState). TurnMeets r flash bytes u) (sym (turned_by_lem (Ok (step.ReadData n)) e)) t

    pub status_meets : (n : ℕ) → stepped.step ≡ Ok (step.ReadStatus n)
        → TurnMeets r flash bytes (got asked.Status (usb_state stepped.next s.device s.flash s.«data») (read_bulk s.device s.flash (replicate 13 0)))
        → TurnMeets r flash bytes (usb_turn s)
    unfolding step_told transfers buffer_for
    status_meets n e t =
        let thirteen : n ≡ 13 = within (Ok (step.ReadStatus n)) e in
        subst (λ (u : Turned Reply UsbState). TurnMeets r flash bytes u)
        (ap (λ (k : ℕ). got asked.Status (usb_state stepped.next s.device s.flash s.«data») (read_bulk s.device s.flash (replicate k 0))) (sym thirteen)
        ∙ sym (turned_by_lem (Ok (step.ReadStatus n)) e)) t

  -- the end, with what stands beside it
  ends_meets : (x : Result UsbStep StepError) (stop : Result UsbReply StopError) → stepped.step ≡ x
      → transfers (step_told x stepped.beside) (usb_step s.operation (length s.«data») 31).sent (usb_state stepped.next s.device s.flash s.«data»)
      ≡ ends (stop_told stop stepped.beside) (usb_state stepped.next s.device s.flash s.«data»)
      → beside_at (step_told x stepped.beside) ≡ beside_told (stop_told stop stepped.beside)
      → TurnMeets (ended_by stop stepped.beside stepped.next s.device) s.flash s.«data» (usb_turn s)
  unfolding turn_told beside_turned
  ends_meets x stop e f b =
      subst (λ (u : Turned Reply UsbState). TurnMeets (ended_by stop stepped.beside stepped.next s.device) s.flash s.«data» u)
      (sym (turned_by_lem x e ∙ f))
      (record { tells = refl; beside = m.beside ∙ ap beside_at (asked_for x e) ∙ b })

  pub finish_meets : (reply : UsbReply) → stepped.step ≡ Ok (step.Finished reply)
      → TurnMeets (ended_by (Ok reply) stepped.beside stepped.next s.device) s.flash s.«data» (usb_turn s)
  unfolding step_told stop_told transfers beside_at beside_asks beside_of beside_told
  finish_meets reply e = ends_meets (Ok (step.Finished reply)) (Ok reply) e refl refl

  pub refusal_meets : (error : StepError) → stepped.step ≡ Err error
      → TurnMeets (ended_by (Err (stop_of error)) stepped.beside stepped.next s.device) s.flash s.«data» (usb_turn s)
  unfolding step_told stop_told transfers beside_at beside_of beside_told signature_told signature_beside inner_signature signature_in
  refusal_meets (step_error.Failed error) e =
      ends_meets (Err (step_error.Failed error)) (Err (stop.Failed error)) e refl (beside_failure error stepped.beside.signature)
  refusal_meets step_error.OutputTooShort e = ends_meets (Err step_error.OutputTooShort) (Err stop.OutputTooShort) e refl refl
  refusal_meets step_error.DataDiffers e = ends_meets (Err step_error.DataDiffers) (Err stop.DataDiffers) e refl refl

-- a part that was lent and comes back `last` stands at the front of the whole
pub lent_front : (size : ℕ) (room last buffer : List ℕ) → size ≤ length room → length last ≡ length (take size room) → last ≡ buffer
    → last ++ drop size room ≡ front buffer room
lent_front size room last buffer h l e =
    let long : length buffer ≡ size = sym (ap length e) ∙ l ∙ length-take-le size room h in
    ap₂ (λ (x : List ℕ) (k : ℕ). x ++ drop k room) e (sym long)

-- a part of a fresh buffer is a fresh buffer
pub take_same : (n room a : ℕ) → n ≤ room → take n (replicate room a) ≡ replicate n a
take_same n room a h =
    let e : n + (room - n) ≡ room = omega arith in
    ap (λ (k : ℕ). take n (replicate k a)) (sym e) ∙ ap (take n) (sym (replicate-append-replicate n (room - n) a))
    ∙ take_at (replicate n a) (replicate (room - n) a) n (length-replicate n a)
