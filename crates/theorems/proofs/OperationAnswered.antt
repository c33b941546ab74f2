-- Every step and every giving has an answer that its function's promise allows, at every record: so the record that the definitions name behind one is a
-- record that calls can make.
use Prim.Native.Nat.{ℕ}
use mathlib.Core.Path.{◌≡◌, refl, ap, sym, subst, ◌∙◌}
use mathlib.Core.Bool.{Bool, true, false, not}
use mathlib.Core.List.{List, [], ◌∷◌}
use lib.Dec.{eqb, ltb}
use lib.ListN.{length, get_or, take, replicate, length-replicate}
use Rattle.promise.specs.Told.{Told, given, refused, and_then}
use Rattle.promise.specs.Rules.{or_refuse, pick}
use Rattle.promise.specs.Bytes.{front, from_low}
use Rattle.promise.proofs.Outcome.{by_test}
use Rattle.protocol_codes.specs.Numbers.{status_number, statuses}
use Rattle.protocol_codes.specs.Reading.{status_of}
use Rattle.protocol_codes.specs.declared.Status.{Status}
use Rattle.protocol_codes.proofs.Reading.{known_refused}
use Rattle.protocol_bytes.specs.Signature.{no_signature, usbs, same, signature_in}
use Rattle.protocol_status.specs.Failure.{failure_number, failure_values, at_finish}
use Rattle.protocol_status.specs.StatusBytes.{report_of, read_status}
use Rattle.protocol_status.specs.declared.report.CommandStatus.{CommandStatus}
use Rattle.protocol_status.specs.declared.failure.UsbOperationError.TheVariants.{InvalidStatusSignature, InvalidStatusStatus, InvalidStatusLength}
use Rattle.protocol_reply.specs.Media.{places_set, only_place, read_storage}
use Rattle.operation_finish.specs.declared.UsbReply.TheVariants as usb
use Rattle.operation_finish.specs.declared.SectorTransfer.{SectorTransfer}
use Rattle.operation_finish.specs.declared.Finished.{Finished}
use Rattle.operation_finish.specs.declared.Beside.{Beside}
use Rattle.operation_finish.specs.declared.Kind.{Kind}
use Rattle.operation_finish.specs.declared.Kind.TheVariants as kind
use Rattle.operation_finish.specs.Reply.{Reply, chip_info, flash_id, flash_info, capability, nothing, storage, moved, reply_given, finish_told, beside_reply, beside_of, FinishMeets}
use Rattle.operation_finish.specs.Code.{failed_with, replied_with}
use Rattle.operation_finish.specs.Transfer.{transfer_of}
use Rattle.operation_finish.specs.Finish.{failed, sectors_by, sector_reply, storage_reply, reply_by, reply_of, judged_by, judged, finishes_by, finishes}
use Rattle.operation_finish.proofs.Cases.{refused_10, refused_14, refused_15}
use Rattle.operation.specs.declared.steps.Operation.{Operation}
use Rattle.operation.specs.declared.steps.Operation.TheVariants as operation
use Rattle.operation.specs.declared.steps.IOBytes.{IOBytes}
use Rattle.operation.specs.declared.steps.IOBytes.TheVariants as io
use Rattle.operation.specs.declared.steps.Asked.{Asked}
use Rattle.operation.specs.declared.steps.Asked.TheVariants as asked
use Rattle.operation.specs.declared.steps.UsbOperation.{UsbOperation}
use Rattle.operation.specs.declared.steps.UsbStep.TheVariants as step
use Rattle.operation.specs.declared.steps.UsbStepped.{UsbStepped}
use Rattle.operation.specs.declared.giving.UsbGiven.{UsbGiven}
use Rattle.operation.specs.Code.{finished_by}
use Rattle.operation.proofs.Cases.{passed_on}
use Rattle.operation.specs.Record.{io_of, transfer_length, inband_length}
use Rattle.operation.specs.Step.{Step, finished_told, command_step, io_step, status_step, finish_step, step_of, usb_step, step_told, beside_asks, beside_at, StepMeets}
use Rattle.operation.specs.Give.{Give, nothing_asked, asks_for, owed, received, give_of, usb_give, giving_told, GiveMeets}
use Rattle.operation.specs.Made.{Made, stepped, gave}
use Rattle.std.specs.Prelude.{Result}
use Rattle.operation.specs.declared.steps.UsbStep.{UsbStep}
use Rattle.operation.specs.declared.steps.StepError.{StepError}
use Rattle.std.specs.declared.result.Result.TheVariants.{Ok, Err}
use Rattle.operation.specs.declared.steps.StepError.TheVariants as step_error
use Rattle.operation.specs.declared.giving.GivingError.{GivingError}
use Rattle.operation.specs.declared.giving.GivingError.TheVariants as giving_error

-- the finish

abbrev FinishAnswered : Told Reply → Type 0
FinishAnswered t = (r : Finished) × FinishMeets r t

replies : (reply : Reply) → FinishAnswered (given reply)
unfolding finish_told reply_given beside_of beside_reply
replies (chip_info x) = (replied_with usb.ChipInfo (beside_reply (chip_info x)), record { tells = refl; beside = refl })
replies (flash_id x) = (replied_with usb.FlashId (beside_reply (flash_id x)), record { tells = refl; beside = refl })
replies (flash_info x) = (replied_with usb.FlashInfo (beside_reply (flash_info x)), record { tells = refl; beside = refl })
replies (capability x) = (replied_with usb.Capability (beside_reply (capability x)), record { tells = refl; beside = refl })
replies nothing = (replied_with usb.Nothing (beside_reply nothing), record { tells = refl; beside = refl })
replies (storage index) = (replied_with (usb.Storage index) (beside_reply (storage index)), record { tells = refl; beside = refl })
replies (moved transfer) = (replied_with (usb.Sectors transfer) (beside_reply (moved transfer)), record { tells = refl; beside = refl })

refused_11 : (signature : List ℕ) → FinishAnswered (refused 11 signature)
unfolding finish_told beside_of failure_number failure_values signature_in
refused_11 signature = (failed_with InvalidStatusSignature signature, record { tells = refl; beside = refl })

refused_12 : (byte : ℕ) → FinishAnswered (refused 12 (byte ∷ []))
unfolding finish_told beside_of failure_number failure_values signature_in
refused_12 byte = (failed_with (InvalidStatusStatus byte) no_signature, record { tells = refl; beside = refl })

refused_13 : FinishAnswered (refused 13 [])
unfolding finish_told beside_of failure_number failure_values signature_in
refused_13 = (failed_with InvalidStatusLength no_signature, record { tells = refl; beside = refl })

place_answered : (places : List ℕ) → FinishAnswered (and_then (only_place places) (λ index. given (storage index)))
unfolding and_then only_place
place_answered [] = (_, refused_14)
place_answered (p ∷ []) = replies _
place_answered (p ∷ q ∷ more) = (_, refused_14)

moves_answered : (above : Bool) (transfer : SectorTransfer) → FinishAnswered (and_then (pick above (refused 14 []) (given transfer)) (λ told. given (moved told)))
unfolding and_then
moves_answered true transfer = (_, refused_14)
moves_answered false transfer = replies _

sectors_answered : (l residue : ℕ) → FinishAnswered (sector_reply l residue)
unfolding sectors_by transfer_of or_refuse
sectors_answered l residue = moves_answered (ltb l residue) _

reply_answered : (k : Kind) (l residue : ℕ) (inband : List ℕ) → FinishAnswered (reply_of k l residue inband)
unfolding reply_by storage_reply read_storage
reply_answered kind.ChipInfo l residue inband = replies _
reply_answered kind.FlashId l residue inband = replies _
reply_answered kind.FlashInfo l residue inband = replies _
reply_answered kind.Capability l residue inband = replies _
reply_answered kind.Nothing l residue inband = replies _
reply_answered kind.Storage l residue inband = place_answered (places_set 32 0 (from_low (take 4 inband)))
reply_answered kind.Read l residue inband = sectors_answered l residue
reply_answered kind.Write l residue inband = sectors_answered l residue

module _ (k : Kind) (tag l : ℕ) (status inband : List ℕ) where
  judged_answered : (s : CommandStatus) → FinishAnswered (judged k tag l inband s)
  unfolding judged_by or_refuse
  judged_answered s =
      by_test FinishAnswered (failed s.status) (λ e. (_, refused_15))
      (λ e. by_test FinishAnswered (not (eqb s.tag tag)) (λ f. (_, refused_10)) (λ f. reply_answered k l s.residue inband))

  byte_answered : (t : Told Status) → t ≡ status_of (get_or status 12 0)
      → FinishAnswered (and_then (at_finish (and_then t (λ s. given (report_of status s)))) (judged k tag l inband))
  unfolding and_then at_finish status_of
  byte_answered (given s) e = judged_answered (report_of status s)
  byte_answered (refused m values) e =
      let told : refused m values ≡ refused 7 (get_or status 12 0 ∷ []) = e ∙ known_refused 7 status_number statuses (get_or status 12 0) m values (sym e) in
      let seven : m ≡ 7 = cc in
      let byte : values ≡ get_or status 12 0 ∷ [] = cc in
      rw (seven, byte) (refused_12 (get_or status 12 0))

  finish_answered : FinishAnswered (finishes k tag l status inband)
  unfolding finishes_by read_status or_refuse at_finish and_then
  finish_answered =
      let P : Told CommandStatus → Type 0 = λ t. FinishAnswered (and_then (at_finish t) (judged k tag l inband)) in
      by_test P (ltb (length status) 13) (λ e. refused_13)
      (λ e. by_test P (not (same (take 4 status) usbs)) (λ f. refused_11 (take 4 status)) (λ f. byte_answered (status_of (get_or status 12 0)) refl))

-- a step

abbrev StepAnswered : Step → Type 0
StepAnswered s = (x : Result UsbStep StepError) × (step_told x (beside_at s.told) ≡ s.told)

beside_finished : (t : Told Reply) → beside_at (finished_told t) ≡ beside_of t
unfolding beside_at beside_asks finished_told and_then
beside_finished (given reply) = refl
beside_finished (refused n values) = refl

finished_answered : (t : Told Reply) → FinishAnswered t → (x : Result UsbStep StepError) × (step_told x (beside_at (finished_told t)) ≡ finished_told t)
unfolding step_told
finished_answered t a =
    let same : beside_at (finished_told t) ≡ a.0.beside = beside_finished t ∙ sym a.1.beside in (
      finished_by a.0.answer,
      ap (λ (b : Beside). step_told (finished_by a.0.answer) b) same ∙ passed_on a.0.answer a.0.beside ∙ ap finished_told a.1.tells,
    )

module _ (op : UsbOperation) (lent room : ℕ) where
  data_answered : (at : IOBytes) → StepAnswered (io_step at op lent)
  unfolding io_step or_refuse step_told beside_at beside_asks
  data_answered io.Inband = (Ok (step.ReadInband (inband_length op)), refl)
  data_answered io.Read = by_test StepAnswered (ltb lent (transfer_length op)) (λ e. ((Err step_error.DataDiffers), refl)) (λ e. (Ok (step.ReadData (transfer_length op)), refl))
  data_answered io.Write = by_test StepAnswered (ltb lent (transfer_length op)) (λ e. ((Err step_error.DataDiffers), refl)) (λ e. (Ok (step.WriteData (transfer_length op)), refl))

  answered_at : (here : Operation) → StepAnswered (step_of here op lent room)
  unfolding step_of command_step status_step finish_step or_refuse step_told beside_at beside_asks
  answered_at operation.CommandBlock = by_test StepAnswered (ltb room 31) (λ e. ((Err step_error.OutputTooShort), refl)) (λ e. ((Ok step.WriteCommand), refl))
  answered_at operation.IO = data_answered (io_of op.kind)
  answered_at operation.CommandStatus = (Ok (step.ReadStatus 13), refl)
  answered_at operation.Finish =
      finished_answered (finishes op.kind op.command.tag (transfer_length op) op.command_bytes op.«data»)
      (finish_answered op.kind op.command.tag (transfer_length op) op.command_bytes op.«data»)

-- a call of `step` has an answer, at every record
pub step_answered : (op : UsbOperation) (lent before : List ℕ)
    → (r : UsbStepped) × (now : List ℕ) × StepMeets r before now (usb_step op (length lent) (length before))
step_answered op lent before =
    let s = usb_step op (length lent) (length before) in
    let x = answered_at op (length lent) (length before) op.next in (
      record { step = x.0; beside = beside_at s.told; next = s.next },
      front s.sent before,
      record { tells = x.1; beside = refl; next = refl; leaves = refl },
    )

-- a giving

abbrev GiveAnswered : Give → Type 0
GiveAnswered g = (x : Result Unit GivingError) × (giving_told x ≡ g.told)

received_answered : (a : Asked) (op : UsbOperation) (bytes : List ℕ) → GiveAnswered (received a op bytes)
unfolding received giving_told
received_answered asked.Nothing op bytes = ((Ok tt), refl)
received_answered asked.Inband op bytes = ((Ok tt), refl)
received_answered asked.Sectors op bytes = ((Ok tt), refl)
received_answered asked.Status op bytes = ((Ok tt), refl)

given_answered : (op : UsbOperation) (bytes : List ℕ) (lent : ℕ) → GiveAnswered (usb_give op bytes lent)
unfolding give_of or_refuse giving_told
given_answered op bytes lent =
    by_test GiveAnswered (nothing_asked op.asked) (λ e. ((Err giving_error.NotAsked), refl))
    (λ e. by_test GiveAnswered (ltb (asks_for op.asked op) (length bytes)) (λ f. ((Err giving_error.TooMany), refl))
    (λ f. by_test GiveAnswered (ltb lent (owed op.asked op)) (λ g. ((Err giving_error.DataDiffers), refl)) (λ g. received_answered op.asked op bytes)))

-- and a call of `give`
pub give_answered : (op : UsbOperation) (bytes before : List ℕ)
    → (r : UsbGiven) × (now : List ℕ) × GiveMeets r before now (usb_give op bytes (length before))
give_answered op bytes before =
    let g = usb_give op bytes (length before) in
    let x = given_answered op bytes (length before) in
    (record { answer = x.0; next = g.next }, front g.sent before, record { tells = x.1; next = refl; leaves = refl })

-- the record that the definitions name behind a step or a giving is one that calls make
module _ (start op : UsbOperation) (made : Made start op) where
  pub step_made : (lent : List ℕ) (room : ℕ) → Made start (usb_step op (length lent) room).next
  step_made lent room =
      let before : List ℕ = replicate room 0 in
      let a = step_answered op lent before in
      subst (λ (n : ℕ). Made start (usb_step op (length lent) n).next) (length-replicate {A = ℕ} room 0)
      (subst (λ (o : UsbOperation). Made start o) a.2.next (stepped op a.0 lent before a.1 made a.2))

  pub give_made : (bytes : List ℕ) (lent : ℕ) → Made start (usb_give op bytes lent).next
  give_made bytes lent =
      let before : List ℕ = replicate lent 0 in
      let a = give_answered op bytes before in
      subst (λ (n : ℕ). Made start (usb_give op bytes n).next) (length-replicate {A = ℕ} lent 0)
      (subst (λ (o : UsbOperation). Made start o) a.2.next (gave op a.0 bytes before a.1 made a.2))
