-- One law for each way that a finish can go.
use Prim.Native.Nat.{ℕ, ◌-◌, ◌<◌, ◌≤◌}
use mathlib.Core.Path.{◌≡◌, refl, ap, sym, ◌∙◌}
use mathlib.Core.List.{List, []}
use borrow.Author.Tests.{eq-eqb, ne_eqb}
use Rattle.promise.specs.Told.{Told, given, refused, and_then}
use Rattle.promise.specs.Rules.{or_refuse}
use Rattle.protocol_codes.specs.declared.Status.TheVariants.{SUCCESS, FAILED}
use Rattle.protocol_bytes.specs.Signature.{no_signature, signature_in}
use Rattle.protocol_status.specs.StatusBytes.{read_status}
use Rattle.protocol_status.specs.StatusMeets.{status_error_told, status_told, StatusMeets}
use Rattle.protocol_status.specs.Failure.{failure_number, failure_values, failure_told, at_finish}
use Rattle.protocol_status.specs.declared.report.CommandStatus.{CommandStatus}
use Rattle.protocol_status.specs.declared.report.CommandStatusParseError.{CommandStatusParseError}
use Rattle.protocol_status.specs.declared.report.CommandStatusParseError.TheVariants.{InvalidSignature, InvalidLength, InvalidStatus}
use Rattle.protocol_bytes.specs.declared.signature.Parse.{Parse}
use Rattle.protocol_status.specs.declared.failure.UsbOperationError.{UsbOperationError}
use Rattle.protocol_status.specs.declared.failure.UsbOperationError.TheVariants.{TagMismatch, ReplyParseFailure, FailedStatus}
use Rattle.operation_finish.specs.declared.Kind.{Kind}
use Rattle.operation_finish.specs.Reply.{Reply, moved, finish_told, blank, beside_of, FinishMeets}
use Rattle.operation_finish.specs.Code.{failed_with}
use Rattle.operation_finish.specs.Transfer.{whole, short}
use Rattle.operation_finish.specs.Finish.{failed, failed_status, tag_mismatch, sectors_by, sector_reply, reply_of, judged_by, judged, finishes_by, finishes}
use Rattle.operation_finish.proofs.Transfers.{transfer_14, transfer_whole, transfer_short}
use Rattle.std.specs.Prelude.{Result}
use Rattle.std.specs.declared.result.Result.TheVariants.{Ok, Err}

-- a refusal with no values
pub refused_14 : FinishMeets (failed_with ReplyParseFailure no_signature) (refused 14 [])
unfolding finish_told beside_of failure_number failure_values signature_in
refused_14 = record { tells = refl; beside = refl }

pub refused_15 : FinishMeets (failed_with FailedStatus no_signature) (refused 15 [])
unfolding finish_told beside_of failure_number failure_values signature_in
refused_15 = record { tells = refl; beside = refl }

pub refused_10 : FinishMeets (failed_with TagMismatch no_signature) (refused 10 [])
unfolding finish_told beside_of failure_number failure_values signature_in
refused_10 = record { tells = refl; beside = refl }

-- a refusal told of one thing, told of another
told_of : {A B : Type 0} (n m : ℕ) (vs ws : List ℕ) → ◌≡◌ {A = Told A} (refused n vs) (refused m ws) → ◌≡◌ {A = Told B} (refused n vs) (refused m ws)
told_of n m vs ws e = cc

-- bytes that are no status: 11, 12 or 13, with the signature that 6 told
unread_meets : (error : CommandStatusParseError) (failure : UsbOperationError) (g : List ℕ) (rest : CommandStatus → Told Reply)
    → ((h : List ℕ) → failure_told failure h ≡ at_finish (status_error_told error h)) → g ≡ signature_in 6 (status_error_told error g)
    → FinishMeets (failed_with failure g) (and_then (at_finish (status_error_told error g)) rest)
unfolding finish_told beside_of status_error_told at_finish and_then signature_in
unread_meets InvalidSignature failure g rest h e = record { tells = told_of _ _ _ _ (h g); beside = ap blank e }
unread_meets (InvalidLength n) failure g rest h e = record { tells = told_of _ _ _ _ (h g); beside = ap blank e }
unread_meets (InvalidStatus byte) failure g rest h e = record { tells = told_of _ _ _ _ (h g); beside = ap blank e }

pub unread : (p : Parse CommandStatus CommandStatusParseError) (told : Told CommandStatus) (error : CommandStatusParseError) (failure : UsbOperationError) → StatusMeets p told
    → p.answer ≡ Err error → ((h : List ℕ) → failure_told failure h ≡ at_finish (status_error_told error h)) → (rest : CommandStatus → Told Reply)
    → FinishMeets (failed_with failure p.signature) (and_then (at_finish told) rest)
unfolding status_told
unread p told error failure m a h rest =
    let read : told ≡ status_error_told error p.signature = sym m.tells ∙ ap (λ (x : Result CommandStatus CommandStatusParseError). status_told x p.signature) a in
    rw read (unread_meets error failure p.signature rest h (m.signature ∙ ap (signature_in 6) read))

module _ (length residue : ℕ) where
  pub sectors_14 : length < residue → sector_reply length residue ≡ refused 14 []
  unfolding sectors_by and_then
  sectors_14 h = rw (transfer_14 length residue h)

  pub sectors_whole : residue ≡ 0 → sector_reply length residue ≡ given (moved (whole length))
  unfolding sectors_by and_then
  sectors_whole e = rw (transfer_whole length residue e)

  pub sectors_short : 0 < residue → residue ≤ length → sector_reply length residue ≡ given (moved (short (length - residue) length))
  unfolding sectors_by and_then
  sectors_short some h = rw (transfer_short length residue some h)

-- a status that was read
pub block_read : (a : Result CommandStatus CommandStatusParseError) (g : List ℕ) (t : Told CommandStatus) (s : CommandStatus) → status_told a g ≡ t → a ≡ Ok s → t ≡ given s
unfolding status_told
block_read a g t s h e = sym h ∙ rw e

module _ (kind : Kind) (tag length : ℕ) (status inband : List ℕ) (s : CommandStatus) (e : read_status status ≡ given s) where
  read : finishes kind tag length status inband ≡ judged kind tag length inband s
  unfolding finishes_by at_finish and_then
  read = rw e

  -- a failed status outranks a wrong tag, whatever the tags are
  pub finish_15 : s.status ≡ FAILED → finishes kind tag length status inband ≡ refused failed_status []
  unfolding judged_by or_refuse failed
  finish_15 f = read ∙ rw f

  pub finish_10 : s.status ≡ SUCCESS → (s.tag ≡ tag → ⊥) → finishes kind tag length status inband ≡ refused tag_mismatch []
  unfolding judged_by or_refuse failed
  finish_10 f h = read ∙ rw (f, ne_eqb s.tag tag h)

  pub finish_reply : s.status ≡ SUCCESS → s.tag ≡ tag → finishes kind tag length status inband ≡ reply_of kind length s.residue inband
  unfolding judged_by or_refuse failed
  finish_reply f h = read ∙ rw (f, eq-eqb s.tag tag h)
