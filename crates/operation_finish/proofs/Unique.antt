-- Two answers that a contract allows are equal: each is read off what it tells.
use Prim.Native.Nat.{ℕ}
use mathlib.Core.Path.{◌≡◌, refl, ap, ap₂, sym, ◌∙◌}
use mathlib.Core.List.{List}
use lib.Dec.{eqb}
use lib.ListN.{get_or}
use Rattle.promise.specs.Told.{Told, given, refused, number}
use Rattle.rule_number.specs.Number.{number_of}
use Rattle.promise.specs.Rules.{pick}
use Rattle.protocol_status.specs.Failure.{failure_number, failure_values}
use Rattle.protocol_status.specs.declared.failure.UsbOperationError.{UsbOperationError}
use Rattle.protocol_status.specs.declared.failure.UsbOperationError.TheVariants.{TagMismatch, InvalidStatusSignature, InvalidStatusStatus, InvalidStatusLength, ReplyParseFailure, FailedStatus}
use Rattle.operation_finish.specs.declared.UsbReply.{UsbReply}
use Rattle.operation_finish.specs.declared.UsbReply.TheVariants as usb
use Rattle.operation_finish.specs.declared.Beside.{Beside}
use Rattle.operation_finish.specs.declared.Finished.{Finished}
use Rattle.operation_finish.specs.Reply.{Reply, chip_info, flash_id, flash_info, capability, nothing, storage, moved, reply_given, finish_told, FinishMeets}
use Rattle.std.specs.Prelude.{Result}
use Rattle.std.specs.declared.result.Result.TheVariants.{Ok, Err}

abbrev usb_of : Reply → UsbReply
usb_of (chip_info x) = usb.ChipInfo
usb_of (flash_id x) = usb.FlashId
usb_of (flash_info x) = usb.FlashInfo
usb_of (capability x) = usb.Capability
usb_of nothing = usb.Nothing
usb_of (storage index) = usb.Storage index
usb_of (moved transfer) = usb.Sectors transfer

abbrev failure_of : ℕ → List ℕ → UsbOperationError
failure_of n values =
    pick (eqb n 10) TagMismatch (pick (eqb n 11) InvalidStatusSignature (pick (eqb n 12) (InvalidStatusStatus (get_or values 0 0))
    (pick (eqb n 13) InvalidStatusLength (pick (eqb n 14) ReplyParseFailure FailedStatus))))

-- the answer that tells this
abbrev pub answer_of : Told Reply → Result UsbReply UsbOperationError
answer_of (given reply) = Ok (usb_of reply)
answer_of (refused n values) = Err (failure_of n values)

pub answer_of_lem : (a : Result UsbReply UsbOperationError) (b : Beside) → answer_of (finish_told a b) ≡ a
unfolding finish_told reply_given failure_number failure_values
answer_of_lem (Ok usb.ChipInfo) b = refl
answer_of_lem (Ok usb.FlashId) b = refl
answer_of_lem (Ok usb.FlashInfo) b = refl
answer_of_lem (Ok usb.Capability) b = refl
answer_of_lem (Ok usb.Nothing) b = refl
answer_of_lem (Ok (usb.Storage index)) b = refl
answer_of_lem (Ok (usb.Sectors transfer)) b = refl
answer_of_lem (Err TagMismatch) b = refl
answer_of_lem (Err InvalidStatusSignature) b = refl
answer_of_lem (Err (InvalidStatusStatus byte)) b = refl
answer_of_lem (Err InvalidStatusLength) b = refl
answer_of_lem (Err ReplyParseFailure) b = refl
answer_of_lem (Err FailedStatus) b = refl

pub finish_unique : (told : Told Reply) (r s : Finished) → FinishMeets r told → FinishMeets s told → r ≡ s
finish_unique told r s p q =
    let answers : r.answer ≡ s.answer =
    sym (answer_of_lem r.answer r.beside) ∙ ap answer_of (p.tells ∙ sym q.tells) ∙ answer_of_lem s.answer s.beside in
    ap₂ (λ (a : Result UsbReply UsbOperationError) (b : Beside). record { answer = a; beside = b }) answers (p.beside ∙ sym q.beside)

-- the number of a finish is the number of what it tells
pub finish_number : (r : Result UsbReply UsbOperationError) (b : Beside) → number (finish_told r b) ≡ number_of failure_number r
unfolding number finish_told
finish_number (Ok reply) b = refl
finish_number (Err error) b = refl
