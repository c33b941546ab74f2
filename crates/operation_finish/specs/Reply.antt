-- What a finished operation gives, what an answer tells of it, and what stands beside the answer.
use Rattle.std.specs.Prelude.{ℕ, ◌≡◌, List, replicate}
use Rattle.promise.specs.Told.{Told, given, refused}
use Rattle.protocol_codes.specs.declared.StorageIndex.{StorageIndex}
use Rattle.protocol_bytes.specs.Signature.{no_signature, signature_in}
use Rattle.protocol_status.specs.Failure.{failure_told}
use Rattle.protocol_reply.specs.declared.info.ChipInfo.{ChipInfo}
use Rattle.protocol_reply.specs.declared.info.FlashId.{FlashId}
use Rattle.protocol_reply.specs.declared.info.FlashInfo.{FlashInfo}
use Rattle.protocol_reply.specs.declared.flags.Capability.{Capability}
use Rattle.operation_finish.specs.declared.UsbReply.{UsbReply}
use Rattle.operation_finish.specs.declared.UsbReply.TheVariants as usb
use Rattle.operation_finish.specs.declared.ShortTransfer.{ShortTransfer}
use Rattle.operation_finish.specs.declared.SectorTransfer.{SectorTransfer}
use Rattle.operation_finish.specs.declared.SectorTransfer.TheVariants.{Short}
use Rattle.operation_finish.specs.declared.Beside.{Beside}
use Rattle.operation_finish.specs.declared.Finished.{Finished}
use Rattle.std.specs.Prelude.{Result}
use Rattle.protocol_status.specs.declared.failure.UsbOperationError.{UsbOperationError}
use Rattle.std.specs.declared.result.Result.TheVariants.{Ok, Err}

-- "Each kind keeps its own wrapper as in the Rust"; S is what is told of sectors
pub data ReplyWith (S : Type 0) : Type 0 where
  chip_info : ChipInfo → ReplyWith S
  flash_id : FlashId → ReplyWith S
  flash_info : FlashInfo → ReplyWith S
  capability : Capability → ReplyWith S
  nothing : ReplyWith S
  storage : StorageIndex → ReplyWith S
  moved : S → ReplyWith S

-- "whole with its count, or short with moved and asked, for sector operations"
abbrev pub Reply : Type 0
Reply = ReplyWith SectorTransfer

-- what is told is no short transfer
abbrev pub NotShort : Told Reply → Type 0
NotShort told = (s : ShortTransfer) → told ≡ given (moved (Short s)) → ⊥

unfoldable pub reply_given : UsbReply → Beside → Reply
reply_given usb.ChipInfo b = chip_info b.chip_info
reply_given usb.FlashId b = flash_id b.flash_id
reply_given usb.FlashInfo b = flash_info b.flash_info
reply_given usb.Capability b = capability b.capability
reply_given usb.Nothing b = nothing
reply_given (usb.Storage index) b = storage index
reply_given (usb.Sectors transfer) b = moved transfer

-- number and values of every answer
unfoldable pub finish_told : Result UsbReply UsbOperationError → Beside → Told Reply
finish_told (Ok reply) b = given (reply_given reply b)
finish_told (Err error) b = failure_told error b.signature

abbrev pub no_chip_info : ChipInfo
no_chip_info = record { 0 = replicate 16 0 }

abbrev pub no_flash_id : FlashId
no_flash_id = record { 0 = replicate 5 0 }

abbrev pub no_flash_info : FlashInfo
no_flash_info = record { 0 = replicate 11 0 }

abbrev pub no_capability : Capability
no_capability = record { 0 = replicate 8 0 }

abbrev pub besides : List ℕ → ChipInfo → FlashId → FlashInfo → Capability → Beside
besides s c i f k = record { signature = s; chip_info = c; flash_id = i; flash_info = f; capability = k }

-- zeros, but for a signature
abbrev pub blank : List ℕ → Beside
blank s = besides s no_chip_info no_flash_id no_flash_info no_capability

unfoldable pub beside_reply : Reply → Beside
beside_reply (chip_info x) = besides no_signature x no_flash_id no_flash_info no_capability
beside_reply (flash_id x) = besides no_signature no_chip_info x no_flash_info no_capability
beside_reply (flash_info x) = besides no_signature no_chip_info no_flash_id x no_capability
beside_reply (capability x) = besides no_signature no_chip_info no_flash_id no_flash_info x
beside_reply nothing = blank no_signature
beside_reply (storage index) = blank no_signature
beside_reply (moved transfer) = blank no_signature

-- "11 .. InvalidStatus: Signature"
abbrev pub bad_signature : ℕ
bad_signature = 11

-- the reply's own array, or the signature that 11 tells; zeros everywhere else
unfoldable pub beside_of : Told Reply → Beside
beside_of (given reply) = beside_reply reply
beside_of (refused n values) = blank (signature_in {A = Reply} bad_signature (refused n values))

-- a finish that answers r where `told` is right
pub record FinishMeets (r : Finished) (told : Told Reply) : Type 0 where
  pub tells : finish_told r.answer r.beside ≡ told
  pub beside : r.beside ≡ beside_of told
