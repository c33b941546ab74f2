-- The finish of an operation: "signature, status byte, FAILED, tag, then the reply".
use Rattle.std.specs.Prelude.{ℕ, Bool, true, false, not, List, [], ◌∷◌, eqb, take}
use Rattle.promise.specs.Told.{Told, given, and_then}
use Rattle.promise.specs.Rules.{rule, unless}
use Rattle.protocol_codes.specs.declared.Status.{Status}
use Rattle.protocol_codes.specs.declared.Status.TheVariants.{SUCCESS, FAILED}
use Rattle.protocol_status.specs.StatusBytes.{read_status}
use Rattle.protocol_status.specs.Failure.{at_finish}
use Rattle.protocol_status.specs.declared.report.CommandStatus.{CommandStatus}
use Rattle.protocol_reply.specs.Media.{read_storage}
use Rattle.protocol_reply.specs.declared.size.Transferred.{Transferred}
use Rattle.operation_finish.specs.declared.Kind.{Kind}
use Rattle.operation_finish.specs.declared.Kind.TheVariants as kind
use Rattle.operation_finish.specs.Reply.{ReplyWith, chip_info, flash_id, flash_info, capability, nothing, storage, moved, Reply}
use Rattle.operation_finish.specs.Transfer.{transfer_of, moved_of, forgets}

abbrev pub tag_mismatch : ℕ
tag_mismatch = 10

abbrev pub failed_status : ℕ
failed_status = 15

unfoldable pub failed : Status → Bool
failed SUCCESS = false
failed FAILED = true

-- "Storage: 4 bytes"
unfoldable pub storage_reply : {S : Type 0} → List ℕ → Told (ReplyWith S)
storage_reply inband = and_then (read_storage (take 4 inband)) (λ index. given (storage index))

-- a way of telling what became of sectors, by the transfer length and the residue
abbrev pub Telling : Type 0 → Type 0
Telling S = ℕ → ℕ → Told S

unfoldable pub sectors_by : {S : Type 0} → Telling S → ℕ → ℕ → Told (ReplyWith S)
sectors_by telling length residue = and_then (telling length residue) (λ told. given (moved told))

-- the reply, from the transfer length, the residue and the in-band bytes: "chip info 16 bytes, flash id 5, flash info 11 .., capability 8"
unfoldable pub reply_by : {S : Type 0} → Telling S → Kind → ℕ → ℕ → List ℕ → Told (ReplyWith S)
reply_by telling kind.ChipInfo length residue inband = given (chip_info (record { 0 = take 16 inband }))
reply_by telling kind.FlashId length residue inband = given (flash_id (record { 0 = take 5 inband }))
reply_by telling kind.FlashInfo length residue inband = given (flash_info (record { 0 = take 11 inband }))
reply_by telling kind.Capability length residue inband = given (capability (record { 0 = take 8 inband }))
reply_by telling kind.Nothing length residue inband = given nothing
reply_by telling kind.Storage length residue inband = storage_reply inband
reply_by telling kind.Read length residue inband = sectors_by telling length residue
reply_by telling kind.Write length residue inband = sectors_by telling length residue

-- "FAILED, tag, then the reply"
unfoldable pub judged_by : {S : Type 0} → Telling S → Kind → ℕ → ℕ → List ℕ → CommandStatus → Told (ReplyWith S)
judged_by telling kind tag length inband s =
    unless
    (rule (failed s.status) failed_status [] ∷ rule (not (eqb s.tag tag)) tag_mismatch [] ∷ [])
    (reply_by telling kind length s.residue inband)

-- of an operation whose command had this tag and transfer length: "At the finish: signature, status byte, FAILED, tag, then the reply."
unfoldable pub finishes_by : {S : Type 0} → Telling S → Kind → ℕ → ℕ → List ℕ → List ℕ → Told (ReplyWith S)
finishes_by telling kind tag length status inband = and_then (at_finish (read_status status)) (judged_by telling kind tag length inband)

-- "whole with its count, or short with moved and asked"
abbrev pub sector_reply : ℕ → ℕ → Told Reply
sector_reply length residue = sectors_by transfer_of length residue

abbrev pub reply_of : Kind → ℕ → ℕ → List ℕ → Told Reply
reply_of kind length residue inband = reply_by transfer_of kind length residue inband

abbrev pub judged : Kind → ℕ → ℕ → List ℕ → CommandStatus → Told Reply
judged kind tag length inband s = judged_by transfer_of kind tag length inband s

abbrev pub finishes : Kind → ℕ → ℕ → List ℕ → List ℕ → Told Reply
finishes kind tag length status inband = finishes_by transfer_of kind tag length status inband

-- the finish as it stood before short transfers were told: its answer to a sector operation is the Rust's `Transferred`
abbrev pub rust_finishes : Kind → ℕ → ℕ → List ℕ → List ℕ → Told (ReplyWith Transferred)
rust_finishes kind tag length status inband = finishes_by moved_of kind tag length status inband

-- "with the distinction forgotten": every other reply is as it was
unfoldable pub forgets_reply : Reply → ReplyWith Transferred
forgets_reply (chip_info x) = chip_info x
forgets_reply (flash_id x) = flash_id x
forgets_reply (flash_info x) = flash_info x
forgets_reply (capability x) = capability x
forgets_reply nothing = nothing
forgets_reply (storage index) = storage index
forgets_reply (moved transfer) = moved (forgets transfer)

unfoldable pub forgotten : Told Reply → Told (ReplyWith Transferred)
forgotten told = and_then told (λ reply. given (forgets_reply reply))
