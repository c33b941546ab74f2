-- What is told of a block: a reply, or the number of a refusal alone.
use Rattle.std.specs.Prelude.{ℕ, [], Result}
use Rattle.promise.specs.Told.{Told, given, refused}
use Rattle.protocol_bytes.specs.Signature.{no_signature}
use Rattle.operation_finish.specs.Reply.{Reply, nothing, reply_given, blank, beside_reply}
use Rattle.operation_finish.specs.declared.Beside.{Beside}
use Rattle.operation_finish.specs.declared.UsbReply.{UsbReply}
use Rattle.deck.specs.declared.verdict.RefusalNumber.{RefusalNumber}
use Rattle.std.specs.declared.result.Result.TheVariants.{Ok, Err}

-- "0 or the refusal, and the value": a refusal's own values are not told
unfoldable pub numbered : Told Reply → Told Reply
numbered (given reply) = given reply
numbered (refused number values) = refused number []

-- an upload has no value
unfoldable pub load_told : Told Unit → Told Reply
load_told (given done) = given nothing
load_told (refused number values) = refused number []

-- a refusal's number
abbrev pub refusal_number : RefusalNumber → ℕ
refusal_number refusal = refusal.0

-- an answer's value, or its refusal by the number that it has
abbrev pub by_number : {A E : Type 0} → (E → ℕ) → Result A E → Result A RefusalNumber
by_number number (Ok value) = Ok value
by_number number (Err error) = Err (record { 0 = number error })

-- number and value of every verdict, with what stands beside it
unfoldable pub verdict_told : Result UsbReply RefusalNumber → Beside → Told Reply
verdict_told (Ok reply) b = given (reply_given reply b)
verdict_told (Err refusal) b = refused refusal.0 []

-- a reply's bytes, and zeros everywhere else
unfoldable pub beside_dealt : Told Reply → Beside
beside_dealt (given reply) = beside_reply reply
beside_dealt (refused number values) = blank no_signature

-- what is kept of a run's bytes
unfoldable pub kept : Result UsbReply RefusalNumber → Beside → Beside
kept (Ok reply) b = b
kept (Err refusal) b = blank no_signature
