-- `USBS` alone, given for a status: what stands there, and what is read of it.
use Rattle.std.specs.Prelude.{ℕ, List, [], ◌∷◌, take}
use Rattle.promise.specs.Bytes.{front}
use Rattle.protocol_codes.specs.declared.Status.TheVariants.{SUCCESS}
use Rattle.protocol_bytes.specs.Signature.{usbs}
use Rattle.protocol.specs.CommandBytes.{command_bytes}
use Rattle.protocol.specs.declared.CommandBlock.{CommandBlock}
use Rattle.protocol_status.specs.declared.report.CommandStatus.{CommandStatus}
use Rattle.operation.specs.Rounds.{Turn}

-- what stands there once `USBS` is given
abbrev pub usbs_alone : CommandBlock → List ℕ
usbs_alone c = front usbs (take 13 (command_bytes c))

-- a success with the tag of the command and its whole length left
abbrev pub nothing_moved : CommandBlock → CommandStatus
nothing_moved c = record { tag = c.tag; residue = c.transfer_length; status = SUCCESS }

-- a turn in which nothing is given, and one in which `USBS` alone is
abbrev pub silent : ℕ → ℕ → Turn
silent lent room = record { lent = lent; room = room; gifts = [] }

abbrev pub given_usbs : ℕ → ℕ → Turn
given_usbs lent room = record { lent = lent; room = room; gifts = record { bytes = usbs; lent = lent } ∷ [] }
