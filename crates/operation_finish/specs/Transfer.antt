-- What is told of the sectors of an operation. All counts are of bytes.
use Rattle.std.specs.Prelude.{ℕ, ◌-◌, List, [], ◌∷◌, eqb, ltb}
use Rattle.promise.specs.Told.{Told, given}
use Rattle.promise.specs.Rules.{pick, Rule, rule, unless}
use Rattle.protocol_reply.specs.Media.{reply_parse_failure}
use Rattle.protocol_reply.specs.declared.size.Transferred.{Transferred}
use Rattle.operation_finish.specs.declared.SectorTransfer.{SectorTransfer}
use Rattle.operation_finish.specs.declared.SectorTransfer.TheVariants.{Whole, Short}

abbrev pub bytes : ℕ → Transferred
bytes n = record { 0 = n }

-- "whole with its count"
abbrev pub whole : ℕ → SectorTransfer
whole count = Whole (bytes count)

-- "short with moved and asked"
abbrev pub short : ℕ → ℕ → SectorTransfer
short moved asked = Short (record { moved = bytes moved; asked = bytes asked })

-- (moved) of a whole transfer, (moved, asked) of a short one
unfoldable pub transfer_values : SectorTransfer → List ℕ
transfer_values (Whole count) = count.0 ∷ []
transfer_values (Short s) = s.moved.0 ∷ s.asked.0 ∷ []

-- "residue above the transfer length is 14"
abbrev pub residue_rule : ℕ → ℕ → Rule
residue_rule length residue = rule (ltb length residue) reply_parse_failure []

-- .. else it is whole if nothing is left over, and short if something is
unfoldable pub transfer_of : ℕ → ℕ → Told SectorTransfer
transfer_of length residue =
    unless (residue_rule length residue ∷ []) (given (pick (eqb residue 0) (whole length) (short (length - residue) length)))

-- the Rust's answer: "residue above the transfer length is 14, else the answer is length less residue"
unfoldable pub moved_of : ℕ → ℕ → Told Transferred
moved_of length residue = unless (residue_rule length residue ∷ []) (given (bytes (length - residue)))

-- "with the distinction forgotten, equal to the Rust's `Transferred`"
unfoldable pub forgets : SectorTransfer → Transferred
forgets (Whole count) = count
forgets (Short s) = s.moved
