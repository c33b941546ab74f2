-- One transfer put into the output, or the refusal of an output that is too short for any.
use Rattle.std.specs.Prelude.{ℕ, List, [], ◌∷◌, length}
use Rattle.promise.specs.Told.{Told, given, refused}
use Rattle.promise.specs.Rules.{unless, room_rule, too_short}
use Rattle.maskrom_transfer.specs.declared.MaskRomSteps.{MaskRomSteps}
use Rattle.maskrom_transfer.specs.declared.Moved.{Moved}
use Rattle.maskrom_transfer.specs.Moves.{block_size, Moves, moves_at}
use Rattle.promise.specs.Does.{Does, does}
use Rattle.std.specs.Prelude.{Result}
use Rattle.rule_number.specs.declared.OutputTooShort.{OutputTooShort}
use Rattle.std.specs.declared.result.Result.TheVariants.{Ok, Err}

unfoldable pub sent_told : Result Moved OutputTooShort → Told Moved
sent_told (Ok m) = given m
sent_told (Err e) = refused too_short []

-- what is told of a step: how many bytes it put into the output, the register, and where the upload then stands
abbrev pub moved : Moves → Moved
moved to = record { size = length to.bytes; crc = to.crc; steps = to.steps }

unfoldable pub send_step : MaskRomSteps → ℕ → List ℕ → ℕ → Told (Does Moved Unit)
send_step steps crc w room =
    let to = moves_at steps crc w in
    unless (room_rule room block_size ∷ []) (given (does (moved to) to.bytes tt))
