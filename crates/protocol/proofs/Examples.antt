-- Example P1 of the rules, computed.
use mathlib.Core.Path.{◌≡◌, refl}
use mathlib.Core.List.{◌∷◌}
use lib.ListN.{replicate}
use Rattle.promise.specs.Told.{given}
use Rattle.promise.specs.Rules.{or_refuse}
use Rattle.promise.specs.Bytes.{low_first, high_first, front}
use Rattle.protocol_bytes.specs.Writing.{Writing, writing}
use Rattle.protocol.specs.Commands.{read_lba_command}
use Rattle.protocol.specs.CommandBytes.{command_bytes, write_command}

-- read_lba sector 64, 2 sectors, tag 0x01020304
abbrev command : Writing
command = write_command (read_lba_command 0x01020304 64 2) 31

-- P1 into zeros
pub p1 : front command.sent (replicate 31 0)
    ≡ 0x55 ∷ 0x53 ∷ 0x42 ∷ 0x43 ∷ 0x01 ∷ 0x02 ∷ 0x03 ∷ 0x04 ∷ 0x00 ∷ 0x04 ∷ 0x00 ∷ 0x00 ∷ 0x80 ∷ 0x00 ∷ 0x0A ∷ 0x14 ∷ 0x00
    ∷ 0x00 ∷ 0x00 ∷ 0x00 ∷ 0x40 ∷ 0x00 ∷ 0x00 ∷ 0x02 ∷ replicate 7 0
unfolding write_command writing command_bytes low_first high_first
p1 = refl

pub p1_told : command.told ≡ given 31
unfolding write_command writing or_refuse
p1_told = refl
