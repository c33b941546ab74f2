-- A command that was read, as one number.
use Rattle.std.specs.Prelude.{ℕ, ◌+◌, ◌*◌, ◌^◌}
use Rattle.promise.specs.Told.{Told, given, refused}
use Rattle.protocol_codes.specs.Numbers.{code_number}
use Rattle.protocol.specs.declared.CommandBlock.{CommandBlock}

-- code, address and count beside each other, 8, 32 and 16 bits of it; a refusal stands above them
unfoldable pub command_number : Told CommandBlock → ℕ
command_number (given b) = code_number b.cd_code + b.cd_address * 2 ^ 8 + b.cd_length * 2 ^ 40
command_number (refused n vs) = n * 2 ^ 56
