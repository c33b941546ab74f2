-- Reading a command, by cases of the rule.
use Prim.Native.Nat.{ℕ, ◌<◌, ◌≤◌}
use mathlib.Core.Path.{◌≡◌, refl}
use mathlib.Core.Bool.{true, false}
use mathlib.Core.List.{List, [], ◌∷◌}
use borrow.Author.Tests.{lt-ltb, le-ltb}
use lib.ListN.{length, get_or, take}
use Rattle.promise.specs.Told.{Told, given, refused, and_then}
use Rattle.promise.specs.Rules.{or_refuse}
use Rattle.protocol_codes.specs.Numbers.{direction_number, directions, code_number, command_codes}
use Rattle.protocol_codes.specs.Reading.{direction_of, code_of}
use Rattle.protocol_codes.specs.declared.Direction.{Direction}
use Rattle.protocol_codes.specs.declared.CommandCode.{CommandCode}
use Rattle.protocol_codes.proofs.Reading.{known_refused}
use Rattle.protocol_bytes.specs.Signature.{usbc, same, signature_in}
use Rattle.protocol.specs.declared.CommandBlock.{CommandBlock}
use Rattle.protocol_bytes.specs.declared.signature.Parse.{Parse}
use Rattle.protocol.specs.declared.CommandBlockParseError.{CommandBlockParseError}
use Rattle.protocol.specs.declared.CommandBlockParseError.TheVariants.{InvalidSignature, UnknownCommandCode, UnknownFlags, InvalidLength}
use Rattle.protocol.specs.CommandBytes.{block_of, read_command}
use Rattle.protocol.specs.CommandMeets.{command_error_number, command_error_values, command_told, CommandMeets}
use Rattle.protocol_bytes.specs.Signature.{parsed}
use Rattle.std.specs.declared.result.Result.TheVariants.{Ok, Err}

-- the block, once its length and signature are right
unfoldable pub read_fields : List ℕ → Told CommandBlock
read_fields bytes =
    and_then (direction_of (get_or bytes 12 0)) (λ direction.
    and_then (code_of (get_or bytes 15 0)) (λ code. given (block_of bytes direction code)))

module _ (bytes : List ℕ) where
  pub read_short : length bytes < 31 → read_command bytes ≡ refused 1 (length bytes ∷ [])
  unfolding read_command or_refuse
  read_short few = rw (lt-ltb (length bytes) 31 few) refl

  pub read_unsigned : 31 ≤ length bytes → same (take 4 bytes) usbc ≡ false → read_command bytes ≡ refused 2 (take 4 bytes)
  unfolding read_command or_refuse
  read_unsigned enough other = rw (le-ltb (length bytes) 31 enough, other) refl

  pub read_signed : 31 ≤ length bytes → same (take 4 bytes) usbc ≡ true → read_command bytes ≡ read_fields bytes
  unfolding read_command or_refuse read_fields
  read_signed enough own = rw (le-ltb (length bytes) 31 enough, own) refl

  module _ (r : Parse CommandBlock CommandBlockParseError) where
    pub meets_short : length bytes < 31 → r ≡ parsed (Err (InvalidLength (length bytes))) → CommandMeets r (read_command bytes)
    unfolding command_told command_error_number command_error_values signature_in
    meets_short few e = rw (read_short few, e) (record { tells = refl; signature = refl })

    pub meets_unsigned : 31 ≤ length bytes → same (take 4 bytes) usbc ≡ false → r.answer ≡ Err InvalidSignature → r.signature ≡ take 4 bytes
        → CommandMeets r (read_command bytes)
    unfolding command_told command_error_number command_error_values signature_in
    meets_unsigned enough other a s = rw (read_unsigned enough other) (record { tells = rw (a, s) refl; signature = s })

    module _ (enough : 31 ≤ length bytes) (own : same (take 4 bytes) usbc ≡ true) where
      pub meets_flags : (m : ℕ) (vs : List ℕ) → direction_of (get_or bytes 12 0) ≡ refused m vs
          → r ≡ parsed (Err (UnknownFlags (get_or bytes 12 0))) → CommandMeets r (read_command bytes)
      unfolding command_told command_error_number command_error_values signature_in read_fields and_then direction_of
      meets_flags m vs unknown e =
          rw (read_signed enough own, known_refused 3 direction_number directions (get_or bytes 12 0) m vs unknown, e) (record { tells = refl; signature = refl })

      pub meets_code : (direction : Direction) (m : ℕ) (vs : List ℕ) → direction_of (get_or bytes 12 0) ≡ given direction
          → code_of (get_or bytes 15 0) ≡ refused m vs → r ≡ parsed (Err (UnknownCommandCode (get_or bytes 15 0))) → CommandMeets r (read_command bytes)
      unfolding command_told command_error_number command_error_values signature_in read_fields and_then code_of
      meets_code direction m vs flags unknown e =
          rw (read_signed enough own, flags, known_refused 4 code_number command_codes (get_or bytes 15 0) m vs unknown, e) (record { tells = refl; signature = refl })

      pub meets_block : (direction : Direction) (code : CommandCode) → direction_of (get_or bytes 12 0) ≡ given direction
          → code_of (get_or bytes 15 0) ≡ given code → r ≡ parsed (Ok (block_of bytes direction code)) → CommandMeets r (read_command bytes)
      unfolding command_told signature_in read_fields and_then
      meets_block direction code flags coded e = rw (read_signed enough own, flags, coded, e) (record { tells = refl; signature = refl })
