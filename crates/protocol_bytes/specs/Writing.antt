-- Writing a block into a lent buffer.
use Rattle.std.specs.Prelude.{ℕ, ◌≡◌, List, [], ◌∷◌, ltb}
use Rattle.promise.specs.Told.{Told, given, refused}
use Rattle.promise.specs.Rules.{pick, unless, room_rule, too_short}
use Rattle.promise.specs.Bytes.{front}
use Rattle.std.specs.Prelude.{Result}
use Rattle.rule_number.specs.declared.OutputTooShort.{OutputTooShort}
use Rattle.std.specs.declared.result.Result.TheVariants.{Ok, Err}

-- what is told, and the bytes put at the buffer's front
pub record Writing : Type 0 where
  pub told : Told ℕ
  pub sent : List ℕ

-- a block of `whole` bytes, of which `block` is written, into a buffer of `room` bytes
unfoldable pub writing : ℕ → List ℕ → ℕ → Writing
writing whole block room =
    record { told = unless (room_rule room whole ∷ []) (given whole); sent = pick (ltb room whole) [] block }

unfoldable pub written_told : Result ℕ OutputTooShort → Told ℕ
written_told (Ok n) = given n
written_told (Err e) = refused too_short []

-- a writer that answers r and leaves its buffer `after`, where it was `before`
pub record WriteMeets (r : Result ℕ OutputTooShort) (before after : List ℕ) (w : Writing) : Type 0 where
  pub tells : written_told r ≡ w.told
  pub leaves : after ≡ front w.sent before
