-- What a creation tells, by what the length of its flash does.
use Prim.Native.Nat.{ℕ}
use mathlib.Core.Path.{◌≡◌, refl}
use Rattle.promise.specs.Told.{given, and_then}
use Rattle.promise.specs.Rules.{unless}
use Rattle.mock_base.specs.Flash.{flash_sectors, size_told, size_done}
use Rattle.mock_base.specs.declared.cells.Variety.{Variety}
use Rattle.mock_base.specs.declared.error.MockTransportError.{MockTransportError}
use Rattle.mock.specs.Device.{block_rules, create_told}
use Rattle.std.specs.Prelude.{Result}
use Rattle.std.specs.declared.result.Result.TheVariants.{Ok, Err}

module _ (v : Variety) (block n : ℕ) (size : Result ℕ MockTransportError) (told : size_told size ≡ flash_sectors n) where
  pub told_short : (error : MockTransportError) → size ≡ Err error → create_told v block n ≡ size_done size
  unfolding create_told size_done size_told and_then
  told_short error e = rw (← told, e) refl

  pub told_whole : (sectors : ℕ) → size ≡ Ok sectors → create_told v block n ≡ unless (block_rules v block) (given tt)
  unfolding create_told size_told and_then
  told_whole sectors e = rw (← told, e) refl
