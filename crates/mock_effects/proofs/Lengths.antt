-- What the length of a lent flash tells: 60 and 61, which keep everything, or a number of sectors.
use Prim.Native.Nat.{ℕ, ◌/◌, ◌≤◌}
use mathlib.Core.Path.{◌≡◌, refl, ap, sym, ◌∙◌}
use mathlib.Core.List.{List}
use native.Mathlib.Omega.{arith}
use Rattle.promise.specs.Told.{given, refused, and_then}
use Rattle.protocol_bytes.specs.Sector.{sector_size}
use Rattle.protocol_bytes.specs.Signature.{no_signature}
use Rattle.mock_base.specs.Told.{error_number, error_values, error_told, Answers}
use Rattle.mock_base.specs.Flash.{most_flash_sectors, flash_sectors, size_told, size_done}
use Rattle.mock_base.specs.declared.error.MockAnswer.{MockAnswer}
use Rattle.mock_base.specs.declared.error.MockTransportError.{MockTransportError}
use Rattle.mock_base.proofs.Fitting.{whole_sectors}
use Rattle.mock_table.specs.declared.session.Session.{Session}
use Rattle.mock_effects.specs.Steps.{Step, keeps, StepMeets}
use Rattle.std.specs.Prelude.{Result}
use Rattle.std.specs.declared.result.Result.TheVariants.{Ok, Err}

-- a flash that is taken has so many sectors
pub taken : (n sectors : ℕ) → flash_sectors n ≡ given sectors → (n / sector_size ≡ sectors) × (sectors ≤ most_flash_sectors)
taken n sectors e = let h = whole_sectors n sectors e in (omega arith, h.1)

module _ (size : Result ℕ MockTransportError) (n : ℕ) (told : size_told size ≡ flash_sectors n) where
  pub whole : (sectors : ℕ) → size ≡ Ok sectors → flash_sectors n ≡ given sectors
  unfolding size_told
  whole sectors e = sym told ∙ ap size_told e

  short : (error : MockTransportError) → size ≡ Err error → flash_sectors n ≡ error_told error no_signature
  unfolding size_told
  short error e = sym told ∙ ap size_told e

  -- one that is refused keeps everything
  pub kept : (s : Session) (lent : List ℕ) (error : MockTransportError) → size ≡ Err error → (answer : MockAnswer) → Answers answer (size_done size)
      → {t : Step} → ((number : ℕ) (values : List ℕ) → flash_sectors n ≡ refused number values → t ≡ keeps s lent number values)
      → StepMeets (record { answer = answer; session = s }) lent t
  unfolding size_done size_told and_then
  kept s lent error e answer tells g =
      rw (g (error_number error) (error_values error no_signature) (short error e)) (record { tells = rw e at tells; next = refl; leaves = refl })
