-- Which flash the stand-in takes, and which ranges of it.
use Rattle.std.specs.Prelude.{ℕ, ◌+◌, ◌/◌, ◌%◌, Bool, not, List, [], ◌∷◌, eqb, leb, ltb}
use Rattle.promise.specs.Told.{Told, given, refused, and_then}
use Rattle.promise.specs.Rules.{Rule, rule, unless}
use Rattle.protocol_bytes.specs.Sector.{sector_size}
use Rattle.mock_base.specs.Told.{error_told}
use Rattle.protocol_bytes.specs.Signature.{no_signature}
use Rattle.mock_base.specs.declared.range.FlashRange.{FlashRange}
use Rattle.std.specs.Prelude.{Result}
use Rattle.mock_base.specs.declared.error.MockTransportError.{MockTransportError}
use Rattle.std.specs.declared.result.Result.TheVariants.{Ok, Err}
use Rattle.mock_base.specs.declared.range.OutOfRange.{OutOfRange}

-- whole sectors, at most 65,536
abbrev pub most_flash_sectors : ℕ
most_flash_sectors = 65536

-- 60: FlashSize (length); 61: over 65,536 sectors; this order
unfoldable pub flash_rules : ℕ → List Rule
flash_rules n = rule (not (eqb (n % sector_size) 0)) 60 (n ∷ []) ∷ rule (ltb most_flash_sectors (n / sector_size)) 61 [] ∷ []

unfoldable pub flash_sectors : ℕ → Told ℕ
flash_sectors n = unless (flash_rules n) (given (n / sector_size))

unfoldable pub size_told : Result ℕ MockTransportError → Told ℕ
size_told (Ok sectors) = given sectors
size_told (Err error) = error_told error no_signature

-- the same where nothing is made of the sectors: a call that is done, or 60 or 61
unfoldable pub size_done : Result ℕ MockTransportError → Told Unit
size_done size = and_then (size_told size) (λ sectors. given tt)

-- a range fits exactly if address plus count is at most the flash's sectors
unfoldable pub fits_in : ℕ → ℕ → ℕ → Bool
fits_in sectors first count = leb (first + count) sectors

-- 57: OutOfRange
abbrev pub fit_rule : ℕ → ℕ → ℕ → Rule
fit_rule sectors first count = rule (not (fits_in sectors first count)) 57 []

unfoldable pub range_in : ℕ → ℕ → ℕ → Told FlashRange
range_in sectors first count = unless (fit_rule sectors first count ∷ []) (given (record { first = first; count = count }))

abbrev pub out_of_range_number : OutOfRange → ℕ
out_of_range_number out = 57

unfoldable pub range_told : Result FlashRange OutOfRange → Told FlashRange
range_told (Ok range) = given range
range_told (Err out) = refused 57 []
