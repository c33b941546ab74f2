-- Sector data: when a length is whole sectors, and how many.
use Rattle.std.specs.Prelude.{ℕ, ◌/◌, ◌%◌, not, [], ◌∷◌, eqb, ltb}
use Rattle.promise.specs.Told.{Told, given, refused}
use Rattle.promise.specs.Rules.{rule, unless}
use Rattle.protocol_bytes.specs.Sector.{sector_size}
use Rattle.protocol_reply.specs.declared.size.SectorCount.{SectorCount}
use Rattle.std.specs.Prelude.{Result}
use Rattle.protocol_reply.specs.declared.size.SectorError.{SectorError}
use Rattle.std.specs.declared.result.Result.TheVariants.{Ok, Err}
use Rattle.protocol_reply.specs.declared.size.SectorError.TheVariants.{NotSectors, TooMany}

-- as many sectors as one command can name
abbrev pub most_sectors : ℕ
most_sectors = 65535

-- a length not a multiple of 512 is 23; above 65,535 sectors is 24
unfoldable pub sectors_in : ℕ → Told SectorCount
sectors_in length =
    unless (rule (not (eqb (length % sector_size) 0)) 23 [] ∷ rule (ltb most_sectors (length / sector_size)) 24 [] ∷ [])
    (given (record { 0 = length / sector_size }))

abbrev pub sector_error_number : SectorError → ℕ
sector_error_number NotSectors = 23
sector_error_number TooMany = 24

unfoldable pub sector_told : Result SectorCount SectorError → Told SectorCount
sector_told (Ok count) = given count
sector_told (Err NotSectors) = refused 23 []
sector_told (Err TooMany) = refused 24 []
