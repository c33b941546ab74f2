-- Two answers that a contract allows are equal: each is read off what it tells.
use mathlib.Core.Path.{◌≡◌, refl, ap, sym, ◌∙◌}
use lib.Dec.{eqb}
use Rattle.promise.specs.Told.{Told, given, refused, number}
use Rattle.promise.specs.Rules.{pick}
use Rattle.protocol_codes.specs.declared.StorageIndex.{StorageIndex}
use Rattle.protocol_reply.specs.declared.size.SectorCount.{SectorCount}
use Rattle.rule_number.specs.Number.{number_of}
use Rattle.protocol_reply.specs.Media.{not_one_bit_number, storage_told}
use Rattle.protocol_reply.specs.Sectors.{sector_error_number, sector_told}
use Rattle.std.specs.Prelude.{Result}
use Rattle.protocol_reply.specs.declared.media.NotOneBit.{NotOneBit}
use Rattle.std.specs.declared.result.Result.TheVariants.{Ok, Err}
use Rattle.protocol_reply.specs.declared.size.SectorError.{SectorError}
use Rattle.protocol_reply.specs.declared.size.SectorError.TheVariants as sector_error

abbrev storage_of : Told StorageIndex → Result StorageIndex NotOneBit
storage_of (given index) = Ok index
storage_of (refused n values) = Err (record {})

storage_of_lem : (a : Result StorageIndex NotOneBit) → storage_of (storage_told a) ≡ a
unfolding storage_told
storage_of_lem (Ok index) = refl
storage_of_lem (Err e) = refl

pub storage_unique : (told : Told StorageIndex) (r s : Result StorageIndex NotOneBit) → storage_told r ≡ told → storage_told s ≡ told → r ≡ s
storage_unique told r s p q = sym (storage_of_lem r) ∙ ap storage_of (p ∙ sym q) ∙ storage_of_lem s

abbrev sectors_of : Told SectorCount → Result SectorCount SectorError
sectors_of (given count) = Ok count
sectors_of (refused n values) = pick (eqb n 23) (Err sector_error.NotSectors) (Err sector_error.TooMany)

sectors_of_lem : (a : Result SectorCount SectorError) → sectors_of (sector_told a) ≡ a
unfolding sector_told
sectors_of_lem (Ok count) = refl
sectors_of_lem (Err sector_error.NotSectors) = refl
sectors_of_lem (Err sector_error.TooMany) = refl

pub sectors_unique : (told : Told SectorCount) (r s : Result SectorCount SectorError) → sector_told r ≡ told → sector_told s ≡ told → r ≡ s
sectors_unique told r s p q = sym (sectors_of_lem r) ∙ ap sectors_of (p ∙ sym q) ∙ sectors_of_lem s

-- the number of an answer is the number of what it tells
pub storage_answer_number : (r : Result StorageIndex NotOneBit) → number (storage_told r) ≡ number_of not_one_bit_number r
unfolding number storage_told
storage_answer_number (Ok index) = refl
storage_answer_number (Err e) = refl

pub sector_answer_number : (r : Result SectorCount SectorError) → number (sector_told r) ≡ number_of sector_error_number r
unfolding number sector_told
sector_answer_number (Ok count) = refl
sector_answer_number (Err sector_error.NotSectors) = refl
sector_answer_number (Err sector_error.TooMany) = refl
