-- Examples P9 to P12 of the rules, computed.
use mathlib.Core.Path.{◌≡◌, refl}
use mathlib.Core.List.{[], ◌∷◌}
use Rattle.promise.specs.Told.{given, refused}
use Rattle.promise.specs.Bytes.{from_low}
use Rattle.protocol_codes.specs.Reading.{by_number, storage_of}
use Rattle.protocol_codes.specs.declared.StorageIndex.TheVariants.{Emmc, Unknown}
use Rattle.protocol_reply.specs.Media.{places_set, only_place, read_storage}

-- index 1 is named
pub p9 : read_storage (0x02 ∷ 0x00 ∷ 0x00 ∷ 0x00 ∷ []) ≡ given Emmc
unfolding read_storage only_place places_set from_low storage_of by_number
p9 = refl

pub p10 : read_storage (0x00 ∷ 0x00 ∷ 0x00 ∷ 0x80 ∷ []) ≡ given (Unknown 31)
unfolding read_storage only_place places_set from_low storage_of by_number
p10 = refl

pub p11 : read_storage (0x03 ∷ 0x00 ∷ 0x00 ∷ 0x00 ∷ []) ≡ refused 14 []
unfolding read_storage only_place places_set from_low
p11 = refl

pub p12 : read_storage (0x00 ∷ 0x00 ∷ 0x00 ∷ 0x00 ∷ []) ≡ refused 14 []
unfolding read_storage only_place places_set from_low
p12 = refl
