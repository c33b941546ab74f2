-- Storage: 4 bytes, little-endian, exactly one bit set; the bit's place is the index.
use Rattle.std.specs.Prelude.{ℕ, zero, suc, ◌/◌, ◌%◌, List, [], ◌∷◌, ◌++◌, eqb}
use Rattle.promise.specs.Told.{Told, given, refused}
use Rattle.promise.specs.Rules.{pick}
use Rattle.promise.specs.Bytes.{from_low}
use Rattle.protocol_codes.specs.Reading.{storage_of}
use Rattle.protocol_codes.specs.declared.StorageIndex.{StorageIndex}
use Rattle.std.specs.Prelude.{Result}
use Rattle.protocol_reply.specs.declared.media.NotOneBit.{NotOneBit}
use Rattle.std.specs.declared.result.Result.TheVariants.{Ok, Err}

-- 14: the reply can't be parsed
abbrev pub reply_parse_failure : ℕ
reply_parse_failure = 14

-- the places of the bits that are set among the k lowest of v, whose lowest bit has place p
unfoldable pub places_set : ℕ → ℕ → ℕ → List ℕ
places_set zero p v = []
places_set (suc k) p v = pick (eqb (v % 2) 1) (p ∷ []) [] ++ places_set k (suc p) (v / 2)

-- the only place there is names the index
unfoldable pub only_place : List ℕ → Told StorageIndex
only_place [] = refused reply_parse_failure []
only_place (p ∷ []) = given (storage_of p)
only_place (p ∷ q ∷ more) = refused reply_parse_failure []

unfoldable pub read_storage : List ℕ → Told StorageIndex
read_storage reply = only_place (places_set 32 0 (from_low reply))

abbrev pub not_one_bit_number : NotOneBit → ℕ
not_one_bit_number refusal = reply_parse_failure

unfoldable pub storage_told : Result StorageIndex NotOneBit → Told StorageIndex
storage_told (Ok index) = given index
storage_told (Err e) = refused reply_parse_failure []
