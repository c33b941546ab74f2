-- Two small files read, and one that is refused.
use Prim.Native.Nat.{ℕ}
use mathlib.Core.Path.{◌≡◌, refl}
use mathlib.Core.List.{[], ◌∷◌}
use lib.ListN.{replicate}
use Rattle.promise.specs.Told.{given, refused, and_then}
use Rattle.promise.specs.Rules.{or_refuse}
use Rattle.promise.specs.Bytes.{from_low}
use Rattle.protocol_bytes.specs.Signature.{same}
use Rattle.loader_records.specs.declared.entry.RkBootEntry.{RkBootEntry}
use Rattle.loader_records.specs.Records.{time_of, list_of, units_from, entry_of, header_of, is_tag}
use Rattle.loader_walk.specs.Entries.{found, lookup, lookups, rest_of, all, entries_of}
use Rattle.loader_walk.proofs.Files.{apart, third, brim}

-- an entry of type 1, of no name, with this place and length
abbrev plain : ℕ → ℕ → RkBootEntry
plain place size =
    record { size = 57; type_ = 1; name = replicate 20 0; data_offset = place; data_size = size; data_delay = 0 }

-- two entries 58 bytes apart, in the first list
pub two_apart : entries_of apart ≡ given (found 0 0 (plain 0 1) ∷ found 0 1 (plain 0 0) ∷ [])
unfolding entries_of and_then or_refuse is_tag same header_of time_of list_of from_low rest_of lookups lookup entry_of units_from all
two_apart = refl

-- an entry that ends with the file, and data of no length at its end
pub to_the_brim : entries_of brim ≡ given (found 0 0 (plain 159 0) ∷ [])
unfolding entries_of and_then or_refuse is_tag same header_of time_of list_of from_low rest_of lookups lookup entry_of units_from all
to_the_brim = refl

-- two empty lists, of which nothing else is right, and a third with a size field of 56
pub third_refused : entries_of third ≡ refused 72 (2 ∷ 0 ∷ [])
unfolding entries_of and_then or_refuse is_tag same header_of time_of list_of from_low rest_of lookups lookup all
third_refused = refl
