-- Small loader files, for examples and wrong programs.
use Prim.Native.Nat.{ℕ}
use mathlib.Core.List.{List, [], ◌∷◌, ◌++◌}
use lib.ListN.{replicate}
use Rattle.loader_records.specs.Records.{boot}

-- a list's six bytes, with an offset below 256
abbrev pub list_bytes : ℕ → ℕ → ℕ → List ℕ
list_bytes count offset size = count ∷ offset ∷ 0 ∷ 0 ∷ 0 ∷ size ∷ []

-- an empty list, of which nothing else is right
abbrev pub empty : List ℕ
empty = list_bytes 0 255 0

-- a file of these three lists, and what stands behind its header
abbrev pub file_of : List ℕ → List ℕ → List ℕ → List ℕ → List ℕ
file_of list₁ list₂ list₃ body = boot ++ (replicate 21 0 ++ (list₁ ++ (list₂ ++ (list₃ ++ (replicate 59 0 ++ body)))))

-- an entry's 57 bytes, with its data's place and length
abbrev pub entry_bytes : List ℕ → List ℕ → List ℕ
entry_bytes place size = 57 ∷ 1 ∷ 0 ∷ 0 ∷ 0 ∷ (replicate 40 0 ++ (place ++ (size ++ (0 ∷ 0 ∷ 0 ∷ 0 ∷ []))))

abbrev pub small : ℕ → List ℕ
small n = n ∷ 0 ∷ 0 ∷ 0 ∷ []

-- an entry whose data is the file's first byte
abbrev pub good : List ℕ
good = entry_bytes (small 0) (small 1)

-- two entries 58 bytes apart, and the byte between them; the second has no data, and 57 bytes that start at the byte before it are an entry as well
abbrev pub apart : List ℕ
apart = file_of (list_bytes 2 102 58) empty empty (good ++ (9 ∷ entry_bytes (small 0) (small 0)))

-- a file of which the third list alone is not empty, and has a size field of 56
abbrev pub third : List ℕ
third = file_of empty empty (list_bytes 1 102 56) good

-- one entry that ends with the file, of size field 57, and data of no length at the file's end
abbrev pub brim : List ℕ
brim = file_of (list_bytes 1 102 57) empty empty (entry_bytes (small 159) (small 0))
