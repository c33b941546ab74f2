-- The entries of a loader file, or the first refusal.
use Rattle.std.specs.Prelude.{ℕ, zero, suc, ◌+◌, ◌*◌, ◌-◌, List, [], ◌∷◌, ◌++◌, eqb, ltb, length}
use Rattle.promise.specs.Told.{Told, given, and_then}
use Rattle.promise.specs.Rules.{rule, unless, pick}
use Rattle.promise.specs.Bytes.{field}
use Rattle.loader_records.specs.declared.list.RkBootHeaderEntry.{RkBootHeaderEntry}
use Rattle.loader_records.specs.declared.entry.RkBootEntry.{RkBootEntry}
use Rattle.loader_records.specs.declared.header.RkBootHeader.{RkBootHeader}
use Rattle.loader_records.specs.Records.{entry_length, entry_of, no_list, read_header}
use Rattle.loader_walk.specs.declared.walk.EntryPlace.{EntryPlace}

-- an entry that is in a file: its list, its number there and its data's place and length; and what it says
pub record Found : Type 0 where
  pub at : EntryPlace
  pub says : RkBootEntry

-- "an entry's data is named by its place and length"
abbrev pub found : ℕ → ℕ → RkBootEntry → Found
found list i e = record { at = record { list = list; entry = i; place = e.data_offset; length = e.data_size }; says = e }

-- the list of this number: 0 is 471, 1 is 472, 2 is loader; behind them there is an empty one
unfoldable pub list_at : RkBootHeader → ℕ → RkBootHeaderEntry
list_at h list =
    pick (eqb list 0) h.entry_471
    (pick (eqb list 1) h.entry_472 (pick (eqb list 2) h.entry_loader no_list))

-- "Entry i of a list starts at its offset plus i times its size field"
abbrev pub start_of : RkBootHeaderEntry → ℕ → ℕ
start_of l i = l.offset + i * l.size

abbrev pub entry_at : List ℕ → RkBootHeaderEntry → ℕ → RkBootEntry
entry_at file l i = entry_of (field (start_of l i) entry_length file)

-- entry i of a list: "72 a list's size field below 57, 73 an entry whose first 57 bytes pass the file's end, 74 data whose place plus length does, in
-- this order"; each with the list and the entry. 72 is a rule of every entry of such a list: of a file it is told with entry 0, "as a nonempty list
-- begins" (`first_of_its_list`, proofs/Begins)
unfoldable pub lookup : List ℕ → ℕ → RkBootHeaderEntry → ℕ → Told Found
lookup file list l i =
    unless
    (rule (ltb l.size entry_length) 72 (list ∷ i ∷ [])
    ∷ rule (ltb (length file) (start_of l i + entry_length)) 73 (list ∷ i ∷ [])
    ∷ rule (ltb (length file) ((entry_at file l i).data_offset + (entry_at file l i).data_size)) 74 (list ∷ i ∷ [])
    ∷ [])
    (given (found list i (entry_at file l i)))

-- n entries of a list, from entry i on
unfoldable pub lookups : List ℕ → ℕ → RkBootHeaderEntry → ℕ → ℕ → List (Told Found)
lookups file list l i zero = []
lookups file list l i (suc n) = lookup file list l i ∷ lookups file list l (suc i) n

-- those of a list from entry i on: "A list with count 0 is empty and nothing else of it is looked at"
abbrev pub list_from : List ℕ → ℕ → RkBootHeaderEntry → ℕ → List (Told Found)
list_from file list l i = lookups file list l i (l.count - i)

-- "list by list", "entry by entry": all that is from an entry of a list on. List 0 is 471, 1 is 472, 2 is loader; behind them there is none
unfoldable pub rest_of : List ℕ → RkBootHeader → ℕ → ℕ → List (Told Found)
rest_of file h zero i = list_from file 0 h.entry_471 i ++ (list_from file 1 h.entry_472 0 ++ list_from file 2 h.entry_loader 0)
rest_of file h (suc zero) i = list_from file 1 h.entry_472 i ++ list_from file 2 h.entry_loader 0
rest_of file h (suc (suc zero)) i = list_from file 2 h.entry_loader i
rest_of file h (suc (suc (suc list))) i = []

-- all of them, or the first that is refused
unfoldable pub all : {A : Type 0} → List (Told A) → Told (List A)
all [] = given []
all (t ∷ ts) = and_then t (λ a. and_then (all ts) (λ rest. given (a ∷ rest)))

-- the list of all entries of a file, or the first refusal: the header's 70 and 71, and then 72, 73 and 74
unfoldable pub entries_of : List ℕ → Told (List Found)
entries_of file = and_then (read_header file) (λ h. all (rest_of file h 0 0))

-- n bytes of a file from a place on: an entry's data; none where the file does not have all of them
unfoldable pub data_of : List ℕ → ℕ → ℕ → List ℕ
data_of file place n = pick (ltb (length file) (place + n)) [] (field place n file)
