-- The line of a block: its text, and the array of 64 bytes that it stands in.
use Rattle.std.specs.Prelude.{ℕ, ◌-◌, ◌^◌, ◌<◌, ◌≡◌, List, [], ◌∷◌, ◌++◌, length, replicate}
use Rattle.promise.specs.Told.{Told, given, refused, number}
use Rattle.protocol_reply.specs.declared.size.Transferred.{Transferred}
use Rattle.operation_finish.specs.declared.SectorTransfer.{SectorTransfer}
use Rattle.operation_finish.specs.declared.SectorTransfer.TheVariants.{Whole, Short}
use Rattle.operation_finish.specs.Reply.{ReplyWith, chip_info, flash_id, flash_info, capability, nothing, storage, moved, Reply}
use Rattle.operation_finish.specs.Finish.{forgotten}
use Rattle.deck_line.specs.declared.Line.{Line}
use Rattle.deck_line.specs.Digits.{decimal, hex}

abbrev pub space : List ℕ
space = 32 ∷ []

abbrev pub dash : List ℕ
dash = 45 ∷ []

abbrev pub slash : List ℕ
slash = 47 ∷ []

abbrev pub line_feed : List ℕ
line_feed = 10 ∷ []

-- a way of printing what is told of sectors
abbrev pub Printing : Type 0 → Type 0
Printing S = S → List ℕ

-- "the value: lower-case hex for kinds 1-4, bytes moved for 7 and 8, else `-`"
unfoldable pub value_by : {S : Type 0} → Printing S → ReplyWith S → List ℕ
value_by sectorText (chip_info x) = hex x.0
value_by sectorText (flash_id x) = hex x.0
value_by sectorText (flash_info x) = hex x.0
value_by sectorText (capability x) = hex x.0
value_by sectorText nothing = dash
value_by sectorText (storage index) = dash
value_by sectorText (moved told) = sectorText told

-- "a refused block prints `-`"
unfoldable pub told_by : {S : Type 0} → Printing S → Told (ReplyWith S) → List ℕ
told_by sectorText (given reply) = value_by sectorText reply
told_by sectorText (refused n values) = dash

-- "Each block prints number, 0 or the refusal, and the value"
abbrev pub line_by : {S : Type 0} → Printing S → ℕ → Told (ReplyWith S) → List ℕ
line_by sectorText n told = decimal n ++ space ++ decimal (number told) ++ space ++ told_by sectorText told ++ line_feed

-- a count in decimal
abbrev pub count_text : Printing Transferred
count_text count = decimal count.0

-- bytes moved of a whole transfer; of a short one bytes moved, a slash and bytes asked: `7680/8192`
unfoldable pub transfer_text : Printing SectorTransfer
transfer_text (Whole count) = count_text count
transfer_text (Short s) = count_text s.moved ++ slash ++ count_text s.asked

-- with these a value, what is told of a block, and its line
abbrev pub value_text : Reply → List ℕ
value_text reply = value_by transfer_text reply

abbrev pub told_text : Told Reply → List ℕ
told_text told = told_by transfer_text told

unfoldable pub line_text : ℕ → Told Reply → List ℕ
line_text n told = line_by transfer_text n told

-- the line as it was before short transfers were told: that of the Rust's reply, which says bytes moved alone
unfoldable pub line_plain : ℕ → Told Reply → List ℕ
line_plain n told = line_by count_text n (forgotten told)

abbrev pub longest_line : ℕ
longest_line = 64

-- a text with zeros behind it
abbrev pub line : List ℕ → Line
line text = record { bytes = text ++ replicate (longest_line - length text) 0; used = length text }

-- counts, a value and a refusal's number, of the sizes that their types have
abbrev pub TransferSized : SectorTransfer → Type 0
TransferSized (Whole count) = count.0 < 2 ^ 32
TransferSized (Short s) = (s.moved.0 < 2 ^ 32) × (s.asked.0 < 2 ^ 32)

abbrev pub Sized : Reply → Type 0
Sized (chip_info x) = length x.0 ≡ 16
Sized (flash_id x) = length x.0 ≡ 5
Sized (flash_info x) = length x.0 ≡ 11
Sized (capability x) = length x.0 ≡ 8
Sized nothing = Unit {0}
Sized (storage index) = Unit {0}
Sized (moved transfer) = TransferSized transfer

abbrev pub ToldSized : Told Reply → Type 0
ToldSized (given reply) = Sized reply
ToldSized (refused n values) = n < 2 ^ 8
