-- A line says more than it did for a short transfer alone: every other is as it was.
use Prim.Native.Nat.{ℕ}
use mathlib.Core.Path.{◌≡◌, refl, ap}
use mathlib.Core.List.{List, ◌++◌}
use lib.ListN.{length, length-append}
use native.Mathlib.Omega.{arith}
use Rattle.promise.specs.Told.{Told, given, refused, number, and_then}
use Rattle.protocol_codes.specs.declared.StorageIndex.{StorageIndex}
use Rattle.protocol_reply.specs.declared.info.ChipInfo.{ChipInfo}
use Rattle.protocol_reply.specs.declared.info.FlashId.{FlashId}
use Rattle.protocol_reply.specs.declared.info.FlashInfo.{FlashInfo}
use Rattle.protocol_reply.specs.declared.flags.Capability.{Capability}
use Rattle.operation_finish.specs.declared.ShortTransfer.{ShortTransfer}
use Rattle.operation_finish.specs.declared.SectorTransfer.{SectorTransfer}
use Rattle.operation_finish.specs.declared.SectorTransfer.TheVariants.{Whole, Short}
use Rattle.operation_finish.specs.Transfer.{forgets}
use Rattle.operation_finish.specs.Reply.{Reply, chip_info, flash_id, flash_info, capability, nothing, storage, moved, NotShort}
use Rattle.operation_finish.specs.Finish.{forgets_reply, forgotten}
use Rattle.deck_line.specs.Digits.{decimal, hex}
use Rattle.deck_line.specs.Line.{space, dash, slash, line_feed, value_by, told_by, count_text, transfer_text, value_text, line_text, line_plain}

plain_transfer : (transfer : SectorTransfer) → NotShort (given (moved transfer)) → transfer_text transfer ≡ count_text (forgets transfer)
unfolding transfer_text forgets
plain_transfer (Whole count) h = refl
plain_transfer (Short s) h = absurd (h s refl)

plain_value : (reply : Reply) → NotShort (given reply) → value_text reply ≡ value_by count_text (forgets_reply reply)
unfolding value_by forgets_reply
plain_value (chip_info x) h = refl
plain_value (flash_id x) h = refl
plain_value (flash_info x) h = refl
plain_value (capability x) h = refl
plain_value nothing h = refl
plain_value (storage index) h = refl
plain_value (moved transfer) h = plain_transfer transfer h

-- "its lines stay as they are"
pub plain_line : (n : ℕ) (told : Told Reply) → NotShort told → line_text n told ≡ line_plain n told
unfolding line_text line_plain told_by forgotten and_then number
plain_line n (given reply) h = rw (plain_value reply h) refl
plain_line n (refused k values) h = refl

-- the line as it was, row by row
abbrev row : ℕ → ℕ → List ℕ → List ℕ
row n k value = decimal n ++ space ++ decimal k ++ space ++ value ++ line_feed

pub plain_rows : (n : ℕ)
    → ((x : ChipInfo) → line_plain n (given (chip_info x)) ≡ row n 0 (hex x.0))
    × ((x : FlashId) → line_plain n (given (flash_id x)) ≡ row n 0 (hex x.0))
    × ((x : FlashInfo) → line_plain n (given (flash_info x)) ≡ row n 0 (hex x.0))
    × ((x : Capability) → line_plain n (given (capability x)) ≡ row n 0 (hex x.0))
    × (line_plain n (given nothing) ≡ row n 0 dash)
    × ((index : StorageIndex) → line_plain n (given (storage index)) ≡ row n 0 dash)
    × ((transfer : SectorTransfer) → line_plain n (given (moved transfer)) ≡ row n 0 (decimal (forgets transfer).0))
    × ((k : ℕ) (values : List ℕ) → line_plain n (refused k values) ≡ row n k dash)
unfolding line_plain told_by value_by forgotten forgets_reply and_then number
plain_rows n = (λ x. refl, λ x. refl, λ x. refl, λ x. refl, refl, λ index. refl, λ transfer. refl, λ k values. refl)

-- that of a short transfer does not
pub short_says_more : (n : ℕ) (s : ShortTransfer) → line_text n (given (moved (Short s))) ≡ line_plain n (given (moved (Short s))) → ⊥
unfolding line_text line_plain told_by value_by transfer_text forgets forgets_reply forgotten and_then number
short_says_more n s e =
    let before = decimal n ++ space ++ decimal 0 ++ space in
    let few = count_text s.moved in
    let all = count_text s.asked in
    let same : length (before ++ (few ++ slash ++ all) ++ line_feed) ≡ length (before ++ few ++ line_feed) = ap length e in
    omega (
      arith,
      same,
      length-append (before ++ (few ++ slash ++ all)) line_feed,
      length-append before (few ++ slash ++ all),
      length-append (few ++ slash) all,
      length-append few slash,
      length-append (before ++ few) line_feed,
      length-append before few,
    )
