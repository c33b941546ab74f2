-- A line made byte by byte is the line of its text, as long as that fits; and the text of every verdict's line does.
use Prim.Native.Nat.{ℕ, suc, ◌+◌, ◌-◌, ◌/◌, ◌%◌, ◌^◌, ◌≤◌, ◌<◌}
use mathlib.Core.Path.{◌≡◌, refl, ap, sym, subst, ◌∙◌}
use mathlib.Core.Bool.{Bool}
use mathlib.Core.List.{List, [], ◌∷◌, ◌++◌, append-nil}
use native.Mathlib.Numerals.{add-one}
use native.Mathlib.Omega.{arith}
use lib.ListN.{length, get_or, take, drop, set, replicate, length-append, drop_of_length-le}
use lib.Seq.{take-append_seam, set-append_seam, append_snoc, drop-cons}
use borrow.Author.Tests.{lt-ltb, le-ltb}
use Rattle.promise.specs.Rules.{pick}
use Rattle.promise.specs.Told.{Told, given, refused, number}
use Rattle.operation_finish.specs.declared.SectorTransfer.{SectorTransfer}
use Rattle.operation_finish.specs.declared.SectorTransfer.TheVariants.{Whole, Short}
use Rattle.operation_finish.specs.Reply.{Reply, chip_info, flash_id, flash_info, capability, nothing, storage, moved, reply_given}
use Rattle.operation_finish.specs.declared.UsbReply.{UsbReply}
use Rattle.operation_finish.specs.declared.Beside.{Beside}
use Rattle.deck.specs.Verdict.{verdict_told}
use Rattle.deck_line.specs.declared.Line.{Line}
use Rattle.deck_line.specs.Digits.{digit, decimal, hex}
use Rattle.deck_line.specs.Line.{space, dash, slash, line_feed, value_by, told_by, transfer_text, value_text, told_text, line_text, line, TransferSized, Sized, ToldSized}
use Rattle.deck_line.specs.Code.{put_on, put_all, PutShort}
use Rattle.deck_line.proofs.DigitLaws.{below_ten, from_ten, decimal_length, hex_length}
use Rattle.std.specs.Prelude.{Result}
use Rattle.deck.specs.declared.verdict.RefusalNumber.{RefusalNumber}

-- a byte more, where there is room and where there is none
pub with_room : (l : Line) (byte : ℕ) → l.used < 64 → put_on l byte ≡ record { bytes = set l.bytes l.used byte; used = l.used + 1 }
unfolding put_on
with_room l byte h = ap (λ (t : Bool). pick t (record { bytes = set l.bytes l.used byte; used = l.used + 1 }) l) (lt-ltb l.used 64 h)

pub without_room : (l : Line) (byte : ℕ) → 64 ≤ l.used → put_on l byte ≡ l
unfolding put_on
without_room l byte h = ap (λ (t : Bool). pick t (record { bytes = set l.bytes l.used byte; used = l.used + 1 }) l) (le-ltb l.used 64 h)

-- a text put after another
pub all_append : (l : Line) (a b : List ℕ) → put_all l (a ++ b) ≡ put_all (put_all l a) b
unfolding put_all
all_append l [] b = refl
all_append l (c ∷ a) b = all_append (put_on l c) a b

pub one : (l : Line) (byte : ℕ) → put_on l byte ≡ put_all l (byte ∷ [])
unfolding put_all
one l byte = refl

-- a byte put after a text
pub behind : (l : Line) (a : List ℕ) (byte : ℕ) → put_on (put_all l a) byte ≡ put_all l (a ++ (byte ∷ []))
behind l a byte = one (put_all l a) byte ∙ sym (all_append l a (byte ∷ []))

-- the only digit of a number, and the last behind the others
pub only_digit : (l r : Line) (d n : ℕ) → n < 10 → d ≡ digit (n % 10) → r ≡ put_on l d → r ≡ put_all l (decimal n)
only_digit l r d n h last put = put ∙ ap (put_on l) last ∙ one l (digit (n % 10)) ∙ ap (put_all l) (sym (below_ten n h))

pub last_digit : (l tenth r : Line) (d n : ℕ) → 10 ≤ n → d ≡ digit (n % 10) → tenth ≡ put_all l (decimal (n / 10)) → r ≡ put_on tenth d
    → r ≡ put_all l (decimal n)
last_digit l tenth r d n h last before put =
    put ∙ ap (λ (x : Line). put_on x d) before ∙ ap (put_on (put_all l (decimal (n / 10)))) last ∙ behind l (decimal (n / 10)) (digit (n % 10))
    ∙ ap (put_all l) (sym (from_ten n h))

-- a turn of a loop puts the two digits of the next byte
hex_next : (l : Line) (i : ℕ) (bs : List ℕ) → i < length bs
    → put_all l (hex (drop i bs)) ≡ put_all (put_on (put_on l (digit (get_or bs i 0 / 16))) (digit (get_or bs i 0 % 16))) (hex (drop (i + 1) bs))
unfolding put_all hex
hex_next l i bs h =
    ap (λ (x : List ℕ). put_all l (hex x)) (drop-cons bs i 0 h)
    ∙ ap (λ (k : ℕ). put_all (put_on (put_on l (digit (get_or bs i 0 / 16))) (digit (get_or bs i 0 % 16))) (hex (drop k bs))) (sym (add-one i))

pub hex_turn : (l p r : Line) (d e i : ℕ) (bs : List ℕ) → i < length bs → d ≡ digit (get_or bs i 0 / 16) → p ≡ put_on l d → e ≡ digit (get_or bs i 0 % 16)
    → r ≡ put_on p e → put_all r (hex (drop (i + 1) bs)) ≡ put_all l (hex (drop i bs))
hex_turn l p r d e i bs h high first low second = cc (hex_next l i bs h)

-- past the end nothing is left
pub hex_past : (l : Line) (i : ℕ) (bs : List ℕ) → length bs ≤ i → put_all l (hex (drop i bs)) ≡ l
unfolding put_all hex
hex_past l i bs h = ap (λ (x : List ℕ). put_all l (hex x)) (drop_of_length-le bs h)

-- at a transfer, a reply or a verdict that is known
pub at_transfer : (r l : Line) {transfer known : SectorTransfer} → transfer ≡ known → PutShort r l (transfer_text known) → PutShort r l (transfer_text transfer)
at_transfer r l e = subst (λ (k : SectorTransfer). PutShort r l (transfer_text k)) (sym e)

pub at_reply : (r l : Line) (b : Beside) {reply known : UsbReply} → reply ≡ known → PutShort r l (value_text (reply_given known b))
    → PutShort r l (value_text (reply_given reply b))
at_reply r l b e = subst (λ (k : UsbReply). PutShort r l (value_text (reply_given k b))) (sym e)

pub at_verdict : (r l : Line) (b : Beside) {verdict known : (Result UsbReply RefusalNumber)} → verdict ≡ known → PutShort r l (told_text (verdict_told known b))
    → PutShort r l (told_text (verdict_told verdict b))
at_verdict r l b e = subst (λ (k : Result UsbReply RefusalNumber). PutShort r l (told_text (verdict_told k b))) (sym e)

-- 16 bytes at most, in hex
pub put_bytes : (r l : Line) (bytes : List ℕ) → length bytes ≤ 16 → r ≡ put_all l (hex bytes) → PutShort r l (hex bytes)
put_bytes r l bytes h e = record { all = e; short = omega (arith, hex_length bytes) }

-- one byte
pub put_dash : (r l : Line) → r ≡ put_on l 45 → PutShort r l dash
put_dash r l e = record { all = e ∙ one l 45; short = omega arith }

-- zeros, the first of them apart
zeros : (n : ℕ) → n < 64 → ◌≡◌ {A = List ℕ} (replicate (64 - n) 0) (0 ∷ replicate (63 - n) 0)
zeros n h = let e : 64 - n ≡ suc (63 - n) = omega arith in ap (λ (k : ℕ). replicate k 0) e

fewer : (text : List ℕ) (byte : ℕ) → ◌≡◌ {A = List ℕ} (replicate (63 - length text) 0) (replicate (64 - length (text ++ (byte ∷ []))) 0)
fewer text byte =
    let e : 63 - length text ≡ 64 - length (text ++ (byte ∷ [])) = omega (arith, length-append text (byte ∷ [])) in
    ap (λ (k : ℕ). replicate k 0) e

stored : (text : List ℕ) (byte : ℕ) → length text < 64
    → set (text ++ replicate (64 - length text) 0) (length text) byte ≡ text ++ (byte ∷ []) ++ replicate (64 - length (text ++ (byte ∷ []))) 0
stored text byte h =
    ap (λ (z : List ℕ). set (text ++ z) (length text) byte) (zeros (length text) h)
    ∙ set-append_seam text 0 (replicate (63 - length text) 0) byte
    ∙ ap (λ (z : List ℕ). text ++ byte ∷ z) (fewer text byte)
    ∙ sym (append_snoc text byte (replicate (64 - length (text ++ (byte ∷ []))) 0))

-- the line of a text, and one byte more
pub next : (text : List ℕ) (byte : ℕ) → length text < 64 → put_on (line text) byte ≡ line (text ++ (byte ∷ []))
next text byte h =
    let bytes = stored text byte h in
    let used : length text + 1 ≡ length (text ++ (byte ∷ [])) = omega (arith, length-append text (byte ∷ [])) in
    with_room (line text) byte h ∙ (λ i. record { bytes = bytes i; used = used i })

-- the line of a text, and a text more
pub more : (text rest : List ℕ) → length text + length rest ≤ 64 → put_all (line text) rest ≡ line (text ++ rest)
unfolding put_all
more text [] h = ap line (sym (append-nil text))
more text (byte ∷ rest) h =
    ap (λ (l : Line). put_all l rest) (next text byte (omega arith))
    ∙ more (text ++ (byte ∷ [])) rest (omega (arith, length-append text (byte ∷ [])))
    ∙ ap line (append_snoc text byte rest)

-- put on an empty line, a text is its line
pub whole_line : (text : List ℕ) → length text ≤ 64 → put_all (line []) text ≡ line text
whole_line text h = more [] text (omega arith)

-- the text, read off its line
pub text_of : (l : Line) (text : List ℕ) → l ≡ line text → take l.used l.bytes ≡ text
text_of l text e = ap (λ (x : Line). take x.used x.bytes) e ∙ take-append_seam text (replicate (64 - length text) 0)

-- a number of 64 bits has 20 digits at most, one of 32 bits 10, and one of 8 bits 3
pub digits_20 : (n : ℕ) → n < 2 ^ 64 → length (decimal n) ≤ 20
digits_20 n h = decimal_length 19 n (omega arith)

pub digits_10 : (n : ℕ) → n < 2 ^ 32 → length (decimal n) ≤ 10
digits_10 n h = decimal_length 9 n (omega arith)

pub digits_3 : (n : ℕ) → n < 2 ^ 8 → length (decimal n) ≤ 3
digits_3 n h = decimal_length 2 n (omega arith)

-- a byte, or a text, put after what was put on a line
then-byte : (l : Line) {a r : Line} (text : List ℕ) (byte : ℕ) → a ≡ put_all l text → r ≡ put_on a byte → r ≡ put_all l (text ++ (byte ∷ []))
then-byte l text byte before put = put ∙ ap (λ (x : Line). put_on x byte) before ∙ behind l text byte

then-text : (l : Line) {a r : Line} (text rest : List ℕ) → a ≡ put_all l text → r ≡ put_all a rest → r ≡ put_all l (text ++ rest)
then-text l text rest before put = put ∙ ap (λ (x : Line). put_all x rest) before ∙ sym (all_append l text rest)

-- a count of 32 bits
pub put_count : (r l : Line) (n : ℕ) → n < 2 ^ 32 → r ≡ put_all l (decimal n) → PutShort r l (decimal n)
put_count r l n h e = record { all = e; short = omega (arith, digits_10 n h) }

-- two of them, with a slash between
counts_short : (m n : ℕ) → m < 2 ^ 32 → n < 2 ^ 32 → length (decimal m ++ slash ++ decimal n) ≤ 21
counts_short m n hm hn =
    omega (arith, digits_10 m hm, digits_10 n hn, length-append (decimal m ++ slash) (decimal n), length-append (decimal m) slash)

pub put_counts : (l : Line) {a b r : Line} (m n : ℕ) → m < 2 ^ 32 → n < 2 ^ 32 → a ≡ put_all l (decimal m) → b ≡ put_on a 47 → r ≡ put_all b (decimal n)
    → PutShort r l (decimal m ++ slash ++ decimal n)
put_counts l m n hm hn first second third = record {
  all = then-text l (decimal m ++ slash) (decimal n) (then-byte l (decimal m) 47 first second) third;
  short = omega (arith, counts_short m n hm hn);
}

-- no line is longer than 58 bytes
pub line_short : (n : ℕ) (told : Told Reply) → n < 2 ^ 64 → number told < 2 ^ 8 → length (told_text told) ≤ 32 → length (line_text n told) ≤ 58
unfolding line_text
line_short n told wide small value =
    let d = decimal n in
    let k = decimal (number told) in
    let v = told_text told in
    omega (
      arith,
      digits_20 n wide,
      digits_3 (number told) small,
      length-append (d ++ space ++ k ++ space ++ v) line_feed,
      length-append (d ++ space ++ k ++ space) v,
      length-append (d ++ space ++ k) space,
      length-append (d ++ space) k,
      length-append d space,
    )

-- the same for whatever is told
transfer_short : (transfer : SectorTransfer) → TransferSized transfer → length (transfer_text transfer) ≤ 32
unfolding transfer_text
transfer_short (Whole count) h = omega (arith, digits_10 count.0 h)
transfer_short (Short s) h = omega (arith, counts_short s.moved.0 s.asked.0 h.0 h.1)

value_short : (reply : Reply) → Sized reply → length (value_text reply) ≤ 32
unfolding value_by
value_short (chip_info x) h = omega (arith, hex_length x.0)
value_short (flash_id x) h = omega (arith, hex_length x.0)
value_short (flash_info x) h = omega (arith, hex_length x.0)
value_short (capability x) h = omega (arith, hex_length x.0)
value_short nothing h = omega arith
value_short (storage index) h = omega arith
value_short (moved transfer) h = transfer_short transfer h

pub told_short : (n : ℕ) (told : Told Reply) → n < 2 ^ 64 → ToldSized told → length (line_text n told) ≤ 58
unfolding told_by number
told_short n (given reply) wide h = line_short n (given reply) wide (omega arith) (value_short reply h)
told_short n (refused k values) wide h = line_short n (refused k values) wide h (omega arith)

-- the parts of a line, one after the other
pub line_made : (n k : ℕ) (told : Told Reply) {a b d e f r : Line} → n < 2 ^ 64 → k < 2 ^ 8 → k ≡ number told → a ≡ put_all (line []) (decimal n)
    → b ≡ put_on a 32 → d ≡ put_all b (decimal k) → e ≡ put_on d 32 → PutShort f e (told_text told) → r ≡ put_on f 10 → r ≡ line (line_text n told)
unfolding line_text
line_made n k told {b = b} wide small same first second third fourth fifth sixth =
    let empty = line [] in
    let numbered = decimal n ++ space in
    let refusal = decimal (number told) in
    let outcome = numbered ++ refusal ++ space in
    let upto = then-text empty numbered refusal (then-byte empty (decimal n) 32 first second) (third ∙ ap (λ (x : ℕ). put_all b (decimal x)) same) in
    let value = then-text empty outcome (told_text told) (then-byte empty (numbered ++ refusal) 32 upto fourth) fifth.all in
    let short = line_short n told wide (omega arith) fifth.short in
    then-byte empty (outcome ++ told_text told) 10 value sixth ∙ whole_line (line_text n told) (omega arith)
