-- Programs that the contract of `line_of` rules out, whatever their proofs: each answer is refuted at a named block.
use Prim.Native.Nat.{ℕ, ◌-◌, ◌<◌}
use mathlib.Core.Path.{◌≡◌, ap, sym, ◌∙◌}
use mathlib.Core.List.{List, ◌∷◌, ◌++◌, append_assoc}
use native.Mathlib.Omega.{arith}
use lib.ListN.{length, get_or, replicate, get_or-append}
use Rattle.promise.specs.Told.{number}
use Rattle.operation_finish.specs.Transfer.{whole, short}
use Rattle.operation_finish.specs.Reply.{reply_given, besides, no_flash_id, no_flash_info, no_capability}
use Rattle.operation_finish.specs.declared.UsbReply.TheVariants.{ChipInfo, Sectors, Nothing}
use Rattle.operation_finish.specs.declared.Beside.{Beside}
use Rattle.deck.specs.Verdict.{verdict_told}
use Rattle.deck_line.specs.declared.Line.{Line}
use Rattle.deck_line.specs.Digits.{digit, digits, decimal, hex}
use Rattle.deck_line.specs.Line.{line_feed, value_by, told_by, transfer_text, told_text, line_text, longest_line, line}
use Rattle.deck_line.proofs.DigitLaws.{no_leading_zero, decimal_some}
use Rattle.deck_line.proofs.Apart.{parts}
use Rattle.std.specs.Prelude.{Result}
use Rattle.operation_finish.specs.declared.UsbReply.{UsbReply}
use Rattle.deck.specs.declared.verdict.RefusalNumber.{RefusalNumber}
use Rattle.std.specs.declared.result.Result.TheVariants.{Ok, Err}

-- what `line_of` promises
abbrev Printed : Line → ℕ → Result UsbReply RefusalNumber → Beside → Type 0
Printed r n verdict beside = r ≡ line (line_text n (verdict_told verdict beside))

-- chip info that begins with AB
abbrev chip : Beside
chip = besides (replicate 4 0) (record { 0 = 0xAB ∷ replicate 15 0 }) no_flash_id no_flash_info no_capability

-- hex in upper case: `A` for `a`
pub upper_case : (r : Line) → get_or r.bytes 4 0 ≡ 65 → Printed r 1 (Ok ChipInfo) chip → ⊥
unfolding line_text told_by value_by transfer_text verdict_told reply_given number decimal digits digit hex
upper_case r e m = let right : get_or r.bytes 4 0 ≡ 97 = ap (λ (l : Line). get_or l.bytes 4 0) m in omega arith

-- the low digit of a byte first: `b` for `a`
pub low_digit_first : (r : Line) → get_or r.bytes 4 0 ≡ 98 → Printed r 1 (Ok ChipInfo) chip → ⊥
unfolding line_text told_by value_by transfer_text verdict_told reply_given number decimal digits digit hex
low_digit_first r e m = let right : get_or r.bytes 4 0 ≡ 97 = ap (λ (l : Line). get_or l.bytes 4 0) m in omega arith

-- sectors told for bytes: `1` for `512`
pub sectors_for_bytes : (r : Line) (b : Beside) → r.used ≡ 6 → Printed r 2 (Ok (Sectors (whole 512))) b → ⊥
unfolding line_text told_by value_by transfer_text verdict_told reply_given number decimal digits digit
sectors_for_bytes r b e m = let right : r.used ≡ 8 = ap (λ (l : Line). l.used) m in omega arith

-- 7,680 bytes moved of 8,192
abbrev short_of : Result UsbReply RefusalNumber
short_of = Ok (Sectors (short 7680 8192))

-- a short transfer told as a whole one: `7680` for `7680/8192`
pub short_as_whole : (r : Line) (b : Beside) → get_or r.bytes 8 0 ≡ 10 → Printed r 2 short_of b → ⊥
unfolding line_text told_by value_by transfer_text verdict_told reply_given number decimal digits digit
short_as_whole r b e m = let right : get_or r.bytes 8 0 ≡ 47 = ap (λ (l : Line). get_or l.bytes 8 0) m in omega arith

-- what was asked before what was moved: `8192/7680` for `7680/8192`
pub asked_first : (r : Line) (b : Beside) → get_or r.bytes 4 0 ≡ 56 → Printed r 2 short_of b → ⊥
unfolding line_text told_by value_by transfer_text verdict_told reply_given number decimal digits digit
asked_first r b e m = let right : get_or r.bytes 4 0 ≡ 55 = ap (λ (l : Line). get_or l.bytes 4 0) m in omega arith

-- a refused block with a count of 0 for `-`
pub refused_with_value : (r : Line) (b : Beside) → get_or r.bytes 5 0 ≡ 48 → Printed r 3 (Err (record { 0 = 57 })) b → ⊥
unfolding line_text told_by verdict_told number decimal digits digit
refused_with_value r b e m = let right : get_or r.bytes 5 0 ≡ 45 = ap (λ (l : Line). get_or l.bytes 5 0) m in omega arith

-- a refused block told as done: `0` for `57`
pub refused_as_done : (r : Line) (b : Beside) → get_or r.bytes 2 0 ≡ 48 → Printed r 3 (Err (record { 0 = 57 })) b → ⊥
unfolding line_text told_by verdict_told number decimal digits digit
refused_as_done r b e m = let right : get_or r.bytes 2 0 ≡ 53 = ap (λ (l : Line). get_or l.bytes 2 0) m in omega arith

-- no line feed
pub no_line_feed : (r : Line) (b : Beside) → r.used ≡ 6 → Printed r 3 (Err (record { 0 = 57 })) b → ⊥
unfolding line_text told_by verdict_told number decimal digits digit
no_line_feed r b e m = let right : r.used ≡ 7 = ap (λ (l : Line). l.used) m in omega arith

-- a number with a 0 in front
pub leading_zero : (r : Line) (n : ℕ) (verdict : Result UsbReply RefusalNumber) (b : Beside) → 0 < n → get_or r.bytes 0 0 ≡ 48 → Printed r n verdict b → ⊥
leading_zero r n verdict b some e m =
    let told = verdict_told verdict b in
    let rest : List ℕ = 32 ∷ (decimal (number told) ++ 32 ∷ (told_text told ++ line_feed)) in
    let zeros : List ℕ = replicate (longest_line - length (line_text n told)) 0 in
    let first : get_or r.bytes 0 0 ≡ get_or (decimal n) 0 0 =
    ap (λ (l : Line). get_or l.bytes 0 0) m ∙ ap (λ (t : List ℕ). get_or (t ++ zeros) 0 0) (parts n told)
    ∙ ap (λ (t : List ℕ). get_or t 0 0) (append_assoc (decimal n) rest zeros)
    ∙ get_or-append (decimal n) (rest ++ zeros) 0 0 (decimal_some n) in
    omega (arith, no_leading_zero n (sym first ∙ e))

-- one line for all blocks
pub one_line : (r : Line) (b : Beside) → Printed r 1 (Ok Nothing) b → Printed r 2 (Ok Nothing) b → ⊥
unfolding line_text told_by value_by transfer_text verdict_told reply_given number decimal digits digit
one_line r b first second =
    let differ : ◌≡◌ {A = ℕ} 49 50 = ap (λ (l : Line). get_or l.bytes 0 0) (sym first ∙ second) in omega arith

-- bytes of an earlier line behind the text
pub old_bytes_behind : (r : Line) (b : Beside) → get_or r.bytes 7 0 ≡ 10 → Printed r 3 (Err (record { 0 = 57 })) b → ⊥
unfolding line_text told_by verdict_told number decimal digits digit
old_bytes_behind r b e m = let right : get_or r.bytes 7 0 ≡ 0 = ap (λ (l : Line). get_or l.bytes 7 0) m in omega arith
