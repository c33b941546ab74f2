-- What can be read off a line: the block's number, the refusal's and the value. Two lines are the same only where these are.
use Prim.Native.Nat.{ℕ}
use mathlib.Core.Path.{◌≡◌, refl, ap, ap₂, sym, subst, ◌∙◌}
use mathlib.Core.List.{List, [], ◌∷◌, ◌++◌, append_assoc, append_cancel_right, head-eq_of_cons-eq, tail-eq_of_cons-eq}
use native.Mathlib.Omega.{arith}
use lib.Seq.{append_snoc}
use Rattle.promise.specs.Told.{Told, given, number}
use Rattle.protocol_reply.specs.declared.info.ChipInfo.{ChipInfo}
use Rattle.protocol_reply.specs.declared.info.FlashId.{FlashId}
use Rattle.protocol_reply.specs.declared.info.FlashInfo.{FlashInfo}
use Rattle.protocol_reply.specs.declared.flags.Capability.{Capability}
use Rattle.operation_finish.specs.declared.SectorTransfer.{SectorTransfer}
use Rattle.operation_finish.specs.declared.SectorTransfer.TheVariants.{Whole, Short}
use Rattle.operation_finish.specs.Transfer.{whole, short}
use Rattle.operation_finish.specs.Reply.{Reply, chip_info, flash_id, flash_info, capability, moved}
use Rattle.deck_line.specs.declared.Line.{Line}
use Rattle.deck_line.specs.Digits.{decimal, hex, from_decimal, from_hex, IsDecimal, Each}
use Rattle.deck_line.specs.Line.{slash, line_feed, value_by, told_by, transfer_text, told_text, line_text, line}
use Rattle.deck_line.proofs.DigitLaws.{decimal_back, decimal_digits, hex_back}
use Rattle.deck_line.proofs.LineLaws.{text_of}

-- digits end at the first character that is none
module _ (mark : ℕ) (no_digit : IsDecimal mark → ⊥) where
  cut : (a b x y : List ℕ) → Each IsDecimal a → Each IsDecimal b → a ++ mark ∷ x ≡ b ++ mark ∷ y → (a ≡ b) × (x ≡ y)
  cut [] [] x y ha hb e = (refl, tail-eq_of_cons-eq e)
  cut [] (d ∷ b) x y ha hb e = absurd (no_digit (subst IsDecimal (sym (head-eq_of_cons-eq e)) hb.0))
  cut (c ∷ a) [] x y ha hb e = absurd (no_digit (subst IsDecimal (head-eq_of_cons-eq e) ha.0))
  cut (c ∷ a) (d ∷ b) x y ha hb e =
      let z = head-eq_of_cons-eq e in
      let rest = cut a b x y ha.1 hb.1 (tail-eq_of_cons-eq e) in
      (cc rest.0, rest.1)

  -- and digits alone have none
  not_within : (a x : List ℕ) → Each IsDecimal (a ++ mark ∷ x) → ⊥
  not_within [] x h = no_digit h.0
  not_within (c ∷ a) x h = not_within a x h.1

space_no_digit : IsDecimal 32 → ⊥
space_no_digit h = omega (arith, h.0)

slash_no_digit : IsDecimal 47 → ⊥
slash_no_digit h = omega (arith, h.0)

decimal_same : (m n : ℕ) → decimal m ≡ decimal n → m ≡ n
decimal_same m n e = sym (decimal_back m) ∙ ap from_decimal e ∙ decimal_back n

hex_same : (a b : List ℕ) → hex a ≡ hex b → a ≡ b
hex_same a b e = sym (hex_back a) ∙ ap from_hex e ∙ hex_back b

-- the parts of a line, from the front
pub parts : (n : ℕ) (told : Told Reply) → line_text n told ≡ decimal n ++ 32 ∷ (decimal (number told) ++ 32 ∷ (told_text told ++ line_feed))
unfolding line_text
parts n told = simp append_assoc

-- lines with the same text
pub told_apart : (n m : ℕ) (told other : Told Reply) → line_text n told ≡ line_text m other
    → (n ≡ m) × (number told ≡ number other) × (told_text told ≡ told_text other)
told_apart n m told other e =
    let k = number told in
    let l = number other in
    let whole =
    cut 32 space_no_digit (decimal n) (decimal m) (decimal k ++ 32 ∷ (told_text told ++ line_feed)) (decimal l ++ 32 ∷ (told_text other ++ line_feed)) (decimal_digits n)
    (decimal_digits m) (sym (parts n told) ∙ e ∙ parts m other) in
    let rest =
    cut 32 space_no_digit (decimal k) (decimal l) (told_text told ++ line_feed) (told_text other ++ line_feed) (decimal_digits k) (decimal_digits l) whole.1 in
    (decimal_same n m whole.0, decimal_same k l rest.0, append_cancel_right (told_text told) (told_text other) line_feed rest.1)

-- lines that a caller was given
pub lines_apart : (r : Line) (n m : ℕ) (told other : Told Reply) → r ≡ line (line_text n told) → r ≡ line (line_text m other)
    → (n ≡ m) × (number told ≡ number other) × (told_text told ≡ told_text other)
lines_apart r n m told other first second =
    told_apart n m told other (sym (text_of r (line_text n told) first) ∙ text_of r (line_text m other) second)

-- a value's text is its own, among values of its kind
pub chip_info_apart : (x y : ChipInfo) → told_text (given (chip_info x)) ≡ told_text (given (chip_info y)) → x ≡ y
unfolding told_by value_by
chip_info_apart x y e = let same = hex_same x.0 y.0 e in λ i. record { 0 = same i }

pub flash_id_apart : (x y : FlashId) → told_text (given (flash_id x)) ≡ told_text (given (flash_id y)) → x ≡ y
unfolding told_by value_by
flash_id_apart x y e = let same = hex_same x.0 y.0 e in λ i. record { 0 = same i }

pub flash_info_apart : (x y : FlashInfo) → told_text (given (flash_info x)) ≡ told_text (given (flash_info y)) → x ≡ y
unfolding told_by value_by
flash_info_apart x y e = let same = hex_same x.0 y.0 e in λ i. record { 0 = same i }

pub capability_apart : (x y : Capability) → told_text (given (capability x)) ≡ told_text (given (capability y)) → x ≡ y
unfolding told_by value_by
capability_apart x y e = let same = hex_same x.0 y.0 e in λ i. record { 0 = same i }

-- one count, and two with a slash between
one_or_two : (one m n : ℕ) → decimal one ≡ decimal m ++ slash ++ decimal n → ⊥
one_or_two one m n e =
    not_within 47 slash_no_digit (decimal m) (decimal n)
    (subst (Each IsDecimal) (e ∙ append_snoc (decimal m) 47 (decimal n)) (decimal_digits one))

-- the text tells a whole transfer from a short one, and each from every other
pub transfer_apart : (x y : SectorTransfer) → told_text (given (moved x)) ≡ told_text (given (moved y)) → x ≡ y
unfolding told_by value_by transfer_text
transfer_apart (Whole a) (Whole b) e = ap (λ (n : ℕ). whole n) (decimal_same a.0 b.0 e)
transfer_apart (Whole a) (Short t) e = absurd (one_or_two a.0 t.moved.0 t.asked.0 e)
transfer_apart (Short s) (Whole b) e = absurd (one_or_two b.0 s.moved.0 s.asked.0 (sym e))
transfer_apart (Short s) (Short t) e =
    let first = decimal s.moved.0 in
    let other = decimal t.moved.0 in
    let second = decimal s.asked.0 in
    let another = decimal t.asked.0 in
    let both =
    cut 47 slash_no_digit first other second another (decimal_digits s.moved.0) (decimal_digits t.moved.0)
    (sym (append_snoc first 47 second) ∙ e ∙ append_snoc other 47 another) in
    ap₂ (λ (m a : ℕ). short m a) (decimal_same s.moved.0 t.moved.0 both.0) (decimal_same s.asked.0 t.asked.0 both.1)
