-- A check knows a block's place: among tags that are told apart, a block is right at one alone, and refused as 40 at every other.
use Prim.Native.Nat.{ℕ, zero, suc, ◌+◌, ◌/◌, ◌%◌, ◌^◌, ◌≤◌, ◌<◌}
use mathlib.Core.Path.{◌≡◌, refl, ap, ap₂, sym, subst, ◌∙◌}
use mathlib.Core.Bool.{false≢true}
use mathlib.Core.List.{List, [], ◌∷◌, ◌++◌, reverse}
use native.Mathlib.Omega.{arith}
use native.Mathlib.Nat.{mod-eq_of_lt}
use borrow.Author.Tests.{le-ltb, eqb-true, eq-eqb, ne_eqb}
use lib.Dec.{lit<, eqb}
use lib.ListN.{length, take}
use lib.Bits.{bit_xor, xor_shr, xor_mod, xor_self}
use Rattle.promise.specs.Told.{refused}
use Rattle.promise.specs.Rules.{or_refuse}
use Rattle.promise.specs.Bytes.{low_first, high_first}
use Rattle.promise.proofs.Outcome.{on_test}
use Rattle.crc.specs.Check.{start, bit_step, bits_step, byte_step, crc_over}
use Rattle.crc.proofs.Laws.{over_append, over_lt, xor_bytes, over_linear}
use Rattle.crc.proofs.OneToOne.{xor_nothing, over_one_to_one, bytes_one_to_one}
use Rattle.deck_block.specs.Block.{block_length, checked_length, fields_of, block_check, first_check}
use Rattle.deck_block.specs.Place.{RightAt, RightBefore, tag_after, RightFrom, tag_register, Apart}
use Rattle.deck_block.specs.Blocks.{Whole}
use Rattle.deck_block.specs.Reading.{card_told, read_by, read_card, read_before}
use Rattle.std.specs.Prelude.{Result}
use Rattle.deck_block.specs.declared.Request.{Request}
use Rattle.deck_block.specs.declared.CardError.{CardError}

-- the check goes on from the register behind the tag
placed : (tag : ℕ) (block : List ℕ) → block_check tag block ≡ crc_over (tag_register tag) (take checked_length block)
unfolding block_check
placed tag block = over_append start (high_first 4 tag) (take checked_length block)

register_lt : (tag : ℕ) → tag_register tag < 2 ^ 16
register_lt tag = over_lt start (high_first 4 tag) (lit< tt)

-- a block that is right at two tags does not tell them apart
pub right_at_both : (i j : ℕ) (block : List ℕ) → RightAt i block → RightAt j block → tag_register i ≡ tag_register j
right_at_both i j block p q =
    over_one_to_one (take checked_length block) (tag_register i) (tag_register j) (register_lt i) (register_lt j)
    (sym (placed i block) ∙ sym p ∙ q ∙ placed j block)

-- tags that are not told apart have the same checks
pub same_checks : (i j : ℕ) (block : List ℕ) → tag_register i ≡ tag_register j → block_check i block ≡ block_check j block
same_checks i j block e = placed i block ∙ ap (λ (r : ℕ). crc_over r (take checked_length block)) e ∙ sym (placed j block)

-- 40, and nothing but 40 comes of a wrong check
pub wrong_check : (right : ℕ) (block : List ℕ) → block_length ≤ length block → ((fields_of block).check ≡ right → ⊥) → read_by right block ≡ refused 40 []
unfolding read_by or_refuse
wrong_check right block long differs = rw (le-ltb (length block) block_length long, ne_eqb (fields_of block).check right differs) refl

-- a block that is right at a tag is refused as 40 at every tag that is told apart from it ..
pub refused_apart : (i j : ℕ) (block : List ℕ) → block_length ≤ length block → RightAt i block → Apart i j → read_card j block ≡ refused 40 []
refused_apart i j block long right apart = wrong_check (block_check j block) block long (λ other. apart (right_at_both i j block right other))

-- .. and at no other: there it is read alike
pub read_alike : (i j : ℕ) (block : List ℕ) → tag_register i ≡ tag_register j → read_card i block ≡ read_card j block
read_alike i j block same = ap (λ (c : ℕ). read_by c block) (same_checks i j block same)

-- the bytes of two tags, met
met_low : (k i j : ℕ) → xor_bytes (low_first k i) (low_first k j) ≡ low_first k (bit_xor i j)
unfolding xor_bytes low_first
met_low zero i j = refl
met_low (suc k) i j = ap₂ (λ (b : ℕ) (l : List ℕ). b ∷ l) (sym (xor_mod i j 8)) (met_low k (i / 256) (j / 256) ∙ ap (low_first k) (sym (xor_shr i j 8)))

met_bytes : (i j : ℕ) → xor_bytes (high_first 4 i) (high_first 4 j) ≡ high_first 4 (bit_xor i j)
unfolding xor_bytes high_first low_first
met_bytes i j = ap reverse (met_low 4 i j)

-- when two tags of any size are told apart: exactly if the register that starts at 0 is not 0 again behind the four bytes of their xor
pub registers_met : (i j : ℕ) → bit_xor (tag_register i) (tag_register j) ≡ crc_over 0 (high_first 4 (bit_xor i j))
unfolding high_first low_first
registers_met i j = sym (over_linear start start (high_first 4 i) (high_first 4 j) refl) ∙ ap (crc_over 0) (met_bytes i j)

pub apart_exactly : (i j : ℕ) → (Apart i j → crc_over 0 (high_first 4 (bit_xor i j)) ≡ 0 → ⊥) × ((crc_over 0 (high_first 4 (bit_xor i j)) ≡ 0 → ⊥) → Apart i j)
apart_exactly i j = (
  λ apart gone. apart (xor_nothing (tag_register i) (tag_register j) (registers_met i j ∙ gone)),
  λ stays same. stays (sym (registers_met i j) ∙ ap (λ (r : ℕ). bit_xor r (tag_register j)) same ∙ xor_self (tag_register j)),
)

-- the four bytes of a tag are the two of its upper half and the two of its lower
halves : (tag : ℕ) → high_first 4 tag ≡ high_first 2 (tag / 2 ^ 16) ++ high_first 2 (tag % 2 ^ 16)
unfolding high_first low_first
halves tag =
    let a : tag / 256 / 256 / 256 % 256 ≡ tag / 65536 / 256 % 256 = omega arith in
    let b : tag / 256 / 256 % 256 ≡ tag / 65536 % 256 = omega arith in
    let c : tag / 256 % 256 ≡ tag % 65536 / 256 % 256 = omega arith in
    let d : tag % 256 ≡ tag % 65536 % 256 = omega arith in
    ap₂ (λ (x y : ℕ). x ∷ y ∷ tag / 256 % 256 ∷ tag % 256 ∷ []) a b ∙ ap₂ (λ (x y : ℕ). tag / 65536 / 256 % 256 ∷ tag / 65536 % 256 ∷ x ∷ y ∷ []) c d

by_halves : (tag : ℕ) → tag_register tag ≡ crc_over (crc_over start (high_first 2 (tag / 2 ^ 16))) (high_first 2 (tag % 2 ^ 16))
by_halves tag = ap (crc_over start) (halves tag) ∙ over_append start (high_first 2 (tag / 2 ^ 16)) (high_first 2 (tag % 2 ^ 16))

-- tags with the same upper half, so all from 1 to 65,535
pub near_one_to_one : (i j : ℕ) → i / 2 ^ 16 ≡ j / 2 ^ 16 → tag_register i ≡ tag_register j → i ≡ j
near_one_to_one i j upper same =
    let before = crc_over start (high_first 2 (j / 2 ^ 16)) in
    let there : crc_over before (high_first 2 (i % 2 ^ 16)) ≡ crc_over before (high_first 2 (j % 2 ^ 16)) =
    ap (λ (u : ℕ). crc_over (crc_over start (high_first 2 u)) (high_first 2 (i % 2 ^ 16))) (sym upper) ∙ sym (by_halves i) ∙ same ∙ by_halves j in
    let lower = bytes_one_to_one before (i % 2 ^ 16) (j % 2 ^ 16) (over_lt start (high_first 2 (j / 2 ^ 16)) (lit< tt)) (omega arith) (omega arith) there in
    omega (arith, lower, upper)

pub apart_near : (i j : ℕ) → i / 2 ^ 16 ≡ j / 2 ^ 16 → (i ≡ j → ⊥) → Apart i j
apart_near i j upper other same = other (near_one_to_one i j upper same)

-- "among blocks 1 to 65,535 one that was right at its own place is refused as 40 at every other"
pub refused_elsewhere : (i j : ℕ) (block : List ℕ) → i ≤ 65535 → j ≤ 65535 → (i ≡ j → ⊥) → block_length ≤ length block → RightAt i block
    → read_card j block ≡ refused 40 []
refused_elsewhere i j block hi hj other long right = refused_apart i j block long right (apart_near i j (omega arith) other)

-- and not among more blocks: a block is read at 65,536 as it is at 4,129
pub not_beyond : (block : List ℕ) → read_card 65536 block ≡ read_card 4129 block
unfolding crc_over byte_step bits_step bit_step high_first low_first
not_beyond block = read_alike 65536 4129 block refl

-- a whole block that is not refused as 40 is right there
pub not_40 : (right : ℕ) (block : List ℕ) → block_length ≤ length block → (read_by right block ≡ refused 40 [] → ⊥) → (fields_of block).check ≡ right
not_40 right block long read =
    on_test (eqb (fields_of block).check right) (λ e. eqb-true (fields_of block).check right e)
    (λ e. absurd (read (wrong_check right block long (λ same. false≢true (sym e ∙ eq-eqb (fields_of block).check right same)))))

-- the same for any caller of `read_card`, who has its answers alone
pub told_elsewhere : (i j : ℕ) (block : List ℕ) (here there : Result Request CardError) → i ≤ 65535 → j ≤ 65535 → (i ≡ j → ⊥) → block_length ≤ length block
    → card_told here ≡ read_card i block → card_told there ≡ read_card j block → (card_told here ≡ refused 40 [] → ⊥) → card_told there ≡ refused 40 []
told_elsewhere i j block here there hi hj other long a b read =
    b ∙ refused_elsewhere i j block hi hj other long (not_40 (block_check i block) block long (λ e. read (a ∙ e)))

-- the first check is the one of a tag exactly if the register behind the tag is where it started
pub first_too : (tag : ℕ) (block : List ℕ) → block_check tag block ≡ first_check block → tag_register tag ≡ start
first_too tag block e = over_one_to_one (take checked_length block) (tag_register tag) start (register_lt tag) (lit< tt) (sym (placed tag block) ∙ e)

pub first_again : (tag : ℕ) (block : List ℕ) → tag_register tag ≡ start → block_check tag block ≡ first_check block
first_again tag block e = placed tag block ∙ ap (λ (r : ℕ). crc_over r (take checked_length block)) e

-- the one tag up to 65,535 at which they coincide
abbrev pub coinciding : ℕ
coinciding = 39360

coincides : tag_register coinciding ≡ start
unfolding crc_over byte_step bits_step bit_step high_first low_first
coincides = refl

-- so at every other no block is right by both
pub not_before : (tag : ℕ) (block : List ℕ) → tag ≤ 65535 → (tag ≡ coinciding → ⊥) → RightAt tag block → RightBefore block → ⊥
not_before tag block small other right before =
    other (near_one_to_one tag coinciding (omega arith) (first_too tag block (sym right ∙ before) ∙ sym coincides))

-- a block of a deck made before is refused as 40 at every tag up to 65,535 but that one ..
pub before_refused : (tag : ℕ) (block : List ℕ) → tag ≤ 65535 → (tag ≡ coinciding → ⊥) → block_length ≤ length block → RightBefore block
    → read_card tag block ≡ refused 40 []
before_refused tag block small other long right = wrong_check (block_check tag block) block long (λ e. not_before tag block small other e right)

-- .. where every block is read as by its first check
pub before_read_there : (block : List ℕ) → read_card coinciding block ≡ read_before block
before_read_there block = ap (λ (c : ℕ). read_by c block) (first_again coinciding block coincides)

-- a right deck has whole blocks, and each is right at its place
pub right_whole : (tag : ℕ) (blocks : List (List ℕ)) → RightFrom tag blocks → Whole blocks
right_whole tag [] right = tt
right_whole tag (block ∷ blocks) right = (right.0.0, right_whole (tag_after tag) blocks right.1)

pub right_at_place : (tag : ℕ) (before : List (List ℕ)) (block : List ℕ) (more : List (List ℕ)) → RightFrom tag (before ++ block ∷ more)
    → tag + length before < 2 ^ 32 → RightAt (tag + length before) block
right_at_place tag [] block more right small = let same : tag ≡ tag + 0 = omega arith in subst (λ (t : ℕ). RightAt t block) same right.0.1
right_at_place tag (first ∷ before) block more right small =
    let next : tag_after tag ≡ tag + 1 = mod-eq_of_lt (omega arith) in
    let there : tag_after tag + length before ≡ tag + length (first ∷ before) = omega (arith, next) in
    subst (λ (t : ℕ). RightAt t block) there (right_at_place (tag_after tag) before block more right.1 (omega (arith, there, small)))
