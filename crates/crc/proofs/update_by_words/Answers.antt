-- The register goes into the first eight bytes (`first_word`), and a turn takes the next eight (`next_eight`).
use Rattle.std.proofs.Common.{◌≡◌, ℕ, ◌+◌, ◌-◌, ◌*◌, ◌/◌, ◌<◌, List, [], length, take, drop, get_or, get_or-take, get_or-drop, length-take, ap, sym, ◌∙◌, arith}
use Rattle.std.specs.Int.{w64, from_be_bytes}
use Rattle.crc.specs.Check.{bits_step, crc_over}
use Rattle.crc.proofs.Words.{first_word, next_eight}
use Rattle.crc.proofs.update_by_words.Goals as goal

-- behind the first of some
behind_first : (i : ℕ) (words : List (List ℕ)) → i < length (take (length words - 1) (drop 1 words))
    → (i + 1 < length words) × (get_or (take (length words - 1) (drop 1 words)) i [] ≡ get_or words (i + 1) [])
behind_first i words h =
    let more : i < length words - 1 = let l = length-take (length words - 1) (drop 1 words) in omega arith in
    let place : 1 + i ≡ i + 1 = omega arith in
    (omega arith, get_or-take (length words - 1) (drop 1 words) i [] more ∙ get_or-drop 1 words i [] ∙ ap (λ (k : ℕ). get_or words k []) place)

pub loop-word-init : goal.loop-word-init
loop-word-init c =
    let a = c.args in
    let chunks = c.as_chunks in
    let bs = a.bytes.now in
    ap (λ (r : ℕ). crc_over r (drop 8 bs)) (sym (first_word a.crc c.from_be_bytes.result (omega arith)))
    ∙ next_eight a.crc c.from_be_bytes.result 0 (length bs / 8) chunks.result.0.now bs (λ i. omega (arith, c.type_inv.bytes i)) (omega arith)
    chunks.ensures.front (omega (arith, c.requires)) c.from_be_bytes.ensures

pub loop-word-preserved : goal.loop-word-preserved
loop-word-preserved c =
    let a = c.args in
    let l = c.loop-word in
    let chunks = c.as_chunks in
    let bs = a.bytes.now in
    let next = behind_first l.word-index chunks.result.0.now c.loop-word-test.true in
    let word = c.from_be_bytes-in-loop-word in
    let size = chunks.ensures.front_len in
    ap (λ (r : ℕ). crc_over r (drop ((l.word-index + 1 + 1) * 8) bs)) c.fold-bits.ensures
    ∙ next_eight (bits_step 0 64 l.bits) word.result (l.word-index + 1) (length bs / 8) chunks.result.0.now bs (λ i. omega (arith, c.type_inv.bytes i))
    (omega arith) chunks.ensures.front (omega (arith, next.0, size)) (word.ensures ∙ ap (λ (w : List ℕ). from_be_bytes w64 w) next.1)
    ∙ l.invariant
