-- A deck rechecked in any chunks of whole blocks, the last of which may be of any length: what is written is what is written of the whole.
use Prim.Native.Nat.{ℕ, ◌+◌, ◌%◌, ◌^◌, ◌≤◌}
use mathlib.Core.Path.{◌≡◌, refl, ap, ap₂, sym, subst, ◌∙◌}
use mathlib.Core.Bool.{Bool, false}
use mathlib.Core.List.{List, [], ◌∷◌, ◌++◌, append-nil}
use native.Mathlib.Omega.{arith}
use borrow.Author.Tests.{le-ltb}
use lib.ListN.{length, take, drop}
use lib.Seq.{take-append_seam}
use Rattle.promise.specs.Told.{Told, given, refused}
use Rattle.promise.specs.Rules.{pick}
use Rattle.deck_block.specs.Block.{block_length}
use Rattle.deck_block.specs.Place.{RightBefore, RightFrom, RightDeckBefore, with_checks}
use Rattle.deck_block.specs.Blocks.{is_short, cut, blocks_of, joined, WholeButLast}
use Rattle.deck_block.proofs.Place.{not_before, right_whole}
use Rattle.deck_block.proofs.Blocks.{blocks_back}
use Rattle.deck_recheck.specs.declared.Recheck.{Recheck}
use Rattle.deck_recheck.specs.declared.RecheckStep.{RecheckStep}
use Rattle.deck_recheck.specs.Recheck.{stop_told, Standing, standing, new_recheck, next_number, next_tag, Written, written, then_write, recheck_blocks, recheck_all, RecheckMeets}
use Rattle.deck_recheck.proofs.Exactly.{passed, passed_number, going_on, right_deck, stops_at, all_were_right, new_deck_right, chunk_then}
use Rattle.deck.specs.declared.bench.Bench.{Bench}
use Rattle.deck.specs.Bench as bench
use Rattle.theorems.specs.Rechecks.{Rechecks, no_more, a_chunk}

-- one chunk: what is to be written of it
its_bytes : (d : Recheck) (chunk : List ℕ) (r : RecheckStep) (after : List ℕ) → RecheckMeets r after chunk (recheck_all chunk (standing d))
    → take r.bytes after ≡ (recheck_all chunk (standing d)).bytes
its_bytes d chunk r after m =
    let text = (recheck_all chunk (standing d)).bytes in
    ap₂ (λ (n : ℕ) (l : List ℕ). take n l) m.bytes m.leaves ∙ take-append_seam text (drop (length text) chunk)

-- a chunk, and the chunks behind it
then-rest : (s : Standing) (chunk more out : List ℕ) (end : Standing) → recheck_all (chunk ++ more) s ≡ then_write (recheck_all chunk s) (λ next. recheck_all more next)
    → (out ≡ (recheck_all more (recheck_all chunk s).leaves).bytes) × (end ≡ (recheck_all more (recheck_all chunk s).leaves).leaves)
    → ((recheck_all chunk s).bytes ++ out ≡ (recheck_all (chunk ++ more) s).bytes) × (end ≡ (recheck_all (chunk ++ more) s).leaves)
then-rest s chunk more out end e same = (
  ap (λ (l : List ℕ). (recheck_all chunk s).bytes ++ l) same.0 ∙ sym (ap (λ (w : Written). w.bytes) e),
  same.1 ∙ sym (ap (λ (w : Written). w.leaves) e),
)

last_chunk : (chunk : List ℕ) (s : Standing) → recheck_all (chunk ++ []) s ≡ then_write (recheck_all chunk s) (λ next. recheck_all [] next)
unfolding recheck_blocks cut
last_chunk chunk s =
    ap (λ (l : List ℕ). recheck_all l s) (append-nil chunk)
    ∙ ap (λ (l : List ℕ). written l (recheck_all chunk s).leaves) (sym (append-nil (recheck_all chunk s).bytes))

pub any_chunks_rechecked : (d : Recheck) (chunks : List (List ℕ)) (out : List ℕ) (end : Recheck) → WholeButLast chunks → Rechecks d chunks out end
    → (out ≡ (recheck_all (joined chunks) (standing d)).bytes) × (standing end ≡ (recheck_all (joined chunks) (standing d)).leaves)
unfolding joined recheck_blocks cut
any_chunks_rechecked d [] out end whole (no_more e) = (refl, refl)
any_chunks_rechecked d (c ∷ []) out end whole (a_chunk e chunk r after chunks rest last m more) =
    let same = any_chunks_rechecked r.recheck [] rest last tt more in
    let moved = subst (λ (s : Standing). (rest ≡ (recheck_all [] s).bytes) × (standing last ≡ (recheck_all [] s).leaves)) m.next same in
    let both = then-rest (standing e) chunk [] rest (standing last) (last_chunk chunk (standing e)) moved in
    (ap (λ (l : List ℕ). l ++ rest) (its_bytes e chunk r after m) ∙ both.0, both.1)
any_chunks_rechecked d (c ∷ next ∷ others) out end whole (a_chunk e chunk r after chunks rest last m more) =
    let same = any_chunks_rechecked r.recheck (next ∷ others) rest last whole.1 more in
    let moved =
    subst (λ (s : Standing). (rest ≡ (recheck_all (joined (next ∷ others)) s).bytes) × (standing last ≡ (recheck_all (joined (next ∷ others)) s).leaves)) m.next same in
    let both = then-rest (standing e) chunk (joined (next ∷ others)) rest (standing last) (chunk_then chunk (joined (next ∷ others)) (standing e) whole.0) moved in
    (ap (λ (l : List ℕ). l ++ rest) (its_bytes e chunk r after m) ∙ both.0, both.1)

-- from a fresh start
module _ (start : Recheck) (chunks : List (List ℕ)) (out : List ℕ) (end : Recheck) (new : start ≡ new_recheck) (whole : WholeButLast chunks)
    (calls : Rechecks start chunks out end) where
  abbrev blocks : List (List ℕ)
  blocks = blocks_of (joined chunks)

  abbrev fresh : Standing
  fresh = standing new_recheck

  all : (out ≡ (recheck_blocks blocks fresh).bytes) × (standing end ≡ (recheck_blocks blocks fresh).leaves)
  all =
      subst (λ (d : Recheck). (out ≡ (recheck_blocks blocks (standing d)).bytes) × (standing end ≡ (recheck_blocks blocks (standing d)).leaves)) new
      (any_chunks_rechecked start chunks out end whole calls)

  ends_in : (w : Written) → recheck_blocks blocks fresh ≡ w → (out ≡ w.bytes) × (stop_told end.stop end.number ≡ w.leaves.told)
  ends_in w e = (all.0 ∙ ap (λ (v : Written). v.bytes) e, ap (λ (s : Standing). s.told) (all.1 ∙ ap (λ (v : Written). v.leaves) e))

  -- a deck made before is rechecked to its end, and what is written is the same deck with the checks of blocks 1, 2, .., a right one
  pub old_deck_rechecked : RightDeckBefore blocks
      → ((out ≡ joined (with_checks 1 blocks)) × (stop_told end.stop end.number ≡ given tt)) × (RightFrom 1 (blocks_of out) × (blocks_of out ≡ with_checks 1 blocks))
  unfolding stop_told
  old_deck_rechecked right =
      let came = ends_in _ (right_deck blocks fresh refl right) in
      let deck = new_deck_right 1 blocks right in
      let back : blocks_of out ≡ with_checks 1 blocks = ap blocks_of came.0 ∙ blocks_back (with_checks 1 blocks) (right_whole 1 (with_checks 1 blocks) deck) in
      ((came.0, came.1 ∙ going_on blocks fresh refl), (subst (RightFrom 1) (sym back) deck, back))

  -- and no other
  pub only_old_decks : stop_told end.stop end.number ≡ given tt → RightDeckBefore blocks
  only_old_decks told = all_were_right blocks fresh (ap (λ (s : Standing). s.told) (sym all.1) ∙ told)

  -- the first block that is short or has another check is refused with its number, and what stood before it is written
  pub first_refused : (before : List (List ℕ)) (block : List ℕ) (more : List (List ℕ)) → blocks ≡ before ++ block ∷ more → RightDeckBefore before
      → ((block_length ≤ length block) × RightBefore block → ⊥)
      → (out ≡ joined (with_checks 1 before))
      × (stop_told end.stop end.number ≡ refused (pick (is_short block) 44 40) ((length before + 1) % 2 ^ 64 ∷ []))
  unfolding stop_told
  first_refused before block more apart right wrong =
      let came = ends_in _ (ap (λ (bs : List (List ℕ)). recheck_blocks bs fresh) apart ∙ stops_at before block more fresh refl right wrong) in
      let passes = passed_number before fresh 0 refl in
      let n : ((passed before fresh).number + 1) % 2 ^ 64 ≡ (length before + 1) % 2 ^ 64 = omega (arith, passes) in
      (came.0, came.1 ∙ ap {B = Told Unit} (λ (k : ℕ). refused (pick (is_short block) 44 40) (k ∷ [])) n)

  -- a deck that has been rechecked is refused at its first block, and nothing is written
  pub new_deck_refused : (block : List ℕ) (more : List (List ℕ)) → blocks ≡ block ∷ more → RightFrom 1 (block ∷ more)
      → (out ≡ []) × (stop_told end.stop end.number ≡ refused 40 (1 ∷ []))
  unfolding joined
  new_deck_refused block more apart right =
      let whole : is_short block ≡ false = le-ltb (length block) block_length (let long = right.0.0 in omega arith) in
      let came = first_refused [] block more apart tt (λ both. not_before 1 block (omega arith) (λ e. omega arith) right.0.1 both.1) in
      (came.0, came.1 ∙ ap {B = Told Unit} (λ (b : Bool). refused (pick b 44 40) (1 ∷ [])) whole)

-- a recheck counts a block as the bench does
pub counts_as_the_bench : (r : Recheck) (b : Bench) → r.number ≡ b.number → r.tag ≡ b.tag
    → (next_number (standing r) ≡ bench.next_number b) × (next_tag (standing r) ≡ bench.next_tag b)
counts_as_the_bench r b number tag = (ap (λ (n : ℕ). (n + 1) % 2 ^ 64) number, ap (λ (n : ℕ). (n + 1) % 2 ^ 32) tag)
