-- "Decks made before must be rechecked by a small program that verifies the old sum of each block and writes the new one, stopping at the first bad or
-- short block with its number".
use Rattle.std.specs.Prelude.{◌≡◌, ℕ, ◌+◌, ◌%◌, ◌^◌, not, List, [], ◌∷◌, ◌++◌, length, ◌==◌, Option}
use Rattle.std.specs.declared.option.Option.TheVariants.{Some, None}
use Rattle.promise.specs.Told.{Told, given, refused}
use Rattle.promise.specs.Rules.{Rule, rule, or_refuse}
use Rattle.promise.specs.Bytes.{front}
use Rattle.deck_block.specs.Block.{fields_of, first_check, with_check}
use Rattle.deck_block.specs.Place.{tag_after}
use Rattle.deck_block.specs.Blocks.{is_short, blocks_of}
use Rattle.deck_recheck.specs.declared.Stop.{Stop}
use Rattle.deck_recheck.specs.declared.Stop.TheVariants.{BadCheck, Short}
use Rattle.deck_recheck.specs.declared.Recheck.{Recheck}
use Rattle.deck_recheck.specs.declared.RecheckStep.{RecheckStep}

abbrev pub stop_number : Stop → ℕ
stop_number BadCheck = 40
stop_number Short = 44

-- what has stopped a deck at the block with this number
unfoldable pub stop_told : Option Stop → ℕ → Told Unit
stop_told None number = given tt
stop_told (Some BadCheck) number = refused 40 (number ∷ [])
stop_told (Some Short) number = refused 44 (number ∷ [])

-- a deck between two blocks: number and tag of the last one, and what is told so far
pub record Standing : Type 0 where
  pub number : ℕ
  pub tag : ℕ
  pub told : Told Unit

abbrev pub standing : Recheck → Standing
standing r = record { number = r.number; tag = r.tag; told = stop_told r.stop r.number }

-- no block yet
abbrev pub new_recheck : Recheck
new_recheck = record { number = 0; tag = 0; stop = None }

-- numbers and tags go on as the bench's do
abbrev pub next_number : Standing → ℕ
next_number s = (s.number + 1) % 2 ^ 64

abbrev pub next_tag : Standing → ℕ
next_tag s = tag_after s.tag

abbrev pub behind : Standing → Told Unit → Standing
behind s told = record { number = next_number s; tag = next_tag s; told = told }

-- "verifies the old sum of each block": what a block of a deck made before is refused with, 44 before 40
abbrev pub first_rules : ℕ → List ℕ → List Rule
first_rules number block =
    rule (is_short block) 44 (number ∷ [])
    ∷ rule (not ((fields_of block).check == first_check block)) 40 (number ∷ [])
    ∷ []

-- what is written, and the deck behind it
pub record Written : Type 0 where
  pub bytes : List ℕ
  pub leaves : Standing

abbrev pub written : List ℕ → Standing → Written
written bytes leaves = record { bytes = bytes; leaves = leaves }

-- "and writes the new one": nothing of a refused block
abbrev pub recheck_block : List ℕ → Standing → Written
recheck_block block s =
    or_refuse (λ number values. written [] (behind s (refused number values)))
    (first_rules (next_number s) block)
    (written (with_check (next_tag s) block) (behind s (given tt)))

-- "stopping at the first bad or short block"
unfoldable pub unless_stopped : Told Unit → Standing → Written → Written
unless_stopped (given done) s more = more
unless_stopped (refused number values) s more = written [] s

abbrev pub recheck_next : List ℕ → Standing → Written
recheck_next block s = unless_stopped s.told s (recheck_block block s)

-- some blocks, and then more
abbrev pub then_write : Written → (Standing → Written) → Written
then_write w more = written (w.bytes ++ (more w.leaves).bytes) (more w.leaves).leaves

unfoldable pub recheck_blocks : List (List ℕ) → Standing → Written
recheck_blocks [] s = written [] s
recheck_blocks (block ∷ blocks) s = then_write (recheck_next block s) (λ next. recheck_blocks blocks next)

-- all of an input, from wherever the deck stands
abbrev pub recheck_all : List ℕ → Standing → Written
recheck_all input s = recheck_blocks (blocks_of input) s

-- a chunk that is answered r and left as `after`: what is written stands in its first bytes, and every other byte is as it was
pub record RecheckMeets (r : RecheckStep) (after before : List ℕ) (w : Written) : Type 0 where
  pub bytes : r.bytes ≡ length w.bytes
  pub next : standing r.recheck ≡ w.leaves
  pub leaves : after ≡ front w.bytes before
