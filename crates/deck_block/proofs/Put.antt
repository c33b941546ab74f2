-- A check put in its place.
use Prim.Native.Nat.{ℕ, ◌+◌, ◌≤◌, ◌<◌}
use mathlib.Core.Path.{◌≡◌, refl, ap, ◌∙◌}
use mathlib.Core.List.{List, [], ◌++◌, append-nil}
use native.Mathlib.Omega.{arith}
use borrow.Author.Tests.{lt-ltb, le-ltb}
use lib.ListN.{length, take, drop, drop_of_length-le}
use Rattle.promise.specs.Bytes.{high_first}
use Rattle.promise.specs.Over.{over}
use Rattle.promise.proofs.Order.{length_high_first}
use Rattle.deck_block.specs.Block.{block_length, checked_length, block_check, with_check, put_check}

-- a short block stays, and in any other the check stands in its place
pub put_in_short : (check : ℕ) (block : List ℕ) → length block < block_length → put_check check block ≡ block
put_in_short check block short = rw (lt-ltb (length block) block_length short) refl

pub put_in_place : (check : ℕ) (block : List ℕ) → block_length ≤ length block → put_check check block ≡ over checked_length (high_first 2 check) block
put_in_place check block long = rw (le-ltb (length block) block_length long) refl

-- the check of a tag put over the one that was there
pub put_right : (tag check : ℕ) (block : List ℕ) → length block ≡ block_length → check ≡ block_check tag block → put_check check block ≡ with_check tag block
unfolding over
put_right tag check block long e =
    let none : drop (510 + length (high_first 2 check)) block ≡ [] = drop_of_length-le block {i = 510 + length (high_first 2 check)} (let two = length_high_first 2 check in omega arith) in
    put_in_place check block (omega arith)
    ∙ ap (λ (l : List ℕ). take 510 block ++ (high_first 2 check ++ l)) none
    ∙ ap (λ (l : List ℕ). take 510 block ++ l) (append-nil (high_first 2 check))
    ∙ ap (λ (c : ℕ). take 510 block ++ high_first 2 c) e
