-- Programs that the contracts of `within`, `usable_bytes`, `fill` and `write_out` rule out, whatever their proofs.
use Rattle.std.proofs.Common.{ℕ, min, ◌≡◌, refl, true, false, arith}
use Rattle.std.specs.declared.result.Result.TheVariants.{Ok, Err}
use Rattle.deck_io.specs.Moved.{Moved, EndsIf}
use Rattle.deck_io.specs.Input.{usable_bytes}
use Rattle.deck_io.specs.Output.{is_shut, written}

-- of 612 bytes that were read: those behind the last whole block used, and so told as 44, where the deck need not end there
pub partial_block_used : (n : ℕ) → n ≡ 612 → n ≡ usable_bytes true 612 → ⊥
unfolding usable_bytes
partial_block_used n e m = omega arith

-- a whole block lost to the read that failed
pub whole_block_lost : (n : ℕ) → n ≡ 0 → n ≡ usable_bytes true 612 → ⊥
unfolding usable_bytes
whole_block_lost n e m = omega arith

-- a short last block left out at the end of the input, and so not told as 44
pub short_block_lost : (n : ℕ) → n ≡ 512 → n ≡ usable_bytes false 612 → ⊥
unfolding usable_bytes
short_block_lost n e m = omega arith

-- a chunk handed on after a read that brought less, though the input goes on: a block would be cut in two
pub cut_after_a_read : Moved false 612 8192 → ⊥
cut_after_a_read m = let e = m.1 refl in omega arith

-- bytes told as written after a write that took only some of them
pub rest_not_written : Moved false 512 8192 → ⊥
rest_not_written m = let e = m.1 refl in omega arith

-- the same in the words of the answer: `Ok`, and so the output takes more, with the rest not written
pub rest_answered_as_written : Moved (is_shut (Ok 512)) (written (Ok 512)) 8192 → ⊥
rest_answered_as_written m = let e = m.1 refl in omega arith

-- more bytes told as read or written than there are, at the end as well
pub more_than_all : Moved true 8193 8192 → ⊥
more_than_all m = let fits = m.0 in omega arith

-- and in the words of the answer
pub more_answered_as_written : Moved (is_shut (Err (record { 0 = 8193 }))) (written (Err (record { 0 = 8193 }))) 8192 → ⊥
more_answered_as_written m = let fits = m.0 in omega arith

-- a read that has failed taken for one of many: the blocks behind the gap would be told with the numbers of those that are lost
pub read_on_behind_a_gap : EndsIf true false → ⊥
read_on_behind_a_gap m = let e = m refl in let z : ◌≡◌ {A = ℕ} 0 1 = cc in omega arith

-- the slice's length whatever is asked, and what is asked whatever the length
pub always_all : (r : ℕ) → r ≡ 8192 → r ≡ min 512 8192 → ⊥
always_all r e m = omega arith

pub more_than_there_is : (r : ℕ) → r ≡ 8193 → r ≡ min 8193 8192 → ⊥
more_than_there_is r e m = omega arith
