-- Programs that the contracts of a driven upload rule out, whatever their proofs: each answer is refuted at a named image.
use Prim.Native.Nat.{ℕ}
use mathlib.Core.Path.{◌≡◌, ap}
use mathlib.Core.List.{List, [], ◌∷◌}
use native.Mathlib.Omega.{arith}
use lib.ListN.{get_or, replicate}
use Rattle.crc.specs.Check.{crc_over}
use Rattle.promise.specs.Told.{number, and_then}
use Rattle.promise.specs.Bytes.{low_first, high_first}
use Rattle.promise.specs.Rules.{or_refuse, differs}
use Rattle.promise.specs.Does.{said, sent, after}
use Rattle.maskrom_transfer.specs.Moves.{block_size, writing, moves_at}
use Rattle.maskrom_transfer.specs.Sending.{send_step}
use Rattle.maskrom.specs.PartWise.{closed, takes, part_step, asks, close_step}
use Rattle.maskrom.specs.Whole.{start_step, most, sends_on, whole_step}
use Rattle.promise.specs.Run.{end_told, follow, runs}
use Rattle.ffi.specs.Drive.{DriveMeets, onward, step_turn, step_drive, on_start, whole_drive, on_part, part_turn, on_handed, part_drive}

-- an output of one block, an image of one byte, and an area
abbrev zeros : List ℕ
zeros = replicate block_size 0

abbrev image : List ℕ
image = 7 ∷ []

abbrev area : ℕ
area = 0x471

-- a whole upload without a step, told as done
pub spent_as_done : (out : List ℕ) → DriveMeets 0 out (whole_drive area image out 0) → ⊥
unfolding on_start start_step or_refuse step_drive runs number end_told
spent_as_done out m = let z : ◌≡◌ {A = ℕ} 0 28 = m.tells in omega arith

-- an output that is too short, told as an image that differs
pub refused_as_another : DriveMeets differs [] (whole_drive area image [] 1) → ⊥
unfolding on_start start_step or_refuse step_drive runs follow step_turn onward whole_step said sent after number end_told
refused_as_another m = let z : ◌≡◌ {A = ℕ} 27 20 = m.tells in omega arith

-- a whole upload of which nothing is put into the output
pub nothing_sent : (r : ℕ) → DriveMeets r zeros (whole_drive area image zeros 1) → ⊥
unfolding on_start start_step or_refuse step_drive runs follow step_turn onward whole_step sends_on most send_step moves_at writing crc_over asks and_then said sent after number end_told
nothing_sent r m = let z : ◌≡◌ {A = ℕ} 0 7 = ap (λ (l : List ℕ). get_or l 0 0) m.leaves in omega arith

-- a whole upload of an empty image with two zeros in the place of its check
pub whole_sends_zeros : (r : ℕ) → DriveMeets r zeros (whole_drive area [] zeros 1) → ⊥
unfolding on_start start_step or_refuse step_drive runs follow step_turn onward whole_step sends_on most send_step moves_at writing high_first low_first crc_over asks and_then said sent after number end_told
whole_sends_zeros r m = let z : ◌≡◌ {A = ℕ} 0 0xFF = ap (λ (l : List ℕ). get_or l 0 0) m.leaves in omega arith

-- an image that was not handed over, told as done
pub parts_spent_as_done : (out : List ℕ) → DriveMeets 0 out (part_drive area 1 image out 0) → ⊥
unfolding part_drive on_handed runs number end_told
parts_spent_as_done out m = let z : ◌≡◌ {A = ℕ} 0 28 = m.tells in omega arith

-- an output that is too short for a part, told as an image that differs
pub part_refused_as_another : DriveMeets differs [] (part_drive area 1 image [] 1) → ⊥
unfolding part_drive on_handed part_turn on_part part_step or_refuse runs follow said sent after number end_told
part_refused_as_another m = let z : ◌≡◌ {A = ℕ} 27 20 = m.tells in omega arith

-- an upload by parts of which nothing is put into the output
pub parts_nothing_sent : (r : ℕ) → DriveMeets r zeros (part_drive area 1 image zeros 2) → ⊥
unfolding part_drive on_handed part_turn on_part part_step takes closed or_refuse step_drive step_turn onward close_step send_step moves_at writing high_first low_first crc_over asks and_then runs follow said sent after number end_told
parts_nothing_sent r m = let z : ◌≡◌ {A = ℕ} 0 7 = ap (λ (l : List ℕ). get_or l 0 0) m.leaves in omega arith

-- an upload by parts of an empty image with two zeros in the place of its check
pub parts_send_zeros : (r : ℕ) → DriveMeets r zeros (part_drive area 1 [] zeros 1) → ⊥
unfolding part_drive on_handed part_turn or_refuse step_drive step_turn onward close_step send_step moves_at writing high_first low_first crc_over asks and_then runs follow said sent after number end_told
parts_send_zeros r m = let z : ◌≡◌ {A = ℕ} 0 0xFF = ap (λ (l : List ℕ). get_or l 0 0) m.leaves in omega arith
