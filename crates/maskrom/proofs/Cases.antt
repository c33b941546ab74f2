-- One law for each branch of a definition.
use Prim.Native.Nat.{ℕ, ◌+◌, ◌-◌, ◌<◌, ◌≤◌}
use mathlib.Core.Path.{◌≡◌, refl}
use mathlib.Core.Bool.{true, false}
use mathlib.Core.List.{List, [], ◌∷◌, ◌++◌}
use native.Mathlib.Omega.{arith}
use lib.ListN.{length, take}
use types.Run.{OneOf, miss}
use denote.Enum.Declared.{tag_of}
use borrow.Author.Tests.{eq-eqb, ne_eqb, lt-ltb, le-ltb}
use Rattle.crc.specs.Check.{crc_over}
use Rattle.promise.specs.Told.{given, refused, and_then}
use Rattle.promise.specs.Rules.{or_refuse, differs, too_short}
use Rattle.maskrom_transfer.specs.contracts.MaskRomSteps.{the_type}
use Rattle.maskrom_transfer.specs.declared.MaskRomSteps.{MaskRomSteps}
use Rattle.maskrom_transfer.specs.declared.MaskRomSteps.TheVariants.{Writing, Check, Dummy, Done}
use Rattle.maskrom.specs.Answers.{longest, too_long, closed_already, control, took, filled, writes}
use Rattle.maskrom_transfer.specs.Moves.{moves_at}
use Rattle.promise.specs.Does.{does}
use Rattle.maskrom_transfer.proofs.Cases.{send_20, send_acts}
use Rattle.maskrom.specs.declared.MaskRomOperation.{MaskRomOperation}
use Rattle.maskrom.specs.declared.WholeUpload.{WholeUpload}
use Rattle.maskrom.specs.PartWise.{waiting, held, closed, holding, takes, part_step, asks, with_moved, close_step}
use Rattle.maskrom.specs.Whole.{most, chunk, sent_on, sends_on, whole_step}

-- what an arm of a `match` knows of the enum: its variant is one of these
pub asks_write : (steps : MaskRomSteps) (area n : ℕ) → OneOf (0 ∷ 1 ∷ 2 ∷ []) (tag_of the_type steps)
    → asks steps area n ≡ writes (control area n)
unfolding asks
asks_write Writing area n h = refl
asks_write Check area n h = refl
asks_write Dummy area n h = refl
asks_write Done area n h = absurd (miss (0 ∷ 1 ∷ 2 ∷ []) 3 tt h)

pub most_block : (steps : MaskRomSteps) → most steps ≤ 4096
unfolding most
most_block Writing = omega arith
most_block Check = omega arith
most_block Dummy = omega arith
most_block Done = omega arith

module _ (m : MaskRomOperation) (xs : List ℕ) (room : ℕ) where
  pub part_20 : room < 4096 → part_step m xs room ≡ refused too_short []
  unfolding part_step or_refuse
  part_20 h = rw (lt-ltb room 4096 h)

  pub part_26 : 4096 ≤ room → closed m.steps ≡ true → part_step m xs room ≡ refused closed_already []
  unfolding part_step or_refuse
  part_26 h e = rw (le-ltb room 4096 h, e)

  pub part_25 : 4096 ≤ room → closed m.steps ≡ false → longest < m.taken + length xs → part_step m xs room ≡ refused too_long []
  unfolding part_step or_refuse
  part_25 h e l = rw (le-ltb room 4096 h, e, lt-ltb longest (m.taken + length xs) l)

  pub part_takes : 4096 ≤ room → closed m.steps ≡ false → m.taken + length xs ≤ longest
      → part_step m xs room ≡ given (takes m (take (4096 - waiting m) xs))
  unfolding part_step or_refuse
  part_takes h e l = rw (le-ltb room 4096 h, e, le-ltb longest (m.taken + length xs) l)

module _ (m : MaskRomOperation) (ys : List ℕ) where
  pub takes_full : waiting m + length ys ≡ 4096
      → takes m ys ≡ does (filled (length ys) (control m.area 4096)) (held m ++ ys) (holding m ys)
  unfolding takes
  takes_full e = rw (eq-eqb (waiting m + length ys) 4096 e)

  pub takes_some : waiting m + length ys < 4096 → takes m ys ≡ does (took (length ys)) [] (holding m ys)
  unfolding takes
  takes_some h = rw (ne_eqb (waiting m + length ys) 4096 (omega arith))

pub close_20 : (m : MaskRomOperation) (room : ℕ) → room < 4096 → close_step m room ≡ refused too_short []
unfolding close_step and_then
close_20 m room h = rw (send_20 m.steps m.crc (held m) room h)

pub close_acts : (m : MaskRomOperation) (room : ℕ) → 4096 ≤ room
    → let to = moves_at m.steps m.crc (held m) in
    close_step m room ≡ given (does (asks m.steps m.area (length to.bytes)) to.bytes (with_moved m to.crc to.steps))
unfolding close_step and_then
close_acts m room h = rw (send_acts m.steps m.crc (held m) room h)

module _ (u : WholeUpload) (image : List ℕ) (room : ℕ) where
  pub whole_20 : room < 4096 → whole_step u image room ≡ refused too_short []
  unfolding whole_step or_refuse
  whole_20 h = rw (lt-ltb room 4096 h)

  pub whole_27 : 4096 ≤ room → (length image ≡ u.length → ⊥) → whole_step u image room ≡ refused differs []
  unfolding whole_step or_refuse
  whole_27 h e = rw (le-ltb room 4096 h, ne_eqb (length image) u.length e)

  pub whole_sends : 4096 ≤ room → length image ≡ u.length → whole_step u image room ≡ sends_on u (chunk u image) room
  unfolding whole_step or_refuse
  whole_sends h e = rw (le-ltb room 4096 h, eq-eqb (length image) u.length e)

pub sends_acts : (u : WholeUpload) (w : List ℕ) (room : ℕ) → 4096 ≤ room
    → let to = moves_at u.steps (crc_over u.crc w) w in
    sends_on u w room ≡ given (does (asks u.steps u.area (length to.bytes)) to.bytes (sent_on u (length w) to.crc to.steps))
unfolding sends_on and_then
sends_acts u w room h = rw (send_acts u.steps (crc_over u.crc w) w room h)
