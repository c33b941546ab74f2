-- A step of a whole upload asks for as many bytes as it sends.
use Prim.Native.Nat.{ℕ}
use mathlib.Core.Path.{◌≡◌}
use mathlib.Core.Bool.{Bool, true, false, not}
use mathlib.Core.List.{List, []}
use native.Mathlib.Omega.{arith}
use lib.ListN.{length}
use lib.Dec.{ltb, eqb}
use Rattle.crc.specs.Check.{crc_over}
use Rattle.promise.specs.Told.{Told, given, refused, and_then}
use Rattle.promise.specs.Rules.{or_refuse, pick, differs, too_short}
use Rattle.maskrom_transfer.specs.declared.MaskRomSteps.{MaskRomSteps}
use Rattle.maskrom_transfer.specs.declared.MaskRomSteps.TheVariants.{Writing, Check, Dummy, Done}
use Rattle.maskrom_transfer.specs.declared.Moved.{Moved}
use Rattle.promise.specs.Does.{Does, does, said, sent}
use Rattle.maskrom_transfer.specs.Moves.{Moves, moves_at, block_size}
use Rattle.maskrom_transfer.specs.Sending.{moved, send_step}
use Rattle.maskrom.specs.declared.Control.{Control}
use Rattle.maskrom.specs.declared.WholeUpload.{WholeUpload}
use Rattle.maskrom.specs.Answers.{Asks, writes, control}
use Rattle.maskrom.specs.PartWise.{asks}
use Rattle.maskrom.specs.Whole.{chunk, sent_on, sends_on, whole_step}

abbrev Sized : {R : Type 0} → Told (Does Asks R) → Type 0
Sized t = (c : Control) → said t ≡ given (writes c) → c.size ≡ length (sent t)

sized_refused : (R : Type 0) (n : ℕ) (values : List ℕ) → Sized {R = R} (refused n values)
unfolding said
sized_refused R n values c e = absurd (let z : ◌≡◌ {A = ℕ} 0 1 = cc in omega arith)

sized_pick : {R : Type 0} (b : Bool) (x y : Told (Does Asks R)) → Sized x → Sized y → Sized (pick b x y)
sized_pick true x y h k = h
sized_pick false x y h k = k

sized_does : {R : Type 0} (steps : MaskRomSteps) (area : ℕ) (bytes : List ℕ) (r : R) → Sized (given (does (asks steps area (length bytes)) bytes r))
unfolding said sent asks
sized_does Writing area bytes r c e = let same : control area (length bytes) ≡ c = cc in rw (← same)
sized_does Check area bytes r c e = let same : control area (length bytes) ≡ c = cc in rw (← same)
sized_does Dummy area bytes r c e = let same : control area (length bytes) ≡ c = cc in rw (← same)
sized_does Done area bytes r c e = absurd (let z : ◌≡◌ {A = ℕ} 0 1 = cc in omega arith)

-- behind a step of the transfer below
sized_then : (b : Bool) (u : WholeUpload) (w : List ℕ) (to : Moves)
    → Sized (and_then (pick b (refused too_short []) (given (does (moved to) to.bytes tt)))
    (λ (d : Does Moved Unit). given (does (asks u.steps u.area d.says.size) d.sends (sent_on u (length w) d.says.crc d.says.steps))))
unfolding and_then
sized_then true u w to = sized_refused WholeUpload too_short []
sized_then false u w to = sized_does u.steps u.area to.bytes (sent_on u (length w) to.crc to.steps)

pub whole_sized : (u : WholeUpload) (image : List ℕ) (room : ℕ) (c : Control) → said (whole_step u image room) ≡ given (writes c)
    → c.size ≡ length (sent (whole_step u image room))
unfolding whole_step sends_on send_step or_refuse
whole_sized u image room =
    let w = chunk u image in
    let on = sends_on u w room in
    sized_pick (ltb room block_size) (refused too_short []) (pick (not (eqb (length image) u.length)) (refused differs []) on) (sized_refused WholeUpload too_short [])
    (sized_pick (not (eqb (length image) u.length)) (refused differs []) on (sized_refused WholeUpload differs [])
    (sized_then (ltb room block_size) u w (moves_at u.steps (crc_over u.crc w) w)))
