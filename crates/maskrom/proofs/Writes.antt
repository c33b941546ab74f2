-- No call writes past the first 4,096 output bytes, at every record, also at those that no fresh start makes; and what a transfer puts into the
-- output is seen there.
use Prim.Native.Nat.{ℕ, ◌+◌, ◌-◌, ◌<◌, ◌≤◌}
use mathlib.Core.Path.{◌≡◌}
use mathlib.Core.Bool.{Bool, true, false, not}
use mathlib.Core.List.{List, [], ◌∷◌, ◌++◌}
use native.Mathlib.Omega.{arith}
use native.Mathlib.Decide.{ℕ_discrete}
use lib.ListN.{length, take, drop, length-append, length-take}
use lib.Seq.{take-append_seam}
use lib.Dec.{eqb, ltb}
use Rattle.crc.specs.Check.{crc_over}
use Rattle.promise.specs.Told.{Told, given, refused, and_then}
use Rattle.promise.specs.Rules.{or_refuse, Rule, rule, unless, pick, differs, too_short}
use Rattle.promise.specs.Bytes.{front}
use Rattle.promise.proofs.Order.{length_high_first}
use Rattle.maskrom_transfer.specs.declared.Moved.{Moved}
use Rattle.maskrom_transfer.specs.declared.MaskRomSteps.{MaskRomSteps}
use Rattle.maskrom_transfer.specs.declared.MaskRomSteps.TheVariants.{Writing, Check, Dummy, Done}
use Rattle.maskrom.specs.declared.MaskRomOperation.{MaskRomOperation}
use Rattle.maskrom.specs.declared.WholeUpload.{WholeUpload}
use Rattle.maskrom_transfer.specs.Moves.{block_size, writing, moves_at}
use Rattle.promise.specs.Does.{Does, does, sent}
use Rattle.maskrom_transfer.specs.Sending.{moved, send_step}
use Rattle.maskrom_transfer.proofs.Cases.{writing_block, writing_pad, writing_dummy, writing_last}
use Rattle.maskrom.specs.Answers.{longest, too_long, closed_already, control, took, filled}
use Rattle.maskrom.specs.PartWise.{waiting, held, closed, holding, takes, part_step, asks, with_moved, close_step}
use Rattle.maskrom.specs.Whole.{chunk, sent_on, sends_on, whole_step}
use Rattle.maskrom.proofs.Cases.{most_block}

-- a transfer is what the output then begins with
pub front_seen : (bs out : List ℕ) → take (length bs) (front bs out) ≡ bs
front_seen bs out = take-append_seam bs (drop (length bs) out)

-- at most a block is written: by a step of which every branch writes no more
few_pick : {A R : Type 0} (b : Bool) (x y : Told (Does A R)) → length (sent x) ≤ 4096 → length (sent y) ≤ 4096 → length (sent (pick b x y)) ≤ 4096
few_pick true x y h k = h
few_pick false x y h k = k

few_unless : {A R : Type 0} (rules : List Rule) (t : Told (Does A R)) → length (sent t) ≤ 4096 → length (sent (unless rules t)) ≤ 4096
unfolding or_refuse sent
few_unless [] t h = h
few_unless (r ∷ rs) t h = few_pick r.broken (refused r.number r.values) (unless rs t) (omega arith) (few_unless rs t h)

few_then : {A B R S : Type 0} (f : Does A R → B) (g : Does A R → S) (t : Told (Does A R)) → length (sent t) ≤ 4096
    → length (sent (and_then t (λ (d : Does A R). given (does (f d) d.sends (g d))))) ≤ 4096
unfolding and_then sent
few_then f g (given d) h = h
few_then f g (refused n vs) h = omega arith

few_writing : (crc : ℕ) (w : List ℕ) → Dec (length w ≡ 4096) → Dec (length w ≡ 4095) → Dec (length w ≡ 4094) → length w ≤ 4096
    → length (writing crc w).bytes ≤ 4096
few_writing crc w (yes e) d f h = rw (writing_block crc w e) h
few_writing crc w (no n) (yes e) f h = rw (writing_pad crc w e) (simp length-append (omega arith))
few_writing crc w (no n) (no m) (yes e) h = rw (writing_dummy crc w e) (simp length-append (omega (arith, length_high_first 2 crc)))
few_writing crc w (no n) (no m) (no e) h =
    let l : length w < 4094 = omega arith in
    rw (writing_last crc w l) (simp length-append (omega (arith, length_high_first 2 crc)))

few_moves : (s : MaskRomSteps) (crc : ℕ) (w : List ℕ) → length w ≤ 4096 → length (moves_at s crc w).bytes ≤ 4096
unfolding moves_at
few_moves Writing crc w h = few_writing crc w (ℕ_discrete (length w) 4096) (ℕ_discrete (length w) 4095) (ℕ_discrete (length w) 4094) h
few_moves Check crc w h = omega (arith, length_high_first 2 crc)
few_moves Dummy crc w h = omega arith
few_moves Done crc w h = omega arith

few_taken : {A R : Type 0} (b : Bool) (x y : Does A R) → length x.sends ≤ 4096 → length y.sends ≤ 4096 → length (pick b x y).sends ≤ 4096
few_taken true x y h k = h
few_taken false x y h k = k

pub part_writes : (m : MaskRomOperation) (part : List ℕ) (room : ℕ) → length (sent (part_step m part room)) ≤ block_size
unfolding part_step takes sent
part_writes m part room =
    let ys = take (4096 - waiting m) part in
    let h : length (held m ++ ys) ≤ 4096 = simp (length-append, length-take) (omega arith) in
    few_unless
    (rule (ltb room block_size) too_short []
    ∷ rule (closed m.steps) closed_already []
    ∷ rule (ltb longest (m.taken + length part)) too_long []
    ∷ [])
    (given (takes m ys))
    (few_taken (eqb (waiting m + length ys) block_size)
    (does (filled (length ys) (control m.area block_size)) (held m ++ ys) (holding m ys)) (does (took (length ys)) [] (holding m ys)) h (omega arith))

few_sent : (s : MaskRomSteps) (crc : ℕ) (w : List ℕ) (room : ℕ) → length w ≤ 4096 → length (sent (send_step s crc w room)) ≤ 4096
unfolding send_step sent
few_sent s crc w room h =
    let to = moves_at s crc w in
    few_unless (rule (ltb room block_size) too_short [] ∷ []) (given (does (moved to) to.bytes tt)) (few_moves s crc w h)

pub close_writes : (m : MaskRomOperation) (room : ℕ) → length (sent (close_step m room)) ≤ block_size
unfolding close_step
close_writes m room =
    let w : length (held m) ≤ 4096 = simp length-take (omega arith) in
    few_then (λ (d : Does Moved Unit). asks m.steps m.area d.says.size) (λ (d : Does Moved Unit). with_moved m d.says.crc d.says.steps)
    (send_step m.steps m.crc (held m) room) (few_sent m.steps m.crc (held m) room w)

pub whole_writes : (u : WholeUpload) (image : List ℕ) (room : ℕ) → length (sent (whole_step u image room)) ≤ block_size
unfolding whole_step sends_on
whole_writes u image room =
    let w = chunk u image in
    let c = crc_over u.crc w in
    let h : length w ≤ 4096 = simp length-take (omega (arith, most_block u.steps)) in
    few_unless (rule (ltb room block_size) too_short [] ∷ rule (not (eqb (length image) u.length)) differs [] ∷ []) (sends_on u w room)
    (few_then (λ (d : Does Moved Unit). asks u.steps u.area d.says.size) (λ (d : Does Moved Unit). sent_on u (length w) d.says.crc d.says.steps)
    (send_step u.steps c w room) (few_sent u.steps c w room h))
