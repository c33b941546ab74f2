-- Programs that the contracts rule out: each theorem is that the wrong program's answer does not meet the contract at a named input.
use Prim.Native.Nat.{ℕ, ◌<◌, ◌≤◌}
use mathlib.Core.Path.{◌≡◌, refl, ap, sym, ◌∙◌}
use mathlib.Core.List.{List, [], ◌∷◌}
use native.Mathlib.Omega.{arith}
use lib.ListN.{length, take, get_or, replicate}
use lib.Dec.{lit≤}
use borrow.Author.Tests.{lt-ltb, le-ltb}
use Rattle.promise.specs.Told.{Told, given, refused, number, and_then}
use Rattle.promise.specs.Rules.{or_refuse, pick, differs}
use Rattle.promise.specs.Bytes.{front, low_first, high_first}
use Rattle.crc.specs.Check.{crc_over}
use Rattle.maskrom_transfer.specs.Moves.{writing, moves_at}
use Rattle.promise.specs.Does.{Does, Meets, said, sent, after}
use Rattle.maskrom_transfer.specs.Sending.{send_step}
use Rattle.maskrom.specs.declared.Control.{Control}
use Rattle.maskrom.specs.declared.MaskRomOperation.{MaskRomOperation}
use Rattle.maskrom.specs.declared.WholeUpload.{WholeUpload}
use Rattle.maskrom.specs.declared.PartStep.TheVariants as part
use Rattle.maskrom.specs.declared.PartStepped.{PartStepped}
use Rattle.maskrom.specs.declared.UploadStep.TheVariants as step
use Rattle.maskrom.specs.declared.CloseStepped.{CloseStepped}
use Rattle.maskrom.specs.declared.WholeStepped.{WholeStepped}
use Rattle.maskrom.specs.declared.WholeStart.{WholeStart}
use Rattle.maskrom.specs.Answers.{longest, too_long, Handed, Asks, writes, finish, part_told, step_told, start_told}
use Rattle.maskrom.specs.PartWise.{fresh, with_block, closed, takes, part_step, asks, close_step}
use Rattle.maskrom.specs.Whole.{fresh_whole, start_step, StartMeets, most, sends_on, whole_step}
use Rattle.maskrom.proofs.Cases.{part_takes}
use Rattle.std.specs.declared.result.Result.TheVariants.{Ok, Err}
use Rattle.maskrom.specs.declared.PartError.TheVariants as part_error
use Rattle.maskrom.specs.declared.UploadError.TheVariants as upload_error

-- `new`: one record for every area
pub area_dropped : (r : MaskRomOperation) → r ≡ fresh 0 → r ≡ fresh 1 → ⊥
area_dropped r zero one =
    let differ : ◌≡◌ {A = ℕ} 0 1 = ap (λ (m : MaskRomOperation). m.area) (sym zero ∙ one) in omega arith

-- `new`: a check that starts at 0
pub another_start : (r : MaskRomOperation) (area : ℕ) → r.crc ≡ 0 → r ≡ fresh area → ⊥
another_start r area zero begun =
    let differ : ◌≡◌ {A = ℕ} 0 0xFFFF = sym zero ∙ ap (λ (m : MaskRomOperation). m.crc) begun in omega arith

-- `part`: the output written while the block is not full
pub writes_when_not_full : (r : PartStepped) (old new : List ℕ) → 4096 ≤ length old → (new ≡ old → ⊥)
    → Meets (part_told r.step) r.next old new (fresh 0) (part_step (fresh 0) (1 ∷ []) (length old)) → ⊥
unfolding sent takes closed
writes_when_not_full r old new h changed meets =
    changed
    (meets.leaves
    ∙ ap (λ (t : Told (Does Handed MaskRomOperation)). front (sent t) old) (part_takes (fresh 0) (1 ∷ []) (length old) h refl (lit≤ tt)))

-- one byte before the longest image
abbrev pub nearly : MaskRomOperation
nearly = with_block (fresh 0) 4294967294 0 (replicate 4096 0)

-- `part`: an image of 4,294,967,295 bytes refused
pub longest_refused : (r : PartStepped) (old new : List ℕ) → part_told r.step ≡ refused too_long []
    → Meets (part_told r.step) r.next old new nearly (part_step nearly (1 ∷ []) 4096) → ⊥
unfolding part_step or_refuse takes closed said number
longest_refused r old new told meets = let differ : ◌≡◌ {A = ℕ} 25 0 = ap number (sym told ∙ meets.tells) in omega arith

-- the area that is asked for, where a write is
area_of : Told Asks → ℕ
area_of (given (writes c)) = c.index
area_of (given finish) = 0
area_of (refused n vs) = 0

-- `close`: a transfer to another area
pub close_area_lost : (r : CloseStepped) (c : Control) (old new : List ℕ) → step_told r.step ≡ given (writes c) → c.index ≡ 0
    → Meets (step_told r.step) r.next old new (fresh 1) (close_step (fresh 1) 4096) → ⊥
unfolding close_step and_then send_step or_refuse moves_at writing asks said area_of
close_area_lost r c old new told zero meets =
    let differ : ◌≡◌ {A = ℕ} 0 1 = sym zero ∙ ap area_of (sym told ∙ meets.tells) in omega arith

-- `close`: a step that leaves the record as it was
pub close_does_nothing : (r : CloseStepped) (old new : List ℕ) → r.next ≡ fresh 1
    → Meets (step_told r.step) r.next old new (fresh 1) (close_step (fresh 1) 4096) → ⊥
unfolding close_step and_then send_step or_refuse moves_at writing after closed
close_does_nothing r old new same meets =
    let differ : ◌≡◌ {A = ℕ} 0 1 = ap (λ (m : MaskRomOperation). pick (closed m.steps) 1 0) (sym same ∙ meets.next) in omega arith

-- `close`: two zeros in the place of the check, as an upload without one had
pub close_sends_zeros : (r : CloseStepped) (old new : List ℕ) → take 2 new ≡ 0 ∷ 0 ∷ []
    → Meets (step_told r.step) r.next old new (fresh 1) (close_step (fresh 1) 4096) → ⊥
unfolding close_step and_then send_step or_refuse moves_at writing high_first low_first sent
close_sends_zeros r old new zeros meets =
    let differ : ◌≡◌ {A = ℕ} 0 0xFF = ap (λ (l : List ℕ). get_or l 0 0) (sym zeros ∙ ap (take 2) meets.leaves) in omega arith

-- `write_area`: beside a refused start a record of another length
pub refused_start_keeps_length : (r : WholeStart) (area : ℕ) (image : List ℕ) → longest < length image
    → r.upload.length ≡ 1 → StartMeets r area image → ⊥
unfolding start_step or_refuse after
refused_start_keeps_length r area image h one meets =
    let refusing : start_step area image ≡ refused too_long [] = rw (lt-ltb longest (length image) h) in
    let differ : ◌≡◌ {A = ℕ} 1 0 =
    sym one ∙ ap (λ (u : WholeUpload). u.length) (meets.next ∙ ap (after (fresh_whole area 0)) refusing) in
    omega arith

-- `write_area`: an image of 4,294,967,295 bytes refused
pub longest_start_refused : (r : WholeStart) (area : ℕ) (image : List ℕ) → length image ≡ longest
    → start_told r.start ≡ refused too_long [] → StartMeets r area image → ⊥
unfolding start_step or_refuse said number
longest_start_refused r area image e told meets =
    let starts : number (said (start_step area image)) ≡ 0 = rw (le-ltb longest (length image) (omega arith)) in
    let differ : ◌≡◌ {A = ℕ} 25 0 = ap number (sym told ∙ meets.tells) ∙ starts in
    omega arith

-- a whole upload of one byte
abbrev pub whole : WholeUpload
whole = fresh_whole 1 1

-- `step`: 27 against what was taken and not against the length
pub another_length : (r : WholeStepped) (old new : List ℕ) → step_told r.step ≡ refused differs []
    → Meets (step_told r.step) r.next old new whole (whole_step whole (7 ∷ []) 4096) → ⊥
unfolding whole_step sends_on and_then send_step or_refuse moves_at writing asks most said number
another_length r old new told meets = let differ : ◌≡◌ {A = ℕ} 27 0 = ap number (sym told ∙ meets.tells) in omega arith

-- `step`: a transfer to another area
pub step_area_lost : (r : WholeStepped) (c : Control) (old new : List ℕ) → step_told r.step ≡ given (writes c) → c.index ≡ 0
    → Meets (step_told r.step) r.next old new whole (whole_step whole (7 ∷ []) 4096) → ⊥
unfolding whole_step sends_on and_then send_step or_refuse moves_at writing asks most said area_of
step_area_lost r c old new told zero meets =
    let differ : ◌≡◌ {A = ℕ} 0 1 = sym zero ∙ ap area_of (sym told ∙ meets.tells) in omega arith

-- `step`: the same two zeros, of an empty image
pub step_sends_zeros : (r : WholeStepped) (old new : List ℕ) → take 2 new ≡ 0 ∷ 0 ∷ []
    → Meets (step_told r.step) r.next old new (fresh_whole 1 0) (whole_step (fresh_whole 1 0) [] 4096) → ⊥
unfolding whole_step sends_on and_then send_step or_refuse moves_at writing high_first low_first most crc_over sent
step_sends_zeros r old new zeros meets =
    let differ : ◌≡◌ {A = ℕ} 0 0xFF = ap (λ (l : List ℕ). get_or l 0 0) (sym zeros ∙ ap (take 2) meets.leaves) in omega arith

-- `number` of what `part` gives: one number for every answer
pub fixed_part_number : (n : ℕ) → n ≡ number (part_told (Ok (part.Taken 0))) → n ≡ number (part_told (Err part_error.OutputTooShort)) → ⊥
unfolding number part_told
fixed_part_number n took short = let differ : ◌≡◌ {A = ℕ} 0 20 = sym took ∙ short in omega arith

-- `number` of what `part` gives: closed already, told as an image that is too long
pub closed_as_too_long : number (part_told (Err part_error.AlreadyClosed)) ≡ 25 → ⊥
unfolding number part_told
closed_as_too_long e = let differ : ◌≡◌ {A = ℕ} 26 25 = e in omega arith

-- `number` of what `close` and `step` give: one number for every answer
pub fixed_step_number : (n : ℕ) → n ≡ number (step_told (Ok step.Finished)) → n ≡ number (step_told (Err upload_error.ImageDiffers)) → ⊥
unfolding number step_told
fixed_step_number n done other = let differ : ◌≡◌ {A = ℕ} 0 27 = sym done ∙ other in omega arith

-- `number` of what `close` and `step` give: an output that is too short, told as data that differs
pub short_as_differing : number (step_told (Err upload_error.OutputTooShort)) ≡ 27 → ⊥
unfolding number step_told
short_as_differing e = let differ : ◌≡◌ {A = ℕ} 20 27 = e in omega arith

-- `number` of what `write_area` gives: one number for every answer
pub fixed_start_number : (n : ℕ) → n ≡ number (start_told (Ok tt)) → n ≡ number (start_told (Err (record {}))) → ⊥
unfolding number start_told
fixed_start_number n begun long = let differ : ◌≡◌ {A = ℕ} 0 25 = sym begun ∙ long in omega arith

-- `number` of what `write_area` gives: a start told as a refusal
pub started_as_refused : number (start_told (Ok tt)) ≡ 25 → ⊥
unfolding number start_told
started_as_refused e = let differ : ◌≡◌ {A = ℕ} 0 25 = e in omega arith
