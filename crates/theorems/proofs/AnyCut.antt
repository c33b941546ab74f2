-- What the upload is for: any cut of any image gives the same transfers as the whole image, and they are the upload's bytes.
use Prim.Native.Nat.{ℕ, ◌+◌, ◌/◌, ◌%◌, ◌<◌, ◌≤◌}
use mathlib.Core.Path.{◌≡◌, refl, ap, sym, ◌∙◌}
use mathlib.Core.List.{List, [], ◌∷◌, ◌++◌, map, flatten}
use native.Mathlib.Nat.{zero-add}
use native.Mathlib.Omega.{arith}
use lib.ListN.{length, replicate, length-map, length-append, length-replicate}
use native.Mathlib.Decide.{ℕ_discrete}
use borrow.Author.Tests.{le-ltb, ne_eqb}
use Rattle.promise.specs.Rules.{or_refuse}
use Rattle.promise.specs.Told.{given}
use Rattle.promise.proofs.Order.{length_high_first}
use Rattle.crc.specs.Check.{start, check, crc_over}
use Rattle.maskrom.specs.declared.WholeUpload.{WholeUpload}
use Rattle.maskrom_transfer.specs.Moves.{block_size, check_bytes}
use Rattle.maskrom.specs.Answers.{longest}
use Rattle.maskrom.specs.Made.{pad, padded}
use Rattle.theorems.specs.UploadBytes.{last_zero, framed, upload_bytes, cut, total}
use Rattle.promise.specs.Does.{does, said, after}
use Rattle.maskrom.specs.PartWise.{fresh}
use Rattle.maskrom.specs.Whole.{fresh_whole, start_step, whole_step}
use Rattle.theorems.specs.PartDriver.{Transfer, transfer, ended, unending, on_start, drive_parts, drive_whole, transfers_of}
use Rattle.theorems.proofs.CutIntoTransfers.{cut_many, cut_sizes, cut_joins}
use Rattle.theorems.proofs.BehindTheImage.{ending, upload_ending}
use Rattle.theorems.proofs.StepsToFinish.{Sends, enough, needed}
use Rattle.theorems.proofs.WholeSends.{image_sends}
use Rattle.theorems.proofs.PartsSend.{Open, left, due, parts_end}

-- what a fresh upload has to send: the upload's bytes, cut into transfers
pub start_due : (area : ℕ) (image : List ℕ) → due (fresh area) image ≡ transfers_of area image
unfolding transfers_of left
start_due area image =
    ap (λ (l : List ℕ). map (transfer area) (cut l))
    (ap (λ (k : ℕ). image ++ ending (crc_over start image) k) (zero-add (length image)) ∙ sym (upload_ending image))

pub fresh_open : (area : ℕ) → Open (fresh area)
fresh_open area = record { writes_on = refl; block_long = length-replicate {A = ℕ} 4096 0 }

-- DEMAND 3, for one caller, who cuts an image of at most 4,294,967,295 bytes into parts in any way, empty ones too: he hands them over in order to a fresh
-- upload, with an output of a block at least, hands over again what was not taken, then closes and steps to the finish. No call is refused, the driving
-- ends, and the transfers are those of the upload's bytes. `AnyCaller` has it for every caller.
pub any_cut : (area : ℕ) (image : List ℕ) (parts : List (List ℕ)) (out : List ℕ)
    → flatten parts ≡ image → length image ≤ longest → block_size ≤ length out
    → drive_parts area parts out ≡ ended (transfers_of area image)
unfolding drive_parts
any_cut area image parts out e l h =
    let n : 0 + length (flatten parts) ≤ longest = omega (arith, ap length e) in
    parts_end parts (fresh area) out (fresh_open area) h n
    ∙ ap (λ (l : List ℕ). ended (due (fresh area) l)) e
    ∙ ap ended (start_due area image)

-- whichever two bytes stand in the place of the check
pub framed_length : (two image : List ℕ) → length two ≡ 2 → length (framed two image) ≡ total (length image)
unfolding framed padded total
framed_length two image e =
    let n = length image in
    let all = length-append (image ++ pad n) (two ++ last_zero n) in
    let body = length-append image (pad n) in
    let rest = length-append two (last_zero n) in
    omega arith

pub upload_length : (image : List ℕ) → length (upload_bytes image) ≡ total (length image)
unfolding upload_bytes
upload_length image = framed_length (check_bytes (check (padded image))) image (length_high_first 2 (check (padded image)))

-- "floor(T/4,096)+1 transfers"
pub how_many_lem : (area : ℕ) (image : List ℕ) → length (transfers_of area image) ≡ total (length image) / block_size + 1
unfolding transfers_of
how_many_lem area image =
    length-map (cut (upload_bytes image)) (transfer area) ∙ cut_many (upload_bytes image)
    ∙ ap (λ (k : ℕ). k / 4096 + 1) (upload_length image)

-- a whole upload in its first state
pub started : (area : ℕ) (image : List ℕ) → length image ≤ longest
    → start_step area image ≡ given (does tt [] (fresh_whole area (length image)))
unfolding start_step or_refuse
started area image l = rw (le-ltb longest (length image) l)

-- a whole upload sends the transfers of its image
pub whole_start : (area : ℕ) (image : List ℕ)
    → Sends (λ (u : WholeUpload) (room : ℕ). whole_step u image room) (fresh_whole area (length image)) (transfers_of area image)
unfolding transfers_of
whole_start area image =
    rw (upload_ending image)
    (image_sends image (length image / 4096) (fresh_whole area (length image)) image refl refl refl (zero-add (length image)) refl refl)

-- THE WHOLE UPLOAD gives the same list, by floor(T/4,096)+2 steps ..
pub whole_image : (area : ℕ) (image out : List ℕ) → length image ≤ longest → block_size ≤ length out
    → drive_whole (total (length image) / block_size + 2) area image out ≡ ended (transfers_of area image)
unfolding drive_whole on_start said after
whole_image area image out l h =
    rw (started area image l)
    (enough (λ (u : WholeUpload) (room : ℕ). whole_step u image room) (total (length image) / 4096 + 2) (fresh_whole area (length image)) (transfers_of area image) out
    (whole_start area image) h (omega (arith, how_many_lem area image)))

-- .. and no fewer
pub no_fewer : (area : ℕ) (image out : List ℕ) (k : ℕ) → length image ≤ longest → block_size ≤ length out
    → k < total (length image) / block_size + 2 → drive_whole k area image out ≡ unending
unfolding drive_whole on_start said after
no_fewer area image out k l h f =
    rw (started area image l)
    (needed (λ (u : WholeUpload) (room : ℕ). whole_step u image room) k (fresh_whole area (length image)) (transfers_of area image) out
    (whole_start area image) h (omega (arith, how_many_lem area image)))

-- whichever way it was handed over
pub same_list : (area : ℕ) (image : List ℕ) (parts : List (List ℕ)) (out out' : List ℕ)
    → flatten parts ≡ image → length image ≤ longest → block_size ≤ length out → block_size ≤ length out'
    → drive_parts area parts out ≡ drive_whole (total (length image) / block_size + 2) area image out'
same_list area image parts out out' e l h h' = any_cut area image parts out e l h ∙ sym (whole_image area image out' l h')

pub bytes_of : (area : ℕ) (ls : List (List ℕ)) → map (λ (t : Transfer). t.bytes) (map (transfer area) ls) ≡ ls
bytes_of area [] = refl
bytes_of area (l ∷ ls) = ap (λ (r : List (List ℕ)). l ∷ r) (bytes_of area ls)

-- the list is the upload's bytes ..
pub nothing_lost : (area : ℕ) (image : List ℕ)
    → flatten (map (λ (t : Transfer). t.bytes) (transfers_of area image)) ≡ upload_bytes image
unfolding transfers_of
nothing_lost area image = ap flatten (bytes_of area (cut (upload_bytes image))) ∙ cut_joins (upload_bytes image)

-- .. each transfer 4,096 long but the last
pub sizes : (image : List ℕ)
    → map length (cut (upload_bytes image)) ≡ replicate (total (length image) / block_size) block_size ++ (total (length image) % block_size ∷ [])
sizes image =
    cut_sizes (upload_bytes image) ∙ ap (λ (k : ℕ). replicate (k / 4096) 4096 ++ (k % 4096 ∷ [])) (upload_length image)

total_by : (n : ℕ) → Dec (n % 4096 ≡ 4095) → Dec (n % 4096 ≡ 4094) → 0 < total n % 4096
unfolding total pad last_zero
total_by n (yes e) d = rw (e) (omega arith)
total_by n (no e) (yes d) = rw (d) (omega arith)
total_by n (no e) (no d) = rw (ne_eqb (n % 4096) 4095 e, ne_eqb (n % 4096) 4094 d) (omega arith)

-- .. which is 1 to 4,095 long
pub last_size : (n : ℕ) → (0 < total n % block_size) × (total n % block_size < block_size)
last_size n = (total_by n (ℕ_discrete (n % 4096) 4095) (ℕ_discrete (n % 4096) 4094), omega arith)
