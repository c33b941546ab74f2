-- Handing an image over to the end: the driver sees nothing of an upload but its answers and the output.
use Rattle.std.specs.Prelude.{ℕ, zero, suc, ◌+◌, ◌≤◌, length, take, drop, replicate, ◌≡◌}
use mathlib.Core.List.{List, [], ◌∷◌, map, ◌++◌, flatten}
use Rattle.promise.specs.Told.{Told, given, refused}
use Rattle.promise.specs.Bytes.{front}
use Rattle.maskrom.specs.declared.Control.{Control}
use Rattle.maskrom.specs.declared.MaskRomOperation.{MaskRomOperation}
use Rattle.maskrom.specs.declared.WholeUpload.{WholeUpload}
use Rattle.theorems.specs.UploadBytes.{upload_bytes, cut}
use Rattle.promise.specs.Does.{Does, said, sent, after}
use Rattle.maskrom.specs.Answers.{control, Handed, took, filled, Asks, writes, finish}
use Rattle.maskrom.specs.PartWise.{fresh, part_step, close_step}
use Rattle.maskrom.specs.Whole.{fresh_whole, start_step, whole_step}
use Rattle.maskrom_transfer.specs.Moves.{block_size}

-- a control write and the bytes that go with it
pub record Transfer : Type 0 where
  pub setup : Control
  pub bytes : List ℕ

-- what the driving comes to: a finish after these transfers, a refusal, or neither within the calls allowed
pub data Drive : Type 0 where
  ended : List Transfer → Drive
  stopped : ℕ → Drive
  unending : Drive

unfoldable pub sending : Transfer → Drive → Drive
sending t (ended ts) = ended (t ∷ ts)
sending t (stopped n) = stopped n
sending t unending = unending

-- the transfer that an answer asks for: as many bytes of the output as it says
abbrev pub seen : Control → List ℕ → Transfer
seen c out = record { setup = c; bytes = take c.size out }

-- closing and whole-upload steps

unfoldable pub on_step : Told Asks → List ℕ → Drive → Drive
on_step (given (writes c)) out rest = sending (seen c out) rest
on_step (given finish) out rest = ended []
on_step (refused n vs) out rest = stopped n

-- step to the finish, by k calls at most
unfoldable pub step_through : {R : Type 0} → (R → ℕ → Told (Does Asks R)) → ℕ → R → List ℕ → Drive
step_through step zero r out = unending
step_through step (suc k) r out =
    let s = step r (length out) in
    let now = front (sent s) out in
    on_step (said s) now (step_through step k (after r s) now)

-- parts

unfoldable pub or_again : List ℕ → Drive → Drive → Drive
or_again [] done again = done
or_again (x ∷ xs) done again = again

-- what was not taken goes to `next`: the count is the answer's
unfoldable pub on_part : Told Handed → List ℕ → List ℕ → (List ℕ → Drive) → Drive
on_part (given (took n)) part out next = next (drop n part)
on_part (given (filled n c)) part out next = sending (seen c out) (next (drop n part))
on_part (refused n vs) part out next = stopped n

-- one part, and again what was not taken of it, by k calls at most
unfoldable pub hand : ℕ → MaskRomOperation → List ℕ → List ℕ → (MaskRomOperation → List ℕ → Drive) → Drive
hand zero m part out go = unending
hand (suc k) m part out go =
    let s = part_step m part (length out) in
    let now = front (sent s) out in
    on_part (said s) part now (λ rest. or_again rest (go (after m s) now) (hand k (after m s) rest now go))

-- all parts in order; every one is handed over once at least, and a call takes a byte at least of one that is not empty
unfoldable pub hand_all : List (List ℕ) → MaskRomOperation → List ℕ → (MaskRomOperation → List ℕ → Drive) → Drive
hand_all [] m out go = go m out
hand_all (part ∷ parts) m out go = hand (length part + 1) m part out (λ m' now. hand_all parts m' now go)

-- a fresh upload, the parts, then closing steps: two transfers at most and the finish
unfoldable pub drive_parts : ℕ → List (List ℕ) → List ℕ → Drive
drive_parts area parts out = hand_all parts (fresh area) out (λ m now. step_through close_step 3 m now)

unfoldable pub on_start : Told Unit → Drive → Drive
on_start (given u) rest = rest
on_start (refused n vs) rest = stopped n

-- a fresh whole upload, by k steps at most
unfoldable pub drive_whole : ℕ → ℕ → List ℕ → List ℕ → Drive
drive_whole k area image out =
    let s = start_step area image in
    on_start (said s) (step_through (λ (u : WholeUpload) (room : ℕ). whole_step u image room) k (after (fresh_whole area 0) s) out)

-- what is to come of it: the upload's bytes, cut into transfers to the area
abbrev pub transfer : ℕ → List ℕ → Transfer
transfer area bs = record { setup = control area (length bs); bytes = bs }

unfoldable pub transfers_of : ℕ → List ℕ → List Transfer
transfers_of area image = map (transfer area) (cut (upload_bytes image))

-- the sizes of an upload's transfers
abbrev pub sizes_of : List ℕ → List ℕ
sizes_of image = map length (cut (upload_bytes image))

-- an image of n bytes under any cut: what comes of it, how many transfers, and how long the last is
pub record Uploads (n many last : ℕ) : Type 0 where
  pub ends : (area : ℕ) (image : List ℕ) (parts : List (List ℕ)) (out : List ℕ) → length image ≡ n → flatten parts ≡ image
      → block_size ≤ length out → drive_parts area parts out ≡ ended (transfers_of area image)
  pub number : (area : ℕ) (image : List ℕ) → length image ≡ n → length (transfers_of area image) ≡ many + 1
  pub lengths : (image : List ℕ) → length image ≡ n → sizes_of image ≡ replicate many block_size ++ (last ∷ [])
