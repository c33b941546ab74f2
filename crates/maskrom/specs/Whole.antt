-- The whole upload: the image is lent at every step, and the record holds none of it.
use Rattle.std.specs.Prelude.{ℕ, ◌+◌, not, ◌≡◌, List, [], ◌∷◌, length, take, drop, eqb, ltb}
use Rattle.promise.specs.Told.{Told, given, and_then}
use Rattle.promise.specs.Rules.{Rule, rule, unless, lent_rule, room_rule}
use Rattle.crc.specs.Check.{start, crc_over}
use Rattle.maskrom_transfer.specs.declared.MaskRomSteps.{MaskRomSteps}
use Rattle.maskrom_transfer.specs.declared.MaskRomSteps.TheVariants.{Writing, Check, Dummy, Done}
use Rattle.maskrom.specs.declared.WholeUpload.{WholeUpload}
use Rattle.maskrom.specs.declared.WholeStart.{WholeStart}
use Rattle.maskrom_transfer.specs.declared.Moved.{Moved}
use Rattle.maskrom_transfer.specs.Moves.{block_size}
use Rattle.maskrom.specs.Answers.{longest, too_long, start_told, Asks}
use Rattle.promise.specs.Does.{Does, does, said, after}
use Rattle.maskrom_transfer.specs.Sending.{send_step}
use Rattle.maskrom.specs.PartWise.{asks}

abbrev pub fresh_whole : ℕ → ℕ → WholeUpload
fresh_whole area n = record {
  area = area;
  length = n;
  taken = 0;
  crc = start;
  steps = Writing;
}

-- "Whole upload: 25 at the start"
unfoldable pub start_step : ℕ → List ℕ → Told (Does Unit WholeUpload)
start_step area image =
    unless (rule (ltb longest (length image)) too_long [] ∷ []) (given (does tt [] (fresh_whole area (length image))))

-- beside a refusal stands a fresh record of length 0
pub record StartMeets (r : WholeStart) (area : ℕ) (image : List ℕ) : Type 0 where
  pub tells : start_told r.start ≡ said (start_step area image)
  pub next : r.upload ≡ after (fresh_whole area 0) (start_step area image)

-- how much of the image goes with a step: a block at most while it is written, and nothing after
unfoldable pub most : MaskRomSteps → ℕ
most Writing = block_size
most Check = 0
most Dummy = 0
most Done = 0

abbrev pub chunk : WholeUpload → List ℕ → List ℕ
chunk u image = take (most u.steps) (drop u.taken image)

abbrev pub sent_on : WholeUpload → ℕ → ℕ → MaskRomSteps → WholeUpload
sent_on u n crc steps = record {
  area = u.area;
  length = u.length;
  taken = u.taken + n;
  crc = crc;
  steps = steps;
}

-- the next transfer, of these bytes of the image
unfoldable pub sends_on : WholeUpload → List ℕ → ℕ → Told (Does Asks WholeUpload)
sends_on u w room =
    and_then (send_step u.steps (crc_over u.crc w) w room)
    (λ (d : Does Moved Unit).
    given
    (does (asks u.steps u.area d.says.size) d.sends (sent_on u (length w) d.says.crc d.says.steps)))

-- "a whole image not of its starting length", by its length
abbrev pub image_rule : WholeUpload → ℕ → Rule
image_rule u image = lent_rule (not (eqb image u.length))

-- "Each step, finish included: .. whole 20, then 27"
unfoldable pub whole_step : WholeUpload → List ℕ → ℕ → Told (Does Asks WholeUpload)
whole_step u image room =
    unless
    (room_rule room block_size ∷ image_rule u (length image) ∷ [])
    (sends_on u (chunk u image) room)
