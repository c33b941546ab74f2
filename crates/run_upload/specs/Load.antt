-- A run of a whole upload against the stand-in: what it checks, then its turns.
use Rattle.std.specs.Prelude.{ℕ, ◌+◌, ◌/◌, List, [], ◌∷◌, ◌++◌, length}
use Rattle.promise.specs.Told.{Told, given, refused}
use Rattle.promise.specs.Rules.{Rule, or_refuse}
use Rattle.promise.specs.Does.{said, sent, after}
use Rattle.maskrom_transfer.specs.Moves.{block_size}
use Rattle.maskrom.specs.declared.WholeUpload.{WholeUpload}
use Rattle.maskrom.specs.Answers.{Asks, writes, finish}
use Rattle.maskrom.specs.Whole.{whole_step, image_rule}
use Rattle.mock_base.specs.Flash.{flash_rules}
use Rattle.mock.specs.declared.device.MockState.{MockState}
use Rattle.mock.specs.Device.{Call, write_control, store_rule}
use Rattle.promise.specs.Run.{Turned, ends, goes, Ran, ran, tells, runs}

-- the upload, the device, and the store that is lent
pub record LoadState : Type 0 where
  pub upload : WholeUpload
  pub device : MockState
  pub store : List ℕ

abbrev pub load_state : WholeUpload → MockState → List ℕ → LoadState
load_state upload device store = record { upload = upload; device = device; store = store }

-- a transfer that the device accepts is followed by the next step, one that it refuses is the end
unfoldable pub onward : Told Unit → LoadState → Turned Unit LoadState
onward (given done) s = goes s
onward (refused number values) s = ends (refused number values) s

abbrev pub carried : WholeUpload → Call → Turned Unit LoadState
carried upload call = onward call.told (load_state upload call.next call.leaves)

-- the transfer that a step asks for, with the bytes that it sends; the finish and a refusal are the end
unfoldable pub carries : Told Asks → List ℕ → LoadState → Turned Unit LoadState
carries (given (writes c)) bytes s =
    carried s.upload (write_control s.device c.request_type c.request c.value c.index bytes s.store)
carries (given finish) bytes s = ends (given tt) s
carries (refused number values) bytes s = ends (refused number values) s

-- a step into a block of its own; the upload stands as the step hands it back, whatever the transfer comes to
unfoldable pub load_turn : List ℕ → LoadState → Turned Unit LoadState
load_turn image s =
    carries (said (whole_step s.upload image block_size)) (sent (whole_step s.upload image block_size))
    (load_state (after s.upload (whole_step s.upload image block_size)) s.device s.store)

-- "60, 61, 65 and 27 before its first step"; 27: "a whole image not of its starting length"
unfoldable pub load_rules : LoadState → ℕ → ℕ → List Rule
load_rules s flash image =
    flash_rules flash
    ++ (store_rule s.device (length s.store) ∷ image_rule s.upload image ∷ [])

-- a refusal before the first step takes none and changes nothing
abbrev pub unstarted : LoadState → ℕ → List ℕ → Ran Unit LoadState
unstarted s number values = ran (tells (refused number values)) 0 s

unfoldable pub load_run : List ℕ → ℕ → ℕ → LoadState → Ran Unit LoadState
load_run image flash budget s = or_refuse (unstarted s) (load_rules s flash (length image)) (runs (load_turn image) budget s)

-- what is enough for an upload of n bytes from its start: floor(T/4,096)+2, and T is at most n + 4
abbrev pub upload_budget : ℕ → ℕ
upload_budget n = n / block_size + 3
