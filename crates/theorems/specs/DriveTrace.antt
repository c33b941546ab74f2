-- The transfers of an upload that is driven over one output, as C and Rust link it (ffi/Drive), in order: those of each call, by what it is told and by
-- the output as it leaves it; and how many calls it takes.
use Rattle.std.specs.Prelude.{ℕ, zero, suc, ◌+◌, ◌-◌, ◌*◌, ◌/◌, ◌%◌, List, [], ◌++◌, eqb, length, take}
use Rattle.promise.specs.Told.{Told, given, refused, number}
use Rattle.promise.specs.Rules.{pick}
use Rattle.promise.specs.Bytes.{front}
use Rattle.promise.specs.Does.{Does, said, sent}
use Rattle.promise.specs.Run.{Turned, ends, goes, end_told, runs}
use Rattle.maskrom_transfer.specs.Moves.{block_size}
use Rattle.maskrom.specs.declared.MaskRomOperation.{MaskRomOperation}
use Rattle.maskrom.specs.declared.WholeUpload.{WholeUpload}
use Rattle.maskrom.specs.Answers.{Handed, Asks}
use Rattle.maskrom.specs.PartWise.{fresh, part_step, close_step}
use Rattle.maskrom.specs.Whole.{start_step}
use Rattle.ffi.specs.Drive.{Stepping, stepping, step_turn, step_of, Handing, handing, part_turn, most_closing}
use Rattle.theorems.specs.UploadBytes.{total}
use Rattle.theorems.specs.PartDriver.{Transfer}
use Rattle.theorems.specs.AnyCaller.{handed_seen, asked_seen}

-- none from a refusal
unfoldable pub part_shows : Told Handed → List ℕ → List Transfer
part_shows (given a) out = handed_seen a out
part_shows (refused n vs) out = []

unfoldable pub step_shows : Told Asks → List ℕ → List Transfer
step_shows (given a) out = asked_seen a out
step_shows (refused n vs) out = []

-- what one turn shows
unfoldable pub part_turn_shows : ℕ → Handing → List Transfer
part_turn_shows size s =
    let d = part_step s.operation (take size s.left) (length s.out) in
    pick (eqb (length s.left) 0) [] (part_shows (said d) (front (sent d) s.out))

unfoldable pub step_turn_shows : {R : Type 0} → (R → ℕ → Told (Does Asks R)) → Stepping R → List Transfer
step_turn_shows step s =
    let d = step s.upload (length s.out) in
    step_shows (said d) (front (sent d) s.out)

-- what the turns of a run show, one after the other
unfoldable pub on_turn : {A S : Type 0} → Turned A S → (S → List Transfer) → List Transfer
on_turn (ends told s) rest = []
on_turn (goes s) rest = rest s

unfoldable pub run_shows : {A S : Type 0} → (S → Turned A S) → (S → List Transfer) → ℕ → S → List Transfer
run_shows turn shows zero s = []
run_shows turn shows (suc budget) s = shows s ++ on_turn (turn s) (λ next. run_shows turn shows budget next)

unfoldable pub step_trace : {R : Type 0} → (R → ℕ → Told (Does Asks R)) → ℕ → R → List ℕ → List Transfer
step_trace step budget r out = run_shows (step_turn step) (step_turn_shows step) budget (stepping r out)

-- the transfers of `whole_drive`
unfoldable pub on_start_trace : Told (Does Unit WholeUpload) → List ℕ → List ℕ → ℕ → List Transfer
on_start_trace (given d) image out budget = step_trace (step_of image) budget d.becomes out
on_start_trace (refused n vs) image out budget = []

abbrev pub whole_trace : ℕ → List ℕ → List ℕ → ℕ → List Transfer
whole_trace area image out budget = on_start_trace (start_step area image) image out budget

-- the transfers of `part_drive`: those of the parts, then those of the closing steps where all was handed over
unfoldable pub on_handed_trace : ℕ → MaskRomOperation → List ℕ → List Transfer
on_handed_trace zero m out = step_trace close_step most_closing m out
on_handed_trace (suc n) m out = []

unfoldable pub part_trace : ℕ → ℕ → List ℕ → List ℕ → ℕ → List Transfer
part_trace area size image out budget =
    let s = handing (fresh area) image out in
    let run = runs (part_turn size) budget s in
    run_shows (part_turn size) (part_turn_shows size) budget s ++ on_handed_trace (number (end_told run.end)) run.state.operation run.state.out

-- how many parts of `size` bytes n bytes make, the last as long as it comes
abbrev pub in_parts : ℕ → ℕ → ℕ
in_parts size n = (n + (size - 1)) / size

-- n bytes of an image in parts of `size` bytes: no call takes bytes of two blocks, so each whole block takes its own, and so does what is behind them
unfoldable pub calls_for : ℕ → ℕ → ℕ
calls_for size n = n / block_size * in_parts size block_size + in_parts size (n % block_size)

-- the calls for all parts, and the turn that finds nothing left
abbrev pub part_budget : ℕ → ℕ → ℕ
part_budget size n = calls_for size n + 1

-- "floor(T/4,096)+2 for an upload"
abbrev pub whole_steps : ℕ → ℕ
whole_steps n = total n / block_size + 2
