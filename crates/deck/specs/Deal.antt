-- The head, what a block does to it, and what the functions promise of it.
use Rattle.std.specs.Prelude.{◌≡◌, ℕ, List, []}
use Rattle.promise.specs.Told.{Told, refused}
use Rattle.protocol_bytes.specs.Signature.{no_signature}
use Rattle.operation_finish.specs.Reply.{Reply, blank}
use Rattle.promise.specs.Run.{Ran, end_told}
use Rattle.mock.specs.declared.device.MockState.{MockState}
use Rattle.run_turn.specs.Turn.{UsbState}
use Rattle.run_operation.specs.declared.UsbRun.{UsbRun}
use Rattle.run_operation.specs.Answers as run
use Rattle.run_upload.specs.declared.LoadRun.{LoadRun}
use Rattle.run_upload.specs.Load.{LoadState}
use Rattle.run_upload.specs.Answers as load
use Rattle.deck.specs.declared.verdict.Dealt.{Dealt}
use Rattle.deck.specs.Verdict.{numbered, load_told, verdict_told, beside_dealt, kept}
use Rattle.std.specs.declared.result.Result.TheVariants.{Err}

-- the stand-in's record, and the flash and the store that are lent to it
pub record Head : Type 0 where
  pub device : MockState
  pub flash : List ℕ
  pub store : List ℕ

abbrev pub head : MockState → List ℕ → List ℕ → Head
head device flash store = record { device = device; flash = flash; store = store }

-- what is told of a block, and the head afterwards
pub record Deal : Type 0 where
  pub told : Told Reply
  pub leaves : Head

abbrev pub deal : Told Reply → Head → Deal
deal told leaves = record { told = told; leaves = leaves }

-- by an operation's run, which leaves the store alone
abbrev pub operated_by : Ran Reply UsbState → List ℕ → Deal
operated_by ran store = deal (numbered (end_told ran.end)) (head ran.state.device ran.state.flash store)

-- by an upload's run, which leaves the flash alone
abbrev pub loaded_by : Ran Unit LoadState → List ℕ → Deal
loaded_by ran flash = deal (load_told (end_told ran.end)) (head ran.state.device flash ran.state.store)

-- a refused block changes nothing
abbrev pub away : ℕ → Head → Deal
away number h = deal (refused number []) h

-- a block that comes to r, and leaves flash and store so
pub record DealMeets (r : Dealt) (flash store : List ℕ) (d : Deal) : Type 0 where
  pub tells : verdict_told r.verdict r.beside ≡ d.told
  pub beside : r.beside ≡ beside_dealt d.told
  pub leaves : head r.device flash store ≡ d.leaves

-- what is made of a run's record
pub record OperatedMeets (r : Dealt) (ran : UsbRun) : Type 0 where
  pub tells : verdict_told r.verdict r.beside ≡ numbered (end_told (run.answer_end ran.answer ran.beside))
  pub beside : r.beside ≡ kept r.verdict ran.beside
  pub device : r.device ≡ ran.device

pub record LoadedMeets (r : Dealt) (ran : LoadRun) : Type 0 where
  pub tells : verdict_told r.verdict r.beside ≡ load_told (end_told (load.answer_end ran.answer))
  pub beside : r.beside ≡ blank no_signature
  pub device : r.device ≡ ran.device

abbrev pub turned_away : ℕ → MockState → Dealt
turned_away number device = record { verdict = Err (record { 0 = number }); beside = blank no_signature; device = device }
