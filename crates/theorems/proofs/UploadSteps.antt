-- How many steps an upload takes from its start: one for each transfer and one for the finish, where nothing is refused; and so its whole budget is
-- always enough.
use Prim.Native.Nat.{ℕ, ◌+◌, ◌/◌, ◌≤◌, ◌<◌}
use mathlib.Core.Path.{◌≡◌, ap, ◌∙◌}
use mathlib.Core.List.{List}
use native.Mathlib.Omega.{arith}
use lib.ListN.{length, length-append}
use Rattle.promise.specs.Told.{Told, given, refused}
use Rattle.promise.proofs.Outcome.{either_way}
use Rattle.crc.specs.Check.{start, crc_over}
use Rattle.maskrom_transfer.specs.Moves.{block_size}
use Rattle.maskrom.specs.Whole.{fresh_whole}
use Rattle.theorems.specs.UploadBytes.{upload_bytes, cut}
use Rattle.theorems.proofs.CutIntoTransfers.{cut_many}
use Rattle.theorems.proofs.BehindTheImage.{ending, upload_ending, ending_few}
use Rattle.mock.specs.declared.device.MockState.{MockState}
use Rattle.promise.specs.Run.{End, tells, out_of_steps, Ran, runs}
use Rattle.run_upload.specs.Load.{LoadState, load_state, load_turn, load_rules, unstarted, load_run, upload_budget}
use Rattle.theorems.proofs.UploadTransfers.{Loads, spent, finished, stopped, sent_on_lem, fresh_loads}
use Rattle.theorems.specs.Runs.{upload_run}

-- an end is one of the two, and what is told is given or refused
pub given_refused : {C : Type 0} (number : ℕ) (values : List ℕ) → ◌≡◌ {A = End Unit} (tells (refused number values)) (tells (given tt)) → C
given_refused number values e = absurd (let z : ◌≡◌ {A = ℕ} 0 1 = cc in omega arith)

pub given_spent : {C : Type 0} → ◌≡◌ {A = End Unit} out_of_steps (tells (given tt)) → C
given_spent e = absurd (let z : ◌≡◌ {A = ℕ} 0 1 = cc in omega arith)

told_spent : {C : Type 0} (told : Told Unit) → tells told ≡ out_of_steps → C
told_spent told e = absurd (let z : ◌≡◌ {A = ℕ} 0 1 = cc in omega arith)

module _ (area : ℕ) where
  taken : (pieces : List (List ℕ)) (k : ℕ) (device : MockState) (store : List ℕ) (r : Ran Unit LoadState) → Loads area pieces k device store r
      → r.end ≡ tells (given tt) → r.steps ≡ length pieces + 1
  taken pieces k device store r (spent all d l s) e = given_spent e
  taken pieces k device store r (finished j d l u) e = omega arith
  taken pieces k device store r (stopped j bytes rest d l u number values t) e = given_refused number values e
  taken pieces k device store r (sent_on_lem j bytes rest d l next t on) e = omega (arith, taken rest j _ _ next on e)

  enough : (pieces : List (List ℕ)) (k : ℕ) (device : MockState) (store : List ℕ) (r : Ran Unit LoadState) → Loads area pieces k device store r
      → length pieces < k → r.end ≡ out_of_steps → ⊥
  enough pieces k device store r (spent all d l s) h e = omega arith
  enough pieces k device store r (finished j d l u) h e = told_spent (given tt) e
  enough pieces k device store r (stopped j bytes rest d l u number values t) h e = told_spent (refused number values) e
  enough pieces k device store r (sent_on_lem j bytes rest d l next t on) h e = enough rest j _ _ next on (omega arith) e

module _ (area : ℕ) (image : List ℕ) (flash : ℕ) (device : MockState) (store : List ℕ) where
  abbrev at_start : LoadState
  at_start = load_state (fresh_whole area (length image)) device store

  -- "floor(T/4,096)+2 for an upload", T being the length of its bytes
  pub upload_steps : (budget : ℕ) → (upload_run area image flash device store budget).end ≡ tells (given tt)
      → (upload_run area image flash device store budget).steps ≡ length (upload_bytes image) / block_size + 2
  unfolding load_run
  upload_steps budget =
      either_way (λ (r : Ran Unit LoadState). r.end ≡ tells (given tt) → r.steps ≡ length (upload_bytes image) / block_size + 2)
      (unstarted at_start) (load_rules at_start flash (length image)) (runs (load_turn image) budget at_start)
      (λ n values e. given_refused n values e)
      (λ met e.
      omega (
        arith,
        taken area (cut (upload_bytes image)) budget device store (runs (load_turn image) budget at_start) (fresh_loads area image budget device store) e,
        cut_many (upload_bytes image),
      ))

  -- a budget of so many steps is never used up before the finish or a refusal ..
  pub enough_steps : (budget : ℕ) → length (upload_bytes image) / block_size + 2 ≤ budget
      → (upload_run area image flash device store budget).end ≡ out_of_steps → ⊥
  unfolding load_run
  enough_steps budget h =
      either_way (λ (r : Ran Unit LoadState). r.end ≡ out_of_steps → ⊥)
      (unstarted at_start) (load_rules at_start flash (length image)) (runs (load_turn image) budget at_start)
      (λ n values e. told_spent (refused n values) e)
      (λ met.
      enough area (cut (upload_bytes image)) budget device store (runs (load_turn image) budget at_start) (fresh_loads area image budget device store)
      (omega (arith, cut_many (upload_bytes image))))

-- four bytes at most follow the image
pub whole_many : (image : List ℕ) → length (upload_bytes image) / block_size + 2 ≤ upload_budget (length image)
whole_many image =
    let tail = ending (crc_over start image) (length image) in
    omega (arith, ap length (upload_ending image) ∙ length-append image tail, ending_few (crc_over start image) (length image))

-- .. and so one whole upload never ends in 28
pub whole_upload_ends : (area : ℕ) (image : List ℕ) (flash : ℕ) (device : MockState) (store : List ℕ)
    → (upload_run area image flash device store (upload_budget (length image))).end ≡ out_of_steps → ⊥
whole_upload_ends area image flash device store =
    enough_steps area image flash device store (upload_budget (length image)) (whole_many image)
