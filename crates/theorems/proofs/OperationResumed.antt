-- "28 may be resumed", for whoever calls `run` or `run_write`: a run that ended in 28, and a run from what it handed back and left, are together the
-- one run whose budget is the sum of theirs.
-- What the checks before the first step look at is kept by every turn, so that they pass again.
use Prim.Native.Nat.{ℕ, zero, suc, ◌+◌, ◌≤◌}
use mathlib.Core.Path.{◌≡◌, refl, ap, ap₂, sym, subst, ◌∙◌}
use mathlib.Core.Bool.{false}
use mathlib.Core.List.{List, [], ◌∷◌}
use native.Mathlib.Omega.{arith}
use lib.Dec.{ltb}
use lib.ListN.{length, take}
use borrow.Author.Tests.{ltb-false, le-ltb}
use Rattle.promise.specs.Told.{Told, given, refused}
use Rattle.promise.specs.Rules.{or_refuse}
use Rattle.promise.specs.Run.{Turned, ends, goes, out_of_steps, Ran, counted, follow, runs}
use Rattle.promise.proofs.Outcome.{Met, either_way}
use Rattle.protocol.specs.declared.CommandBlock.{CommandBlock}
use Rattle.mock_base.specs.Flash.{flash_rules}
use Rattle.mock_effects.proofs.Frames.{write_long}
use Rattle.mock.specs.declared.device.MockState.{MockState}
use Rattle.mock.specs.Device.{session_of, write_bulk, read_bulk}
use Rattle.operation_finish.specs.Reply.{Reply}
use Rattle.operation_finish.specs.declared.Kind.{Kind}
use Rattle.operation.specs.declared.steps.Operation.{Operation}
use Rattle.operation.specs.declared.steps.Operation.TheVariants as operation
use Rattle.operation.specs.declared.steps.IOBytes.{IOBytes}
use Rattle.operation.specs.declared.steps.IOBytes.TheVariants as io
use Rattle.operation.specs.declared.steps.Asked.{Asked}
use Rattle.operation.specs.declared.steps.Asked.TheVariants as asked
use Rattle.operation.specs.declared.steps.UsbOperation.{UsbOperation}
use Rattle.operation.specs.Record.{io_of, transfer_length, turned}
use Rattle.operation.specs.Step.{Asks as UsbAsks, writes_command, writes_data, reads, finished, Step, does as stepped, stays, sector_step, command_step, io_step, status_step, finish_step, step_of, usb_step, data_rule}
use Rattle.operation.proofs.Laws.{give_keeps}
use Rattle.run_turn.specs.Turn.{UsbState, usb_state, lent_to, onward, buffer_for, landed, giving, gives, received, transfers, usb_turn}
use Rattle.run_operation.specs.declared.UsbRun.{UsbRun}
use Rattle.run_operation.specs.Run.{sector_data, run_rules, whole_budget, usb_run}
use Rattle.run_operation.specs.Answers.{answer_end, RunMeets}
use Rattle.run_operation.proofs.Unique.{run_unique}
use Rattle.theorems.specs.Resumed.{joined}
use Rattle.theorems.proofs.OperationSteps.{whole_ends}
use Rattle.theorems.proofs.NoTransactionLeft.{landed_long}
use Rattle.theorems.proofs.CheckedRuns.{spent_met, checked_resumed, checked_whole}
use Rattle.std.specs.Prelude.{Result}
use Rattle.run_operation.specs.declared.RunError.{RunError}
use Rattle.run_operation.specs.declared.RunError.TheVariants.{OutOfSteps}
use Rattle.std.specs.declared.result.Result.TheVariants.{Err}
use Rattle.operation_finish.specs.declared.UsbReply.{UsbReply}

-- what the checks look at is as it was, and there is no less data
record Kept (s t : UsbState) : Type 0 where
  long : length t.flash ≡ length s.flash
  stored : t.device.store_length ≡ s.device.store_length
  kind : t.operation.kind ≡ s.operation.kind
  command : t.operation.command ≡ s.operation.command
  enough : length s.«data» ≤ length t.«data»

kept_all : (s : UsbState) → Kept s s
kept_all s = record { long = refl; stored = refl; kind = refl; command = refl; enough = omega arith }

kept_then : (s t u : UsbState) → Kept s t → Kept t u → Kept s u
kept_then s t u p q =
    record {
      long = q.long ∙ p.long;
      stored = q.stored ∙ p.stored;
      kind = q.kind ∙ p.kind;
      command = q.command ∙ p.command;
      enough = omega (arith, p.enough, q.enough);
    }

abbrev Turns : UsbState → Turned Reply UsbState → Type 0
Turns s (ends told t) = Kept s t
Turns s (goes t) = Kept s t

-- a step changes neither kind nor command
abbrev SameTask : UsbOperation → UsbOperation → Type 0
SameTask op next = (next.kind ≡ op.kind) × (next.command ≡ op.command)

module _ (op : UsbOperation) where
  sector_task : (lent : ℕ) (wants : UsbAsks) (a : Asked) → SameTask op (sector_step op lent wants a).next
  sector_task lent wants a =
      either_way (λ (s : Step). SameTask op s.next) (stays op) (data_rule lent (transfer_length op) ∷ [])
      (stepped (given wants) [] (turned op operation.CommandStatus a)) (λ n values. (refl, refl)) (λ met. (refl, refl))

  io_task : (i : IOBytes) (lent : ℕ) → SameTask op (io_step i op lent).next
  unfolding io_step
  io_task io.Inband lent = (refl, refl)
  io_task io.Read lent = sector_task lent (reads asked.Sectors (transfer_length op)) asked.Sectors
  io_task io.Write lent = sector_task lent (writes_data (transfer_length op)) asked.Nothing

  step_task : (here : Operation) (lent : ℕ) → SameTask op (step_of here op lent 31).next
  unfolding step_of command_step or_refuse status_step finish_step
  step_task operation.CommandBlock lent = (refl, refl)
  step_task operation.IO lent = io_task (io_of op.kind) lent
  step_task operation.CommandStatus lent = (refl, refl)
  step_task operation.Finish lent = (refl, refl)

module _ (s : UsbState) where
  onward_turns : (told : Told Unit) (t : UsbState) → Kept s t → Turns s (onward told t)
  unfolding onward
  onward_turns (given done) t k = k
  onward_turns (refused number values) t k = k

  giving_kept : (t : UsbState) (bytes : List ℕ) (lent : ℕ) → Kept s t → Kept s (giving t bytes lent)
  giving_kept t bytes lent k =
      let same = give_keeps t.operation bytes lent in
      record { long = k.long; stored = k.stored; kind = same.kind ∙ k.kind; command = same.command ∙ k.command; enough = k.enough }

  gives_kept : (a : Asked) (t : UsbState) (bytes : List ℕ) → Kept s t → Kept s (gives a t bytes)
  unfolding gives
  gives_kept asked.Nothing t bytes k = giving_kept t bytes 0 k
  gives_kept asked.Inband t bytes k = giving_kept t bytes 0 k
  gives_kept asked.Sectors t bytes k = giving_kept t [] (length t.«data») k
  gives_kept asked.Status t bytes k = giving_kept t bytes 0 k

  received_turns : (told : Told Unit) (a : Asked) (t : UsbState) (bytes : List ℕ) → Kept s t → Turns s (received told a t bytes)
  unfolding received
  received_turns (given done) a t bytes k = gives_kept a t bytes k
  received_turns (refused number values) a t bytes k = k

  wrote_turns : (t : UsbState) (bytes : List ℕ) → Kept s t
      → let w = write_bulk t.device t.flash bytes in Turns s (onward w.told (usb_state t.operation w.next w.leaves t.«data»))
  unfolding write_bulk
  wrote_turns t bytes k =
      let w = write_bulk t.device t.flash bytes in
      onward_turns w.told (usb_state t.operation w.next w.leaves t.«data»)
      (record {
        long = write_long t.device.variety t.device.config.block_size_sectors (session_of t.device) t.flash bytes ∙ k.long;
        stored = k.stored;
        kind = k.kind;
        command = k.command;
        enough = k.enough;
      })

  transfers_turns : (told : Told UsbAsks) (out : List ℕ) (t : UsbState) → Kept s t → Turns s (transfers told out t)
  unfolding transfers read_bulk
  transfers_turns (given writes_command) out t k = wrote_turns t out k
  transfers_turns (given (writes_data n)) out t k = wrote_turns t (take n t.«data») k
  transfers_turns (given (reads a n)) out t k =
      let g = read_bulk t.device t.flash (buffer_for a n t) in
      received_turns g.told a (usb_state t.operation g.next t.flash (landed a g.leaves t.«data»)) g.leaves
      (record {
        long = k.long;
        stored = k.stored;
        kind = k.kind;
        command = k.command;
        enough = omega (arith, k.enough, landed_long a g.leaves t.«data»);
      })
  transfers_turns (given (finished reply)) out t k = k
  transfers_turns (refused number values) out t k = k

  turn_kept : Turns s (usb_turn s)
  unfolding usb_turn
  turn_kept =
      let step = usb_step s.operation (length s.«data») 31 in
      let task = step_task s.operation s.operation.next (length s.«data») in
      transfers_turns step.told step.sent (usb_state step.next s.device s.flash s.«data»)
      (record { long = refl; stored = refl; kind = task.0; command = task.1; enough = omega arith })

follow_kept : (s : UsbState) (t : Turned Reply UsbState) (rest : UsbState → Ran Reply UsbState) → Turns s t
    → ((next : UsbState) → Kept next (rest next).state) → Kept s (follow t rest).state
unfolding follow
follow_kept s (ends told t) rest k on = k
follow_kept s (goes t) rest k on = kept_then s t (rest t).state k (on t)

runs_kept : (budget : ℕ) (s : UsbState) → Kept s (runs usb_turn budget s).state
unfolding runs
runs_kept zero s = kept_all s
runs_kept (suc budget) s = follow_kept s (usb_turn s) (λ next. runs usb_turn budget next) (turn_kept s) (λ next. runs_kept budget next)

-- 60, 61, 65 and 27 pass again
rules_again : (s t : UsbState) (store : ℕ) → Kept s t → Met (run_rules s store) → Met (run_rules t store)
unfolding run_rules flash_rules
rules_again s t store k met =
    let wants = sector_data s.operation.kind (transfer_length s.operation) in
    let same : sector_data t.operation.kind (transfer_length t.operation) ≡ wants =
    ap₂ (λ (x : Kind) (c : CommandBlock). sector_data x c.transfer_length) k.kind k.command in
    let had : wants ≤ length s.«data» = ltb-false (length s.«data») wants met.1.1.1.0 in
    let lent : ltb (length t.«data») (sector_data t.operation.kind (transfer_length t.operation)) ≡ false =
    le-ltb (length t.«data») (sector_data t.operation.kind (transfer_length t.operation)) (omega (arith, had, same, k.enough)) in
    (rw k.long met.0, (rw k.long met.1.0, (rw k.stored met.1.1.0, (lent, tt))))

usb_resumed : (a b : ℕ) (s : UsbState) (store : ℕ) → (usb_run s store a).end ≡ out_of_steps
    → usb_run s store (a + b) ≡ counted (usb_run s store a).steps (usb_run (usb_run s store a).state store b)
unfolding usb_run
usb_resumed a b s store e =
    checked_resumed usb_turn (λ (t : UsbState). run_rules t store) a b s (rules_again s (runs usb_turn a s).state store (runs_kept a s)) e

usb_whole : (a : ℕ) (s : UsbState) (store : ℕ) → (usb_run s store a).end ≡ out_of_steps
    → usb_run s store whole_budget ≡ counted (usb_run s store a).steps (usb_run (usb_run s store a).state store whole_budget)
unfolding usb_run
usb_whole a s store e =
    checked_whole usb_turn (λ (t : UsbState). run_rules t store) a whole_budget s (rules_again s (runs usb_turn a s).state store (runs_kept a s)) e
    (whole_ends s store)

-- an operation keeps its kind
usb_kind : (a : ℕ) (s : UsbState) (store : ℕ) → (usb_run s store a).end ≡ out_of_steps → (usb_run s store a).state.operation.kind ≡ s.operation.kind
unfolding usb_run
usb_kind a s store e =
    ap (λ (r : Ran Reply UsbState). r.state.operation.kind) (spent_met usb_turn (λ (t : UsbState). run_rules t store) a s e).1 ∙ (runs_kept a s).kind

module _ (first second whole : UsbRun) (op : UsbOperation) (device : MockState) (flash flash₁ flash₂ flash₃ : List ℕ) (store a : ℕ)
    (out : first.answer ≡ Err OutOfSteps) where
  spent : (bytes bytes₁ : List ℕ) → RunMeets first flash₁ bytes₁ (usb_run (usb_state op device flash bytes) store a)
      → (usb_run (usb_state op device flash bytes) store a).end ≡ out_of_steps
  unfolding answer_end
  spent bytes bytes₁ m = sym m.tells ∙ ap (λ (x : Result UsbReply RunError). answer_end x first.beside) out

  -- a run with the budget `all` that is the first run and then the second one
  abbrev Joins : ℕ → ℕ → List ℕ → Type 0
  Joins b all bytes =
      let s = usb_state op device flash bytes in
      usb_run s store all ≡ counted (usb_run s store a).steps (usb_run (usb_run s store a).state store b)

  joins : (b all : ℕ) (bytes bytes₁ bytes₂ bytes₃ : List ℕ) → Joins b all bytes → RunMeets first flash₁ bytes₁ (usb_run (usb_state op device flash bytes) store a)
      → RunMeets second flash₂ bytes₂ (usb_run (usb_state first.operation first.device flash₁ bytes₁) store b)
      → RunMeets whole flash₃ bytes₃ (usb_run (usb_state op device flash bytes) store all)
      → (whole ≡ joined first second) × (flash₃ ≡ flash₂) × (bytes₃ ≡ bytes₂)
  joins b all bytes bytes₁ bytes₂ bytes₃ law m n w =
      let s = usb_state op device flash bytes in
      let on : RunMeets second flash₂ bytes₂ (usb_run (usb_run s store a).state store b) =
      subst (λ (t : UsbState). RunMeets second flash₂ bytes₂ (usb_run t store b)) m.leaves n in
      let both : RunMeets (joined first second) flash₂ bytes₂ (usb_run s store all) =
      subst (λ (r : Ran Reply UsbState). RunMeets (joined first second) flash₂ bytes₂ r) (sym law)
      (record { tells = on.tells; beside = on.beside; steps = ap₂ ◌+◌ m.steps on.steps; leaves = on.leaves }) in
      run_unique whole (joined first second) flash₃ flash₂ bytes₃ bytes₂ (usb_run s store all) w both

  -- the operation that was handed back is of its old kind, and so is lent the same
  lent_again : (b : ℕ) (bytes : List ℕ) → RunMeets first flash₁ (lent_to op.kind bytes []) (usb_run (usb_state op device flash (lent_to op.kind bytes [])) store a)
      → RunMeets second flash₂ (lent_to first.operation.kind bytes [])
      (usb_run (usb_state first.operation first.device flash₁ (lent_to first.operation.kind bytes [])) store b)
      → RunMeets second flash₂ (lent_to op.kind bytes []) (usb_run (usb_state first.operation first.device flash₁ (lent_to op.kind bytes [])) store b)
  lent_again b bytes m n =
      let lent = lent_to op.kind bytes [] in
      let same : first.operation.kind ≡ op.kind =
      ap (λ (t : UsbState). t.operation.kind) m.leaves ∙ usb_kind a (usb_state op device flash lent) store (spent lent lent m) in
      subst
      (λ (k : Kind). RunMeets second flash₂ (lent_to k bytes []) (usb_run (usb_state first.operation first.device flash₁ (lent_to k bytes [])) store b))
      same n

  -- RESUMED. `run` from what a `run` that ended in 28 handed back and left
  pub run_resumed : (b : ℕ) (bytes bytes₁ bytes₂ bytes₃ : List ℕ) → RunMeets first flash₁ bytes₁ (usb_run (usb_state op device flash bytes) store a)
      → RunMeets second flash₂ bytes₂ (usb_run (usb_state first.operation first.device flash₁ bytes₁) store b)
      → RunMeets whole flash₃ bytes₃ (usb_run (usb_state op device flash bytes) store (a + b))
      → (whole ≡ joined first second) × (flash₃ ≡ flash₂) × (bytes₃ ≡ bytes₂)
  run_resumed b bytes bytes₁ bytes₂ bytes₃ m n w =
      joins b (a + b) bytes bytes₁ bytes₂ bytes₃ (usb_resumed a b (usb_state op device flash bytes) store (spent bytes bytes₁ m)) m n w

  -- .. `run_write`, whose runs are lent the same data
  pub write_resumed : (b : ℕ) (bytes : List ℕ)
      → RunMeets first flash₁ (lent_to op.kind bytes []) (usb_run (usb_state op device flash (lent_to op.kind bytes [])) store a)
      → RunMeets second flash₂ (lent_to first.operation.kind bytes [])
      (usb_run (usb_state first.operation first.device flash₁ (lent_to first.operation.kind bytes [])) store b)
      → RunMeets whole flash₃ (lent_to op.kind bytes []) (usb_run (usb_state op device flash (lent_to op.kind bytes [])) store (a + b))
      → (whole ≡ joined first second) × (flash₃ ≡ flash₂)
  write_resumed b bytes m n w =
      let lent = lent_to op.kind bytes [] in
      let all = run_resumed b lent lent lent lent m (lent_again b bytes m n) w in
      (all.0, all.1)

  -- .. `run_whole`, which never ends in 28: after a `run` that did, it comes to what it comes to from the start
  pub whole_resumed : (bytes bytes₁ bytes₂ bytes₃ : List ℕ) → RunMeets first flash₁ bytes₁ (usb_run (usb_state op device flash bytes) store a)
      → RunMeets second flash₂ bytes₂ (usb_run (usb_state first.operation first.device flash₁ bytes₁) store whole_budget)
      → RunMeets whole flash₃ bytes₃ (usb_run (usb_state op device flash bytes) store whole_budget)
      → (whole ≡ joined first second) × (flash₃ ≡ flash₂) × (bytes₃ ≡ bytes₂)
  whole_resumed bytes bytes₁ bytes₂ bytes₃ m n w =
      joins whole_budget whole_budget bytes bytes₁ bytes₂ bytes₃ (usb_whole a (usb_state op device flash bytes) store (spent bytes bytes₁ m)) m n w

  -- .. and `run_whole_write`
  pub whole_write_resumed : (bytes : List ℕ)
      → RunMeets first flash₁ (lent_to op.kind bytes []) (usb_run (usb_state op device flash (lent_to op.kind bytes [])) store a)
      → RunMeets second flash₂ (lent_to first.operation.kind bytes [])
      (usb_run (usb_state first.operation first.device flash₁ (lent_to first.operation.kind bytes [])) store whole_budget)
      → RunMeets whole flash₃ (lent_to op.kind bytes []) (usb_run (usb_state op device flash (lent_to op.kind bytes [])) store whole_budget)
      → (whole ≡ joined first second) × (flash₃ ≡ flash₂)
  whole_write_resumed bytes m n w =
      let lent = lent_to op.kind bytes [] in
      let all = whole_resumed lent lent lent lent m (lent_again whole_budget bytes m n) w in
      (all.0, all.1)
