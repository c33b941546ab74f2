-- How many steps a run takes: 3, or 4 with data, where nothing is refused; and so 4 are always enough.
use Prim.Native.Nat.{ℕ, zero, suc, ◌+◌, ◌≤◌}
use mathlib.Core.Path.{◌≡◌, refl, ap, sym, ◌∙◌}
use mathlib.Core.Bool.{Bool, true, false}
use mathlib.Core.List.{List, [], ◌∷◌}
use native.Mathlib.Numerals.{one-add}
use native.Mathlib.Omega.{arith}
use lib.Dec.{eqb, ltb}
use lib.ListN.{length, take}
use Rattle.promise.specs.Told.{Told, given, refused, and_then}
use Rattle.promise.specs.Rules.{pick, rule, or_refuse}
use Rattle.promise.proofs.Outcome.{either_way}
use Rattle.protocol.specs.declared.CommandBlock.{CommandBlock}
use Rattle.operation_finish.specs.Reply.{Reply}
use Rattle.operation_finish.specs.Finish.{finishes}
use Rattle.operation_finish.specs.declared.Kind.{Kind}
use Rattle.operation.specs.declared.steps.Operation.{Operation}
use Rattle.operation.specs.declared.steps.Operation.TheVariants as operation
use Rattle.operation.specs.declared.steps.IOBytes.{IOBytes}
use Rattle.operation.specs.declared.steps.IOBytes.TheVariants as io
use Rattle.operation.specs.declared.steps.Asked.{Asked}
use Rattle.operation.specs.declared.steps.Asked.TheVariants as asked
use Rattle.operation.specs.declared.steps.UsbOperation.{UsbOperation}
use Rattle.operation.specs.Record.{fresh, io_of, transfer_length, after_command, turned, left_at, left}
use Rattle.operation.specs.Step.{Asks, writes_command, writes_data, reads, finished, Step, does, stays, sector_step, command_step, io_step, status_step, finished_told, finish_step, step_of, usb_step}
use Rattle.operation.proofs.Rounds.{left_kept, fresh_without, fresh_with}
use Rattle.mock.specs.Device.{write_bulk, read_bulk}
use Rattle.promise.specs.Run.{Turned, ends, goes, tells, out_of_steps, Ran, follow, runs}
use Rattle.run_turn.specs.Turn.{UsbState, usb_state, onward, buffer_for, landed, gives, received, transfers, usb_turn}
use Rattle.run_operation.specs.Run.{whole_budget, run_rules, unstarted, usb_run}

-- a step that goes on takes one of those that are left, a finish is the last
abbrev Takes : ℕ → Told Asks → UsbOperation → Type 0
Takes n (given writes_command) op = suc (left op) ≡ n
Takes n (given (writes_data size)) op = suc (left op) ≡ n
Takes n (given (reads a size)) op = suc (left op) ≡ n
Takes n (given (finished reply)) op = n ≡ 1
Takes n (refused number values) op = Unit

after_command_lem : (none : Bool) (l : ℕ) → suc (left_at (pick none operation.CommandStatus operation.IO) l) ≡ pick none 3 4
unfolding left_at
after_command_lem true l = refl
after_command_lem false l = refl

sector_takes : (op : UsbOperation) (lent : ℕ) (asks : Asks) (a : Asked) → Takes 3 (given asks) (turned op operation.CommandStatus a)
    → Takes 3 (sector_step op lent asks a).told (sector_step op lent asks a).next
sector_takes op lent asks a h =
    either_way (λ (s : Step). Takes 3 s.told s.next) (stays op) (rule (ltb lent (transfer_length op)) 27 [] ∷ [])
    (does (given asks) [] (turned op operation.CommandStatus a)) (λ n values. tt) (λ met. h)

io_takes : (i : IOBytes) (op : UsbOperation) (lent : ℕ) → Takes 3 (io_step i op lent).told (io_step i op lent).next
unfolding io_step left_at
io_takes io.Inband op lent = refl
io_takes io.Read op lent = sector_takes op lent (reads asked.Sectors (transfer_length op)) asked.Sectors refl
io_takes io.Write op lent = sector_takes op lent (writes_data (transfer_length op)) asked.Nothing refl

finish_takes : (t : Told Reply) (op : UsbOperation) → Takes 1 (finished_told t) op
unfolding finished_told and_then
finish_takes (given reply) op = refl
finish_takes (refused number values) op = tt

step_takes : (here : Operation) (op : UsbOperation) (lent : ℕ)
    → Takes (left_at here (transfer_length op)) (step_of here op lent 31).told (step_of here op lent 31).next
unfolding step_of command_step or_refuse status_step finish_step left_at after_command
step_takes operation.CommandBlock op lent = after_command_lem (eqb (transfer_length op) 0) (transfer_length op)
step_takes operation.IO op lent = io_takes (io_of op.kind) op lent
step_takes operation.CommandStatus op lent = refl
step_takes operation.Finish op lent =
    finish_takes (finishes op.kind op.command.tag (transfer_length op) op.command_bytes op.«data») (turned op operation.CommandBlock asked.Nothing)

-- the same of a turn
abbrev pub Uses : ℕ → Turned Reply UsbState → Type 0
Uses n (goes s) = suc (left s.operation) ≡ n
Uses n (ends (given reply) s) = n ≡ 1
Uses n (ends (refused number values) s) = Unit

onward_uses : (n : ℕ) (told : Told Unit) (s : UsbState) → suc (left s.operation) ≡ n → Uses n (onward told s)
unfolding onward
onward_uses n (given done) s h = h
onward_uses n (refused number values) s h = tt

gives_left : (a : Asked) (s : UsbState) (bytes : List ℕ) → left (gives a s bytes).operation ≡ left s.operation
unfolding gives
gives_left asked.Nothing s bytes = left_kept s.operation bytes 0
gives_left asked.Inband s bytes = left_kept s.operation bytes 0
gives_left asked.Sectors s bytes = left_kept s.operation [] (length s.«data»)
gives_left asked.Status s bytes = left_kept s.operation bytes 0

received_uses : (n : ℕ) (told : Told Unit) (a : Asked) (s : UsbState) (bytes : List ℕ) → suc (left s.operation) ≡ n → Uses n (received told a s bytes)
unfolding received
received_uses n (given done) a s bytes h = ap suc (gives_left a s bytes) ∙ h
received_uses n (refused number values) a s bytes h = tt

transfer_uses : (n : ℕ) (told : Told Asks) (sent : List ℕ) (s : UsbState) → Takes n told s.operation → Uses n (transfers told sent s)
unfolding transfers
transfer_uses n (given writes_command) sent s h =
    let w = write_bulk s.device s.flash sent in
    onward_uses n w.told (usb_state s.operation w.next w.leaves s.«data») h
transfer_uses n (given (writes_data size)) sent s h =
    let w = write_bulk s.device s.flash (take size s.«data») in
    onward_uses n w.told (usb_state s.operation w.next w.leaves s.«data») h
transfer_uses n (given (reads a size)) sent s h =
    let g = read_bulk s.device s.flash (buffer_for a size s) in
    received_uses n g.told a (usb_state s.operation g.next s.flash (landed a g.leaves s.«data»)) g.leaves h
transfer_uses n (given (finished reply)) sent s h = h
transfer_uses n (refused number values) sent s h = tt

pub turn_uses : (s : UsbState) → Uses (left s.operation) (usb_turn s)
unfolding usb_turn
turn_uses s =
    let step = usb_step s.operation (length s.«data») 31 in
    transfer_uses (left s.operation) step.told step.sent (usb_state step.next s.device s.flash s.«data»)
    (step_takes s.operation.next s.operation (length s.«data»))

-- a run that ends unrefused took every step that was left
taken_turn : (n budget : ℕ) (t : Turned Reply UsbState) (reply : Reply) → Uses n t
    → ((next : UsbState) → (runs usb_turn budget next).end ≡ tells (given reply) → (runs usb_turn budget next).steps ≡ left next.operation)
    → (follow t (λ next. runs usb_turn budget next)).end ≡ tells (given reply) → (follow t (λ next. runs usb_turn budget next)).steps ≡ n
unfolding follow
taken_turn n budget (ends (given r) s) reply u ih e = sym u
taken_turn n budget (ends (refused number values) s) reply u ih e = absurd (let z : ◌≡◌ {A = ℕ} 0 1 = cc in omega arith)
taken_turn n budget (goes s) reply u ih e = ap (λ (k : ℕ). 1 + k) (ih s e) ∙ one-add (left s.operation) ∙ u

pub takes_all : (budget : ℕ) (s : UsbState) (reply : Reply) → (runs usb_turn budget s).end ≡ tells (given reply)
    → (runs usb_turn budget s).steps ≡ left s.operation
unfolding runs
takes_all zero s reply e = absurd (let z : ◌≡◌ {A = ℕ} 0 1 = cc in omega arith)
takes_all (suc budget) s reply e = taken_turn (left s.operation) budget (usb_turn s) reply (turn_uses s) (λ next. takes_all budget next reply) e

-- a run with as many steps as are left, or more, is never out of steps
never_turn : (n budget : ℕ) (t : Turned Reply UsbState) → Uses n t → n ≤ suc budget
    → ((next : UsbState) → left next.operation ≤ budget → (runs usb_turn budget next).end ≡ out_of_steps → ⊥)
    → (follow t (λ next. runs usb_turn budget next)).end ≡ out_of_steps → ⊥
unfolding follow
never_turn n budget (ends told s) u h ih e = let z : ◌≡◌ {A = ℕ} 0 1 = cc in omega arith
never_turn n budget (goes s) u h ih e = ih s (omega (arith, u)) e

left_some : (here : Operation) (l : ℕ) → 1 ≤ left_at here l
unfolding left_at
left_some operation.CommandBlock l = three_or_more (eqb l 0) where
  three_or_more : (b : Bool) → 1 ≤ pick b 3 4
  three_or_more true = omega arith
  three_or_more false = omega arith
left_some operation.IO l = omega arith
left_some operation.CommandStatus l = omega arith
left_some operation.Finish l = omega arith

pub never_out : (budget : ℕ) (s : UsbState) → left s.operation ≤ budget → (runs usb_turn budget s).end ≡ out_of_steps → ⊥
unfolding runs
never_out zero s h e = omega (arith, left_some s.operation.next (transfer_length s.operation))
never_out (suc budget) s h e = never_turn (left s.operation) budget (usb_turn s) (turn_uses s) h (λ next. never_out budget next) e

-- 4 steps are enough for every record
four_at_most : (here : Operation) (l : ℕ) → left_at here l ≤ 4
unfolding left_at
four_at_most operation.CommandBlock l = by_length (eqb l 0) where
  by_length : (b : Bool) → pick b 3 4 ≤ 4
  by_length true = omega arith
  by_length false = omega arith
four_at_most operation.IO l = omega arith
four_at_most operation.CommandStatus l = omega arith
four_at_most operation.Finish l = omega arith

-- ONE WHOLE OPERATION is never out of steps
pub whole_ends : (s : UsbState) (store : ℕ) → (usb_run s store whole_budget).end ≡ out_of_steps → ⊥
unfolding usb_run
whole_ends s store =
    either_way (λ (r : Ran Reply UsbState). r.end ≡ out_of_steps → ⊥) (unstarted s) (run_rules s store) (runs usb_turn 4 s)
    (λ n values e. let z : ◌≡◌ {A = ℕ} 0 1 = cc in omega arith)
    (λ met. never_out 4 s (four_at_most s.operation.next (transfer_length s.operation)))

-- HOW MANY STEPS. An unrefused run took the steps that were left ..
pub steps_taken : (s : UsbState) (store budget : ℕ) (reply : Reply) → (usb_run s store budget).end ≡ tells (given reply)
    → (usb_run s store budget).steps ≡ left s.operation
unfolding usb_run
steps_taken s store budget reply =
    either_way (λ (r : Ran Reply UsbState). r.end ≡ tells (given reply) → r.steps ≡ left s.operation) (unstarted s) (run_rules s store) (runs usb_turn budget s)
    (λ n values e. absurd (let z : ◌≡◌ {A = ℕ} 0 1 = cc in omega arith))
    (λ met. takes_all budget s reply)

-- .. which for a fresh operation are 3, or 4 with data
module _ (s : UsbState) (k : Kind) (c : CommandBlock) (f : s.operation ≡ fresh k c) (store budget : ℕ) (reply : Reply) (e : (usb_run s store budget).end ≡ tells (given reply)) where
  pub three_steps : c.transfer_length ≡ 0 → (usb_run s store budget).steps ≡ 3
  three_steps h = steps_taken s store budget reply e ∙ ap left f ∙ fresh_without k c h

  pub four_steps : (c.transfer_length ≡ 0 → ⊥) → (usb_run s store budget).steps ≡ 4
  four_steps h = steps_taken s store budget reply e ∙ ap left f ∙ fresh_with k c h
