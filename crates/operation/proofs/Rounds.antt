-- How many steps an operation takes to its finish: 3, or 4 with data, whatever it is given.
use Prim.Native.Nat.{ℕ, suc, ◌+◌, ◌<◌, ◌≤◌}
use mathlib.Core.Path.{◌≡◌, refl, ap, ap₂, ◌∙◌}
use mathlib.Core.Bool.{Bool, true, false}
use mathlib.Core.List.{List, [], ◌∷◌}
use native.Mathlib.Omega.{arith}
use native.Mathlib.Nat.{add-zero}
use borrow.Author.Tests.{eq-eqb, ne_eqb}
use lib.Dec.{eqb}
use lib.ListN.{length}
use Rattle.promise.specs.Rules.{pick}
use Rattle.protocol.specs.declared.CommandBlock.{CommandBlock}
use Rattle.operation_finish.specs.declared.Kind.{Kind}
use Rattle.operation.specs.declared.steps.Operation.{Operation}
use Rattle.operation.specs.declared.steps.Operation.TheVariants as operation
use Rattle.operation.specs.declared.steps.IOBytes.{IOBytes}
use Rattle.operation.specs.declared.steps.IOBytes.TheVariants as io
use Rattle.operation.specs.declared.steps.UsbOperation.{UsbOperation}
use Rattle.operation.specs.Record.{fresh, io_of, transfer_length, after_command, left_at, left}
use Rattle.operation.specs.Step.{Step, io_step, status_step, step_of, usb_step}
use Rattle.operation.specs.Give.{usb_give}
use Rattle.operation.proofs.Cases.{command_out_lem}
use Rattle.operation.proofs.Laws.{data_inband, data_read, data_write, give_keeps}
use Rattle.operation.specs.Rounds.{Gift, Turn, gifted, played, AllFit}

-- a fresh operation takes 3 steps, or 4 with data
pub fresh_without : (kind : Kind) (command : CommandBlock) → command.transfer_length ≡ 0 → left (fresh kind command) ≡ 3
unfolding left_at
fresh_without kind command e = rw (eq-eqb command.transfer_length 0 e)

pub fresh_with : (kind : Kind) (command : CommandBlock) → (command.transfer_length ≡ 0 → ⊥) → left (fresh kind command) ≡ 4
unfolding left_at
fresh_with kind command h = rw (ne_eqb command.transfer_length 0 h)

-- what is lent is long enough: 31 bytes of output, and the transfer length of data
pub record Fits (op : UsbOperation) (lent room : ℕ) : Type 0 where
  pub output : 31 ≤ room
  pub enough : transfer_length op ≤ lent

after_left : (none : Bool) (l : ℕ) → suc (left_at (pick none operation.CommandStatus operation.IO) l) ≡ pick none 3 4
unfolding left_at
after_left true l = refl
after_left false l = refl

-- one step of one that isn't at its finish
Falls : UsbOperation → Step → ℕ → Type 0
Falls op s n = (suc (left s.next) ≡ n) × (transfer_length s.next ≡ transfer_length op)

io_falls : (here : IOBytes) (op : UsbOperation) (lent : ℕ) → transfer_length op ≤ lent → Falls op (io_step here op lent) 3
unfolding Falls left_at
io_falls io.Inband op lent h = rw (data_inband op lent) (refl, refl)
io_falls io.Read op lent h = rw (data_read op lent h) (refl, refl)
io_falls io.Write op lent h = rw (data_write op lent h) (refl, refl)

falls_at : (here : Operation) (op : UsbOperation) (lent room : ℕ) → (here ≡ operation.Finish → ⊥) → Fits op lent room
    → Falls op (step_of here op lent room) (left_at here (transfer_length op))
unfolding step_of left_at Falls status_step after_command
falls_at operation.CommandBlock op lent room h fits =
    rw (command_out_lem op room fits.output) (after_left (eqb (transfer_length op) 0) (transfer_length op), refl)
falls_at operation.IO op lent room h fits = io_falls (io_of op.kind) op lent fits.enough
falls_at operation.CommandStatus op lent room h fits = (refl, refl)
falls_at operation.Finish op lent room h fits = absurd (h refl)

pub left_falls : (op : UsbOperation) (lent room : ℕ) → (op.next ≡ operation.Finish → ⊥) → Fits op lent room
    → (suc (left (usb_step op lent room).next) ≡ left op) × (transfer_length (usb_step op lent room).next ≡ transfer_length op)
unfolding Falls
left_falls op lent room h fits = falls_at op.next op lent room h fits

-- no giving changes it
pub left_kept : (op : UsbOperation) (bytes : List ℕ) (lent : ℕ) → left (usb_give op bytes lent).next ≡ left op
left_kept op bytes lent =
    let same = give_keeps op bytes lent in
    ap₂ (λ (here : Operation) (c : CommandBlock). left_at here c.transfer_length) same.next same.command

-- one is left at the finish alone
three_or_four : (none : Bool) → ◌≡◌ {A = ℕ} (pick none 3 4) 1 → ⊥
three_or_four true e = omega arith
three_or_four false e = omega arith

pub one_left : (here : Operation) (l : ℕ) → left_at here l ≡ 1 → here ≡ operation.Finish
unfolding left_at
one_left operation.CommandBlock l e = absurd (three_or_four (eqb l 0) e)
one_left operation.IO l e = absurd (omega arith)
one_left operation.CommandStatus l e = absurd (omega arith)
one_left operation.Finish l e = refl

finish_one : (here : Operation) (l : ℕ) → here ≡ operation.Finish → left_at here l ≡ 1
unfolding left_at
finish_one here l e = rw e

gifted_left : (gs : List Gift) (op : UsbOperation) → (left (gifted gs op) ≡ left op) × (transfer_length (gifted gs op) ≡ transfer_length op)
unfolding gifted
gifted_left [] op = (refl, refl)
gifted_left (g ∷ gs) op =
    let after = (usb_give op g.bytes g.lent).next in
    let rest = gifted_left gs after in
    let same : transfer_length after ≡ transfer_length op = ap (λ (c : CommandBlock). c.transfer_length) (give_keeps op g.bytes g.lent).command in
    (rest.0 ∙ left_kept op g.bytes g.lent, rest.1 ∙ same)

-- each turn takes one of the steps that are left
pub rounds : (turns : List Turn) (op : UsbOperation) → AllFit (transfer_length op) turns → length turns < left op
    → left (played turns op) + length turns ≡ left op
unfolding played AllFit
rounds [] op fit few = add-zero (left op)
rounds (t ∷ ts) op fit few =
    let going : op.next ≡ operation.Finish → ⊥ = λ e. omega (arith, finish_one op.next (transfer_length op) e) in
    let stepped = (usb_step op t.lent t.room).next in
    let falls = left_falls op t.lent t.room going (record { output = fit.0; enough = fit.1 }) in
    let gave = gifted_left t.gifts stepped in
    let after = gifted t.gifts stepped in
    let same : transfer_length after ≡ transfer_length op = gave.1 ∙ falls.1 in
    let fits : AllFit (transfer_length after) ts = rw same fit.2 in
    let fewer : length ts < left after = omega (arith, gave.0, falls.0) in
    omega (arith, rounds ts after fits fewer, gave.0, falls.0)

-- a fresh operation stands at its finish before the last of its 3 or 4 steps and not sooner, whatever it is given
pub finish_comes : (kind : Kind) (command : CommandBlock) (turns : List Turn) → AllFit command.transfer_length turns
    → suc (length turns) ≡ left (fresh kind command) → (played turns (fresh kind command)).next ≡ operation.Finish
finish_comes kind command turns fit e =
    let op = fresh kind command in
    let few : length turns < left op = omega arith in
    one_left (played turns op).next (transfer_length (played turns op)) (omega (arith, rounds turns op fit few))

pub not_sooner : (kind : Kind) (command : CommandBlock) (turns : List Turn) → AllFit command.transfer_length turns
    → suc (length turns) < left (fresh kind command) → (played turns (fresh kind command)).next ≡ operation.Finish → ⊥
not_sooner kind command turns fit h e =
    let op = fresh kind command in
    let few : length turns < left op = omega arith in
    let one = finish_one (played turns op).next (transfer_length (played turns op)) e in
    omega (arith, rounds turns op fit few, one)
