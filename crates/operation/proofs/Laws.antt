-- What holds of a step and of a giving at every record.
use Prim.Native.Nat.{ℕ, ◌<◌, ◌≤◌}
use mathlib.Core.Path.{◌≡◌, refl, ap, ◌∙◌}
use mathlib.Core.List.{List, []}
use native.Mathlib.Omega.{arith}
use borrow.Author.Tests.{lt-ltb, le-ltb, ltb-false}
use lib.ListN.{length, length-append, length-drop}
use Rattle.promise.specs.Told.{given, refused, and_then}
use Rattle.promise.specs.Rules.{Rule, or_refuse}
use Rattle.promise.specs.Bytes.{front}
use Rattle.protocol_codes.specs.declared.Status.TheVariants.{FAILED}
use Rattle.promise.proofs.Outcome.{either_way}
use Rattle.protocol_status.specs.StatusBytes.{read_status}
use Rattle.protocol_status.specs.declared.report.CommandStatus.{CommandStatus}
use Rattle.operation_finish.proofs.Cases.{finish_15}
use Rattle.operation.specs.declared.steps.Operation.{Operation}
use Rattle.operation.specs.declared.steps.Operation.TheVariants as operation
use Rattle.operation.specs.declared.steps.IOBytes.{IOBytes}
use Rattle.operation.specs.declared.steps.IOBytes.TheVariants as io
use Rattle.operation.specs.declared.steps.Asked.{Asked}
use Rattle.operation.specs.declared.steps.Asked.TheVariants as asked
use Rattle.operation.specs.declared.steps.UsbOperation.{UsbOperation}
use Rattle.operation.specs.Record.{io_of, transfer_length, inband_length, turned}
use Rattle.operation.specs.Step.{Asks, writes_data, reads, Step, does, stays, command_step, io_step, status_step, finished_told, finish_step, step_of, usb_step, Stays}
use Rattle.operation.specs.Give.{takes, keeps, nothing_asked, asks_for, owed, received, give_of, usb_give, Alike}
use Rattle.operation.proofs.Cases.{command_bytes_long, give_taken}

-- what each place answers
module _ (op : UsbOperation) (lent room : ℕ) where
  pub at_command : op.next ≡ operation.CommandBlock → usb_step op lent room ≡ command_step op room
  unfolding step_of
  at_command e = ap (λ (x : Operation). step_of x op lent room) e

  pub at_io : op.next ≡ operation.IO → usb_step op lent room ≡ io_step (io_of op.kind) op lent
  unfolding step_of
  at_io e = ap (λ (x : Operation). step_of x op lent room) e

  pub at_status : op.next ≡ operation.CommandStatus → usb_step op lent room ≡ status_step op
  unfolding step_of
  at_status e = ap (λ (x : Operation). step_of x op lent room) e

  pub at_finish_lem : op.next ≡ operation.Finish → usb_step op lent room ≡ finish_step op
  unfolding step_of
  at_finish_lem e = ap (λ (x : Operation). step_of x op lent room) e

-- the data step, by where the data is
module _ (op : UsbOperation) (lent : ℕ) where
  pub data_inband : io_step io.Inband op lent ≡ does (given (reads asked.Inband (inband_length op))) [] (turned op operation.CommandStatus asked.Inband)
  unfolding io_step
  data_inband = refl

  pub data_read : transfer_length op ≤ lent
      → io_step io.Read op lent ≡ does (given (reads asked.Sectors (transfer_length op))) [] (turned op operation.CommandStatus asked.Sectors)
  unfolding io_step or_refuse
  data_read h = rw (le-ltb lent (transfer_length op) h)

  pub data_write : transfer_length op ≤ lent
      → io_step io.Write op lent ≡ does (given (writes_data (transfer_length op))) [] (turned op operation.CommandStatus asked.Nothing)
  unfolding io_step or_refuse
  data_write h = rw (le-ltb lent (transfer_length op) h)

  -- 27 for either
  pub read_27 : lent < transfer_length op → io_step io.Read op lent ≡ stays op 27 []
  unfolding io_step or_refuse
  read_27 h = rw (lt-ltb lent (transfer_length op) h)

  pub write_27 : lent < transfer_length op → io_step io.Write op lent ≡ stays op 27 []
  unfolding io_step or_refuse
  write_27 h = rw (lt-ltb lent (transfer_length op) h)

-- a step that tells a refusal stays, unless it is the finish
abbrev Refusing : UsbOperation → Step → Type 0
Refusing op s = (n : ℕ) (values : List ℕ) → s.told ≡ refused n values → Stays op s

refusing : (op : UsbOperation) (rules : List Rule) (asks : Asks) (sent : List ℕ) (next : UsbOperation)
    → Refusing op (or_refuse (stays op) rules (does (given asks) sent next))
refusing op rules asks sent next =
    either_way (Refusing op) (stays op) rules (does (given asks) sent next) (λ m vs n values e. record { sent = refl; next = refl })
    (λ met n values e. let z : ◌≡◌ {A = ℕ} 0 1 = cc in absurd (omega arith))

io_refusing : (here : IOBytes) (op : UsbOperation) (lent : ℕ) → Refusing op (io_step here op lent)
unfolding io_step
io_refusing io.Inband op lent = λ n values e. let z : ◌≡◌ {A = ℕ} 0 1 = cc in absurd (omega arith)
io_refusing io.Read op lent = refusing op _ _ [] _
io_refusing io.Write op lent = refusing op _ _ [] _

of_stays : (here : Operation) (op : UsbOperation) (lent room : ℕ) → (here ≡ operation.Finish → ⊥) → Refusing op (step_of here op lent room)
unfolding step_of command_step status_step
of_stays operation.CommandBlock op lent room h = refusing op _ _ _ _
of_stays operation.IO op lent room h = io_refusing (io_of op.kind) op lent
of_stays operation.CommandStatus op lent room h = λ n values e. let z : ◌≡◌ {A = ℕ} 0 1 = cc in absurd (omega arith)
of_stays operation.Finish op lent room h = absurd (h refl)

pub step_refused : (op : UsbOperation) (lent room n : ℕ) (values : List ℕ) → (op.next ≡ operation.Finish → ⊥)
    → (usb_step op lent room).told ≡ refused n values → Stays op (usb_step op lent room)
step_refused op lent room n values h = of_stays op.next op lent room h n values

-- a finish writes nothing either, and it stands at the command again, whatever it tells
pub rearms : (op : UsbOperation) (lent room : ℕ) → op.next ≡ operation.Finish
    → ((usb_step op lent room).sent ≡ []) × ((usb_step op lent room).next ≡ turned op operation.CommandBlock asked.Nothing)
unfolding finish_step
rearms op lent room e = (ap (λ (s : Step). s.sent) (at_finish_lem op lent room e), ap (λ (s : Step). s.next) (at_finish_lem op lent room e))

-- a failed status outranks a wrong tag, at every record
pub failed_outranks : (op : UsbOperation) (lent room : ℕ) (s : CommandStatus) → op.next ≡ operation.Finish → read_status op.command_bytes ≡ given s
    → s.status ≡ FAILED → (usb_step op lent room).told ≡ refused 15 []
unfolding finish_step finished_told and_then
failed_outranks op lent room s e read failed =
    ap (λ (t : Step). t.told) (at_finish_lem op lent room e)
    ∙ ap finished_told (finish_15 op.kind op.command.tag (transfer_length op) op.command_bytes op.«data» s read failed)

done_sends : (op : UsbOperation) (rules : List Rule) (done : Step) → length done.sent ≤ 31 → length (or_refuse (stays op) rules done).sent ≤ 31
done_sends op rules done h = either_way (λ s. length s.sent ≤ 31) (stays op) rules done (λ n values. omega arith) (λ met. h)

io_sends : (here : IOBytes) (op : UsbOperation) (lent : ℕ) → length (io_step here op lent).sent ≤ 31
unfolding io_step
io_sends io.Inband op lent = omega arith
io_sends io.Read op lent = done_sends op _ _ (omega arith)
io_sends io.Write op lent = done_sends op _ _ (omega arith)

sends : (here : Operation) (op : UsbOperation) (lent room : ℕ) → length (step_of here op lent room).sent ≤ 31
unfolding step_of command_step status_step finish_step
sends operation.CommandBlock op lent room = done_sends op _ _ (simp length-append (omega (arith, command_bytes_long op.command)))
sends operation.IO op lent room = io_sends (io_of op.kind) op lent
sends operation.CommandStatus op lent room = omega arith
sends operation.Finish op lent room = omega arith

-- a step writes no output byte past the first 31
pub sends_at_most : (op : UsbOperation) (lent room : ℕ) → length (usb_step op lent room).sent ≤ 31
sends_at_most op lent room = sends op.next op lent room

-- a giving leaves the kind, the command and the place as they are
pub record Same (op after : UsbOperation) : Type 0 where
  pub kind : after.kind ≡ op.kind
  pub command : after.command ≡ op.command
  pub next : after.next ≡ op.next

received_same : (a : Asked) (op : UsbOperation) (bytes : List ℕ) → Same op (received a op bytes).next
unfolding received
received_same asked.Nothing op bytes = record { kind = refl; command = refl; next = refl }
received_same asked.Inband op bytes = record { kind = refl; command = refl; next = refl }
received_same asked.Sectors op bytes = record { kind = refl; command = refl; next = refl }
received_same asked.Status op bytes = record { kind = refl; command = refl; next = refl }

pub give_keeps : (op : UsbOperation) (bytes : List ℕ) (lent : ℕ) → Same op (usb_give op bytes lent).next
unfolding give_of
give_keeps op bytes lent =
    either_way (λ g. Same op g.next) (keeps op) _ (received op.asked op bytes) (λ n values. record { kind = refl; command = refl; next = refl })
    (λ met. received_same op.asked op bytes)

taken_given : (a : Asked) (op : UsbOperation) (bytes : List ℕ) (n : ℕ) (values : List ℕ) → (received a op bytes).told ≡ refused n values → ⊥
unfolding received
taken_given asked.Nothing op bytes n values e = let z : ◌≡◌ {A = ℕ} 0 1 = cc in omega arith
taken_given asked.Inband op bytes n values e = let z : ◌≡◌ {A = ℕ} 0 1 = cc in omega arith
taken_given asked.Sectors op bytes n values e = let z : ◌≡◌ {A = ℕ} 0 1 = cc in omega arith
taken_given asked.Status op bytes n values e = let z : ◌≡◌ {A = ℕ} 0 1 = cc in omega arith

puts : (a : Asked) (op : UsbOperation) (bytes : List ℕ) → length bytes ≤ asks_for a op → length (received a op bytes).sent ≤ transfer_length op
unfolding received asks_for
puts asked.Nothing op bytes few = omega arith
puts asked.Inband op bytes few = omega arith
puts asked.Sectors op bytes few = few
puts asked.Status op bytes few = omega arith

-- "A refusal writes no lent buffer and changes no record"
pub give_refused : (op : UsbOperation) (bytes : List ℕ) (lent n : ℕ) (values : List ℕ)
    → (usb_give op bytes lent).told ≡ refused n values → ((usb_give op bytes lent).sent ≡ []) × ((usb_give op bytes lent).next ≡ op)
unfolding give_of
give_refused op bytes lent n values =
    either_way (λ g. g.told ≡ refused n values → (g.sent ≡ []) × (g.next ≡ op)) (keeps op) _ (received op.asked op bytes)
    (λ m vs e. (refl, refl)) (λ met e. absurd (taken_given op.asked op bytes n values e))

-- a giving writes no byte of the caller's data past the transfer length
pub puts_at_most : (op : UsbOperation) (bytes : List ℕ) (lent : ℕ) → length (usb_give op bytes lent).sent ≤ transfer_length op
unfolding give_of
puts_at_most op bytes lent =
    either_way (λ g. length g.sent ≤ transfer_length op) (keeps op) _ (received op.asked op bytes) (λ n values. omega arith)
    (λ met. puts op.asked op bytes (ltb-false (asks_for op.asked op) (length bytes) met.1.0))

pub empty_giving : (op : UsbOperation) (bytes data₀ : List ℕ) → op.asked ≡ asked.Sectors → length bytes ≤ transfer_length op → transfer_length op ≤ length data₀
    → Alike (front bytes data₀) data₀ (usb_give op [] (length (front bytes data₀))) (usb_give op bytes (length data₀))
unfolding nothing_asked asks_for owed received
empty_giving op bytes data₀ e few enough =
    let filled = front bytes data₀ in
    let long : length filled ≡ length data₀ = simp (length-append, length-drop) (omega arith) in
    let still : transfer_length op ≤ length filled = omega arith in
    let none : usb_give op [] (length filled) ≡ takes [] (turned op op.next asked.Nothing) =
    ap (λ (a : Asked). give_of a op [] (length filled)) e ∙ give_taken asked.Sectors op [] (length filled) refl (omega arith) still in
    let all : usb_give op bytes (length data₀) ≡ takes bytes (turned op op.next asked.Nothing) =
    ap (λ (a : Asked). give_of a op bytes (length data₀)) e ∙ give_taken asked.Sectors op bytes (length data₀) refl few enough in
    rw (none, all) (record { told = refl; next = refl; leaves = refl })
