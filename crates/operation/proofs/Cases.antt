-- One law for each way that a step or a giving can go.
use Prim.Native.Nat.{ℕ, ◌<◌, ◌≤◌}
use mathlib.Core.Path.{◌≡◌, refl, ap, sym, subst, ◌∙◌}
use mathlib.Core.Bool.{Bool, true, false}
use mathlib.Core.List.{List, [], ◌++◌}
use native.Mathlib.Omega.{arith}
use borrow.Author.Tests.{lt-ltb, le-ltb, ltb-true, ltb-false}
use lib.Dec.{ltb}
use lib.ListN.{length, take}
use Rattle.promise.specs.Told.{Told, given, refused, and_then}
use Rattle.promise.specs.Rules.{pick, or_refuse}
use Rattle.promise.specs.Bytes.{front, high_first, low_first}
use Rattle.protocol_bytes.specs.Signature.{no_signature, signature_in}
use Rattle.protocol_bytes.specs.Writing.{writing, written_told, WriteMeets}
use Rattle.protocol.specs.CommandBytes.{command_bytes, write_command}
use Rattle.protocol.specs.declared.CommandBlock.{CommandBlock}
use Rattle.operation_finish.specs.Reply.{Reply, blank, beside_of, finish_told, FinishMeets}
use Rattle.operation_finish.specs.declared.Finished.{Finished}
use Rattle.operation.specs.declared.steps.Operation.{Operation}
use Rattle.operation.specs.declared.steps.Asked.{Asked}
use Rattle.operation.specs.declared.steps.Asked.TheVariants as asked
use Rattle.operation.specs.declared.steps.UsbOperation.{UsbOperation}
use Rattle.operation.specs.declared.steps.UsbStepped.{UsbStepped}
use Rattle.operation.specs.declared.giving.UsbGiven.{UsbGiven}
use Rattle.operation.specs.Record.{commanded, command_out}
use Rattle.operation.specs.Step.{Asks, writes_command, does, stays, command_step, finished_told, step_told, beside_asks, beside_at, step_of, StepMeets}
use Rattle.operation.specs.Code.{plain, finished_by}
use Rattle.operation.specs.Give.{keeps, nothing_asked, asks_for, owed, received, give_of, GiveMeets}
use Rattle.std.specs.Prelude.{Result}
use Rattle.operation_finish.specs.declared.Beside.{Beside}
use Rattle.operation_finish.specs.declared.UsbReply.{UsbReply}
use Rattle.protocol_status.specs.declared.failure.UsbOperationError.{UsbOperationError}
use Rattle.rule_number.specs.declared.OutputTooShort.{OutputTooShort}
use Rattle.std.specs.declared.result.Result.TheVariants.{Ok, Err}
use Rattle.operation.specs.declared.steps.UsbStep.{UsbStep}
use Rattle.operation.specs.declared.steps.StepError.{StepError}
use Rattle.operation.specs.declared.steps.StepError.TheVariants as step_error

-- an answer with nothing beside it
pub plain_meets : (answer : Result UsbStep StepError) (next : UsbOperation) (told : Told Asks) (sent old new : List ℕ) (r : UsbStepped)
    → r ≡ plain answer next → step_told answer (blank no_signature) ≡ told → blank no_signature ≡ beside_at told → new ≡ front sent old
    → StepMeets r old new (does told sent next)
plain_meets answer next told sent old new r e t b l =
    rw e (record { tells = t; beside = b; next = refl; leaves = l })

pub command_short : (op : UsbOperation) (room : ℕ) → room < 31 → command_step op room ≡ stays op 20 []
unfolding command_step or_refuse
command_short op room h = rw (lt-ltb room 31 h)

pub command_out_lem : (op : UsbOperation) (room : ℕ) → 31 ≤ room → command_step op room ≡ does (given writes_command) (command_out op) (commanded op)
unfolding command_step or_refuse
command_out_lem op room h = rw (le-ltb room 31 h)

pub refused_20 : (op : UsbOperation) (old new : List ℕ) (r : UsbStepped) → r ≡ plain (Err step_error.OutputTooShort) op → new ≡ old → StepMeets r old new (stays op 20 [])
unfolding step_told beside_at beside_of signature_in
refused_20 op old new r e l = plain_meets _ _ _ _ old new r e refl refl l

-- the command's writer refused, or wrote its 24 bytes
module _ (command : CommandBlock) (before after : List ℕ) (r : Result ℕ OutputTooShort) where
  short_at : (t : Bool) → ltb (length before) 31 ≡ t → ◌≡◌ {A = Told ℕ} (refused 20 []) (pick t (refused 20 []) (given 31))
      → after ≡ front (pick t [] (command_bytes command)) before → (length before < 31) × (after ≡ before)
  short_at true e h l = (ltb-true (length before) 31 e, l)
  short_at false e h l = let z : ◌≡◌ {A = ℕ} 0 1 = cc in absurd (omega arith)

  pub written_short : r ≡ (Err (record {})) → WriteMeets r before after (write_command command (length before)) → (length before < 31) × (after ≡ before)
  unfolding write_command writing or_refuse written_told
  written_short e m = short_at (ltb (length before) 31) refl (ap written_told (sym e) ∙ m.tells) m.leaves

  whole_at : (t : Bool) (n : ℕ) → ltb (length before) 31 ≡ t → ◌≡◌ {A = Told ℕ} (given n) (pick t (refused 20 []) (given 31))
      → after ≡ front (pick t [] (command_bytes command)) before → (31 ≤ length before) × (after ≡ front (command_bytes command) before)
  whole_at true n e h l = let z : ◌≡◌ {A = ℕ} 0 1 = cc in absurd (omega arith)
  whole_at false n e h l = (ltb-false (length before) 31 e, l)

  pub written_whole : (n : ℕ) → r ≡ Ok n → WriteMeets r before after (write_command command (length before))
      → (31 ≤ length before) × (after ≡ front (command_bytes command) before)
  unfolding write_command writing or_refuse written_told
  written_whole n e m = whole_at (ltb (length before) 31) n refl (ap written_told (sym e) ∙ m.tells) m.leaves

pub command_bytes_long : (command : CommandBlock) → length (command_bytes command) ≡ 24
unfolding command_bytes high_first low_first
command_bytes_long command = refl

-- the first 13 bytes of the output are the command's
pub first_of_command : (command : CommandBlock) (tail before : List ℕ) → take 13 (front (command_bytes command ++ tail) before) ≡ take 13 (command_bytes command)
unfolding command_bytes high_first low_first
first_of_command command tail before = refl

-- the step of an operation that stands there, and the giving to one that asked for that
pub step_as_lem : (here there : Operation) (op : UsbOperation) (lent room : ℕ) (old new : List ℕ) {r : UsbStepped}
    → there ≡ here → StepMeets r old new (step_of here op lent room) → StepMeets r old new (step_of there op lent room)
step_as_lem here there op lent room old new {r} e m = subst (λ (x : Operation). StepMeets r old new (step_of x op lent room)) (sym e) m

pub give_as : (this that : Asked) (op : UsbOperation) (bytes : List ℕ) (lent : ℕ) (old new : List ℕ) {r : UsbGiven}
    → that ≡ this → GiveMeets r old new (give_of this op bytes lent) → GiveMeets r old new (give_of that op bytes lent)
give_as this that op bytes lent old new {r} e m = subst (λ (x : Asked). GiveMeets r old new (give_of x op bytes lent)) (sym e) m

beside_finished : (told : Told Reply) → beside_of told ≡ beside_at (finished_told told)
unfolding beside_at beside_asks finished_told and_then
beside_finished (given reply) = refl
beside_finished (refused n values) = refl

-- the finish's answer, passed on
pub passed_on : (answer : Result UsbReply UsbOperationError) (b : Beside) → step_told (finished_by answer) b ≡ finished_told (finish_told answer b)
unfolding step_told finished_told finish_told and_then
passed_on (Ok reply) b = refl
passed_on (Err error) b = refl

pub finish_meets : (end : Finished) (next : UsbOperation) (told : Told Reply) (out : List ℕ) → FinishMeets end told
    → StepMeets (record { step = finished_by end.answer; beside = end.beside; next = next }) out out (does (finished_told told) [] next)
finish_meets end next told out m = record {
  tells = passed_on end.answer end.beside ∙ ap finished_told m.tells;
  beside = m.beside ∙ beside_finished told;
  next = refl;
  leaves = refl;
}

pub give_22 : (op : UsbOperation) (bytes : List ℕ) (lent : ℕ) → give_of asked.Nothing op bytes lent ≡ keeps op 22 []
unfolding give_of or_refuse nothing_asked
give_22 op bytes lent = refl

module _ (a : Asked) (op : UsbOperation) (bytes : List ℕ) (lent : ℕ) (asking : nothing_asked a ≡ false) where
  pub give_21 : asks_for a op < length bytes → give_of a op bytes lent ≡ keeps op 21 []
  unfolding give_of or_refuse
  give_21 h = rw (asking, lt-ltb (asks_for a op) (length bytes) h)

  pub give_27 : length bytes ≤ asks_for a op → lent < owed a op → give_of a op bytes lent ≡ keeps op 27 []
  unfolding give_of or_refuse
  give_27 h k = rw (asking, le-ltb (asks_for a op) (length bytes) h, lt-ltb lent (owed a op) k)

  pub give_taken : length bytes ≤ asks_for a op → owed a op ≤ lent → give_of a op bytes lent ≡ received a op bytes
  unfolding give_of or_refuse
  give_taken h k = rw (asking, le-ltb (asks_for a op) (length bytes) h, le-ltb lent (owed a op) k)
