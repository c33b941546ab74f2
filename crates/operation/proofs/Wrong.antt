-- Programs that the contracts rule out, each at a named input: no proof of any kind can exist for them.
use Prim.Native.Nat.{ℕ, ◌≤◌}
use mathlib.Core.Path.{◌≡◌, refl, ap, sym, ◌∙◌}
use mathlib.Core.List.{List, [], ◌∷◌}
use native.Mathlib.Omega.{arith}
use lib.Dec.{lit<, lit≤}
use lib.ListN.{get_or, replicate}
use Rattle.promise.specs.Told.{given, refused, number}
use Rattle.promise.specs.Bytes.{low_first, high_first, front}
use Rattle.protocol_codes.specs.declared.CommandCode.TheVariants.{ReadLBA}
use Rattle.protocol.specs.declared.CommandBlock.{CommandBlock}
use Rattle.protocol.specs.Commands.{reply_command, chip_info_command, erase_lba_command}
use Rattle.protocol.specs.CommandBytes.{command_bytes}
use Rattle.operation_finish.specs.declared.Kind.{Kind}
use Rattle.operation_finish.specs.declared.Kind.TheVariants as kind
use Rattle.operation_finish.specs.declared.Beside.{Beside}
use Rattle.operation.specs.declared.steps.Operation.TheVariants as operation
use Rattle.operation.specs.declared.steps.Asked.TheVariants as asked
use Rattle.operation.specs.declared.steps.UsbOperation.{UsbOperation}
use Rattle.operation.specs.declared.steps.UsbStep.TheVariants as step
use Rattle.operation.specs.declared.steps.UsbStepped.{UsbStepped}
use Rattle.operation.specs.declared.giving.UsbGiven.{UsbGiven}
use Rattle.operation.specs.Record.{fresh, after_command, turned, with_status}
use Rattle.operation.specs.Step.{writes_command, Step, step_of, usb_step, step_told, StepMeets}
use Rattle.operation.specs.Give.{Give, nothing_asked, asks_for, owed, received, usb_give, giving_told, GiveMeets}
use Rattle.operation.proofs.Cases.{command_short, command_out_lem, give_taken}
use Rattle.std.specs.declared.result.Result.TheVariants.{Ok, Err}
use Rattle.operation.specs.declared.steps.StepError.TheVariants as step_error
use Rattle.operation.specs.declared.giving.GivingError.TheVariants as giving_error

-- a start that leaves bytes of an earlier command
pub bytes_left_over : (k : Kind) (c : CommandBlock) (r : UsbOperation) → r ≡ fresh k c → r.command_bytes ≡ replicate 13 1 → ⊥
bytes_left_over k c r e f =
    let z : ◌≡◌ {A = ℕ} 0 1 = ap (λ (l : List ℕ). get_or l 0 0) (sym (ap (λ (o : UsbOperation). o.command_bytes) e) ∙ f) in omega arith

-- a start at the data
pub starts_at_the_data : (k : Kind) (c : CommandBlock) (r : UsbOperation) → r ≡ fresh k c → r.next ≡ operation.IO → ⊥
starts_at_the_data k c r e f =
    let same : operation.CommandBlock ≡ operation.IO = sym (ap (λ (o : UsbOperation). o.next) e) ∙ f in
    let z : ◌≡◌ {A = ℕ} 0 1 = cc in omega arith

-- one with a reply, one without data
abbrev asking : UsbOperation
asking = fresh kind.ChipInfo (chip_info_command 7)

abbrev erasing : UsbOperation
erasing = fresh kind.Nothing (erase_lba_command 7 0 1)

module _ (r : UsbStepped) (after : List ℕ) where
  -- a step that leaves bytes 24 to 30 as they were
  pub tail_left : StepMeets r (replicate 31 1) after (usb_step asking 0 31) → get_or after 30 0 ≡ 1 → ⊥
  unfolding step_of command_bytes high_first low_first
  tail_left meets e =
      let left : get_or after 30 0 ≡ 0 = ap (λ (l : List ℕ). get_or l 30 0) (meets.leaves ∙ ap (λ (s : Step). front s.sent (replicate 31 1)) (command_out_lem asking 31 (lit≤ tt))) in
      omega arith

  -- a step that does nothing
  pub doing_nothing : StepMeets r (replicate 31 1) after (usb_step asking 0 31) → r.next ≡ asking → ⊥
  unfolding step_of after_command
  doing_nothing meets e =
      let same : operation.CommandBlock ≡ operation.IO =
      ap (λ (o : UsbOperation). o.next) (sym e ∙ meets.next ∙ ap (λ (s : Step). s.next) (command_out_lem asking 31 (lit≤ tt))) in
      let z : ◌≡◌ {A = ℕ} 0 1 = cc in omega arith

  -- a step that always refuses, whatever it tells
  pub always_refusing : (n : ℕ) (values : List ℕ) → StepMeets r (replicate 31 1) after (usb_step asking 0 31) → step_told r.step r.beside ≡ refused n values → ⊥
  unfolding step_of
  always_refusing n values meets e =
      let told : refused n values ≡ given writes_command = sym e ∙ meets.tells ∙ ap (λ (s : Step). s.told) (command_out_lem asking 31 (lit≤ tt)) in
      let z : ◌≡◌ {A = ℕ} 0 1 = cc in omega arith

  -- the status left out where there is no data
  pub status_skipped : StepMeets r (replicate 31 1) after (usb_step erasing 0 31) → r.next.next ≡ operation.Finish → ⊥
  unfolding step_of after_command
  status_skipped meets e =
      let same : operation.Finish ≡ operation.CommandStatus =
      sym e ∙ ap (λ (o : UsbOperation). o.next) (meets.next ∙ ap (λ (s : Step). s.next) (command_out_lem erasing 31 (lit≤ tt))) in
      let z : ◌≡◌ {A = ℕ} 0 1 = cc in omega arith

  -- a refused step that goes on all the same
  pub refusal_changes_record : StepMeets r (replicate 30 1) after (usb_step asking 0 30) → r.next.next ≡ operation.IO → ⊥
  unfolding step_of
  refusal_changes_record meets e =
      let same : operation.IO ≡ operation.CommandBlock =
      sym e ∙ ap (λ (o : UsbOperation). o.next) (meets.next ∙ ap (λ (s : Step). s.next) (command_short asking 30 (lit< tt))) in
      let z : ◌≡◌ {A = ℕ} 0 1 = cc in omega arith

-- one that has asked for its status, over other bytes, and one that has asked for a byte of the caller's data
abbrev awaiting : UsbOperation
awaiting = turned (with_status asking (replicate 13 5)) operation.Finish asked.Status

abbrev reading : UsbOperation
reading = turned (fresh kind.Read (reply_command 7 1 ReadLBA)) operation.CommandStatus asked.Sectors

status_taken : usb_give awaiting (1 ∷ []) 0 ≡ received asked.Status awaiting (1 ∷ [])
unfolding nothing_asked asks_for owed
status_taken = give_taken asked.Status awaiting (1 ∷ []) 0 refl (lit≤ tt) (lit≤ tt)

byte_taken : usb_give reading (1 ∷ []) 1 ≡ received asked.Sectors reading (1 ∷ [])
unfolding nothing_asked asks_for owed
byte_taken = give_taken asked.Sectors reading (1 ∷ []) 1 refl (lit≤ tt) (lit≤ tt)

module _ (r : UsbGiven) (after : List ℕ) where
  -- a giving after which the same bytes are still asked for
  pub giving_twice : GiveMeets r [] after (usb_give awaiting (1 ∷ []) 0) → r.next.asked ≡ asked.Status → ⊥
  unfolding received
  giving_twice meets e =
      let same : asked.Status ≡ asked.Nothing = sym e ∙ ap (λ (o : UsbOperation). o.asked) (meets.next ∙ ap (λ (g : Give). g.next) status_taken) in
      let z : ◌≡◌ {A = ℕ} 0 1 = cc in omega arith

  -- a giving that clears what it has no bytes for
  pub rest_cleared : GiveMeets r [] after (usb_give awaiting (1 ∷ []) 0) → r.next.command_bytes ≡ 1 ∷ replicate 12 0 → ⊥
  unfolding received
  rest_cleared meets e =
      let z : ◌≡◌ {A = ℕ} 0 5 =
      ap (λ (l : List ℕ). get_or l 1 0) (sym e ∙ ap (λ (o : UsbOperation). o.command_bytes) (meets.next ∙ ap (λ (g : Give). g.next) status_taken)) in
      omega arith

  -- a giving that leaves the caller's data alone
  pub data_untouched : GiveMeets r (0 ∷ []) after (usb_give reading (1 ∷ []) 1) → after ≡ 0 ∷ [] → ⊥
  unfolding received
  data_untouched meets e =
      let z : ◌≡◌ {A = ℕ} 0 1 = ap (λ (l : List ℕ). get_or l 0 0) (sym e ∙ meets.leaves ∙ ap (λ (g : Give). front g.sent (0 ∷ [])) byte_taken) in omega arith

-- one number for every refusal of a step
pub one_number_for_all : (n : ℕ) (b : Beside) → n ≡ number (step_told (Err step_error.OutputTooShort) b) → n ≡ number (step_told (Err step_error.DataDiffers) b) → ⊥
unfolding number step_told
one_number_for_all n b e f = omega arith

-- a read that is asked for told as a refusal
pub asked_a_refusal : (n size : ℕ) (b : Beside) → n ≡ number (step_told (Ok (step.ReadStatus size)) b) → 1 ≤ n → ⊥
unfolding number step_told
asked_a_refusal n size b e f = omega arith

-- 22 told as 21
pub not_asked_too_many : (n : ℕ) → n ≡ number (giving_told (Err giving_error.NotAsked)) → n ≡ 21 → ⊥
unfolding number giving_told
not_asked_too_many n e f = omega arith

-- bytes that are taken told as a refusal
pub taken_a_refusal : (n : ℕ) → n ≡ number (giving_told (Ok tt)) → 1 ≤ n → ⊥
unfolding number giving_told
taken_a_refusal n e f = omega arith
