-- Programs that the contracts of a verdict rule out, whatever their proofs: each answer is refuted at a named run.
use Rattle.std.proofs.Common.{◌≡◌, ℕ, suc, List, [], ◌∷◌, get_or, sym, ap, ◌∙◌, arith}
use Rattle.promise.specs.Told.{given, number}
use Rattle.protocol_reply.specs.declared.size.Transferred.{Transferred}
use Rattle.operation_finish.specs.Transfer.{short, transfer_values}
use Rattle.operation_finish.specs.Reply.{moved, reply_given, finish_told, blank}
use Rattle.operation_finish.specs.declared.SectorTransfer.{SectorTransfer}
use Rattle.operation_finish.specs.declared.SectorTransfer.TheVariants.{Whole}
use Rattle.operation_finish.specs.declared.UsbReply.{UsbReply}
use Rattle.operation_finish.specs.declared.UsbReply.TheVariants as usb
use Rattle.operation_finish.specs.declared.Beside.{Beside}
use Rattle.promise.specs.Run.{end_told}
use Rattle.mock.specs.declared.device.MockState.{MockState}
use Rattle.run_turn.specs.Answers.{stop_told}
use Rattle.run_operation.specs.declared.UsbRun.{UsbRun}
use Rattle.run_operation.specs.Answers as run
use Rattle.run_upload.specs.declared.LoadStopError.TheVariants.{ImageDiffers}
use Rattle.run_upload.specs.declared.LoadError.{LoadError}
use Rattle.run_upload.specs.declared.LoadError.TheVariants as load_error
use Rattle.run_upload.specs.declared.LoadRun.{LoadRun}
use Rattle.run_upload.specs.Answers as load
use Rattle.deck.specs.declared.verdict.Dealt.{Dealt}
use Rattle.deck.specs.Verdict.{numbered, load_told, verdict_told, kept}
use Rattle.deck.specs.Deal.{OperatedMeets, LoadedMeets, turned_away}
use Rattle.promise.specs.Rules.{differs, too_short}
use Rattle.std.specs.declared.result.Result.TheVariants.{Ok, Err}
use Rattle.std.specs.Prelude.{Result}
use Rattle.deck.specs.declared.verdict.RefusalNumber.{RefusalNumber}
use Rattle.run_operation.specs.declared.RunError.{RunError}
use Rattle.run_operation.specs.declared.RunError.TheVariants as run_error

abbrev dealt : Result UsbReply RefusalNumber → Beside → MockState → Dealt
dealt verdict beside device = record { verdict = verdict; beside = beside; device = device }

-- not the zeros that stand beside a refusal
abbrev others : Beside
others = blank (1 ∷ 0 ∷ 0 ∷ 0 ∷ [])

-- a run that used its steps up, told as done
pub out_of_steps_done : (reply : UsbReply) (b : Beside) (d : MockState) (ran : UsbRun) → ran.answer ≡ Err run_error.OutOfSteps
    → OperatedMeets (dealt (Ok reply) b d) ran → ⊥
unfolding verdict_told numbered end_told run.answer_end
out_of_steps_done reply b d ran e m =
    let told = m.tells ∙ ap (λ (a : Result UsbReply RunError). numbered (end_told (run.answer_end a ran.beside))) e in
    let z : ◌≡◌ {A = ℕ} 0 1 = cc told in omega arith

-- a run that moved 512 bytes of 1,024
module _ (r : Dealt) (ran : UsbRun) (e : ran.answer ≡ Ok (usb.Sectors (short 512 1024))) (m : OperatedMeets r ran) where
  told_512 : (transfer : SectorTransfer) → r.verdict ≡ Ok (usb.Sectors transfer) → transfer_values transfer ≡ 512 ∷ 1024 ∷ []
  unfolding verdict_told reply_given numbered end_told run.answer_end stop_told finish_told transfer_values
  told_512 transfer v =
      let told : given (moved transfer) ≡ given (moved (short 512 1024)) =
      ap (λ (x : Result UsbReply RefusalNumber). verdict_told x r.beside) (sym v) ∙ m.tells ∙ ap (λ (a : Result UsbReply RunError). numbered (end_told (run.answer_end a ran.beside))) e in
      let same : transfer ≡ short 512 1024 = cc in ap transfer_values same

  -- told as whole, with any count
  pub short_run_as_whole : (count : Transferred) → r.verdict ≡ Ok (usb.Sectors (Whole count)) → ⊥
  unfolding transfer_values
  short_run_as_whole count v =
      let told : ◌≡◌ {A = List ℕ} (count.0 ∷ []) (512 ∷ 1024 ∷ []) = told_512 (Whole count) v in
      let z : ◌≡◌ {A = ℕ} 0 1 = cc in omega arith

  -- and with its counts in each other's place
  pub short_run_swapped : r.verdict ≡ Ok (usb.Sectors (short 1024 512)) → ⊥
  unfolding transfer_values
  short_run_swapped v =
      let told : ◌≡◌ {A = List ℕ} (1024 ∷ 512 ∷ []) (512 ∷ 1024 ∷ []) = told_512 (short 1024 512) v in
      let z : ◌≡◌ {A = ℕ} 1024 512 = cc in omega arith

-- bytes left beside a refusal
pub bytes_beside_a_refusal : (n : ℕ) (d : MockState) (ran : UsbRun) → OperatedMeets (dealt (Err (record { 0 = n })) others d) ran → ⊥
unfolding kept
bytes_beside_a_refusal n d ran m =
    let differ : ◌≡◌ {A = ℕ} 1 0 = ap (λ (b : Beside). get_or b.signature 0 0) m.beside in omega arith

-- 28 of an upload told as 27
pub load_out_of_steps_differs : (b : Beside) (d : MockState) (ran : LoadRun) → ran.answer ≡ Err load_error.OutOfSteps → LoadedMeets (dealt (Err (record { 0 = differs })) b d) ran → ⊥
unfolding verdict_told load_told end_told load.answer_end number
load_out_of_steps_differs b d ran e m =
    let told = m.tells ∙ ap (λ (a : Result Unit LoadError). load_told (end_told (load.answer_end a))) e in
    let z : ◌≡◌ {A = ℕ} 27 28 = ap number told in omega arith

-- 27 of an upload told as 20
pub load_differs_short : (b : Beside) (d : MockState) (ran : LoadRun) → ran.answer ≡ Err (load_error.Stopped ImageDiffers) → LoadedMeets (dealt (Err (record { 0 = too_short })) b d) ran → ⊥
unfolding verdict_told load_told end_told load.answer_end load.load_stop_told number
load_differs_short b d ran e m =
    let told = m.tells ∙ ap (λ (a : Result Unit LoadError). load_told (end_told (load.answer_end a))) e in
    let z : ◌≡◌ {A = ℕ} 20 27 = ap number told in omega arith

-- one number for all blocks that are turned away
pub away_as_one : (r : Dealt) (d : MockState) → r ≡ turned_away 44 d → r ≡ turned_away 40 d → ⊥
unfolding verdict_told number
away_as_one r d short bad =
    let z : ◌≡◌ {A = ℕ} 44 40 = ap (λ (x : Dealt). number (verdict_told x.verdict x.beside)) (sym short ∙ bad) in omega arith

-- bytes beside a block that is turned away
pub away_with_bytes : (n : ℕ) (d : MockState) → dealt (Err (record { 0 = n })) others d ≡ turned_away n d → ⊥
away_with_bytes n d e =
    let differ : ◌≡◌ {A = ℕ} 1 0 = ap (λ (x : Dealt). get_or x.beside.signature 0 0) e in omega arith

-- one number for two refusals
pub one_number : (n : ℕ) (b : Beside) → n ≡ number (verdict_told (Err (record { 0 = 53 })) b) → n ≡ number (verdict_told (Err (record { 0 = 54 })) b) → ⊥
unfolding number verdict_told
one_number n b first second = omega arith

-- a value numbered as a refusal
pub value_refused : (reply : UsbReply) (n : ℕ) (b : Beside) → suc n ≡ number (verdict_told (Ok reply) b) → ⊥
unfolding number verdict_told
value_refused reply n b e = omega arith
