-- What an answer, read as a number, says of the rest of the call.
use Prim.Native.Nat.{ℕ}
use mathlib.Core.Path.{◌≡◌, refl, ap, subst, ◌∙◌}
use mathlib.Core.List.{List, [], ◌∷◌}
use types.Run.{OneOf, miss}
use denote.Enum.Declared.{tag_of}
use native.Mathlib.Omega.{arith}
use Rattle.promise.specs.Told.{Told, given, refused, number}
use Rattle.protocol_reply.specs.Sectors.{sector_told, sectors_in, sector_error_number}
use Rattle.protocol_reply.specs.declared.size.SectorCount.{SectorCount}
use Rattle.protocol_reply.specs.declared.size.SectorError.{SectorError}
use Rattle.protocol_reply.specs.declared.size.SectorError.TheVariants.{NotSectors, TooMany}
use Rattle.std.specs.Prelude.{Result}
use Rattle.std.specs.declared.result.Result.TheVariants.{Ok, Err}
use Rattle.operation_finish.specs.declared.UsbReply.{UsbReply}
use Rattle.operation_finish.specs.declared.UsbReply.TheVariants as usb
use Rattle.operation_finish.specs.contracts.UsbReply as replies
use Rattle.operation_finish.specs.declared.Beside.{Beside}
use Rattle.operation_finish.specs.Reply.{Reply, reply_given}
use Rattle.operation.specs.declared.steps.UsbOperation.{UsbOperation}
use Rattle.mock.specs.declared.device.MockState.{MockState}
use Rattle.operation.specs.Start.{sectors_or0}
use Rattle.promise.specs.Run.{End, end_told}
use Rattle.run_turn.specs.Turn.{UsbState, usb_state}
use Rattle.run_operation.specs.declared.UsbRun.{UsbRun}
use Rattle.run_operation.specs.Answers.{answer_end, RunMeets}
use Rattle.run_operation.specs.Run.{usb_run, whole_budget}
use Rattle.deck.specs.declared.verdict.Dealt.{Dealt}
use Rattle.deck.specs.Verdict.{numbered, verdict_told}
use Rattle.deck.specs.Deal.{OperatedMeets}
use Rattle.ffi.specs.Sectors.{carried, SectorsMeet, counts_after, device, ran_to, run_at, carries}

-- an operation whose data is no sectors is not run, and any other is
module _ (operation : ℕ → UsbOperation) (flash bytes counts : List ℕ) where
  not_run : (error : SectorError) → carried (sector_error_number error) flash bytes counts ≡ carries operation (sector_told (Err error)) flash bytes counts
  unfolding carries sector_told
  not_run NotSectors = refl
  not_run TooMany = refl

  pub carries_refused : (error : SectorError) (size : ℕ) → sector_told (Err error) ≡ sectors_in size
      → carried (sector_error_number error) flash bytes counts ≡ carries operation (sectors_in size) flash bytes counts
  carries_refused error size told = not_run error ∙ ap (λ (t : Told SectorCount). carries operation t flash bytes counts) told

  carries_counted : (a : Result SectorCount SectorError) → number (sector_told a) ≡ 0
      → carries operation (sector_told a) flash bytes counts ≡ run_at (operation (sectors_or0 (sector_told a))) flash bytes counts
  unfolding carries number sector_told sectors_or0
  carries_counted (Ok count) e = refl
  carries_counted (Err NotSectors) e = absurd (omega arith)
  carries_counted (Err TooMany) e = absurd (omega arith)

  run_over : (count : SectorCount)
      → run_at (operation (sectors_or0 (sector_told (Ok count)))) flash bytes counts ≡ carries operation (sector_told (Ok count)) flash bytes counts
  unfolding carries sector_told sectors_or0
  run_over count = refl

  pub carries_run : (count : SectorCount) (size : ℕ) (o : UsbOperation) → sector_told (Ok count) ≡ sectors_in size → o ≡ operation (sectors_or0 (sectors_in size))
      → run_at o flash bytes counts ≡ carries operation (sectors_in size) flash bytes counts
  carries_run count size o told fresh = rw (fresh, ← told) (run_over count)

told_number : (t : Told Reply) → number (numbered t) ≡ number t
unfolding number numbered
told_number (given reply) = refl
told_number (refused n vs) = refl

told_counts : (t : Told Reply) (counts : List ℕ) → counts_after (numbered t) counts ≡ counts_after t counts
unfolding counts_after numbered
told_counts (given reply) counts = refl
told_counts (refused n vs) counts = refl

-- a reply of any kind but sectors leaves the counts
pub no_transfer : (reply : UsbReply) (b : Beside) (counts : List ℕ) → OneOf (0 ∷ 1 ∷ 2 ∷ 3 ∷ 4 ∷ 5 ∷ []) (tag_of replies.the_type reply)
    → counts ≡ counts_after (given (reply_given reply b)) counts
unfolding counts_after reply_given
no_transfer usb.ChipInfo b counts k = refl
no_transfer usb.FlashId b counts k = refl
no_transfer usb.FlashInfo b counts k = refl
no_transfer usb.Capability b counts k = refl
no_transfer usb.Nothing b counts k = refl
no_transfer (usb.Storage index) b counts k = refl
no_transfer (usb.Sectors transfer) b counts k = absurd (miss (0 ∷ 1 ∷ 2 ∷ 3 ∷ 4 ∷ 5 ∷ []) 6 tt k)

-- a run at a device that is the fresh one, told as the number of its verdict and the counts of its transfer
module _ (o : UsbOperation) (d : MockState) (flash bytes counts : List ℕ) (new : d ≡ device) where
  pub ran_at : (r : UsbRun) (v : Dealt) (n : ℕ) (flash-now bytes-now counts-now : List ℕ)
      → RunMeets r flash-now bytes-now (usb_run (usb_state o d flash bytes) 0 whole_budget) → OperatedMeets v r
      → counts-now ≡ counts_after (verdict_told v.verdict v.beside) counts → n ≡ number (verdict_told v.verdict v.beside)
      → SectorsMeet n flash-now bytes-now counts-now (run_at o flash bytes counts)
  unfolding ran_to
  ran_at r v n flash-now bytes-now counts-now m p c e =
      let told = end_told (answer_end r.answer r.beside) in
      subst (λ (x : MockState). SectorsMeet n flash-now bytes-now counts-now (ran_to (usb_run (usb_state o x flash bytes) 0 whole_budget) counts)) new
      (record {
        tells = e ∙ ap number p.tells ∙ told_number told ∙ ap (λ (x : End Reply). number (end_told x)) m.tells;
        flash = ap (λ (s : UsbState). s.flash) m.leaves;
        leaves = ap (λ (s : UsbState). s.«data») m.leaves;
        counts = c ∙ ap (λ (x : Told Reply). counts_after x counts) p.tells ∙ told_counts told counts ∙ ap (λ (x : End Reply). counts_after (end_told x) counts) m.tells;
      })
