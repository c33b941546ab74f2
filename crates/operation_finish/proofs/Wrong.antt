-- Programs that the contracts rule out, each at a named input: no proof of any kind can exist for them.
use Prim.Native.Nat.{ℕ, ◌≤◌}
use mathlib.Core.Path.{◌≡◌, refl, ap, sym, ◌∙◌}
use mathlib.Core.List.{List, [], ◌∷◌, ◌++◌}
use native.Mathlib.Omega.{arith}
use lib.Dec.{lit<, lit≤}
use lib.ListN.{get_or, replicate}
use Rattle.promise.specs.Told.{Told, given, refused, number}
use Rattle.protocol_codes.specs.declared.Status.{Status}
use Rattle.protocol_codes.specs.declared.Status.TheVariants.{SUCCESS, FAILED}
use Rattle.protocol_bytes.specs.Signature.{no_signature}
use Rattle.protocol_status.specs.Failure.{failure_number, failure_values}
use Rattle.protocol_status.specs.StatusBytes.{status_bytes, read_status}
use Rattle.protocol_status.specs.declared.report.CommandStatus.{CommandStatus}
use Rattle.protocol_status.specs.declared.failure.UsbOperationError.{UsbOperationError}
use Rattle.protocol_status.specs.declared.failure.UsbOperationError.TheVariants.{TagMismatch, FailedStatus}
use Rattle.protocol_status.proofs.Trips.{reads_back}
use Rattle.protocol_reply.specs.declared.size.Transferred.{Transferred}
use Rattle.operation_finish.specs.declared.Kind.TheVariants as kind
use Rattle.operation_finish.specs.declared.SectorTransfer.{SectorTransfer}
use Rattle.operation_finish.specs.declared.SectorTransfer.TheVariants.{Whole}
use Rattle.operation_finish.specs.declared.UsbReply.{UsbReply}
use Rattle.operation_finish.specs.declared.UsbReply.TheVariants as usb
use Rattle.operation_finish.specs.declared.Beside.{Beside}
use Rattle.operation_finish.specs.declared.Finished.{Finished}
use Rattle.operation_finish.specs.Reply.{Reply, moved, nothing, reply_given, finish_told, blank, FinishMeets}
use Rattle.operation_finish.specs.Transfer.{short, transfer_values}
use Rattle.operation_finish.specs.Finish.{reply_by, finishes}
use Rattle.operation_finish.proofs.Cases.{sectors_14, sectors_short, finish_15, finish_10, finish_reply}
use Rattle.std.specs.Prelude.{Result}
use Rattle.std.specs.declared.result.Result.TheVariants.{Ok, Err}

-- a status with tag 7 that leaves 512 bytes over, and its bytes
abbrev ended : Status → CommandStatus
ended outcome = record { tag = 7; residue = 512; status = outcome }

abbrev pub sent : Status → List ℕ
sent outcome = status_bytes (ended outcome) ++ []

pub read_sent : (outcome : Status) → read_status (sent outcome) ≡ given (ended outcome)
read_sent outcome = reads_back (ended outcome) [] (record { tag = lit< tt; residue = lit< tt })

-- `blank` with ones where zeros belong
pub blank_of_ones : (r : Beside) (s : List ℕ) → r ≡ blank s → r.flash_id.0 ≡ replicate 5 1 → ⊥
blank_of_ones r s e f =
    let z : ◌≡◌ {A = ℕ} 0 1 = ap (λ (l : List ℕ). get_or l 0 0) (sym (ap (λ (b : Beside). b.flash_id.0) e) ∙ f) in omega arith

-- `blank` without its signature
pub signature_dropped : (r : Beside) → r ≡ blank (1 ∷ 2 ∷ 3 ∷ 4 ∷ []) → r.signature ≡ no_signature → ⊥
signature_dropped r e f =
    let z : ◌≡◌ {A = ℕ} 1 0 = ap (λ (l : List ℕ). get_or l 0 0) (sym (ap (λ (b : Beside). b.signature) e) ∙ f) in omega arith

module _ (r : Finished) (inband : List ℕ) where
  -- what can be told of a read of 1,536 bytes whose status leaves 512 over
  moved_1024 : (transfer : SectorTransfer) → FinishMeets r (finishes kind.Read 7 1536 (sent SUCCESS) inband) → r.answer ≡ Ok (usb.Sectors transfer)
      → transfer_values transfer ≡ 1024 ∷ 1536 ∷ []
  unfolding finish_told reply_given reply_by transfer_values
  moved_1024 transfer meets e =
      let told : given (moved transfer) ≡ given (moved (short 1024 1536)) =
      ap (λ (a : Result UsbReply UsbOperationError). finish_told a r.beside) (sym e) ∙ meets.tells
      ∙ finish_reply kind.Read 7 1536 (sent SUCCESS) inband (ended SUCCESS) (read_sent SUCCESS) refl refl
      ∙ sectors_short 1536 512 (lit< tt) (lit≤ tt) in
      let same : transfer ≡ short 1024 1536 = cc in ap transfer_values same

  -- a short transfer told as whole, with any count
  pub short_as_whole : (count : Transferred) → FinishMeets r (finishes kind.Read 7 1536 (sent SUCCESS) inband)
      → r.answer ≡ Ok (usb.Sectors (Whole count)) → ⊥
  unfolding transfer_values
  short_as_whole count meets e =
      let told : count.0 ∷ [] ≡ 1024 ∷ 1536 ∷ [] = moved_1024 (Whole count) meets e in
      let z : ◌≡◌ {A = ℕ} 0 1 = cc in omega arith

  -- asked told as moved, and moved as asked
  pub moved_and_asked_swapped : FinishMeets r (finishes kind.Read 7 1536 (sent SUCCESS) inband)
      → r.answer ≡ Ok (usb.Sectors (short 1536 1024)) → ⊥
  unfolding transfer_values
  moved_and_asked_swapped meets e =
      let told : ◌≡◌ {A = List ℕ} (1536 ∷ 1024 ∷ []) (1024 ∷ 1536 ∷ []) = moved_1024 (short 1536 1024) meets e in
      let z : ◌≡◌ {A = ℕ} 1536 1024 = cc in omega arith

  -- the residue told as what was moved
  pub residue_as_moved : FinishMeets r (finishes kind.Read 7 1536 (sent SUCCESS) inband)
      → r.answer ≡ Ok (usb.Sectors (short 512 1536)) → ⊥
  unfolding transfer_values
  residue_as_moved meets e =
      let told : ◌≡◌ {A = List ℕ} (512 ∷ 1536 ∷ []) (1024 ∷ 1536 ∷ []) = moved_1024 (short 512 1536) meets e in
      let z : ◌≡◌ {A = ℕ} 512 1024 = cc in omega arith

  -- a residue above the length told as any transfer, short or whole
  pub refusal_as_short : (transfer : SectorTransfer) → FinishMeets r (finishes kind.Write 7 256 (sent SUCCESS) inband)
      → r.answer ≡ Ok (usb.Sectors transfer) → ⊥
  unfolding finish_told reply_given reply_by
  refusal_as_short transfer meets e =
      let told : given (moved transfer) ≡ refused 14 [] =
      ap (λ (a : Result UsbReply UsbOperationError). finish_told a r.beside) (sym e) ∙ meets.tells
      ∙ finish_reply kind.Write 7 256 (sent SUCCESS) inband (ended SUCCESS) (read_sent SUCCESS) refl refl
      ∙ sectors_14 256 512 (lit< tt) in
      let z : ◌≡◌ {A = ℕ} 0 1 = cc in omega arith

  -- a wrong tag told of a failed status: the failure comes first
  pub tag_before_failed : FinishMeets r (finishes kind.Nothing 8 0 (sent FAILED) inband) → r.answer ≡ Err TagMismatch → ⊥
  unfolding finish_told failure_number failure_values
  tag_before_failed meets e =
      let told : ◌≡◌ {A = Told Reply} (refused 10 []) (refused 15 []) =
      ap (λ (a : Result UsbReply UsbOperationError). finish_told a r.beside) (sym e) ∙ meets.tells
      ∙ finish_15 kind.Nothing 8 0 (sent FAILED) inband (ended FAILED) (read_sent FAILED) refl in
      let z : ◌≡◌ {A = ℕ} 10 15 = cc in omega arith

  -- a wrong tag let through
  pub tag_unlooked : FinishMeets r (finishes kind.Nothing 8 0 (sent SUCCESS) inband) → r.answer ≡ Ok usb.Nothing → ⊥
  unfolding finish_told
  tag_unlooked meets e =
      let told : given (reply_given usb.Nothing r.beside) ≡ refused 10 [] =
      ap (λ (a : Result UsbReply UsbOperationError). finish_told a r.beside) (sym e) ∙ meets.tells
      ∙ finish_10 kind.Nothing 8 0 (sent SUCCESS) inband (ended SUCCESS) (read_sent SUCCESS) refl (λ h. omega arith) in
      let z : ◌≡◌ {A = ℕ} 0 1 = cc in omega arith

  -- a finish that always fails, whatever it tells
  pub always_refusing : (error : UsbOperationError) → FinishMeets r (finishes kind.Nothing 7 0 (sent SUCCESS) inband) → r.answer ≡ Err error → ⊥
  unfolding finish_told reply_by
  always_refusing error meets e =
      let told : refused (failure_number error) (failure_values error r.beside.signature) ≡ given nothing =
      ap (λ (a : Result UsbReply UsbOperationError). finish_told a r.beside) (sym e) ∙ meets.tells
      ∙ finish_reply kind.Nothing 7 0 (sent SUCCESS) inband (ended SUCCESS) (read_sent SUCCESS) refl refl in
      let z : ◌≡◌ {A = ℕ} 0 1 = cc in omega arith

-- one number for all failures
pub one_number_for_all : (n : ℕ) (b : Beside) → n ≡ number (finish_told (Err TagMismatch) b) → n ≡ number (finish_told (Err FailedStatus) b) → ⊥
unfolding number finish_told failure_number
one_number_for_all n b e f = omega arith

-- a reply told as a refusal
pub reply_a_refusal : (n : ℕ) (reply : UsbReply) (b : Beside) → n ≡ number (finish_told (Ok reply) b) → 1 ≤ n → ⊥
unfolding number finish_told
reply_a_refusal n reply b e f = omega arith
