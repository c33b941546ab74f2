-- What a finish tells of sectors, read off the status that it was given; and that it is what stood before with the distinction forgotten.
use Prim.Native.Nat.{ℕ, ◌-◌, ◌<◌, ◌≤◌}
use mathlib.Core.Path.{◌≡◌, refl, ap, sym, ◌∙◌}
use mathlib.Core.Bool.{false, not}
use mathlib.Core.Logic.{⊎_elim}
use mathlib.Core.List.{List, [], ◌∷◌}
use lib.Dec.{eqb}
use lib.ListN.{take}
use native.Mathlib.Omega.{arith}
use borrow.Author.Tests.{eqb-true, not-false}
use Rattle.promise.specs.Told.{Told, given, refused, and_then}
use Rattle.promise.specs.Rules.{or_refuse}
use Rattle.promise.specs.Bytes.{from_low}
use Rattle.promise.proofs.Outcome.{by_test, on_test, passed, tells_as}
use Rattle.protocol_codes.specs.declared.Status.{Status}
use Rattle.protocol_codes.specs.declared.Status.TheVariants.{SUCCESS, FAILED}
use Rattle.protocol_status.specs.StatusBytes.{read_status}
use Rattle.protocol_status.specs.Failure.{failure_number, failure_values, at_finish}
use Rattle.protocol_status.proofs.Reading.{parse_refusals}
use Rattle.protocol_status.specs.declared.report.CommandStatus.{CommandStatus}
use Rattle.protocol_status.specs.declared.failure.UsbOperationError.TheVariants.{ReplyParseFailure}
use Rattle.protocol_reply.specs.Media.{places_set, only_place, read_storage}
use Rattle.protocol_reply.specs.declared.size.Transferred.{Transferred}
use Rattle.operation_finish.specs.declared.Kind.{Kind}
use Rattle.operation_finish.specs.declared.Kind.TheVariants as kind
use Rattle.operation_finish.specs.declared.ShortTransfer.{ShortTransfer}
use Rattle.operation_finish.specs.declared.SectorTransfer.{SectorTransfer}
use Rattle.operation_finish.specs.declared.SectorTransfer.TheVariants.{Whole, Short}
use Rattle.operation_finish.specs.declared.UsbReply.TheVariants as usb
use Rattle.operation_finish.specs.declared.Finished.{Finished}
use Rattle.operation_finish.specs.Transfer.{bytes, whole, short, transfer_values, transfer_of, moved_of, forgets}
use Rattle.operation_finish.specs.Reply.{Reply, moved, storage, reply_given, finish_told, FinishMeets}
use Rattle.operation_finish.specs.Finish.{failed, sectors_by, sector_reply, storage_reply, reply_by, reply_of, judged_by, finishes_by, finishes, rust_finishes, forgets_reply, forgotten}
use Rattle.operation_finish.specs.Ended.{OverSectors, reading, writing, Ended}
use Rattle.operation_finish.proofs.Transfers.{whole_only, short_only, refused_only, transfer_forgotten}
use Rattle.operation_finish.proofs.Cases.{sectors_14, sectors_whole, sectors_short, finish_reply}
use Rattle.operation_finish.proofs.Unique.{answer_of, answer_of_lem}
use Rattle.std.specs.Prelude.{Result}
use Rattle.operation_finish.specs.declared.UsbReply.{UsbReply}
use Rattle.protocol_status.specs.declared.failure.UsbOperationError.{UsbOperationError}
use Rattle.std.specs.declared.result.Result.TheVariants.{Ok, Err}

-- a status that can't be read is refused at a finish
still_refused : {A : Type 0} (n : ℕ) (values : List ℕ) → (m : ℕ) × (ws : List ℕ) × (at_finish {A = A} (refused n values) ≡ refused m ws)
unfolding at_finish
still_refused {A} n values =
    let P : Told A → Type 0 = λ t. (m : ℕ) × (ws : List ℕ) × (t ≡ refused m ws) in
    by_test P (eqb n 6) (λ e. (11, values, refl))
    (λ e. by_test P (eqb n 7) (λ f. (12, values, refl)) (λ f. by_test P (eqb n 5) (λ g. (13, [], refl)) (λ g. (n, values, refl))))

-- from what is told to the status

given_of : (t : Told SectorTransfer) (transfer : SectorTransfer) → and_then t (λ told. given (moved told)) ≡ given (moved transfer) → t ≡ given transfer
unfolding and_then
given_of (given x) transfer e = let same : x ≡ transfer = cc in ap (λ (s : SectorTransfer). given s) same
given_of (refused n values) transfer e = let z : ◌≡◌ {A = ℕ} 0 1 = cc in absurd (omega arith)

no_place : (places : List ℕ) (transfer : SectorTransfer) → and_then (only_place places) (λ index. given (storage index)) ≡ given (moved transfer) → ⊥
unfolding and_then only_place
no_place [] transfer e = let z : ◌≡◌ {A = ℕ} 0 1 = cc in omega arith
no_place (p ∷ []) transfer e = let z : ◌≡◌ {A = ℕ} 0 1 = cc in omega arith
no_place (p ∷ q ∷ more) transfer e = let z : ◌≡◌ {A = ℕ} 0 1 = cc in omega arith

reply_sectors : (k : Kind) (l residue : ℕ) (inband : List ℕ) (transfer : SectorTransfer) → reply_of k l residue inband ≡ given (moved transfer)
    → OverSectors k × (transfer_of l residue ≡ given transfer)
unfolding reply_by sectors_by storage_reply read_storage
reply_sectors kind.ChipInfo l residue inband transfer e = let z : ◌≡◌ {A = ℕ} 0 1 = cc in absurd (omega arith)
reply_sectors kind.FlashId l residue inband transfer e = let z : ◌≡◌ {A = ℕ} 0 1 = cc in absurd (omega arith)
reply_sectors kind.FlashInfo l residue inband transfer e = let z : ◌≡◌ {A = ℕ} 0 1 = cc in absurd (omega arith)
reply_sectors kind.Capability l residue inband transfer e = let z : ◌≡◌ {A = ℕ} 0 1 = cc in absurd (omega arith)
reply_sectors kind.Nothing l residue inband transfer e = let z : ◌≡◌ {A = ℕ} 0 1 = cc in absurd (omega arith)
reply_sectors kind.Storage l residue inband transfer e = absurd (no_place (places_set 32 0 (from_low (take 4 inband))) transfer e)
reply_sectors kind.Read l residue inband transfer e = (reading, given_of (transfer_of l residue) transfer e)
reply_sectors kind.Write l residue inband transfer e = (writing, given_of (transfer_of l residue) transfer e)

sectors_of_lem : (k : Kind) (l residue : ℕ) (inband : List ℕ) → OverSectors k → reply_of k l residue inband ≡ sector_reply l residue
unfolding reply_by
sectors_of_lem _ l residue inband reading = refl
sectors_of_lem _ l residue inband writing = refl

success : (s : Status) → failed s ≡ false → s ≡ SUCCESS
unfolding failed
success SUCCESS e = refl
success FAILED e = let z : ◌≡◌ {A = ℕ} 0 1 = cc in absurd (omega arith)

module _ (k : Kind) (tag l : ℕ) (status inband : List ℕ) where
  module _ (transfer : SectorTransfer) where
    -- the status behind an answer, and what its residue makes of the length
    abbrev pub Behind : Type 0
    Behind = (report : CommandStatus) × Ended k tag status report × (transfer_of l report.residue ≡ given transfer)

    judged_sectors : (report : CommandStatus) → read_status status ≡ given report → judged_by transfer_of k tag l inband report ≡ given (moved transfer) → Behind
    unfolding judged_by
    judged_sectors report read e =
        let p = passed (λ t. t) refused (λ n values. refl) _ (reply_of k l report.residue inband) (moved transfer) e in
        let reply = reply_sectors k l report.residue inband transfer (sym p.1 ∙ e) in (
          report,
          record {
            sectors = reply.0;
            read = read;
            succeeds = success report.status p.0.0;
            its_tag = eqb-true report.tag tag (not-false (eqb report.tag tag) p.0.1.0);
          },
          reply.1,
        )

    read_sectors_lem : (t : Told CommandStatus) → read_status status ≡ t → and_then (at_finish t) (judged_by transfer_of k tag l inband) ≡ given (moved transfer) → Behind
    unfolding at_finish and_then
    read_sectors_lem (given report) read e = judged_sectors report read e
    read_sectors_lem (refused n values) read e =
        let still = still_refused {A = CommandStatus} n values in
        let f : refused still.0 still.1 ≡ given (moved transfer) =
        ap (λ t. and_then t (judged_by transfer_of k tag l inband)) (sym still.2) ∙ e in
        let z : ◌≡◌ {A = ℕ} 0 1 = cc in absurd (omega arith)

    pub finish_sectors : finishes k tag l status inband ≡ given (moved transfer) → Behind
    unfolding finishes_by
    finish_sectors e = read_sectors_lem (read_status status) refl e

  -- the status behind 14, of an operation over sectors
  module _ (over : OverSectors k) where
    abbrev Above : Type 0
    Above = (report : CommandStatus) × Ended k tag status report × (l < report.residue)

    refused_of : (t : Told SectorTransfer) (n : ℕ) (values : List ℕ) → ◌≡◌ {A = Told Reply} (and_then t (λ told. given (moved told))) (refused n values)
        → t ≡ refused n values
    unfolding and_then
    refused_of (given transfer) n values e = let z : ◌≡◌ {A = ℕ} 0 1 = cc in absurd (omega arith)
    refused_of (refused m others) n values e = cc

    judged_14 : (report : CommandStatus) → read_status status ≡ given report → judged_by transfer_of k tag l inband report ≡ refused 14 [] → Above
    unfolding judged_by or_refuse sectors_by
    judged_14 report read e =
        on_test (failed report.status)
        (λ t. let f : ◌≡◌ {A = Told Reply} (refused 15 []) (refused 14 []) = rw t at e in let z : ◌≡◌ {A = ℕ} 15 14 = cc in absurd (omega arith))
        (λ t. on_test (not (eqb report.tag tag))
        (λ u. let f : ◌≡◌ {A = Told Reply} (refused 10 []) (refused 14 []) = rw (t, u) at e in let z : ◌≡◌ {A = ℕ} 10 14 = cc in absurd (omega arith))
        (λ u.
        let f : reply_of k l report.residue inband ≡ refused 14 [] = rw (t, u) at e in
        let told = refused_of (transfer_of l report.residue) 14 [] (sym (sectors_of_lem k l report.residue inband over) ∙ f) in (
          report,
          record {
            sectors = over;
            read = read;
            succeeds = success report.status t;
            its_tag = eqb-true report.tag tag (not-false (eqb report.tag tag) u);
          },
          refused_only l report.residue 14 [] told,
        )))

    -- bytes that are no status are told by 11, 12 or 13
    unread_14 : (n : ℕ) (values : List ℕ) → read_status status ≡ refused n values
        → and_then (at_finish (refused n values)) (judged_by transfer_of k tag l inband) ≡ refused 14 [] → Above
    unfolding at_finish and_then
    unread_14 n values read e =
        ⊎_elim
        (λ five. let f : ◌≡◌ {A = Told Reply} (refused 13 []) (refused 14 []) = rw five at e in let z : ◌≡◌ {A = ℕ} 13 14 = cc in absurd (omega arith))
        (⊎_elim
        (λ six. let f : ◌≡◌ {A = Told Reply} (refused 11 values) (refused 14 []) = rw six at e in let z : ◌≡◌ {A = ℕ} 11 14 = cc in absurd (omega arith))
        (λ seven. let f : ◌≡◌ {A = Told Reply} (refused 12 values) (refused 14 []) = rw seven at e in let z : ◌≡◌ {A = ℕ} 12 14 = cc in absurd (omega arith)))
        (parse_refusals status n values read)

    read_14 : (t : Told CommandStatus) → read_status status ≡ t → and_then (at_finish t) (judged_by transfer_of k tag l inband) ≡ refused 14 [] → Above
    unfolding at_finish and_then
    read_14 (given report) read e = judged_14 report read e
    read_14 (refused n values) read e = unread_14 n values read e

    finish_14 : finishes k tag l status inband ≡ refused 14 [] → Above
    unfolding finishes_by
    finish_14 e = read_14 (read_status status) refl e

  -- what is told behind a success with its own tag
  pub finish_ended : (report : CommandStatus) → Ended k tag status report → finishes k tag l status inband ≡ sector_reply l report.residue
  finish_ended report ended =
      finish_reply k tag l status inband report ended.read ended.succeeds ended.its_tag ∙ sectors_of_lem k l report.residue inband ended.sectors

  -- any answer that the promise of `finish_of` allows
  module _ (r : Finished) (meets : FinishMeets r (finishes k tag l status inband)) where
    answer_behind : (transfer : SectorTransfer) → r.answer ≡ Ok (usb.Sectors transfer) → Behind transfer
    unfolding finish_told reply_given
    answer_behind transfer e =
        finish_sectors transfer (sym meets.tells ∙ ap (λ (a : Result UsbReply UsbOperationError). finish_told a r.beside) e)

    -- SHORT. Only behind a success with its own tag whose residue is 1 byte at least and no more than was asked: what was moved is the rest
    pub told_short : (s : ShortTransfer) → r.answer ≡ Ok (usb.Sectors (Short s))
        → (report : CommandStatus) × Ended k tag status report × (0 < report.residue) × (report.residue ≤ l)
        × (s.moved ≡ bytes (l - report.residue)) × (s.asked ≡ bytes l)
    told_short s e =
        let b = answer_behind (Short s) e in
        let only = short_only l b.0.residue s b.2 in (b.0, b.1, only.0, only.1, only.2, only.3)

    -- WHOLE. Only behind a success with its own tag and residue 0: what was asked was moved
    pub told_whole : (count : Transferred) → r.answer ≡ Ok (usb.Sectors (Whole count))
        → (report : CommandStatus) × Ended k tag status report × (report.residue ≡ 0) × (count ≡ bytes l)
    told_whole count e =
        let b = answer_behind (Whole count) e in
        let only = whole_only l b.0.residue count b.2 in (b.0, b.1, only.0, only.1)

    -- 14 of an operation over sectors only behind such a success with more left over than was asked
    pub told_14 : OverSectors k → r.answer ≡ Err ReplyParseFailure → (report : CommandStatus) × Ended k tag status report × (l < report.residue)
    unfolding finish_told failure_number failure_values
    told_14 over e = finish_14 over (sym meets.tells ∙ ap (λ (a : Result UsbReply UsbOperationError). finish_told a r.beside) e)

    -- and always behind these
    module _ (report : CommandStatus) (ended : Ended k tag status report) where
      tells_sectors : (told : Told Reply) → sector_reply l report.residue ≡ told → r.answer ≡ answer_of told
      tells_sectors told e =
          sym (answer_of_lem r.answer r.beside)
          ∙ ap answer_of (meets.tells ∙ finish_ended report ended ∙ e)

      pub tells_short : 0 < report.residue → report.residue ≤ l → r.answer ≡ Ok (usb.Sectors (short (l - report.residue) l))
      tells_short some few = tells_sectors _ (sectors_short l report.residue some few)

      pub tells_whole : report.residue ≡ 0 → r.answer ≡ Ok (usb.Sectors (whole l))
      tells_whole none = tells_sectors _ (sectors_whole l report.residue none)

      pub tells_14 : l < report.residue → r.answer ≡ Err ReplyParseFailure
      tells_14 more = tells_sectors _ (sectors_14 l report.residue more)

      -- the values of the answer: (moved, asked), or (moved)
      same_transfer : (x y : SectorTransfer) → r.answer ≡ Ok (usb.Sectors x) → r.answer ≡ Ok (usb.Sectors y) → x ≡ y
      same_transfer x y e f = let same : Ok (usb.Sectors x) ≡ Ok (usb.Sectors y) = sym e ∙ f in cc

      pub short_values : 0 < report.residue → report.residue ≤ l → (transfer : SectorTransfer) → r.answer ≡ Ok (usb.Sectors transfer)
          → transfer_values transfer ≡ (l - report.residue) ∷ l ∷ []
      unfolding transfer_values
      short_values some few transfer e = ap transfer_values (same_transfer transfer (short (l - report.residue) l) e (tells_short some few))

      pub whole_values : report.residue ≡ 0 → (transfer : SectorTransfer) → r.answer ≡ Ok (usb.Sectors transfer) → transfer_values transfer ≡ l ∷ []
      unfolding transfer_values
      whole_values none transfer e = ap transfer_values (same_transfer transfer (whole l) e (tells_whole none))

-- with the distinction forgotten

sectors_forgotten : (t : Told SectorTransfer) → forgotten (and_then t (λ told. given (moved told)))
    ≡ and_then (and_then t (λ transfer. given (forgets transfer))) (λ told. given (moved told))
unfolding forgotten forgets_reply and_then
sectors_forgotten (given transfer) = refl
sectors_forgotten (refused n values) = refl

place_forgotten : (places : List ℕ) → forgotten (and_then (only_place places) (λ index. given (storage index))) ≡ and_then (only_place places) (λ index. given (storage index))
unfolding forgotten forgets_reply and_then only_place
place_forgotten [] = refl
place_forgotten (p ∷ []) = refl
place_forgotten (p ∷ q ∷ more) = refl

reply_forgotten : (k : Kind) (l residue : ℕ) (inband : List ℕ) → forgotten (reply_of k l residue inband) ≡ reply_by moved_of k l residue inband
unfolding reply_by sectors_by storage_reply read_storage forgotten forgets_reply and_then
reply_forgotten kind.ChipInfo l residue inband = refl
reply_forgotten kind.FlashId l residue inband = refl
reply_forgotten kind.FlashInfo l residue inband = refl
reply_forgotten kind.Capability l residue inband = refl
reply_forgotten kind.Nothing l residue inband = refl
reply_forgotten kind.Storage l residue inband = place_forgotten (places_set 32 0 (from_low (take 4 inband)))
reply_forgotten kind.Read l residue inband = sectors_forgotten (transfer_of l residue) ∙ ap (λ t. and_then t (λ told. given (moved told))) (transfer_forgotten l residue)
reply_forgotten kind.Write l residue inband = sectors_forgotten (transfer_of l residue) ∙ ap (λ t. and_then t (λ told. given (moved told))) (transfer_forgotten l residue)

module _ (k : Kind) (tag l : ℕ) (status inband : List ℕ) where
  judged_forgotten : (report : CommandStatus) → forgotten (judged_by transfer_of k tag l inband report) ≡ judged_by moved_of k tag l inband report
  unfolding judged_by forgotten and_then
  judged_forgotten report =
      rw (← reply_forgotten k l report.residue inband) (tells_as forgotten refused (λ n values. refl) _ (reply_of k l report.residue inband))

  read_forgotten : (t : Told CommandStatus) → forgotten (and_then (at_finish t) (judged_by transfer_of k tag l inband)) ≡ and_then (at_finish t) (judged_by moved_of k tag l inband)
  unfolding at_finish and_then forgotten
  read_forgotten (given report) = judged_forgotten report
  read_forgotten (refused n values) = rw (still_refused {A = CommandStatus} n values).2

  -- FORGOTTEN. The answer that stood before, at every kind, tag, length, status and in-band bytes
  pub finish_forgotten : forgotten (finishes k tag l status inband) ≡ rust_finishes k tag l status inband
  unfolding finishes_by
  finish_forgotten = read_forgotten (read_status status)
