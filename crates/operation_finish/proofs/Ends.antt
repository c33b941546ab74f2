-- What holds of every finish: a failed status outranks a wrong tag (`finish_15` of `Cases`, for every tag), and 13 can't occur.
use Prim.Native.Nat.{ℕ, ◌≤◌}
use mathlib.Core.Path.{◌≡◌, refl, sym, ◌∙◌}
use mathlib.Core.Bool.{Bool, true, false, not}
use mathlib.Core.List.{List, [], ◌∷◌}
use native.Mathlib.Omega.{arith}
use lib.Dec.{eqb, ltb}
use lib.ListN.{length, get_or, take}
use Rattle.promise.specs.Told.{Told, given, refused, number, and_then}
use Rattle.promise.specs.Rules.{or_refuse, pick}
use Rattle.protocol_codes.specs.Numbers.{status_number, statuses}
use Rattle.protocol_codes.specs.Reading.{status_of}
use Rattle.protocol_codes.specs.declared.Status.{Status}
use Rattle.protocol_codes.proofs.Reading.{known_refused}
use Rattle.protocol_bytes.specs.Signature.{usbs, same}
use Rattle.protocol_status.specs.Failure.{at_finish}
use Rattle.protocol_status.specs.StatusBytes.{report_of}
use Rattle.protocol_status.specs.declared.report.CommandStatus.{CommandStatus}
use Rattle.protocol_status.proofs.Reading.{read_unsigned, read_signed}
use Rattle.protocol_reply.specs.Media.{places_set, only_place, read_storage}
use Rattle.promise.specs.Bytes.{from_low}
use Rattle.operation_finish.specs.declared.Kind.{Kind}
use Rattle.operation_finish.specs.declared.Kind.TheVariants as kind
use Rattle.operation_finish.specs.declared.SectorTransfer.{SectorTransfer}
use Rattle.operation_finish.specs.Reply.{Reply, storage, moved}
use Rattle.operation_finish.specs.Transfer.{transfer_of}
use Rattle.operation_finish.specs.Finish.{failed, sectors_by, sector_reply, storage_reply, reply_by, reply_of, judged_by, judged, finishes_by, finishes}

abbrev Not13 : {A : Type 0} → Told A → Type 0
Not13 t = number t ≡ 13 → ⊥

either : {A : Type 0} (test : Bool) (a b : Told A) → Not13 a → Not13 b → Not13 (pick test a b)
either true a b f g = f
either false a b f g = g

moves_not : (above : Bool) (transfer : SectorTransfer) → Not13 {A = Reply} (and_then (pick above (refused 14 []) (given transfer)) (λ told. given (moved told)))
unfolding and_then number
moves_not true transfer e = omega arith
moves_not false transfer e = omega arith

sectors_not : (l residue : ℕ) → Not13 (sector_reply l residue)
unfolding sectors_by transfer_of or_refuse
sectors_not l residue = moves_not (ltb l residue) _

place_not : (places : List ℕ) → Not13 {A = Reply} (and_then (only_place places) (λ index. given (storage index)))
unfolding and_then only_place number
place_not [] e = omega arith
place_not (p ∷ []) e = omega arith
place_not (p ∷ q ∷ more) e = omega arith

reply_not : (k : Kind) (l residue : ℕ) (inband : List ℕ) → Not13 (reply_of k l residue inband)
unfolding reply_by number storage_reply read_storage
reply_not kind.ChipInfo l residue inband e = omega arith
reply_not kind.FlashId l residue inband e = omega arith
reply_not kind.FlashInfo l residue inband e = omega arith
reply_not kind.Capability l residue inband e = omega arith
reply_not kind.Nothing l residue inband e = omega arith
reply_not kind.Storage l residue inband e = place_not (places_set 32 0 (from_low (take 4 inband))) e
reply_not kind.Read l residue inband e = sectors_not l residue e
reply_not kind.Write l residue inband e = sectors_not l residue e

not_given : (n : ℕ) (values : List ℕ) → (n ≡ 13 → ⊥) → Not13 {A = Reply} (refused n values)
unfolding number
not_given n values h = h

module _ (k : Kind) (tag l : ℕ) (status inband : List ℕ) (long : length status ≡ 13) where
  judged_not : (s : CommandStatus) → Not13 (judged k tag l inband s)
  unfolding judged_by or_refuse
  judged_not s =
      either (failed s.status) _ _ (not_given 15 [] (λ e. omega arith))
      (either (not (eqb s.tag tag)) _ _ (not_given 10 [] (λ e. omega arith)) (reply_not k l s.residue inband))

  byte_not : (t : Told Status) → t ≡ status_of (get_or status 12 0)
      → Not13 (and_then (at_finish (and_then t (λ s. given (report_of status s)))) (judged k tag l inband))
  unfolding and_then at_finish status_of
  byte_not (given s) e = judged_not (report_of status s)
  byte_not (refused m values) e =
      let told : refused m values ≡ refused 7 (get_or status 12 0 ∷ []) = e ∙ known_refused 7 status_number statuses (get_or status 12 0) m values (sym e) in
      let seven : m ≡ 7 = cc in
      rw seven (not_given 12 values (λ h. omega arith))

  enough : 13 ≤ length status
  enough = omega arith

  signed_not : (own : Bool) → same (take 4 status) usbs ≡ own → Not13 (finishes k tag l status inband)
  unfolding finishes_by at_finish and_then
  signed_not true e = rw (read_signed status enough e) (byte_not (status_of (get_or status 12 0)) refl)
  signed_not false e = rw (read_unsigned status enough e) (not_given 11 (take 4 status) (λ h. omega arith))

  -- the status is always 13 bytes long
  pub never_13 : Not13 (finishes k tag l status inband)
  never_13 = signed_not (same (take 4 status) usbs) refl
