-- A status reads back as what was written, with anything behind it, and what is read is written back as it stood.
use Prim.Native.Nat.{ℕ, ◌+◌, ◌≤◌}
use mathlib.Core.Path.{◌≡◌, refl, ap, ap₂, sym, ◌∙◌}
use mathlib.Core.Bool.{not}
use mathlib.Core.List.{List, [], ◌∷◌, ◌++◌}
use native.Mathlib.Omega.{arith}
use borrow.Author.Tests.{ltb-false, not-false}
use lib.Dec.{ltb}
use lib.ListN.{length, get_or, take, length-append}
use Rattle.promise.specs.Told.{given, and_then}
use Rattle.promise.specs.Rules.{or_refuse, rule}
use Rattle.promise.specs.Bytes.{low_first, high_first, from_low, from_high, field, AreBytes}
use Rattle.promise.proofs.Order.{from_low_first, from_high_first}
use Rattle.protocol_codes.specs.Numbers.{status_number, statuses}
use Rattle.protocol_codes.specs.Reading.{status_of}
use Rattle.protocol_codes.specs.declared.Status.{Status}
use Rattle.protocol_codes.proofs.Reading.{known_given}
use Rattle.protocol_codes.proofs.Back.{status_back}
use Rattle.protocol_bytes.specs.Signature.{usbs, same}
use Rattle.protocol_bytes.proofs.Same.{same_equal}
use Rattle.protocol_bytes.proofs.Short.{elements, field_elements}
use Rattle.protocol_bytes.proofs.Rewritten.{low_rewritten, high_rewritten}
use Rattle.protocol_bytes.proofs.Given.{rule_met, first_given}
use Rattle.protocol_status.specs.declared.report.CommandStatus.{CommandStatus}
use Rattle.protocol_status.specs.StatusBytes.{status_bytes, report_of, read_status, StatusFits}
use Rattle.protocol_status.proofs.Reading.{read_signed}

pub reads_back : (s : CommandStatus) (behind : List ℕ) → StatusFits s → read_status (status_bytes s ++ behind) ≡ given s
unfolding status_bytes high_first low_first same and_then report_of
reads_back s behind fits =
    let enough : 13 ≤ length (status_bytes s ++ behind) = simp length-append (omega arith) in
    let tag : from_high (field 4 4 (status_bytes s ++ behind)) ≡ s.tag = from_high_first 4 s.tag fits.tag in
    let residue : from_low (field 8 4 (status_bytes s ++ behind)) ≡ s.residue = from_low_first 4 s.residue fits.residue in
    read_signed (status_bytes s ++ behind) enough refl
    ∙ rw (status_back s.status) (ap₂ (λ (t r : ℕ). given (record { tag = t; residue = r; status = s.status })) tag residue)

-- what was accepted: long enough, signed, and its status one of the two
pub record Accepted (bytes : List ℕ) (s : CommandStatus) : Type 0 where
  pub long : 13 ≤ length bytes
  pub signed : take 4 bytes ≡ usbs
  pub status : status_number s.status ≡ get_or bytes 12 0
  pub fields : report_of bytes s.status ≡ s

pub accepted : (bytes : List ℕ) (s : CommandStatus) → read_status bytes ≡ given s → Accepted bytes s
unfolding read_status or_refuse status_of report_of
accepted bytes s h =
    let unsigned = rule (not (same (take 4 bytes) usbs)) 6 (take 4 bytes) in
    let read = and_then (status_of (get_or bytes 12 0)) (λ (status : Status). given (report_of bytes status)) in
    let length-met = rule_met (rule (ltb (length bytes) 13) 5 (length bytes ∷ [])) (unsigned ∷ []) read s h in
    let signature-met = rule_met unsigned [] read s length-met.1 in
    let status_given = first_given (status_of (get_or bytes 12 0)) (λ (status : Status). given (report_of bytes status)) s signature-met.1 in
    let fields : report_of bytes status_given.0 ≡ s = cc status_given.2 in
    let same-status : status_given.0 ≡ s.status = ap (λ (x : CommandStatus). x.status) fields in
    record {
      long = ltb-false (length bytes) 13 length-met.0;
      signed = same_equal (take 4 bytes) usbs (not-false (same (take 4 bytes) usbs) signature-met.0);
      status = rw (← same-status) (known_given 7 status_number statuses (get_or bytes 12 0) status_given.0 status_given.1);
      fields = ap (report_of bytes) (sym same-status) ∙ fields;
    }

pub writes_back : (bytes : List ℕ) (s : CommandStatus) → AreBytes bytes → read_status bytes ≡ given s → status_bytes s ≡ take 13 bytes
unfolding status_bytes report_of
writes_back bytes s are h =
    let read = accepted bytes s h in
    let long : 13 ≤ length bytes = read.long in
    let to-four : 0 + 4 ≤ length bytes = omega arith in
    let to-eight : 4 + 4 ≤ length bytes = omega arith in
    let to-twelve : 8 + 4 ≤ length bytes = omega arith in
    let tag : high_first 4 s.tag ≡ elements 4 4 bytes =
    ap (λ (x : CommandStatus). high_first 4 x.tag) (sym read.fields) ∙ high_rewritten 4 4 bytes are to-eight ∙ field_elements 4 4 bytes to-eight in
    let residue : low_first 4 s.residue ≡ elements 4 8 bytes =
    ap (λ (x : CommandStatus). low_first 4 x.residue) (sym read.fields) ∙ low_rewritten 4 8 bytes are to-twelve ∙ field_elements 4 8 bytes to-twelve in
    rw (tag, residue, read.status)
    (ap (λ (l : List ℕ). l ++ elements 9 4 bytes) (sym read.signed ∙ field_elements 4 0 bytes to-four))
    ∙ sym (field_elements 13 0 bytes long)
