-- Who begins with `new` or `write_area` and goes on to the finish has seen an upload without a check only where the check is 0.
use Prim.Native.Nat.{ℕ}
use mathlib.Core.Path.{◌≡◌, ap, sym, ◌∙◌}
use mathlib.Core.List.{List}
use Rattle.crc.specs.Check.{check}
use Rattle.maskrom.specs.Made.{padded}
use Rattle.theorems.specs.PartDriver.{Transfer, transfers_of}
use Rattle.theorems.specs.AnyCaller.{Uploaded, WholeFinishes}
use Rattle.theorems.specs.OldRecords.{unchecked_transfers, record_bytes}
use Rattle.theorems.proofs.AnyCut.{nothing_lost}
use Rattle.theorems.proofs.AnyCaller.{whatever_was_taken}
use Rattle.theorems.proofs.AnyWholeCaller.{any_whole_caller}
use Rattle.theorems.proofs.OldRecords.{record_bytes_lem, alike_only_at_0}

list_unchecked : (area to : ℕ) (image other : List ℕ) → transfers_of area image ≡ unchecked_transfers to other → check (padded image) ≡ 0
list_unchecked area to image other e =
    alike_only_at_0 image other (sym (nothing_lost area image) ∙ ap record_bytes e ∙ record_bytes_lem to other)

-- part-wise, whatever was handed over and refused on the way; to whichever area and of whichever image the list would be
pub parts_never_unchecked : (area : ℕ) (taken : List ℕ) (ts : List Transfer) → Uploaded area taken ts
    → (to : ℕ) (other : List ℕ) → ts ≡ unchecked_transfers to other → check (padded taken) ≡ 0
parts_never_unchecked area taken ts done to other e = list_unchecked area to taken other (sym (whatever_was_taken area taken ts done) ∙ e)

-- whole, of a start that is not refused; each step that is not refused is lent the same image
pub whole_never_unchecked : (area : ℕ) (image : List ℕ) (ts : List Transfer) → WholeFinishes area image ts
    → (to : ℕ) (other : List ℕ) → ts ≡ unchecked_transfers to other → check (padded image) ≡ 0
whole_never_unchecked area image ts done to other e = list_unchecked area to image other (sym (any_whole_caller image area ts done) ∙ e)
