-- What the two counts of a call tell of it, and that a call has one outcome.
use Prim.Native.Nat.{ℕ}
use mathlib.Core.Path.{◌≡◌, refl, ap, sym, ◌∙◌}
use mathlib.Core.List.{List, [], ◌∷◌}
use native.Mathlib.Omega.{arith}
use lib.ListN.{get_or}
use Rattle.promise.specs.Told.{Told, given, refused, number}
use Rattle.promise.specs.Run.{end_told, Ran}
use Rattle.protocol_reply.specs.declared.size.SectorCount.{SectorCount}
use Rattle.protocol_reply.specs.declared.size.Transferred.{Transferred}
use Rattle.operation_finish.specs.declared.SectorTransfer.{SectorTransfer}
use Rattle.operation_finish.specs.declared.SectorTransfer.TheVariants.{Whole, Short}
use Rattle.operation_finish.specs.Transfer.{whole, transfer_of, forgets}
use Rattle.operation_finish.specs.Reply.{Reply, moved}
use Rattle.operation_finish.proofs.Transfers.{short_only}
use Rattle.operation.specs.declared.steps.UsbOperation.{UsbOperation}
use Rattle.run_turn.specs.Turn.{UsbState}
use Rattle.ffi.specs.Sectors.{Carried, SectorsMeet, counts_of, counts_after, ran_to, carries}

-- a run that ended in a transfer leaves the counts of it
pub counts_told : (run : Ran Reply UsbState) (counts : List ℕ) (transfer : SectorTransfer) → end_told run.end ≡ given (moved transfer)
    → (ran_to run counts).counts ≡ counts_of transfer
unfolding ran_to counts_after
counts_told run counts transfer e = ap (λ (t : Told Reply). counts_after t counts) e

-- "A refusal writes no lent buffer"
refused_leaves : (t : Told Reply) (counts : List ℕ) → (number t ≡ 0 → ⊥) → counts_after t counts ≡ counts
unfolding counts_after number
refused_leaves (given reply) counts h = absurd (h refl)
refused_leaves (refused n vs) counts h = refl

pub refusal_leaves_counts : (operation : ℕ → UsbOperation) (t : Told SectorCount) (flash bytes counts : List ℕ)
    → ((carries operation t flash bytes counts).number ≡ 0 → ⊥) → (carries operation t flash bytes counts).counts ≡ counts
unfolding carries ran_to
refusal_leaves_counts operation (given count) flash bytes counts h = refused_leaves _ counts h
refusal_leaves_counts operation (refused n vs) flash bytes counts h = refl

-- with the distinction forgotten, the first is the Rust's `Transferred`
pub first_forgets : (transfer : SectorTransfer) → get_or (counts_of transfer) 0 0 ≡ (forgets transfer).0
unfolding counts_of forgets
first_forgets (Whole count) = refl
first_forgets (Short s) = refl

-- a short transfer does not pass for a whole one: of what a finish can tell, the same count twice is a whole transfer of so many bytes
pub same_counts_whole : (length residue n : ℕ) (transfer : SectorTransfer) → transfer_of length residue ≡ given transfer → counts_of transfer ≡ n ∷ n ∷ []
    → transfer ≡ whole n
unfolding counts_of
same_counts_whole length residue n (Whole count) e f =
    let same : count.0 ≡ n = cc in ap (λ (k : ℕ). whole k) same
same_counts_whole length residue n (Short s) e f =
    let p = short_only length residue s e in
    let m : s.moved.0 ≡ n = cc in
    let a : s.asked.0 ≡ n = cc in
    absurd (omega (arith, p.0, p.1, ap (λ (t : Transferred). t.0) p.2, ap (λ (t : Transferred). t.0) p.3, m, a))

-- two calls that meet the same leave the same
pub sectors_unique : (r s : ℕ) (flash₁ flash₂ bytes₁ bytes₂ counts₁ counts₂ : List ℕ) (c : Carried)
    → SectorsMeet r flash₁ bytes₁ counts₁ c → SectorsMeet s flash₂ bytes₂ counts₂ c
    → (r ≡ s) × (flash₁ ≡ flash₂) × (bytes₁ ≡ bytes₂) × (counts₁ ≡ counts₂)
sectors_unique r s flash₁ flash₂ bytes₁ bytes₂ counts₁ counts₂ c p q =
    (p.tells ∙ sym q.tells, p.flash ∙ sym q.flash, p.leaves ∙ sym q.leaves, p.counts ∙ sym q.counts)
