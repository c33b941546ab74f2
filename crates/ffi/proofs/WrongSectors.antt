-- Programs that the contracts of a sector operation rule out, whatever their proofs: each answer is refuted at named data, at a run that ended in a
-- named transfer, or at a named transfer.
use Prim.Native.Nat.{ℕ}
use mathlib.Core.Path.{◌≡◌, refl, ap, sym, ◌∙◌}
use mathlib.Core.List.{List, [], ◌∷◌}
use native.Mathlib.Omega.{arith}
use lib.ListN.{get_or}
use Rattle.promise.specs.Told.{given}
use Rattle.promise.specs.Rules.{or_refuse}
use Rattle.promise.specs.Run.{end_told, Ran}
use Rattle.protocol_reply.specs.Sectors.{sectors_in}
use Rattle.operation_finish.specs.Transfer.{whole, short}
use Rattle.operation_finish.specs.Reply.{Reply, moved}
use Rattle.operation.specs.declared.steps.UsbOperation.{UsbOperation}
use Rattle.run_turn.specs.Turn.{UsbState}
use Rattle.ffi.specs.Sectors.{Carried, carried, SectorsMeet, counts_of, ran_to, carries, read_sectors, write_sectors}
use Rattle.ffi.proofs.Counts.{counts_told}

-- one byte is no sectors, and leaves everything as it was
no_sectors : (operation : ℕ → UsbOperation) (flash counts : List ℕ) → carries operation (sectors_in 1) flash (0 ∷ []) counts ≡ carried 23 flash (0 ∷ []) counts
unfolding carries sectors_in or_refuse
no_sectors operation flash counts = refl

-- 23 not told
pub not_sectors_unsaid : (first : ℕ) (flash flash-now now counts counts-now : List ℕ) → SectorsMeet 0 flash-now now counts-now (read_sectors first flash (0 ∷ []) counts) → ⊥
not_sectors_unsaid first flash flash-now now counts counts-now m =
    let z : ◌≡◌ {A = ℕ} 0 23 = m.tells ∙ ap (λ (c : Carried). c.number) (no_sectors _ flash counts) in omega arith

pub write_not_sectors_unsaid : (first : ℕ) (flash flash-now now counts counts-now : List ℕ)
    → SectorsMeet 0 flash-now now counts-now (write_sectors first flash (0 ∷ []) counts) → ⊥
write_not_sectors_unsaid first flash flash-now now counts counts-now m =
    let z : ◌≡◌ {A = ℕ} 0 23 = m.tells ∙ ap (λ (c : Carried). c.number) (no_sectors _ flash counts) in omega arith

-- a refused read that fills the data all the same
pub refused_read_fills : (r first : ℕ) (flash flash-now counts counts-now : List ℕ)
    → SectorsMeet r flash-now (1 ∷ []) counts-now (read_sectors first flash (0 ∷ []) counts) → ⊥
refused_read_fills r first flash flash-now counts counts-now m =
    let z : ◌≡◌ {A = ℕ} 1 0 = ap (λ (l : List ℕ). get_or l 0 0) (m.leaves ∙ ap (λ (c : Carried). c.«data») (no_sectors _ flash counts)) in omega arith

-- a refused write that is written all the same
pub refused_write_stands : (r first : ℕ) (now counts counts-now : List ℕ) → SectorsMeet r (1 ∷ []) now counts-now (write_sectors first (0 ∷ []) (0 ∷ []) counts) → ⊥
refused_write_stands r first now counts counts-now m =
    let z : ◌≡◌ {A = ℕ} 1 0 = ap (λ (l : List ℕ). get_or l 0 0) (m.flash ∙ ap (λ (c : Carried). c.flash) (no_sectors _ (0 ∷ []) counts)) in omega arith

-- a refused operation that counts its byte all the same
module _ (operation : ℕ → UsbOperation) (r : ℕ) (flash flash-now now : List ℕ) where
  refused_counts : SectorsMeet r flash-now now (1 ∷ 1 ∷ []) (carries operation (sectors_in 1) flash (0 ∷ []) (0 ∷ 0 ∷ [])) → ⊥
  refused_counts m =
      let z : ◌≡◌ {A = ℕ} 1 0 = ap (λ (l : List ℕ). get_or l 0 0) (m.counts ∙ ap (λ (c : Carried). c.counts) (no_sectors operation flash (0 ∷ 0 ∷ []))) in omega arith

pub refused_read_counts : (r first : ℕ) (flash flash-now now : List ℕ)
    → SectorsMeet r flash-now now (1 ∷ 1 ∷ []) (read_sectors first flash (0 ∷ []) (0 ∷ 0 ∷ [])) → ⊥
refused_read_counts r first flash flash-now now m = refused_counts _ r flash flash-now now m

pub refused_write_counts : (r first : ℕ) (flash flash-now now : List ℕ)
    → SectorsMeet r flash-now now (1 ∷ 1 ∷ []) (write_sectors first flash (0 ∷ []) (0 ∷ 0 ∷ [])) → ⊥
refused_write_counts r first flash flash-now now m = refused_counts _ r flash flash-now now m

-- a sector that was moved and is not counted
pub whole_uncounted : (r : ℕ) (flash-now now counts : List ℕ) (run : Ran Reply UsbState) → end_told run.end ≡ given (moved (whole 512))
    → SectorsMeet r flash-now now (0 ∷ 0 ∷ []) (ran_to run counts) → ⊥
unfolding counts_of
whole_uncounted r flash-now now counts run e m =
    let z : ◌≡◌ {A = ℕ} 0 512 = ap (λ (l : List ℕ). get_or l 0 0) (m.counts ∙ counts_told run counts (whole 512) e) in omega arith

-- of 512 bytes of 1,024: all of them told as moved, no more told as asked than moved, and both in each other's place
module _ (r : List ℕ) (e : r ≡ counts_of (short 512 1024)) where
  first_count : get_or r 0 0 ≡ 512
  unfolding counts_of
  first_count = ap (λ (l : List ℕ). get_or l 0 0) e

  second_count : get_or r 1 0 ≡ 1024
  unfolding counts_of
  second_count = ap (λ (l : List ℕ). get_or l 1 0) e

  pub short_as_whole : r ≡ 1024 ∷ 1024 ∷ [] → ⊥
  short_as_whole f = let z : ◌≡◌ {A = ℕ} 1024 512 = ap (λ (l : List ℕ). get_or l 0 0) (sym f) ∙ first_count in omega arith

  pub moved_as_asked : r ≡ 512 ∷ 512 ∷ [] → ⊥
  moved_as_asked f = let z : ◌≡◌ {A = ℕ} 512 1024 = ap (λ (l : List ℕ). get_or l 1 0) (sym f) ∙ second_count in omega arith

  pub counts_swapped : r ≡ 1024 ∷ 512 ∷ [] → ⊥
  counts_swapped f = let z : ◌≡◌ {A = ℕ} 1024 512 = ap (λ (l : List ℕ). get_or l 0 0) (sym f) ∙ first_count in omega arith
