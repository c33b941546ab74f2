-- "An empty part takes nothing and is no end": at every record, also at those that no fresh start makes.
use Prim.Native.Nat.{ℕ, ◌+◌, ◌-◌, ◌≤◌}
use mathlib.Core.Path.{◌≡◌, ap, ap₂, sym, ◌∙◌}
use mathlib.Core.Bool.{false}
use mathlib.Core.List.{List, [], ◌++◌}
use native.Mathlib.Nat.{add-zero}
use native.Mathlib.Omega.{arith}
use lib.ListN.{length, take, drop, take-append-drop}
use lib.Seq.{take_all}
use Rattle.promise.specs.Told.{Told, given}
use Rattle.promise.specs.Does.{Does, does, Meets, said, sent, after}
use Rattle.maskrom_transfer.specs.Moves.{block_size}
use Rattle.maskrom.specs.declared.MaskRomOperation.{MaskRomOperation}
use Rattle.maskrom.specs.declared.PartStepped.{PartStepped}
use Rattle.maskrom.specs.Answers.{longest, Handed, took, part_told}
use Rattle.maskrom.specs.PartWise.{waiting, closed, with_block, holding, takes}
use Rattle.maskrom.specs.Calls.{PartMeets}
use Rattle.maskrom.proofs.Cases.{part_takes, takes_some}
use Rattle.crc.proofs.Laws.{over_empty}
use Rattle.maskrom.proofs.Branches.{clash, as_step, part_either}

-- nothing put behind the bytes that wait is the very record
holds_none : (m : MaskRomOperation) → holding m [] ≡ m
holds_none m =
    ap₂ (λ (n c : ℕ). with_block m n c (take (waiting m) m.block ++ drop (waiting m + 0) m.block)) (add-zero m.taken) (over_empty m.crc)
    ∙ ap (λ (k : ℕ). with_block m m.taken m.crc (take (waiting m) m.block ++ drop k m.block)) (add-zero (waiting m))
    ∙ ap (with_block m m.taken m.crc) (take-append-drop (waiting m) m.block)

takes_none : (m : MaskRomOperation) → takes m (take (4096 - waiting m) []) ≡ does (took 0) [] m
takes_none m =
    ap (takes m) (take_all (4096 - waiting m) [] (omega arith)) ∙ takes_some m [] (omega arith) ∙ ap (does (took 0) []) (holds_none m)

module _ (r : PartStepped) (m : MaskRomOperation) (before now : List ℕ) (meets : PartMeets r m [] before now) where
  -- where it is not refused 0 bytes are told as taken, no byte of the output is changed, and the record is the very one handed in ..
  pub empty_part : (h : Handed) → part_told r.step ≡ given h → Meets (part_told r.step) r.next before now m (given (does (took 0) [] m))
  unfolding said
  empty_part h told =
      part_either
      (λ (t : Told (Does Handed MaskRomOperation)). Meets (part_told r.step) r.next before now m t → Meets (part_told r.step) r.next before now m (given (does (took 0) [] m)))
      m [] (length before)
      (λ n values k. clash h n values (sym told ∙ k.tells))
      (λ unshut fits k. as_step (ap given (takes_none m)) k)
      meets

  -- .. which it is not while the image is open and the output has room for a block ..
  pub empty_part_taken : block_size ≤ length before → closed m.steps ≡ false → m.taken ≤ longest
      → Meets (part_told r.step) r.next before now m (given (does (took 0) [] m))
  empty_part_taken h unshut fits = as_step (part_takes m [] (length before) h unshut (omega arith) ∙ ap given (takes_none m)) meets

  -- .. and refused or not it leaves the record and the output
  pub empty_part_leaves : (r.next ≡ m) × (now ≡ before)
  unfolding after sent
  empty_part_leaves =
      part_either
      (λ (t : Told (Does Handed MaskRomOperation)). Meets (part_told r.step) r.next before now m t → (r.next ≡ m) × (now ≡ before))
      m [] (length before)
      (λ n values k. (k.next, k.leaves))
      (λ unshut fits k. let none = as_step (ap given (takes_none m)) k in (none.next, none.leaves))
      meets
