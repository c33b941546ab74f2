-- "The first closing step shuts the image": at every record, also at those that no fresh start makes, and whatever calls follow.
use Prim.Native.Nat.{ℕ, ◌<◌, ◌≤◌}
use mathlib.Core.Path.{◌≡◌, refl, ap, ap₂, sym, ◌∙◌}
use mathlib.Core.Bool.{true}
use mathlib.Core.List.{List, [], ◌++◌}
use native.Mathlib.Omega.{arith}
use native.Mathlib.Decide.{ℕ_discrete, dec_lt}
use lib.ListN.{length, take, length-take}
use Rattle.promise.specs.Told.{given, refused}
use Rattle.promise.specs.Rules.{too_short}
use Rattle.promise.specs.Does.{Meets, said, after}
use Rattle.maskrom_transfer.specs.declared.MaskRomSteps.{MaskRomSteps}
use Rattle.maskrom_transfer.specs.declared.MaskRomSteps.TheVariants.{Writing, Check, Dummy, Done}
use Rattle.maskrom_transfer.specs.Moves.{block_size, Moves, writing, moves_at}
use Rattle.maskrom_transfer.proofs.Cases.{writing_pad, writing_dummy, writing_last}
use Rattle.maskrom.specs.declared.MaskRomOperation.{MaskRomOperation}
use Rattle.maskrom.specs.declared.PartStepped.{PartStepped}
use Rattle.maskrom.specs.declared.CloseStepped.{CloseStepped}
use Rattle.maskrom.specs.Answers.{closed_already, Asks, part_told, step_told}
use Rattle.maskrom.specs.PartWise.{held, closed}
use Rattle.maskrom.specs.Calls.{PartMeets, CloseMeets, count_of, PartCalls, no_calls, part_call, close_call}
use Rattle.maskrom.proofs.Cases.{part_20, part_26, close_20, close_acts}
use Rattle.maskrom.proofs.Branches.{clash, as_step}

-- fewer bytes than a block wait, whatever the record holds, and with fewer the image is at its end
held_short : (m : MaskRomOperation) → length (held m) < 4096
held_short m = simp length-take (omega arith)

writing_shuts : (crc : ℕ) (w : List ℕ) → Dec (length w < 4094) → Dec (length w ≡ 4094) → length w < 4096
    → closed (writing crc w).steps ≡ true
unfolding closed
writing_shuts crc w (yes l) d h = ap (λ (to : Moves). closed to.steps) (writing_last crc w l)
writing_shuts crc w (no l) (yes e) h = ap (λ (to : Moves). closed to.steps) (writing_dummy crc w e)
writing_shuts crc w (no l) (no d) h = ap (λ (to : Moves). closed to.steps) (writing_pad crc w (omega arith))

moves_shut : (s : MaskRomSteps) (crc : ℕ) (w : List ℕ) → length w < 4096 → closed (moves_at s crc w).steps ≡ true
unfolding moves_at closed
moves_shut Writing crc w h = writing_shuts crc w (dec_lt (length w) 4094) (ℕ_discrete (length w) 4094) h
moves_shut Check crc w h = refl
moves_shut Dummy crc w h = refl
moves_shut Done crc w h = refl

-- a closing step
module _ (r : CloseStepped) (m : MaskRomOperation) (before now : List ℕ) (meets : CloseMeets r m before now) where
  shuts : 4096 ≤ length before → closed r.next.steps ≡ true
  unfolding after
  shuts h =
      ap (λ (n : MaskRomOperation). closed n.steps) (meets.next ∙ ap (after m) (close_acts m (length before) h))
      ∙ moves_shut m.steps m.crc (held m) (held_short m)

  room_by : (a : Asks) → step_told r.step ≡ given a → Dec (length before < 4096) → 4096 ≤ length before
  unfolding said
  room_by a told (yes h) = clash a too_short [] (sym told ∙ meets.tells ∙ ap said (close_20 m (length before) h))
  room_by a told (no h) = omega arith

  -- one that is not refused had room ..
  pub close_room : (a : Asks) → step_told r.step ≡ given a → block_size ≤ length before
  close_room a told = room_by a told (dec_lt (length before) 4096)

  -- .. and shuts the image
  pub close_shuts : (a : Asks) → step_told r.step ≡ given a → closed r.next.steps ≡ true
  close_shuts a told = shuts (close_room a told)

  refused_by_lem : (n : ℕ) (values : List ℕ) → step_told r.step ≡ refused n values → Dec (length before < 4096)
      → Meets (step_told r.step) r.next before now m (refused too_short [])
  unfolding said
  refused_by_lem n values told (yes h) = as_step (close_20 m (length before) h) meets
  refused_by_lem n values told (no l) =
      let h : 4096 ≤ length before = omega arith in
      clash _ n values (sym (ap said (close_acts m (length before) h)) ∙ sym meets.tells ∙ told)

  -- one that is refused, which is by 20, shuts nothing: the record and the output are as they were
  pub refused_shuts_nothing : (n : ℕ) (values : List ℕ) → step_told r.step ≡ refused n values
      → Meets (step_told r.step) r.next before now m (refused too_short [])
  refused_shuts_nothing n values told = refused_by_lem n values told (dec_lt (length before) 4096)

  still_by : closed m.steps ≡ true → Dec (length before < 4096) → closed r.next.steps ≡ true
  unfolding after
  still_by shut (yes h) = ap (λ (n : MaskRomOperation). closed n.steps) (meets.next ∙ ap (after m) (close_20 m (length before) h)) ∙ shut
  still_by shut (no l) = shuts (omega arith)

  still_shut : closed m.steps ≡ true → closed r.next.steps ≡ true
  still_shut shut = still_by shut (dec_lt (length before) 4096)

-- a part of an upload that is shut
module _ (m : MaskRomOperation) (shut : closed m.steps ≡ true) (r : PartStepped) (part before now : List ℕ) (meets : PartMeets r m part before now) where
  pub part_shut : block_size ≤ length before → Meets (part_told r.step) r.next before now m (refused closed_already [])
  part_shut h = as_step (part_26 m part (length before) h shut) meets

  pub part_shut_short : length before < block_size → Meets (part_told r.step) r.next before now m (refused too_short [])
  part_shut_short h = as_step (part_20 m part (length before) h) meets

  keeps_by : Dec (length before < 4096) → (r.next ≡ m) × (count_of (part_told r.step) ≡ 0)
  unfolding said after count_of
  keeps_by (yes h) = let kept = part_shut_short h in (kept.next, ap count_of kept.tells)
  keeps_by (no l) = let kept = part_shut (omega arith) in (kept.next, ap count_of kept.tells)

  pub part_shut_keeps : (r.next ≡ m) × (count_of (part_told r.step) ≡ 0)
  part_shut_keeps = keeps_by (dec_lt (length before) 4096)

-- what was shut stays so, and no byte more is taken
pub shut_stays : (m : MaskRomOperation) → closed m.steps ≡ true → (p : List ℕ) (later : MaskRomOperation) → PartCalls m p later
    → (closed later.steps ≡ true) × (p ≡ [])
shut_stays m shut p later no_calls = (shut, refl)
shut_stays m shut p later (part_call q here calls part r before now meets) =
    let so_far = shut_stays m shut q here calls in
    let kept = part_shut_keeps here so_far.0 r part before now meets in
    (ap (λ (n : MaskRomOperation). closed n.steps) kept.0 ∙ so_far.0, ap₂ (λ (l : List ℕ) (n : ℕ). l ++ take n part) so_far.1 kept.1)
shut_stays m shut p later (close_call q here calls r before now meets) =
    let so_far = shut_stays m shut q here calls in
    (still_shut r here before now meets so_far.0, so_far.1)

-- once a closing step was not refused
module _ (r : CloseStepped) (m : MaskRomOperation) (before now : List ℕ) (meets : CloseMeets r m before now) (a : Asks) (told : step_told r.step ≡ given a)
    (p : List ℕ) (later : MaskRomOperation) (calls : PartCalls r.next p later) where
  shut_later : (closed later.steps ≡ true) × (p ≡ [])
  shut_later = shut_stays r.next (close_shuts r m before now meets a told) p later calls

  -- .. no later call takes a byte ..
  pub nothing_taken : p ≡ []
  nothing_taken = shut_later.1

  module _ (s : PartStepped) (part before' now' : List ℕ) (part_meets : PartMeets s later part before' now') where
    -- .. and every later part is refused by 26, whatever parts and closing steps came between ..
    pub shut_for_good : block_size ≤ length before' → Meets (part_told s.step) s.next before' now' later (refused closed_already [])
    shut_for_good = part_shut later shut_later.0 s part before' now' part_meets

    -- .. or by 20, which comes before it
    pub shut_for_good_short : length before' < block_size → Meets (part_told s.step) s.next before' now' later (refused too_short [])
    shut_for_good_short = part_shut_short later shut_later.0 s part before' now' part_meets
