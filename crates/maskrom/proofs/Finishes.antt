-- "the finish, which repeats for ever": whoever is answered it stands at a finished record, at every record, and whatever calls follow.
use Prim.Native.Nat.{ℕ, ◌<◌, ◌≤◌}
use mathlib.Core.Path.{◌≡◌, refl, ap, ap₂, sym, ◌∙◌}
use mathlib.Core.Bool.{true}
use mathlib.Core.List.{List, [], ◌++◌}
use native.Mathlib.Nat.{add-zero}
use native.Mathlib.Omega.{arith}
use native.Mathlib.Decide.{ℕ_discrete, dec_lt}
use lib.ListN.{length, take, drop}
use Rattle.crc.specs.Check.{crc_over}
use Rattle.promise.specs.Told.{Told, given, refused}
use Rattle.promise.specs.Rules.{too_short, differs}
use Rattle.promise.specs.Does.{Does, does, Meets, said, after}
use Rattle.maskrom_transfer.specs.declared.MaskRomSteps.{MaskRomSteps}
use Rattle.maskrom_transfer.specs.declared.MaskRomSteps.TheVariants.{Writing, Check, Dummy, Done}
use Rattle.maskrom_transfer.specs.Moves.{block_size, moves_at}
use Rattle.maskrom.specs.declared.MaskRomOperation.{MaskRomOperation}
use Rattle.maskrom.specs.declared.WholeUpload.{WholeUpload}
use Rattle.maskrom.specs.declared.CloseStepped.{CloseStepped}
use Rattle.maskrom.specs.declared.WholeStepped.{WholeStepped}
use Rattle.maskrom.specs.Answers.{Asks, finish, step_told}
use Rattle.maskrom.specs.PartWise.{held, closed, asks, with_moved, close_step}
use Rattle.maskrom.specs.Whole.{most, chunk, sent_on, whole_step}
use Rattle.maskrom.specs.Calls.{CloseMeets, StepMeets, PartCalls, no_calls, part_call, close_call, WholeCalls, no_steps, step_call, unless_refused}
use Rattle.maskrom.proofs.Cases.{close_20, close_acts, whole_20, whole_27, whole_sends, sends_acts}
use Rattle.crc.proofs.Laws.{over_empty}
use Rattle.maskrom.proofs.Branches.{clash, as_step, close_either, step_either}
use Rattle.maskrom.proofs.Shut.{close_room, part_shut_keeps}

-- the finish is asked for at a finished place alone
at_done : (s : MaskRomSteps) (area n : ℕ) → ◌≡◌ {A = Told Asks} (given (asks s area n)) (given finish) → s ≡ Done
unfolding asks
at_done Writing area n e = absurd (let z : ◌≡◌ {A = ℕ} 0 1 = cc in omega arith)
at_done Check area n e = absurd (let z : ◌≡◌ {A = ℕ} 0 1 = cc in omega arith)
at_done Dummy area n e = absurd (let z : ◌≡◌ {A = ℕ} 0 1 = cc in omega arith)
at_done Done area n e = refl

-- part-wise: one closing step at a finished record
module _ (m : MaskRomOperation) (done : m.steps ≡ Done) where
  finishes : (room : ℕ) → 4096 ≤ room → close_step m room ≡ given (does finish [] m)
  unfolding asks moves_at
  finishes room h =
      close_acts m room h
      ∙ ap (λ (s : MaskRomSteps).
      let to = moves_at s m.crc (held m) in
      given (does (asks s m.area (length to.bytes)) to.bytes (with_moved m to.crc to.steps))) done
      ∙ ap (λ (s : MaskRomSteps). given (does finish [] (with_moved m m.crc s))) (sym done)

  module _ (r : CloseStepped) (before now : List ℕ) (meets : CloseMeets r m before now) where
    -- it is the finish, of which the record and the output know nothing, or 20
    pub close_finishes : block_size ≤ length before → Meets (step_told r.step) r.next before now m (given (does finish [] m))
    close_finishes h = as_step (finishes (length before) h) meets

    finish_by : (step_told r.step ≡ refused too_short [] → ⊥) → Dec (length before < 4096)
        → Meets (step_told r.step) r.next before now m (given (does finish [] m))
    unfolding said
    finish_by unless-20 (yes h) = absurd (unless-20 (meets.tells ∙ ap said (close_20 m (length before) h)))
    finish_by unless-20 (no l) = close_finishes (omega arith)

    pub close_finishes_or_20 : (step_told r.step ≡ refused too_short [] → ⊥)
        → Meets (step_told r.step) r.next before now m (given (does finish [] m))
    close_finishes_or_20 unless-20 = finish_by unless-20 (dec_lt (length before) 4096)

    same_by : Dec (length before < 4096) → r.next ≡ m
    unfolding after
    same_by (yes h) = meets.next ∙ ap (after m) (close_20 m (length before) h)
    same_by (no l) = (close_finishes (omega arith)).next

    close_same : r.next ≡ m
    close_same = same_by (dec_lt (length before) 4096)

-- whoever is answered the finish had a finished record, and still has it; no byte of the output was changed
module _ (r : CloseStepped) (m : MaskRomOperation) (before now : List ℕ) (meets : CloseMeets r m before now) (told : step_told r.step ≡ given finish) where
  pub finish_at_done : m.steps ≡ Done
  unfolding said
  finish_at_done =
      close_either (λ (t : Told (Does Asks MaskRomOperation)). said t ≡ given finish → m.steps ≡ Done) m (length before)
      (λ e. clash finish too_short [] (sym e))
      (λ e. at_done m.steps m.area _ e)
      (sym meets.tells ∙ told)

-- calls on a finished record leave it, and take nothing
pub done_stays : (m : MaskRomOperation) → m.steps ≡ Done → (p : List ℕ) (later : MaskRomOperation) → PartCalls m p later → (later ≡ m) × (p ≡ [])
unfolding closed
done_stays m done p later no_calls = (refl, refl)
done_stays m done p later (part_call q here calls part r before now meets) =
    let so_far = done_stays m done q here calls in
    let shut : closed here.steps ≡ true = ap (λ (n : MaskRomOperation). closed n.steps) so_far.0 ∙ ap closed done in
    let kept = part_shut_keeps here shut r part before now meets in
    (kept.0 ∙ so_far.0, ap₂ (λ (l : List ℕ) (n : ℕ). l ++ take n part) so_far.1 kept.1)
done_stays m done p later (close_call q here calls r before now meets) =
    let so_far = done_stays m done q here calls in
    (close_same here (ap (λ (n : MaskRomOperation). n.steps) so_far.0 ∙ done) r before now meets ∙ so_far.0, so_far.1)

-- once a closing step was answered the finish
module _ (r : CloseStepped) (m : MaskRomOperation) (before now : List ℕ) (meets : CloseMeets r m before now) (told : step_told r.step ≡ given finish) where
  -- it changed neither the record nor the output
  pub finish_leaves : Meets (step_told r.step) r.next before now m (given (does finish [] m))
  finish_leaves = close_finishes m (finish_at_done r m before now meets told) r before now meets (close_room r m before now meets finish told)

  module _ (p : List ℕ) (later : MaskRomOperation) (calls : PartCalls r.next p later) where
    -- whatever parts and closing steps follow, the record is that one ..
    pub finished_stays : later ≡ m
    unfolding after
    finished_stays =
        let next : r.next ≡ m = finish_leaves.next in
        (done_stays r.next (ap (λ (n : MaskRomOperation). n.steps) next ∙ finish_at_done r m before now meets told) p later calls).0 ∙ next

    -- .. and a later closing step is answered the finish again, unless it is refused with 20
    pub finish_for_ever : (s : CloseStepped) (before' now' : List ℕ) → CloseMeets s later before' now' → (step_told s.step ≡ refused too_short [] → ⊥)
        → Meets (step_told s.step) s.next before' now' later (given (does finish [] later))
    finish_for_ever s before' now' =
        close_finishes_or_20 later (ap (λ (n : MaskRomOperation). n.steps) finished_stays ∙ finish_at_done r m before now meets told) s before' now'

-- whole: one step at a finished record
module _ (u : WholeUpload) (done : u.steps ≡ Done) where
  abbrev stood : ℕ → ℕ → MaskRomSteps → WholeUpload
  stood n c s = record { area = u.area; length = u.length; taken = n; crc = c; steps = s }

  step_ends : (image : List ℕ) (room : ℕ) → 4096 ≤ room → length image ≡ u.length → whole_step u image room ≡ given (does finish [] u)
  unfolding asks moves_at most
  step_ends image room h l =
      whole_sends u image room h l
      ∙ sends_acts u (chunk u image) room h
      ∙ ap (λ (s : MaskRomSteps).
      let w = take (most s) (drop u.taken image) in
      let to = moves_at s (crc_over u.crc w) w in
      given (does (asks s u.area (length to.bytes)) to.bytes (sent_on u (length w) to.crc to.steps))) done
      ∙ ap₂ (λ (n c : ℕ). given (does finish [] (stood n c Done))) (add-zero u.taken) (over_empty u.crc)
      ∙ ap (λ (s : MaskRomSteps). given (does finish [] (stood u.taken u.crc s))) (sym done)

  module _ (r : WholeStepped) (image before now : List ℕ) (meets : StepMeets r u image before now) where
    ends_by : (step_told r.step ≡ refused too_short [] → ⊥) → (step_told r.step ≡ refused differs [] → ⊥)
        → Dec (length before < 4096) → Dec (length image ≡ u.length) → Meets (step_told r.step) r.next before now u (given (does finish [] u))
    unfolding said
    ends_by unless-20 unless-27 (yes h) d = absurd (unless-20 (meets.tells ∙ ap said (whole_20 u image (length before) h)))
    ends_by unless-20 unless-27 (no l) (no d) = absurd (unless-27 (meets.tells ∙ ap said (whole_27 u image (length before) (omega arith) d)))
    ends_by unless-20 unless-27 (no l) (yes e) = as_step (step_ends image (length before) (omega arith) e) meets

    -- it is the finish, or 20, or 27
    pub step_finishes : (step_told r.step ≡ refused too_short [] → ⊥) → (step_told r.step ≡ refused differs [] → ⊥)
        → Meets (step_told r.step) r.next before now u (given (does finish [] u))
    step_finishes unless-20 unless-27 = ends_by unless-20 unless-27 (dec_lt (length before) 4096) (ℕ_discrete (length image) u.length)

    -- and in each case the record is the same
    stands_by : Dec (length before < 4096) → Dec (length image ≡ u.length) → r.next ≡ u
    unfolding after
    stands_by (yes h) d = meets.next ∙ ap (after u) (whole_20 u image (length before) h)
    stands_by (no l) (no d) = meets.next ∙ ap (after u) (whole_27 u image (length before) (omega arith) d)
    stands_by (no l) (yes e) = meets.next ∙ ap (after u) (step_ends image (length before) (omega arith) e)

    step_same : r.next ≡ u
    step_same = stands_by (dec_lt (length before) 4096) (ℕ_discrete (length image) u.length)

none_gone : (told : Told Asks) → unless_refused told [] ≡ []
unfolding unless_refused
none_gone (given a) = refl
none_gone (refused n values) = refl

none_sent : (told : Told Asks) (u : WholeUpload) (image : List ℕ) → u.steps ≡ Done → unless_refused told (chunk u image) ≡ []
unfolding most
none_sent told u image done =
    ap (λ (s : MaskRomSteps). unless_refused told (take (most s) (drop u.taken image))) done ∙ none_gone told

-- steps at a finished record leave it, and take nothing
pub whole_done_stays : (lends : List ℕ → Type 0) (u : WholeUpload) → u.steps ≡ Done → (p : List ℕ) (later : WholeUpload) → WholeCalls lends u p later
    → (later ≡ u) × (p ≡ [])
whole_done_stays lends u done p later no_steps = (refl, refl)
whole_done_stays lends u done p later (step_call q here calls image lent r before now meets) =
    let so_far = whole_done_stays lends u done q here calls in
    let here-done = ap (λ (n : WholeUpload). n.steps) so_far.0 ∙ done in (
      step_same here here-done r image before now meets ∙ so_far.0,
      ap₂ (λ (a b : List ℕ). a ++ b) so_far.1 (none_sent (step_told r.step) here image here-done),
    )

-- once a whole-upload step was answered the finish
module _ (r : WholeStepped) (u : WholeUpload) (image before now : List ℕ) (meets : StepMeets r u image before now) (told : step_told r.step ≡ given finish) where
  pub whole_finish_at_done : u.steps ≡ Done
  unfolding said
  whole_finish_at_done =
      step_either (λ (t : Told (Does Asks WholeUpload)). said t ≡ given finish → u.steps ≡ Done) u image (length before)
      (λ e. clash finish too_short [] (sym e))
      (λ e. clash finish differs [] (sym e))
      (λ l e. at_done u.steps u.area _ e)
      (sym meets.tells ∙ told)

  -- it changed neither the record nor the output
  pub whole_finish_leaves : Meets (step_told r.step) r.next before now u (given (does finish [] u))
  whole_finish_leaves =
      step_finishes u whole_finish_at_done r image before now meets (λ e. clash finish too_short [] (sym told ∙ e)) (λ e. clash finish differs [] (sym told ∙ e))

  module _ (lends : List ℕ → Type 0) (p : List ℕ) (later : WholeUpload) (calls : WholeCalls lends r.next p later) where
    -- whatever steps follow, the record is that one ..
    pub whole_finished_stays : later ≡ u
    unfolding after
    whole_finished_stays =
        let next : r.next ≡ u = whole_finish_leaves.next in
        (whole_done_stays lends r.next (ap (λ (n : WholeUpload). n.steps) next ∙ whole_finish_at_done) p later calls).0 ∙ next

    -- .. and a later step is answered the finish again, unless it is refused with 20 or 27
    pub whole_finish_for_ever : (s : WholeStepped) (image' before' now' : List ℕ) → StepMeets s later image' before' now'
        → (step_told s.step ≡ refused too_short [] → ⊥) → (step_told s.step ≡ refused differs [] → ⊥)
        → Meets (step_told s.step) s.next before' now' later (given (does finish [] later))
    whole_finish_for_ever s image' before' now' =
        step_finishes later (ap (λ (n : WholeUpload). n.steps) whole_finished_stays ∙ whole_finish_at_done) s image' before' now'
