-- Whole: what is known of a record once the bytes p are taken, shown of every start and kept by every step, refused or not.
use Prim.Native.Nat.{ℕ, ◌+◌, ◌-◌, ◌%◌, ◌<◌, ◌≤◌, min}
use mathlib.Core.Path.{◌≡◌, refl, ap, sym, subst, ◌∙◌}
use mathlib.Core.List.{List, [], ◌∷◌, ◌++◌, append-nil}
use native.Mathlib.Omega.{arith}
use native.Mathlib.Decide.{ℕ_discrete, dec_lt}
use borrow.Author.Tests.{lt-ltb, le-ltb}
use lib.ListN.{length, take, drop, length-append, length-take, length-drop}
use lib.Seq.{take-add, take-length}
use Rattle.promise.specs.Told.{Told, given, refused}
use Rattle.promise.specs.Rules.{or_refuse}
use Rattle.promise.specs.Does.{Does, said, after}
use Rattle.crc.specs.Check.{start, crc_over}
use Rattle.maskrom_transfer.specs.declared.MaskRomSteps.{MaskRomSteps}
use Rattle.maskrom_transfer.specs.declared.MaskRomSteps.TheVariants.{Writing, Check, Dummy, Done}
use Rattle.maskrom_transfer.specs.Moves.{block_size, Moves, writing, moves_at}
use Rattle.maskrom_transfer.proofs.Cases.{writing_block, writing_pad, writing_dummy, writing_last}
use Rattle.maskrom_transfer.proofs.Lists.{take_min}
use Rattle.maskrom.specs.declared.WholeUpload.{WholeUpload}
use Rattle.maskrom.specs.declared.WholeStepped.{WholeStepped}
use Rattle.maskrom.specs.declared.WholeStart.{WholeStart}
use Rattle.maskrom.specs.Answers.{longest, too_long, Asks, start_told}
use Rattle.maskrom.specs.Whole.{fresh_whole, start_step, StartMeets, most, chunk, sent_on}
use Rattle.maskrom.specs.Calls.{StepMeets, unless_refused, sent_of, WholeCalls, no_steps, step_call}
use Rattle.maskrom.specs.Made.{padded, covers, WholePlace, WholeAfter, start_length, WholeMade}
use Rattle.crc.proofs.Laws.{over_empty, over_append}
use Rattle.maskrom.proofs.Branches.{clash, step_either}
use Rattle.maskrom.proofs.PartMade.{padded_pad, padded_not}

-- a fresh record of an image that is not too long
pub fresh_whole_after : (area n : ℕ) → n ≤ longest → WholeAfter area n [] (fresh_whole area n)
unfolding covers
fresh_whole_after area n h = record {
  same_area = refl;
  same_length = refl;
  fits = h;
  taken = refl;
  within = omega arith;
  crc = sym (over_empty start);
  place = refl;
}

-- what a start hands back, refused or not
module _ (area : ℕ) (image : List ℕ) (r : WholeStart) (meets : StartMeets r area image) where
  start_by : Dec (longest < length image) → WholeAfter area (start_length image) [] r.upload
  unfolding start_length start_step or_refuse after
  start_by (yes h) = rw (meets.next, lt-ltb longest (length image) h) (fresh_whole_after area 0 (omega arith))
  start_by (no l) = rw (meets.next, le-ltb longest (length image) (omega arith)) (fresh_whole_after area (length image) (omega arith))

  pub start_after : WholeAfter area (start_length image) [] r.upload
  start_after = start_by (dec_lt longest (length image))

-- the register and the place behind a step that takes w
record Moved (whole : ℕ) (q : List ℕ) (to : Moves) : Type 0 where
  pub crc : to.crc ≡ crc_over start (covers to.steps q)
  pub place : WholePlace to.steps whole (length q)

module _ (whole : ℕ) (p w : List ℕ) where
  abbrev joined : List ℕ
  joined = p ++ w

  long : length joined ≡ length p + length w
  long = length-append p w

  -- while the image goes on: a block, or all that was left of it
  module _ (c : ℕ) (e : c ≡ crc_over start p) (blocks : length p % 4096 ≡ 0) (some_left : length w ≡ min 4096 (whole - length p)) (within : length p ≤ whole) where
    abbrev next : ℕ
    next = crc_over c w

    over_both : next ≡ crc_over start joined
    over_both = ap (λ (x : ℕ). crc_over x w) e ∙ sym (over_append start p w)

    writing_moved : Dec (length w ≡ 4096) → Dec (length w ≡ 4095) → Dec (length w ≡ 4094) → Moved whole joined (writing next w)
    unfolding covers
    writing_moved (yes b) d f = rw (writing_block next w b) (record { crc = over_both; place = omega (arith, long) })
    writing_moved (no b) (yes d) f =
        rw (writing_pad next w d)
        (record {
          crc =
              ap (λ (x : ℕ). crc_over x (0 ∷ [])) over_both
              ∙ sym (over_append start joined (0 ∷ []))
              ∙ ap (crc_over start) (sym (padded_pad joined (omega (arith, long))));
          place = (omega (arith, long), omega (arith, long));
        })
    writing_moved (no b) (no d) (yes f) =
        rw (writing_dummy next w f)
        (record {
          crc = over_both ∙ ap (crc_over start) (sym (padded_not joined (omega (arith, long))));
          place = (omega (arith, long), omega (arith, long));
        })
    writing_moved (no b) (no d) (no f) =
        rw (writing_last next w (omega arith))
        (record { crc = over_both ∙ ap (crc_over start) (sym (padded_not joined (omega (arith, long)))); place = omega (arith, long) })

-- nothing of the image goes with a step behind it
module _ (whole : ℕ) (p : List ℕ) (c : ℕ) (rest : List ℕ) (within : length p ≤ whole) where
  moved_at : (s : MaskRomSteps) → c ≡ crc_over start (covers s p) → WholePlace s whole (length p) → length rest ≡ whole - length p
      → let w = take (most s) rest in Moved whole (p ++ w) (moves_at s (crc_over c w) w)
  unfolding covers moves_at most
  moved_at Writing e place l =
      let w = take 4096 rest in
      let some_left : length w ≡ min 4096 (whole - length p) = simp length-take (omega arith) in
      writing_moved whole p w c e place some_left within (ℕ_discrete (length w) 4096) (ℕ_discrete (length w) 4095) (ℕ_discrete (length w) 4094)
  moved_at Check e place l = rw (append-nil p, over_empty c) (record { crc = e; place = place.0 })
  moved_at Dummy e place l = rw (append-nil p, over_empty c) (record { crc = e; place = place.0 })
  moved_at Done e place l = rw (append-nil p, over_empty c) (record { crc = e; place = place })

-- what a step takes
module _ (area whole : ℕ) (p : List ℕ) (u : WholeUpload) (known : WholeAfter area whole p u) (image : List ℕ) where
  taking : length image ≡ u.length
      → let w = chunk u image in
      let to = moves_at u.steps (crc_over u.crc w) w in
      WholeAfter area whole (p ++ w) (sent_on u (length w) to.crc to.steps)
  taking l =
      let rest = drop u.taken image in
      let left : length rest ≡ whole - length p = simp length-drop (omega (arith, known.taken, known.same_length)) in
      let w = chunk u image in
      let count : length w ≤ length rest = simp length-take (omega arith) in
      let moved : Moved whole (p ++ w) (moves_at u.steps (crc_over u.crc w) w) =
      moved_at whole p u.crc rest known.within u.steps known.crc known.place left in
      record {
        same_area = known.same_area;
        same_length = known.same_length;
        fits = known.fits;
        taken = ap (λ (n : ℕ). n + length w) known.taken ∙ sym (length-append p w);
        within = simp length-append (omega (arith, left, count, known.within));
        crc = moved.crc;
        place = moved.place;
      }

  -- 20 and 27 keep the record, and any other step takes its chunk
  pub step_keeps : (r : WholeStepped) (before now : List ℕ) → StepMeets r u image before now → WholeAfter area whole (p ++ sent_of r u image) r.next
  unfolding said after unless_refused
  step_keeps r before now meets =
      let kept : WholeAfter area whole (p ++ []) u = subst (λ (l : List ℕ). WholeAfter area whole l u) (sym (append-nil p)) known in
      rw (meets.tells, meets.next)
      (step_either (λ (t : Told (Does Asks WholeUpload)). WholeAfter area whole (p ++ unless_refused (said t) (chunk u image)) (after u t)) u image (length before)
      kept kept taking)

-- all that is said of a record after the bytes p holds of every record that calls from a start can make, p being what its steps took
module _ (lends : List ℕ → Type 0) (area whole : ℕ) (u : WholeUpload) (begun : WholeAfter area whole [] u) where
  calls_after : (p : List ℕ) (later : WholeUpload) → WholeCalls lends u p later → WholeAfter area whole p later
  calls_after p later no_steps = begun
  calls_after p later (step_call q here calls image lent r before now meets) =
      step_keeps area whole q here (calls_after q here calls) image r before now meets

pub whole_made : (lends : List ℕ → Type 0) (area : ℕ) (image p : List ℕ) (u : WholeUpload) → WholeMade lends area image p u
    → WholeAfter area (start_length image) p u
whole_made lends area image p u made =
    calls_after lends area (start_length image) made.begun.upload (start_after area image made.begun made.starts) p u made.calls

-- the length kept is the image's, unless the start is refused
module _ (area : ℕ) (image : List ℕ) (r : WholeStart) (meets : StartMeets r area image) where
  length_by : start_told r.start ≡ given tt → Dec (longest < length image) → start_length image ≡ length image
  unfolding start_length start_step or_refuse said
  length_by told (yes h) =
      let refusing : start_step area image ≡ refused too_long [] = rw (lt-ltb longest (length image) h) in
      clash tt too_long [] (sym told ∙ meets.tells ∙ ap said refusing)
  length_by told (no l) = rw (le-ltb longest (length image) (omega arith))

  pub started_length : start_told r.start ≡ given tt → start_length image ≡ length image
  started_length told = length_by told (dec_lt longest (length image))

-- a step that is lent an image of which all before it was taken takes on from there
took_on : (n k : ℕ) (image p : List ℕ) → p ≡ take n image
    → let w = take k (drop n image) in p ++ w ≡ take (n + length w) image
took_on n k image p e =
    let w = take k (drop n image) in
    let count : length w ≡ min k (length (drop n image)) = length-take k (drop n image) in
    ap (λ (q : List ℕ). q ++ w) e
    ∙ ap (λ (q : List ℕ). take n image ++ q) (sym (ap (λ (j : ℕ). take j (drop n image)) count ∙ take_min k (drop n image)))
    ∙ sym (take-add n (length w) image)

-- where it is always the same image that is lent, the bytes taken are its first
module _ (area whole : ℕ) (image : List ℕ) (u : WholeUpload) (begun : WholeAfter area whole [] u) where
  same_step : (p : List ℕ) (here : WholeUpload) → p ≡ take here.taken image
      → (r : WholeStepped) (before now : List ℕ) → StepMeets r here image before now → p ++ sent_of r here image ≡ take r.next.taken image
  unfolding said after unless_refused
  same_step p here so_far r before now meets =
      rw (meets.tells, meets.next)
      (step_either (λ (t : Told (Does Asks WholeUpload)). p ++ unless_refused (said t) (chunk here image) ≡ take (after here t).taken image) here image (length before)
      (append-nil p ∙ so_far) (append-nil p ∙ so_far)
      (λ l. took_on here.taken (most here.steps) image p so_far))

  same_calls : (p : List ℕ) (later : WholeUpload) → WholeCalls (λ (lent : List ℕ). lent ≡ image) u p later → p ≡ take later.taken image
  same_calls p later no_steps = ap (λ (n : ℕ). take n image) (sym begun.taken)
  same_calls p later (step_call q here calls lent e r before now meets) =
      subst (λ (l : List ℕ). q ++ sent_of r here l ≡ take r.next.taken image) (sym e)
      (same_step q here (same_calls q here calls) r before now
      (subst (λ (l : List ℕ). StepMeets r here l before now) e meets))

pub same_image : (area : ℕ) (first image p : List ℕ) (u : WholeUpload)
    → WholeMade (λ (lent : List ℕ). lent ≡ image) area first p u → p ≡ take u.taken image
same_image area first image p u made =
    same_calls area (start_length first) image made.begun.upload (start_after area first made.begun made.starts) p u made.calls

-- what holds at each place
module _ (area whole : ℕ) (p : List ℕ) (u : WholeUpload) (known : WholeAfter area whole p u) where
  pub whole_writing : u.steps ≡ Writing → (length p % block_size ≡ 0) × (u.crc ≡ crc_over start p)
  unfolding covers
  whole_writing e =
      (subst (λ (s : MaskRomSteps). WholePlace s whole (length p)) e known.place, known.crc ∙ ap (λ (s : MaskRomSteps). crc_over start (covers s p)) e)

  pub whole_check : u.steps ≡ Check
      → (length p ≡ whole) × ((length p % block_size ≡ 4095) × (u.crc ≡ crc_over start (p ++ (0 ∷ []))))
  unfolding covers
  whole_check e =
      let place = subst (λ (s : MaskRomSteps). WholePlace s whole (length p)) e known.place in (
        place.0,
        (
          place.1,
          known.crc ∙ ap (λ (s : MaskRomSteps). crc_over start (covers s p)) e ∙ ap (crc_over start) (padded_pad p place.1),
        ),
      )

  pub whole_dummy : u.steps ≡ Dummy → (length p ≡ whole) × ((length p % block_size ≡ 4094) × (u.crc ≡ crc_over start p))
  unfolding covers
  whole_dummy e =
      let place = subst (λ (s : MaskRomSteps). WholePlace s whole (length p)) e known.place in (
        place.0,
        (
          place.1,
          known.crc ∙ ap (λ (s : MaskRomSteps). crc_over start (covers s p)) e ∙ ap (crc_over start) (padded_not p (omega (arith, place.1))),
        ),
      )

  pub whole_done : u.steps ≡ Done → (length p ≡ whole) × (u.crc ≡ crc_over start (padded p))
  unfolding covers
  whole_done e =
      (subst (λ (s : MaskRomSteps). WholePlace s whole (length p)) e known.place, known.crc ∙ ap (λ (s : MaskRomSteps). crc_over start (covers s p)) e)

all_by : (s : MaskRomSteps) (whole n : ℕ) → (s ≡ Writing → ⊥) → WholePlace s whole n → n ≡ whole
all_by Writing whole n behind place = absurd (behind refl)
all_by Check whole n behind place = place.0
all_by Dummy whole n behind place = place.0
all_by Done whole n behind place = place

-- behind the image, at the finish too, it is all of the image that was taken
pub all_taken : (area : ℕ) (image p : List ℕ) (u : WholeUpload) (made : WholeMade (λ (lent : List ℕ). lent ≡ image) area image p u)
    → start_told made.begun.start ≡ given tt → (u.steps ≡ Writing → ⊥) → p ≡ image
all_taken area image p u made told behind =
    let known = whole_made (λ (lent : List ℕ). lent ≡ image) area image p u made in
    let n : u.taken ≡ length image =
    known.taken ∙ all_by u.steps (start_length image) (length p) behind known.place ∙ started_length area image made.begun made.starts told in
    same_image area image image p u made ∙ ap (λ (k : ℕ). take k image) n ∙ take-length image
