-- What one call does to what a part-wise upload has still to send: it takes the front of the image and of the transfers.
use Prim.Native.Nat.{ℕ, ◌+◌, ◌-◌, ◌<◌, ◌≤◌, min}
use mathlib.Core.Path.{◌≡◌, refl, ap, ap₂, sym, ◌∙◌, subst}
use mathlib.Core.Bool.{true, false}
use mathlib.Core.List.{List, [], ◌∷◌, ◌++◌}
use native.Mathlib.Omega.{arith}
use native.Mathlib.Decide.{dec_lt, ℕ_discrete}
use lib.ListN.{length, take, length-take}
use Rattle.promise.specs.Told.{Told, given, refused}
use lib.Dec.{eqb, ltb}
use borrow.Author.Tests.{ltb-false}
use Rattle.promise.specs.Rules.{rule, room_rule, too_short}
use Rattle.promise.proofs.Outcome.{by_test, passed}
use Rattle.promise.specs.Bytes.{front}
use Rattle.promise.specs.Does.{Does, does, said, sent, after, Meets}
use Rattle.maskrom_transfer.specs.declared.MaskRomSteps.{MaskRomSteps}
use Rattle.maskrom_transfer.specs.declared.MaskRomSteps.TheVariants.{Writing, Check, Dummy, Done}
use Rattle.maskrom_transfer.specs.Moves.{block_size, Moves, writing, moves_at}
use Rattle.maskrom_transfer.proofs.Lists.{take_min}
use Rattle.maskrom_transfer.proofs.Cases.{writing_pad, writing_dummy, writing_last}
use Rattle.maskrom.specs.declared.MaskRomOperation.{MaskRomOperation}
use Rattle.maskrom.specs.declared.Control.{Control}
use Rattle.maskrom.specs.declared.PartStepped.{PartStepped}
use Rattle.maskrom.specs.declared.CloseStepped.{CloseStepped}
use Rattle.maskrom.specs.Answers.{longest, too_long, closed_already, control, Handed, took, filled, Asks, writes, finish, part_told, step_told}
use Rattle.maskrom.specs.PartWise.{waiting, held, closed, holding, takes, part_step, asks, close_step}
use Rattle.maskrom.proofs.Cases.{part_takes, takes_full, takes_some, close_20, close_acts}
use Rattle.maskrom.proofs.Lists.{filled_length}
use Rattle.maskrom.proofs.Writes.{front_seen}
use Rattle.theorems.specs.PartDriver.{Transfer, transfer, seen}
use Rattle.maskrom.specs.Calls.{PartMeets, CloseMeets}
use Rattle.theorems.specs.AnyCaller.{taken_by, handed_seen, asked_seen}
use Rattle.theorems.proofs.StepsToFinish.{Sends, finishes, sends}
use Rattle.theorems.proofs.ClosingSends.{close_done}
use Rattle.theorems.proofs.PartsSend.{Open, due, still_open, due_some, due_full}

-- a value is no refusal
pub not_both : {A C : Type 0} (a : A) (n : ℕ) (vs : List ℕ) → given a ≡ refused n vs → C
not_both a n vs e = absurd (let z : ◌≡◌ {A = ℕ} 0 1 = cc in omega arith)

-- a refused call leaves the record, whatever it is a call of
pub refused_stays : {A R : Type 0} (told : Told A) (back self : R) (before now : List ℕ) (step : Told (Does A R)) (n : ℕ) (vs : List ℕ)
    → Meets told back before now self step → told ≡ refused n vs → back ≡ self
unfolding said after
refused_stays told back self before now (given d) n vs m e = not_both d.says n vs (sym m.tells ∙ e)
refused_stays told back self before now (refused k ws) n vs m e = m.next

-- closing steps

-- the last place but one, and so on: how many closing steps are before the finish at most
unfoldable pub before_finish : MaskRomSteps → ℕ
before_finish Writing = 2
before_finish Check = 1
before_finish Dummy = 1
before_finish Done = 0

record Shuts (before : ℕ) (s : MaskRomSteps) : Type 0 where
  shut : closed s ≡ true
  nearer : before_finish s ≤ before - 1

writing_shuts : (crc : ℕ) (w : List ℕ) → Dec (length w < 4094) → Dec (length w ≡ 4094) → length w < 4096 → Shuts 2 (writing crc w).steps
unfolding closed before_finish
writing_shuts crc w (yes h) d n = rw (writing_last crc w h) (record { shut = refl; nearer = omega arith })
writing_shuts crc w (no h) (yes e) n = rw (writing_dummy crc w e) (record { shut = refl; nearer = omega arith })
writing_shuts crc w (no h) (no e) n =
    let p : length w ≡ 4095 = omega arith in
    rw (writing_pad crc w p) (record { shut = refl; nearer = omega arith })

moves_shut : (s : MaskRomSteps) (crc : ℕ) (w : List ℕ) → length w < 4096 → Shuts (before_finish s) (moves_at s crc w).steps
unfolding moves_at closed before_finish
moves_shut Writing crc w h = writing_shuts crc w (dec_lt (length w) 4094) (ℕ_discrete (length w) 4094) h
moves_shut Check crc w h = record { shut = refl; nearer = omega arith }
moves_shut Dummy crc w h = record { shut = refl; nearer = omega arith }
moves_shut Done crc w h = record { shut = refl; nearer = omega arith }

at_finish_lem : (s : MaskRomSteps) → before_finish s ≤ 0 → s ≡ Done
unfolding before_finish
at_finish_lem Writing h = absurd (omega arith)
at_finish_lem Check h = absurd (omega arith)
at_finish_lem Dummy h = absurd (omega arith)
at_finish_lem Done h = refl

pub asks_finish : (s : MaskRomSteps) (area n : ℕ) → finish ≡ asks s area n → s ≡ Done
unfolding asks
asks_finish Writing area n e = absurd (let z : ◌≡◌ {A = ℕ} 0 1 = cc in omega arith)
asks_finish Check area n e = absurd (let z : ◌≡◌ {A = ℕ} 0 1 = cc in omega arith)
asks_finish Dummy area n e = absurd (let z : ◌≡◌ {A = ℕ} 0 1 = cc in omega arith)
asks_finish Done area n e = refl

pub same_given : {A : Type 0} (a b : A) → given a ≡ given b → a ≡ b
same_given a b e = cc

module _ (m : MaskRomOperation) (before now : List ℕ) (r : CloseStepped) (meets : CloseMeets r m before now) where
  abbrev to : Moves
  to = moves_at m.steps m.crc (held m)

  -- with an output that is long enough a closing step is not refused, and else it is
  pub close_given : 4096 ≤ length before → step_told r.step ≡ given (asks m.steps m.area (length to.bytes))
  unfolding said
  close_given h = meets.tells ∙ ap said (close_acts m (length before) h)

  close_room : Dec (length before < 4096) → (a : Asks) → step_told r.step ≡ given a → 4096 ≤ length before
  unfolding said
  close_room (yes h) a g = not_both a too_short [] (sym g ∙ meets.tells ∙ ap said (close_20 m (length before) h))
  close_room (no h) a g = omega arith

  module _ (a : Asks) (g : step_told r.step ≡ given a) where
    close_long : 4096 ≤ length before
    close_long = close_room (dec_lt (length before) 4096) a g

    close_asks : a ≡ asks m.steps m.area (length to.bytes)
    close_asks = same_given a (asks m.steps m.area (length to.bytes)) (sym g ∙ close_given close_long)

    -- it shuts the image, one step nearer to the finish
    close_shuts : Shuts (before_finish m.steps) r.next.steps
    unfolding after
    close_shuts =
        let short : length (held m) < 4096 = simp length-take (omega arith) in
        subst (λ (x : MaskRomOperation). Shuts (before_finish m.steps) x.steps)
        (sym (meets.next ∙ ap (after m) (close_acts m (length before) close_long)))
        (moves_shut m.steps m.crc (held m) short)

    pub close_keeps_taken : r.next.taken ≡ m.taken
    unfolding after
    close_keeps_taken = ap (λ (x : MaskRomOperation). x.taken) (meets.next ∙ ap (after m) (close_acts m (length before) close_long))

    pub close_unopens : closed r.next.steps ≡ true
    close_unopens = close_shuts.shut

    pub close_nearer : before_finish r.next.steps ≤ before_finish m.steps - 1
    close_nearer = close_shuts.nearer

    -- at a record that is done it is answered the finish
    pub close_at_end : before_finish m.steps ≤ 0 → a ≡ finish
    unfolding asks
    close_at_end h = close_asks ∙ ap (λ (s : MaskRomSteps). asks s m.area (length to.bytes)) (at_finish_lem m.steps h)

  -- .. and only there
  pub finish_done : step_told r.step ≡ given finish → m.steps ≡ Done
  finish_done g = asks_finish m.steps m.area (length to.bytes) (close_asks finish g)

-- it takes the first transfer of those that are due
pub close_takes : (m : MaskRomOperation) (us : List Transfer) (before now : List ℕ) (r : CloseStepped) (meets : CloseMeets r m before now) (a : Asks)
    → (g : step_told r.step ≡ given a) → Sends close_step m us → (later : List Transfer) × (us ≡ asked_seen a now ++ later) × Sends close_step r.next later
unfolding asked_seen said sent after before_finish
close_takes m us before now r meets a g (finishes m₁ m₂ e) =
    let s = e (length before) (close_long m₁ before now r meets a g) in
    let is : a ≡ finish = same_given a finish (sym g ∙ meets.tells ∙ ap said s) in
    let near = close_nearer m₁ before now r meets a g in
    let here : m₁.steps ≡ Done = finish_done m₁ before now r meets (g ∙ ap given is) in
    let zero-here : before_finish m₁.steps ≡ 0 = ap before_finish here in
    let there : r.next.steps ≡ Done = at_finish_lem r.next.steps (omega arith) in
    ([], ap (λ (x : Asks). asked_seen x now ++ []) (sym is), close_done r.next there)
close_takes m us before now r meets a g (sends m₁ m₂ area bs ts b e s) =
    let step = e (length before) (close_long m₁ before now r meets a g) in
    let is : a ≡ writes (control area (length bs)) = same_given a (writes (control area (length bs))) (sym g ∙ meets.tells ∙ ap said step) in
    let left_so : now ≡ front bs before = meets.leaves ∙ ap (λ (t : Told (Does Asks MaskRomOperation)). front (sent t) before) step in
    let next_is : r.next ≡ m₂ = meets.next ∙ ap (after m₁) step in (
      ts,
      ap (λ (l : List ℕ). record { setup = control area (length bs); bytes = l } ∷ ts) (sym (ap (take (length bs)) left_so ∙ front_seen bs before))
          ∙ ap (λ (x : Asks). asked_seen x now ++ ts) (sym is),
      subst (λ (x : MaskRomOperation). Sends close_step x ts) (sym next_is) s,
    )

pub writes_finish : (c : Control) → given (writes c) ≡ given finish → ⊥
writes_finish c e = let z : ◌≡◌ {A = ℕ} 0 1 = cc in omega arith

-- where the finish is answered none are due
pub finish_takes_none : (m : MaskRomOperation) (us : List Transfer) (before now : List ℕ) (r : CloseStepped) → CloseMeets r m before now → step_told r.step ≡ given finish
    → Sends close_step m us → us ≡ []
unfolding said
finish_takes_none m us before now r meets g (finishes m₁ m₂ e) = refl
finish_takes_none m us before now r meets g (sends m₁ m₂ area bs ts b e s) =
    let step = e (length before) (close_long m₁ before now r meets finish g) in
    absurd (writes_finish (control area (length bs)) (sym (ap said step) ∙ sym meets.tells ∙ g))

-- parts

takes_count : (m : MaskRomOperation) (ys : List ℕ) → taken_by (takes m ys).says ≡ length ys
unfolding takes taken_by
takes_count m ys =
    by_test (λ (d : Does Handed MaskRomOperation). taken_by d.says ≡ length ys) (eqb (waiting m + length ys) block_size) (λ e. refl) (λ e. refl)

module _ (m : MaskRomOperation) (part before now : List ℕ) (r : PartStepped) (meets : PartMeets r m part before now) where
  abbrev ys : List ℕ
  ys = take (4096 - waiting m) part

  many : length ys ≡ min (4096 - waiting m) (length part)
  many = length-take (4096 - waiting m) part

  -- a part is not refused where the output is long enough, the image not shut and the part not too long
  pub part_given : 4096 ≤ length before → closed m.steps ≡ false → m.taken + length part ≤ longest → part_told r.step ≡ given (takes m ys).says
  unfolding said
  part_given h c l = meets.tells ∙ ap said (part_takes m part (length before) h c l)

  module _ (a : Handed) (g : part_told r.step ≡ given a) where
    part_passed : (closed m.steps ≡ false) × (ltb longest (m.taken + length part) ≡ false) × (part_step m part (length before) ≡ given (takes m ys))
    unfolding part_step said
    part_passed =
        let p = passed said refused (λ n vs. refl)
        (room_rule (length before) block_size ∷ rule (closed m.steps) closed_already [] ∷ rule (ltb longest (m.taken + length part)) too_long [] ∷ [])
        (given (takes m ys)) a (sym meets.tells ∙ g) in
        (p.0.1.0, p.0.1.1.0, p.1)

    part_says : a ≡ (takes m ys).says
    unfolding said
    part_says = same_given a (takes m ys).says (sym g ∙ meets.tells ∙ ap said part_passed.2)

    part_becomes : r.next ≡ (takes m ys).becomes
    unfolding after
    part_becomes = meets.next ∙ ap (after m) part_passed.2

    part_leaves : now ≡ front (takes m ys).sends before
    unfolding sent
    part_leaves = meets.leaves ∙ ap (λ (t : Told (Does Handed MaskRomOperation)). front (sent t) before) part_passed.2

    -- only an upload that is not shut takes parts, and none too long
    pub part_unshut : closed m.steps ≡ false
    part_unshut = part_passed.0

    pub part_fits : m.taken + length part ≤ longest
    part_fits = ltb-false longest (m.taken + length part) part_passed.1

    -- the bytes that are taken: as many as the block has room for, of those that are handed over
    pub taken_is : taken_by a ≡ min (block_size - waiting m) (length part)
    taken_is = ap taken_by part_says ∙ takes_count m ys ∙ many

    -- one at least, of a part that has one
    pub takes_a_byte : 0 < length part → 0 < taken_by a
    takes_a_byte h = omega (arith, taken_is)

    -- a part leaves the place: it neither shuts the image nor opens it
    pub part_keeps : r.next.steps ≡ m.steps
    unfolding takes
    part_keeps =
        ap (λ (x : MaskRomOperation). x.steps) part_becomes
        ∙ by_test (λ (d : Does Handed MaskRomOperation). d.becomes.steps ≡ m.steps) (eqb (waiting m + length ys) block_size) (λ e. refl) (λ e. refl)

    -- they are the first of the part
    pub taken_first : take (taken_by a) part ≡ ys
    taken_first = ap (λ (n : ℕ). take n part) taken_is ∙ take_min (4096 - waiting m) part

    next_holds : r.next ≡ holding m ys
    unfolding takes
    next_holds =
        part_becomes
        ∙ by_test (λ (d : Does Handed MaskRomOperation). d.becomes ≡ holding m ys) (eqb (waiting m + length ys) block_size) (λ e. refl) (λ e. refl)

    pub taken_counted : r.next.taken ≡ m.taken + taken_by a
    taken_counted = ap (λ (x : MaskRomOperation). x.taken) next_holds ∙ ap (λ (n : ℕ). m.taken + n) (sym (ap taken_by part_says ∙ takes_count m ys))

    shows : (d : Does Handed MaskRomOperation) → takes m ys ≡ d → handed_seen d.says (front d.sends before) ≡ handed_seen a now
    shows d t =
        ap₂ handed_seen (ap (λ (x : Does Handed MaskRomOperation). x.says) (sym t) ∙ sym part_says)
        (ap (λ (x : Does Handed MaskRomOperation). front x.sends before) (sym t) ∙ sym part_leaves)

    module _ (o : Open m) where
      pub part_open : Open r.next
      part_open =
          let few : waiting m + length ys ≤ 4096 = omega (arith, many) in
          subst Open (sym next_holds) (still_open m o ys [] few)

      due_by : (xs : List ℕ) → Dec (waiting m + length ys < 4096) → due m (ys ++ xs) ≡ handed_seen a now ++ due r.next xs
      unfolding handed_seen
      due_by xs (yes s) =
          due_some m o ys xs s
          ∙ ap₂ (λ (l : List Transfer) (x : MaskRomOperation). l ++ due x xs) (shows (does (took (length ys)) [] (holding m ys)) (takes_some m ys s)) (sym next_holds)
      due_by xs (no s) =
          let full : waiting m + length ys ≡ 4096 = omega (arith, many) in
          let b = held m ++ ys in
          let n : length b ≡ 4096 = filled_length m.block (waiting m) ys o.block_long full in
          let bytes-seen : take 4096 (front b before) ≡ b = ap (λ (k : ℕ). take k (front b before)) (sym n) ∙ front_seen b before in
          let seen-is : transfer m.area b ≡ seen (control m.area 4096) (front b before) =
          ap₂ (λ (k : ℕ) (bs : List ℕ). record { setup = control m.area k; bytes = bs }) n (sym bytes-seen) in
          due_full m o ys xs full
          ∙ ap (λ (t : Transfer). t ∷ due (holding m ys) xs) seen-is
          ∙ ap₂ (λ (l : List Transfer) (x : MaskRomOperation). l ++ due x xs)
          (shows (does (filled (length ys) (control m.area 4096)) b (holding m ys)) (takes_full m ys full)) (sym next_holds)

      -- the bytes taken are due no more, and neither is the transfer that they filled
      pub part_takes_due : (xs : List ℕ) → due m (take (taken_by a) part ++ xs) ≡ handed_seen a now ++ due r.next xs
      part_takes_due xs = ap (λ (l : List ℕ). due m (l ++ xs)) taken_first ∙ due_by xs (dec_lt (waiting m + length ys) 4096)
