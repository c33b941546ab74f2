-- Whatever steps a caller makes of a whole upload between its start and the finish, with any output at each, he has seen the transfers of its image.
use Prim.Native.Nat.{ℕ, ◌<◌, ◌≤◌}
use mathlib.Core.Path.{◌≡◌, refl, ap, sym, ◌∙◌, subst}
use mathlib.Core.List.{List, [], ◌∷◌, ◌++◌, append-nil, append_assoc}
use native.Mathlib.Omega.{arith}
use native.Mathlib.Decide.{dec_lt}
use lib.ListN.{length, take, drop}
use borrow.Author.Tests.{lt-ltb}
use Rattle.crc.specs.Check.{crc_over}
use Rattle.promise.specs.Told.{Told, given, refused}
use Rattle.promise.specs.Rules.{or_refuse, too_short}
use Rattle.promise.specs.Bytes.{front}
use Rattle.promise.specs.Does.{Does, said, sent, after}
use Rattle.maskrom_transfer.specs.declared.MaskRomSteps.TheVariants.{Done}
use Rattle.maskrom_transfer.specs.Moves.{block_size, moves, moves_at}
use Rattle.maskrom.specs.declared.WholeUpload.{WholeUpload}
use Rattle.maskrom.specs.declared.WholeStart.{WholeStart}
use Rattle.maskrom.specs.declared.WholeStepped.{WholeStepped}
use Rattle.maskrom.specs.Answers.{longest, too_long, control, Asks, writes, finish, start_told, step_told}
use Rattle.maskrom.specs.PartWise.{asks}
use Rattle.maskrom.specs.Whole.{fresh_whole, start_step, StartMeets, most, sent_on, whole_step}
use Rattle.maskrom.proofs.Cases.{whole_20}
use Rattle.maskrom.proofs.Writes.{front_seen}
use Rattle.theorems.specs.PartDriver.{Transfer, transfers_of}
use Rattle.maskrom.specs.Calls.{StepMeets}
use Rattle.theorems.specs.AnyCaller.{asked_seen, Stepped, begun, stepping, no_step, WholeFinishes, whole_finishes}
use Rattle.theorems.proofs.StepsToFinish.{Sends, finishes, sends}
use Rattle.crc.proofs.Laws.{over_empty}
use Rattle.theorems.proofs.WholeSends.{whole_goes, done}
use Rattle.theorems.proofs.AnyCut.{started, whole_start}
use Rattle.theorems.proofs.OneCall.{not_both, refused_stays, asks_finish, same_given, writes_finish}

module _ (image : List ℕ) where
  abbrev pub step : WholeUpload → ℕ → Told (Does Asks WholeUpload)
  step u room = whole_step u image room

  module _ (u : WholeUpload) (before now : List ℕ) (r : WholeStepped) (meets : StepMeets r u image before now) where
    whole_room : Dec (length before < 4096) → (a : Asks) → step_told r.step ≡ given a → 4096 ≤ length before
    unfolding said
    whole_room (yes h) a g = not_both a too_short [] (sym g ∙ meets.tells ∙ ap said (whole_20 u image (length before) h))
    whole_room (no h) a g = omega arith

    whole_long : (a : Asks) → step_told r.step ≡ given a → 4096 ≤ length before
    whole_long a g = whole_room (dec_lt (length before) 4096) a g

    -- the finish is answered at a record that is done, and leaves it so
    module _ (l : length image ≡ u.length) (g : step_told r.step ≡ given finish) where
      whole_done : u.steps ≡ Done
      unfolding said
      whole_done =
          let w = take (most u.steps) (drop u.taken image) in
          let c = crc_over u.crc w in
          let to = moves_at u.steps c w in
          asks_finish u.steps u.area (length to.bytes)
          (same_given finish (asks u.steps u.area (length to.bytes))
          (sym g ∙ meets.tells ∙ ap said (whole_goes image u u.steps w c to l refl refl refl refl (length before) (whole_long finish g))))

      whole_stays : Sends step r.next []
      unfolding after asks moves_at most
      whole_stays =
          let next_is : r.next ≡ sent_on u 0 u.crc Done =
          meets.next
          ∙ ap (after u)
          (whole_goes image u Done [] u.crc (moves [] u.crc Done) l whole_done refl (over_empty u.crc) refl (length before) (whole_long finish g)) in
          subst (λ (x : WholeUpload). Sends step x []) (sym next_is) (done image (sent_on u 0 u.crc Done) l refl)

    whole_keeps_length : length image ≡ u.length → (a : Asks) → step_told r.step ≡ given a → length image ≡ r.next.length
    unfolding after
    whole_keeps_length l a g =
        let w = take (most u.steps) (drop u.taken image) in
        let c = crc_over u.crc w in
        let to = moves_at u.steps c w in
        l ∙ sym (ap (λ (x : WholeUpload). x.length) (meets.next ∙ ap (after u) (whole_goes image u u.steps w c to l refl refl refl refl (length before) (whole_long a g))))

  -- a step that is not refused takes the first transfer of those that are due
  pub whole_takes : (u : WholeUpload) (us : List Transfer) (before now : List ℕ) (r : WholeStepped) (a : Asks) → Sends step u us → length image ≡ u.length
      → StepMeets r u image before now → step_told r.step ≡ given a → (later : List Transfer) × (us ≡ asked_seen a now ++ later) × Sends step r.next later
  unfolding asked_seen said sent after
  whole_takes u us before now r a (finishes u₁ u₂ e) l meets g =
      let s = e (length before) (whole_long u₁ before now r meets a g) in
      let is : a ≡ finish = same_given a finish (sym g ∙ meets.tells ∙ ap said s) in
      ([], ap (λ (x : Asks). asked_seen x now ++ []) (sym is), whole_stays u₁ before now r meets l (g ∙ ap given is))
  whole_takes u us before now r a (sends u₁ u₂ area bs ts b e s) l meets g =
      let stepped = e (length before) (whole_long u₁ before now r meets a g) in
      let is : a ≡ writes (control area (length bs)) = same_given a (writes (control area (length bs))) (sym g ∙ meets.tells ∙ ap said stepped) in
      let left_so : now ≡ front bs before = meets.leaves ∙ ap (λ (t : Told (Does Asks WholeUpload)). front (sent t) before) stepped in
      let next_is : r.next ≡ u₂ = meets.next ∙ ap (after u₁) stepped in (
        ts,
        ap (λ (x : List ℕ). record { setup = control area (length bs); bytes = x } ∷ ts) (sym (ap (take (length bs)) left_so ∙ front_seen bs before))
            ∙ ap (λ (x : Asks). asked_seen x now ++ ts) (sym is),
        subst (λ (x : WholeUpload). Sends step x ts) (sym next_is) s,
      )

  pub whole_takes_none : (u : WholeUpload) (us : List Transfer) (before now : List ℕ) (r : WholeStepped) → Sends step u us → StepMeets r u image before now
      → step_told r.step ≡ given finish → us ≡ []
  unfolding said
  whole_takes_none u us before now r (finishes u₁ u₂ e) meets g = refl
  whole_takes_none u us before now r (sends u₁ u₂ area bs ts b e s) meets g =
      let stepped = e (length before) (whole_long u₁ before now r meets finish g) in
      absurd (writes_finish (control area (length bs)) (sym (ap said stepped) ∙ sym meets.tells ∙ g))

  -- what is still to be sent, and that it and the transfers seen are those of the image
  pub record Sending (area : ℕ) (u : WholeUpload) (ts : List Transfer) : Type 0 where
    pub later : List Transfer
    pub due : Sends step u later
    pub total : ts ++ later ≡ transfers_of area image
    pub long : length image ≡ u.length

  module _ (area : ℕ) where
    pub too_long_lem : longest < length image → said (start_step area image) ≡ refused too_long []
    unfolding start_step or_refuse said
    too_long_lem h = rw (lt-ltb longest (length image) h) refl

    start_by : (r : WholeStart) → StartMeets r area image → start_told r.start ≡ given tt → Dec (longest < length image) → length image ≤ longest
    start_by r m g (yes h) = not_both tt too_long [] (sym g ∙ m.tells ∙ too_long_lem h)
    start_by r m g (no h) = omega arith

    -- an upload that is started has an image that is not too long
    pub started_fits : (r : WholeStart) → StartMeets r area image → start_told r.start ≡ given tt → length image ≤ longest
    started_fits r m g = start_by r m g (dec_lt longest (length image))

    pub sending_so : (u : WholeUpload) (ts : List Transfer) → Stepped area image u ts → Sending area u ts
    unfolding after
    sending_so _ _ (begun r m g) =
        let is : r.upload ≡ fresh_whole area (length image) = m.next ∙ ap (after (fresh_whole area 0)) (started area image (started_fits r m g)) in
        record {
          later = transfers_of area image;
          due = subst (λ (x : WholeUpload). Sends step x (transfers_of area image)) (sym is) (whole_start area image);
          total = refl;
          long = sym (ap (λ (x : WholeUpload). x.length) is);
        }
    sending_so _ _ (stepping u ts before now r a d p g) =
        let s = sending_so u ts d in
        let t = whole_takes u s.later before now r a s.due s.long p g in
        record {
          later = t.0;
          due = t.2;
          total = append_assoc ts (asked_seen a now) t.0 ∙ ap (λ (x : List Transfer). ts ++ x) (sym t.1) ∙ s.total;
          long = whole_keeps_length u before now r p s.long a g;
        }
    sending_so _ _ (no_step u ts other before now r n vs d p g) =
        let s = sending_so u ts d in
        let same = refused_stays (step_told r.step) r.next u before now (whole_step u other (length before)) n vs p g in
        record {
          later = s.later;
          due = subst (λ (x : WholeUpload). Sends step x s.later) (sym same) s.due;
          total = s.total;
          long = subst (λ (x : WholeUpload). length image ≡ x.length) (sym same) s.long;
        }

    -- who is answered the finish of a whole upload has seen the same list as who is answered it part by part (`any_caller`)
    pub any_whole_caller : (ts : List Transfer) → WholeFinishes area image ts → ts ≡ transfers_of area image
    any_whole_caller _ (whole_finishes u ts before now r d p g) =
        let s = sending_so u ts d in
        sym (append-nil ts) ∙ ap (λ (x : List Transfer). ts ++ x) (sym (whole_takes_none u s.later before now r s.due p g)) ∙ s.total

    -- with the image and an output of 4,096 bytes no step is refused
    pub step_not_refused : (u : WholeUpload) (ts : List Transfer) (before now : List ℕ) (r : WholeStepped) → Stepped area image u ts → StepMeets r u image before now
        → block_size ≤ length before → (a : Asks) × (step_told r.step ≡ given a)
    unfolding said
    step_not_refused u ts before now r d p h =
        let w = take (most u.steps) (drop u.taken image) in
        let c = crc_over u.crc w in
        let to = moves_at u.steps c w in (
          asks u.steps u.area (length to.bytes),
          p.tells ∙ ap said (whole_goes image u u.steps w c to (sending_so u ts d).long refl refl refl refl (length before) h),
        )
