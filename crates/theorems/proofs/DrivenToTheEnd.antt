-- The uploads that C and Rust link, with a budget that is enough: they answer 0, and what they show is the upload's list; with one less they answer 28.
use Prim.Native.Nat.{ℕ, zero, suc, ◌+◌, ◌-◌, ◌%◌, ◌<◌, ◌≤◌, min}
use mathlib.Core.Path.{◌≡◌, refl, ap, sym, ◌∙◌, subst}
use mathlib.Core.List.{List, [], ◌∷◌, ◌++◌}
use native.Mathlib.Omega.{arith}
use native.Mathlib.Decide.{dec_lt}
use lib.ListN.{length, take, drop, length-take, length-drop}
use borrow.Author.Tests.{ne_eqb}
use Rattle.promise.specs.Told.{Told, given, number}
use Rattle.promise.specs.Bytes.{front}
use Rattle.promise.specs.Does.{Does, does, said, sent, after}
use Rattle.promise.specs.Run.{End, tells, out_of_steps, end_told, Ran, counted, follow, runs}
use Rattle.promise.proofs.Resumed as resumed
use Rattle.maskrom_transfer.specs.Moves.{block_size}
use Rattle.maskrom.specs.declared.MaskRomOperation.{MaskRomOperation}
use Rattle.maskrom.specs.declared.WholeUpload.{WholeUpload}
use Rattle.maskrom.specs.Answers.{longest, control, Asks, writes, finish}
use Rattle.maskrom.specs.PartWise.{fresh, waiting, held, closed, holding, takes, part_step, close_step}
use Rattle.maskrom.specs.Whole.{fresh_whole}
use Rattle.maskrom.proofs.Cases.{part_takes, takes_full, takes_some}
use Rattle.maskrom.proofs.Writes.{front_seen}
use Rattle.maskrom.proofs.Lists.{filled_length}
use Rattle.ffi.specs.Drive.{DriveMeets, onward, step_turn, step_drive, step_of, on_start, whole_drive, Handing, handing, on_part, part_turn, most_closing, on_handed, part_drive}
use Rattle.theorems.specs.PartDriver.{Transfer, transfer, transfers_of}
use Rattle.theorems.specs.AnyCaller.{asked_seen}
use Rattle.theorems.specs.DriveTrace.{step_shows, step_turn_shows, on_turn, run_shows, step_trace, on_start_trace, whole_trace, part_trace, calls_for, part_budget, whole_steps}
use Rattle.theorems.proofs.StepsToFinish.{Sends, finishes, sends, front_room}
use Rattle.theorems.proofs.PartsSend.{Open, due, still_open, close_due, two_at_most}
use Rattle.theorems.proofs.AnyCut.{fresh_open, how_many_lem, whole_start, started}
use Rattle.theorems.proofs.ImageInOrder.{any_caller}
use Rattle.theorems.proofs.PartsOfOneSize.{parts_is_a_caller}
use Rattle.theorems.proofs.CallsForParts.{calls_at, calls_none, calls_at_start, calls_next}

-- a record that is stepped to its finish
module _ {R : Type 0} (step : R → ℕ → Told (Does Asks R)) where
  -- its two turns
  last_turn : (k : ℕ) (r r' : R) (out : List ℕ) → step r (length out) ≡ given (does finish [] r')
      → ((step_drive step (suc k) r out).number ≡ 0) × (step_trace step (suc k) r out ≡ [])
  unfolding step_drive step_trace runs run_shows step_turn step_turn_shows onward step_shows asked_seen follow on_turn said sent after number end_told
  last_turn k r r' out e = (rw e refl, rw e refl)

  next_turn : (k : ℕ) (r r' : R) (area : ℕ) (bs out : List ℕ) → step r (length out) ≡ given (does (writes (control area (length bs))) bs r')
      → ((step_drive step (suc k) r out).number ≡ (step_drive step k r' (front bs out)).number)
      × (step_trace step (suc k) r out ≡ transfer area bs ∷ step_trace step k r' (front bs out))
  unfolding step_drive step_trace runs run_shows step_turn step_turn_shows onward step_shows asked_seen follow on_turn said sent after number end_told
  next_turn k r r' area bs out e = (rw e refl, rw (e, front_seen bs out) refl)

  -- one step for each transfer and one for the finish are enough ..
  driven : (k : ℕ) (r : R) (ts : List Transfer) (out : List ℕ) → Sends step r ts → 4096 ≤ length out → length ts < k
      → ((step_drive step k r out).number ≡ 0) × (step_trace step k r out ≡ ts)
  driven zero r ts out s h n = absurd (omega arith)
  driven (suc k) r ts out (finishes r₁ r₂ e) h n = last_turn k r₁ r₂ out (e (length out) h)
  driven (suc k) r ts out (sends r₁ r₂ area bs us b e s) h n =
      let t = next_turn k r₁ r₂ area bs out (e (length out) h) in
      let more = driven k r₂ us (front bs out) s (front_room bs out b h) (omega arith) in
      (t.0 ∙ more.0, t.1 ∙ ap (λ (l : List Transfer). transfer area bs ∷ l) more.1)

  -- .. and fewer are not
  spent : (k : ℕ) (r : R) (ts : List Transfer) (out : List ℕ) → Sends step r ts → 4096 ≤ length out → k ≤ length ts → (step_drive step k r out).number ≡ 28
  unfolding step_drive runs number end_told
  spent zero r ts out s h n = refl
  spent (suc k) r ts out (finishes r₁ r₂ e) h n = absurd (omega arith)
  spent (suc k) r ts out (sends r₁ r₂ area bs us b e s) h n =
      (next_turn k r₁ r₂ area bs out (e (length out) h)).0 ∙ spent k r₂ us (front bs out) s (front_room bs out b h) (omega arith)

-- WHOLE. An image of at most 4,294,967,295 bytes and an output of 4,096 at least
module _ (area : ℕ) (image out : List ℕ) (l : length image ≤ longest) (h : block_size ≤ length out) (budget r : ℕ) (now : List ℕ)
    (meets : DriveMeets r now (whole_drive area image out budget)) where
  abbrev begun : WholeUpload
  begun = fresh_whole area (length image)

  pub whole_answers_0 : whole_steps (length image) ≤ budget → (r ≡ 0) × (whole_trace area image out budget ≡ transfers_of area image)
  unfolding on_start on_start_trace
  whole_answers_0 b =
      let n = how_many_lem area image in
      let d = driven (step_of image) budget begun (transfers_of area image) out (whole_start area image) h (omega arith) in
      let e = started area image l in
      (meets.tells ∙ rw e d.0, rw e d.1)

  pub whole_answers_28 : budget < whole_steps (length image) → r ≡ 28
  unfolding on_start
  whole_answers_28 b =
      let n = how_many_lem area image in
      let s = spent (step_of image) budget begun (transfers_of area image) out (whole_start area image) h (omega arith) in
      meets.tells ∙ rw (started area image l) s

within : (t l y z : ℕ) → z ≡ l - y → y ≤ l → t + l ≤ longest → t + y + z ≤ longest
within t l y z e f g = omega arith

few_taken : (room size l y : ℕ) → y ≡ min room (min size l) → y ≤ l
few_taken room size l y e = omega arith

one_less : (a b k : ℕ) → a ≡ b + 1 → a < suc k → b < k
one_less a b k e f = omega arith

-- PARTS
module _ (size : ℕ) (some : 0 < size) where
  -- how the handing over ends: with nothing left and the upload still open, after so many calls and the turn that finds it so
  record Over (calls : ℕ) (r : Ran Unit Handing) : Type 0 where
    told : r.end ≡ tells (given tt)
    is_open : Open r.state.operation
    long : 4096 ≤ length r.state.out
    many : r.steps ≡ calls + 1

  goes_over : (calls : ℕ) (r : Ran Unit Handing) → Over calls r → Over (calls + 1) (counted 1 r)
  goes_over calls r o = record { told = o.told; is_open = o.is_open; long = o.long; many = omega (arith, o.many) }

  -- one call, given what comes of those after it
  module _ (budget : ℕ)
      (more : (m : MaskRomOperation) (left out : List ℕ) → Open m → 4096 ≤ length out → m.taken + length left ≤ longest
      → calls_at size some (waiting m) (length left) < budget → Over (calls_at size some (waiting m) (length left)) (runs (part_turn size) budget (handing m left out)))
      (m : MaskRomOperation) (left out : List ℕ) (o : Open m) (h : 4096 ≤ length out) (l : m.taken + length left ≤ longest)
      (f : calls_at size some (waiting m) (length left) < suc budget) (something : 0 < length left) where
    abbrev ys : List ℕ
    ys = take (4096 - waiting m) (take size left)

    abbrev zs : List ℕ
    zs = drop (length ys) left

    taken : length ys ≡ min (4096 - waiting m) (min size (length left))
    taken = length-take (4096 - waiting m) (take size left) ∙ ap (min (4096 - waiting m)) (length-take size left)

    fewer : length zs ≡ length left - length ys
    fewer = length-drop (length ys) left

    steps : part_step m (take size left) (length out) ≡ given (takes m ys)
    unfolding closed
    steps =
        let n = length-take size left in
        part_takes m (take size left) (length out) h (ap closed o.writes_on) (omega arith)

    counts : calls_at size some (waiting m) (length left) ≡ calls_at size some (waiting (holding m ys)) (length zs) + 1
    counts =
        let at : (m.taken % 4096 + length ys) % 4096 ≡ (m.taken + length ys) % 4096 = omega arith in
        calls_next size some (waiting m) (length left) (length ys) (omega arith) something taken
        ∙ ap (λ (k : ℕ). calls_at size some k (length left - length ys) + 1) at
        ∙ ap (λ (k : ℕ). calls_at size some (waiting (holding m ys)) k + 1) (sym fewer)

    later : (now : List ℕ) → 4096 ≤ length now
        → Over (calls_at size some (waiting m) (length left)) (counted 1 (runs (part_turn size) budget (handing (holding m ys) zs now)))
    later now r =
        let few : waiting m + length ys ≤ 4096 = omega (arith, taken) in
        let fits : m.taken + length ys + length zs ≤ longest = within m.taken (length left) (length ys) (length zs) fewer (few_taken (4096 - waiting m) size (length left) (length ys) taken) l in
        let within-budget : calls_at size some (waiting (holding m ys)) (length zs) < budget = one_less (calls_at size some (waiting m) (length left)) (calls_at size some (waiting (holding m ys)) (length zs)) budget counts f in
        subst (λ (k : ℕ). Over k (counted 1 (runs (part_turn size) budget (handing (holding m ys) zs now)))) (sym counts)
        (goes_over _ _ (more (holding m ys) zs now (still_open m o ys zs few) r fits within-budget))

    by_room : Dec (waiting m + length ys < 4096) → Over (calls_at size some (waiting m) (length left)) (runs (part_turn size) (suc budget) (handing m left out))
    unfolding runs follow part_turn on_part said sent after
    by_room (yes s) =
        let d = steps ∙ ap given (takes_some m ys s) in
        rw (ne_eqb (length left) 0 (λ (z : length left ≡ 0). omega arith), d) (later out h)
    by_room (no s) =
        let full : waiting m + length ys ≡ 4096 = omega (arith, taken) in
        let b = held m ++ ys in
        let n : length b ≡ 4096 = filled_length m.block (waiting m) ys o.block_long full in
        let d = steps ∙ ap given (takes_full m ys full) in
        rw (ne_eqb (length left) 0 (λ (z : length left ≡ 0). omega arith), d) (later (front b out) (front_room b out (omega arith) h))

  nothing_over : (budget : ℕ) (m : MaskRomOperation) (left out : List ℕ) → Open m → 4096 ≤ length out → length left ≡ 0
      → Over (calls_at size some (waiting m) (length left)) (runs (part_turn size) (suc budget) (handing m left out))
  unfolding runs follow part_turn
  nothing_over budget m left out o h e =
      rw e (record { told = refl; is_open = o; long = h; many = omega (arith, calls_none size some (waiting m) (omega arith)) })

  by_left : (budget : ℕ) (m : MaskRomOperation) (left out : List ℕ) → Dec (0 < length left) → Open m → 4096 ≤ length out → m.taken + length left ≤ longest
      → calls_at size some (waiting m) (length left) < suc budget
      → ((m : MaskRomOperation) (left out : List ℕ) → Open m → 4096 ≤ length out → m.taken + length left ≤ longest
      → calls_at size some (waiting m) (length left) < budget → Over (calls_at size some (waiting m) (length left)) (runs (part_turn size) budget (handing m left out)))
      → Over (calls_at size some (waiting m) (length left)) (runs (part_turn size) (suc budget) (handing m left out))
  by_left budget m left out (yes p) o h l f more =
      by_room budget more m left out o h l f p (dec_lt (waiting m + length (take (4096 - waiting m) (take size left))) 4096)
  by_left budget m left out (no p) o h l f more = nothing_over budget m left out o h (omega arith)

  hands_over : (budget : ℕ) (m : MaskRomOperation) (left out : List ℕ) → Open m → 4096 ≤ length out → m.taken + length left ≤ longest
      → calls_at size some (waiting m) (length left) < budget → Over (calls_at size some (waiting m) (length left)) (runs (part_turn size) budget (handing m left out))
  hands_over zero m left out o h l f = absurd (omega arith)
  hands_over (suc budget) m left out o h l f = by_left budget m left out (dec_lt 0 (length left)) o h l f (λ m' left' out'. hands_over budget m' left' out')

-- an image of at most 4,294,967,295 bytes, in parts of a byte at least, and an output of 4,096 at least
module _ (area : ℕ) (size : ℕ) (some : 0 < size) (image out : List ℕ) (l : length image ≤ longest) (h : block_size ≤ length out) where
  abbrev begins : Handing
  begins = handing (fresh area) image out

  over_from_start : (budget : ℕ) → part_budget size (length image) ≤ budget → Over size some (calls_for size (length image)) (runs (part_turn size) budget begins)
  over_from_start budget b =
      let n = calls_at_start size some (length image) in
      subst (λ (k : ℕ). Over size some k (runs (part_turn size) budget begins)) n
      (hands_over size some budget (fresh area) image out (fresh_open area) h (omega arith) (omega (arith, n)))

  drives_to_0 : (budget : ℕ) → part_budget size (length image) ≤ budget → (part_drive area size image out budget).number ≡ 0
  unfolding part_drive on_handed number end_told
  drives_to_0 budget b =
      let run = runs (part_turn size) budget begins in
      let o = over_from_start budget b in
      rw o.told
      (driven close_step most_closing run.state.operation (due run.state.operation []) run.state.out (close_due run.state.operation o.is_open) o.long
      (two_at_most run.state.operation o.is_open)).0

  module _ (budget : ℕ) (f : budget < part_budget size (length image)) where
    -- a run that had ended would have been no longer with a budget that is enough
    not_told : (told : Told Unit) → (runs (part_turn size) budget begins).end ≡ tells told → ⊥
    not_told told e =
        let wider = budget + part_budget size (length image) in
        let same = ap (λ (r : Ran Unit Handing). r.steps) (resumed.enough (part_turn size) budget (part_budget size (length image)) begins told e) in
        let all = (over_from_start wider (omega arith)).many in
        let few = resumed.never_more (part_turn size) budget begins in
        omega (arith, same, all, few)

    by_end : (e : End Unit) → (runs (part_turn size) budget begins).end ≡ e → (part_drive area size image out budget).number ≡ 28
    unfolding part_drive on_handed number end_told
    by_end (tells told) e = absurd (not_told told e)
    by_end out_of_steps e = rw e refl

  module _ (budget r : ℕ) (now : List ℕ) (meets : DriveMeets r now (part_drive area size image out budget)) where
    pub parts_answers_0 : part_budget size (length image) ≤ budget → (r ≡ 0) × (part_trace area size image out budget ≡ transfers_of area image)
    parts_answers_0 b =
        let e = drives_to_0 budget b in
        (meets.tells ∙ e, any_caller area image (part_trace area size image out budget) (parts_is_a_caller area image size out budget e))

    pub parts_answers_28 : budget < part_budget size (length image) → r ≡ 28
    parts_answers_28 f = meets.tells ∙ by_end budget f (runs (part_turn size) budget begins).end refl
