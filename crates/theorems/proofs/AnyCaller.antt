-- What the upload is for: whatever calls a caller makes between the start and the finish, he has seen the transfers of the bytes that were taken.
use Prim.Native.Nat.{ℕ, zero, suc, ◌+◌, ◌-◌, ◌≤◌, min}
use mathlib.Core.Path.{◌≡◌, ap, sym, ◌∙◌, subst}
use mathlib.Core.Bool.{Bool, true, false}
use mathlib.Core.List.{List, [], ◌++◌, append-nil, append_assoc}
use native.Mathlib.Omega.{arith}
use lib.ListN.{length, take, length-append, length-take}
use Rattle.promise.specs.Told.{given}
use Rattle.promise.specs.Rules.{pick}
use Rattle.maskrom_transfer.specs.declared.MaskRomSteps.{MaskRomSteps}
use Rattle.maskrom_transfer.specs.declared.MaskRomSteps.TheVariants.{Writing, Done}
use Rattle.maskrom_transfer.specs.Moves.{block_size, moves_at}
use Rattle.maskrom.specs.declared.MaskRomOperation.{MaskRomOperation}
use Rattle.maskrom.specs.declared.PartStepped.{PartStepped}
use Rattle.maskrom.specs.declared.CloseStepped.{CloseStepped}
use Rattle.maskrom.specs.Answers.{longest, Handed, Asks, finish, part_told, step_told}
use Rattle.maskrom.specs.PartWise.{waiting, held, closed, takes, asks, part_step, close_step}
use Rattle.theorems.specs.PartDriver.{Transfer, transfers_of}
use Rattle.maskrom.specs.Calls.{PartMeets, CloseMeets}
use Rattle.theorems.specs.AnyCaller.{taken_by, handed_seen, asked_seen, Called, made, taking, closing, no_part, no_closing, Uploaded, uploaded, one_of, taking_calls, closing_steps}
use Rattle.theorems.proofs.StepsToFinish.{Sends}
use Rattle.theorems.proofs.PartsSend.{Open, due, close_due}
use Rattle.theorems.proofs.AnyCut.{start_due, fresh_open}
use Rattle.theorems.proofs.OneCall.{refused_stays, before_finish, close_given, close_unopens, close_nearer, close_at_end, finish_done, close_takes, finish_takes_none, part_given, part_unshut, part_fits, close_keeps_taken, taken_is, taken_counted, part_keeps, part_open, part_takes_due}

-- what was sent and what is still to be sent are the transfers of the bytes taken and of any that come, until the image is shut
pub data Sent (area : ℕ) : MaskRomOperation → List ℕ → List Transfer → Type 0 where
  unshut : (m : MaskRomOperation) (taken : List ℕ) (ts : List Transfer) → Open m → ((xs : List ℕ) → ts ++ due m xs ≡ transfers_of area (taken ++ xs))
      → Sent area m taken ts
  shut : (m : MaskRomOperation) (taken : List ℕ) (ts us : List Transfer) → closed m.steps ≡ true → Sends close_step m us → ts ++ us ≡ transfers_of area taken
      → Sent area m taken ts

pub true_not_false : {C : Type 0} → true ≡ false → C
true_not_false e = absurd (let z : ◌≡◌ {A = ℕ} 0 1 = ap (λ (b : Bool). pick b 0 1) e in omega arith)

pub few_of : (room l n : ℕ) → n ≡ min room l → n ≤ l
few_of room l n e = omega arith

all_counted : (x m n t l k y : ℕ) → x ≡ m + n → m ≡ t → k ≡ min n l → n ≤ l → y ≡ t + k → x ≡ y
all_counted x m n t l k y a b c d e = omega arith

still_fits : (m t l k y n : ℕ) → m ≡ t → m + l ≤ longest → k ≡ min n l → y ≡ t + k → y ≤ longest
still_fits m t l k y n a b c d = omega arith

module _ (area : ℕ) where
  part_sent : (m : MaskRomOperation) (taken : List ℕ) (ts : List Transfer) (part before now : List ℕ) (r : PartStepped) (a : Handed) → Sent area m taken ts
      → PartMeets r m part before now → part_told r.step ≡ given a → Sent area r.next (taken ++ take (taken_by a) part) (ts ++ handed_seen a now)
  part_sent m taken ts part before now r a (unshut m₁ taken₁ ts₁ o f) p g =
      let ys = take (taken_by a) part in
      let seen-now = handed_seen a now in
      unshut r.next (taken₁ ++ ys) (ts₁ ++ seen-now) (part_open m₁ part before now r p a g o)
      (λ xs. append_assoc ts₁ seen-now (due r.next xs)
      ∙ ap (λ (l : List Transfer). ts₁ ++ l) (sym (part_takes_due m₁ part before now r p a g o xs))
      ∙ f (ys ++ xs)
      ∙ ap (transfers_of area) (sym (append_assoc taken₁ ys xs)))
  part_sent m taken ts part before now r a (shut m₁ taken₁ ts₁ us c s e) p g = true_not_false (sym c ∙ part_unshut m₁ part before now r p a g)

  closing_sent : (m : MaskRomOperation) (taken : List ℕ) (ts us : List Transfer) (before now : List ℕ) (r : CloseStepped) (a : Asks) → Sends close_step m us
      → ts ++ us ≡ transfers_of area taken → CloseMeets r m before now → step_told r.step ≡ given a → Sent area r.next taken (ts ++ asked_seen a now)
  closing_sent m taken ts us before now r a s e p g =
      let t = close_takes m us before now r p a g s in
      shut r.next taken (ts ++ asked_seen a now) t.0 (close_unopens m before now r p a g) t.2
      (append_assoc ts (asked_seen a now) t.0 ∙ ap (λ (l : List Transfer). ts ++ l) (sym t.1) ∙ e)

  close_sent : (m : MaskRomOperation) (taken : List ℕ) (ts : List Transfer) (before now : List ℕ) (r : CloseStepped) (a : Asks) → Sent area m taken ts
      → CloseMeets r m before now → step_told r.step ≡ given a → Sent area r.next taken (ts ++ asked_seen a now)
  close_sent m taken ts before now r a (unshut m₁ taken₁ ts₁ o f) p g =
      closing_sent m₁ taken₁ ts₁ (due m₁ []) before now r a (close_due m₁ o) (f [] ∙ ap (transfers_of area) (append-nil taken₁)) p g
  close_sent m taken ts before now r a (shut m₁ taken₁ ts₁ us c s e) p g = closing_sent m₁ taken₁ ts₁ us before now r a s e p g

  pub sent_so : (m : MaskRomOperation) (taken : List ℕ) (ts : List Transfer) → Called area m taken ts → Sent area m taken ts
  sent_so _ _ _ (made m e) =
      unshut m [] [] (subst Open (sym e) (fresh_open area)) (λ xs. ap (λ (x : MaskRomOperation). due x xs) e ∙ start_due area xs)
  sent_so _ _ _ (taking m taken ts part before now r a d p g) = part_sent m taken ts part before now r a (sent_so m taken ts d) p g
  sent_so _ _ _ (closing m taken ts before now r a d p g) = close_sent m taken ts before now r a (sent_so m taken ts d) p g
  sent_so _ _ _ (no_part m taken ts part before now r n vs d p g) =
      subst (λ (x : MaskRomOperation). Sent area x taken ts)
      (sym (refused_stays (part_told r.step) r.next m before now (part_step m part (length before)) n vs p g)) (sent_so m taken ts d)
  sent_so _ _ _ (no_closing m taken ts before now r n vs d p g) =
      subst (λ (x : MaskRomOperation). Sent area x taken ts)
      (sym (refused_stays (step_told r.step) r.next m before now (close_step m (length before)) n vs p g)) (sent_so m taken ts d)

  all_sent : (m : MaskRomOperation) (taken : List ℕ) (ts : List Transfer) (before now : List ℕ) (r : CloseStepped) → Sent area m taken ts → CloseMeets r m before now
      → step_told r.step ≡ given finish → ts ≡ transfers_of area taken
  unfolding before_finish
  all_sent m taken ts before now r (unshut m₁ taken₁ ts₁ o f) p g =
      let clash : before_finish Writing ≡ before_finish Done = ap before_finish (sym o.writes_on ∙ finish_done m₁ before now r p g) in
      absurd (omega (arith, clash))
  all_sent m taken ts before now r (shut m₁ taken₁ ts₁ us c s e) p g =
      sym (append-nil ts₁) ∙ ap (λ (l : List Transfer). ts₁ ++ l) (sym (finish_takes_none m₁ us before now r p g s)) ∙ e

  -- DEMAND 3. Any calls at all, from the start to the finish, with any slice and any output at each: the transfers seen are those of the bytes that were
  -- taken.
  pub whatever_was_taken : (taken : List ℕ) (ts : List Transfer) → Uploaded area taken ts → ts ≡ transfers_of area taken
  whatever_was_taken _ _ (uploaded m taken ts before now r d p g) = all_sent m taken ts before now r (sent_so m taken ts d) p g

  -- the record counts the bytes taken, and they are never too many
  pub counts_the_taken : (m : MaskRomOperation) (taken : List ℕ) (ts : List Transfer) → Called area m taken ts → (m.taken ≡ length taken) × (length taken ≤ longest)
  counts_the_taken _ _ _ (made m e) = (ap (λ (x : MaskRomOperation). x.taken) e, omega arith)
  counts_the_taken _ _ _ (taking m taken ts part before now r a d p g) =
      let before-it = counts_the_taken m taken ts d in
      let n : length (taken ++ take (taken_by a) part) ≡ length taken + length (take (taken_by a) part) = length-append taken (take (taken_by a) part) in
      let k = length-take (taken_by a) part in
      let t = taken_is m part before now r p a g in
      let f = part_fits m part before now r p a g in
      let c = taken_counted m part before now r p a g in (
        all_counted r.next.taken m.taken (taken_by a) (length taken) (length part) (length (take (taken_by a) part)) (length (taken ++ take (taken_by a) part)) c before-it.0 k (few_of (block_size - waiting m) (length part) (taken_by a) t) n,
        still_fits m.taken (length taken) (length part) (length (take (taken_by a) part)) (length (taken ++ take (taken_by a) part)) (taken_by a) before-it.0 f k n,
      )
  counts_the_taken _ _ _ (closing m taken ts before now r a d p g) =
      let before-it = counts_the_taken m taken ts d in (close_keeps_taken m before now r p a g ∙ before-it.0, before-it.1)
  counts_the_taken _ _ _ (no_part m taken ts part before now r n vs d p g) =
      let before-it = counts_the_taken m taken ts d in
      (ap (λ (x : MaskRomOperation). x.taken) (refused_stays (part_told r.step) r.next m before now (part_step m part (length before)) n vs p g) ∙ before-it.0, before-it.1)
  counts_the_taken _ _ _ (no_closing m taken ts before now r n vs d p g) =
      let before-it = counts_the_taken m taken ts d in
      (ap (λ (x : MaskRomOperation). x.taken) (refused_stays (step_told r.step) r.next m before now (close_step m (length before)) n vs p g) ∙ before-it.0, before-it.1)

  -- before the image is shut no part is refused that is not too long, with an output of 4,096 bytes
  pub part_not_refused : (m : MaskRomOperation) (taken : List ℕ) (ts : List Transfer) (part before now : List ℕ) (r : PartStepped) → Called area m taken ts
      → closed m.steps ≡ false → length taken + length part ≤ longest → PartMeets r m part before now → block_size ≤ length before
      → (a : Handed) × (part_told r.step ≡ given a)
  part_not_refused m taken ts part before now r d c f p h =
      let n = (counts_the_taken m taken ts d).0 in
      ((takes m (take (4096 - waiting m) part)).says, part_given m part before now r p h c (omega arith))

  -- every call that takes something takes a byte at least, so there are no more of them than bytes were taken ..
  one_at_most : (n : ℕ) → one_of n ≤ n
  unfolding one_of
  one_at_most zero = omega arith
  one_at_most (suc n) = omega arith

  more_taken : (t k n l y u o : ℕ) → u ≤ t → o ≤ n → k ≡ min n l → n ≤ l → y ≡ t + k → u + o ≤ y
  more_taken t k n l y u o a b c d e = omega arith

  pub taking_calls_at_most : (m : MaskRomOperation) (taken : List ℕ) (ts : List Transfer) (d : Called area m taken ts) → taking_calls m taken ts d ≤ length taken
  unfolding taking_calls
  taking_calls_at_most _ _ _ (made m e) = omega arith
  taking_calls_at_most _ _ _ (taking m taken ts part before now r a d p g) =
      more_taken (length taken) (length (take (taken_by a) part)) (taken_by a) (length part) (length (taken ++ take (taken_by a) part)) (taking_calls m taken ts d) (one_of (taken_by a))
      (taking_calls_at_most m taken ts d) (one_at_most (taken_by a)) (length-take (taken_by a) part)
      (few_of (block_size - waiting m) (length part) (taken_by a) (taken_is m part before now r p a g)) (length-append taken (take (taken_by a) part))
  taking_calls_at_most _ _ _ (closing m taken ts before now r a d p g) = taking_calls_at_most m taken ts d
  taking_calls_at_most _ _ _ (no_part m taken ts part before now r n vs d p g) = taking_calls_at_most m taken ts d
  taking_calls_at_most _ _ _ (no_closing m taken ts before now r n vs d p g) = taking_calls_at_most m taken ts d

  nearer : (m : MaskRomOperation) (taken : List ℕ) (ts : List Transfer) (d : Called area m taken ts) → before_finish m.steps ≤ 2 - closing_steps m taken ts d
  unfolding closing_steps before_finish
  nearer _ _ _ (made m e) = subst (λ (x : MaskRomOperation). before_finish x.steps ≤ 2) (sym e) (omega arith)
  nearer _ _ _ (taking m taken ts part before now r a d p g) =
      subst (λ (x : MaskRomSteps). before_finish x ≤ 2 - closing_steps m taken ts d) (sym (part_keeps m part before now r p a g)) (nearer m taken ts d)
  nearer _ _ _ (closing m taken ts before now r a d p g) =
      let n = nearer m taken ts d in
      let c = close_nearer m before now r p a g in
      omega arith
  nearer _ _ _ (no_part m taken ts part before now r n vs d p g) =
      subst (λ (x : MaskRomOperation). before_finish x.steps ≤ 2 - closing_steps m taken ts d)
      (sym (refused_stays (part_told r.step) r.next m before now (part_step m part (length before)) n vs p g)) (nearer m taken ts d)
  nearer _ _ _ (no_closing m taken ts before now r n vs d p g) =
      subst (λ (x : MaskRomOperation). before_finish x.steps ≤ 2 - closing_steps m taken ts d)
      (sym (refused_stays (step_told r.step) r.next m before now (close_step m (length before)) n vs p g)) (nearer m taken ts d)

  -- .. and the third closing step that is not refused, and every later one, is answered the finish
  pub third_closing_finishes : (m : MaskRomOperation) (taken : List ℕ) (ts : List Transfer) (d : Called area m taken ts) (before now : List ℕ)
      (r : CloseStepped) (a : Asks) → 2 ≤ closing_steps m taken ts d → CloseMeets r m before now → step_told r.step ≡ given a → a ≡ finish
  third_closing_finishes m taken ts d before now r a two p g =
      let n = nearer m taken ts d in
      close_at_end m before now r p a g (omega arith)

-- no closing step is refused that has such an output, at any record
pub closing_not_refused : (m : MaskRomOperation) (before now : List ℕ) (r : CloseStepped) → CloseMeets r m before now → block_size ≤ length before
    → (a : Asks) × (step_told r.step ≡ given a)
closing_not_refused m before now r p h = (asks m.steps m.area (length (moves_at m.steps m.crc (held m)).bytes), close_given m before now r p h)
