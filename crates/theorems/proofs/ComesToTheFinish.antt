-- By how many calls a caller comes to the finish: part by part, one for each byte at most and three closing steps; of a whole upload, floor(T/4,096)+2
-- exactly.
use Prim.Native.Nat.{ℕ, zero, suc, ◌+◌, ◌-◌, ◌/◌, ◌<◌, ◌≤◌, min}
use mathlib.Core.Path.{◌≡◌, refl, ap, sym, ◌∙◌, subst}
use mathlib.Core.List.{List, [], ◌∷◌, ◌++◌}
use mathlib.Core.Logic.{◌⊎◌, inl, inr, ⊎_elim}
use native.Mathlib.Omega.{arith}
use native.Mathlib.Decide.{dec_lt}
use lib.ListN.{length, drop, length-append, length-drop}
use Rattle.promise.specs.Told.{given}
use Rattle.maskrom_transfer.specs.Moves.{block_size}
use Rattle.maskrom_transfer.specs.declared.MaskRomSteps.{MaskRomSteps}
use Rattle.maskrom_transfer.specs.declared.MaskRomSteps.TheVariants.{Writing, Check, Dummy, Done}
use Rattle.maskrom.specs.declared.Control.{Control}
use Rattle.maskrom.specs.declared.MaskRomOperation.{MaskRomOperation}
use Rattle.maskrom.specs.declared.CloseStepped.{CloseStepped}
use Rattle.maskrom.specs.declared.WholeUpload.{WholeUpload}
use Rattle.maskrom.specs.declared.WholeStepped.{WholeStepped}
use Rattle.maskrom.specs.Answers.{longest, Asks, writes, finish, step_told}
use Rattle.maskrom.specs.PartWise.{fresh}
use Rattle.maskrom.specs.Calls.{CloseMeets, StepMeets}
use Rattle.theorems.specs.UploadBytes.{total}
use Rattle.theorems.specs.PartDriver.{Transfer, transfers_of, seen}
use Rattle.theorems.specs.AnyCaller.{taken_by, handed_seen, asked_seen, Reached, starts, hands, closes, finishes, ClosesBy, ComesBy, Stepped, begun, stepping, no_step, steps_made}
use Rattle.theorems.proofs.AnyCut.{how_many_lem}
use Rattle.theorems.proofs.OneCall.{before_finish, close_nearer, close_at_end, takes_a_byte, writes_finish}
use Rattle.theorems.proofs.AnyCaller.{closing_not_refused}
use Rattle.theorems.proofs.ImageInOrder.{any_caller, open_while_left, slice_not_refused}
use Rattle.theorems.proofs.AnyWholeCaller.{whole_takes, whole_takes_none, sending_so, step_not_refused}

none_left : (xs : List ℕ) → length xs ≤ 0 → xs ≡ []
none_left [] h = refl
none_left (x ∷ xs) h = absurd (omega arith)

two_at_most : (s : MaskRomSteps) → before_finish s < 3
unfolding before_finish
two_at_most Writing = omega arith
two_at_most Check = omega arith
two_at_most Dummy = omega arith
two_at_most Done = omega arith

-- a closing step that asks for a transfer is not at the end
asks_on : (m : MaskRomOperation) (before now : List ℕ) (r : CloseStepped) → CloseMeets r m before now → (c : Control) → step_told r.step ≡ given (writes c)
    → Dec (0 < before_finish m.steps) → 0 < before_finish m.steps
asks_on m before now r p c g (yes h) = h
asks_on m before now r p c g (no h) = absurd (writes_finish c (ap given (close_at_end m before now r p (writes c) g (omega arith))))

-- part by part
module _ (area : ℕ) (image : List ℕ) where
  abbrev all : List Transfer
  all = transfers_of area image

  -- by what a step asks for, given that the steps behind it come to the finish
  asked_so : (k : ℕ) (m : MaskRomOperation) (ts : List Transfer) → Reached area image m [] ts → before_finish m.steps < suc k
      → ((next : MaskRomOperation) (us : List Transfer) → Reached area image next [] us → before_finish next.steps < k → ClosesBy k all next us)
      → (before now : List ℕ) (r : CloseStepped) → CloseMeets r m before now → (a : Asks) → step_told r.step ≡ given a
      → ((step_told r.step ≡ given finish) × (ts ≡ all))
      ⊎ ((c : Control) × (step_told r.step ≡ given (writes c)) × ClosesBy k all r.next (ts ++ (seen c now ∷ [])))
  unfolding asked_seen
  asked_so k m ts d n on before now r p finish g = inl (g, any_caller area image ts (finishes m [] ts before now r d p g))
  asked_so k m ts d n on before now r p (writes c) g =
      let nearer = close_nearer m before now r p (writes c) g in
      let not_yet : 0 < before_finish m.steps = asks_on m before now r p c g (dec_lt 0 (before_finish m.steps)) in
      inr (c, g, on r.next (ts ++ (seen c now ∷ [])) (closes m [] ts before now r (writes c) d refl p g) (omega arith))

  closes_by : (k : ℕ) (m : MaskRomOperation) (ts : List Transfer) → Reached area image m [] ts → before_finish m.steps < k → ClosesBy k all m ts
  unfolding ClosesBy
  closes_by zero m ts d n = absurd (omega arith)
  closes_by (suc k) m ts d n =
      λ before now r h p. let g = closing_not_refused m before now r p h in asked_so k m ts d n (closes_by k) before now r p g.0 g.1

  three_closing : (m : MaskRomOperation) (left : List ℕ) (ts : List Transfer) → Reached area image m left ts → left ≡ [] → ClosesBy 3 all m ts
  three_closing m left ts d e = closes_by 3 m ts (subst (λ (xs : List ℕ). Reached area image m xs ts) e d) (two_at_most m.steps)

  module _ (fits : length image ≤ longest) where
    comes_by : (n : ℕ) (m : MaskRomOperation) (left : List ℕ) (ts : List Transfer) → Reached area image m left ts → length left ≤ n → ComesBy n all m left ts
    unfolding ComesBy
    comes_by zero m left ts d few = (none_left left few, three_closing m left ts d (none_left left few))
    comes_by (suc n) m left ts d few = (
      three_closing m left ts d,
      λ part rest before now r e some h p.
          let long : length left ≡ length part + length rest = ap length e ∙ length-append part rest in
          let unshut = open_while_left area image m left ts d (omega arith) in
          let g = slice_not_refused area image m left ts part rest before now r d fits unshut e p h in
          let one = takes_a_byte m part before now r p g.0 g.1 some in
          let fewer : length (drop (taken_by g.0) left) ≡ length left - taken_by g.0 = length-drop (taken_by g.0) left in (
            g.0,
            g.1,
            one,
            comes_by n r.next (drop (taken_by g.0) left) (ts ++ handed_seen g.0 now)
                (hands m left ts part rest before now r g.0 d e p g.1) (omega arith),
          ),
    )

    -- who hands over at least one byte at each call comes to the finish, wherever he is, by one call for each byte that is left at most and three closing
    -- steps; what he has seen then are the transfers of the image
    pub comes_to_the_finish : (m : MaskRomOperation) (left : List ℕ) (ts : List Transfer) → Reached area image m left ts
        → ComesBy (length left) (transfers_of area image) m left ts
    comes_to_the_finish m left ts d = comes_by (length left) m left ts d (omega arith)

    -- and so from the start, by one call for each byte of the image at most and three closing steps
    pub from_start_to_finish : (m : MaskRomOperation) → m ≡ fresh area → ComesBy (length image) (transfers_of area image) m image []
    from_start_to_finish m e = comes_to_the_finish m image [] (starts m e)

-- a whole upload

seen_one : (a : Asks) (now : List ℕ) (us later : List Transfer) → us ≡ asked_seen a now ++ later → (a ≡ finish → us ≡ [])
    → ((a ≡ finish) × (length us ≡ 0) × (length (asked_seen a now) ≡ 0)) ⊎ ((c : Control) × (a ≡ writes c) × (length us ≡ suc (length later)) × (length (asked_seen a now) ≡ 1))
unfolding asked_seen
seen_one finish now us later e none = inl (refl, ap length (none refl), refl)
seen_one (writes c) now us later e none = inr (c, refl, ap length e, refl)

module _ (area : ℕ) (image : List ℕ) where
  -- "floor(T/4,096)+1 transfers"
  abbrev many : ℕ
  many = total (length image) / block_size + 1

  left_to_send : (u : WholeUpload) (ts : List Transfer) (d : Stepped area image u ts) → length ts + length (sending_so image area u ts d).later ≡ many
  left_to_send u ts d =
      let s = sending_so image area u ts d in
      sym (length-append ts s.later) ∙ ap length s.total ∙ how_many_lem area image

  -- what a step that is not refused says
  says : (u : WholeUpload) (ts : List Transfer) (d : Stepped area image u ts) (before now : List ℕ) (r : WholeStepped) (a : Asks)
      → StepMeets r u image before now → step_told r.step ≡ given a
      → ((a ≡ finish) × (length ts ≡ many) × (length (asked_seen a now) ≡ 0)) ⊎ ((c : Control) × (a ≡ writes c) × (length ts < many) × (length (asked_seen a now) ≡ 1))
  says u ts d before now r a p g =
      let s = sending_so image area u ts d in
      let n = left_to_send u ts d in
      let t = whole_takes image u s.later before now r a s.due s.long p g in
      ⊎_elim
      (λ f. inl (f.0, (let z = f.1 in omega arith), f.2))
      (λ w. inr (w.0, w.1, (let z = w.2 in omega arith), w.3))
      (seen_one a now s.later t.0 t.1 (λ f. whole_takes_none image u s.later before now r s.due p (g ∙ ap given f)))

  -- each step that is not refused sends one transfer, until all are sent
  sent_by : (u : WholeUpload) (ts : List Transfer) (d : Stepped area image u ts) → length ts ≡ min (steps_made u ts d) many
  unfolding steps_made
  sent_by _ _ (begun r m g) = omega arith
  sent_by _ _ (stepping u ts before now r a d p g) =
      let n = sent_by u ts d in
      let k : length (ts ++ asked_seen a now) ≡ length ts + length (asked_seen a now) = length-append ts (asked_seen a now) in
      ⊎_elim (λ f. let z = f.1 in let y = f.2 in omega arith) (λ w. let z = w.2 in let y = w.3 in omega arith) (says u ts d before now r a p g)
  sent_by _ _ (no_step u ts other before now r n vs d p g) = sent_by u ts d

  module _ (u : WholeUpload) (ts : List Transfer) (d : Stepped area image u ts) (before now : List ℕ) (r : WholeStepped)
      (meets : StepMeets r u image before now) where
    -- a step that is not refused is answered the finish exactly where floor(T/4,096)+1 before it, or more, were not refused: so the first that is answered
    -- it has floor(T/4,096)+1 before it
    pub finish_exactly : (a : Asks) → step_told r.step ≡ given a
        → (total (length image) / block_size + 1 ≤ steps_made u ts d → a ≡ finish) × (a ≡ finish → total (length image) / block_size + 1 ≤ steps_made u ts d)
    finish_exactly a g =
        let n = sent_by u ts d in
        ⊎_elim {C = (many ≤ steps_made u ts d → a ≡ finish) × (a ≡ finish → many ≤ steps_made u ts d)}
        (λ f. let z = f.1 in ((λ h. f.0), (λ e. omega arith)))
        (λ w. let z = w.2 in ((λ h. absurd (omega arith)), (λ e. absurd (writes_finish w.0 (ap given (sym w.1 ∙ e))))))
        (says u ts d before now r a meets g)

    -- with 4,096 bytes of output none is refused: the first floor(T/4,096)+1 ask for a transfer each, and the next is answered the finish
    pub whole_comes_to_the_finish : block_size ≤ length before → (total (length image) / block_size + 1 ≤ steps_made u ts d → step_told r.step ≡ given finish)
        × (steps_made u ts d < total (length image) / block_size + 1 → (c : Control) × (step_told r.step ≡ given (writes c)))
    whole_comes_to_the_finish h =
        let g = step_not_refused image area u ts before now r d meets h in
        let n = sent_by u ts d in
        ⊎_elim {C = (many ≤ steps_made u ts d → step_told r.step ≡ given finish) × (steps_made u ts d < many → (c : Control) × (step_told r.step ≡ given (writes c)))}
        (λ f. let z = f.1 in ((λ l. g.1 ∙ ap given f.0), (λ l. absurd (omega arith))))
        (λ w. let z = w.2 in ((λ l. absurd (omega arith)), (λ l. (w.0, g.1 ∙ ap given w.1))))
        (says u ts d before now r g.0 meets g.1)
