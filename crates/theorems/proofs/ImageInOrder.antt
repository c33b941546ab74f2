-- A caller who hands over an image in order, any slice that begins what is left at each call, and closes once nothing is left: what was taken is the
-- image, and so the transfers that he sees are those of the whole image.
use Prim.Native.Nat.{ℕ, ◌+◌, ◌-◌, ◌/◌, ◌<◌, ◌≤◌}
use mathlib.Core.Path.{◌≡◌, refl, ap, sym, ◌∙◌, subst}
use mathlib.Core.Bool.{true, false}
use mathlib.Core.List.{List, [], ◌++◌, append-nil, append_assoc}
use native.Mathlib.Omega.{arith}
use lib.ListN.{length, take, drop, length-append, take-append-drop}
use lib.Seq.{take-append-le}
use Rattle.promise.specs.Told.{given}
use Rattle.promise.proofs.Outcome.{on_test}
use Rattle.maskrom_transfer.specs.Moves.{block_size}
use Rattle.maskrom.specs.declared.MaskRomOperation.{MaskRomOperation}
use Rattle.maskrom.specs.declared.PartStepped.{PartStepped}
use Rattle.maskrom.specs.declared.CloseStepped.{CloseStepped}
use Rattle.maskrom.specs.Answers.{longest, Handed, finish, part_told, step_told}
use Rattle.maskrom.specs.PartWise.{waiting, closed, part_step, close_step}
use Rattle.theorems.specs.UploadBytes.{total}
use Rattle.theorems.specs.PartDriver.{Transfer, ended, drive_whole, transfers_of}
use Rattle.maskrom.specs.Calls.{PartMeets, CloseMeets}
use Rattle.theorems.specs.AnyCaller.{taken_by, Called, made, taking, closing, no_part, no_closing, uploaded, Reached, starts, hands, closes, part_refused, close_refused, Finishes, finishes, taking_calls}
use Rattle.theorems.proofs.AnyCut.{whole_image}
use Rattle.theorems.proofs.OneCall.{refused_stays, finish_done, part_unshut, part_keeps, taken_is}
use Rattle.theorems.proofs.AnyCaller.{Sent, unshut, shut, sent_so, whatever_was_taken, counts_the_taken, few_of, true_not_false}
use Rattle.theorems.proofs.PartsSend.{due}
use Rattle.theorems.proofs.AnyCaller as caller

-- bytes that are taken of a slice that begins what is left
taken_in_order : (taken left image part rest : List ℕ) (n : ℕ) → taken ++ left ≡ image → left ≡ part ++ rest → n ≤ length part
    → (taken ++ take n part) ++ drop n left ≡ image
taken_in_order taken left image part rest n t e h =
    append_assoc taken (take n part) (drop n left)
    ∙ ap (λ (l : List ℕ). taken ++ (l ++ drop n left)) (sym (ap (take n) e ∙ take-append-le n part rest h))
    ∙ ap (λ (l : List ℕ). taken ++ l) (take-append-drop n left) ∙ t

fits : (t l b i p q : ℕ) → b ≡ t + l → b ≡ i → l ≡ p + q → i ≤ longest → t + p ≤ longest
fits t l b i p q a c d e = omega arith

module _ (area : ℕ) (image : List ℕ) where
  -- his calls are any calls, and what was taken and what is left are the image
  pub image_in_order : (m : MaskRomOperation) (left : List ℕ) (ts : List Transfer) → Reached area image m left ts
      → (taken : List ℕ) × Called area m taken ts × (taken ++ left ≡ image)
  image_in_order _ _ _ (starts m e) = ([], made m e, refl)
  image_in_order _ _ _ (hands m left ts part rest before now r a d e p g) =
      let c = image_in_order m left ts d in
      let few : taken_by a ≤ length part = few_of (block_size - waiting m) (length part) (taken_by a) (taken_is m part before now r p a g) in
      (c.0 ++ take (taken_by a) part, taking m c.0 ts part before now r a c.1 p g, taken_in_order c.0 left image part rest (taken_by a) c.2 e few)
  image_in_order _ _ _ (closes m left ts before now r a d e p g) =
      let c = image_in_order m left ts d in (c.0, closing m c.0 ts before now r a c.1 p g, c.2)
  image_in_order _ _ _ (part_refused m left ts part before now r n vs d p g) =
      let c = image_in_order m left ts d in (c.0, no_part m c.0 ts part before now r n vs c.1 p g, c.2)
  image_in_order _ _ _ (close_refused m left ts before now r n vs d p g) =
      let c = image_in_order m left ts d in (c.0, no_closing m c.0 ts before now r n vs c.1 p g, c.2)

  -- the image is shut only once nothing is left
  shut_at_the_end : (m : MaskRomOperation) (left : List ℕ) (ts : List Transfer) → Reached area image m left ts → closed m.steps ≡ true → left ≡ []
  unfolding closed
  shut_at_the_end _ _ _ (starts m e) c = true_not_false (sym c ∙ ap (λ (x : MaskRomOperation). closed x.steps) e)
  shut_at_the_end _ _ _ (hands m left ts part rest before now r a d e p g) c =
      true_not_false (sym c ∙ ap closed (part_keeps m part before now r p a g) ∙ part_unshut m part before now r p a g)
  shut_at_the_end _ _ _ (closes m left ts before now r a d e p g) c = e
  shut_at_the_end _ _ _ (part_refused m left ts part before now r n vs d p g) c =
      shut_at_the_end m left ts d
      (sym (ap (λ (x : MaskRomOperation). closed x.steps) (refused_stays (part_told r.step) r.next m before now (part_step m part (length before)) n vs p g)) ∙ c)
  shut_at_the_end _ _ _ (close_refused m left ts before now r n vs d p g) c =
      shut_at_the_end m left ts d
      (sym (ap (λ (x : MaskRomOperation). closed x.steps) (refused_stays (step_told r.step) r.next m before now (close_step m (length before)) n vs p g)) ∙ c)

  pub open_while_left : (m : MaskRomOperation) (left : List ℕ) (ts : List Transfer) → Reached area image m left ts → 0 < length left → closed m.steps ≡ false
  open_while_left m left ts d h =
      on_test (closed m.steps)
      (λ c. absurd (let z : length left ≡ 0 = ap length (shut_at_the_end m left ts d c) in omega arith))
      (λ c. c)

  -- the finish is answered only where nothing is left
  pub finish_means_all : (m : MaskRomOperation) (left : List ℕ) (ts : List Transfer) (before now : List ℕ) (r : CloseStepped) → Reached area image m left ts
      → CloseMeets r m before now → step_told r.step ≡ given finish → left ≡ []
  unfolding closed
  finish_means_all m left ts before now r d p g = shut_at_the_end m left ts d (ap closed (finish_done m before now r p g))

  -- what was taken is then the image
  all_taken : (m : MaskRomOperation) (left : List ℕ) (ts : List Transfer) (before now : List ℕ) (r : CloseStepped) → (d : Reached area image m left ts)
      → CloseMeets r m before now → step_told r.step ≡ given finish → (image_in_order m left ts d).0 ≡ image
  all_taken m left ts before now r d p g =
      let c = image_in_order m left ts d in
      sym (append-nil c.0) ∙ ap (λ (l : List ℕ). c.0 ++ l) (sym (finish_means_all m left ts before now r d p g)) ∙ c.2

  -- DEMAND 3, for an image: the transfers seen are those of the upload's bytes ..
  pub any_caller : (ts : List Transfer) → Finishes area image ts → ts ≡ transfers_of area image
  any_caller _ (finishes m left ts before now r d p g) =
      let c = image_in_order m left ts d in
      whatever_was_taken area c.0 ts (uploaded m c.0 ts before now r c.1 p g) ∙ ap (transfers_of area) (all_taken m left ts before now r d p g)

  -- with an image that is too long nobody comes to the finish
  pub finished_fits : (ts : List Transfer) → Finishes area image ts → length image ≤ longest
  finished_fits _ (finishes m left ts before now r d p g) =
      let c = image_in_order m left ts d in
      subst (λ (l : List ℕ). length l ≤ longest) (all_taken m left ts before now r d p g) (counts_the_taken area m c.0 ts c.1).1

  -- .. and so those of the whole upload
  pub as_the_whole_upload : (ts : List Transfer) (out : List ℕ) → Finishes area image ts → block_size ≤ length out
      → drive_whole (total (length image) / block_size + 2) area image out ≡ ended ts
  as_the_whole_upload ts out f h = whole_image area image out (finished_fits ts f) h ∙ ap ended (sym (any_caller ts f))

  seen_by : (m : MaskRomOperation) (taken left : List ℕ) (ts : List Transfer) → Sent area m taken ts → taken ++ left ≡ image
      → (closed m.steps ≡ true → left ≡ []) → (later : List Transfer) × (ts ++ later ≡ transfers_of area image)
  seen_by m taken left ts (unshut m₁ taken₁ ts₁ o f) t e = (due m₁ left, f left ∙ ap (transfers_of area) t)
  seen_by m taken left ts (shut m₁ taken₁ ts₁ us c s f) t e =
      (us, f ∙ ap (transfers_of area) (sym (append-nil taken₁) ∙ ap (λ (l : List ℕ). taken₁ ++ l) (sym (e c)) ∙ t))

  -- at any time before, what he has seen is what that list begins with
  pub seen_so_far : (m : MaskRomOperation) (left : List ℕ) (ts : List Transfer) → Reached area image m left ts
      → (later : List Transfer) × (ts ++ later ≡ transfers_of area image)
  seen_so_far m left ts d =
      let c = image_in_order m left ts d in
      seen_by m c.0 left ts (sent_so area m c.0 ts c.1) c.2 (shut_at_the_end m left ts d)

  -- none of his calls is refused that has an output of 4,096 bytes, for an image of at most 4,294,967,295: closing steps never (`closing_not_refused`),
  -- and no slice that begins what is left, before the image is shut
  pub slice_not_refused : (m : MaskRomOperation) (left : List ℕ) (ts : List Transfer) (part rest before now : List ℕ) (r : PartStepped)
      → Reached area image m left ts → length image ≤ longest → closed m.steps ≡ false → left ≡ part ++ rest → PartMeets r m part before now
      → block_size ≤ length before → (a : Handed) × (part_told r.step ≡ given a)
  slice_not_refused m left ts part rest before now r d l c e p h =
      let t = image_in_order m left ts d in
      let n = length-append t.0 left in
      let k = ap length t.2 in
      let w = ap length e ∙ length-append part rest in
      caller.part_not_refused area m t.0 ts part before now r t.1 c (fits (length t.0) (length left) (length (t.0 ++ left)) (length image) (length part) (length rest) n k w l) p h

  -- and those that take a byte at least are no more than the image has bytes
  pub image_calls_at_most : (m : MaskRomOperation) (left : List ℕ) (ts : List Transfer) (d : Reached area image m left ts)
      → let c = image_in_order m left ts d in taking_calls m c.0 ts c.1 + length left ≤ length image
  image_calls_at_most m left ts d =
      let c = image_in_order m left ts d in
      let n = length-append c.0 left in
      let k = ap length c.2 in
      let t = caller.taking_calls_at_most area m c.0 ts c.1 in
      omega arith
