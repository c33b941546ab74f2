-- The driver that hands over lists of parts, and again what was not taken of each, is one of those callers: whatever it ends with is what he has seen.
use Prim.Native.Nat.{ℕ, zero, suc, ◌+◌, ◌≤◌}
use mathlib.Core.Path.{◌≡◌, refl, ap, sym, ◌∙◌, subst}
use mathlib.Core.List.{List, [], ◌∷◌, ◌++◌, flatten, append-nil, append_assoc}
use native.Mathlib.Omega.{arith}
use lib.ListN.{length, drop, replicate, length-replicate}
use lib.Seq.{drop-append-le}
use Rattle.promise.specs.Told.{Told, given, refused}
use Rattle.promise.specs.Bytes.{front}
use Rattle.promise.specs.Does.{Does, does, said, sent, after}
use Rattle.maskrom.specs.declared.MaskRomOperation.{MaskRomOperation}
use Rattle.maskrom.specs.declared.PartStep.TheVariants as part
use Rattle.maskrom.specs.declared.UploadStep.TheVariants as upload
use Rattle.maskrom.specs.Answers.{longest, Handed, took, filled, Asks, writes, finish, part_told, step_told}
use Rattle.maskrom.specs.PartWise.{fresh, part_step, close_step}
use Rattle.maskrom.specs.Code.{parted, closed_with}
use Rattle.theorems.specs.PartDriver.{Transfer, Drive, ended, stopped, unending, sending, seen, on_step, step_through, or_again, on_part, hand, hand_all, drive_parts, transfers_of}
use Rattle.maskrom.specs.Calls.{PartMeets, CloseMeets}
use Rattle.theorems.specs.AnyCaller.{taken_by, handed_seen, asked_seen, Reached, starts, hands, closes, Finishes, finishes}
use Rattle.theorems.proofs.AnyCut.{any_cut}
use Rattle.theorems.proofs.OneCall.{taken_is}
use Rattle.std.specs.Prelude.{Result}
use Rattle.maskrom.specs.declared.PartStep.{PartStep}
use Rattle.maskrom.specs.declared.PartError.{PartError}
use Rattle.std.specs.declared.result.Result.TheVariants.{Ok}

-- a driving that ended was neither refused nor left unended
stopped_not : {C : Type 0} (n : ℕ) (us : List Transfer) → stopped n ≡ ended us → C
stopped_not n us e = absurd (let z : ◌≡◌ {A = ℕ} 0 1 = cc in omega arith)

unending_not : {C : Type 0} (us : List Transfer) → unending ≡ ended us → C
unending_not us e = absurd (let z : ◌≡◌ {A = ℕ} 0 1 = cc in omega arith)

same_ended : (ts us : List Transfer) → ended ts ≡ ended us → ts ≡ us
same_ended ts us e = cc

sent_first : (t : Transfer) (x : Drive) (us : List Transfer) → sending t x ≡ ended us → (vs : List Transfer) × (x ≡ ended vs) × (us ≡ t ∷ vs)
unfolding sending
sent_first t (ended ts) us e = (ts, refl, sym (same_ended (t ∷ ts) us e))
sent_first t (stopped n) us e = stopped_not n us e
sent_first t unending us e = unending_not us e

module _ (area : ℕ) (image : List ℕ) where
  -- one closing step, by what it asks for, given what comes of those after it
  module _ (k : ℕ) (more : (m : MaskRomOperation) (out : List ℕ) (ts us : List Transfer) → Reached area image m [] ts → step_through close_step k m out ≡ ended us
      → Finishes area image (ts ++ us))
      (m : MaskRomOperation) (out : List ℕ) (ts us : List Transfer) (d : Reached area image m [] ts) where
    by_asked : (a : Asks) (bs : List ℕ) (next : MaskRomOperation) → close_step m (length out) ≡ given (does a bs next)
        → on_step (given a) (front bs out) (step_through close_step k next (front bs out)) ≡ ended us → Finishes area image (ts ++ us)
    unfolding on_step said sent after step_told asked_seen
    by_asked (writes c) bs next e f =
        let now = front bs out in
        let r = closed_with (Ok (upload.WriteControl c)) next in
        let meets : CloseMeets r m out now = record { tells = sym (ap said e); next = sym (ap (after m) e); leaves = sym (ap (λ (t : Told (Does Asks MaskRomOperation)). front (sent t) out) e) } in
        let first = sent_first (seen c now) (step_through close_step k next now) us f in
        subst (Finishes area image) (append_assoc ts (seen c now ∷ []) first.0 ∙ ap (λ (x : List Transfer). ts ++ x) (sym first.2))
        (more next now (ts ++ (seen c now ∷ [])) first.0 (closes m [] ts out now r (writes c) d refl meets refl) first.1)
    by_asked finish bs next e f =
        let now = front bs out in
        let r = closed_with (Ok upload.Finished) next in
        let meets : CloseMeets r m out now = record { tells = sym (ap said e); next = sym (ap (after m) e); leaves = sym (ap (λ (t : Told (Does Asks MaskRomOperation)). front (sent t) out) e) } in
        subst (Finishes area image) (sym (append-nil ts) ∙ ap (λ (x : List Transfer). ts ++ x) (same_ended [] us f)) (finishes m [] ts out now r d meets refl)

    by_close : (t : Told (Does Asks MaskRomOperation)) → close_step m (length out) ≡ t
        → on_step (said t) (front (sent t) out) (step_through close_step k (after m t) (front (sent t) out)) ≡ ended us → Finishes area image (ts ++ us)
    unfolding on_step said sent after
    by_close (given x) e f = by_asked x.says x.sends x.becomes e f
    by_close (refused n vs) e f = stopped_not n us f

  closings_call : (k : ℕ) (m : MaskRomOperation) (out : List ℕ) (ts us : List Transfer) → Reached area image m [] ts → step_through close_step k m out ≡ ended us
      → Finishes area image (ts ++ us)
  unfolding step_through
  closings_call zero m out ts us d e = unending_not us e
  closings_call (suc k) m out ts us d e = by_close k (λ m' out' ts' us'. closings_call k m' out' ts' us') m out ts us d (close_step m (length out)) refl e

  -- what comes after some parts, `qs` being left then
  abbrev GoesOn : List ℕ → (MaskRomOperation → List ℕ → Drive) → Type 0
  GoesOn qs go =
      (m : MaskRomOperation) (out : List ℕ) (ts us : List Transfer) → Reached area image m qs ts → go m out ≡ ended us → Finishes area image (ts ++ us)

  module _ (qs : List ℕ) (go : MaskRomOperation → List ℕ → Drive) (going : GoesOn qs go) where
    -- one call, by what it is told, given what comes of those after it
    module _ (k : ℕ) (more : (m : MaskRomOperation) (xs out : List ℕ) (ts us : List Transfer) → Reached area image m (xs ++ qs) ts → hand k m xs out go ≡ ended us
        → Finishes area image (ts ++ us)) where
      again : (m : MaskRomOperation) (zs out : List ℕ) (ts us : List Transfer) → Reached area image m (zs ++ qs) ts
          → or_again zs (go m out) (hand k m zs out go) ≡ ended us → Finishes area image (ts ++ us)
      unfolding or_again
      again m [] out ts us d e = going m out ts us d e
      again m (z ∷ zs) out ts us d e = more m (z ∷ zs) out ts us d e

      module _ (m : MaskRomOperation) (xs out : List ℕ) (ts us : List Transfer) (d : Reached area image m (xs ++ qs) ts) where
        arrived : (s : Result PartStep PartError) (a : Handed) (now : List ℕ) (next : MaskRomOperation) → part_told s ≡ given a → PartMeets (parted s next) m xs out now
            → Reached area image next (drop (taken_by a) xs ++ qs) (ts ++ handed_seen a now)
        arrived s a now next g meets =
            let few : taken_by a ≤ length xs = omega (arith, taken_is m xs out now (parted s next) meets a g) in
            subst (λ (l : List ℕ). Reached area image next l (ts ++ handed_seen a now)) (drop-append-le (taken_by a) xs qs few)
            (hands m (xs ++ qs) ts xs qs out now (parted s next) a d refl meets g)

        by_handed : (a : Handed) (bs : List ℕ) (next : MaskRomOperation) → part_step m xs (length out) ≡ given (does a bs next)
            → on_part (given a) xs (front bs out) (λ rest. or_again rest (go next (front bs out)) (hand k next rest (front bs out) go)) ≡ ended us
            → Finishes area image (ts ++ us)
        unfolding on_part said sent after part_told handed_seen taken_by
        by_handed (took n) bs next e f =
            let now = front bs out in
            let meets : PartMeets (parted (Ok (part.Taken n)) next) m xs out now = record { tells = sym (ap said e); next = sym (ap (after m) e); leaves = sym (ap (λ (t : Told (Does Handed MaskRomOperation)). front (sent t) out) e) } in
            again next (drop n xs) now ts us
            (subst (λ (l : List Transfer). Reached area image next (drop n xs ++ qs) l) (append-nil ts) (arrived (Ok (part.Taken n)) (took n) now next refl meets)) f
        by_handed (filled n c) bs next e f =
            let now = front bs out in
            let meets : PartMeets (parted (Ok (part.WriteControl n c)) next) m xs out now = record { tells = sym (ap said e); next = sym (ap (after m) e); leaves = sym (ap (λ (t : Told (Does Handed MaskRomOperation)). front (sent t) out) e) } in
            let first = sent_first (seen c now) (or_again (drop n xs) (go next now) (hand k next (drop n xs) now go)) us f in
            subst (Finishes area image) (append_assoc ts (seen c now ∷ []) first.0 ∙ ap (λ (x : List Transfer). ts ++ x) (sym first.2))
            (again next (drop n xs) now (ts ++ (seen c now ∷ [])) first.0 (arrived (Ok (part.WriteControl n c)) (filled n c) now next refl meets) first.1)

        by_part : (t : Told (Does Handed MaskRomOperation)) → part_step m xs (length out) ≡ t
            → on_part (said t) xs (front (sent t) out) (λ rest. or_again rest (go (after m t) (front (sent t) out)) (hand k (after m t) rest (front (sent t) out) go)) ≡ ended us
            → Finishes area image (ts ++ us)
        unfolding on_part said sent after
        by_part (given x) e f = by_handed x.says x.sends x.becomes e f
        by_part (refused n vs) e f = stopped_not n us f

    part_calls : (k : ℕ) (m : MaskRomOperation) (xs out : List ℕ) (ts us : List Transfer) → Reached area image m (xs ++ qs) ts → hand k m xs out go ≡ ended us
        → Finishes area image (ts ++ us)
    unfolding hand
    part_calls zero m xs out ts us d e = unending_not us e
    part_calls (suc k) m xs out ts us d e = by_part k (λ m' xs' out' ts' us'. part_calls k m' xs' out' ts' us') m xs out ts us d (part_step m xs (length out)) refl e

  parts_call : (parts : List (List ℕ)) → GoesOn (flatten parts) (λ (m : MaskRomOperation) (out : List ℕ). hand_all parts m out (λ m' now. step_through close_step 3 m' now))
  unfolding hand_all flatten
  parts_call [] m out ts us d e = closings_call 3 m out ts us d e
  parts_call (xs ∷ parts) m out ts us d e =
      part_calls (flatten parts) (λ (m' : MaskRomOperation) (now : List ℕ). hand_all parts m' now (λ m'' then. step_through close_step 3 m'' then)) (parts_call parts) (length xs + 1) m xs out ts us d e

-- every driving that ends, with parts of any image and any output
pub driver_is_a_caller : (area : ℕ) (parts : List (List ℕ)) (out : List ℕ) (ts : List Transfer) → drive_parts area parts out ≡ ended ts
    → Finishes area (flatten parts) ts
unfolding drive_parts
driver_is_a_caller area parts out ts e =
    parts_call area (flatten parts) parts (fresh area) out [] ts (starts (fresh area) refl) e

-- so there is a caller who is answered the finish, for every image
pub someone_finishes : (area : ℕ) (image : List ℕ) → length image ≤ longest → Finishes area image (transfers_of area image)
unfolding flatten
someone_finishes area image l =
    let one : flatten (image ∷ []) ≡ image = append-nil image in
    let out = replicate {A = ℕ} 4096 0 in
    let long : 4096 ≤ length out = omega (arith, length-replicate {A = ℕ} 4096 0) in
    subst (λ (x : List ℕ). Finishes area x (transfers_of area image)) one
    (driver_is_a_caller area (image ∷ []) out (transfers_of area image) (any_cut area image (image ∷ []) out one l long))
