-- What a part-wise upload has still to send, whatever it has taken: the bytes that wait, those that come, and what follows the image.
use Prim.Native.Nat.{ℕ, zero, suc, ◌+◌, ◌-◌, ◌%◌, ◌<◌, ◌≤◌, min}
use mathlib.Core.Path.{◌≡◌, refl, ap, sym, ◌∙◌, subst}
use mathlib.Core.List.{List, [], ◌∷◌, ◌++◌, map, flatten, append_assoc}
use native.Mathlib.Omega.{arith}
use native.Mathlib.Decide.{dec_lt}
use lib.ListN.{length, take, drop, length-append, length-take, length-drop, length-map, take-append-drop}
use lib.Seq.{length-take-le, take_at}
use Rattle.crc.specs.Check.{crc_over}
use Rattle.promise.specs.Told.{given}
use Rattle.promise.specs.Bytes.{front}
use Rattle.maskrom_transfer.specs.declared.MaskRomSteps.TheVariants.{Writing}
use Rattle.maskrom.specs.declared.MaskRomOperation.{MaskRomOperation}
use Rattle.maskrom.specs.Answers.{longest, control, took, filled}
use Rattle.theorems.specs.UploadBytes.{cut}
use Rattle.promise.specs.Does.{does, said, sent, after}
use Rattle.maskrom.specs.PartWise.{waiting, held, closed, holding, takes, part_step, close_step}
use Rattle.maskrom_transfer.proofs.Lists.{take_min}
use Rattle.maskrom.proofs.Lists.{filled_length}
use Rattle.maskrom.proofs.Writes.{front_seen}
use Rattle.maskrom.proofs.Cases.{part_takes, takes_full, takes_some}
use Rattle.theorems.specs.PartDriver.{Transfer, transfer, Drive, ended, sending, or_again, on_part, hand, hand_all, step_through}
use Rattle.theorems.proofs.CutIntoTransfers.{cut_block, cut_many}
use Rattle.crc.proofs.Laws.{over_empty}
use Rattle.theorems.proofs.BehindTheImage.{ending, regroup, ending_same, ending_few}
use Rattle.theorems.proofs.StepsToFinish.{Sends, enough, front_room}
use Rattle.theorems.proofs.ClosingSends.{close_sends}

-- not closed yet, with a whole block
pub record Open (m : MaskRomOperation) : Type 0 where
  pub writes_on : m.steps ≡ Writing
  pub block_long : length m.block ≡ 4096

-- the bytes that are to be sent yet where `xs` are to come, and their transfers
unfoldable pub left : MaskRomOperation → List ℕ → List ℕ
left m xs = held m ++ (xs ++ ending (crc_over m.crc xs) (m.taken + length xs))

abbrev pub due : MaskRomOperation → List ℕ → List Transfer
due m xs = map (transfer m.area) (cut (left m xs))

module _ (m : MaskRomOperation) (o : Open m) where
  pub held_long : length (held m) ≡ waiting m
  held_long = length-take-le (waiting m) m.block (omega (arith, o.block_long))

  module _ (ys zs : List ℕ) where
    -- bytes that are taken leave the rest as it was
    left_taken : left m (ys ++ zs) ≡ (held m ++ ys) ++ (zs ++ ending (crc_over (crc_over m.crc ys) zs) (m.taken + length ys + length zs))
    unfolding left
    left_taken =
        let n : m.taken + length (ys ++ zs) ≡ m.taken + length ys + length zs = simp length-append (omega arith) in
        let r = zs ++ ending (crc_over (crc_over m.crc ys) zs) (m.taken + length ys + length zs) in
        rw (n, regroup m.crc (m.taken + length ys + length zs) ys zs) (sym (append_assoc (held m) ys r))

    pub still_open : waiting m + length ys ≤ 4096 → Open (holding m ys)
    still_open h = record {
      writes_on = o.writes_on;
      block_long = simp (length-append, length-drop) (omega (arith, held_long, o.block_long));
    }

    held_some : waiting m + length ys < 4096 → held (holding m ys) ≡ held m ++ ys
    held_some h =
        let d = drop (waiting m + length ys) m.block in
        let n : length (held m ++ ys) ≡ (m.taken + length ys) % 4096 = simp length-append (omega (arith, held_long)) in
        ap (take ((m.taken + length ys) % 4096)) (sym (append_assoc (held m) ys d)) ∙ take_at (held m ++ ys) d ((m.taken + length ys) % 4096) n

    held_none : waiting m + length ys ≡ 4096 → held (holding m ys) ≡ []
    held_none e =
        let n : (m.taken + length ys) % 4096 ≡ 0 = omega arith in
        ap (λ (k : ℕ). take k (holding m ys).block) n

    -- what waits behind the bytes taken
    abbrev rest : List ℕ
    rest = zs ++ ending (crc_over (crc_over m.crc ys) zs) (m.taken + length ys + length zs)

    pub due_some : waiting m + length ys < 4096 → due m (ys ++ zs) ≡ due (holding m ys) zs
    unfolding left
    due_some h = ap (λ (l : List ℕ). map (transfer m.area) (cut l)) (left_taken ∙ ap (λ (l : List ℕ). l ++ rest) (sym (held_some h)))

    pub due_full : waiting m + length ys ≡ 4096 → due m (ys ++ zs) ≡ transfer m.area (held m ++ ys) ∷ due (holding m ys) zs
    unfolding left
    due_full e =
        ap (map (transfer m.area))
        (ap cut left_taken ∙ cut_block (held m ++ ys) rest (filled_length m.block (waiting m) ys o.block_long e)
        ∙ ap (λ (l : List ℕ). (held m ++ ys) ∷ cut (l ++ rest)) (sym (held_none e)))

-- one call in the driver
module _ (go : MaskRomOperation → List ℕ → Drive) (k : ℕ) (m m' : MaskRomOperation) (xs out : List ℕ) (n : ℕ) where
  hand_some : part_step m xs (length out) ≡ given (does (took n) [] m')
      → hand (suc k) m xs out go ≡ or_again (drop n xs) (go m' out) (hand k m' (drop n xs) out go)
  unfolding hand on_part said sent after
  hand_some e = rw e

  hand_full : (area : ℕ) (b : List ℕ) → part_step m xs (length out) ≡ given (does (filled n (control area (length b))) b m')
      → hand (suc k) m xs out go ≡ sending (transfer area b) (or_again (drop n xs) (go m' (front b out)) (hand k m' (drop n xs) (front b out) go))
  unfolding hand on_part said sent after
  hand_full area b e = rw (e, front_seen b out)

-- what comes after the parts, in the driver
module _ (go : MaskRomOperation → List ℕ → Drive) (qs : List ℕ)
    (going : (m : MaskRomOperation) (out : List ℕ) → Open m → 4096 ≤ length out → m.taken + length qs ≤ longest → go m out ≡ ended (due m qs)) where
  again : (k : ℕ) (m : MaskRomOperation) (zs out : List ℕ)
      → ((x : ℕ) (xs : List ℕ) → zs ≡ x ∷ xs → hand k m zs out go ≡ ended (due m (zs ++ qs)))
      → Open m → 4096 ≤ length out → m.taken + (length zs + length qs) ≤ longest
      → or_again zs (go m out) (hand k m zs out go) ≡ ended (due m (zs ++ qs))
  unfolding or_again
  again k m [] out more o h l = going m out o h (omega arith)
  again k m (z ∷ zs) out more o h l = more z zs refl

  -- one call of the driver, given what comes of the calls after it
  module _ (k : ℕ) (later : (m : MaskRomOperation) (xs out : List ℕ) → Open m → 4096 ≤ length out → m.taken + (length xs + length qs) ≤ longest
      → length xs < k → hand k m xs out go ≡ ended (due m (xs ++ qs)))
      (m : MaskRomOperation) (xs out : List ℕ) (o : Open m) (h : 4096 ≤ length out) (l : m.taken + (length xs + length qs) ≤ longest)
      (f : length xs < suc k) where
    abbrev ys : List ℕ
    ys = take (4096 - waiting m) xs

    abbrev zs : List ℕ
    zs = drop (length ys) xs

    many : length ys ≡ min (4096 - waiting m) (length xs)
    many = length-take (4096 - waiting m) xs

    fewer : length zs ≡ length xs - length ys
    fewer = length-drop (length ys) xs

    both : xs ++ qs ≡ ys ++ (zs ++ qs)
    both =
        let again = ap (λ (n : ℕ). take n xs) many ∙ take_min (4096 - waiting m) xs in
        ap (λ (l : List ℕ). l ++ qs) (sym (ap (λ (l : List ℕ). l ++ zs) (sym again) ∙ take-append-drop (length ys) xs)) ∙ append_assoc ys zs qs

    steps : part_step m xs (length out) ≡ given (takes m ys)
    unfolding closed
    steps = part_takes m xs (length out) h (ap closed o.writes_on) (omega arith)

    next : (now : List ℕ) → 4096 ≤ length now
        → or_again zs (go (holding m ys) now) (hand k (holding m ys) zs now go) ≡ ended (due (holding m ys) (zs ++ qs))
    next now r =
        let u : waiting m + length ys ≤ 4096 = omega (arith, many) in
        let Open-next = still_open m o ys zs u in
        let fits : m.taken + length ys + (length zs + length qs) ≤ longest = omega (arith, many, fewer) in
        again k (holding m ys) zs now
        (λ x rest e. later (holding m ys) zs now Open-next r fits (omega (arith, many, fewer, ap length e))) Open-next r fits

    by_room : Dec (waiting m + length ys < 4096) → hand (suc k) m xs out go ≡ ended (due m (xs ++ qs))
    unfolding sending
    by_room (yes s) =
        hand_some go k m (holding m ys) xs out (length ys) (steps ∙ ap given (takes_some m ys s))
        ∙ next out h
        ∙ ap ended (sym (due_some m o ys (zs ++ qs) s) ∙ ap (due m) (sym both))
    by_room (no s) =
        let e : waiting m + length ys ≡ 4096 = omega (arith, many) in
        let b = held m ++ ys in
        let n : length b ≡ 4096 = filled_length m.block (waiting m) ys o.block_long e in
        hand_full go k m (holding m ys) xs out (length ys) m.area b
        (steps ∙ ap given (takes_full m ys e) ∙ ap (λ (x : ℕ). given (does (filled (length ys) (control m.area x)) b (holding m ys))) (sym n))
        ∙ ap (sending (transfer m.area b)) (next (front b out) (front_room b out (omega arith) h))
        ∙ ap ended (sym (due_full m o ys (zs ++ qs) e) ∙ ap (due m) (sym both))

    hand_once : hand (suc k) m xs out go ≡ ended (due m (xs ++ qs))
    hand_once = by_room (dec_lt (waiting m + length ys) 4096)

  pub hand_ends : (k : ℕ) (m : MaskRomOperation) (xs out : List ℕ) → Open m → 4096 ≤ length out → m.taken + (length xs + length qs) ≤ longest
      → length xs < k → hand k m xs out go ≡ ended (due m (xs ++ qs))
  hand_ends zero m xs out o h l f = absurd (omega arith)
  hand_ends (suc k) m xs out o h l f = hand_once k (λ m' zs now. hand_ends k m' zs now) m xs out o h l f

-- nothing more is to come
module _ (m : MaskRomOperation) (o : Open m) where
  abbrev behind : List ℕ
  behind = held m ++ ending m.crc (length (held m))

  closing_left : behind ≡ left m []
  unfolding left
  closing_left =
      ap (λ (l : List ℕ). held m ++ l)
      (ending_same m.crc (length (held m)) (m.taken + 0) (omega (arith, held_long m o))
      ∙ ap (λ (c : ℕ). ending c (m.taken + 0)) (sym (over_empty m.crc)))

  pub close_due : Sends close_step m (due m [])
  close_due =
      let short : length (held m) < 4096 = omega (arith, held_long m o) in
      subst (λ (l : List ℕ). Sends close_step m (map (transfer m.area) (cut l))) closing_left (close_sends m o.writes_on short)

  pub two_at_most : length (due m []) < 3
  two_at_most =
      let bs = behind in
      subst (λ (l : List ℕ). length (map (transfer m.area) (cut l)) < 3) closing_left
      (omega
      (arith, length-map (cut bs) (transfer m.area), cut_many bs, held_long m o, length-append (held m) (ending m.crc (length (held m))), ending_few m.crc (length (held m))))

  close_ends : (out : List ℕ) → 4096 ≤ length out → step_through close_step 3 m out ≡ ended (due m [])
  close_ends out h = enough close_step 3 m (due m []) out close_due h two_at_most

-- any list of parts, handed over to a record that has taken anything
pub parts_end : (parts : List (List ℕ)) (m : MaskRomOperation) (out : List ℕ) → Open m → 4096 ≤ length out
    → m.taken + length (flatten parts) ≤ longest
    → hand_all parts m out (λ (m' : MaskRomOperation) (now : List ℕ). step_through close_step 3 m' now) ≡ ended (due m (flatten parts))
unfolding hand_all flatten
parts_end [] m out o h l = close_ends m o out h
parts_end (part ∷ parts) m out o h l =
    let n : m.taken + (length part + length (flatten parts)) ≤ longest = omega (arith, l, length-append part (flatten parts)) in
    hand_ends (λ (m' : MaskRomOperation) (now : List ℕ). hand_all parts m' now (λ (m'' : MaskRomOperation) (then : List ℕ). step_through close_step 3 m'' then)) (flatten parts)
    (λ m' now o' h' l'. parts_end parts m' now o' h' l') (length part + 1) m part out o h n (omega arith)
