-- Part-wise: what is known of a record once the bytes p are taken, shown of every start and kept by every call, refused or not.
use Prim.Native.Nat.{ℕ, ◌+◌, ◌-◌, ◌%◌, ◌<◌, ◌≤◌, min}
use mathlib.Core.Path.{◌≡◌, refl, ap, sym, subst, ◌∙◌}
use mathlib.Core.Bool.{false}
use mathlib.Core.List.{List, [], ◌∷◌, ◌++◌, append_assoc, append-nil}
use native.Mathlib.Omega.{arith}
use native.Mathlib.Decide.{ℕ_discrete, dec_lt}
use borrow.Author.Tests.{eq-eqb, ne_eqb}
use lib.ListN.{length, take, drop, length-append, length-take, length-drop, length-replicate, drop_of_length-le}
use lib.Seq.{length-take-le, take_at, drop-append-le}
use Rattle.promise.specs.Told.{Told, given}
use Rattle.promise.specs.Bytes.{front}
use Rattle.promise.specs.Does.{Does, said, sent, after}
use Rattle.crc.specs.Check.{start, crc_over}
use Rattle.maskrom_transfer.specs.declared.MaskRomSteps.{MaskRomSteps}
use Rattle.maskrom_transfer.specs.declared.MaskRomSteps.TheVariants.{Writing, Check, Dummy, Done}
use Rattle.maskrom_transfer.specs.Moves.{block_size, Moves, writing, moves_at}
use Rattle.maskrom_transfer.proofs.Cases.{writing_pad, writing_dummy, writing_last}
use Rattle.maskrom_transfer.proofs.Lists.{take_min}
use Rattle.maskrom.specs.declared.MaskRomOperation.{MaskRomOperation}
use Rattle.maskrom.specs.declared.Control.{Control}
use Rattle.maskrom.specs.declared.PartStepped.{PartStepped}
use Rattle.maskrom.specs.declared.CloseStepped.{CloseStepped}
use Rattle.maskrom.specs.Answers.{longest, control, Handed, took, filled, Asks, part_told}
use Rattle.maskrom.specs.PartWise.{fresh, waiting, held, closed, holding, takes}
use Rattle.maskrom.specs.Calls.{PartMeets, CloseMeets, count_of, taken_of, no_calls, part_call, close_call}
use Rattle.maskrom.specs.Made.{last_of, pad, padded, covers, PartPlace, PartAfter, PartMade}
use Rattle.maskrom.proofs.Lists.{take_front, filled_length}
use Rattle.maskrom.proofs.Cases.{takes_full, takes_some}
use Rattle.crc.proofs.Laws.{over_empty, over_append}
use Rattle.maskrom.proofs.Branches.{clash, part_either, close_either}

-- the pad is there after 4,095 bytes mod 4,096 alone
pub padded_pad : (p : List ℕ) → length p % 4096 ≡ 4095 → padded p ≡ p ++ (0 ∷ [])
unfolding padded pad
padded_pad p e = rw (eq-eqb (length p % 4096) 4095 e)

pub padded_not : (p : List ℕ) → (length p % 4096 ≡ 4095 → ⊥) → padded p ≡ p
unfolding padded pad
padded_not p n = rw (ne_eqb (length p % 4096) 4095 n) (append-nil p)

pub fresh_after : (area : ℕ) → PartAfter area [] (fresh area)
unfolding covers
fresh_after area = record {
  same_area = refl;
  taken = refl;
  fits = omega arith;
  crc = sym (over_empty start);
  waits = refl;
  whole_block = length-replicate {A = ℕ} 4096 0;
  place = tt;
}

not_closed : (s : MaskRomSteps) → closed s ≡ false → s ≡ Writing
unfolding closed
not_closed Writing e = refl
not_closed Check e = absurd (let z : ◌≡◌ {A = ℕ} 0 1 = cc in omega arith)
not_closed Dummy e = absurd (let z : ◌≡◌ {A = ℕ} 0 1 = cc in omega arith)
not_closed Done e = absurd (let z : ◌≡◌ {A = ℕ} 0 1 = cc in omega arith)

module _ (area : ℕ) (p : List ℕ) (m : MaskRomOperation) (known : PartAfter area p m) where
  pub held_long : length (held m) ≡ length p % block_size
  held_long = length-take-le (waiting m) m.block (omega (arith, known.whole_block)) ∙ ap (λ (n : ℕ). n % 4096) known.taken

  -- bytes that the block has room for, taken while the image goes on
  module _ (ys : List ℕ) (writes_on : m.steps ≡ Writing) (room : waiting m + length ys ≤ 4096) (long : length p + length ys ≤ longest) where
    abbrev many : ℕ
    many = length (p ++ ys)

    held_some : waiting m + length ys < 4096 → held (holding m ys) ≡ last_of (many % 4096) (p ++ ys)
    held_some h =
        let d = drop (waiting m + length ys) m.block in
        let n : length (held m ++ ys) ≡ (m.taken + length ys) % 4096 = simp length-append (omega (arith, held_long, known.taken)) in
        let from : length p - length p % 4096 ≡ many - many % 4096 = simp length-append (omega (arith, known.taken)) in
        ap (take ((m.taken + length ys) % 4096)) (sym (append_assoc (held m) ys d))
        ∙ take_at (held m ++ ys) d ((m.taken + length ys) % 4096) n
        ∙ ap (λ (l : List ℕ). l ++ ys) known.waits
        ∙ sym (drop-append-le (length p - length p % 4096) p ys (omega arith))
        ∙ ap (λ (k : ℕ). drop k (p ++ ys)) from

    held_none : waiting m + length ys ≡ 4096 → held (holding m ys) ≡ last_of (many % 4096) (p ++ ys)
    held_none e =
        let none : (m.taken + length ys) % 4096 ≡ 0 = omega arith in
        let past : many ≤ many - many % 4096 = simp length-append (omega (arith, known.taken)) in
        ap (λ (k : ℕ). take k (holding m ys).block) none ∙ sym (drop_of_length-le (p ++ ys) past)

    held_by : Dec (waiting m + length ys < 4096) → held (holding m ys) ≡ last_of (many % 4096) (p ++ ys)
    held_by (yes h) = held_some h
    held_by (no l) = held_none (omega arith)

    holding_after : PartAfter area (p ++ ys) (holding m ys)
    unfolding covers
    holding_after = record {
      same_area = known.same_area;
      taken = ap (λ (n : ℕ). n + length ys) known.taken ∙ sym (length-append p ys);
      fits = simp length-append long;
      crc =
          ap (λ (r : ℕ). crc_over r ys) (known.crc ∙ ap (λ (s : MaskRomSteps). crc_over start (covers s p)) writes_on)
          ∙ sym (over_append start p ys)
          ∙ ap (λ (s : MaskRomSteps). crc_over start (covers s (p ++ ys))) (sym writes_on);
      waits = held_by (dec_lt (waiting m + length ys) 4096);
      whole_block = simp (length-append, length-drop, length-take) (omega (arith, known.whole_block));
      place = subst (λ (s : MaskRomSteps). PartPlace s many) (sym writes_on) tt;
    }

  -- what a part takes
  module _ (part : List ℕ) (writes_on : m.steps ≡ Writing) (long : m.taken + length part ≤ longest) where
    abbrev ys : List ℕ
    ys = take (4096 - waiting m) part

    count : length ys ≡ min (4096 - waiting m) (length part)
    count = length-take (4096 - waiting m) part

    -- the answer's count of bytes are these
    counted : take (length ys) part ≡ ys
    counted = ap (λ (n : ℕ). take n part) count ∙ take_min (4096 - waiting m) part

    taking_after : PartAfter area (p ++ ys) (holding m ys)
    taking_after = holding_after ys writes_on (omega (arith, count)) (omega (arith, count, known.taken))

    takes_by : Dec (waiting m + length ys < 4096) → PartAfter area (p ++ take (count_of (given (takes m ys).says)) part) (takes m ys).becomes
    unfolding count_of
    takes_by (yes h) = rw (takes_some m ys h, counted) taking_after
    takes_by (no l) = rw (takes_full m ys (omega (arith, count)), counted) taking_after

  -- "Parts: 20, 26, 25" keep the record, and any other takes bytes
  pub part_keeps : (r : PartStepped) (part before now : List ℕ) → PartMeets r m part before now → PartAfter area (p ++ taken_of r part) r.next
  unfolding said after count_of
  part_keeps r part before now meets =
      rw (meets.tells, meets.next)
      (part_either (λ (t : Told (Does Handed MaskRomOperation)). PartAfter area (p ++ take (count_of (said t)) part) (after m t)) m part (length before)
      (λ n values. rw (append-nil p) known)
      (λ unshut fits. takes_by part (not_closed m.steps unshut) fits (dec_lt (waiting m + length (take (4096 - waiting m) part)) 4096)))

-- the register and the place behind a closing step
record Moved (p : List ℕ) (to : Moves) : Type 0 where
  pub crc : to.crc ≡ crc_over start (covers to.steps p)
  pub place : PartPlace to.steps (length p)

module _ (p w : List ℕ) (c : ℕ) (long : length w ≡ length p % 4096) where
  writing_moved : c ≡ crc_over start p → Dec (length w < 4094) → Dec (length w ≡ 4094) → Moved p (writing c w)
  unfolding covers
  writing_moved e (yes l) d =
      rw (writing_last c w l) (record { crc = e ∙ ap (crc_over start) (sym (padded_not p (omega arith))); place = tt })
  writing_moved e (no l) (yes d) =
      rw (writing_dummy c w d) (record { crc = e ∙ ap (crc_over start) (sym (padded_not p (omega arith))); place = omega arith })
  writing_moved e (no l) (no d) =
      let n : length w ≡ 4095 = omega arith in
      rw (writing_pad c w n)
      (record {
        crc = ap (λ (x : ℕ). crc_over x (0 ∷ [])) e ∙ sym (over_append start p (0 ∷ [])) ∙ ap (crc_over start) (sym (padded_pad p (omega arith)));
        place = omega arith;
      })

  moved_at : (s : MaskRomSteps) → c ≡ crc_over start (covers s p) → Moved p (moves_at s c w)
  unfolding covers moves_at
  moved_at Writing e = writing_moved e (dec_lt (length w) 4094) (ℕ_discrete (length w) 4094)
  moved_at Check e = record { crc = e; place = tt }
  moved_at Dummy e = record { crc = e; place = tt }
  moved_at Done e = record { crc = e; place = tt }

-- a closing step takes nothing
pub close_keeps : (area : ℕ) (p : List ℕ) (m : MaskRomOperation) → PartAfter area p m
    → (r : CloseStepped) (before now : List ℕ) → CloseMeets r m before now → PartAfter area p r.next
unfolding after
close_keeps area p m known r before now meets =
    let to = moves_at m.steps m.crc (held m) in
    let moved : Moved p to = moved_at p (held m) m.crc (held_long area p m known) m.steps known.crc in
    rw meets.next
    (close_either (λ (t : Told (Does Asks MaskRomOperation)). PartAfter area p (after m t)) m (length before) known
    (record {
      same_area = known.same_area;
      taken = known.taken;
      fits = known.fits;
      crc = moved.crc;
      waits = known.waits;
      whole_block = known.whole_block;
      place = moved.place;
    }))

-- `new` makes a fresh record ..
pub new_made : (area : ℕ) (r : MaskRomOperation) → r ≡ fresh area → PartMade area [] r
new_made area r e = subst (PartMade area []) (sym e) no_calls

-- .. and all that is said of a record after the bytes p holds of every record that calls from there can make, p being what its parts took
pub part_made : (area : ℕ) (p : List ℕ) (m : MaskRomOperation) → PartMade area p m → PartAfter area p m
part_made area p m no_calls = fresh_after area
part_made area p m (part_call q here calls part r before now meets) =
    part_keeps area q here (part_made area q here calls) r part before now meets
part_made area p m (close_call q here calls r before now meets) =
    close_keeps area q here (part_made area q here calls) r before now meets

-- what holds at each place
module _ (area : ℕ) (p : List ℕ) (m : MaskRomOperation) (known : PartAfter area p m) where
  pub part_writing : m.steps ≡ Writing → m.crc ≡ crc_over start p
  unfolding covers
  part_writing e = known.crc ∙ ap (λ (s : MaskRomSteps). crc_over start (covers s p)) e

  pub part_check : m.steps ≡ Check → (length p % block_size ≡ 4095) × (m.crc ≡ crc_over start (p ++ (0 ∷ [])))
  unfolding covers
  part_check e =
      let place = subst (λ (s : MaskRomSteps). PartPlace s (length p)) e known.place in
      (place, known.crc ∙ ap (λ (s : MaskRomSteps). crc_over start (covers s p)) e ∙ ap (crc_over start) (padded_pad p place))

  pub part_dummy : m.steps ≡ Dummy → (length p % block_size ≡ 4094) × (m.crc ≡ crc_over start p)
  unfolding covers
  part_dummy e =
      let place = subst (λ (s : MaskRomSteps). PartPlace s (length p)) e known.place in
      (place, known.crc ∙ ap (λ (s : MaskRomSteps). crc_over start (covers s p)) e ∙ ap (crc_over start) (padded_not p (omega (arith, place))))

  pub part_done : m.steps ≡ Done → m.crc ≡ crc_over start (padded p)
  unfolding covers
  part_done e = known.crc ∙ ap (λ (s : MaskRomSteps). crc_over start (covers s p)) e

-- a transfer that a part sends is the last 4,096 bytes of all that was taken
module _ (area : ℕ) (p : List ℕ) (m : MaskRomOperation) (known : PartAfter area p m) where
  sends_last : (ys : List ℕ) → waiting m + length ys ≡ 4096 → held m ++ ys ≡ last_of 4096 (p ++ ys)
  sends_last ys e =
      let from : length p - length p % 4096 ≡ length (p ++ ys) - 4096 = simp length-append (omega (arith, known.taken)) in
      ap (λ (l : List ℕ). l ++ ys) known.waits
      ∙ sym (drop-append-le (length p - length p % 4096) p ys (omega arith))
      ∙ ap (λ (k : ℕ). drop k (p ++ ys)) from

  sends_by : (part before now : List ℕ) (n : ℕ) (c : Control) → let ys = take (4096 - waiting m) part in
      Dec (waiting m + length ys < 4096) → given (takes m ys).says ≡ given (filled n c) → now ≡ front (takes m ys).sends before
      → (c ≡ control area block_size) × (take block_size now ≡ last_of block_size (p ++ take n part))
  sends_by part before now n c (yes h) told leaves =
      let ys = take (4096 - waiting m) part in
      let other : ◌≡◌ {A = Told Handed} (given (took (length ys))) (given (filled n c)) = ap (λ (d : Does Handed MaskRomOperation). given d.says) (sym (takes_some m ys h)) ∙ told in
      absurd (let z : ◌≡◌ {A = ℕ} 0 1 = cc in omega arith)
  sends_by part before now n c (no l) told leaves =
      let ys = take (4096 - waiting m) part in
      let count : length ys ≡ min (4096 - waiting m) (length part) = length-take (4096 - waiting m) part in
      let counted : take (length ys) part ≡ ys = ap (λ (k : ℕ). take k part) count ∙ take_min (4096 - waiting m) part in
      let full : waiting m + length ys ≡ 4096 = omega (arith, count) in
      let e = takes_full m ys full in
      let same : ◌≡◌ {A = Told Handed} (given (filled (length ys) (control m.area 4096))) (given (filled n c)) = ap (λ (d : Does Handed MaskRomOperation). given d.says) (sym e) ∙ told in
      let size : length ys ≡ n = cc same in
      let setup : control m.area 4096 ≡ c = cc same in
      let block = held m ++ ys in
      let whole : length block ≡ 4096 = filled_length m.block (waiting m) ys known.whole_block full in (
        sym setup ∙ ap (λ (a : ℕ). control a 4096) known.same_area,
        ap (take 4096) (leaves ∙ ap (λ (d : Does Handed MaskRomOperation). front d.sends before) e)
            ∙ ap (λ (k : ℕ). take k (front block before)) (sym whole)
            ∙ take_front block before
            ∙ sends_last ys full
            ∙ ap (λ (l : List ℕ). last_of 4096 (p ++ l)) (sym counted ∙ ap (λ (k : ℕ). take k part) size),
      )

  pub full_transfer : (r : PartStepped) (part before now : List ℕ) → PartMeets r m part before now
      → (n : ℕ) (c : Control) → part_told r.step ≡ given (filled n c)
      → (c ≡ control area block_size) × (take block_size now ≡ last_of block_size (p ++ take n part))
  unfolding said sent
  full_transfer r part before now meets n c told =
      part_either
      (λ (t : Told (Does Handed MaskRomOperation)). said t ≡ given (filled n c) → now ≡ front (sent t) before
      → (c ≡ control area block_size) × (take block_size now ≡ last_of block_size (p ++ take n part)))
      m part (length before)
      (λ k values e leaves. clash (filled n c) k values (sym e))
      (λ unshut fits e leaves. sends_by part before now n c (dec_lt (waiting m + length (take (4096 - waiting m) part)) 4096) e leaves)
      (sym meets.tells ∙ told) meets.leaves
