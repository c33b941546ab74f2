-- NOR cells, byte by byte: a write sets no bit, and a byte that has one more was erased, in a block that was erased whole.
use Prim.Native.Nat.{ℕ, zero, suc, ◌%◌, ◌+◌, ◌-◌, ◌*◌, ◌/◌, ◌≤◌, ◌<◌}
use mathlib.Core.Path.{◌≡◌, refl, ap, sym, subst, ◌∙◌}
use mathlib.Core.Bool.{Bool, true, false, not}
use mathlib.Core.Logic.{◌⊎◌, inl, inr}
use mathlib.Core.List.{List, ◌++◌}
use native.Mathlib.Nat.{div-add-mod' as div-add-mod'', le-div_iff_mul-le, div-lt_iff_lt-mul, mul-le-mul_right, lt-div-mul-add, add-mul, suc-mul}
use native.Mathlib.Omega.{arith}
use lib.Arith.{bin_ind}
use lib.Bits.{bit_and, and_step, and_self}
use lib.Dec.{eqb, ltb}
use lib.ListN.{length, take, drop, get_or, replicate, length-replicate, length-drop, get_or-append}
use lib.Seq.{get_or-take, get_or-drop, get_or-append-add, length-take-le, drop_at, drop-drop}
use borrow.Author.Tests.{eqb-true, ne_eqb, ltb-false, ltb-true}
use Rattle.promise.specs.Told.{Told, given, refused}
use Rattle.promise.specs.Rules.{pick}
use Rattle.promise.specs.Bytes.{AreBytes}
use Rattle.promise.specs.Over.{over}
use Rattle.promise.proofs.Outcome.{on_test}
use Rattle.protocol_codes.specs.declared.Status.TheVariants.{SUCCESS}
use Rattle.protocol_bytes.specs.Sector.{sector_size}
use Rattle.protocol.specs.declared.CommandBlock.{CommandBlock}
use Rattle.mock_base.proofs.Fitting.{fits_sectors}
use Rattle.mock_base.specs.declared.cells.Variety.TheVariants.{Nor}
use Rattle.mock_base.specs.Flash.{flash_sectors}
use Rattle.mock_base.specs.declared.range.FlashRange.{FlashRange}
use Rattle.mock_table.specs.Turn.{EffectFits}
use Rattle.mock_table.specs.declared.outcome.Effect.{Effect}
use Rattle.mock_table.specs.declared.outcome.Effect.TheVariants.{Nothing, Fill, Store, Program, Supply, Reply}
use Rattle.mock_table.specs.Ways.{is_multiple, splits}
use Rattle.mock_table.specs.Table.{write_turn}
use Rattle.mock_table.specs.Erasing.{command_in}
use Rattle.mock_table.specs.declared.session.Session.{Session}
use Rattle.mock_table.proofs.Sane.{write_sane}
use Rattle.mock_table.proofs.Touches.{OnFlash, write_touches}
use Rattle.mock_effects.specs.Effects.{erased, programmed, cells_told, flash_after}
use Rattle.mock_effects.specs.Steps.{write_step_of, write_step_by}
use Rattle.mock_effects.specs.Cells.{GainsNone, ErasedPlace}
use Rattle.mock_effects.proofs.Lengths.{taken}
use Rattle.mock_effects.proofs.Programming.{length_programmed, bits_kept, erased_take, tells_success}

-- clearing twice is clearing once
and_again : (a b : ℕ) → bit_and a (bit_and a b) ≡ bit_and a b
and_again a =
    bin_ind (λ (n : ℕ). (b : ℕ) → bit_and n (bit_and n b) ≡ bit_and n b) (λ b. refl)
    (λ n ih b.
    let low = and_step n b in
    let half : bit_and n b / 2 ≡ bit_and (n / 2) (b / 2) = omega (arith, low) in
    let same : bit_and (n / 2) (bit_and n b / 2) ≡ bit_and (n / 2) (b / 2) = ap (bit_and (n / 2)) half ∙ ih (b / 2) in
    omega (arith, low, and_step n (bit_and n b), same)) a

-- and what gains no bit twice gains none
pub and_through : (a b c : ℕ) → bit_and a b ≡ b → bit_and b c ≡ c → bit_and a c ≡ c
and_through a =
    bin_ind (λ (n : ℕ). (b c : ℕ) → bit_and n b ≡ b → bit_and b c ≡ c → bit_and n c ≡ c)
    (λ b c e f. let z : 0 ≡ b = e in subst (λ (x : ℕ). bit_and x c ≡ c) (sym z) f)
    (λ n ih b c e f.
    let p = and_step n b in
    let q = and_step b c in
    let high₁ : bit_and (n / 2) (b / 2) ≡ b / 2 = omega (arith, p, e) in
    let high₂ : bit_and (b / 2) (c / 2) ≡ c / 2 = omega (arith, q, f) in
    let high = ih (b / 2) (c / 2) high₁ high₂ in
    omega (arith, p, q, e, f, high, and_step n c)) a

-- a byte of a buffer after bytes were put over a part of it
module _ (at : ℕ) (bytes before : List ℕ) (inside : at + length bytes ≤ length before) where
  taken_long : length (take at before) ≡ at
  taken_long = length-take-le at before (omega arith)

  pub byte_before : (i : ℕ) → i < at → get_or (over at bytes before) i 0 ≡ get_or before i 0
  unfolding over
  byte_before i h =
      let k : i < length (take at before) = omega (arith, taken_long) in
      get_or-append (take at before) (bytes ++ drop (at + length bytes) before) 0 i k ∙ get_or-take at before i 0 h

  from_there : (j : ℕ) → get_or (over at bytes before) (at + j) 0 ≡ get_or (bytes ++ drop (at + length bytes) before) j 0
  unfolding over
  from_there j =
      subst (λ (k : ℕ). get_or (take at before ++ (bytes ++ drop (at + length bytes) before)) (k + j) 0 ≡ get_or (bytes ++ drop (at + length bytes) before) j 0)
      taken_long (get_or-append-add (take at before) (bytes ++ drop (at + length bytes) before) j 0)

  pub byte_inside : (j : ℕ) → j < length bytes → get_or (over at bytes before) (at + j) 0 ≡ get_or bytes j 0
  byte_inside j h = from_there j ∙ get_or-append bytes (drop (at + length bytes) before) 0 j h

  pub byte_behind : (i : ℕ) → at + length bytes ≤ i → get_or (over at bytes before) i 0 ≡ get_or before i 0
  byte_behind i h =
      let k = i - (at + length bytes) in
      let e : at + (length bytes + k) ≡ i = omega arith in
      let f : at + length bytes + k ≡ i = omega arith in
      subst (λ (x : ℕ). get_or (over at bytes before) x 0 ≡ get_or before i 0) e
      (from_there (length bytes + k)
      ∙ get_or-append-add bytes (drop (at + length bytes) before) k 0
      ∙ get_or-drop (at + length bytes) before k 0
      ∙ ap (λ (x : ℕ). get_or before x 0) f)

-- erased cells take all that is asked of them

drop_filled : (k n : ℕ) (rest : List ℕ) → k ≤ n → drop k (replicate n erased ++ rest) ≡ replicate (n - k) erased ++ rest
drop_filled zero n rest h = let e : n ≡ n - 0 = omega arith in ap (λ (k : ℕ). replicate k erased ++ rest) e
drop_filled (suc k) zero rest h = absurd (omega arith)
drop_filled (suc k) (suc n) rest h =
    let e : n - k ≡ suc n - suc k = omega arith in drop_filled k n rest (omega arith) ∙ ap (λ (j : ℕ). replicate j erased ++ rest) e

pub taken_after_erase : (at n from : ℕ) (bytes flash : List ℕ) → at + n ≤ length flash → at ≤ from → from + length bytes ≤ at + n → AreBytes bytes
    → cells_told bytes (drop from (over at (replicate n erased) flash)) ≡ SUCCESS
unfolding over
taken_after_erase at n from bytes flash inside low high are =
    let filled = replicate n erased in
    let long : length filled ≡ n = length-replicate n erased in
    let rest = drop (at + length filled) flash in
    let k = from - at in
    let e : at + k ≡ from = omega arith in
    let whole : drop from (over at filled flash) ≡ replicate (n - k) erased ++ rest =
    ap (λ (x : ℕ). drop x (over at filled flash)) (sym e)
    ∙ sym (drop-drop k at (over at filled flash))
    ∙ ap (drop k) (drop_at (take at flash) (filled ++ rest) at (length-take-le at flash (omega arith)))
    ∙ drop_filled k n rest (omega arith) in
    tells_success bytes (drop from (over at filled flash)) (ap (programmed bytes) whole ∙ erased_take (n - k) bytes rest (omega arith) are)

-- before it, inside it or behind it
by_place : {C : Type 0} (at n i : ℕ) → (i < at → C) → (at ≤ i → i < at + n → C) → (at + n ≤ i → C) → C
by_place at n i f g h =
    on_test (ltb i at) (λ t. f (ltb-true i at t))
    (λ t. on_test (ltb i (at + n)) (λ u. g (ltb-false i at t) (ltb-true i (at + n) u)) (λ u. h (ltb-false i (at + n) u)))

same_gains : (flash after : List ℕ) (i : ℕ) → get_or after i 0 ≡ get_or flash i 0 → GainsNone flash after i
same_gains flash after i e = subst (λ (x : ℕ). bit_and (get_or flash i 0) x ≡ x) (sym e) (and_self (get_or flash i 0))

module _ (block : ℕ) (command : Told CommandBlock) (bytes flash : List ℕ) where
  abbrev sectors : ℕ
  sectors = length flash / sector_size

  abbrev Kept : Effect → ℕ → Type 0
  Kept effect i = GainsNone flash (flash_after effect bytes flash) i ⊎ ErasedPlace block sectors command i

  programmed_keeps : (range : FlashRange) → EffectFits sectors (length bytes) (Program range) → (i : ℕ) → GainsNone flash (flash_after (Program range) bytes flash) i
  unfolding flash_after EffectFits
  programmed_keeps range fits i =
      let at = range.first * sector_size in
      let now = programmed bytes (drop at flash) in
      let long = length_programmed bytes (drop at flash) in
      let inside : at + length now ≤ length flash = omega (arith, fits.0, fits.1, long) in
      by_place at (length now) i (λ h. same_gains flash (over at now flash) i (byte_before at now flash inside i h))
      (λ h k.
      let j = i - at in
      let e : at + j ≡ i = omega arith in
      let here : j < length bytes = omega (arith, long) in
      let room : j < length (drop at flash) = simp length-drop (omega (arith, long, inside)) in
      let byte : get_or (over at now flash) (at + j) 0 ≡ bit_and (get_or flash (at + j) 0) (get_or bytes j 0) =
      byte_inside at now flash inside j (omega (arith, long)) ∙ bits_kept bytes (drop at flash) j here room
      ∙ ap (λ (x : ℕ). bit_and x (get_or bytes j 0)) (get_or-drop at flash j 0) in
      subst (λ (x : ℕ). GainsNone flash (over at now flash) x) e
      (subst (λ (x : ℕ). bit_and (get_or flash (at + j) 0) x ≡ x) (sym byte) (and_again (get_or flash (at + j) 0) (get_or bytes j 0))))
      (λ h. same_gains flash (over at now flash) i (byte_behind at now flash inside i h))

  -- GAINED. A byte of NOR that has one more bit after a bulk write was erased by it
  pub effect_keeps : (effect : Effect) → OnFlash Nor block sectors command effect → EffectFits sectors (length bytes) effect → (i : ℕ) → Kept effect i
  unfolding OnFlash flash_after EffectFits
  effect_keeps Nothing on fits i = inl (and_self (get_or flash i 0))
  effect_keeps (Fill range) on fits i =
      let at = range.first * sector_size in
      let filled = replicate (range.count * sector_size) erased in
      let long : length filled ≡ range.count * sector_size = length-replicate (range.count * sector_size) erased in
      let inside : at + length filled ≤ length flash = omega (arith, fits, long) in
      let first : range.first ≡ on.0.cd_address = ap (λ (x : FlashRange). x.first) on.2 in
      let count : range.count ≡ on.0.cd_length = ap (λ (x : FlashRange). x.count) on.2 in
      by_place at (length filled) i (λ h. inl (same_gains flash (over at filled flash) i (byte_before at filled flash inside i h)))
      (λ h k. inr (record { command = on.0; read = on.1; erases = on.3; from = omega (arith, first); to = omega (arith, first, count, long) }))
      (λ h. inl (same_gains flash (over at filled flash) i (byte_behind at filled flash inside i h)))
  effect_keeps (Store range) on fits i = absurd (let z : ◌≡◌ {A = ℕ} 0 1 = cc in omega arith)
  effect_keeps (Program range) on fits i = inl (programmed_keeps range fits i)
  effect_keeps (Supply range) on fits i = inl (and_self (get_or flash i 0))
  effect_keeps (Reply kind) on fits i = inl (and_self (get_or flash i 0))

-- .. for the whole call: one that is refused leaves the flash as it was
write_keeps_of : (t : Told ℕ) (block : ℕ) (s : Session) (flash bytes : List ℕ) → flash_sectors (length flash) ≡ t → (i : ℕ)
    → GainsNone flash (write_step_of t Nor block s flash bytes).leaves i ⊎ ErasedPlace block (length flash / sector_size) (command_in s.current_command bytes) i
unfolding write_step_of
write_keeps_of (refused n values) block s flash bytes size i = inl (and_self (get_or flash i 0))
write_keeps_of (given sectors) block s flash bytes size i =
    let h = taken (length flash) sectors size in
    let turn = write_turn Nor block s sectors bytes in
    let on = (write_touches Nor block s.current_command s.last_reset sectors bytes).effect in
    effect_keeps block (command_in s.current_command bytes) bytes flash turn.effect
    (subst (λ (k : ℕ). OnFlash Nor block k (command_in s.current_command bytes) turn.effect) (sym h.0) on)
    (subst (λ (k : ℕ). EffectFits k (length bytes) turn.effect) (sym h.0) (write_sane Nor block s sectors bytes).fits) i

pub write_keeps : (block : ℕ) (s : Session) (flash bytes : List ℕ) (i : ℕ)
    → GainsNone flash (write_step_by Nor block s flash bytes).leaves i ⊎ ErasedPlace block (length flash / sector_size) (command_in s.current_command bytes) i
unfolding write_step_by
write_keeps block s flash bytes i = write_keeps_of (flash_sectors (length flash)) block s flash bytes refl i

-- an erase that splits no block takes in the whole block of each of its bytes

both_true : (a b : Bool) → not (pick a b false) ≡ false → (a ≡ true) × (b ≡ true)
both_true true true e = (refl, refl)
both_true true false e = absurd (let z : ◌≡◌ {A = ℕ} 0 1 = cc in omega arith)
both_true false b e = absurd (let z : ◌≡◌ {A = ℕ} 0 1 = cc in omega arith)

multiple : (n block : ℕ) → 0 < block → is_multiple n block ≡ true → n / block * block ≡ n
unfolding is_multiple
multiple n block some e =
    let f : eqb (n % block) 0 ≡ true = rw (ne_eqb block 0 (λ z. omega arith)) at e in
    let none : n % block ≡ 0 = eqb-true (n % block) 0 f in
    let all = div-add-mod'' n block in
    omega (arith, none, all)

no_block : (sectors : ℕ) (read_as : Told CommandBlock) (i : ℕ) → ErasedPlace 0 sectors read_as i → ⊥
unfolding splits is_multiple
no_block sectors read_as i e =
    let c = e.command in
    let both = both_true (is_multiple c.cd_address 0) (is_multiple c.cd_length 0) e.erases.whole in
    omega (arith, eqb-true c.cd_length 0 both.1, eqb-true c.cd_address 0 both.0, e.to)

-- BLOCKS. The whole block of an erased byte lies in the erase; no byte is erased in blocks of 0
some_block : (block sectors : ℕ) (read_as : Told CommandBlock) (i : ℕ) → 0 < block → (e : ErasedPlace block sectors read_as i)
    → (e.command.cd_address ≤ i / sector_size / block * block) × (i / sector_size / block * block + block ≤ e.command.cd_address + e.command.cd_length)
unfolding splits
some_block block sectors read_as i some e =
    let c = e.command in
    let sector = i / sector_size in
    let b = sector / block in
    let both = both_true (is_multiple c.cd_address block) (is_multiple c.cd_length block) e.erases.whole in
    let qa = c.cd_address / block in
    let qc = c.cd_length / block in
    let first : qa * block ≡ c.cd_address = multiple c.cd_address block some both.0 in
    let count : qc * block ≡ c.cd_length = multiple c.cd_length block some both.1 in
    let low : c.cd_address ≤ sector = omega (arith, e.from) in
    let high : sector < c.cd_address + c.cd_length = omega (arith, e.to) in
    let from : qa * block ≤ sector = omega (arith, first, low) in
    let to : sector < (qa + qc) * block = rw (add-mul qa qc block) (omega (arith, first, count, high)) in
    let at_least : qa ≤ b = (le-div_iff_mul-le some).1 from in
    let below : b < qa + qc = (div-lt_iff_lt-mul some).1 to in
    let begins : qa * block ≤ b * block = mul-le-mul_right block at_least in
    let ends : suc b * block ≤ (qa + qc) * block = mul-le-mul_right block below in
    let last : suc b * block ≡ b * block + block = suc-mul b block in
    let sum : (qa + qc) * block ≡ qa * block + qc * block = add-mul qa qc block in
    (omega (arith, begins, first), omega (arith, ends, last, sum, first, count))

pub whole_block : (block sectors : ℕ) (read_as : Told CommandBlock) (i : ℕ) (e : ErasedPlace block sectors read_as i)
    → (e.command.cd_address ≤ i / sector_size / block * block) × (i / sector_size / block * block + block ≤ e.command.cd_address + e.command.cd_length)
whole_block zero sectors read_as i e = absurd (no_block sectors read_as i e)
whole_block (suc block) sectors read_as i e = some_block (suc block) sectors read_as i (omega arith) e

-- so no byte behind the last whole block of a flash is ever erased
pub tail_not_erased : (block sectors : ℕ) (read_as : Told CommandBlock) (i : ℕ) → sectors / block * block ≤ i / sector_size → ErasedPlace block sectors read_as i → ⊥
tail_not_erased zero sectors read_as i behind e = no_block sectors read_as i e
tail_not_erased (suc block) sectors read_as i behind e =
    let b = i / sector_size / suc block in
    let whole = some_block (suc block) sectors read_as i (omega arith) e in
    let inside = fits_sectors sectors e.command.cd_address e.command.cd_length e.erases.within.fits in
    let next : suc b * suc block ≡ b * suc block + suc block = suc-mul b (suc block) in
    let some : 0 < suc block = omega arith in
    let all : suc b * suc block ≤ sectors = omega (arith, whole.1, inside, next) in
    let last : suc b ≤ sectors / suc block = (le-div_iff_mul-le some).1 all in
    let more : i / sector_size < b * suc block + suc block = lt-div-mul-add some in
    let ends : suc b * suc block ≤ sectors / suc block * suc block = mul-le-mul_right (suc block) last in
    omega (arith, ends, next, more, behind)
