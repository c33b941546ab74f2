-- At every record: a transfer is a control write to the record's area, as many bytes at the front of the output as it says, and no others are
-- touched; a part takes bytes until the block is full and says how many.
use Prim.Native.Nat.{ℕ, ◌+◌, ◌-◌, ◌<◌, ◌≤◌, min}
use mathlib.Core.Path.{◌≡◌, refl, ap, sym, subst, ◌∙◌}
use mathlib.Core.List.{List, []}
use native.Mathlib.Omega.{arith}
use native.Mathlib.Decide.{dec_lt}
use lib.ListN.{length, take, drop, length-take}
use lib.Seq.{drop-append-add, drop-drop}
use Rattle.crc.specs.Check.{crc_over}
use Rattle.promise.specs.Told.{Told, given}
use Rattle.promise.specs.Bytes.{front}
use Rattle.promise.specs.Rules.{too_short, differs}
use Rattle.promise.specs.Does.{Does, said, sent}
use Rattle.maskrom_transfer.specs.declared.MaskRomSteps.{MaskRomSteps}
use Rattle.maskrom_transfer.specs.declared.MaskRomSteps.TheVariants.{Writing, Check, Dummy, Done}
use Rattle.maskrom_transfer.specs.Moves.{block_size, moves_at}
use Rattle.maskrom.specs.declared.Control.{Control}
use Rattle.maskrom.specs.declared.MaskRomOperation.{MaskRomOperation}
use Rattle.maskrom.specs.declared.WholeUpload.{WholeUpload}
use Rattle.maskrom.specs.declared.PartStepped.{PartStepped}
use Rattle.maskrom.specs.declared.CloseStepped.{CloseStepped}
use Rattle.maskrom.specs.declared.WholeStepped.{WholeStepped}
use Rattle.maskrom.specs.Answers.{control, Handed, took, filled, Asks, writes, part_told, step_told}
use Rattle.maskrom.specs.PartWise.{waiting, held, takes, part_step, asks}
use Rattle.maskrom.specs.Whole.{chunk}
use Rattle.maskrom.specs.Calls.{PartMeets, CloseMeets, StepMeets, count_of}
use Rattle.maskrom.proofs.Cases.{takes_full, takes_some}
use Rattle.maskrom.proofs.Writes.{part_writes, close_writes, whole_writes}
use Rattle.maskrom.proofs.Branches.{clash, part_either, close_either, step_either}

-- bytes at the front of a buffer leave those behind them
front_past : (bytes before : List ℕ) (n : ℕ) → length bytes ≤ n → drop n (front bytes before) ≡ drop n before
front_past bytes before n h =
    let e : n ≡ length bytes + (n - length bytes) = omega arith in
    ap (λ (k : ℕ). drop k (front bytes before)) e
    ∙ drop-append-add bytes (drop (length bytes) before) (n - length bytes)
    ∙ drop-drop (n - length bytes) (length bytes) before
    ∙ ap (λ (k : ℕ). drop k before) (sym e)

-- parts
module _ (r : PartStepped) (m : MaskRomOperation) (part before now : List ℕ) (meets : PartMeets r m part before now) where
  -- "All else of the output is untouched"
  pub part_untouched : drop block_size now ≡ drop block_size before
  part_untouched =
      ap (drop 4096) meets.leaves
      ∙ front_past (sent (part_step m part (length before))) before 4096 (part_writes m part (length before))

  -- what is told of the bytes that the block has room for
  record Tells (h : Handed) : Type 0 where
    pub count : count_of (given h) ≡ min (4096 - waiting m) (length part)
    pub setup : (n : ℕ) (c : Control) → h ≡ filled n c → c ≡ control m.area 4096
    pub quiet : (n : ℕ) → h ≡ took n → now ≡ before

  tells_by : let ys = take (4096 - waiting m) part in Dec (waiting m + length ys < 4096) → now ≡ front (takes m ys).sends before → Tells (takes m ys).says
  unfolding count_of
  tells_by (yes h) leaves =
      let ys = take (4096 - waiting m) part in
      let e = takes_some m ys h in
      rw e (record {
        count = length-take (4096 - waiting m) part;
        setup = λ n c f. absurd (let z : ◌≡◌ {A = ℕ} 0 1 = cc in omega arith);
        quiet = λ n f. leaves ∙ ap (λ (d : Does Handed MaskRomOperation). front d.sends before) e;
      })
  tells_by (no l) leaves =
      let ys = take (4096 - waiting m) part in
      let count : length ys ≡ min (4096 - waiting m) (length part) = length-take (4096 - waiting m) part in
      let e = takes_full m ys (omega (arith, count)) in
      rw e (record {
        count = count;
        setup = λ n c f. cc;
        quiet = λ n f. absurd (let z : ◌≡◌ {A = ℕ} 0 1 = cc in omega arith);
      })

  tells : (h : Handed) → part_told r.step ≡ given h → Tells h
  unfolding said sent
  tells h told =
      part_either (λ (t : Told (Does Handed MaskRomOperation)). said t ≡ given h → now ≡ front (sent t) before → Tells h) m part (length before)
      (λ n values e leaves. clash h n values (sym e))
      (λ unshut fits e leaves. subst Tells (cc e) (tells_by (dec_lt (waiting m + length (take (4096 - waiting m) part)) 4096) leaves))
      (sym meets.tells ∙ told) meets.leaves

  -- as many bytes are taken, and told as taken, as the block has room for and the part has
  pub part_count : (h : Handed) → part_told r.step ≡ given h → count_of (part_told r.step) ≡ min (block_size - waiting m) (length part)
  part_count h told = ap count_of told ∙ (tells h told).count

  -- a block that they fill is a transfer to the area; else no byte of the output is touched
  pub part_transfer : (n : ℕ) (c : Control) → part_told r.step ≡ given (filled n c) → c ≡ control m.area block_size
  part_transfer n c told = (tells (filled n c) told).setup n c refl

  pub part_quiet : (n : ℕ) → part_told r.step ≡ given (took n) → now ≡ before
  part_quiet n told = (tells (took n) told).quiet n refl

-- closing and whole-upload steps: "puts its n bytes in the first n output bytes and touches no others"
asks_write : (s : MaskRomSteps) (area n : ℕ) (c : Control) → ◌≡◌ {A = Told Asks} (given (asks s area n)) (given (writes c)) → control area n ≡ c
unfolding asks
asks_write Writing area n c e = cc
asks_write Check area n c e = cc
asks_write Dummy area n c e = cc
asks_write Done area n c e = absurd (let z : ◌≡◌ {A = ℕ} 0 1 = cc in omega arith)

-- so many bytes at the front, of a control write to this area
record FirstBytes (area : ℕ) (c : Control) (before now : List ℕ) : Type 0 where
  pub setup : c ≡ control area c.size
  pub few : c.size ≤ block_size
  pub untouched : drop c.size now ≡ drop c.size before

puts : (s : MaskRomSteps) (area : ℕ) (c : Control) (bytes before now : List ℕ) → length bytes ≤ block_size
    → ◌≡◌ {A = Told Asks} (given (asks s area (length bytes))) (given (writes c)) → now ≡ front bytes before → FirstBytes area c before now
puts s area c bytes before now few told leaves =
    let e : control area (length bytes) ≡ c = asks_write s area (length bytes) c told in
    subst (λ (k : Control). FirstBytes area k before now) e
    (record { setup = refl; few = few; untouched = ap (drop (length bytes)) leaves ∙ front_past bytes before (length bytes) (omega arith) })

module _ (r : CloseStepped) (m : MaskRomOperation) (before now : List ℕ) (meets : CloseMeets r m before now) (c : Control)
    (told : step_told r.step ≡ given (writes c)) where
  close_puts : FirstBytes m.area c before now
  unfolding said sent
  close_puts =
      close_either
      (λ (t : Told (Does Asks MaskRomOperation)). said t ≡ given (writes c) → length (sent t) ≤ 4096 → now ≡ front (sent t) before
      → FirstBytes m.area c before now)
      m (length before)
      (λ e few leaves. clash (writes c) too_short [] (sym e))
      (λ e few leaves. puts m.steps m.area c (moves_at m.steps m.crc (held m)).bytes before now few e leaves)
      (sym meets.tells ∙ told) (close_writes m (length before)) meets.leaves

  pub close_transfer : c ≡ control m.area c.size
  close_transfer = close_puts.setup

  pub close_size : c.size ≤ block_size
  close_size = close_puts.few

  pub close_untouched : drop c.size now ≡ drop c.size before
  close_untouched = close_puts.untouched

module _ (r : WholeStepped) (u : WholeUpload) (image before now : List ℕ) (meets : StepMeets r u image before now) (c : Control)
    (told : step_told r.step ≡ given (writes c)) where
  step_puts : FirstBytes u.area c before now
  unfolding said sent
  step_puts =
      step_either
      (λ (t : Told (Does Asks WholeUpload)). said t ≡ given (writes c) → length (sent t) ≤ 4096 → now ≡ front (sent t) before
      → FirstBytes u.area c before now)
      u image (length before)
      (λ e few leaves. clash (writes c) too_short [] (sym e))
      (λ e few leaves. clash (writes c) differs [] (sym e))
      (λ l e few leaves.
      let w = chunk u image in
      puts u.steps u.area c (moves_at u.steps (crc_over u.crc w) w).bytes before now few e leaves)
      (sym meets.tells ∙ told) (whole_writes u image (length before)) meets.leaves

  pub step_transfer : c ≡ control u.area c.size
  step_transfer = step_puts.setup

  pub step_size : c.size ≤ block_size
  step_size = step_puts.few

  pub step_untouched : drop c.size now ≡ drop c.size before
  step_untouched = step_puts.untouched
