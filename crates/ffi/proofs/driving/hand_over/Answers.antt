-- The loop keeps that the drive from here is the rest of the drive from the start (`Handling`), that what is left is a rest of the image, and the
-- output's length.
use Prim.Native.Nat.{ℕ, ◌+◌, ◌-◌, ◌<◌, ◌≤◌}
use mathlib.Core.Path.{◌≡◌, refl, ap, sym, subst, ◌∙◌}
use mathlib.Core.List.{List}
use native.Mathlib.Omega.{arith}
use Prim.Native.Nat.{min}
use lib.ListN.{length, take, drop, length-take, length-drop}
use lib.Seq.{drop-drop}
use Rattle.maskrom.specs.declared.MaskRomOperation.{MaskRomOperation}
use Rattle.maskrom.specs.declared.PartStepped.{PartStepped}
use Rattle.maskrom.specs.Answers.{part_told}
use Rattle.maskrom.specs.Calls.{PartMeets}
use Rattle.promise.specs.Run.{runs}
use Rattle.promise.proofs.Loop.{begins}
use Rattle.std.specs.Prelude.{Result}
use Rattle.std.specs.declared.result.Result.TheVariants.{Ok, Err}
use Rattle.ffi.specs.Drive.{handing, part_turn}
use Rattle.ffi.specs.Code.{part_pace, IsNumbered, HandsOver}
use Rattle.ffi.proofs.Handing.{Handling, lent_part, took_within, hand_spent, hand_done, hand_on, hand_refused}
use Rattle.ffi.proofs.driving.hand_over.Goals as goal

-- the part that was lent is the next of what is left
met : (size from least : ℕ) (image : List ℕ) (m : MaskRomOperation) (r : PartStepped) (before now : List ℕ) → least ≡ min size (length image - from)
    → PartMeets r m (take (from + least - from) (drop from image)) before now → PartMeets r m (take size (drop from image)) before now
met size from least image m r before now e meets =
    subst (λ (part : List ℕ). PartMeets r m part before now) (lent_part size from least image e) meets

-- no more of it is taken than there is
within : (size from : ℕ) (image : List ℕ) (m : MaskRomOperation) (r : PartStepped) (before now : List ℕ) (n : ℕ)
    → PartMeets r m (take size (drop from image)) before now → part_pace (part_told r.step) ≡ Ok n → from ≤ length image → from + n ≤ length image
within size from image m r before now n meets e inside =
    let part = take size (drop from image) in
    let most = took_within m part (length before) n (ap part_pace (sym meets.tells) ∙ e) in
    let few : length part ≤ length image - from = simp (length-take, length-drop) (omega arith) in
    omega (arith, most)

pub loop-init : goal.loop-init
loop-init c =
    let a = c.args in
    (begins (part_turn a.size) a.budget (handing a.operation a.image.now a.out.now), omega arith, refl)

pub overflow_add-from : goal.overflow_add-from
overflow_add-from c =
    let l = c.loop in
    let a = c.args in
    let t = c.part-stepped in
    let meets = met a.size l.from c.min.result a.image.now l.operation t.result l.out t.new.out c.min.ensures t.ensures in
    let all = within a.size l.from a.image.now l.operation t.result l.out t.new.out c.in-Ok.n meets (sym c.part_pace.ensures.tells ∙ c.in-Ok.is) l.invariant.1 in
    omega (arith, all)

-- once a part was handed over
pub loop-preserved : goal.loop-preserved
loop-preserved c =
    let l = c.loop in
    let a = c.args in
    let image = a.image.now in
    let t = c.part-stepped in
    let n = c.in-Ok.n in
    let e = sym c.part_pace.ensures.tells ∙ c.in-Ok.is in
    let meets = met a.size l.from c.min.result image l.operation t.result l.out t.new.out c.min.ensures t.ensures in
    let more : l.counter < a.budget = c.loop-test.true in
    let rest : 0 < length (drop l.from image) = simp length-drop (let some = c.if-from-image.false in omega (arith, l.invariant.1)) in
    let on =
    hand_on a.size a.budget a.operation image a.out.now l.counter l.operation (drop l.from image) l.out l.invariant.0 more
    rest (part_told t.result.step) t.result.next t.new.out meets n e in (
      subst (λ (left : List ℕ). Handling a.size a.budget a.operation image a.out.now (l.counter + 1) t.result.next left t.new.out)
          (drop-drop n l.from image) on,
      within a.size l.from image l.operation t.result l.out t.new.out n meets e l.invariant.1,
      t.auto.out ∙ l.invariant.2,
    )

pub returns-then-from-image : goal.returns-then-from-image
returns-then-from-image c =
    let l = c.loop in
    let a = c.args in
    let more : l.counter < a.budget = c.loop-test.true in
    let none : length (drop l.from a.image.now) ≡ 0 = simp length-drop (let all = c.if-from-image.true in omega arith) in
    hand_done a.size a.budget a.operation a.image.now a.out.now l.counter l.operation (drop l.from a.image.now) l.out l.invariant.0 more none

pub returns-in-Err : goal.returns-in-Err
returns-in-Err c =
    let l = c.loop in
    let a = c.args in
    let image = a.image.now in
    let t = c.part-stepped in
    let meets = met a.size l.from c.min.result image l.operation t.result l.out t.new.out c.min.ensures t.ensures in
    let more : l.counter < a.budget = c.loop-test.true in
    let rest : 0 < length (drop l.from image) = simp length-drop (let some = c.if-from-image.false in omega (arith, l.invariant.1)) in
    hand_refused a.size a.budget a.operation image a.out.now l.counter l.operation (drop l.from image) l.out l.invariant.0
    more rest (part_told t.result.step) t.result.next t.new.out meets c.in-Err.number (sym c.part_pace.ensures.tells ∙ c.in-Err.is)
    (subst (λ (p : Result ℕ ℕ). IsNumbered p) c.in-Err.is c.part_pace.ensures.numbered)

pub returns : goal.returns
returns c =
    let l = c.loop in
    let a = c.args in
    let all : l.counter ≡ a.budget = omega (arith, l.invariant.0.within) in
    subst (λ (n : ℕ). HandsOver (record { answer = Err n; operation = l.operation }) l.out (runs (part_turn a.size) a.budget (handing a.operation a.image.now a.out.now))) (sym c.number.ensures)
    (hand_spent a.size a.budget a.operation a.image.now a.out.now l.counter l.operation (drop l.from a.image.now) l.out l.invariant.0 all)
