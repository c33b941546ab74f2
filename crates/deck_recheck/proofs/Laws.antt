-- One block of a chunk, the chunk so far, and its end.
use Rattle.std.proofs.Common.{◌≡◌, ℕ, ◌+◌, ◌-◌, ◌<◌, ◌≤◌, Bool, true, false, eqb, ◌⊎◌, List, [], ◌∷◌, ◌++◌, length, take, drop, sym, refl, ap, ◌∙◌, subst, ap₂, inl, inr, ⊎_elim, append_assoc, append-nil, arith, length-drop, take-append-drop, length-take, length-take-le, drop-drop, ltb-false, le-ltb, lt-ltb}
use Rattle.std.specs.Prelude.{Option}
use Rattle.std.specs.declared.option.Option.TheVariants.{Some, None}
use borrow.Rule.Slice.PartMut.{put_mid}
use Rattle.promise.specs.Told.{Told, given, refused}
use Rattle.promise.specs.Rules.{or_refuse}
use Rattle.promise.specs.Over.{over}
use Rattle.promise.proofs.Outcome.{either_way}
use Rattle.promise.proofs.Over.{over_nothing, length_over, drop_over, field_grows}
use Rattle.promise.proofs.Copied.{put_over}
use Rattle.deck_block.specs.Block.{block_length, checked_length, fields_of, first_check, with_check}
use Rattle.deck_block.specs.Blocks.{is_short, blocks_of, block_at}
use Rattle.deck_block.proofs.Blocks.{blocks_next, no_blocks}
use Rattle.deck_block.proofs.Rechecked.{whole_block}
use Rattle.deck_recheck.specs.declared.Stop.{Stop}
use Rattle.deck_recheck.specs.declared.Stop.TheVariants.{BadCheck, Short}
use Rattle.deck_recheck.specs.declared.Recheck.{Recheck}
use Rattle.deck_recheck.specs.declared.RecheckStep.{RecheckStep}
use Rattle.deck_recheck.specs.Recheck.{stop_told, Standing, standing, next_number, next_tag, behind, Written, written, first_rules, recheck_block, unless_stopped, recheck_next, then_write, recheck_blocks, recheck_all, RecheckMeets}
use Rattle.deck_recheck.specs.Code.{BlockMeets, NextMeets}

-- what has stopped stays so
abbrev pub IsStopped : Told Unit → Type 0
IsStopped (given done) = ⊥
IsStopped (refused number values) = Unit

pub stopped_none : (told : Told Unit) (s : Standing) (more : Written) → IsStopped told → unless_stopped told s more ≡ written [] s
unfolding unless_stopped
stopped_none (given done) s more k = absurd k
stopped_none (refused number values) s more k = refl

pub stopped_for_good : (blocks : List (List ℕ)) (s : Standing) → IsStopped s.told → recheck_blocks blocks s ≡ written [] s
unfolding recheck_blocks
stopped_for_good [] s k = refl
stopped_for_good (block ∷ blocks) s k = ap (λ (w : Written). then_write w (λ next. recheck_blocks blocks next)) (stopped_none s.told s _ k) ∙ stopped_for_good blocks s k

-- nothing is written of a block that stops the deck, and a whole block of any other
abbrev pub NoneOrAll : Written → Type 0
NoneOrAll w = ((w.bytes ≡ []) × IsStopped w.leaves.told) ⊎ (length w.bytes ≡ block_length)

none_or_all : (block : List ℕ) (s : Standing) (told : Told Unit) → told ≡ s.told → NoneOrAll (unless_stopped told s (recheck_block block s))
unfolding unless_stopped
none_or_all block s (refused number values) e = inl (refl, subst IsStopped e tt)
none_or_all block s (given done) e =
    either_way NoneOrAll _ (first_rules (next_number s) block) _ (λ number values. inl (refl, tt))
    (λ met. inr (whole_block (next_tag s) block (let long = ltb-false (length block) block_length met.0 in omega arith)))

stops_it : (stop : Stop) (number : ℕ) → IsStopped (stop_told (Some stop) number)
unfolding stop_told
stops_it BadCheck number = tt
stops_it Short number = tt

pub next_none : (step : RecheckStep) (chunk block : List ℕ) (stop : Stop) → step.recheck.stop ≡ Some stop → step.bytes ≤ length chunk
    → NextMeets step chunk step.bytes chunk (recheck_next block (standing step.recheck))
next_none step chunk block stop e inside =
    let s = standing step.recheck in
    let stopped : IsStopped s.told = subst (λ (o : Option Stop). IsStopped (stop_told o step.recheck.number)) (sym e) (stops_it stop step.recheck.number) in
    subst (λ (w : Written). NextMeets step chunk step.bytes chunk w) (sym (stopped_none s.told s _ stopped))
    (record { bytes = omega arith; next = refl; leaves = sym (over_nothing step.bytes chunk); inside = omega arith })

-- a block of a deck that has not stopped: short, bad or right
module _ (block : List ℕ) (s : Standing) (going : s.told ≡ given tt) where
  pub is_short_lem : is_short block ≡ true → recheck_next block s ≡ written [] (behind s (refused 44 (next_number s ∷ [])))
  unfolding or_refuse unless_stopped
  is_short_lem short = rw (going, short) refl

  pub is_bad : is_short block ≡ false → eqb (fields_of block).check (first_check block) ≡ false → recheck_next block s ≡ written [] (behind s (refused 40 (next_number s ∷ [])))
  unfolding or_refuse unless_stopped
  is_bad long wrong = rw (going, long, wrong) refl

  pub is_right_lem : is_short block ≡ false → eqb (fields_of block).check (first_check block) ≡ true → recheck_next block s ≡ written (with_check (next_tag s) block) (behind s (given tt))
  unfolding or_refuse unless_stopped
  is_right_lem long right = rw (going, long, right) refl

-- a part put where it stands
over_same : (at n : ℕ) (l : List ℕ) → at + n ≤ length l → over at (take n (drop at l)) l ≡ l
unfolding over
over_same at n l h =
    let k : length (take n (drop at l)) ≡ n = simp (length-take, length-drop) (omega arith) in
    ap (λ (j : ℕ). take at l ++ (take n (drop at l) ++ drop (at + j) l)) k
    ∙ ap (λ (x : List ℕ). take at l ++ (take n (drop at l) ++ x)) (sym (drop-drop n at l))
    ∙ ap (λ (x : List ℕ). take at l ++ x) (take-append-drop n (drop at l)) ∙ take-append-drop at l

-- a deck at a block, with so many bytes of the chunk rechecked
abbrev pub step_at : ℕ → ℕ → Option Stop → ℕ → RecheckStep
step_at number tag stop bytes = record { bytes = bytes; recheck = record { number = number; tag = tag; stop = stop } }

-- the block behind the bytes that are rechecked
module _ (step : RecheckStep) (chunk : List ℕ) (number tag : ℕ) (r : RecheckStep) (e : step.recheck.stop ≡ None)
    (counts : number ≡ next_number (standing step.recheck)) (tags : tag ≡ next_tag (standing step.recheck)) where
  abbrev block : List ℕ
  block = block_at step.bytes chunk

  abbrev s : Standing
  s = standing step.recheck

  going : s.told ≡ given tt
  unfolding stop_told
  going = ap (λ (stop : Option Stop). stop_told stop step.recheck.number) e

  stands : (told : ℕ → Told Unit) → record { number = number; tag = tag; told = told number } ≡ behind s (told (next_number s))
  stands told = ap₂ (λ (n t : ℕ). record { number = n; tag = t; told = told n }) counts tags

  pub next_short : r ≡ step_at number tag (Some Short) step.bytes → length chunk - step.bytes < 512 → step.bytes ≤ length chunk → NextMeets r chunk step.bytes chunk (recheck_next block s)
  unfolding stop_told
  next_short is few inside =
      let short : length block < block_length = simp (length-take, length-drop) (omega arith) in
      subst (λ (w : Written). NextMeets r chunk step.bytes chunk w) (sym (is_short_lem block s going (lt-ltb (length block) block_length short)))
      (record {
        bytes = ap (λ (q : RecheckStep). q.bytes) is ∙ (omega arith);
        next = ap (λ (q : RecheckStep). standing q.recheck) is ∙ stands (λ n. refused 44 (n ∷ []));
        leaves = sym (over_nothing step.bytes chunk);
        inside = omega arith;
      })

  module _ (k : ℕ) (after left : List ℕ) (size : k ≡ 512) (long : step.bytes + 512 ≤ length chunk) (put : after ≡ put_mid step.bytes k chunk left) where
    block_long : length block ≡ 512
    block_long = simp (length-take, length-drop) (omega arith)

    not_short : is_short block ≡ false
    not_short = le-ltb (length block) block_length (let l = block_long in omega arith)

    put_there : length left ≡ 512 → after ≡ over step.bytes left chunk
    put_there l = put ∙ put_over step.bytes k chunk left (l ∙ sym size)

    pub next_bad : r ≡ step_at number tag (Some BadCheck) step.bytes → (right : Bool) → right ≡ false → BlockMeets right left tag block
        → NextMeets r after step.bytes chunk (recheck_next block s)
    unfolding stop_told
    next_bad is right no-sum met =
        let m = subst (λ (b : Bool). BlockMeets b left tag block) no-sum met in
        let same : after ≡ chunk =
        put_there (ap length m.leaves ∙ block_long) ∙ ap (λ (l : List ℕ). over step.bytes l chunk) m.leaves ∙ over_same step.bytes 512 chunk long in
        subst (λ (w : Written). NextMeets r after step.bytes chunk w) (sym (is_bad block s going not_short (sym m.right)))
        (record {
          bytes = ap (λ (q : RecheckStep). q.bytes) is ∙ (omega arith);
          next = ap (λ (q : RecheckStep). standing q.recheck) is ∙ stands (λ n. refused 40 (n ∷ []));
          leaves = same ∙ sym (over_nothing step.bytes chunk);
          inside = omega arith;
        })

    pub next_right : r ≡ step_at number tag None (step.bytes + 512) → (right : Bool) → right ≡ true → BlockMeets right left tag block
        → NextMeets r after step.bytes chunk (recheck_next block s)
    unfolding stop_told
    next_right is right sum met =
        let m = subst (λ (b : Bool). BlockMeets b left tag block) sum met in
        let enough : checked_length ≤ length block = let l = block_long in omega arith in
        let whole = whole_block (next_tag s) block enough in
        let new : left ≡ with_check (next_tag s) block = m.leaves ∙ ap (λ (t : ℕ). with_check t block) tags in
        subst (λ (w : Written). NextMeets r after step.bytes chunk w) (sym (is_right_lem block s going not_short (sym m.right)))
        (record {
          bytes = ap (λ (q : RecheckStep). q.bytes) is ∙ ap (λ (n : ℕ). step.bytes + n) (sym whole);
          next = ap (λ (q : RecheckStep). standing q.recheck) is ∙ stands (λ n. given tt);
          leaves = put_there (ap length new ∙ whole) ∙ ap (λ (l : List ℕ). over step.bytes l chunk) new;
          inside = omega (arith, whole);
        })

-- so many bytes are rechecked, and with what is left they make the whole
pub record OnTheWay (chunk₀ : List ℕ) (s₀ : Standing) (step : RecheckStep) (chunk : List ℕ) : Type 0 where
  pub inside : step.bytes ≤ length chunk₀
  pub long : length chunk ≡ length chunk₀
  pub behind : drop step.bytes chunk ≡ drop step.bytes chunk₀
  pub whole : then_write (written (take step.bytes chunk) (standing step.recheck)) (λ next. recheck_blocks (blocks_of (drop step.bytes chunk₀)) next) ≡ recheck_all chunk₀ s₀

pub begins : (chunk : List ℕ) (r : Recheck) → OnTheWay chunk (standing r) (record { bytes = 0; recheck = r }) chunk
begins chunk r = record { inside = omega arith; long = refl; behind = refl; whole = refl }

-- what is rechecked so far stands in the chunk's first bytes
done : (chunk₀ : List ℕ) (s₀ : Standing) (step : RecheckStep) (chunk : List ℕ) → step.bytes ≤ length chunk₀ → length chunk ≡ length chunk₀
    → drop step.bytes chunk ≡ drop step.bytes chunk₀
    → written (take step.bytes chunk) (standing step.recheck) ≡ recheck_all chunk₀ s₀ → RecheckMeets step chunk chunk₀ (recheck_all chunk₀ s₀)
done chunk₀ s₀ step chunk inside long behind all =
    let size : length (take step.bytes chunk) ≡ step.bytes = length-take-le step.bytes chunk (omega arith) in
    subst (λ (w : Written). RecheckMeets step chunk chunk₀ w) all
    (record {
      bytes = sym size;
      next = refl;
      leaves =
          sym (take-append-drop step.bytes chunk)
          ∙ ap (λ (l : List ℕ). take step.bytes chunk ++ l) (behind ∙ ap (λ (n : ℕ). drop n chunk₀) (sym size));
    })

pub ends_there : (chunk₀ : List ℕ) (s₀ : Standing) (step : RecheckStep) (chunk : List ℕ) → OnTheWay chunk₀ s₀ step chunk → length chunk ≤ step.bytes
    → RecheckMeets step chunk chunk₀ (recheck_all chunk₀ s₀)
unfolding recheck_blocks
ends_there chunk₀ s₀ step chunk way last =
    let none : length (drop step.bytes chunk₀) ≡ 0 = simp length-drop (let l = way.long in omega arith) in
    let now = written (take step.bytes chunk) (standing step.recheck) in
    let e : written (take step.bytes chunk ++ []) (standing step.recheck) ≡ recheck_all chunk₀ s₀ =
    ap (λ (blocks : List (List ℕ)). then_write now (λ next. recheck_blocks blocks next)) (sym (no_blocks (drop step.bytes chunk₀) none)) ∙ way.whole in
    done chunk₀ s₀ step chunk way.inside way.long way.behind
    (ap (λ (l : List ℕ). written l (standing step.recheck)) (sym (append-nil (take step.bytes chunk))) ∙ e)

-- with one block more
module _ (chunk₀ : List ℕ) (s₀ : Standing) (step : RecheckStep) (chunk : List ℕ) (way : OnTheWay chunk₀ s₀ step chunk) (more : step.bytes < length chunk)
    (r : RecheckStep) (after : List ℕ)
    (m : NextMeets r after step.bytes chunk (recheck_next (block_at step.bytes chunk) (standing step.recheck))) where
  abbrev w : Written
  w = recheck_next (block_at step.bytes chunk) (standing step.recheck)

  pub after_long : length after ≡ length chunk₀
  after_long = ap length m.leaves ∙ length_over step.bytes w.bytes chunk m.inside ∙ way.long

  after_behind : drop r.bytes after ≡ drop r.bytes chunk₀
  after_behind =
      ap₂ (λ (k : ℕ) (l : List ℕ). drop k l) m.bytes m.leaves
      ∙ drop_over step.bytes w.bytes chunk m.inside
      ∙ sym (drop-drop (length w.bytes) step.bytes chunk)
      ∙ ap (drop (length w.bytes)) way.behind
      ∙ drop-drop (length w.bytes) step.bytes chunk₀
      ∙ ap (λ (k : ℕ). drop k chunk₀) (sym m.bytes)

  so_far : written (take r.bytes after) (standing r.recheck) ≡ written (take step.bytes chunk ++ w.bytes) w.leaves
  so_far =
      let from-0 : 0 + step.bytes ≡ step.bytes = omega arith in
      let fits : 0 + step.bytes + length w.bytes ≤ length chunk = let i = m.inside in omega arith in
      ap₂ written
      (ap₂ (λ (k : ℕ) (l : List ℕ). take k l) m.bytes m.leaves
      ∙ sym (ap (λ (k : ℕ). take (step.bytes + length w.bytes) (over k w.bytes chunk)) from-0)
      ∙ field_grows 0 step.bytes w.bytes chunk fits)
      m.next

  -- the whole, with the block before the others that are left
  abbrev rest : List (List ℕ)
  rest = blocks_of (drop (step.bytes + block_length) chunk₀)

  opened : then_write (written (take r.bytes after) (standing r.recheck)) (λ next. recheck_blocks rest next) ≡ recheck_all chunk₀ s₀
  unfolding recheck_blocks
  opened =
      let now = written (take step.bytes chunk) (standing step.recheck) in
      let here : block_at step.bytes chunk ≡ block_at step.bytes chunk₀ = ap (take block_length) way.behind in
      let blocks : blocks_of (drop step.bytes chunk₀) ≡ block_at step.bytes chunk ∷ rest =
      blocks_next step.bytes chunk₀ (let l = way.long in omega arith) ∙ ap (λ (b : List ℕ). b ∷ rest) (sym here) in
      ap (λ (v : Written). then_write v (λ next. recheck_blocks rest next)) so_far
      ∙ ap (λ (l : List ℕ). written l (recheck_blocks rest w.leaves).leaves) (append_assoc (take step.bytes chunk) w.bytes (recheck_blocks rest w.leaves).bytes)
      ∙ ap (λ (bs : List (List ℕ)). then_write now (λ next. recheck_blocks bs next)) (sym blocks)
      ∙ way.whole

  outcome : NoneOrAll w
  outcome = none_or_all (block_at step.bytes chunk) (standing step.recheck) (standing step.recheck).told refl

  stood : w.bytes ≡ [] → r.bytes ≡ step.bytes
  stood none = m.bytes ∙ ap (λ (l : List ℕ). step.bytes + length l) none ∙ (omega arith)

  went : length w.bytes ≡ block_length → OnTheWay chunk₀ s₀ r after
  went all =
      let there : r.bytes ≡ step.bytes + block_length = m.bytes ∙ ap (λ (n : ℕ). step.bytes + n) all in
      record {
        inside = let i = m.inside in let l = way.long in omega (arith, there, all);
        long = after_long;
        behind = after_behind;
        whole =
            ap (λ (n : ℕ). then_write (written (take r.bytes after) (standing r.recheck)) (λ next. recheck_blocks (blocks_of (drop n chunk₀)) next)) there ∙ opened;
      }

  pub grew : (r.bytes ≡ step.bytes → ⊥) → r.bytes ≡ step.bytes + block_length
  grew onward = ⊎_elim (λ stopped. absurd (onward (stood stopped.0))) (λ all. m.bytes ∙ ap (λ (n : ℕ). step.bytes + n) all) outcome

  pub goes_on : (r.bytes ≡ step.bytes → ⊥) → OnTheWay chunk₀ s₀ r after
  goes_on onward = ⊎_elim (λ stopped. absurd (onward (stood stopped.0))) went outcome

  stopped : (w.bytes ≡ []) × IsStopped w.leaves.told → RecheckMeets r after chunk₀ (recheck_all chunk₀ s₀)
  stopped none =
      let at : IsStopped (standing r.recheck).told = subst (λ (s : Standing). IsStopped s.told) (sym m.next) none.1 in
      let now = written (take r.bytes after) (standing r.recheck) in
      let e : written (take r.bytes after ++ []) (standing r.recheck) ≡ recheck_all chunk₀ s₀ =
      ap (λ (v : Written). written (take r.bytes after ++ v.bytes) v.leaves) (sym (stopped_for_good rest (standing r.recheck) at)) ∙ opened in
      done chunk₀ s₀ r after (let i = m.inside in let l = way.long in let b = m.bytes in omega arith) after_long after_behind
      (ap (λ (l : List ℕ). written l (standing r.recheck)) (sym (append-nil (take r.bytes after))) ∙ e)

  pub stops_there : r.bytes ≡ step.bytes → RecheckMeets r after chunk₀ (recheck_all chunk₀ s₀)
  stops_there same = ⊎_elim stopped (λ all. absurd (let b = m.bytes in omega arith)) outcome
