-- The first i units stand at each turn.
use Prim.Native.Nat.{ℕ, suc, ◌+◌, ◌*◌, ◌≤◌}
use mathlib.Core.Path.{◌≡◌, refl, ap, sym, ◌∙◌}
use native.Mathlib.Omega.{arith}
use borrow.Author.Rules.{rules}
use mathlib.Core.List.{[], ◌∷◌}
use lib.ListN.{length, set, length-set, get_or}
use lib.Seq.{take_all}
use Rattle.promise.specs.Bytes.{from_low}
use Rattle.loader_records.specs.Records.{units_from}
use Rattle.protocol_bytes.proofs.Short.{field_elements}
use Rattle.loader_records.proofs.Names.{units_next}
use Rattle.loader_records.proofs.entry.name_of.Goals as goal

pub loop-i-init : goal.loop-i-init
unfolding units_from
loop-i-init c = (refl, refl)

pub loop-i-preserved : goal.loop-i-preserved
loop-i-preserved c =
    let turn = c.loop-i in
    let b = c.args.b.now in
    let long : length b ≡ 57 = search rules in
    let name : length turn.name ≡ 20 = turn.invariant.0 in
    let kept : length (set turn.name turn.i c.u16_from_le_bytes.result) ≡ 20 = length-set turn.name turn.i c.u16_from_le_bytes.result ∙ name in
    let inside : 5 + 2 * turn.i + 2 ≤ length b = omega arith in
    let one : turn.i + 1 ≡ suc turn.i = omega arith in
    let second : 6 + 2 * turn.i ≡ suc (5 + 2 * turn.i) = omega arith in (
      kept,
      rw one
          (units_next turn.i 5 c.u16_from_le_bytes.result b turn.name (omega arith) turn.invariant.1
          (c.u16_from_le_bytes.ensures
          ∙ ap (λ (k : ℕ). from_low (get_or b (5 + 2 * turn.i) 0 ∷ get_or b k 0 ∷ [])) second
          ∙ sym (ap from_low (field_elements 2 (5 + 2 * turn.i) b inside)))),
    )

pub returns : goal.returns
returns c =
    let end = c.loop-i in
    let name : length end.name ≡ 20 = end.invariant.0 in
    let all : end.i ≡ 20 = omega arith in
    let short : length end.name ≤ end.i = omega arith in
    sym (take_all end.i end.name short) ∙ end.invariant.1 ∙ ap (λ (n : ℕ). units_from n 5 c.args.b.now) all
