-- At each turn as much is left as at the start.
use Prim.Native.Nat.{ℕ, suc, ◌+◌, ◌≤◌}
use mathlib.Core.Path.{◌≡◌, ap, sym, subst, ◌∙◌}
use native.Mathlib.Omega.{arith}
use Rattle.loader_records.specs.declared.list.RkBootHeaderEntry.{RkBootHeaderEntry}
use Rattle.loader_walk.specs.Entries.{rest_of, list_at}
use Rattle.loader_walk.proofs.Rests.{rest_on, rest_end}
use Rattle.loader_walk.proofs.walk.Walk.seek.Goals as goal

pub loop-list-preserved : goal.loop-list-preserved
loop-list-preserved c file =
    let header = c.args.header in
    let at = c.loop-list in
    let next : at.list + 1 ≡ suc at.list = omega arith in
    let past : (list_at header at.list).count ≤ at.entry = subst (λ (l : RkBootHeaderEntry). l.count ≤ at.entry) c.list_at.ensures c.if-entry-list_at.false in
    ap (λ (list : ℕ). rest_of file header list 0) next ∙ sym (rest_on file header at.list at.entry c.loop-list-test.true past) ∙ at.invariant file

pub returns : goal.returns
returns c file = let at = c.loop-list in sym (at.invariant file) ∙ rest_end file c.args.header at.list at.entry c.loop-list-test.false
