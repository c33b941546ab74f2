-- The offset is four bytes, count and size are one each.
use Prim.Native.Nat.{◌+◌, ◌≤◌}
use mathlib.Core.Path.{◌≡◌, refl}
use native.Mathlib.Omega.{arith}
use borrow.Author.Rules.{rules}
use lib.ListN.{length}
use Rattle.protocol_bytes.proofs.Short.{field_elements}
use Rattle.loader_records.specs.Records.{list_of}
use Rattle.loader_records.proofs.list.list_of.Goals as goal

pub returns : goal.returns
unfolding list_of
returns c =
    let b = c.args.b.now in
    let long : length b ≡ 6 = search rules in
    let offset : 1 + 4 ≤ length b = omega arith in
    rw (c.u32_from_le_bytes.ensures, field_elements 4 1 b offset) refl
