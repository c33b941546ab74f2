-- The year is two bytes, and every other field is one.
use Prim.Native.Nat.{◌+◌, ◌≤◌}
use mathlib.Core.Path.{◌≡◌, refl}
use native.Mathlib.Omega.{arith}
use borrow.Author.Rules.{rules}
use lib.ListN.{length}
use Rattle.protocol_bytes.proofs.Short.{field_elements}
use Rattle.loader_records.specs.Records.{time_of}
use Rattle.loader_records.proofs.time.time_of.Goals as goal

pub returns : goal.returns
unfolding time_of
returns c =
    let b = c.args.b.now in
    let long : length b ≡ 7 = search rules in
    let year : 0 + 2 ≤ length b = omega arith in
    rw (c.u16_from_le_bytes.ensures, field_elements 2 0 b year) refl
