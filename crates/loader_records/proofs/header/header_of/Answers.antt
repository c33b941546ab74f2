-- Each field is read off the bytes that stand there.
use mathlib.Core.Path.{◌≡◌}
use native.Mathlib.Omega.{arith}
use borrow.Author.Rules.{rules}
use lib.ListN.{length}
use Rattle.loader_records.proofs.Headers.{header_fields}
use Rattle.loader_records.proofs.header.header_of.Goals as goal

pub returns : goal.returns
returns c =
    let b = c.args.b.now in
    let long : length b ≡ 102 = search rules in
    header_fields b (omega arith) c.u16_from_le_bytes.ensures c.u32_from_le_bytes.ensures c.u32_from_le_bytes-2.ensures
    c.time_of.ensures c.list_of.ensures c.list_of-2.ensures c.list_of-3.ensures
