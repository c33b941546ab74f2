-- Each field is read off the bytes that stand there.
use mathlib.Core.Path.{◌≡◌}
use borrow.Author.Rules.{rules}
use lib.ListN.{length}
use Rattle.loader_records.proofs.Headers.{entry_fields}
use Rattle.loader_records.proofs.entry.entry_of.Goals as goal

pub returns : goal.returns
returns c =
    let b = c.args.b.now in
    let long : length b ≡ 57 = search rules in
    entry_fields b long c.u32_from_le_bytes.ensures c.name_of.ensures c.u32_from_le_bytes-2.ensures
    c.u32_from_le_bytes-3.ensures c.u32_from_le_bytes-4.ensures
