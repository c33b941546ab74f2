-- The chip's bytes, reversed, are what `get_u32` (high byte first) and then `to_le_bytes` (low byte first) make of them.
use Prim.Native.Nat.{ℕ, ◌+◌, ◌≤◌}
use mathlib.Core.Path.{◌≡◌, ap, sym, ◌∙◌}
use mathlib.Core.List.{List, [], ◌∷◌, reverse, reverse-reverse}
use native.Mathlib.Omega.{arith}
use borrow.Author.Tests.{ltb-false}
use lib.ListN.{length, take}
use Rattle.promise.specs.Told.{Told, given}
use Rattle.promise.specs.Rules.{or_refuse}
use Rattle.promise.specs.Bytes.{low_first, high_first, from_high, field, AreBytes}
use Rattle.protocol_bytes.proofs.Given.{rule_met}
use Rattle.protocol_bytes.proofs.Rewritten.{high_rewritten}
use Rattle.loader_records.specs.declared.header.RkBootHeader.{RkBootHeader}
use Rattle.loader_records.specs.Records.{header_of, read_header, short_rule, tag_rule}
use Rattle.loader_records.specs.Refusals.{value_in}
use Rattle.loader_records.proofs.First.{first_field}

pub chip_reversed : (bytes : List ℕ) (h : RkBootHeader) → AreBytes bytes → read_header bytes ≡ given h → h.supported_chip ≡ low_first 4 (from_high (field 21 4 bytes))
unfolding header_of high_first or_refuse value_in
chip_reversed bytes h are e =
    let one = rule_met (short_rule 102 bytes) (tag_rule bytes ∷ []) (given (header_of (take 102 bytes))) h e in
    let two = rule_met (tag_rule bytes) [] (given (header_of (take 102 bytes))) h one.1 in
    let enough : 102 ≤ length bytes = ltb-false (length bytes) 102 one.0 in
    let inside : 21 + 4 ≤ length bytes = omega arith in
    ap (λ (t : Told RkBootHeader). (value_in h t).supported_chip) (sym two.1)
    ∙ ap reverse (first_field 21 4 102 bytes (omega arith))
    ∙ sym (ap reverse (high_rewritten 4 21 bytes are inside))
    ∙ reverse-reverse (low_first 4 (from_high (field 21 4 bytes)))
