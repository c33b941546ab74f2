-- Each field is the bytes that stand there (`field_elements`), read high byte first.
use Prim.Native.Nat.{ℕ, ◌+◌, ◌≤◌}
use mathlib.Core.Path.{◌≡◌, ap, sym, ◌∙◌}
use mathlib.Core.List.{List}
use native.Mathlib.Omega.{arith}
use lib.ListN.{length}
use Rattle.promise.specs.Bytes.{field, from_high}
use Rattle.protocol_bytes.proofs.Short.{elements, field_elements}
use Rattle.deck_block.specs.Block.{fields_of}
use Rattle.deck_block.proofs.fields_of.Goals as goal

-- what stands there, as a number
there : (n at : ℕ) (block : List ℕ) (r : ℕ) → at + n ≤ length block → r ≡ from_high (elements n at block) → r ≡ from_high (field at n block)
there n at block r h e = e ∙ ap from_high (sym (field_elements n at block h))

pub returns : goal.returns
unfolding fields_of
returns c =
    let block = c.args.block.now in
    let w = there 4 1 block c.u32_from_be_bytes.result (omega arith) c.u32_from_be_bytes.ensures in
    let h = there 2 5 block c.u16_from_be_bytes.result (omega arith) c.u16_from_be_bytes.ensures in
    let k = there 2 510 block c.u16_from_be_bytes-2.result (omega arith) c.u16_from_be_bytes-2.ensures in
    cc
