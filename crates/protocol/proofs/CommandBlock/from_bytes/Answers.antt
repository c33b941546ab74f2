-- Each way out is a case of the rule.
use Prim.Native.Nat.{◌+◌, ◌≤◌}
use mathlib.Core.Path.{◌≡◌, refl, ap, sym, ◌∙◌}
use mathlib.Core.Bool.{true, false}
use mathlib.Core.List.{[], ◌∷◌}
use native.Mathlib.Omega.{arith}
use lib.ListN.{length, take}
use Rattle.protocol_codes.specs.Reading.{direction_read_told, code_read_told}
use Rattle.protocol_bytes.specs.Signature.{usbc, same}
use Rattle.protocol_bytes.proofs.Short.{field_elements}
use Rattle.protocol.specs.declared.CommandBlock.{CommandBlock}
use Rattle.protocol_bytes.specs.Signature.{parsed}
use Rattle.protocol.proofs.Reading.{meets_short, meets_unsigned, meets_flags, meets_code, meets_block}
use Rattle.protocol.proofs.CommandBlock.from_bytes.Goals as goal
use Rattle.std.specs.declared.result.Result.TheVariants.{Ok}

pub returns-then-bytes-lt-COMMAND_BLOCK_BYTES : goal.returns-then-bytes-lt-COMMAND_BLOCK_BYTES
returns-then-bytes-lt-COMMAND_BLOCK_BYTES c = meets_short c.args.bytes.now c.parsed.result c.if-bytes-lt-COMMAND_BLOCK_BYTES.true c.parsed.ensures

pub returns-then-not-starts_with : goal.returns-then-not-starts_with
returns-then-not-starts_with c =
    let bytes = c.args.bytes.now in
    let enough : 31 ≤ length bytes = c.if-bytes-lt-COMMAND_BLOCK_BYTES.false in
    let four : 0 + 4 ≤ length bytes = omega arith in
    let other : same (take 4 bytes) usbc ≡ false = sym c.starts_with.ensures ∙ c.if-not-starts_with.true in
    meets_unsigned bytes _ enough other refl (sym (field_elements 4 0 bytes four))

pub returns-in_default : goal.returns-in_default
unfolding direction_read_told
returns-in_default c =
    let own : same (take 4 c.args.bytes.now) usbc ≡ true = sym c.starts_with.ensures ∙ c.if-not-starts_with.false in
    meets_flags c.args.bytes.now c.parsed-in_default.result c.if-bytes-lt-COMMAND_BLOCK_BYTES.false own
    3 (c.in_default.field-0.0 ∷ [])
    (sym c.try_from.ensures ∙ ap direction_read_told c.in_default.is) c.parsed-in_default.ensures

pub returns-in_default-try_from : goal.returns-in_default-try_from
unfolding direction_read_told code_read_told
returns-in_default-try_from c =
    let own : same (take 4 c.args.bytes.now) usbc ≡ true = sym c.starts_with.ensures ∙ c.if-not-starts_with.false in
    meets_code c.args.bytes.now c.parsed-in_default-try_from.result c.if-bytes-lt-COMMAND_BLOCK_BYTES.false own
    c.in-Ok.flags 4 (c.in_default-try_from.field-0.0 ∷ [])
    (sym c.try_from.ensures ∙ ap direction_read_told c.in-Ok.is)
    (sym c.try_from-2.ensures ∙ ap code_read_told c.in_default-try_from.is) c.parsed-in_default-try_from.ensures

pub returns : goal.returns
unfolding direction_read_told code_read_told
returns c =
    let own : same (take 4 c.args.bytes.now) usbc ≡ true = sym c.starts_with.ensures ∙ c.if-not-starts_with.false in
    meets_block c.args.bytes.now c.parsed-2.result c.if-bytes-lt-COMMAND_BLOCK_BYTES.false own
    c.in-Ok.flags c.in-Ok-try_from.code
    (sym c.try_from.ensures ∙ ap direction_read_told c.in-Ok.is)
    (sym c.try_from-2.ensures ∙ ap code_read_told c.in-Ok-try_from.is)
    (c.parsed-2.ensures ∙ ap (λ (block : CommandBlock). parsed (Ok block)) c.block_of.ensures)
