-- Each way out is a case of the rule.
use Prim.Native.Nat.{◌+◌, ◌≤◌}
use mathlib.Core.Bool.{true, false}
use mathlib.Core.List.{[], ◌∷◌}
use native.Mathlib.Omega.{arith}
use mathlib.Core.Path.{◌≡◌, refl, ap, sym, ◌∙◌}
use lib.ListN.{length, take}
use Rattle.protocol_bytes.specs.Signature.{usbs, same}
use Rattle.protocol_status.specs.declared.report.CommandStatus.{CommandStatus}
use Rattle.protocol_bytes.specs.Signature.{parsed}
use Rattle.protocol_bytes.proofs.Short.{field_elements}
use Rattle.protocol_codes.specs.Reading.{status_read_told}
use Rattle.protocol_status.proofs.Reading.{meets_short, meets_unsigned, meets_unknown, meets_given}
use Rattle.protocol_status.proofs.report.CommandStatus.from_bytes.Goals as goal
use Rattle.std.specs.declared.result.Result.TheVariants.{Ok}

pub returns-then-bytes-lt-COMMAND_STATUS_BYTES : goal.returns-then-bytes-lt-COMMAND_STATUS_BYTES
returns-then-bytes-lt-COMMAND_STATUS_BYTES c = meets_short c.args.bytes.now c.parsed.result c.if-bytes-lt-COMMAND_STATUS_BYTES.true c.parsed.ensures

pub returns-then-not-starts_with : goal.returns-then-not-starts_with
returns-then-not-starts_with c =
    let bytes = c.args.bytes.now in
    let enough : 13 ≤ length bytes = c.if-bytes-lt-COMMAND_STATUS_BYTES.false in
    let four : 0 + 4 ≤ length bytes = omega arith in
    let other : same (take 4 bytes) usbs ≡ false = sym c.starts_with.ensures ∙ c.if-not-starts_with.true in
    meets_unsigned bytes _ enough other refl (sym (field_elements 4 0 bytes four))

pub returns-in_default : goal.returns-in_default
unfolding status_read_told
returns-in_default c =
    let bytes = c.args.bytes.now in
    let own : same (take 4 bytes) usbs ≡ true = sym c.starts_with.ensures ∙ c.if-not-starts_with.false in
    meets_unknown bytes c.parsed-in_default.result 7 (c.in_default.field-0.0 ∷ []) c.if-bytes-lt-COMMAND_STATUS_BYTES.false own
    (sym c.try_from.ensures ∙ ap status_read_told c.in_default.is) c.parsed-in_default.ensures

pub returns : goal.returns
unfolding status_read_told
returns c =
    let bytes = c.args.bytes.now in
    let own : same (take 4 bytes) usbs ≡ true = sym c.starts_with.ensures ∙ c.if-not-starts_with.false in
    meets_given bytes c.parsed-2.result c.in-Ok.status c.if-bytes-lt-COMMAND_STATUS_BYTES.false own
    (sym c.try_from.ensures ∙ ap status_read_told c.in-Ok.is) (c.parsed-2.ensures ∙ ap (λ (s : CommandStatus). parsed (Ok s)) c.report_of.ensures)
