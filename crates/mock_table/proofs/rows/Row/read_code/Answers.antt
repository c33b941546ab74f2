-- The match has the codes in the order of the definition.
use mathlib.Core.Path.{refl, ap, ◌∙◌}
use mathlib.Core.List.{[]}
use borrow.Enum.Refused.{opened}
use Rattle.protocol_codes.specs.declared.CommandCode.TheVariants.{ReadFlashId, ReadFlashInfo, ReadChipInfo, ReadCapability, ReadLBA, GetStorageMedia}
use Rattle.mock_base.specs.declared.cells.Variety.{Variety}
use Rattle.mock_base.specs.Told.{error_values}
use Rattle.mock_base.specs.declared.error.MockTransportError.TheVariants.{UnexpectedRead}
use Rattle.mock_table.specs.Table.{code_turn}
use Rattle.mock_table.specs.Ways.{tells_storage}
use Rattle.mock_table.proofs.Meets.{refused_as}
use Rattle.mock_table.proofs.Codes.{has_as, no_read}
use Rattle.mock_table.proofs.rows.Row.read_code.Goals as goal
use Rattle.mock_table.proofs.rows.Row.read_code.Goals.{in_default-via-in-GetStorageMedia+in_default, in_default-via-in_default}

pub returns-in-ReadFlashId-default : goal.returns-in-ReadFlashId-default
unfolding code_turn
returns-in-ReadFlashId-default c =
    let has = has_as c.args.command c.in-ReadFlashId-default.is-0 in
    rw (has ReadFlashId) c.copy_reply.ensures

pub returns-in-ReadFlashInfo-default : goal.returns-in-ReadFlashInfo-default
unfolding code_turn
returns-in-ReadFlashInfo-default c =
    let has = has_as c.args.command c.in-ReadFlashInfo-default.is-0 in
    rw (has ReadFlashId, has ReadFlashInfo) c.copy_reply-in-ReadFlashInfo-default.ensures

pub returns-in-ReadChipInfo-default : goal.returns-in-ReadChipInfo-default
unfolding code_turn
returns-in-ReadChipInfo-default c =
    let has = has_as c.args.command c.in-ReadChipInfo-default.is-0 in
    rw (has ReadFlashId, has ReadFlashInfo, has ReadChipInfo) c.copy_reply-in-ReadChipInfo-default.ensures

pub returns-in-ReadCapability-default : goal.returns-in-ReadCapability-default
unfolding code_turn
returns-in-ReadCapability-default c =
    let has = has_as c.args.command c.in-ReadCapability-default.is-0 in
    rw (has ReadFlashId, has ReadFlashInfo, has ReadChipInfo, has ReadCapability) c.copy_reply-in-ReadCapability-default.ensures

pub returns-in-ReadLBA-default : goal.returns-in-ReadLBA-default
unfolding code_turn
returns-in-ReadLBA-default c =
    let has = has_as c.args.command c.in-ReadLBA-default.is-0 in
    rw (has ReadFlashId, has ReadFlashInfo, has ReadChipInfo, has ReadCapability, has ReadLBA) c.sector_io.ensures

pub returns-in-GetStorageMedia-Nor : goal.returns-in-GetStorageMedia-Nor
unfolding code_turn tells_storage
returns-in-GetStorageMedia-Nor c =
    let has = has_as c.args.command c.in-GetStorageMedia-Nor.is-0 in
    let tells = ap (λ (v : Variety). tells_storage v c.args.command) c.in-GetStorageMedia-Nor.is-1 ∙ has GetStorageMedia in
    rw (has ReadFlashId, has ReadFlashInfo, has ReadChipInfo, has ReadCapability, has ReadLBA, tells) c.copy_reply-in-GetStorageMedia-Nor.ensures

pub returns-in_default : goal.returns-in_default
unfolding code_turn tells_storage error_values
returns-in_default c =
    let a = c.args in
    refused_as a.self.reset UnexpectedRead 54 [] refl c.refuse.ensures
    (elim c.in_default.branch [
      | in_default-via-in-GetStorageMedia+in_default w ↦
          let has = has_as a.command w.in_default.is-0 in
          rw (has ReadFlashId, has ReadFlashInfo, has ReadChipInfo, has ReadCapability, has ReadLBA, ap (λ (v : Variety). tells_storage v a.command) w.in_default.is-1) refl
      | in_default-via-in_default w ↦ no_read a.self.variety a.self.reset a.command a.self.sectors a.actual (opened w.in_default.in-TestUnitReady-own.keys7)
    ])
