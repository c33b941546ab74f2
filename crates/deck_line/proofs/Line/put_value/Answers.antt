-- Each arm puts the value of its reply; the arrays have the lengths of their types.
use native.Mathlib.Omega.{arith}
use mathlib.Core.Path.{◌≡◌}
use mathlib.Core.Logic.{⊎_elim}
use lib.ListN.{length}
use borrow.Author.Rules.{rules}
use Rattle.operation_finish.specs.Reply.{reply_given}
use Rattle.deck_line.specs.Line.{value_by}
use Rattle.deck_line.proofs.LineLaws.{at_reply, put_bytes, put_dash}
use Rattle.deck_line.proofs.Line.put_value.Goals as goal

pub returns-in-ChipInfo : goal.returns-in-ChipInfo
unfolding value_by reply_given
returns-in-ChipInfo c =
    let whole : length c.args.beside.chip_info.0 ≡ 16 = search rules in
    at_reply _ c.args.self c.args.beside c.in-ChipInfo.is
    (put_bytes _ c.args.self c.args.beside.chip_info.0 (omega arith) c.put_hex.ensures)

pub returns-in-FlashId : goal.returns-in-FlashId
unfolding value_by reply_given
returns-in-FlashId c =
    let whole : length c.args.beside.flash_id.0 ≡ 5 = search rules in
    at_reply _ c.args.self c.args.beside c.in-FlashId.is
    (put_bytes _ c.args.self c.args.beside.flash_id.0 (omega arith) c.put_hex-in-FlashId.ensures)

pub returns-in-FlashInfo : goal.returns-in-FlashInfo
unfolding value_by reply_given
returns-in-FlashInfo c =
    let whole : length c.args.beside.flash_info.0 ≡ 11 = search rules in
    at_reply _ c.args.self c.args.beside c.in-FlashInfo.is
    (put_bytes _ c.args.self c.args.beside.flash_info.0 (omega arith) c.put_hex-in-FlashInfo.ensures)

pub returns-in-Capability : goal.returns-in-Capability
unfolding value_by reply_given
returns-in-Capability c =
    let whole : length c.args.beside.capability.0 ≡ 8 = search rules in
    at_reply _ c.args.self c.args.beside c.in-Capability.is
    (put_bytes _ c.args.self c.args.beside.capability.0 (omega arith) c.put_hex-in-Capability.ensures)

pub returns-in-Sectors : goal.returns-in-Sectors
unfolding value_by reply_given
returns-in-Sectors c =
    let a = c.args in
    at_reply _ a.self a.beside c.in-Sectors.is c.put_transfer.ensures

pub returns-in-Nothing : goal.returns-in-Nothing
unfolding value_by reply_given
returns-in-Nothing c =
    let a = c.args in
    let dashed = put_dash _ a.self c.put.ensures in
    ⊎_elim (λ e. at_reply _ a.self a.beside e dashed) (λ e. at_reply _ a.self a.beside e.1 dashed) c.in-Nothing.is
