-- Each refusal is the first broken rule, in the order of the definition.
use mathlib.Core.Path.{◌≡◌}
use Rattle.promise.specs.Told.{given}
use Rattle.protocol_status.specs.StatusBytes.{read_status}
use Rattle.operation_finish.specs.Finish.{judged, finishes_by}
use Rattle.operation_finish.proofs.Cases.{unread, block_read, refused_15, refused_10, finish_15, finish_10, finish_reply}
use Rattle.operation_finish.proofs.finish_of.Goals as goal

pub returns-in-Err : goal.returns-in-Err
unfolding finishes_by
returns-in-Err c =
    let a = c.args in
    rw c.failed.ensures
    (unread c.from_bytes-parse.result (read_status a.status) c.in-Err.error c.from.result c.from_bytes-parse.ensures c.in-Err.is
    c.from.ensures (judged a.kind a.tag a.length a.inband))

pub returns-in_default : goal.returns-in_default
returns-in_default c =
    let read : read_status c.args.status ≡ given c.in-Ok.report = block_read _ _ _ _ c.from_bytes-parse.ensures.tells c.in-Ok.is in
    rw (c.failed-in_default.ensures, finish_15 _ _ _ _ _ _ read c.in_default.is) refused_15

pub returns-then-report-tag : goal.returns-then-report-tag
returns-then-report-tag c =
    let read : read_status c.args.status ≡ given c.in-Ok.report = block_read _ _ _ _ c.from_bytes-parse.ensures.tells c.in-Ok.is in
    rw (c.failed-then-report-tag.ensures, finish_10 _ _ _ _ _ _ read c.in-SUCCESS.is c.if-report-tag.true) refused_10

pub returns : goal.returns
returns c =
    let read : read_status c.args.status ≡ given c.in-Ok.report = block_read _ _ _ _ c.from_bytes-parse.ensures.tells c.in-Ok.is in
    rw (finish_reply _ _ _ _ _ _ read c.in-SUCCESS.is c.if-report-tag.false) c.reply_of.ensures
