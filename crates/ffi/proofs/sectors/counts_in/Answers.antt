-- A reply of another kind tells no counts.
use mathlib.Core.Path.{ap, sym, ◌∙◌}
use Rattle.promise.specs.Told.{given}
use Rattle.operation_finish.specs.Reply.{reply_given}
use Rattle.operation_finish.specs.declared.UsbReply.{UsbReply}
use Rattle.ffi.specs.Sectors.{counts_after}
use Rattle.ffi.proofs.SectorsTold.{no_transfer}
use borrow.Enum.Refused.{opened}
use Rattle.ffi.proofs.sectors.counts_in.Goals as goal

pub returns-in_default : goal.returns-in_default
returns-in_default c b = no_transfer c.args.reply b c.args.before (opened c.in_default.in_default-own.keys2)

pub returns : goal.returns
unfolding counts_after reply_given
returns c b =
    let a = c.args in
    c.counts_of.ensures ∙ sym (ap (λ (r : UsbReply). counts_after (given (reply_given r b)) a.before) c.in-Sectors.is)
