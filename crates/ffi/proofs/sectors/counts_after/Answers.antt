-- A refusal tells no counts, and a reply its own.
use mathlib.Core.Path.{ap, sym, ◌∙◌}
use Rattle.deck.specs.Verdict.{verdict_told}
use Rattle.ffi.specs.Sectors.{counts_after}
use Rattle.ffi.proofs.sectors.counts_after.Goals as goal
use Rattle.std.specs.Prelude.{Result}
use Rattle.operation_finish.specs.declared.UsbReply.{UsbReply}
use Rattle.deck.specs.declared.verdict.RefusalNumber.{RefusalNumber}

pub returns-in_default : goal.returns-in_default
unfolding counts_after verdict_told
returns-in_default c b = sym (ap (λ (v : Result UsbReply RefusalNumber). counts_after (verdict_told v b) c.args.before) c.in_default.is)

pub returns : goal.returns
unfolding verdict_told
returns c b =
    let a = c.args in
    c.counts_in.ensures b ∙ sym (ap (λ (v : Result UsbReply RefusalNumber). counts_after (verdict_told v b) a.before) c.in-Ok.is)
