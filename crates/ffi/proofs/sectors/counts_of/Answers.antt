-- By cases on the transfer.
use mathlib.Core.Path.{ap, sym}
use Rattle.ffi.specs.Sectors.{counts_of}
use Rattle.ffi.proofs.sectors.counts_of.Goals as goal

pub returns-in-Whole : goal.returns-in-Whole
unfolding counts_of
returns-in-Whole c = sym (ap counts_of c.in-Whole.is)

pub returns-in-Short : goal.returns-in-Short
unfolding counts_of
returns-in-Short c = sym (ap counts_of c.in-Short.is)
