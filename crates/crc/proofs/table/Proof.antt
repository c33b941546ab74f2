-- The constant is the computed list: the rule of the table, shown once over all 256 entries.
use mathlib.Core.Path.{refl}
use Rattle.crc.specs.Check.{byte_step, bits_step, bit_step}
use Rattle.crc.specs.Table.{rows, entry, crc_table}
use Rattle.crc.proofs.table.Statement.{statement}
use Rattle.crc.proofs.table.Tie as tie

returns : tie.Need-returns
unfolding crc_table rows entry byte_step bits_step bit_step
returns c = refl

pub table_spec : {M : Type 1} → statement M
table_spec = tie.close (tie.spec returns)
