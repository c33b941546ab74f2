-- A register's high byte xor a byte is an index below 256; the entry there and the low byte moved up make the definition's step (`bytewise`).
use Rattle.std.proofs.Common.{◌≡◌, ℕ, ◌*◌, ◌/◌, ◌%◌, List, get_or, ap, sym, ◌∙◌, arith}
use lib.Bits.{bit_xor, xor_lt}
use Rattle.crc.specs.Table.{crc_table, entry}
use Rattle.crc.proofs.Bytewise.{bytewise, rows_at}
use Rattle.crc.proofs.byte_step.Goals as goal

pub returns : goal.returns
unfolding crc_table
returns c =
    let at = bit_xor (c.args.crc / 256) c.args.byte in
    let found : get_or c.args.t.now at 0 ≡ entry at =
    ap (λ (l : List ℕ). get_or l at 0) c.requires ∙ rows_at entry 256 at (xor_lt 8 (c.args.crc / 256) c.args.byte (omega arith) (omega arith)) in
    ap (bit_xor (c.args.crc % 256 * 256)) found ∙ sym (bytewise c.args.crc c.args.byte (omega arith))
