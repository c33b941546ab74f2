-- What the register makes of the bytes that are left stays what the start makes of all of them.
use Rattle.std.proofs.Common.{◌≡◌, drop}
use Rattle.crc.specs.Check.{crc_over}
use Rattle.crc.proofs.over_bytes.Given as goal

abbrev pub invariant-loop-byte : goal.invariant-loop-byte
invariant-loop-byte l = crc_over l.c (drop l.byte-index l.bytes) ≡ crc_over l.crc l.bytes
