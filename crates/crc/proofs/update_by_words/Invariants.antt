-- Eight bytes after eight go into 64 bits (`next_word`): what their register makes of the bytes that are left stays what the start makes of all of
-- them.
use Rattle.std.proofs.Common.{◌≡◌, ◌+◌, ◌*◌, drop}
use Rattle.crc.specs.Check.{bits_step, crc_over}
use Rattle.crc.proofs.update_by_words.Given as goal

abbrev pub invariant-loop-word : goal.invariant-loop-word
invariant-loop-word l = crc_over (bits_step 0 64 l.bits) (drop ((l.word-index + 1) * 8) l.bytes) ≡ crc_over l.crc l.bytes
