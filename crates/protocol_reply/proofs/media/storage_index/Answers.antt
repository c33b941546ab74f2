-- As many places are set as the word has ones, and one alone is counted by the trailing zeros.
use Prim.Native.Nat.{◌<◌, ◌^◌}
use mathlib.Core.Path.{ap, sym, ◌∙◌}
use native.Mathlib.Nat.{zero-add}
use borrow.Author.Rules.{rules}
use Rattle.promise.specs.Told.{given}
use Rattle.protocol_reply.specs.Media.{places_set, only_place, read_storage, storage_told}
use Rattle.protocol_reply.proofs.Places.{places_count, one_place, not_one}
use Rattle.protocol_reply.proofs.media.storage_index.Goals as goal

pub returns-then-word-ne1 : goal.returns-then-word-ne1
unfolding read_storage storage_told
returns-then-word-ne1 c =
    let word = c.u32_from_le_bytes-word in
    let small : word.result < 2 ^ 32 = search rules in
    rw (← word.ensures) (sym (not_one (places_set 32 0 word.result) (λ one. c.if-word-ne1.true (sym (places_count 32 0 word.result small) ∙ one))))

pub returns : goal.returns
unfolding read_storage storage_told only_place
returns c =
    let word = c.u32_from_le_bytes-word in
    let small : word.result < 2 ^ 32 = search rules in
    rw (← word.ensures, one_place 32 0 word.result small c.if-word-ne1.false, zero-add) (ap given c.from.ensures)
