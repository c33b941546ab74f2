-- A block is refused by 40 to 46 and by nothing else.
use Prim.Native.Nat.{ℕ}
use mathlib.Core.Path.{refl}
use mathlib.Core.Bool.{not}
use mathlib.Core.List.{List, []}
use borrow.Author.Tests.{not-false}
use lib.ListN.{length}
use lib.Dec.{eqb, ltb}
use Rattle.promise.specs.Told.{Told, given, refused}
use Rattle.promise.specs.Rules.{or_refuse}
use Rattle.promise.specs.Bytes.{field}
use Rattle.promise.proofs.Outcome.{by_test}
use Rattle.protocol_codes.specs.declared.ResetOpcode.{ResetOpcode}
use Rattle.protocol_codes.specs.Reading.{reset_of}
use Rattle.deck_block.specs.Block.{block_length, fields_of, block_check, all_zero, is_kind, unchecked_kind, too_large}
use Rattle.deck_block.specs.Reading.{asks_reset, reset_request, read_by, read_card}
use Rattle.deck_block.proofs.ByKind.{by_kind}
use Rattle.deck_block.specs.Refusals.{CardTold}

reset_told_lem : (told : Told ResetOpcode) → CardTold (asks_reset told)
unfolding asks_reset
reset_told_lem (given opcode) = tt
reset_told_lem (refused n values) = refl

pub card_told_lem : (tag : ℕ) (block : List ℕ) → CardTold (read_card tag block)
unfolding read_by reset_request or_refuse
card_told_lem tag block =
    let f = fields_of block in
    by_test CardTold (ltb (length block) block_length) {a = refused 44 []} (λ e. refl)
    (λ long. by_test CardTold (not (eqb f.check (block_check tag block))) {a = refused 40 []} (λ e. refl)
    (λ right. by_test CardTold (eqb f.kind unchecked_kind) {a = refused 46 []} (λ e. refl)
    (λ today. by_test CardTold (not (is_kind f.kind)) {a = refused 41 []} (λ e. refl)
    (λ kind. by_test CardTold (not (all_zero (field 8 502 block))) {a = refused 42 []} (λ e. refl)
    (λ zeros. by_test CardTold (too_large f) {a = refused 43 []} (λ e. refl)
    (λ small.
    by_kind CardTold f (not-false (is_kind f.kind) kind) tt tt tt tt tt tt (λ e. tt) (λ e. tt) (reset_told_lem (reset_of f.byte)) tt tt (λ e. tt)))))))
