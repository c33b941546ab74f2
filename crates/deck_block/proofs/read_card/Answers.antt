-- Each way out is the first broken rule, every earlier one having been met on the way there.
use mathlib.Core.Path.{◌≡◌, ap, sym, ◌∙◌}
use mathlib.Core.Bool.{true, false}
use borrow.Author.Tests.{lt-ltb, le-ltb, eq-eqb, ne_eqb}
use lib.ListN.{length}
use lib.Dec.{ltb, eqb}
use Rattle.promise.specs.Rules.{or_refuse}
use Rattle.promise.specs.Bytes.{field}
use Rattle.deck_block.specs.declared.Fields.{Fields}
use Rattle.deck_block.specs.Block.{fields_of, block_check, all_zero, is_kind, unchecked_kind, too_large}
use Rattle.deck_block.specs.Reading.{card_told, request_of, read_by}
use Rattle.deck_block.proofs.read_card.Goals as goal
use Rattle.deck_block.proofs.read_card.Goals.{After-fields_of-f, Else-block-lt-CARD_BYTES, Else-f-block_check, Else-f-eq-WITHDRAWN, Else-not-all_zero, Else-not-is_kind}

long : (c : Else-block-lt-CARD_BYTES) → ltb (length c.args.block.now) 512 ≡ false
long c = le-ltb (length c.args.block.now) 512 c.if-block-lt-CARD_BYTES.false

fields : (c : After-fields_of-f) → c.fields_of-f.result ≡ fields_of c.args.block.now
fields c = c.fields_of-f.ensures

right : (c : Else-f-block_check) → eqb (fields_of c.args.block.now).check (block_check c.args.tag c.args.block.now) ≡ true
right c =
    eq-eqb _ _ (ap (λ (f : Fields). f.check) (sym c.fields_of-f.ensures) ∙ c.if-f-block_check.false ∙ c.block_check.ensures)

today : (c : Else-f-eq-WITHDRAWN) → eqb (fields_of c.args.block.now).kind unchecked_kind ≡ false
today c = ne_eqb _ _ (λ same. c.if-f-eq-WITHDRAWN.false (ap (λ (f : Fields). f.kind) c.fields_of-f.ensures ∙ same))

kind : (c : Else-not-is_kind) → is_kind (fields_of c.args.block.now).kind ≡ true
kind c =
    ap (λ (f : Fields). is_kind f.kind) (sym c.fields_of-f.ensures)
    ∙ sym c.is_kind.ensures ∙ c.if-not-is_kind.false

zero_rest : (c : Else-not-all_zero) → all_zero (field 8 502 c.args.block.now) ≡ true
zero_rest c = sym c.all_zero.ensures ∙ c.if-not-all_zero.false

pub returns-then-block-lt-CARD_BYTES : goal.returns-then-block-lt-CARD_BYTES
unfolding card_told read_by or_refuse
returns-then-block-lt-CARD_BYTES c = rw (lt-ltb (length c.args.block.now) 512 c.if-block-lt-CARD_BYTES.true)

pub returns-then-f-block_check : goal.returns-then-f-block_check
unfolding card_told read_by or_refuse
returns-then-f-block_check c =
    let wrong : eqb (fields_of c.args.block.now).check (block_check c.args.tag c.args.block.now) ≡ false =
    ne_eqb _ _ (λ same. c.if-f-block_check.true (ap (λ (f : Fields). f.check) (fields (goal.at.returns-then-f-block_check c).After-fields_of-f) ∙ same ∙ sym c.block_check.ensures)) in
    rw (long (goal.at.returns-then-f-block_check c).Else-block-lt-CARD_BYTES, wrong)

pub returns-then-f-eq-WITHDRAWN : goal.returns-then-f-eq-WITHDRAWN
unfolding card_told read_by or_refuse
returns-then-f-eq-WITHDRAWN c =
    let withdrawn : eqb (fields_of c.args.block.now).kind unchecked_kind ≡ true =
    eq-eqb _ _ (ap (λ (f : Fields). f.kind) (sym (fields (goal.at.returns-then-f-eq-WITHDRAWN c).After-fields_of-f)) ∙ c.if-f-eq-WITHDRAWN.true) in
    rw (long (goal.at.returns-then-f-eq-WITHDRAWN c).Else-block-lt-CARD_BYTES, right (goal.at.returns-then-f-eq-WITHDRAWN c).Else-f-block_check, withdrawn)

pub returns-then-not-is_kind : goal.returns-then-not-is_kind
unfolding card_told read_by or_refuse
returns-then-not-is_kind c =
    let unknown : is_kind (fields_of c.args.block.now).kind ≡ false =
    ap (λ (f : Fields). is_kind f.kind) (sym (fields (goal.at.returns-then-not-is_kind c).After-fields_of-f))
    ∙ sym c.is_kind.ensures ∙ c.if-not-is_kind.true in
    rw (long (goal.at.returns-then-not-is_kind c).Else-block-lt-CARD_BYTES, right (goal.at.returns-then-not-is_kind c).Else-f-block_check, today (goal.at.returns-then-not-is_kind c).Else-f-eq-WITHDRAWN, unknown)

pub returns-then-not-all_zero : goal.returns-then-not-all_zero
unfolding card_told read_by or_refuse
returns-then-not-all_zero c =
    let other : all_zero (field 8 502 c.args.block.now) ≡ false = sym c.all_zero.ensures ∙ c.if-not-all_zero.true in
    rw (long (goal.at.returns-then-not-all_zero c).Else-block-lt-CARD_BYTES, right (goal.at.returns-then-not-all_zero c).Else-f-block_check, today (goal.at.returns-then-not-all_zero c).Else-f-eq-WITHDRAWN, kind (goal.at.returns-then-not-all_zero c).Else-not-is_kind, other)

pub returns-then-too_large : goal.returns-then-too_large
unfolding card_told read_by or_refuse
returns-then-too_large c =
    let large : too_large (fields_of c.args.block.now) ≡ true =
    ap too_large (sym (fields (goal.at.returns-then-too_large c).After-fields_of-f)) ∙ sym c.too_large.ensures ∙ c.if-too_large.true in
    rw (long (goal.at.returns-then-too_large c).Else-block-lt-CARD_BYTES, right (goal.at.returns-then-too_large c).Else-f-block_check, today (goal.at.returns-then-too_large c).Else-f-eq-WITHDRAWN, kind (goal.at.returns-then-too_large c).Else-not-is_kind, zero_rest (goal.at.returns-then-too_large c).Else-not-all_zero, large)

pub returns : goal.returns
unfolding read_by or_refuse
returns c =
    let small : too_large (fields_of c.args.block.now) ≡ false =
    ap too_large (sym (fields (goal.at.returns c).After-fields_of-f)) ∙ sym c.too_large.ensures ∙ c.if-too_large.false in
    rw (long (goal.at.returns c).Else-block-lt-CARD_BYTES, right (goal.at.returns c).Else-f-block_check, today (goal.at.returns c).Else-f-eq-WITHDRAWN, kind (goal.at.returns c).Else-not-is_kind, zero_rest (goal.at.returns c).Else-not-all_zero, small) (c.request_of.ensures ∙ ap request_of (fields (goal.at.returns c).After-fields_of-f))
