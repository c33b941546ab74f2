-- A short block and one of another kind stay; one of kind 13 is converted where it is read as withdrawn, and left where it is not.
use Rattle.std.proofs.Common.{◌≡◌, true, false, sym, refl, ap, ◌∙◌, rules}
use Rattle.deck_block.specs.Block.{fields_of}
use Rattle.deck_block.specs.Place.{tag_after}
use Rattle.deck_block.specs.Reading.{card_told}
use Rattle.deck_convert.proofs.OneBlock.{short_neither, other_neither, by_check, withdrawn_right, other_wrong, block_meets}
use Rattle.std.specs.declared.result.Result.TheVariants.{Err}
use Rattle.deck_block.specs.declared.CardError.TheVariants as card_error
use Rattle.deck_convert.proofs.Convert.convert_block.Goals as goal
use Rattle.deck_convert.proofs.Convert.convert_block.Goals.{in_default-via-in-Err+in_default, in_default-via-in_default}

pub returns-then-block-lt-BLOCK : goal.returns-then-block-lt-BLOCK
returns-then-block-lt-BLOCK c =
    let a = c.args in
    block_meets _ _ a.block.now a.self _ false false refl
    (short_neither (tag_after a.self.tag) a.block.now c.if-block-lt-BLOCK.true) refl refl

pub returns-then-block-ne-WITHDRAWN : goal.returns-then-block-ne-WITHDRAWN
unfolding fields_of
returns-then-block-ne-WITHDRAWN c =
    let a = c.args in
    let tag = tag_after c.args.self.tag in
    block_meets _ _ a.block.now a.self _ false false refl
    (other_neither tag a.block.now c.if-block-lt-BLOCK.false c.if-block-ne-WITHDRAWN.true) refl refl

other_answer : (c : goal.After-struct_known-in_default-1) → c.read_card.result ≡ Err card_error.WithdrawnKind → ⊥
other_answer c e = elim c.in_default.branch [ in_default-via-in-Err+in_default w ↦ search rules | in_default-via-in_default w ↦ absurd (cc (e, w.in_default.is)) ]

pub returns-in_default : goal.returns-in_default
unfolding fields_of
returns-in_default c =
    let long = c.if-block-lt-BLOCK.false in
    let tag = tag_after c.args.self.tag in
    let a = c.args in
    let wrong = other_wrong tag a.block.now long c.if-block-ne-WITHDRAWN.false _ (other_answer c) c.read_card.ensures in
    block_meets _ _ a.block.now a.self _ false true refl
    (by_check tag a.block.now long c.if-block-ne-WITHDRAWN.false false wrong)
    refl refl

pub returns : goal.returns
unfolding fields_of
returns c =
    let long = c.if-block-lt-BLOCK.false in
    let tag = tag_after c.args.self.tag in
    let a = c.args in
    let withdrawn : c.read_card.result ≡ Err card_error.WithdrawnKind = c.in-Err-WithdrawnKind.is ∙ ap Err c.in-Err-WithdrawnKind.field-0-is in
    let right =
    withdrawn_right tag a.block.now long c.if-block-ne-WITHDRAWN.false
    (sym (ap card_told withdrawn) ∙ c.read_card.ensures) in
    block_meets _ _ a.block.now a.self _ true false refl
    (by_check tag a.block.now long c.if-block-ne-WITHDRAWN.false true right)
    refl c.to_upload.ensures
