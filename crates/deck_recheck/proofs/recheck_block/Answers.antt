-- A wrong first check leaves the block as it was; over a right one the new one is put.
use Rattle.std.proofs.Common.{sym, refl, ◌∙◌}
use Rattle.deck_block.proofs.Put.{put_right}
use Rattle.deck_recheck.proofs.recheck_block.Goals as goal

pub has_first_check-requires : goal.has_first_check-requires
has_first_check-requires c = c.requires

pub returns-then-not-has_first_check : goal.returns-then-not-has_first_check
returns-then-not-has_first_check c =
    record {
      right = sym c.if-not-has_first_check.true ∙ c.has_first_check.ensures;
      leaves = refl;
    }

pub shape_of-block : goal.shape_of-block
shape_of-block c = c.put_check.auto.block

pub returns : goal.returns
returns c =
    let looked = c.has_first_check in
    record {
      right = sym c.if-not-has_first_check.false ∙ looked.ensures;
      leaves =
          c.put_check.ensures
          ∙ put_right c.args.tag _ c.args.block.now c.requires c.block_check-check.ensures;
    }
