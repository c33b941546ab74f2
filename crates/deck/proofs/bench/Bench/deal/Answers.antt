-- The block is dealt with the next tag, whatever comes of it.
use Rattle.std.proofs.Common.{refl}
use Rattle.deck.proofs.bench.Bench.deal.Goals as goal

pub returns : goal.returns
returns c =
    let m = c.deal_block-dealt.ensures in
    record {
      tells = m.tells;
      beside = m.beside;
      leaves = m.leaves;
      number = refl;
      tag = refl;
    }
