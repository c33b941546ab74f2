-- The run is the definition's, and its record is made the deal (`operated_deal`).
use Rattle.deck.proofs.VerdictLaws.{operated_deal}
use Rattle.deck.specs.Dealing.{operate}
use Rattle.deck.proofs.dealing.command.Goals as goal

pub returns : goal.returns
unfolding operate
returns c =
    let run = c.run_whole in
    operated_deal _ run.result _ _ c.args.store.now _ run.ensures c.operated.ensures
