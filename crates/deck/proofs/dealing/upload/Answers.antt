-- The run is the definition's, and its record is made the deal (`loaded_deal`).
use Rattle.deck.proofs.VerdictLaws.{loaded_deal}
use Rattle.deck.specs.Dealing.{load_of}
use Rattle.deck.proofs.dealing.upload.Goals as goal

pub returns : goal.returns
unfolding load_of
returns c =
    let run = c.run_whole_upload in
    loaded_deal _ run.result c.args.flash.now _ _ run.ensures c.loaded.ensures
