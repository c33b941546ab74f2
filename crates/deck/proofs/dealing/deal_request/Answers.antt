-- Each arm does what the definition has for its request; the bounds of 43 hold of it.
use Rattle.std.proofs.Common.{subst}
use Rattle.deck_block.specs.Reading.{Fits}
use Rattle.deck.specs.Dealing.{carry_out}
use Rattle.deck.proofs.DealingLaws.{as_request, plain}
use borrow.Enum.Refused.{opened}
use Rattle.deck.proofs.dealing.deal_request.Goals as goal

pub read_sectors-requires : goal.read_sectors-requires
unfolding carry_out Fits
read_sectors-requires c = subst Fits c.in-ReadLba.is c.requires

pub returns-in-ReadLba : goal.returns-in-ReadLba
unfolding carry_out Fits
returns-in-ReadLba c = as_request _ _ _ _ _ _ _ c.in-ReadLba.is c.read_sectors.ensures

pub write_sectors-requires : goal.write_sectors-requires
unfolding carry_out Fits
write_sectors-requires c = subst Fits c.in-WriteLba.is c.requires

pub returns-in-WriteLba : goal.returns-in-WriteLba
unfolding carry_out Fits
returns-in-WriteLba c = as_request _ _ _ _ _ _ _ c.in-WriteLba.is c.write_sectors.ensures

pub upload_filled-requires : goal.upload_filled-requires
unfolding carry_out Fits
upload_filled-requires c = subst Fits c.in-WriteArea.is c.requires

pub returns-in-WriteArea : goal.returns-in-WriteArea
unfolding carry_out Fits
returns-in-WriteArea c = as_request _ _ _ _ _ _ _ c.in-WriteArea.is c.upload_filled.ensures

pub returns-in_default : goal.returns-in_default
unfolding carry_out Fits
returns-in_default c = plain _ _ _ _ _ _ _ (opened c.in_default.in_default-own.keys4) c.plain_start.ensures c.command.ensures
