-- Each arm is the definition at its kind; the last is what is none of the others.
use mathlib.Core.Path.{ap}
use Rattle.std.proofs.Common.{rules, arith}
use Rattle.std.proofs.lemmas.Bool.Decides.{nat_tests}
use Rattle.promise.specs.Told.{given}
use Rattle.deck_block.specs.Reading.{card_told, request_of}
use Rattle.deck_block.proofs.request_of.Goals as goal

pub returns-in-1 : goal.returns-in-1
unfolding card_told request_of
returns-in-1 c = rw c.in-1.is

pub returns-in-2 : goal.returns-in-2
unfolding card_told request_of
returns-in-2 c = rw c.in-2.is

pub returns-in-3 : goal.returns-in-3
unfolding card_told request_of
returns-in-3 c = rw c.in-3.is

pub returns-in-4 : goal.returns-in-4
unfolding card_told request_of
returns-in-4 c = rw c.in-4.is

pub returns-in-5 : goal.returns-in-5
unfolding card_told request_of
returns-in-5 c = rw c.in-5.is

pub returns-in-6 : goal.returns-in-6
unfolding card_told request_of
returns-in-6 c = rw c.in-6.is

pub returns-in-7 : goal.returns-in-7
unfolding card_told request_of
returns-in-7 c = rw c.in-7.is

pub returns-in-8 : goal.returns-in-8
unfolding card_told request_of
returns-in-8 c = rw c.in-8.is

pub returns-in_err-request-in-9 : goal.returns-in_err-request-in-9
unfolding card_told request_of
returns-in_err-request-in-9 c = rw c.in-9.is (search rules)

pub returns-in_ok-request-in-9 : goal.returns-in_ok-request-in-9
unfolding card_told request_of
returns-in_ok-request-in-9 c = rw c.in-9.is c.in_ok-request-in-9.ensures

pub returns-in-10 : goal.returns-in-10
unfolding card_told request_of
returns-in-10 c = rw c.in-10.is

pub returns-in-11 : goal.returns-in-11
unfolding card_told request_of
returns-in-11 c = rw c.in-11.is (ap given c.switch_request-request.ensures)

pub returns-in_default : goal.returns-in_default
unfolding card_told request_of
returns-in_default c = grind (arith, nat_tests)
