-- Number and values tell the answer: a decoder takes each back.
use mathlib.Core.Path.{◌≡◌, refl, ap, sym, ◌∙◌}
use lib.Dec.{eqb}
use Rattle.promise.specs.Told.{Told, given, refused, number}
use Rattle.promise.specs.Rules.{pick}
use Rattle.deck_block.specs.declared.Request.{Request}
use Rattle.deck_block.specs.Reading.{card_error_number, card_told}
use Rattle.rule_number.specs.Number.{number_of}
use Rattle.std.specs.Prelude.{Result}
use Rattle.deck_block.specs.declared.CardError.{CardError}
use Rattle.std.specs.declared.result.Result.TheVariants.{Ok, Err}
use Rattle.deck_block.specs.declared.CardError.TheVariants as card_error

unfoldable pub answer_of : Told Request → Result Request CardError
answer_of (given r) = Ok r
answer_of (refused n values) =
    pick (eqb n 44) (Err card_error.Short)
    (pick (eqb n 40) (Err card_error.BadCheck)
    (pick (eqb n 46) (Err card_error.WithdrawnKind)
    (pick (eqb n 41) (Err card_error.UnknownKind)
    (pick (eqb n 42) (Err card_error.NotZero)
    (pick (eqb n 43) (Err card_error.TooLarge)
    (Err card_error.UnknownReset))))))

pub answer_back : (a : Result Request CardError) → answer_of (card_told a) ≡ a
unfolding answer_of card_told
answer_back (Ok r) = refl
answer_back (Err card_error.Short) = refl
answer_back (Err card_error.BadCheck) = refl
answer_back (Err card_error.WithdrawnKind) = refl
answer_back (Err card_error.UnknownKind) = refl
answer_back (Err card_error.NotZero) = refl
answer_back (Err card_error.TooLarge) = refl
answer_back (Err card_error.UnknownReset) = refl

-- `read_card` has one answer
pub one_answer : (a b : Result Request CardError) (told : Told Request) → card_told a ≡ told → card_told b ≡ told → a ≡ b
one_answer a b told p q = sym (answer_back a) ∙ ap answer_of (p ∙ sym q) ∙ answer_back b

-- the number of an answer is the number of what it tells
pub card_answer_number : (r : Result Request CardError) → number (card_told r) ≡ number_of card_error_number r
unfolding number card_told
card_answer_number (Ok request) = refl
card_answer_number (Err card_error.Short) = refl
card_answer_number (Err card_error.BadCheck) = refl
card_answer_number (Err card_error.WithdrawnKind) = refl
card_answer_number (Err card_error.UnknownKind) = refl
card_answer_number (Err card_error.NotZero) = refl
card_answer_number (Err card_error.TooLarge) = refl
card_answer_number (Err card_error.UnknownReset) = refl
