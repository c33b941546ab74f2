-- Two answers that the contract of an append allows are equal; and what an answer tells has its number.
use Prim.Native.Nat.{ℕ}
use mathlib.Core.Path.{◌≡◌, refl, ap, ap₂, sym, ◌∙◌}
use mathlib.Core.List.{List}
use lib.Dec.{eqb}
use Rattle.rule_number.specs.Number.{number_of}
use Rattle.promise.specs.Told.{Told, given, refused, number}
use Rattle.promise.specs.Rules.{pick}
use Rattle.mock_areas.specs.Append.{Appending, area_error_number, area_told, AppendMeets}
use Rattle.mock_areas.specs.declared.Areas.{Areas}
use Rattle.mock_areas.specs.declared.AreaStep.{AreaStep}
use Rattle.std.specs.Prelude.{Result}
use Rattle.mock_areas.specs.declared.AreaError.{AreaError}
use Rattle.std.specs.declared.result.Result.TheVariants.{Ok, Err}
use Rattle.mock_areas.specs.declared.AreaError.TheVariants as area_error

unfoldable pub area_answer : Told Unit → Result Unit AreaError
area_answer (given done) = Ok tt
area_answer (refused number values) = pick (eqb number 58) (Err area_error.NoSlot) (Err area_error.SlotFull)

pub area_answer_told : (a : Result Unit AreaError) → area_answer (area_told a) ≡ a
unfolding area_answer area_told
area_answer_told (Ok done) = refl
area_answer_told (Err area_error.NoSlot) = refl
area_answer_told (Err area_error.SlotFull) = refl

-- the number that the rules have for an answer
pub area_number : (a : Result Unit AreaError) → number (area_told a) ≡ number_of area_error_number a
unfolding number area_told
area_number (Ok done) = refl
area_number (Err area_error.NoSlot) = refl
area_number (Err area_error.SlotFull) = refl

pub append_unique : (r s : AreaStep) (after later : List ℕ) (a : Appending) → AppendMeets r after a → AppendMeets s later a → (r ≡ s) × (after ≡ later)
append_unique r s after later a m n =
    let answers : r.answer ≡ s.answer =
    sym (area_answer_told r.answer) ∙ ap area_answer (m.tells ∙ sym n.tells) ∙ area_answer_told s.answer in
    (ap₂ (λ (x : Result Unit AreaError) (y : Areas). record { answer = x; areas = y }) answers (m.next ∙ sym n.next), m.leaves ∙ sym n.leaves)
