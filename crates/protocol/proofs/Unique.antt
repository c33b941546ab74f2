-- Two answers that reading a command allows are equal: each is read off what it tells.
use Prim.Native.Nat.{ℕ}
use mathlib.Core.Path.{◌≡◌, refl, ap, ap₂, sym, ◌∙◌}
use mathlib.Core.List.{List}
use lib.Dec.{eqb}
use lib.ListN.{get_or}
use Rattle.promise.specs.Told.{Told, given, refused, number}
use Rattle.promise.specs.Rules.{pick}
use Rattle.protocol.specs.declared.CommandBlock.{CommandBlock}
use Rattle.protocol.specs.declared.CommandBlockParseError.{CommandBlockParseError}
use Rattle.protocol.specs.declared.CommandBlockParseError.TheVariants.{InvalidSignature, UnknownCommandCode, UnknownFlags, InvalidLength}
use Rattle.protocol_bytes.specs.declared.signature.Parse.{Parse}
use Rattle.rule_number.specs.Number.{number_of}
use Rattle.protocol.specs.CommandMeets.{command_error_number, command_error_values, command_told, CommandMeets}
use Rattle.std.specs.Prelude.{Result}
use Rattle.std.specs.declared.result.Result.TheVariants.{Ok, Err}

-- the refusal that a number and its values name
unfoldable pub command_error_of : ℕ → List ℕ → CommandBlockParseError
command_error_of n values =
    pick (eqb n 1) (InvalidLength (get_or values 0 0)) (pick (eqb n 2) InvalidSignature (pick (eqb n 3) (UnknownFlags (get_or values 0 0)) (UnknownCommandCode (get_or values 0 0))))

pub command_error_of_lem : (e : CommandBlockParseError) (signature : List ℕ) → command_error_of (command_error_number e) (command_error_values e signature) ≡ e
unfolding command_error_of command_error_number command_error_values
command_error_of_lem (InvalidLength n) signature = refl
command_error_of_lem InvalidSignature signature = refl
command_error_of_lem (UnknownFlags byte) signature = refl
command_error_of_lem (UnknownCommandCode byte) signature = refl

abbrev answer_of : Told CommandBlock → Result CommandBlock CommandBlockParseError
answer_of (given b) = Ok b
answer_of (refused n values) = Err (command_error_of n values)

answer_of_lem : (a : Result CommandBlock CommandBlockParseError) (signature : List ℕ) → answer_of (command_told a signature) ≡ a
unfolding command_told
answer_of_lem (Ok b) signature = refl
answer_of_lem (Err e) signature = ap Err (command_error_of_lem e signature)

pub command_unique : (told : Told CommandBlock) (r s : Parse CommandBlock CommandBlockParseError) → CommandMeets r told → CommandMeets s told → r ≡ s
command_unique told r s p q =
    let answers : r.answer ≡ s.answer =
    sym (answer_of_lem r.answer r.signature) ∙ ap answer_of (p.tells ∙ sym q.tells) ∙ answer_of_lem s.answer s.signature in
    ap₂ (λ (a : Result CommandBlock CommandBlockParseError) (g : List ℕ). record { answer = a; signature = g }) answers (p.signature ∙ sym q.signature)

-- the number of what is read is the number of what it tells
pub command_answer_number : (r : Result CommandBlock CommandBlockParseError) (signature : List ℕ)
    → number (command_told r signature) ≡ number_of command_error_number r
unfolding number command_told
command_answer_number (Ok b) signature = refl
command_answer_number (Err error) signature = refl
