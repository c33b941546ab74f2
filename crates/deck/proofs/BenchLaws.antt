-- The flash at the start of a bench, by the answer that the code makes.
use Rattle.std.proofs.Common.{◌≡◌, ℕ, List, length, replicate, refl, ap, arith}
use Rattle.promise.specs.Told.{Told, given, refused}
use Rattle.mock_base.specs.Told.{result_told, Answers}
use Rattle.mock_base.specs.Config.{default_byte}
use Rattle.mock_base.specs.declared.error.MockAnswer.{MockAnswer}
use Rattle.mock_base.specs.declared.error.MockTransportError.{MockTransportError}
use Rattle.deck.specs.Bench.{start_flash}
use Rattle.std.specs.Prelude.{Result}
use Rattle.std.specs.declared.result.Result.TheVariants.{Ok, Err}

pub refused_left : (a : MockAnswer) (error : MockTransportError) (told : Told Unit) (flash : List ℕ) → Answers a told → a.result ≡ Err error
    → flash ≡ start_flash told flash
unfolding start_flash result_told
refused_left a error (given done) flash m e =
    let z : ◌≡◌ {A = ℕ} 0 1 = cc (m.tells, ap (λ (r : Result Unit MockTransportError). result_told r a.signature) e) in absurd (omega arith)
refused_left a error (refused n values) flash m e = refl

pub done_cleared : (a : MockAnswer) (done : Unit) (told : Told Unit) (flash : List ℕ) → Answers a told → a.result ≡ Ok done
    → replicate (length flash) default_byte ≡ start_flash told flash
unfolding start_flash result_told
done_cleared a _ (given done) flash m e = refl
done_cleared a _ (refused n values) flash m e =
    let z : ◌≡◌ {A = ℕ} 0 1 = cc (m.tells, ap (λ (r : Result Unit MockTransportError). result_told r a.signature) e) in absurd (omega arith)
