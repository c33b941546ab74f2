-- Programs that the contract of one block rules out, whatever their proofs: each answer is refuted at a named block.
use Rattle.std.proofs.Common.{◌≡◌, ℕ, List, [], ◌∷◌, get_or, replicate, sym, ap, ◌∙◌, arith}
use Rattle.promise.specs.Told.{Told, number}
use Rattle.operation_finish.specs.declared.Beside.{Beside}
use Rattle.mock.specs.declared.device.MockState.{MockState}
use Rattle.deck_block.specs.declared.Request.{Request}
use Rattle.deck_block.proofs.Wrong.{unknown, read_unknown, unchecked, read_unchecked, read_none}
use Rattle.deck.specs.declared.verdict.Dealt.{Dealt}
use Rattle.deck.specs.Verdict.{verdict_told}
use Rattle.deck.specs.Deal.{Head, head, Deal, away, DealMeets}
use Rattle.deck.specs.Dealing.{deal_asked, deal_block}
use Rattle.std.specs.declared.result.Result.TheVariants.{Err}

-- no bytes at all are turned away by 44, a block of no kind by 41, one of kind 13 by 46
deals_none : (h : Head) → deal_block 1 [] h ≡ away 44 h
unfolding deal_block deal_asked
deals_none h = ap (λ (t : Told Request). deal_asked 1 t h) read_none

deals_unknown : (h : Head) → deal_block 1 unknown h ≡ away 41 h
unfolding deal_block deal_asked
deals_unknown h = ap (λ (t : Told Request). deal_asked 1 t h) read_unknown

deals_unchecked : (h : Head) → deal_block 1 unchecked h ≡ away 46 h
unfolding deal_block deal_asked
deals_unchecked h = ap (λ (t : Told Request). deal_asked 1 t h) read_unchecked

-- one verdict for all blocks
pub fixed_verdict : (r : Dealt) (flash store : List ℕ) (h : Head) → DealMeets r flash store (deal_block 1 [] h) → DealMeets r flash store (deal_block 1 unknown h) → ⊥
unfolding number
fixed_verdict r flash store h none some =
    let first : number (verdict_told r.verdict r.beside) ≡ 44 = ap number (none.tells ∙ ap (λ (d : Deal). d.told) (deals_none h)) in
    let second : number (verdict_told r.verdict r.beside) ≡ 41 = ap number (some.tells ∙ ap (λ (d : Deal). d.told) (deals_unknown h)) in
    omega arith

-- 41 told as 42
pub kind_refusal_renamed : (b : Beside) (d : MockState) (flash store : List ℕ) (h : Head)
    → DealMeets (record { verdict = Err (record { 0 = 42 }); beside = b; device = d }) flash store (deal_block 1 unknown h) → ⊥
unfolding verdict_told number
kind_refusal_renamed b d flash store h m =
    let z : ◌≡◌ {A = ℕ} 42 41 = ap number (m.tells ∙ ap (λ (x : Deal). x.told) (deals_unknown h)) in omega arith

-- a refused block that is written to the flash
pub refused_written : (r : Dealt) (d : MockState) (store : List ℕ) → DealMeets r (1 ∷ []) store (deal_block 1 [] (head d (0 ∷ []) store)) → ⊥
refused_written r d store m =
    let z : ◌≡◌ {A = ℕ} 1 0 = ap (λ (h : Head). get_or h.flash 0 0) (m.leaves ∙ ap (λ (x : Deal). x.leaves) (deals_none (head d (0 ∷ []) store))) in omega arith

-- an upload without a check still dealt: told as done, or put into the store
pub unchecked_as_done : (r : Dealt) (flash store : List ℕ) (h : Head) → number (verdict_told r.verdict r.beside) ≡ 0
    → DealMeets r flash store (deal_block 1 unchecked h) → ⊥
unfolding number
unchecked_as_done r flash store h done m =
    let z : ◌≡◌ {A = ℕ} 0 46 = sym done ∙ ap number (m.tells ∙ ap (λ (x : Deal). x.told) (deals_unchecked h)) in omega arith

-- (the image is empty, and two zeros fit into a slot of a store of 16 bytes)
pub unchecked_stored : (r : Dealt) (d : MockState) (flash : List ℕ)
    → DealMeets r flash (0 ∷ 0 ∷ replicate 14 0xFF) (deal_block 1 unchecked (head d flash (replicate 16 0xFF))) → ⊥
unchecked_stored r d flash m =
    let z : ◌≡◌ {A = ℕ} 0 0xFF =
    ap (λ (h : Head). get_or h.store 0 0) (m.leaves ∙ ap (λ (x : Deal). x.leaves) (deals_unchecked (head d flash (replicate 16 0xFF)))) in
    omega arith
