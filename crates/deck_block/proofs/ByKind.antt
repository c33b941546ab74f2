-- A request kind after kind: what is none of the first eleven is 12. And what stands behind a block that asks for something.
use Prim.Native.Nat.{ℕ, suc, ◌≤◌}
use mathlib.Core.Path.{◌≡◌, refl, ap, ◌∙◌}
use mathlib.Core.Bool.{Bool, true, false}
use mathlib.Core.List.{List, []}
use native.Mathlib.Omega.{arith}
use borrow.Author.Tests.{ltb-false, leb-true, eqb-true, eqb-false, not-false}
use lib.ListN.{length}
use lib.Dec.{eqb, ltb}
use Rattle.promise.specs.Told.{Told, given}
use Rattle.promise.specs.Rules.{or_refuse, pick, unless}
use Rattle.protocol_bytes.proofs.Given.{rule_met}
use Rattle.promise.proofs.Outcome.{by_test, on_test}
use Rattle.deck_block.specs.declared.Fields.{Fields}
use Rattle.deck_block.specs.declared.Request.{Request}
use Rattle.deck_block.specs.declared.Request.TheVariants as request
use Rattle.deck_block.specs.Block.{block_length, fields_of, is_kind}
use Rattle.deck_block.specs.Reading.{reset_request, switch_request, request_of, read_by, read_card, Passed}

-- a kind from `i` up that is not `i` is further up
further : (i k : ℕ) → i ≤ k → eqb k i ≡ false → suc i ≤ k
further i k low e = let other = eqb-false k i e in omega arith

known : (k : ℕ) → is_kind k ≡ true → (1 ≤ k) × (k ≤ 12)
unfolding is_kind
known k h =
    on_test (ltb k 1)
    (λ e. let z : false ≡ true = rw e at h in let n : ◌≡◌ {A = ℕ} 0 1 = ap (λ (b : Bool). pick b 1 0) z in absurd (omega arith))
    (λ e. let l = ltb-false k 1 e in (l, leb-true k 12 (rw e at h)))

-- what holds of every request that the fields can ask for holds of the one that they ask for
pub by_kind : (P : Told Request → Type 0) (f : Fields) → is_kind f.kind ≡ true
    → P (given request.ChipInfo) → P (given request.FlashId) → P (given request.FlashInfo) → P (given request.Capability)
    → P (given (request.EraseLba f.word f.half)) → P (given (request.EraseForce f.word f.half))
    → (f.kind ≡ 7 → P (given (request.ReadLba f.word f.half))) → (f.kind ≡ 8 → P (given (request.WriteLba f.word f.half f.byte)))
    → P (reset_request f.byte) → P (given request.Storage) → P (given (switch_request f.byte))
    → (f.kind ≡ 12 → P (given (request.WriteArea f.half f.word f.byte)))
    → P (request_of f)
unfolding request_of
by_kind P f h chip id info capability erase force read write reset storage switch upload =
    let k = f.kind in
    let bounds = known k h in
    by_test P (eqb k 1) (λ e. chip) (λ e1. let l1 = further 1 k bounds.0 e1 in
    by_test P (eqb k 2) (λ e. id) (λ e2. let l2 = further 2 k l1 e2 in
    by_test P (eqb k 3) (λ e. info) (λ e3. let l3 = further 3 k l2 e3 in
    by_test P (eqb k 4) (λ e. capability) (λ e4. let l4 = further 4 k l3 e4 in
    by_test P (eqb k 5) (λ e. erase) (λ e5. let l5 = further 5 k l4 e5 in
    by_test P (eqb k 6) (λ e. force) (λ e6. let l6 = further 6 k l5 e6 in
    by_test P (eqb k 7) (λ e. read (eqb-true k 7 e)) (λ e7. let l7 = further 7 k l6 e7 in
    by_test P (eqb k 8) (λ e. write (eqb-true k 8 e)) (λ e8. let l8 = further 8 k l7 e8 in
    by_test P (eqb k 9) (λ e. reset) (λ e9. let l9 = further 9 k l8 e9 in
    by_test P (eqb k 10) (λ e. storage) (λ e10. let l10 = further 10 k l9 e10 in
    by_test P (eqb k 11) (λ e. switch) (λ e11. let l11 = further 11 k l10 e11 in
    upload (let top = bounds.1 in omega arith))))))))))))

no_rule : (told : Told Request) → told ≡ unless [] told
unfolding or_refuse
no_rule told = refl

pub passed_rules : (tag : ℕ) (block : List ℕ) (r : Request) → read_card tag block ≡ given r → Passed block r
unfolding read_by
passed_rules tag block r h =
    let f = fields_of block in
    let long = rule_met _ _ (request_of f) r h in
    let right = rule_met _ _ (request_of f) r long.1 in
    let today = rule_met _ _ (request_of f) r right.1 in
    let kind = rule_met _ _ (request_of f) r today.1 in
    let zeros = rule_met _ _ (request_of f) r kind.1 in
    let small = rule_met _ _ (request_of f) r zeros.1 in
    record {
      long = ltb-false (length block) block_length long.0;
      kind = not-false (is_kind f.kind) kind.0;
      small = small.0;
      asks = no_rule (request_of f) ∙ small.1;
    }
