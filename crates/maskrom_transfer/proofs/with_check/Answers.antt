-- Two stores behind the bytes that `put` left at the front (`put_two`), which are the check high byte first.
use Rattle.std.proofs.Common.{◌≡◌, ℕ, ◌+◌, List, [], ◌∷◌, ◌++◌, get_or, set, ap, subst, arith}
use Rattle.promise.specs.Bytes.{low_first, high_first}
use Rattle.maskrom_transfer.specs.Moves.{check_bytes}
use Rattle.maskrom_transfer.specs.Code.{PutMeets}
use Rattle.maskrom_transfer.proofs.Cases.{put_two}
use Rattle.maskrom_transfer.proofs.with_check.Goals as goal

pub returns : goal.returns
unfolding low_first high_first
returns c =
    let a = c.args in
    let n = c.put-n.result in
    let r = c.to_be_bytes.result in
    let high = get_or r 0 0 in
    let low = get_or r 1 0 in
    let bytes : high ∷ low ∷ [] ≡ check_bytes a.check =
    ap (λ (l : List ℕ). get_or l 0 0 ∷ get_or l 1 0 ∷ []) c.to_be_bytes.ensures in
    subst (λ (l : List ℕ). PutMeets (n + 2) (a.bytes.now ++ l) a.out.now (set (set c.put-n.new.out n high) (n + 1) low)) bytes
    (put_two n high low a.bytes.now a.out.now c.put-n.new.out c.put-n.ensures (omega arith))
