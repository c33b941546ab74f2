-- The place is below 2^33, since the offset is below 2^32 and the product below 2^24.
use Prim.Native.Nat.{◌*◌, ◌≤◌}
use mathlib.Core.Path.{refl}
use native.Mathlib.Nat.{mul-le-mul}
use native.Mathlib.Omega.{arith}
use Rattle.loader_walk.proofs.walk.start_of.Goals as goal
use Rattle.loader_walk.proofs.walk.start_of.Goals.{Start}

product : (c : Start) → c.args.entry * c.args.list.size ≤ 65535 * 255
product c = mul-le-mul {n₂ = 65535} {m₂ = 255} (omega arith) (omega arith)

pub overflow_mul-result : goal.overflow_mul-result
overflow_mul-result c = let p = product (goal.at.overflow_mul-result c).Start in omega arith

pub overflow_add-result : goal.overflow_add-result
overflow_add-result c = let p = product (goal.at.overflow_add-result c).Start in omega arith

pub returns : goal.returns
returns c = let p = product (goal.at.returns c).Start in record { value = refl; upper_bound = omega arith }
