-- Two tests without a sum that could pass the largest number, and then the part.
use Prim.Native.Nat.{ℕ, ◌+◌, ◌<◌, ◌≤◌}
use mathlib.Core.Path.{refl, ap}
use native.Mathlib.Nat.{add-sub_cancel_left}
use native.Mathlib.Omega.{arith}
use borrow.Author.Tests.{lt-ltb, le-ltb}
use lib.ListN.{length, take, drop}
use Rattle.loader_walk.specs.Entries.{data_of}
use Rattle.loader_walk.proofs.data_of.Goals as goal

pub returns-then-file-place : goal.returns-then-file-place
unfolding data_of
returns-then-file-place c =
    let a = c.args in
    let past : length a.file.now < a.place + a.length = omega arith in
    rw (lt-ltb (length a.file.now) (a.place + a.length) past) refl

pub returns : goal.returns
unfolding data_of
returns c =
    let a = c.args in
    let held : a.place + a.length ≤ length a.file.now = omega arith in
    rw (le-ltb (length a.file.now) (a.place + a.length) held)
    (ap (λ (k : ℕ). take k (drop a.place a.file.now)) (add-sub_cancel_left a.place a.length))
