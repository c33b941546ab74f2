-- At each turn as much is left as at the start.
use Prim.Native.Nat.{ℕ}
use mathlib.Core.Path.{◌≡◌}
use mathlib.Core.List.{List}
use Rattle.loader_walk.specs.Entries.{rest_of}
use Rattle.loader_walk.proofs.walk.Walk.seek.Given as goal

abbrev pub invariant-loop-list : goal.invariant-loop-list
invariant-loop-list l = (file : List ℕ) → rest_of file l.header l.list l.entry ≡ rest_of file l.header l.fn.self.list l.fn.self.entry
