-- The line's bytes stand behind the others: there is room for the longest.
use Prim.Native.Nat.{ℕ, ◌+◌, ◌-◌, ◌≤◌}
use mathlib.Core.List.{List}
use mathlib.Core.Path.{◌≡◌, refl, ap, sym, ◌∙◌}
use native.Mathlib.Omega.{arith}
use lib.ListN.{length, take}
use lib.Seq.{length-take-le}
use borrow.Author.Rules.{rules}
use Rattle.deck_line.specs.Line.{longest_line}
use Rattle.promise.specs.Over.{over}
use Rattle.promise.proofs.Copied.{put_over}
use Rattle.deck_chunk.proofs.put_line.Goals as goal
use Rattle.deck_chunk.proofs.put_line.Goals.{Start}

-- a line's array has room for the longest
used : (c : Start) → c.args.line.used ≤ length c.args.line.bytes
used c = let room : length c.args.line.bytes ≡ longest_line = search rules in omega (arith, c.requires.1)

lent : (c : Start) → length (take c.args.line.used c.args.line.bytes) ≡ c.args.line.used
lent c = length-take-le c.args.line.used c.args.line.bytes (used c)

pub returns : goal.returns
returns c =
    let a = c.args in
    let copy = c.copy_from_slice in
    let n = lent (goal.at.returns c).Start in
    let k : a.at + a.line.used - a.at ≡ a.line.used = omega arith in
    record {
      value = refl;
      lines_after =
          put_over a.at (a.at + a.line.used - a.at) a.lines.now copy.new.self (ap length copy.ensures.after ∙ n ∙ sym k)
          ∙ ap (λ (l : List ℕ). over a.at l a.lines.now) copy.ensures.after;
    }
