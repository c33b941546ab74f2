-- As many sectors as are asked for are read into as many bytes of zeros.
use Rattle.std.proofs.Common.{ℕ, ◌*◌, ◌≤◌, ap, ◌∙◌, arith}
use Rattle.protocol.specs.Commands.{read_lba_command}
use Rattle.operation_finish.specs.declared.Kind.TheVariants as kind
use Rattle.operation.specs.Record.{fresh}
use Rattle.deck.proofs.VerdictLaws.{operated_deal}
use Rattle.deck.specs.Dealing.{operate}
use Rattle.deck.specs.Code.{room}
use Rattle.deck.proofs.DealingLaws.{take_filled, as_long, sectors_exact, as_asked}
use Rattle.deck.proofs.dealing.read_sectors.Goals as goal
use Rattle.deck.proofs.dealing.read_sectors.Goals.{Start}

bound : (s : Start) → s.args.count * 512 ≤ room
bound s = let few = s.requires in omega arith

pub slice_bounds-run_whole-end : goal.slice_bounds-run_whole-end
slice_bounds-run_whole-end c =
    let filled = c.filled-data in
    as_long _ 0 filled.result filled.ensures (bound (goal.at.slice_bounds-run_whole-end c).Start)

pub returns : goal.returns
unfolding operate
returns c =
    let a = c.args in
    let run = c.run_whole in
    let filled = c.filled-data in
    let count : a.count ≤ 65535 = let few = c.requires in omega arith in
    as_asked _ _ _ _ (fresh kind.Read (read_lba_command a.tag a.first a.count)) _ _ _
    (c.read_lba-start.ensures.operation ∙ ap (λ (n : ℕ). fresh kind.Read (read_lba_command a.tag a.first n)) (sectors_exact a.count count))
    (take_filled (a.count * 512) 0 filled.result filled.ensures (bound (goal.at.returns c).Start))
    (operated_deal _ run.result _ _ a.store.now _ run.ensures c.operated.ensures)
