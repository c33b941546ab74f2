-- As many sectors as are asked for are written from as many bytes of the fill.
use Rattle.std.proofs.Common.{◌≡◌, ℕ, ◌*◌, ◌≤◌, take, ap, ◌∙◌, arith}
use Rattle.protocol.specs.Commands.{write_lba_command}
use Rattle.operation_finish.specs.declared.Kind.TheVariants as kind
use Rattle.operation.specs.Record.{fresh}
use Rattle.deck.proofs.VerdictLaws.{operated_deal}
use Rattle.deck.specs.Dealing.{operate}
use Rattle.deck.specs.Code.{room}
use Rattle.deck.proofs.DealingLaws.{take_filled, as_long, sectors_exact, written_from, as_asked}
use Rattle.deck.proofs.dealing.write_sectors.Goals as goal
use Rattle.deck.proofs.dealing.write_sectors.Goals.{Start}

bound : (s : Start) → s.args.count * 512 ≤ room
bound s = let few = s.requires in omega arith

pub slice_bounds-run_whole_write-end : goal.slice_bounds-run_whole_write-end
slice_bounds-run_whole_write-end c =
    let filled = c.filled-data in
    as_long _ c.args.fill filled.result filled.ensures (bound (goal.at.slice_bounds-run_whole_write-end c).Start)

pub returns : goal.returns
unfolding operate
returns c =
    let a = c.args in
    let run = c.run_whole_write in
    let filled = c.filled-data in
    let command = write_lba_command a.tag a.first a.count in
    let count : a.count ≤ 65535 = let few = c.requires in omega arith in
    let started : c.write_lba-start.result.operation ≡ fresh kind.Write command =
    c.write_lba-start.ensures.operation ∙ ap (λ (n : ℕ). fresh kind.Write (write_lba_command a.tag a.first n)) (sectors_exact a.count count) in
    as_asked _ _ _ _ (fresh kind.Write command) _ _ _ started
    (written_from c.write_lba-start.result.operation command (take (a.count * 512) filled.result) started
    ∙ take_filled (a.count * 512) a.fill filled.result filled.ensures (bound (goal.at.returns c).Start))
    (operated_deal _ run.result _ _ a.store.now _ run.ensures c.operated.ensures)
