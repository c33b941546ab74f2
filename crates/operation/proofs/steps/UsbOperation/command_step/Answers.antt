-- The writer's refusal is passed on, else the seven bytes behind its 24 are zeroed.
use Rattle.std.proofs.Common.{◌≡◌, refl, ap, ◌∙◌, arith, length, take, replicate}
use Rattle.promise.specs.Bytes.{front}
use Rattle.protocol.specs.CommandBytes.{command_bytes}
use Rattle.operation.specs.Record.{command_out, commanded}
use Rattle.operation.specs.Step.{step_told, beside_at, beside_asks}
use Rattle.operation.proofs.Lists.{front_tail}
use Rattle.operation.proofs.Cases.{plain_meets, refused_20, command_short, command_out_lem, written_short, written_whole, command_bytes_long, first_of_command}
use Rattle.operation.proofs.steps.UsbOperation.command_step.Goals as goal

pub returns-in_default : goal.returns-in_default
returns-in_default c =
    let a = c.args in
    let no = written_short a.self.command a.out.now c.to_bytes.new.out c.to_bytes.result c.in_default.is c.to_bytes.ensures.write_meets in
    rw (command_short a.self (length a.out.now) no.0)
    (refused_20 a.self a.out.now c.to_bytes.new.out c.answers.result c.answers.ensures no.1)

pub zero_tail-requires : goal.zero_tail-requires
zero_tail-requires c =
    let a = c.args in
    let w = written_whole a.self.command a.out.now c.to_bytes.new.out c.to_bytes.result _ c.in-Ok.is c.to_bytes.ensures.write_meets in
    omega (arith, w.0, c.to_bytes.auto.out)

pub returns : goal.returns
unfolding step_told beside_at beside_asks
returns c =
    let a = c.args in
    let w = written_whole a.self.command a.out.now c.to_bytes.new.out c.to_bytes.result _ c.in-Ok.is c.to_bytes.ensures.write_meets in
    let out = c.zero_tail.new.out in
    let sent : out ≡ front (command_out a.self) a.out.now =
    c.zero_tail.ensures ∙ rw w.1 (front_tail (command_bytes a.self.command) (replicate 7 0) a.out.now (command_bytes_long a.self.command) refl) in
    let first : c.first_13-command_bytes.result ≡ take 13 (command_bytes a.self.command) =
    c.first_13-command_bytes.ensures ∙ ap (take 13) sent ∙ first_of_command a.self.command (replicate 7 0) a.out.now in
    let next : c.turned_to.result ≡ commanded a.self =
    c.turned_to.ensures ∙ rw (c.with_status.ensures, c.after_command-next.ensures, first) refl in
    rw (command_out_lem a.self (length a.out.now) w.0, ← next)
    (plain_meets _ _ _ _ a.out.now out c.answers-2.result c.answers-2.ensures refl refl sent)
