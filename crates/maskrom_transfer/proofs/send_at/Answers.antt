-- Each arm is the case of `moves_at` for its variant (`at_steps`), with what was put into the output.
use Rattle.std.proofs.Common.{[], ◌∷◌, refl}
use Rattle.maskrom_transfer.specs.declared.MaskRomSteps.TheVariants.{Done}
use Rattle.maskrom_transfer.specs.Moves.{check_bytes, moves_at}
use Rattle.maskrom_transfer.proofs.Cases.{meets, at_steps}
use Rattle.maskrom_transfer.proofs.send_at.Goals as goal

pub returns-in-Writing : goal.returns-in-Writing
unfolding moves_at
returns-in-Writing c =
    let a = c.args in
    at_steps c.write_on.result a.out.now c.write_on.new.out a.crc a.bytes.now c.in-Writing.is c.write_on.ensures

pub returns-in-Check : goal.returns-in-Check
unfolding moves_at
returns-in-Check c =
    let a = c.args in
    let p = c.with_check in
    at_steps (record { size = p.result; crc = a.crc; steps = Done }) a.out.now p.new.out a.crc a.bytes.now c.in-Check.is
    (meets p.result a.crc a.crc Done (check_bytes a.crc) a.out.now p.new.out p.ensures refl)

pub returns-in-Dummy : goal.returns-in-Dummy
unfolding moves_at
returns-in-Dummy c =
    let a = c.args in
    let p = c.with_zero in
    at_steps (record { size = p.result; crc = a.crc; steps = Done }) a.out.now p.new.out a.crc a.bytes.now c.in-Dummy.is
    (meets p.result a.crc a.crc Done (0 ∷ []) a.out.now p.new.out p.ensures refl)

pub returns-in-Done : goal.returns-in-Done
unfolding moves_at
returns-in-Done c =
    let a = c.args in
    at_steps (record { size = 0; crc = a.crc; steps = Done }) a.out.now a.out.now a.crc a.bytes.now
    c.in-Done.is (record { size = refl; crc = refl; steps = refl; leaves = refl })
