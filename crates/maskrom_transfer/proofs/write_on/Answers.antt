-- Each arm is the case of `writing` for the number of the bytes, with what was put into the output.
use Rattle.std.proofs.Common.{[], ◌∷◌, ◌++◌, ◌<◌, length, refl, arith}
use Rattle.crc.specs.Check.{crc_over}
use Rattle.maskrom_transfer.specs.declared.MaskRomSteps.TheVariants.{Writing, Check, Dummy, Done}
use Rattle.maskrom_transfer.specs.Moves.{check_bytes}
use Rattle.maskrom_transfer.proofs.Cases.{writing_block, writing_pad, writing_dummy, writing_last, meets}
use Rattle.maskrom_transfer.proofs.write_on.Goals as goal

pub returns-in-4096 : goal.returns-in-4096
returns-in-4096 c =
    let a = c.args in
    let w = a.bytes.now in
    rw (writing_block a.crc w c.in-4096.is) (meets c.put.result a.crc a.crc Writing w a.out.now c.put.new.out c.put.ensures refl)

pub returns-in-4095 : goal.returns-in-4095
returns-in-4095 c =
    let a = c.args in
    let w = a.bytes.now in
    rw (writing_pad a.crc w c.in-4095.is)
    (meets c.with_zero.result c.update_by_table.result (crc_over a.crc (0 ∷ [])) Check (w ++ (0 ∷ [])) a.out.now c.with_zero.new.out
    c.with_zero.ensures c.update_by_table.ensures)

pub returns-in-4094 : goal.returns-in-4094
returns-in-4094 c =
    let a = c.args in
    let bs = a.bytes.now ++ check_bytes a.crc in
    rw (writing_dummy a.crc a.bytes.now c.in-4094.is)
    (meets c.with_check.result a.crc a.crc Dummy bs a.out.now c.with_check.new.out c.with_check.ensures refl)

pub returns-in_default : goal.returns-in_default
returns-in_default c =
    let a = c.args in
    let bs = a.bytes.now ++ check_bytes a.crc in
    let short : length a.bytes.now < 4094 = omega arith in
    rw (writing_last a.crc a.bytes.now short)
    (meets c.with_check-in_default.result a.crc a.crc Done bs a.out.now c.with_check-in_default.new.out c.with_check-in_default.ensures refl)
