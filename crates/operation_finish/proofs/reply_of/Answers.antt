-- The in-band bytes are all 16 of a chip info.
use Rattle.std.proofs.Common.{◌≡◌, refl, length, arith, rules}
use Rattle.std.proofs.lemmas.List.{take_all}
use Rattle.operation_finish.specs.Reply.{finish_told, reply_given, beside_of, beside_reply}
use Rattle.operation_finish.specs.Finish.{reply_by}
use Rattle.operation_finish.proofs.reply_of.Goals as goal

pub returns-in-ChipInfo : goal.returns-in-ChipInfo
unfolding reply_by finish_told reply_given beside_of beside_reply
returns-in-ChipInfo c =
    let whole : length c.args.inband ≡ 16 = search rules in
    rw (c.chip_info_of.ensures, c.in-ChipInfo.is, take_all 16 c.args.inband (omega (arith, whole))) (record { tells = refl; beside = refl })
