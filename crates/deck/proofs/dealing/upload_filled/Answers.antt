-- The upload starts fresh, with as many bytes of the fill as are asked for.
use Rattle.std.proofs.Common.{◌≡◌, ◌≤◌, length, take, sym, ◌∙◌, arith}
use Rattle.maskrom.specs.Answers.{longest}
use Rattle.deck.proofs.DealingLaws.{take_filled, as_long, starts_fresh, as_loaded}
use Rattle.deck.proofs.dealing.upload_filled.Goals as goal

pub slice_bounds-write_area-end : goal.slice_bounds-write_area-end
slice_bounds-write_area-end c =
    let filled = c.filled-image in
    as_long _ c.args.fill filled.result filled.ensures c.requires

pub slice_bounds-upload-end : goal.slice_bounds-upload-end
slice_bounds-upload-end c =
    let filled = c.filled-image in
    as_long _ c.args.fill filled.result filled.ensures c.requires

pub returns : goal.returns
returns c =
    let a = c.args in
    let filled = c.filled-image in
    let image = take a.length filled.result in
    let size : length image ≡ a.length = sym (as_long a.length a.fill filled.result filled.ensures c.requires) in
    let short : length image ≤ longest = let most = c.requires in omega (arith, size) in
    as_loaded _ _ _ a.area _ image _ _
    (c.write_area-start.ensures.next ∙ starts_fresh a.area image short)
    (take_filled a.length a.fill filled.result filled.ensures c.requires)
    c.upload.ensures
