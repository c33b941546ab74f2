-- Each arm copies the bytes that the definition has for its kind over a buffer of their size.
use Prim.Native.Nat.{ℕ, ◌≤◌}
use mathlib.Core.Path.{◌≡◌, refl, ap, sym, ◌∙◌}
use mathlib.Core.List.{List, append-nil}
use native.Mathlib.Omega.{arith}
use lib.ListN.{length, drop_of_length-le}
use borrow.Author.Rules.{rules}
use borrow.Author.Tests.{le-ltb}
use Rattle.promise.specs.Bytes.{front}
use Rattle.protocol_bytes.specs.Writing.{writing}
use Rattle.protocol_status.specs.StatusBytes.{status_length, status_bytes, write_status}
use Rattle.protocol_status.specs.declared.report.CommandStatus.{CommandStatus}
use Rattle.mock_table.specs.Turn.{reply_size}
use Rattle.mock_table.specs.declared.outcome.ReplyKind.{ReplyKind}
use Rattle.mock_effects.specs.Effects.{storage_bytes, reply_bytes}
use Rattle.mock_effects.proofs.apply.reply.Goals as goal

-- nothing is left of a buffer of the same length
whole : (bytes before : List ℕ) → length before ≡ length bytes → bytes ≡ front bytes before
whole bytes before e = let le : length before ≤ length bytes = omega arith in rw (drop_of_length-le before le, append-nil) refl

pub copy_from_slice-requires : goal.copy_from_slice-requires
unfolding reply_size
copy_from_slice-requires c =
    let room : length c.args.«data».now ≡ 5 = c.requires ∙ ap reply_size c.in-FlashId.is in
    let bytes : length c.args.config.flash_id ≡ 5 = search rules in
    omega arith

pub returns-in-FlashId : goal.returns-in-FlashId
unfolding reply_bytes reply_size
returns-in-FlashId c =
    let before = c.args.«data».now in
    let room : length before ≡ 5 = c.requires ∙ ap reply_size c.in-FlashId.is in
    let bytes : length c.args.config.flash_id ≡ 5 = search rules in
    c.copy_from_slice.ensures.after
    ∙ whole c.args.config.flash_id before (omega arith)
    ∙ ap (λ (k : ReplyKind). front (reply_bytes c.args.config c.args.sectors k) before) (sym c.in-FlashId.is)

pub copy_from_slice-requires-in-FlashInfo : goal.copy_from_slice-requires-in-FlashInfo
unfolding reply_size
copy_from_slice-requires-in-FlashInfo c =
    let room : length c.args.«data».now ≡ 11 = c.requires ∙ ap reply_size c.in-FlashInfo.is in
    let bytes : length c.flash_info.result ≡ 11 = search rules in
    omega arith

pub returns-in-FlashInfo : goal.returns-in-FlashInfo
unfolding reply_bytes reply_size
returns-in-FlashInfo c =
    let before = c.args.«data».now in
    let room : length before ≡ 11 = c.requires ∙ ap reply_size c.in-FlashInfo.is in
    let bytes : length c.flash_info.result ≡ 11 = search rules in
    c.copy_from_slice-in-FlashInfo.ensures.after
    ∙ whole c.flash_info.result before (omega arith)
    ∙ ap (λ (l : List ℕ). front l before) c.flash_info.ensures
    ∙ ap (λ (k : ReplyKind). front (reply_bytes c.args.config c.args.sectors k) before) (sym c.in-FlashInfo.is)

pub copy_from_slice-requires-in-ChipInfo : goal.copy_from_slice-requires-in-ChipInfo
unfolding reply_size
copy_from_slice-requires-in-ChipInfo c =
    let room : length c.args.«data».now ≡ 16 = c.requires ∙ ap reply_size c.in-ChipInfo.is in
    let bytes : length c.args.config.chip_info ≡ 16 = search rules in
    omega arith

pub returns-in-ChipInfo : goal.returns-in-ChipInfo
unfolding reply_bytes reply_size
returns-in-ChipInfo c =
    let before = c.args.«data».now in
    let room : length before ≡ 16 = c.requires ∙ ap reply_size c.in-ChipInfo.is in
    let bytes : length c.args.config.chip_info ≡ 16 = search rules in
    c.copy_from_slice-in-ChipInfo.ensures.after
    ∙ whole c.args.config.chip_info before (omega arith)
    ∙ ap (λ (k : ReplyKind). front (reply_bytes c.args.config c.args.sectors k) before) (sym c.in-ChipInfo.is)

pub copy_from_slice-requires-in-Capability : goal.copy_from_slice-requires-in-Capability
unfolding reply_size
copy_from_slice-requires-in-Capability c =
    let room : length c.args.«data».now ≡ 8 = c.requires ∙ ap reply_size c.in-Capability.is in
    let bytes : length c.args.config.capability ≡ 8 = search rules in
    omega arith

pub returns-in-Capability : goal.returns-in-Capability
unfolding reply_bytes reply_size
returns-in-Capability c =
    let before = c.args.«data».now in
    let room : length before ≡ 8 = c.requires ∙ ap reply_size c.in-Capability.is in
    let bytes : length c.args.config.capability ≡ 8 = search rules in
    c.copy_from_slice-in-Capability.ensures.after
    ∙ whole c.args.config.capability before (omega arith)
    ∙ ap (λ (k : ReplyKind). front (reply_bytes c.args.config c.args.sectors k) before) (sym c.in-Capability.is)

pub copy_from_slice-requires-in-Storage : goal.copy_from_slice-requires-in-Storage
unfolding reply_size
copy_from_slice-requires-in-Storage c =
    let room : length c.args.«data».now ≡ 4 = c.requires ∙ ap reply_size c.in-Storage.is in
    omega arith

pub returns-in-Storage : goal.returns-in-Storage
unfolding reply_bytes reply_size
returns-in-Storage c =
    let before = c.args.«data».now in
    let room : length before ≡ 4 = c.requires ∙ ap reply_size c.in-Storage.is in
    c.copy_from_slice-in-Storage.ensures.after
    ∙ whole storage_bytes before (omega arith)
    ∙ ap (λ (k : ReplyKind). front (reply_bytes c.args.config c.args.sectors k) before) (sym c.in-Storage.is)

pub returns-in-Status : goal.returns-in-Status
unfolding reply_bytes reply_size write_status writing
returns-in-Status c =
    let before = c.args.«data».now in
    let status : CommandStatus = record { tag = c.in-Status.tag; residue = 0; status = c.in-Status.pending } in
    let room : length before ≡ status_length = c.requires ∙ ap reply_size c.in-Status.is in
    let sent : (write_status status (length before)).sent ≡ status_bytes status = rw (le-ltb (length before) status_length (omega arith)) refl in
    c.to_bytes.ensures.write_meets.leaves
    ∙ ap (λ (l : List ℕ). front l before) sent
    ∙ ap (λ (k : ReplyKind). front (reply_bytes c.args.config c.args.sectors k) before) (sym c.in-Status.is)
