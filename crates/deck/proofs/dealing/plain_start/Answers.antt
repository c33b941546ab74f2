-- By cases on the request.
use Rattle.std.proofs.Common.{◌≡◌, ℕ, [], ◌∷◌, sym, refl, ap, ◌∙◌}
use types.Run.{OneOf, miss}
use denote.Enum.Declared.{tag_of}
use Rattle.protocol.specs.Commands.{storage_command}
use Rattle.operation_finish.specs.declared.Kind.TheVariants as kind
use Rattle.operation.specs.Record.{fresh}
use Rattle.deck_block.specs.declared.Request.{Request}
use Rattle.deck_block.specs.declared.Request.TheVariants as request
use Rattle.deck_block.specs.contracts.Request.{the_type}
use Rattle.deck.specs.Code.{plain_start}
use Rattle.deck.proofs.dealing.plain_start.Goals as goal

-- what the `_` arm knows is that it is none of the eight
others : (tag : ℕ) (asked : Request) → OneOf (6 ∷ 7 ∷ 9 ∷ 11 ∷ []) (tag_of the_type asked) → fresh kind.Storage (storage_command tag) ≡ plain_start tag asked
unfolding plain_start
others tag request.ChipInfo k = absurd (miss (6 ∷ 7 ∷ 9 ∷ 11 ∷ []) 0 tt k)
others tag request.FlashId k = absurd (miss (6 ∷ 7 ∷ 9 ∷ 11 ∷ []) 1 tt k)
others tag request.FlashInfo k = absurd (miss (6 ∷ 7 ∷ 9 ∷ 11 ∷ []) 2 tt k)
others tag request.Capability k = absurd (miss (6 ∷ 7 ∷ 9 ∷ 11 ∷ []) 3 tt k)
others tag (request.EraseLba first count) k = absurd (miss (6 ∷ 7 ∷ 9 ∷ 11 ∷ []) 4 tt k)
others tag (request.EraseForce first count) k = absurd (miss (6 ∷ 7 ∷ 9 ∷ 11 ∷ []) 5 tt k)
others tag (request.ReadLba first count) k = refl
others tag (request.WriteLba first count fill) k = refl
others tag (request.ResetDevice opcode) k = absurd (miss (6 ∷ 7 ∷ 9 ∷ 11 ∷ []) 8 tt k)
others tag request.Storage k = refl
others tag (request.SwitchStorage index) k = absurd (miss (6 ∷ 7 ∷ 9 ∷ 11 ∷ []) 10 tt k)
others tag (request.WriteArea area n fill) k = refl

pub returns-in-ChipInfo : goal.returns-in-ChipInfo
unfolding plain_start
returns-in-ChipInfo c = c.chip_info.ensures ∙ sym (ap (plain_start c.args.tag) c.in-ChipInfo.is)

pub returns-in-FlashId : goal.returns-in-FlashId
unfolding plain_start
returns-in-FlashId c = c.flash_id.ensures ∙ sym (ap (plain_start c.args.tag) c.in-FlashId.is)

pub returns-in-FlashInfo : goal.returns-in-FlashInfo
unfolding plain_start
returns-in-FlashInfo c = c.flash_info.ensures ∙ sym (ap (plain_start c.args.tag) c.in-FlashInfo.is)

pub returns-in-Capability : goal.returns-in-Capability
unfolding plain_start
returns-in-Capability c = c.capability.ensures ∙ sym (ap (plain_start c.args.tag) c.in-Capability.is)

pub returns-in-EraseLba : goal.returns-in-EraseLba
unfolding plain_start
returns-in-EraseLba c = c.erase_lba.ensures ∙ sym (ap (plain_start c.args.tag) c.in-EraseLba.is)

pub returns-in-EraseForce : goal.returns-in-EraseForce
unfolding plain_start
returns-in-EraseForce c = c.erase_force.ensures ∙ sym (ap (plain_start c.args.tag) c.in-EraseForce.is)

pub returns-in-ResetDevice : goal.returns-in-ResetDevice
unfolding plain_start
returns-in-ResetDevice c = c.reset_device.ensures ∙ sym (ap (plain_start c.args.tag) c.in-ResetDevice.is)

pub returns-in-SwitchStorage : goal.returns-in-SwitchStorage
unfolding plain_start
returns-in-SwitchStorage c = c.switch_storage.ensures ∙ sym (ap (plain_start c.args.tag) c.in-SwitchStorage.is)

pub returns-in_default : goal.returns-in_default
unfolding plain_start
returns-in_default c = c.storage.ensures ∙ others c.args.tag c.args.request c.in_default.in_default-own.keys9
