-- Programs that the contracts rule out, each at a named input: no proof of any kind can exist for them.
use Prim.Native.Nat.{ℕ}
use mathlib.Core.Path.{◌≡◌, refl, ap, sym, ◌∙◌}
use mathlib.Core.List.{List}
use native.Mathlib.Omega.{arith}
use Rattle.promise.specs.Told.{Told, given, refused}
use Rattle.promise.specs.Rules.{or_refuse}
use Rattle.protocol_codes.specs.declared.ResetOpcode.{ResetOpcode}
use Rattle.protocol_codes.specs.declared.StorageIndex.{StorageIndex}
use Rattle.protocol.specs.Commands.{chip_info_command, flash_id_command, flash_info_command, capability_command, storage_command, erase_lba_command, erase_force_command, reset_command, switch_command, read_lba_command, write_lba_command}
use Rattle.protocol_reply.specs.Sectors.{sector_told, sectors_in}
use Rattle.protocol_reply.specs.declared.size.SectorCount.{SectorCount}
use Rattle.operation_finish.specs.declared.Kind.{Kind}
use Rattle.operation_finish.specs.declared.Kind.TheVariants as kind
use Rattle.operation.specs.declared.steps.UsbOperation.{UsbOperation}
use Rattle.operation.specs.Record.{fresh}
use Rattle.operation.specs.declared.starts.UsbStart.{UsbStart}
use Rattle.operation.specs.Start.{sectors_or0, StartMeets}

-- the nine starts that are never refused
pub data Start : Type 0 where
  chip_info : Start
  flash_id : Start
  flash_info : Start
  capability : Start
  storage : Start
  erase_lba : ℕ → ℕ → Start
  erase_force : ℕ → ℕ → Start
  reset_device : ResetOpcode → Start
  switch_storage : StorageIndex → Start

-- what the contract of each says of its answer
abbrev pub started : Start → ℕ → UsbOperation
started chip_info tag = fresh kind.ChipInfo (chip_info_command tag)
started flash_id tag = fresh kind.FlashId (flash_id_command tag)
started flash_info tag = fresh kind.FlashInfo (flash_info_command tag)
started capability tag = fresh kind.Capability (capability_command tag)
started storage tag = fresh kind.Storage (storage_command tag)
started (erase_lba first count) tag = fresh kind.Nothing (erase_lba_command tag first count)
started (erase_force first count) tag = fresh kind.Nothing (erase_force_command tag first count)
started (reset_device opcode) tag = fresh kind.Nothing (reset_command tag opcode)
started (switch_storage index) tag = fresh kind.Nothing (switch_command tag index)

abbrev tag_of : UsbOperation → ℕ
tag_of o = o.command.tag

tags_apart : (r a b : UsbOperation) → r ≡ a → r ≡ b → tag_of a ≡ 1 → tag_of b ≡ 2 → ⊥
tags_apart r a b e f one two = let same : tag_of a ≡ tag_of b = ap tag_of (sym e ∙ f) in omega arith

-- a start with one tag for all
pub fixed_tag : (s : Start) (r : UsbOperation) → r ≡ started s 1 → r ≡ started s 2 → ⊥
fixed_tag chip_info r e f = tags_apart r _ _ e f refl refl
fixed_tag flash_id r e f = tags_apart r _ _ e f refl refl
fixed_tag flash_info r e f = tags_apart r _ _ e f refl refl
fixed_tag capability r e f = tags_apart r _ _ e f refl refl
fixed_tag storage r e f = tags_apart r _ _ e f refl refl
fixed_tag (erase_lba first count) r e f = tags_apart r _ _ e f refl refl
fixed_tag (erase_force first count) r e f = tags_apart r _ _ e f refl refl
fixed_tag (reset_device opcode) r e f = tags_apart r _ _ e f refl refl
fixed_tag (switch_storage index) r e f = tags_apart r _ _ e f refl refl

-- the kind of another start
abbrev pub other_kind : Start → Kind
other_kind chip_info = kind.FlashId
other_kind flash_id = kind.FlashInfo
other_kind flash_info = kind.ChipInfo
other_kind capability = kind.Storage
other_kind storage = kind.Capability
other_kind (erase_lba first count) = kind.Read
other_kind (erase_force first count) = kind.Write
other_kind (reset_device opcode) = kind.Storage
other_kind (switch_storage index) = kind.ChipInfo

abbrev place : Kind → ℕ
place kind.ChipInfo = 0
place kind.FlashId = 1
place kind.FlashInfo = 2
place kind.Capability = 3
place kind.Nothing = 4
place kind.Storage = 5
place kind.Read = 6
place kind.Write = 7

places_apart : (r a : UsbOperation) (k : Kind) → r ≡ a → r.kind ≡ k → place a.kind ≡ place k
places_apart r a k e f = ap place (sym (ap (λ (o : UsbOperation). o.kind) e) ∙ f)

-- a start of another kind
pub other_kind_lem : (s : Start) (tag : ℕ) (r : UsbOperation) → r ≡ started s tag → r.kind ≡ other_kind s → ⊥
other_kind_lem chip_info tag r e f = let z : ◌≡◌ {A = ℕ} 0 1 = places_apart r _ _ e f in omega arith
other_kind_lem flash_id tag r e f = let z : ◌≡◌ {A = ℕ} 1 2 = places_apart r _ _ e f in omega arith
other_kind_lem flash_info tag r e f = let z : ◌≡◌ {A = ℕ} 2 0 = places_apart r _ _ e f in omega arith
other_kind_lem capability tag r e f = let z : ◌≡◌ {A = ℕ} 3 5 = places_apart r _ _ e f in omega arith
other_kind_lem storage tag r e f = let z : ◌≡◌ {A = ℕ} 5 3 = places_apart r _ _ e f in omega arith
other_kind_lem (erase_lba first count) tag r e f = let z : ◌≡◌ {A = ℕ} 4 6 = places_apart r _ _ e f in omega arith
other_kind_lem (erase_force first count) tag r e f = let z : ◌≡◌ {A = ℕ} 4 7 = places_apart r _ _ e f in omega arith
other_kind_lem (reset_device opcode) tag r e f = let z : ◌≡◌ {A = ℕ} 4 5 = places_apart r _ _ e f in omega arith
other_kind_lem (switch_storage index) tag r e f = let z : ◌≡◌ {A = ℕ} 4 0 = places_apart r _ _ e f in omega arith

module _ (r : UsbStart) (first size : ℕ) where
  -- a sector operation with one tag for all
  pub fixed_tag_read : StartMeets r kind.Read (read_lba_command 1 first) size → StartMeets r kind.Read (read_lba_command 2 first) size → ⊥
  fixed_tag_read one two = tags_apart r.operation _ _ one.operation two.operation refl refl

  pub fixed_tag_write : StartMeets r kind.Write (write_lba_command 1 first) size → StartMeets r kind.Write (write_lba_command 2 first) size → ⊥
  fixed_tag_write one two = tags_apart r.operation _ _ one.operation two.operation refl refl

  -- a read started for a write, and a write for a read
  pub write_for_read : (tag : ℕ) → StartMeets r kind.Read (read_lba_command tag first) size → r.operation.kind ≡ kind.Write → ⊥
  write_for_read tag meets f = let z : ◌≡◌ {A = ℕ} 6 7 = places_apart r.operation _ _ meets.operation f in omega arith

  pub read_for_write : (tag : ℕ) → StartMeets r kind.Write (write_lba_command tag first) size → r.operation.kind ≡ kind.Read → ⊥
  read_for_write tag meets f = let z : ◌≡◌ {A = ℕ} 7 6 = places_apart r.operation _ _ meets.operation f in omega arith

module _ (r : UsbStart) (tag first : ℕ) where
  -- a sector beside the refusal of a byte
  pub sector_beside_refusal : StartMeets r kind.Read (read_lba_command tag first) 1 → r.operation.command.cd_length ≡ 1 → ⊥
  unfolding sectors_or0 sectors_in or_refuse
  sector_beside_refusal meets f = let z : ◌≡◌ {A = ℕ} 0 1 = sym (ap (λ (o : UsbOperation). o.command.cd_length) meets.operation) ∙ f in omega arith

  -- a start that refuses whole sectors
  pub always_refusing : (n : ℕ) (values : List ℕ) → StartMeets r kind.Write (write_lba_command tag first) 512 → sector_told r.answer ≡ refused n values → ⊥
  unfolding sectors_in or_refuse
  always_refusing n values meets f =
      let told : ◌≡◌ {A = Told SectorCount} (refused n values) (given (record { 0 = 1 })) = sym f ∙ meets.tells in
      let z : ◌≡◌ {A = ℕ} 0 1 = cc in omega arith
