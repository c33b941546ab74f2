-- What a read goes by: the command's code, and of NOR the storage request.
use Prim.Native.Nat.{ℕ}
use mathlib.Core.Path.{◌≡◌, refl, ap, ◌∙◌}
use mathlib.Core.List.{List, [], ◌∷◌}
use types.Run.{OneOf, miss}
use denote.Enum.Declared.{tag_of}
use Rattle.protocol_codes.specs.Numbers.{code_number}
use Rattle.protocol_codes.specs.contracts.CommandCode as codes
use Rattle.protocol_codes.specs.declared.CommandCode.{CommandCode}
use Rattle.protocol_codes.specs.declared.CommandCode.TheVariants.{TestUnitReady, ReadFlashId, TestBadBlock, ReadSector, WriteSector, EraseNormal, EraseForce, ReadLBA, WriteLBA, EraseSystemDisk, ReadSDram, WriteSDram, ExecuteSDram, ReadFlashInfo, ReadChipInfo, SetResetFlag, WriteEFuse, ReadEFuse, ReadSPIFlash, WriteSPIFlash, WriteNewEfuse, ReadNewEfuse, EraseLBA, SwitchStorage, GetStorageMedia, ReadCapability, DeviceReset}
use Rattle.protocol_codes.specs.declared.ResetOpcode.{ResetOpcode}
use Rattle.protocol.specs.declared.CommandBlock.{CommandBlock}
use Rattle.mock_base.specs.declared.cells.Variety.{Variety}
use Rattle.mock_base.specs.declared.cells.Variety.TheVariants.{First, Nor}
use Rattle.mock_table.specs.Turn.{refuses, has_code}
use Rattle.mock_table.specs.Ways.{tells_storage}
use Rattle.mock_table.specs.Table.{code_turn}
use Rattle.std.specs.Prelude.{Option, eqb, false}

-- whether a command has a code, by the code that it has
pub has_as : (c : CommandBlock) {code : CommandCode} → c.cd_code ≡ code → (x : CommandCode) → has_code c x ≡ eqb (code_number code) (code_number x)
unfolding has_code
has_as c is x = ap (λ (y : CommandCode). eqb (code_number y) (code_number x)) is

-- the codes that no read is answered by
abbrev pub others : List ℕ
others = 0 ∷ 2 ∷ 3 ∷ 4 ∷ 5 ∷ 6 ∷ 8 ∷ 9 ∷ 10 ∷ 11 ∷ 12 ∷ 15 ∷ 16 ∷ 17 ∷ 18 ∷ 19 ∷ 20 ∷ 21 ∷ 22 ∷ 23 ∷ 26 ∷ []

record TurnedAway (code : CommandCode) : Type 0 where
  flash_id : eqb (code_number code) (code_number ReadFlashId) ≡ false
  flash_info : eqb (code_number code) (code_number ReadFlashInfo) ≡ false
  chip_info : eqb (code_number code) (code_number ReadChipInfo) ≡ false
  capability : eqb (code_number code) (code_number ReadCapability) ≡ false
  lba : eqb (code_number code) (code_number ReadLBA) ≡ false
  storage : eqb (code_number code) (code_number GetStorageMedia) ≡ false

turned_away : (code : CommandCode) → OneOf others (tag_of codes.the_type code) → TurnedAway code
turned_away TestUnitReady k = record { flash_id = refl; flash_info = refl; chip_info = refl; capability = refl; lba = refl; storage = refl }
turned_away ReadFlashId k = absurd (miss others 1 tt k)
turned_away TestBadBlock k = record { flash_id = refl; flash_info = refl; chip_info = refl; capability = refl; lba = refl; storage = refl }
turned_away ReadSector k = record { flash_id = refl; flash_info = refl; chip_info = refl; capability = refl; lba = refl; storage = refl }
turned_away WriteSector k = record { flash_id = refl; flash_info = refl; chip_info = refl; capability = refl; lba = refl; storage = refl }
turned_away EraseNormal k = record { flash_id = refl; flash_info = refl; chip_info = refl; capability = refl; lba = refl; storage = refl }
turned_away EraseForce k = record { flash_id = refl; flash_info = refl; chip_info = refl; capability = refl; lba = refl; storage = refl }
turned_away ReadLBA k = absurd (miss others 7 tt k)
turned_away WriteLBA k = record { flash_id = refl; flash_info = refl; chip_info = refl; capability = refl; lba = refl; storage = refl }
turned_away EraseSystemDisk k = record { flash_id = refl; flash_info = refl; chip_info = refl; capability = refl; lba = refl; storage = refl }
turned_away ReadSDram k = record { flash_id = refl; flash_info = refl; chip_info = refl; capability = refl; lba = refl; storage = refl }
turned_away WriteSDram k = record { flash_id = refl; flash_info = refl; chip_info = refl; capability = refl; lba = refl; storage = refl }
turned_away ExecuteSDram k = record { flash_id = refl; flash_info = refl; chip_info = refl; capability = refl; lba = refl; storage = refl }
turned_away ReadFlashInfo k = absurd (miss others 13 tt k)
turned_away ReadChipInfo k = absurd (miss others 14 tt k)
turned_away SetResetFlag k = record { flash_id = refl; flash_info = refl; chip_info = refl; capability = refl; lba = refl; storage = refl }
turned_away WriteEFuse k = record { flash_id = refl; flash_info = refl; chip_info = refl; capability = refl; lba = refl; storage = refl }
turned_away ReadEFuse k = record { flash_id = refl; flash_info = refl; chip_info = refl; capability = refl; lba = refl; storage = refl }
turned_away ReadSPIFlash k = record { flash_id = refl; flash_info = refl; chip_info = refl; capability = refl; lba = refl; storage = refl }
turned_away WriteSPIFlash k = record { flash_id = refl; flash_info = refl; chip_info = refl; capability = refl; lba = refl; storage = refl }
turned_away WriteNewEfuse k = record { flash_id = refl; flash_info = refl; chip_info = refl; capability = refl; lba = refl; storage = refl }
turned_away ReadNewEfuse k = record { flash_id = refl; flash_info = refl; chip_info = refl; capability = refl; lba = refl; storage = refl }
turned_away EraseLBA k = record { flash_id = refl; flash_info = refl; chip_info = refl; capability = refl; lba = refl; storage = refl }
turned_away SwitchStorage k = record { flash_id = refl; flash_info = refl; chip_info = refl; capability = refl; lba = refl; storage = refl }
turned_away GetStorageMedia k = absurd (miss others 24 tt k)
turned_away ReadCapability k = absurd (miss others 25 tt k)
turned_away DeviceReset k = record { flash_id = refl; flash_info = refl; chip_info = refl; capability = refl; lba = refl; storage = refl }

no_storage : (v : Variety) (c : CommandBlock) → has_code c GetStorageMedia ≡ false → tells_storage v c ≡ false
unfolding tells_storage
no_storage First c e = refl
no_storage Nor c e = e

pub no_read : (v : Variety) (last : Option ResetOpcode) (c : CommandBlock) (sectors room : ℕ) → OneOf others (tag_of codes.the_type c.cd_code)
    → code_turn v last c sectors room ≡ refuses last 54 []
unfolding code_turn
no_read v last c sectors room k =
    let t = turned_away c.cd_code k in
    let has = has_as c refl in
    rw (
      has ReadFlashId ∙ t.flash_id,
      has ReadFlashInfo ∙ t.flash_info,
      has ReadChipInfo ∙ t.chip_info,
      has ReadCapability ∙ t.capability,
      has ReadLBA ∙ t.lba,
      no_storage v c (has GetStorageMedia ∙ t.storage),
    ) refl
