-- Each value's number, and the values of each enum in the order of their numbers.
use Rattle.std.specs.Prelude.{ℕ, List, [], ◌∷◌}
use Rattle.protocol_codes.specs.declared.Direction.{Direction}
use Rattle.protocol_codes.specs.declared.Direction.TheVariants.{In, Out}
use Rattle.protocol_codes.specs.declared.CommandCode.{CommandCode}
use Rattle.protocol_codes.specs.declared.CommandCode.TheVariants.{TestUnitReady, ReadFlashId, TestBadBlock, ReadSector, WriteSector, EraseNormal, EraseForce, ReadLBA, WriteLBA, EraseSystemDisk, ReadSDram, WriteSDram, ExecuteSDram, ReadFlashInfo, ReadChipInfo, SetResetFlag, WriteEFuse, ReadEFuse, ReadSPIFlash, WriteSPIFlash, WriteNewEfuse, ReadNewEfuse, EraseLBA, SwitchStorage, GetStorageMedia, ReadCapability, DeviceReset}
use Rattle.protocol_codes.specs.declared.Status.{Status}
use Rattle.protocol_codes.specs.declared.Status.TheVariants.{SUCCESS, FAILED}
use Rattle.protocol_codes.specs.declared.ResetOpcode.{ResetOpcode}
use Rattle.protocol_codes.specs.declared.ResetOpcode.TheVariants.{Reset, MSC, PowerOff, Maskrom, Disconnect}
use Rattle.protocol_codes.specs.declared.StorageIndex.{StorageIndex}
use Rattle.protocol_codes.specs.declared.StorageIndex.TheVariants.{Nand, Emmc, Sd0, Sd1, SpiNor, SpiNand, Ram, MtdBlkNand, MtdBlkSpiNand, MtdBlkSpiNor, Sata, Pcie, Ufs, Unknown}

-- direction (0x80 in, 0x00 out)
abbrev pub direction_number : Direction → ℕ
direction_number In = 0x80
direction_number Out = 0x00

-- both directions
abbrev pub directions : List Direction
directions =
    In ∷ Out ∷ []

-- the codes 00, 01, 03, 04, 05, 06, 0B, 14-1B, 1E-25, 2A, 2B, AA, FF hex
abbrev pub code_number : CommandCode → ℕ
code_number TestUnitReady = 0x00
code_number ReadFlashId = 0x01
code_number TestBadBlock = 0x03
code_number ReadSector = 0x04
code_number WriteSector = 0x05
code_number EraseNormal = 0x06
code_number EraseForce = 0x0B
code_number ReadLBA = 0x14
code_number WriteLBA = 0x15
code_number EraseSystemDisk = 0x16
code_number ReadSDram = 0x17
code_number WriteSDram = 0x18
code_number ExecuteSDram = 0x19
code_number ReadFlashInfo = 0x1A
code_number ReadChipInfo = 0x1B
code_number SetResetFlag = 0x1E
code_number WriteEFuse = 0x1F
code_number ReadEFuse = 0x20
code_number ReadSPIFlash = 0x21
code_number WriteSPIFlash = 0x22
code_number WriteNewEfuse = 0x23
code_number ReadNewEfuse = 0x24
code_number EraseLBA = 0x25
code_number SwitchStorage = 0x2A
code_number GetStorageMedia = 0x2B
code_number ReadCapability = 0xAA
code_number DeviceReset = 0xFF

-- all 27 codes
abbrev pub command_codes : List CommandCode
command_codes =
    TestUnitReady ∷ ReadFlashId ∷ TestBadBlock ∷ ReadSector ∷ WriteSector ∷ EraseNormal ∷ EraseForce ∷ ReadLBA ∷ WriteLBA ∷ EraseSystemDisk
    ∷ ReadSDram ∷ WriteSDram ∷ ExecuteSDram ∷ ReadFlashInfo ∷ ReadChipInfo ∷ SetResetFlag ∷ WriteEFuse ∷ ReadEFuse ∷ ReadSPIFlash ∷
    WriteSPIFlash ∷ WriteNewEfuse ∷ ReadNewEfuse ∷ EraseLBA ∷ SwitchStorage ∷ GetStorageMedia ∷ ReadCapability ∷ DeviceReset ∷ []

-- status 0 or 1
abbrev pub status_number : Status → ℕ
status_number SUCCESS = 0
status_number FAILED = 1

-- both statuses
abbrev pub statuses : List Status
statuses =
    SUCCESS ∷ FAILED ∷ []

-- a reset's opcode, 0 to 4
abbrev pub reset_number : ResetOpcode → ℕ
reset_number Reset = 0
reset_number MSC = 1
reset_number PowerOff = 2
reset_number Maskrom = 3
reset_number Disconnect = 4

-- all five opcodes
abbrev pub reset_opcodes : List ResetOpcode
reset_opcodes =
    Reset ∷ MSC ∷ PowerOff ∷ Maskrom ∷ Disconnect ∷ []

-- a storage index: 0 to 12 named, any other unknown by its number
abbrev pub storage_number : StorageIndex → ℕ
storage_number Nand = 0
storage_number Emmc = 1
storage_number Sd0 = 2
storage_number Sd1 = 3
storage_number SpiNor = 4
storage_number SpiNand = 5
storage_number Ram = 6
storage_number MtdBlkNand = 7
storage_number MtdBlkSpiNand = 8
storage_number MtdBlkSpiNor = 9
storage_number Sata = 10
storage_number Pcie = 11
storage_number Ufs = 12
storage_number (Unknown number) = number

-- the named indexes
abbrev pub storage_indexes : List StorageIndex
storage_indexes =
    Nand ∷ Emmc ∷ Sd0 ∷ Sd1 ∷ SpiNor ∷ SpiNand ∷ Ram ∷ MtdBlkNand ∷ MtdBlkSpiNand ∷ MtdBlkSpiNor ∷ Sata ∷ Pcie ∷ Ufs ∷ []
