-- What a stand-in device says of itself, and the Rust's default.
use Rattle.std.specs.Prelude.{ℕ, ◌*◌, List, [], ◌∷◌, ◌++◌, replicate}
use Rattle.promise.specs.Bytes.{low_first}
use Rattle.protocol_bytes.specs.Sector.{sector_size}
use Rattle.mock_base.specs.declared.config.MockDeviceConfig.{MockDeviceConfig}

-- `rockusb-mock-v1!`
abbrev pub default_chip_info : List ℕ
default_chip_info =
    0x72 ∷ 0x6F ∷ 0x63 ∷ 0x6B ∷ 0x75 ∷ 0x73 ∷ 0x62 ∷ 0x2D ∷ 0x6D ∷ 0x6F ∷ 0x63 ∷ 0x6B ∷ 0x2D ∷ 0x76 ∷ 0x31 ∷ 0x21 ∷ []

-- `MOCK!`
abbrev pub default_flash_id : List ℕ
default_flash_id = 0x4D ∷ 0x4F ∷ 0x43 ∷ 0x4B ∷ 0x21 ∷ []

abbrev pub default_sectors : ℕ
default_sectors = 128

-- as good as erased: each byte is 0xFF
abbrev pub default_byte : ℕ
default_byte = 0xFF

unfoldable pub default_flash : List ℕ
default_flash = replicate (default_sectors * sector_size) default_byte

abbrev pub default_block_size : ℕ
default_block_size = 64

-- capability 09, block size 64, extra zeros
unfoldable pub default_config : MockDeviceConfig
default_config =
    record {
      chip_info = default_chip_info;
      flash_id = default_flash_id;
      capability = 0x09 ∷ replicate 7 0;
      block_size_sectors = default_block_size;
      flash_info_extra = replicate 5 0;
    }

-- sectors u32 and block size u16, both little-endian, then 5 more
unfoldable pub flash_info : MockDeviceConfig → ℕ → List ℕ
flash_info config sectors = low_first 4 sectors ++ (low_first 2 config.block_size_sectors ++ config.flash_info_extra)
