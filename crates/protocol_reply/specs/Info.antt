-- Flash info, 11 bytes: sectors u32 and block size u16, both little-endian, then 5 more.
use Rattle.std.specs.Prelude.{ℕ, ◌*◌, List}
use Rattle.promise.specs.Bytes.{from_low, field}
use Rattle.protocol_bytes.specs.Sector.{sector_size}

-- the sectors that a flash info names
unfoldable pub info_sectors : List ℕ → ℕ
info_sectors info = from_low (field 0 4 info)

-- in bytes
unfoldable pub flash_size : List ℕ → ℕ
flash_size info = info_sectors info * sector_size

unfoldable pub block_size_sectors : List ℕ → ℕ
block_size_sectors info = from_low (field 4 2 info)
