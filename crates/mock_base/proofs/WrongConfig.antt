-- Programs that the contracts rule out, each at a named input: no proof can exist for them.
use Prim.Native.Nat.{ℕ}
use mathlib.Core.Path.{◌≡◌, ap}
use mathlib.Core.List.{List}
use native.Mathlib.Omega.{arith}
use lib.ListN.{get_or}
use Rattle.promise.specs.Bytes.{low_first}
use Rattle.mock_base.specs.Config.{default_config, default_sectors, flash_info}
use Rattle.mock_base.specs.declared.config.MockDeviceConfig.{MockDeviceConfig}

-- `MockDeviceConfig::default`: another block size, whatever the rest is
pub another_block_size : (config : MockDeviceConfig) → config.block_size_sectors ≡ 63 → config ≡ default_config → ⊥
unfolding default_config
another_block_size config size e = let other : config.block_size_sectors ≡ 64 = ap (λ (c : MockDeviceConfig). c.block_size_sectors) e in omega arith

-- another capability
pub another_capability : (config : MockDeviceConfig) → get_or config.capability 0 0 ≡ 0x0B → config ≡ default_config → ⊥
unfolding default_config
another_capability config first e =
    let other : get_or config.capability 0 0 ≡ 0x09 = ap (λ (c : MockDeviceConfig). get_or c.capability 0 0) e in omega arith

-- `MockDeviceConfig::default_sectors`: one sector too few, or one too many
pub sector_too_few : (n : ℕ) → n ≡ 127 → n ≡ default_sectors → ⊥
sector_too_few n fewer e = omega arith

pub sector_too_many : (n : ℕ) → n ≡ 129 → n ≡ default_sectors → ⊥
sector_too_many n more e = omega arith

-- `MockDeviceConfig::flash_info`: one reply for a flash of any number of sectors
pub one_reply : (reply : List ℕ) → reply ≡ flash_info default_config 128 → reply ≡ flash_info default_config 129 → ⊥
unfolding flash_info default_config low_first
one_reply reply first second =
    let a : get_or reply 0 0 ≡ 128 = ap (λ (l : List ℕ). get_or l 0 0) first in
    let b : get_or reply 0 0 ≡ 129 = ap (λ (l : List ℕ). get_or l 0 0) second in omega arith

-- the block size in the other order: its low byte, 64, stands first
pub block_size_swapped : (reply : List ℕ) → get_or reply 4 0 ≡ 0 → reply ≡ flash_info default_config 128 → ⊥
unfolding flash_info default_config low_first
block_size_swapped reply first e = let other : get_or reply 4 0 ≡ 64 = ap (λ (l : List ℕ). get_or l 4 0) e in omega arith
