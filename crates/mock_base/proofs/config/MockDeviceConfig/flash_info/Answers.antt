-- Byte by byte; five extra bytes are what the array holds.
use Prim.Native.Nat.{ℕ}
use mathlib.Core.Path.{ap}
use mathlib.Core.List.{List, ◌++◌}
use borrow.Author.Rules.{rules}
use Rattle.promise.specs.Bytes.{low_first}
use Rattle.mock_base.specs.Config.{flash_info}
use Rattle.mock_base.proofs.Five.{five}
use Rattle.mock_base.proofs.config.MockDeviceConfig.flash_info.Goals as goal

pub returns : goal.returns
unfolding flash_info low_first
returns c =
    rw (c.u32_to_le_bytes-size.ensures, c.u16_to_le_bytes-block.ensures)
    (ap
    (λ (l : List ℕ). low_first 4 c.args.sectors ++ (low_first 2 c.args.self.block_size_sectors ++ l))
    (five c.args.self.flash_info_extra (search rules)))
