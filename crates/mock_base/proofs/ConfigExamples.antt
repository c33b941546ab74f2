-- Example P13 of the rules.
use mathlib.Core.Path.{◌≡◌, refl}
use mathlib.Core.List.{◌∷◌}
use lib.ListN.{replicate}
use Rattle.promise.specs.Bytes.{low_first}
use Rattle.mock_base.specs.Config.{default_config, default_sectors, flash_info}

-- P13: default flash info 80 00 00 00 40, six zeros
pub p13 : flash_info default_config default_sectors ≡ 0x80 ∷ 0x00 ∷ 0x00 ∷ 0x00 ∷ 0x40 ∷ replicate 6 0
unfolding flash_info default_config low_first
p13 = refl
