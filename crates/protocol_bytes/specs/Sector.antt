-- The size of a sector.
use Rattle.std.specs.Prelude.{ℕ}

abbrev pub sector_size : ℕ
sector_size = 512
