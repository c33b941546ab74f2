-- What a bulk call leaves of the record.
use Prim.Native.Nat.{ℕ}
use mathlib.Core.Path.{◌≡◌, refl}
use mathlib.Core.List.{List}
use Rattle.mock.specs.Device.{write_bulk, read_bulk}
use Rattle.mock.specs.declared.device.MockState.{MockState}

-- a bulk call touches no area
pub write_keeps_areas : (s : MockState) (flash bytes : List ℕ) → (write_bulk s flash bytes).next.areas ≡ s.areas
unfolding write_bulk
write_keeps_areas s flash bytes = refl

pub read_keeps_areas : (s : MockState) (flash buffer : List ℕ) → (read_bulk s flash buffer).next.areas ≡ s.areas
unfolding read_bulk
read_keeps_areas s flash buffer = refl
