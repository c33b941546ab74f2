-- What callers of a head with NOR flash see: which byte a write leaves other than asked, and calls that erase no byte i.
use Rattle.std.specs.Prelude.{ℕ, ◌+◌, ◌*◌, ◌/◌, ◌≤◌, ◌<◌, ◌≡◌, List, length, get_or}
use Rattle.protocol_bytes.specs.Sector.{sector_size}
use Rattle.mock_base.specs.declared.cells.Variety.{Variety}
use Rattle.mock_table.specs.declared.session.CommandState.{CommandState}
use Rattle.mock_table.specs.Erasing.{command_in}
use Rattle.mock_effects.specs.Cells.{ErasedPlace}
use Rattle.mock.specs.Device.{MockMeets, write_bulk, read_bulk, write_control}
use Rattle.mock.specs.declared.device.MockState.{MockState}
use Rattle.mock.specs.declared.device.MockStep.{MockStep}

-- of the bytes asked from place `at` on, one that is not what stands there
pub record DiffersAt (at : ℕ) (asked after : List ℕ) : Type 0 where
  pub place : ℕ
  pub among : place < length asked
  pub other : get_or after (at + place) 0 ≡ get_or asked place 0 → ⊥

-- byte i lies in the sectors of an erase that this bulk write is, and that the head takes
abbrev pub ErasedBy : MockState → List ℕ → List ℕ → ℕ → Type 0
ErasedBy s flash bytes i = ErasedPlace s.config.block_size_sectors (length flash / sector_size) (command_in s.current_command bytes) i

-- .. with the whole block in which it lies
pub record BlockErased (s : MockState) (flash bytes : List ℕ) (i : ℕ) : Type 0 where
  pub erase : ErasedBy s flash bytes i
  pub whole : (erase.command.cd_address ≤ i / sector_size / s.config.block_size_sectors * s.config.block_size_sectors)
      × (i / sector_size / s.config.block_size_sectors * s.config.block_size_sectors + s.config.block_size_sectors
      ≤ erase.command.cd_address + erase.command.cd_length)

-- a record as this one but for its variety and its transaction
abbrev pub like : MockState → Variety → CommandState → MockState
like s v state =
    record {
      config = s.config;
      variety = v;
      areas = s.areas;
      store_length = s.store_length;
      last_reset = s.last_reset;
      current_command = state;
    }

-- any calls, refused ones too, from a record and a flash to a record and a flash, none of which erases byte i
pub data Through (i : ℕ) (s : MockState) (flash : List ℕ) : MockState → List ℕ → Type 0 where
  no_call : Through i s flash s flash
  a_write : (t : MockState) (held bytes after : List ℕ) (r : MockStep) → Through i s flash t held → MockMeets r after (write_bulk t held bytes)
      → (ErasedBy t held bytes i → ⊥) → Through i s flash r.state after
  a_read : (t : MockState) (held buffer after : List ℕ) (r : MockStep) → Through i s flash t held → MockMeets r after (read_bulk t held buffer)
      → Through i s flash r.state held
  a_control : (t : MockState) (type request value index : ℕ) (held bytes store after : List ℕ) (r : MockStep) → Through i s flash t held
      → MockMeets r after (write_control t type request value index bytes store) → Through i s flash r.state held
