-- What was written and told success is read back. A NOR write that was told FAILED has left old AND new.
use Prim.Native.Nat.{ℕ, ◌+◌, ◌*◌, ◌≤◌}
use mathlib.Core.Path.{◌≡◌, refl, ap, ◌∙◌}
use mathlib.Core.List.{List, append-nil}
use native.Mathlib.Omega.{arith}
use lib.ListN.{length, drop, drop_of_length-le}
use Rattle.promise.specs.Told.{Told, given, refused}
use Rattle.promise.specs.Bytes.{field, front}
use Rattle.protocol_codes.specs.declared.CommandCode.TheVariants.{ReadLBA}
use Rattle.protocol_codes.specs.declared.Status as pending
use Rattle.protocol_codes.specs.declared.Status.TheVariants.{SUCCESS, FAILED}
use Rattle.protocol_bytes.specs.Sector.{sector_size}
use Rattle.protocol.specs.declared.CommandBlock.{CommandBlock}
use Rattle.promise.specs.Over.{over}
use Rattle.promise.proofs.Over.{field_same}
use Rattle.mock_base.specs.Flash.{flash_sectors}
use Rattle.mock_base.specs.declared.cells.Variety.{Variety}
use Rattle.mock_base.specs.declared.cells.Variety.TheVariants.{First, Nor}
use Rattle.mock_base.proofs.Fitting.{fits_sectors}
use Rattle.mock_table.specs.Turn.{Turn, done}
use Rattle.mock_table.specs.Ways.{stored_by, moved_by}
use Rattle.mock_table.specs.declared.session.CommandState.{CommandState}
use Rattle.mock_table.specs.declared.session.CommandState.TheVariants.{IO, Status}
use Rattle.mock_table.specs.declared.session.Session.{Session}
use Rattle.mock_table.proofs.Accepted.{write_accepted, read_accepted}
use Rattle.mock_effects.specs.Effects.{flash_after, pending_after, buffer_after}
use Rattle.mock_effects.specs.Steps.{failed, pend, write_step_of, write_step_by, read_step_of, read_step_by, written_flash, written_status}
use Rattle.mock_base.specs.declared.config.MockDeviceConfig.{MockDeviceConfig}
use Rattle.mock_effects.proofs.Lengths.{taken}
use Rattle.mock_effects.proofs.Programming.{told_success}

-- a write of sector data that was not refused: all of its sectors are in the flash
pub record Stored (v : Variety) (c : CommandBlock) (flash bytes after : List ℕ) (next : CommandState) : Type 0 where
  pub leaves : after ≡ written_flash v c bytes flash
  pub inside : c.cd_address * sector_size + length bytes ≤ length flash
  pub size : length bytes ≡ c.cd_length * sector_size
  pub pending : next ≡ Status c (written_status v c bytes flash)

pub pend_told : (status : pending.Status) (c : CommandBlock) → pend status (Status c SUCCESS) ≡ Status c status
unfolding pend failed
pend_told SUCCESS c = refl
pend_told FAILED c = refl

stored_of : (t : Told ℕ) (v : Variety) (block : ℕ) (s : Session) (flash bytes : List ℕ) (c : CommandBlock) → flash_sectors (length flash) ≡ t
    → s.current_command ≡ IO c → (write_step_of t v block s flash bytes).told ≡ given tt
    → Stored v c flash bytes (write_step_of t v block s flash bytes).leaves (write_step_of t v block s flash bytes).next.current_command
unfolding write_step_of done moved_by
stored_of (refused n values) v block s flash bytes c size e h = let z : ◌≡◌ {A = ℕ} 0 1 = cc in absurd (omega arith)
stored_of (given sectors) v block s flash bytes c size e h =
    let m = write_accepted v block s sectors bytes c e h in
    let k = taken (length flash) sectors size in
    let f = fits_sectors sectors c.cd_address c.cd_length m.fits in
    record {
      leaves = ap (λ (t : Turn). flash_after t.effect bytes flash) m.turn;
      inside = omega (arith, k.0, m.size);
      size = m.size;
      pending = ap (λ (t : Turn). pend (pending_after t.effect bytes flash) t.next.current_command) m.turn ∙ pend_told (written_status v c bytes flash) c;
    }

pub stored : (v : Variety) (block : ℕ) (s : Session) (flash bytes : List ℕ) (c : CommandBlock) → s.current_command ≡ IO c
    → (write_step_by v block s flash bytes).told ≡ given tt
    → Stored v c flash bytes (write_step_by v block s flash bytes).leaves (write_step_by v block s flash bytes).next.current_command
unfolding write_step_by
stored v block s flash bytes c e h = stored_of (flash_sectors (length flash)) v block s flash bytes c refl e h

-- where success is pending, the bytes stand as asked; the first variety's always do
pub as_asked : (v : Variety) (c : CommandBlock) (bytes flash : List ℕ) → written_status v c bytes flash ≡ SUCCESS
    → written_flash v c bytes flash ≡ over (c.cd_address * sector_size) bytes flash
unfolding stored_by flash_after pending_after
as_asked First c bytes flash e = refl
as_asked Nor c bytes flash e =
    let at = c.cd_address * sector_size in ap (λ (l : List ℕ). over at l flash) (told_success bytes (drop at flash) e)

-- a read of sector data that was not refused: the buffer is the command's sectors
pub record Supplied (c : CommandBlock) (flash buffer after : List ℕ) : Type 0 where
  pub leaves : after ≡ front (field (c.cd_address * sector_size) (c.cd_length * sector_size) flash) buffer
  pub size : length buffer ≡ c.cd_length * sector_size

supplied_of : (t : Told ℕ) (v : Variety) (s : Session) (config : MockDeviceConfig) (flash buffer : List ℕ) (c : CommandBlock) → s.current_command ≡ IO c
    → c.cd_code ≡ ReadLBA → (read_step_of t v s config flash buffer).told ≡ given tt → Supplied c flash buffer (read_step_of t v s config flash buffer).leaves
unfolding read_step_of done moved_by buffer_after
supplied_of (refused n values) v s config flash buffer c e code h = let z : ◌≡◌ {A = ℕ} 0 1 = cc in absurd (omega arith)
supplied_of (given sectors) v s config flash buffer c e code h =
    let m = read_accepted v s sectors (length buffer) c e code h in
    record { leaves = ap (λ (t : Turn). buffer_after config t.effect flash buffer) m.turn; size = m.size }

pub supplied : (v : Variety) (s : Session) (config : MockDeviceConfig) (flash buffer : List ℕ) (c : CommandBlock) → s.current_command ≡ IO c
    → c.cd_code ≡ ReadLBA → (read_step_by v s config flash buffer).told ≡ given tt → Supplied c flash buffer (read_step_by v s config flash buffer).leaves
unfolding read_step_by
supplied v s config flash buffer c e code h = supplied_of (flash_sectors (length flash)) v s config flash buffer c e code h

-- reading after writing gives what was written, where the write's status is success
pub read_after_write : (v : Variety) (block : ℕ) (s t : Session) (config : MockDeviceConfig) (flash bytes buffer : List ℕ) (c d : CommandBlock)
    → s.current_command ≡ IO c → (write_step_by v block s flash bytes).told ≡ given tt → written_status v c bytes flash ≡ SUCCESS
    → t.current_command ≡ IO d → d.cd_code ≡ ReadLBA → d.cd_address ≡ c.cd_address → d.cd_length ≡ c.cd_length
    → (read_step_by v t config (write_step_by v block s flash bytes).leaves buffer).told ≡ given tt
    → (read_step_by v t config (write_step_by v block s flash bytes).leaves buffer).leaves ≡ bytes
read_after_write v block s t config flash bytes buffer c d e h success f code address count k =
    let w = stored v block s flash bytes c e h in
    let r = supplied v t config (write_step_by v block s flash bytes).leaves buffer d f code k in
    let none : length buffer ≤ length bytes = omega (arith, w.size, r.size, count) in
    r.leaves ∙ rw (
      address,
      count,
      w.leaves,
      as_asked v c bytes flash success,
      ← w.size,
      field_same (c.cd_address * sector_size) bytes flash w.inside,
      drop_of_length-le buffer none,
      append-nil,
    )
