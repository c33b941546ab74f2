-- What callers may rely on: a refused call leaves all lent bytes; a write or an erase touches the sectors of its command only.
use Prim.Native.Nat.{ℕ, ◌+◌, ◌*◌, ◌/◌, ◌≤◌}
use mathlib.Core.Path.{◌≡◌, refl, ap, ap₂, sym, subst, ◌∙◌}
use mathlib.Core.Logic.{◌⊎◌, inl, inr, ⊎_elim}
use mathlib.Core.List.{List}
use native.Mathlib.Omega.{arith}
use lib.ListN.{length, drop, replicate, length-replicate}
use Rattle.promise.specs.Told.{Told, given, refused}
use Rattle.promise.specs.Bytes.{field}
use Rattle.protocol_bytes.specs.Sector.{sector_size}
use Rattle.protocol.specs.declared.CommandBlock.{CommandBlock}
use Rattle.promise.specs.Over.{over}
use Rattle.promise.proofs.Over.{length_over, field_before, field_behind}
use Rattle.mock_base.specs.Flash.{flash_sectors}
use Rattle.mock_base.specs.declared.range.FlashRange.{FlashRange}
use Rattle.mock_table.specs.Turn.{EffectFits}
use Rattle.mock_table.specs.Table.{range_of, write_turn}
use Rattle.mock_table.specs.declared.session.Session.{Session}
use Rattle.mock_table.specs.declared.outcome.Effect.{Effect}
use Rattle.mock_table.specs.declared.outcome.Effect.TheVariants.{Nothing, Fill, Store, Program, Supply, Reply}
use Rattle.mock_table.proofs.Sane.{write_sane, read_sane}
use Rattle.mock_table.proofs.FirstVariety.{NoProgram}
use Rattle.mock_table.proofs.Own.{Within, command_of, write_own}
use Rattle.protocol_codes.specs.declared.Status.TheVariants.{SUCCESS}
use Rattle.mock_effects.specs.Effects.{erased, programmed, flash_after, pending_after, buffer_after}
use Rattle.mock_effects.specs.Steps.{pend, pended, write_step_of, write_step_by, read_step_of, read_step_by, Untouched}
use Rattle.mock_base.specs.declared.cells.Variety.{Variety}
use Rattle.mock_base.specs.declared.config.MockDeviceConfig.{MockDeviceConfig}
use Rattle.mock_effects.proofs.Lengths.{taken}
use Rattle.mock_effects.proofs.Programming.{length_programmed}

write_refused_of : (t : Told ℕ) (v : Variety) (block : ℕ) (s : Session) (flash bytes : List ℕ) (n : ℕ) (values : List ℕ) → (write_step_of t v block s flash bytes).told ≡ refused n values
    → Untouched s flash (write_step_of t v block s flash bytes)
unfolding write_step_of flash_after pending_after pend
write_refused_of (refused m vs) v block s flash bytes n values e = record { leaves = refl; next = inl refl }
write_refused_of (given sectors) v block s flash bytes n values e =
    let ended = (write_sane v block s sectors bytes).ends n values e in
    record { leaves = ap (λ (x : Effect). flash_after x bytes flash) ended.1; next = inr (ap₂ pended (ap (λ (x : Effect). pending_after x bytes flash) ended.1) ended.0) }

pub write_refused : (v : Variety) (block : ℕ) (s : Session) (flash bytes : List ℕ) (n : ℕ) (values : List ℕ) → (write_step_by v block s flash bytes).told ≡ refused n values
    → Untouched s flash (write_step_by v block s flash bytes)
unfolding write_step_by
write_refused v block s flash bytes n values e = write_refused_of (flash_sectors (length flash)) v block s flash bytes n values e

read_refused_of : (t : Told ℕ) (v : Variety) (s : Session) (config : MockDeviceConfig) (flash buffer : List ℕ) (n : ℕ) (values : List ℕ)
    → (read_step_of t v s config flash buffer).told ≡ refused n values → Untouched s buffer (read_step_of t v s config flash buffer)
unfolding read_step_of buffer_after
read_refused_of (refused m vs) v s config flash buffer n values e = record { leaves = refl; next = inl refl }
read_refused_of (given sectors) v s config flash buffer n values e =
    let ended = (read_sane v s sectors (length buffer)).ends n values e in
    record { leaves = ap (λ (x : Effect). buffer_after config x flash buffer) ended.1; next = inr ended.0 }

pub read_refused : (v : Variety) (s : Session) (config : MockDeviceConfig) (flash buffer : List ℕ) (n : ℕ) (values : List ℕ)
    → (read_step_by v s config flash buffer).told ≡ refused n values → Untouched s buffer (read_step_by v s config flash buffer)
unfolding read_step_by
read_refused v s config flash buffer n values e = read_refused_of (flash_sectors (length flash)) v s config flash buffer n values e

-- parts of a flash beside a range, before it or behind it
pub Beside : FlashRange → ℕ → ℕ → Type 0
Beside range a n = (a + n ≤ range.first * sector_size) ⊎ (range.first * sector_size + range.count * sector_size ≤ a)

-- bytes put over as many of a range
over_beside : (range : FlashRange) (bytes flash : List ℕ) → range.first + range.count ≤ length flash / sector_size
    → length bytes ≡ range.count * sector_size → (a n : ℕ) → Beside range a n
    → field a n (over (range.first * sector_size) bytes flash) ≡ field a n flash
unfolding Beside
over_beside range bytes flash fits size a n =
    let start = range.first * sector_size in
    let inside : start + length bytes ≤ length flash = omega arith in
    ⊎_elim (λ h. field_before start bytes flash inside a n h) (λ h. field_behind start bytes flash inside a n (omega arith))

-- an effect that fits leaves every part beside its range
beside_effect : (range : FlashRange) (effect : Effect) (bytes flash : List ℕ) → Within range effect
    → EffectFits (length flash / sector_size) (length bytes) effect → (a n : ℕ) → Beside range a n
    → field a n (flash_after effect bytes flash) ≡ field a n flash
unfolding flash_after Within EffectFits
beside_effect range Nothing bytes flash own fits a n apart = refl
beside_effect range (Fill r) bytes flash own fits a n apart =
    over_beside r (replicate (r.count * sector_size) erased) flash fits (length-replicate (r.count * sector_size) erased) a n
    (subst (λ (x : FlashRange). Beside x a n) (sym own) apart)
beside_effect range (Store r) bytes flash own fits a n apart =
    over_beside r bytes flash fits.0 fits.1 a n (subst (λ (x : FlashRange). Beside x a n) (sym own) apart)
beside_effect range (Program r) bytes flash own fits a n apart =
    let now = programmed bytes (drop (r.first * sector_size) flash) in
    over_beside r now flash fits.0 (length_programmed bytes (drop (r.first * sector_size) flash) ∙ fits.1) a n (subst (λ (x : FlashRange). Beside x a n) (sym own) apart)
beside_effect range (Supply r) bytes flash own fits a n apart = refl
beside_effect range (Reply kind) bytes flash own fits a n apart = refl

-- a write or erase touches its own sectors only
write_beside_of : (t : Told ℕ) (v : Variety) (block : ℕ) (s : Session) (flash bytes : List ℕ) → flash_sectors (length flash) ≡ t → (c : CommandBlock)
    → command_of s.current_command bytes ≡ given c → (a n : ℕ) → Beside (range_of c) a n
    → field a n (write_step_of t v block s flash bytes).leaves ≡ field a n flash
unfolding write_step_of
write_beside_of (refused m vs) v block s flash bytes size c e a n apart = refl
write_beside_of (given sectors) v block s flash bytes size c e a n apart =
    let h = taken (length flash) sectors size in
    let turn = write_turn v block s sectors bytes in
    beside_effect (range_of c) turn.effect bytes flash (write_own v block s sectors bytes c e)
    (subst (λ (k : ℕ). EffectFits k (length bytes) turn.effect) (sym h.0) (write_sane v block s sectors bytes).fits) a n apart

pub write_beside : (v : Variety) (block : ℕ) (s : Session) (flash bytes : List ℕ) (c : CommandBlock) → command_of s.current_command bytes ≡ given c
    → (a n : ℕ) → Beside (range_of c) a n → field a n (write_step_by v block s flash bytes).leaves ≡ field a n flash
unfolding write_step_by
write_beside v block s flash bytes c e a n apart = write_beside_of (flash_sectors (length flash)) v block s flash bytes refl c e a n apart

-- and no call changes the flash's length
effect_long : (effect : Effect) (bytes flash : List ℕ) → EffectFits (length flash / sector_size) (length bytes) effect
    → length (flash_after effect bytes flash) ≡ length flash
unfolding flash_after EffectFits
effect_long Nothing bytes flash fits = refl
effect_long (Fill r) bytes flash fits =
    let n = length-replicate (r.count * sector_size) erased in
    length_over (r.first * sector_size) (replicate (r.count * sector_size) erased) flash (omega (arith, n))
effect_long (Store r) bytes flash fits = length_over (r.first * sector_size) bytes flash (omega (arith, fits.0, fits.1))
effect_long (Program r) bytes flash fits =
    let now = programmed bytes (drop (r.first * sector_size) flash) in
    length_over (r.first * sector_size) now flash (omega (arith, fits.0, fits.1, length_programmed bytes (drop (r.first * sector_size) flash)))
effect_long (Supply r) bytes flash fits = refl
effect_long (Reply kind) bytes flash fits = refl

write_long_of : (t : Told ℕ) (v : Variety) (block : ℕ) (s : Session) (flash bytes : List ℕ) → flash_sectors (length flash) ≡ t
    → length (write_step_of t v block s flash bytes).leaves ≡ length flash
unfolding write_step_of
write_long_of (refused m vs) v block s flash bytes size = refl
write_long_of (given sectors) v block s flash bytes size =
    let h = taken (length flash) sectors size in
    let turn = write_turn v block s sectors bytes in
    effect_long turn.effect bytes flash
    (subst (λ (k : ℕ). EffectFits k (length bytes) turn.effect) (sym h.0) (write_sane v block s sectors bytes).fits)

pub write_long : (v : Variety) (block : ℕ) (s : Session) (flash bytes : List ℕ) → length (write_step_by v block s flash bytes).leaves ≡ length flash
unfolding write_step_by
write_long v block s flash bytes = write_long_of (flash_sectors (length flash)) v block s flash bytes refl

-- an effect that programs nothing answers success
pub settled : (effect : Effect) (bytes flash : List ℕ) → NoProgram effect → pending_after effect bytes flash ≡ SUCCESS
unfolding NoProgram pending_after
settled Nothing bytes flash h = refl
settled (Fill range) bytes flash h = refl
settled (Store range) bytes flash h = refl
settled (Program range) bytes flash h = absurd h
settled (Supply range) bytes flash h = refl
settled (Reply kind) bytes flash h = refl
