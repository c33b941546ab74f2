-- Every call over the device's whole record.
use Rattle.std.specs.Prelude.{ℕ, ◌≡◌, Bool, false, not, List, [], ◌∷◌, eqb, length}
use Rattle.promise.specs.Told.{Told, given, refused, and_then}
use Rattle.promise.specs.Rules.{Rule, rule, pick, unless, or_refuse}
use Rattle.mock_areas.specs.Slots.{fresh_areas, area_found}
use Rattle.mock_areas.specs.Append.{append_step}
use Rattle.mock_areas.specs.declared.Areas.{Areas}
use Rattle.mock_areas.specs.declared.Stretch.{Stretch}
use Rattle.mock_base.specs.Told.{Answers}
use Rattle.mock_base.specs.Flash.{flash_sectors}
use Rattle.mock_table.specs.declared.session.Session.{Session}
use Rattle.mock_table.specs.declared.session.CommandState.TheVariants as state
use Rattle.mock_effects.specs.Steps.{Step, write_step_by, read_step_by}
use Rattle.mock_base.specs.declared.cells.Variety.{Variety}
use Rattle.mock_base.specs.declared.cells.Variety.TheVariants.{First, Nor}
use Rattle.mock_base.specs.declared.config.MockDeviceConfig.{MockDeviceConfig}
use Rattle.mock.specs.declared.device.MockState.{MockState}
use Rattle.mock.specs.declared.device.MockStep.{MockStep}
use Rattle.promise.specs.Does.{Comes}
use Rattle.std.specs.Prelude.{Option}
use Rattle.std.specs.declared.option.Option.TheVariants.{None}

-- what is told, the next record, and the bytes lent mutably as they are left: flash, buffer or store
abbrev pub Call : Type 0
Call = Comes Unit MockState

-- a call that answers r and leaves its bytes `after`
pub record MockMeets (r : MockStep) (after : List ℕ) (c : Call) : Type 0 where
  pub tells : Answers r.answer c.told
  pub next : r.state ≡ c.next
  pub leaves : after ≡ c.leaves

-- creation: what is told, and the record
pub record Creation : Type 0 where
  pub told : Told Unit
  pub fresh : MockState

pub record CreateMeets (r : MockStep) (c : Creation) : Type 0 where
  pub tells : Answers r.answer c.told
  pub fresh : r.state ≡ c.fresh

-- no area held, no reset, no transaction
unfoldable pub fresh_state : Variety → MockDeviceConfig → ℕ → MockState
fresh_state v config storeLength =
    record {
      config = config;
      variety = v;
      areas = fresh_areas;
      store_length = storeLength;
      last_reset = None;
      current_command = state.None;
    }

-- 62: block size 0, of NOR alone
unfoldable pub block_rules : Variety → ℕ → List Rule
block_rules First block = []
block_rules Nor block = rule (eqb block 0) 62 [] ∷ []

-- 60 and 61 at creation, then 62
unfoldable pub create_told : Variety → ℕ → ℕ → Told Unit
create_told v block flashLength = and_then (flash_sectors flashLength) (λ sectors. unless (block_rules v block) (given tt))

-- beside a refusal stands the record as if unrefused
unfoldable pub created : Variety → MockDeviceConfig → ℕ → ℕ → Creation
created v config flashLength storeLength =
    record { told = create_told v config.block_size_sectors flashLength; fresh = fresh_state v config storeLength }

abbrev pub session_of : MockState → Session
session_of s = record { current_command = s.current_command; last_reset = s.last_reset }

-- the record with another session, or with other areas
abbrev pub with_session : MockState → Session → MockState
with_session s session =
    record {
      config = s.config;
      variety = s.variety;
      areas = s.areas;
      store_length = s.store_length;
      last_reset = session.last_reset;
      current_command = session.current_command;
    }

abbrev pub with_areas : MockState → Areas → MockState
with_areas s areas =
    record {
      config = s.config;
      variety = s.variety;
      areas = areas;
      store_length = s.store_length;
      last_reset = s.last_reset;
      current_command = s.current_command;
    }

-- a bulk call is a step of the session, at a flash of the record's variety and configured block size
abbrev pub bulk : MockState → Step → Call
bulk s step = record { told = step.told; next = with_session s step.next; leaves = step.leaves }

unfoldable pub write_bulk : MockState → List ℕ → List ℕ → Call
write_bulk s flash bytes = bulk s (write_step_by s.variety s.config.block_size_sectors (session_of s) flash bytes)

unfoldable pub read_bulk : MockState → List ℕ → List ℕ → Call
read_bulk s flash buffer = bulk s (read_step_by s.variety (session_of s) s.config flash buffer)

-- type 0x40, request 0xc, value 0
unfoldable pub is_upload : ℕ → ℕ → ℕ → Bool
is_upload type request value = pick (eqb type 0x40) (pick (eqb request 0xc) (eqb value 0) false) false

-- 65: the lent store isn't as long as at creation
abbrev pub store_rule : MockState → ℕ → Rule
store_rule s n = rule (not (eqb n s.store_length)) 65 []

-- 65; 51: (type, request, value)
unfoldable pub control_rules : MockState → ℕ → ℕ → ℕ → ℕ → List Rule
control_rules s type request value n =
    store_rule s n ∷ rule (not (is_upload type request value)) 51 (type ∷ request ∷ value ∷ []) ∷ []

-- order: 65, 51, then the area's 58 and 59; control calls don't touch the transaction
unfoldable pub write_control : MockState → ℕ → ℕ → ℕ → ℕ → List ℕ → List ℕ → Call
write_control s type request value index bytes store =
    or_refuse (λ number values. record { told = refused number values; next = s; leaves = store })
    (control_rules s type request value (length store))
    (record {
      told = (append_step s.areas index bytes store).told;
      next = with_areas s (append_step s.areas index bytes store).next;
      leaves = (append_step s.areas index bytes store).leaves;
    })

-- where an area's bytes stand, looked up by number
abbrev pub maskrom_area : MockState → ℕ → Option Stretch
maskrom_area s number = area_found s.areas number s.store_length
