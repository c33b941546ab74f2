-- What a bulk call comes to: what is told, the next session, and an effect on lent bytes.
use Rattle.std.specs.Prelude.{ℕ, ◌+◌, ◌*◌, ◌≤◌, ◌≡◌, Bool, true, false, List, eqb}
use Rattle.promise.specs.Told.{Told, given, refused}
use Rattle.promise.specs.Rules.{pick}
use Rattle.protocol_codes.specs.Numbers.{code_number}
use Rattle.protocol_codes.specs.declared.CommandCode.{CommandCode}
use Rattle.protocol_codes.specs.declared.CommandCode.TheVariants.{EraseLBA, EraseForce}
use Rattle.protocol_codes.specs.declared.Status.TheVariants.{SUCCESS}
use Rattle.protocol_codes.specs.declared.Direction.{Direction}
use Rattle.protocol_codes.specs.declared.Direction.TheVariants.{In, Out}
use Rattle.protocol_bytes.specs.Sector.{sector_size}
use Rattle.protocol.specs.declared.CommandBlock.{CommandBlock}
use Rattle.mock_base.specs.Told.{Answers}
use Rattle.mock_table.specs.declared.session.CommandState.{CommandState}
use Rattle.mock_table.specs.declared.session.CommandState.TheVariants as state
use Rattle.mock_table.specs.declared.session.Session.{Session}
use Rattle.mock_table.specs.declared.outcome.Effect.{Effect}
use Rattle.mock_table.specs.declared.outcome.Effect.TheVariants.{Nothing, Fill, Store, Program, Supply, Reply}
use Rattle.mock_table.specs.declared.outcome.ReplyKind.{ReplyKind}
use Rattle.mock_table.specs.declared.outcome.ReplyKind.TheVariants.{FlashId, FlashInfo, ChipInfo, Capability, Storage}
use Rattle.mock_table.specs.declared.outcome.ReplyKind.TheVariants as reply
use Rattle.mock_table.specs.declared.outcome.Outcome.{Outcome}
use Rattle.mock_table.specs.declared.session.CommandState.TheVariants.{None}
use Rattle.std.specs.Prelude.{Option}
use Rattle.protocol_codes.specs.declared.ResetOpcode.{ResetOpcode}

pub record Turn : Type 0 where
  pub told : Told Unit
  pub next : Session
  pub effect : Effect

abbrev pub session : CommandState → Option ResetOpcode → Session
session state reset = record { current_command = state; last_reset = reset }

-- every bulk call, refused or not, first sets the transaction to none
unfoldable pub refuses : Option ResetOpcode → ℕ → List ℕ → Turn
refuses reset number values = record { told = refused number values; next = session state.None reset; effect = Nothing }

unfoldable pub done : CommandState → Option ResetOpcode → Effect → Turn
done state reset effect = record { told = given tt; next = session state reset; effect = effect }

-- whether a command has this code
unfoldable pub has_code : CommandBlock → CommandCode → Bool
has_code c code = eqb (code_number c.cd_code) (code_number code)

-- erases: both codes
unfoldable pub is_erase : CommandBlock → Bool
is_erase c = pick (has_code c EraseLBA) true (has_code c EraseForce)

unfoldable pub is_out : Direction → Bool
is_out Out = true
is_out In = false

unfoldable pub is_in : Direction → Bool
is_in In = true
is_in Out = false

-- an outcome that comes to this
pub record OutcomeMeets (r : Outcome) (t : Turn) : Type 0 where
  pub tells : Answers r.answer t.told
  pub next : r.session ≡ t.next
  pub effect : r.effect ≡ t.effect

-- chip info 16 bytes, flash id 5, flash info 11, capability 8, storage 4; status 13
unfoldable pub reply_size : ReplyKind → ℕ
reply_size ChipInfo = 16
reply_size FlashId = 5
reply_size FlashInfo = 11
reply_size Capability = 8
reply_size Storage = 4
reply_size (reply.Status tag status) = 13

-- an effect over a flash of so many sectors and `actual` bytes of data or buffer has its whole range there, and as many bytes
unfoldable pub EffectFits : ℕ → ℕ → Effect → Type 0
EffectFits sectors actual Nothing = Unit
EffectFits sectors actual (Fill range) = range.first + range.count ≤ sectors
EffectFits sectors actual (Store range) = (range.first + range.count ≤ sectors) × (actual ≡ range.count * sector_size)
EffectFits sectors actual (Program range) = (range.first + range.count ≤ sectors) × (actual ≡ range.count * sector_size)
EffectFits sectors actual (Supply range) = (range.first + range.count ≤ sectors) × (actual ≡ range.count * sector_size)
EffectFits sectors actual (Reply kind) = actual ≡ reply_size kind

-- a turn whose effect fits the flash; a refused one has none, and ends the transaction
pub record Sane (last : Option ResetOpcode) (sectors actual : ℕ) (t : Turn) : Type 0 where
  pub fits : EffectFits sectors actual t.effect
  pub ends : (number : ℕ) (values : List ℕ) → t.told ≡ refused number values → (t.next ≡ session None last) × (t.effect ≡ Nothing)

-- no FAILED status is pending
unfoldable pub Quiet : CommandState → Type 0
Quiet state.None = Unit
Quiet (state.IO c) = Unit
Quiet (state.Status c status) = status ≡ SUCCESS
