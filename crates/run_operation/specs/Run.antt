-- A run of an operation: what it checks, then its turns.
use Rattle.std.specs.Prelude.{ℕ, List, [], ◌∷◌, ◌++◌, length}
use Rattle.promise.specs.Told.{refused}
use Rattle.promise.specs.Rules.{Rule, or_refuse}
use Rattle.mock_base.specs.Flash.{flash_rules}
use Rattle.operation_finish.specs.Reply.{Reply}
use Rattle.operation_finish.specs.declared.Kind.{Kind}
use Rattle.operation_finish.specs.declared.Kind.TheVariants as kind
use Rattle.operation.specs.Record.{transfer_length}
use Rattle.operation.specs.Step.{data_rule}
use Rattle.mock.specs.Device.{store_rule}
use Rattle.promise.specs.Run.{Ran, ran, tells, runs}
use Rattle.run_turn.specs.Turn.{UsbState, usb_turn}

-- how much sector data an operation wants: its transfer length, where it is over sectors
unfoldable pub sector_data : Kind → ℕ → ℕ
sector_data kind.ChipInfo size = 0
sector_data kind.FlashId size = 0
sector_data kind.FlashInfo size = 0
sector_data kind.Capability size = 0
sector_data kind.Nothing size = 0
sector_data kind.Storage size = 0
sector_data kind.Read size = size
sector_data kind.Write size = size

-- "checks 60, 61, 65 and 27 before its first step"; 27: "sector data below the transfer length"
unfoldable pub run_rules : UsbState → ℕ → List Rule
run_rules s store =
    flash_rules (length s.flash)
    ++ (store_rule s.device store
    ∷ data_rule (length s.«data») (sector_data s.operation.kind (transfer_length s.operation))
    ∷ [])

-- "A refusal writes no lent buffer and changes no record": those four take no step
abbrev pub unstarted : UsbState → ℕ → List ℕ → Ran Reply UsbState
unstarted s number values = ran (tells (refused number values)) 0 s

-- the run of a state, with a store of that length and that budget
unfoldable pub usb_run : UsbState → ℕ → ℕ → Ran Reply UsbState
usb_run s store budget = or_refuse (unstarted s) (run_rules s store) (runs usb_turn budget s)

-- one whole operation: command, data, status and finish
abbrev pub whole_budget : ℕ
whole_budget = 4
