-- The deck over any turn of a run: what a block does to the head and the lines of a deck, word for word, but for the turn. Uploads are today's: their
-- control writes go by neither variety nor transaction (`control_alike`, mock/proofs/Nor).
use Rattle.std.specs.Prelude.{ℕ, ◌*◌, List, [], ◌∷◌, ◌++◌, length, replicate}
use Rattle.promise.specs.Told.{Told, given, refused}
use Rattle.promise.specs.Rules.{pick, or_refuse}
use Rattle.promise.specs.Run.{Turned, Ran, runs}
use Rattle.protocol_bytes.specs.Sector.{sector_size}
use Rattle.protocol.specs.Commands.{chip_info_command, flash_id_command, flash_info_command, capability_command, storage_command, erase_lba_command, erase_force_command, reset_command, switch_command, read_lba_command, write_lba_command}
use Rattle.operation_finish.specs.Reply.{Reply}
use Rattle.operation_finish.specs.declared.Kind.TheVariants as kind
use Rattle.operation.specs.declared.steps.UsbOperation.{UsbOperation}
use Rattle.operation.specs.Record.{fresh}
use Rattle.run_turn.specs.Turn.{UsbState, usb_state}
use Rattle.run_operation.specs.Run.{run_rules, unstarted, whole_budget}
use Rattle.deck_block.specs.declared.Request.{Request}
use Rattle.deck_block.specs.declared.Request.TheVariants as request
use Rattle.deck_block.specs.Reading.{read_card}
use Rattle.deck.specs.Deal.{Head, head, Deal, operated_by, away}
use Rattle.deck.specs.Dealing.{load}
use Rattle.deck.specs.Bench.{next_tag, next_number}
use Rattle.deck_line.specs.Line.{line_text}
use Rattle.deck_chunk.specs.Deck.{Table, table_after}

module _ (turn : UsbState → Turned Reply UsbState) where
  -- a run over this turn
  unfoldable pub run_by : UsbState → ℕ → ℕ → Ran Reply UsbState
  run_by s store budget = or_refuse (unstarted s) (run_rules s store) (runs turn budget s)

  unfoldable pub operate_by : UsbOperation → List ℕ → Head → Deal
  operate_by op bytes h = operated_by (run_by (usb_state op h.device h.flash bytes) (length h.store) whole_budget) h.store

  unfoldable pub carry_out_by : ℕ → Request → Head → Deal
  carry_out_by tag request.ChipInfo h = operate_by (fresh kind.ChipInfo (chip_info_command tag)) [] h
  carry_out_by tag request.FlashId h = operate_by (fresh kind.FlashId (flash_id_command tag)) [] h
  carry_out_by tag request.FlashInfo h = operate_by (fresh kind.FlashInfo (flash_info_command tag)) [] h
  carry_out_by tag request.Capability h = operate_by (fresh kind.Capability (capability_command tag)) [] h
  carry_out_by tag (request.EraseLba first count) h = operate_by (fresh kind.Nothing (erase_lba_command tag first count)) [] h
  carry_out_by tag (request.EraseForce first count) h = operate_by (fresh kind.Nothing (erase_force_command tag first count)) [] h
  carry_out_by tag (request.ReadLba first count) h =
      operate_by (fresh kind.Read (read_lba_command tag first count)) (replicate (count * sector_size) 0) h
  carry_out_by tag (request.WriteLba first count fill) h =
      operate_by (fresh kind.Write (write_lba_command tag first count)) (replicate (count * sector_size) fill) h
  carry_out_by tag (request.ResetDevice opcode) h = operate_by (fresh kind.Nothing (reset_command tag opcode)) [] h
  carry_out_by tag request.Storage h = operate_by (fresh kind.Storage (storage_command tag)) [] h
  carry_out_by tag (request.SwitchStorage index) h = operate_by (fresh kind.Nothing (switch_command tag index)) [] h
  carry_out_by tag (request.WriteArea area n fill) h = load area (replicate n fill) h

  unfoldable pub deal_asked_by : ℕ → Told Request → Head → Deal
  deal_asked_by tag (given request) h = carry_out_by tag request h
  deal_asked_by tag (refused number values) h = away number h

  -- the block that comes next on a table
  abbrev pub dealt_by : List ℕ → Table → Deal
  dealt_by block t =
      deal_asked_by (next_tag t.deck.bench) (read_card (next_tag t.deck.bench) block) (head t.deck.bench.device t.flash t.store)

  -- and the table behind it; nothing once the deck is over
  abbrev pub left_by : List ℕ → Table → Table
  left_by block t = pick t.deck.is_over t (table_after t block (dealt_by block t))

  -- the lines of a deck
  unfoldable pub lines_over : List (List ℕ) → Table → List ℕ
  lines_over [] t = []
  lines_over (block ∷ blocks) t =
      pick t.deck.is_over [] (line_text (next_number t.deck.bench) (dealt_by block t).told) ++ lines_over blocks (left_by block t)
