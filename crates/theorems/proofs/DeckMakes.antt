-- A block of a deck, and so a chunk of one, makes of a device's record that calls from a fresh start made another such record; and a bench starts
-- with one.
use Prim.Native.Nat.{ℕ, zero, suc, ◌*◌, ◌<◌}
use mathlib.Core.Path.{◌≡◌, refl, sym, subst}
use mathlib.Core.Bool.{true}
use mathlib.Core.List.{List, [], ◌∷◌}
use native.Mathlib.Omega.{arith}
use borrow.Author.Tests.{eqb-true}
use lib.Dec.{eqb}
use lib.ListN.{length, take, drop, replicate}
use Rattle.promise.specs.Told.{Told, given, refused}
use Rattle.promise.specs.Bytes.{AreBytes}
use Rattle.promise.proofs.Outcome.{by_test, either_way}
use Rattle.protocol_codes.specs.Numbers.{storage_number, storage_indexes}
use Rattle.protocol_codes.specs.Reading.{by_number, reset_of, storage_of}
use Rattle.protocol_codes.specs.declared.ResetOpcode.{ResetOpcode}
use Rattle.protocol_codes.specs.declared.StorageIndex.{StorageIndex}
use Rattle.protocol_codes.specs.declared.StorageIndex.TheVariants.{Unknown}
use Rattle.protocol.specs.declared.CommandBlock.{CommandBlock}
use Rattle.protocol.specs.Commands.{chip_info_command, flash_id_command, flash_info_command, capability_command, storage_command, erase_lba_command, erase_force_command, read_lba_command, write_lba_command, reset_command, switch_command}
use Rattle.operation_finish.specs.declared.Kind.{Kind}
use Rattle.operation_finish.specs.declared.Kind.TheVariants as kind
use Rattle.operation.specs.Record.{fresh}
use Rattle.maskrom.specs.Whole.{fresh_whole}
use Rattle.mock_base.specs.declared.cells.Variety.{Variety}
use Rattle.mock_base.specs.declared.cells.Variety.TheVariants.{First}
use Rattle.mock_base.specs.declared.config.MockDeviceConfig.{MockDeviceConfig}
use Rattle.mock_base.specs.Config.{default_config}
use Rattle.mock.specs.declared.device.MockState.{MockState}
use Rattle.mock.specs.Device.{created}
use Rattle.mock.specs.Made.{Made, creates}
use Rattle.run_turn.specs.Turn.{is_write}
use Rattle.run_operation.specs.declared.UsbRun.{UsbRun}
use Rattle.run_upload.specs.declared.LoadRun.{LoadRun}
use Rattle.run_upload.specs.Load.{upload_budget}
use Rattle.deck_block.specs.declared.Request.{Request}
use Rattle.deck_block.specs.declared.Request.TheVariants as request
use Rattle.deck_block.specs.Block.{fields_of}
use Rattle.deck_block.specs.Reading.{asks_reset, reset_request, read_card}
use Rattle.deck_block.proofs.ByKind.{by_kind, passed_rules}
use Rattle.deck.specs.declared.bench.Bench.{Bench}
use Rattle.deck.specs.declared.bench.BenchStart.{BenchStart}
use Rattle.deck.specs.declared.bench.DeckStep.{DeckStep}
use Rattle.deck.specs.declared.verdict.Dealt.{Dealt}
use Rattle.deck.specs.Deal.{Head, head, DealMeets, OperatedMeets, LoadedMeets, turned_away}
use Rattle.deck.specs.Dealing.{operate, load_of, load, carry_out, deal_asked, deal_block}
use Rattle.deck.specs.Bench.{StartMeets, next_tag, StepMeets}
use Rattle.deck_block.specs.Blocks.{begun, cut}
use Rattle.deck_chunk.specs.declared.Deck.{Deck}
use Rattle.deck_chunk.specs.declared.ChunkStep.{ChunkStep}
use Rattle.deck_chunk.specs.Deck.{Table, table, Lines, deal_next, deal_blocks, deal_all}
use Rattle.deck_chunk.specs.Chunk.{Chunk, chunk_rules, chunk_dealt, deal_chunk, ChunkMeets}
use Rattle.theorems.proofs.CommandsAreBytes.{are_none, are_take, are_drop, are_copies, reset_byte, command_goes_out_as_bytes}
use Rattle.theorems.proofs.OperationMakes.{run_leaves_made}
use Rattle.theorems.proofs.UploadMakes.{upload_leaves_made}

-- the storage index and the fill byte that a block asks with are bytes

by_number_byte : (values : List StorageIndex) (n : ℕ) → n < 256 → storage_number (by_number (λ index. index) (Unknown n) storage_number values n) < 256
unfolding by_number
by_number_byte [] n h = h
by_number_byte (a ∷ rest) n h =
    by_test (λ (i : StorageIndex). storage_number i < 256) (eqb n (storage_number a)) (λ e. subst (λ (k : ℕ). k < 256) (eqb-true n (storage_number a) e) h)
    (λ e. by_number_byte rest n h)

storage_byte : (n : ℕ) → n < 256 → storage_number (storage_of n) < 256
unfolding storage_of
storage_byte n h = by_number_byte storage_indexes n h

abbrev InBytes : Request → Type 0
InBytes request.ChipInfo = Unit
InBytes request.FlashId = Unit
InBytes request.FlashInfo = Unit
InBytes request.Capability = Unit
InBytes (request.EraseLba first count) = Unit
InBytes (request.EraseForce first count) = Unit
InBytes (request.ReadLba first count) = Unit
InBytes (request.WriteLba first count fill) = fill < 256
InBytes (request.ResetDevice opcode) = Unit
InBytes request.Storage = Unit
InBytes (request.SwitchStorage index) = storage_number index < 256
InBytes (request.WriteArea area n fill) = Unit

abbrev InBytesTold : Told Request → Type 0
InBytesTold (given r) = InBytes r
InBytesTold (refused n values) = Unit

reset_in_bytes : (told : Told ResetOpcode) → InBytesTold (asks_reset told)
unfolding asks_reset
reset_in_bytes (given opcode) = tt
reset_in_bytes (refused n values) = tt

asked_in_bytes : (tag : ℕ) (block : List ℕ) (r : Request) → AreBytes block → read_card tag block ≡ given r → InBytes r
unfolding reset_request fields_of
asked_in_bytes tag block r bytes e =
    let p = passed_rules tag block r e in
    let f = fields_of block in
    subst InBytesTold p.asks
    (by_kind InBytesTold f p.kind tt tt tt tt tt tt (λ k. tt) (λ k. bytes 7) (reset_in_bytes (reset_of f.byte)) tt (storage_byte f.byte (bytes 7))
    (λ k. tt))

module _ (v : Variety) (config : MockDeviceConfig) (n : ℕ) where
  abbrev Keeps : Head → Type 0
  Keeps h = Made v config n h.device

  module _ (h : Head) (made : Keeps h) where
    by_run : (k : Kind) (c : CommandBlock) (bytes : List ℕ) → c.lun < 256 → c.cdb_length < 256 → c.cd_opcode < 256
        → (is_write k ≡ true → AreBytes bytes) → Keeps (operate (fresh k c) bytes h).leaves
    unfolding operate
    by_run k c bytes lun cdb opcode lent =
        run_leaves_made v config n (fresh k c) h.device h.flash bytes (length h.store) 4 made (command_goes_out_as_bytes (fresh k c) lun cdb opcode) lent

    by_load : (area : ℕ) (image : List ℕ) → Keeps (load area image h).leaves
    unfolding load_of
    by_load area image =
        upload_leaves_made v config n (fresh_whole area (length image)) h.device image h.store (length h.flash) (upload_budget (length image)) made

    -- a command that has no opcode, without data of its own
    plain : (k : Kind) (c : CommandBlock) → c.lun < 256 → c.cdb_length < 256 → c.cd_opcode < 256 → Keeps (operate (fresh k c) [] h).leaves
    plain k c lun cdb opcode = by_run k c [] lun cdb opcode (λ w. are_none)

    carried : (tag : ℕ) (asked : Request) → InBytes asked → Keeps (carry_out tag asked h).leaves
    unfolding carry_out
    carried tag request.ChipInfo b = plain kind.ChipInfo (chip_info_command tag) (omega arith) (omega arith) (omega arith)
    carried tag request.FlashId b = plain kind.FlashId (flash_id_command tag) (omega arith) (omega arith) (omega arith)
    carried tag request.FlashInfo b = plain kind.FlashInfo (flash_info_command tag) (omega arith) (omega arith) (omega arith)
    carried tag request.Capability b = plain kind.Capability (capability_command tag) (omega arith) (omega arith) (omega arith)
    carried tag (request.EraseLba first count) b = plain kind.Nothing (erase_lba_command tag first count) (omega arith) (omega arith) (omega arith)
    carried tag (request.EraseForce first count) b = plain kind.Nothing (erase_force_command tag first count) (omega arith) (omega arith) (omega arith)
    carried tag (request.ReadLba first count) b =
        by_run kind.Read (read_lba_command tag first count) (replicate (count * 512) 0) (omega arith) (omega arith) (omega arith)
        (λ w. are_copies (count * 512) 0 (omega arith))
    carried tag (request.WriteLba first count fill) b =
        by_run kind.Write (write_lba_command tag first count) (replicate (count * 512) fill) (omega arith) (omega arith) (omega arith)
        (λ w. are_copies (count * 512) fill b)
    carried tag (request.ResetDevice opcode) b = plain kind.Nothing (reset_command tag opcode) (omega arith) (omega arith) (reset_byte opcode)
    carried tag request.Storage b = plain kind.Storage (storage_command tag) (omega arith) (omega arith) (omega arith)
    carried tag (request.SwitchStorage index) b = plain kind.Nothing (switch_command tag index) (omega arith) (omega arith) b
    carried tag (request.WriteArea area k fill) b = by_load area (replicate k fill)

    dealt : (tag : ℕ) (block : List ℕ) (t : Told Request) → AreBytes block → read_card tag block ≡ t → Keeps (deal_asked tag t h).leaves
    unfolding deal_asked
    dealt tag block (given asked) bytes e = carried tag asked (asked_in_bytes tag block asked bytes e)
    dealt tag block (refused number values) bytes e = made

    block_leaves_made : (tag : ℕ) (block : List ℕ) → AreBytes block → Keeps (deal_block tag block h).leaves
    unfolding deal_block
    block_leaves_made tag block bytes = dealt tag block (read_card tag block) bytes refl

  -- over the contract of `deal_block`; a block is bytes
  pub deal_block_makes : (r : Dealt) (device : MockState) (tag : ℕ) (block flash store left kept : List ℕ) → Made v config n device → AreBytes block
      → DealMeets r left kept (deal_block tag block (head device flash store)) → Made v config n r.device
  deal_block_makes r device tag block flash store left kept made bytes m =
      subst Keeps (sym m.leaves) (block_leaves_made (head device flash store) made tag block bytes)

  -- over the contract of `Bench::deal`
  pub deal_makes : (r : DeckStep) (bench : Bench) (block flash store left kept : List ℕ) → Made v config n bench.device → AreBytes block
      → StepMeets r left kept bench block flash store → Made v config n r.bench.device
  deal_makes r bench block flash store left kept made bytes m =
      subst Keeps (sym m.leaves) (block_leaves_made (head bench.device flash store) made (next_tag bench) block bytes)

  -- what is made of a run's record has the run's device
  pub operated_makes : (r : Dealt) (ran : UsbRun) → Made v config n ran.device → OperatedMeets r ran → Made v config n r.device
  operated_makes r ran made m = subst (λ (d : MockState). Made v config n d) (sym m.device) made

  pub loaded_makes : (r : Dealt) (ran : LoadRun) → Made v config n ran.device → LoadedMeets r ran → Made v config n r.device
  loaded_makes r ran made m = subst (λ (d : MockState). Made v config n d) (sym m.device) made

  pub turned_away_makes : (r : Dealt) (number : ℕ) (device : MockState) → Made v config n device → r ≡ turned_away number device → Made v config n r.device
  turned_away_makes r number device made e = subst (λ (d : Dealt). Made v config n d.device) (sym e) made

  -- chunks

  abbrev TableKeeps : Table → Type 0
  TableKeeps t = Made v config n t.deck.bench.device

  next_leaves_made : (block : List ℕ) (t : Table) → AreBytes block → TableKeeps t → TableKeeps (deal_next block t).leaves
  unfolding deal_next
  next_leaves_made block t bytes made =
      by_test (λ (l : Lines). TableKeeps l.leaves) t.deck.is_over (λ e. made)
      (λ e. block_leaves_made (head t.deck.bench.device t.flash t.store) made (next_tag t.deck.bench) block bytes)

  cut_leaves_made : (k : ℕ) (input : List ℕ) (t : Table) → AreBytes input → TableKeeps t → TableKeeps (deal_blocks (cut k input) t).leaves
  unfolding deal_blocks cut
  cut_leaves_made zero input t bytes made = made
  cut_leaves_made (suc k) input t bytes made =
      cut_leaves_made k (drop 512 input) (deal_next (take 512 input) t).leaves (are_drop 512 input bytes)
      (next_leaves_made (take 512 input) t (are_take 512 input bytes) made)

  -- over the contract of `Deck::deal_chunk`; a chunk is bytes
  pub deal_chunk_makes : (r : ChunkStep) (deck : Deck) (chunk flash store lines left kept now : List ℕ) → Made v config n deck.bench.device → AreBytes chunk
      → ChunkMeets r now left kept (deal_chunk chunk (table deck flash store) lines) → Made v config n r.deck.bench.device
  unfolding deal_chunk
  deal_chunk_makes r deck chunk flash store lines left kept now made bytes m =
      let t = table deck flash store in
      subst TableKeeps (sym m.leaves)
      (either_way (λ (c : Chunk). TableKeeps c.leaves) (λ number values. record { told = refused number values; leaves = t; lines = lines })
      (chunk_rules (length chunk) (length lines)) (chunk_dealt (deal_all chunk t) lines)
      (λ number values. made) (λ met. cut_leaves_made (begun (length chunk)) chunk t bytes made))

-- over the contract of `Bench::new`, refused or not: the Rust's default
pub bench_new_makes : (r : BenchStart) (after flash : List ℕ) (n : ℕ) → StartMeets r after flash n → Made First default_config n r.bench.device
unfolding created
bench_new_makes r after flash n m =
    let fresh : Made First default_config n (created First default_config (length flash) n).fresh = creates (length flash) in
    subst (λ (b : Bench). Made First default_config n b.device) (sym m.fresh) fresh
