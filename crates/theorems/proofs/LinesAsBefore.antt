-- The deck goes on with the first variety: its runs are those over the stand-in as it stood before, and so is every line of every input, its blocks
-- read as they are today.
use Prim.Native.Nat.{ℕ, zero, suc}
use mathlib.Core.Path.{◌≡◌, refl, ap, ap₂, sym, subst, ◌∙◌}
use mathlib.Core.Bool.{Bool, true, false}
use mathlib.Core.List.{List, [], ◌∷◌, ◌++◌}
use lib.ListN.{length, take}
use Rattle.promise.specs.Told.{Told, given, refused}
use Rattle.promise.specs.Rules.{pick, or_refuse}
use Rattle.promise.specs.Run.{Turned, ends, goes, Ran, follow, runs}
use Rattle.promise.proofs.Outcome.{either_way}
use Rattle.operation_finish.specs.Reply.{Reply}
use Rattle.operation.specs.declared.steps.Asked.{Asked}
use Rattle.operation.specs.declared.steps.Asked.TheVariants as asked
use Rattle.operation.specs.declared.steps.UsbOperation.{UsbOperation}
use Rattle.operation.specs.Step.{Asks, writes_command, writes_data, reads, finished, usb_step}
use Rattle.mock.specs.Device.{fresh_state}
use Rattle.mock.specs.declared.device.MockState.{MockState}
use Rattle.mock_table.specs.Turn.{Quiet}
use Rattle.run_turn.specs.Turn.{UsbState, usb_state, onward, wrote, buffer_for, gives, received, got, transfers, usb_turn}
use Rattle.run_operation.specs.Run.{run_rules, unstarted, usb_run, whole_budget}
use Rattle.run_upload.specs.Load.{upload_budget}
use Rattle.deck_block.specs.declared.Request.{Request}
use Rattle.deck_block.specs.declared.Request.TheVariants as request
use Rattle.deck_block.specs.Reading.{read_card}
use Rattle.deck.specs.Deal.{Head, Deal, operated_by}
use Rattle.deck.specs.Dealing.{operate, load_of, load, carry_out, deal_asked, deal_block}
use Rattle.deck.specs.Bench.{next_tag, next_number}
use Rattle.deck_line.specs.Line.{line_text}
use Rattle.deck_block.specs.Blocks.{blocks_of, joined, WholeButLast}
use Rattle.deck_chunk.specs.Deck.{Table, table_after, deal_of, deal_next, deal_all, deck_start, bench_store, bench_lines}
use Rattle.theorems.specs.Before as before
use Rattle.theorems.specs.Before.{AsThen}
use Rattle.theorems.specs.BeforeDeck.{run_by, operate_by, carry_out_by, deal_asked_by, dealt_by, left_by, lines_over}
use Rattle.theorems.specs.Chunks.{Deals}
use Rattle.theorems.specs.Deck.{head_of, lines_by}
use Rattle.theorems.proofs.AnyChunks.{any_chunks}
use Rattle.theorems.proofs.AsBefore.{write_as_before, read_as_before, write_as_then, read_as_then}
use Rattle.operation.specs.Record.{fresh}
use Rattle.theorems.proofs.ByRequest.{by_request}
use Rattle.theorems.proofs.DeckNeverShort.{lines_told}
use Rattle.theorems.proofs.UploadKeeps.{upload_keeps}

-- A TURN

transfers_as : (told : Told Asks) (sent : List ℕ) (s : UsbState) → AsThen s.device → transfers told sent s ≡ before.transfers told sent s
unfolding transfers before.transfers
transfers_as (given writes_command) sent s then = ap (wrote s) (write_as_before s.device s.flash sent then.own)
transfers_as (given (writes_data n)) sent s then = ap (wrote s) (write_as_before s.device s.flash (take n s.«data») then.own)
transfers_as (given (reads asked n)) sent s then = ap (got asked s) (read_as_before s.device s.flash (buffer_for asked n s) then.own then.quiet)
transfers_as (given (finished reply)) sent s then = refl
transfers_as (refused number values) sent s then = refl

turn_as : (s : UsbState) → AsThen s.device → usb_turn s ≡ before.usb_turn s
unfolding usb_turn before.usb_turn
turn_as s then =
    let step = usb_step s.operation (length s.«data») 31 in
    transfers_as step.told step.sent (usb_state step.next s.device s.flash s.«data») then

-- .. and leaves such a device
abbrev Keeps : Turned Reply UsbState → Type 0
Keeps (goes s) = AsThen s.device
Keeps (ends told s) = AsThen s.device

onward_keeps : (told : Told Unit) (s : UsbState) → AsThen s.device → Keeps (onward told s)
unfolding onward
onward_keeps (given done) s then = then
onward_keeps (refused number values) s then = then

gives_keeps : (a : Asked) (s : UsbState) (bytes : List ℕ) → AsThen s.device → AsThen (gives a s bytes).device
unfolding gives
gives_keeps asked.Nothing s bytes then = then
gives_keeps asked.Inband s bytes then = then
gives_keeps asked.Sectors s bytes then = then
gives_keeps asked.Status s bytes then = then

received_keeps : (told : Told Unit) (a : Asked) (s : UsbState) (bytes : List ℕ) → AsThen s.device → Keeps (received told a s bytes)
unfolding received
received_keeps (given done) a s bytes then = gives_keeps a s bytes then
received_keeps (refused number values) a s bytes then = then

transfers_keep : (told : Told Asks) (sent : List ℕ) (s : UsbState) → AsThen s.device → Keeps (transfers told sent s)
unfolding transfers
transfers_keep (given writes_command) sent s then = onward_keeps _ _ (write_as_then s.device s.flash sent then)
transfers_keep (given (writes_data n)) sent s then = onward_keeps _ _ (write_as_then s.device s.flash (take n s.«data») then)
transfers_keep (given (reads asked n)) sent s then = received_keeps _ asked _ _ (read_as_then s.device s.flash (buffer_for asked n s) then)
transfers_keep (given (finished reply)) sent s then = then
transfers_keep (refused number values) sent s then = then

turn_keeps : (s : UsbState) → AsThen s.device → Keeps (usb_turn s)
unfolding usb_turn
turn_keeps s then =
    let step = usb_step s.operation (length s.«data») 31 in
    transfers_keep step.told step.sent (usb_state step.next s.device s.flash s.«data») then

-- A RUN

follow_as : (t : Turned Reply UsbState) → Keeps t → (now then : UsbState → Ran Reply UsbState) → ((s : UsbState) → AsThen s.device → now s ≡ then s)
    → follow t now ≡ follow t then
unfolding follow
follow_as (ends told s) keeps now then same = refl
follow_as (goes s) keeps now then same = ap (λ (r : Ran Reply UsbState). follow (goes s) (λ next. r)) (same s keeps)

runs_as : (budget : ℕ) (s : UsbState) → AsThen s.device → runs usb_turn budget s ≡ runs before.usb_turn budget s
unfolding runs
runs_as zero s then = refl
runs_as (suc budget) s then =
    follow_as (usb_turn s) (turn_keeps s then) (λ next. runs usb_turn budget next) (λ next. runs before.usb_turn budget next) (λ next kept. runs_as budget next kept)
    ∙ ap (λ (t : Turned Reply UsbState). follow t (λ next. runs before.usb_turn budget next)) (turn_as s then)

followed : (t : Turned Reply UsbState) → Keeps t → (rest : UsbState → Ran Reply UsbState) → ((s : UsbState) → AsThen s.device → AsThen (rest s).state.device)
    → AsThen (follow t rest).state.device
unfolding follow
followed (ends told s) keeps rest kept = keeps
followed (goes s) keeps rest kept = kept s keeps

runs_keep : (budget : ℕ) (s : UsbState) → AsThen s.device → AsThen (runs usb_turn budget s).state.device
unfolding runs
runs_keep zero s then = then
runs_keep (suc budget) s then = followed (usb_turn s) (turn_keeps s then) (λ next. runs usb_turn budget next) (λ next kept. runs_keep budget next kept)

-- AS BEFORE. Any run of an operation at such a device is the run over the stand-in of then, and such a device is left
pub run_as_before : (s : UsbState) (store budget : ℕ) → AsThen s.device → usb_run s store budget ≡ run_by before.usb_turn s store budget
unfolding usb_run run_by
run_as_before s store budget then = ap (or_refuse (unstarted s) (run_rules s store)) (runs_as budget s then)

pub run_leaves_then : (s : UsbState) (store budget : ℕ) → AsThen s.device → AsThen (usb_run s store budget).state.device
unfolding usb_run
run_leaves_then s store budget then =
    either_way (λ (r : Ran Reply UsbState). AsThen r.state.device) (unstarted s) (run_rules s store) (runs usb_turn budget s) (λ n values. then)
    (λ met. runs_keep budget s then)

-- A BLOCK

module _ (h : Head) (then : AsThen h.device) where
  operate_as : (op : UsbOperation) (bytes : List ℕ) → operate op bytes h ≡ operate_by before.usb_turn op bytes h
  unfolding operate operate_by
  operate_as op bytes =
      ap (λ (r : Ran Reply UsbState). operated_by r h.store) (run_as_before (usb_state op h.device h.flash bytes) (length h.store) whole_budget then)

  operate_keeps : (op : UsbOperation) (bytes : List ℕ) → AsThen (operate op bytes h).leaves.device
  unfolding operate
  operate_keeps op bytes = run_leaves_then (usb_state op h.device h.flash bytes) (length h.store) whole_budget then

  load_keeps : (area : ℕ) (image : List ℕ) → AsThen (load area image h).leaves.device
  unfolding load_of
  load_keeps area image =
      let keeps = upload_keeps area image (length h.flash) h.device h.store (upload_budget (length image)) in
      record {
        own = ap (λ (d : MockState). d.variety) keeps.same ∙ then.own;
        quiet = subst Quiet (sym (ap (λ (d : MockState). d.current_command) keeps.same)) then.quiet;
      }

  carry_as : (tag : ℕ) (asked : Request) → carry_out tag asked h ≡ carry_out_by before.usb_turn tag asked h
  unfolding carry_out carry_out_by
  carry_as tag request.ChipInfo = operate_as _ []
  carry_as tag request.FlashId = operate_as _ []
  carry_as tag request.FlashInfo = operate_as _ []
  carry_as tag request.Capability = operate_as _ []
  carry_as tag (request.EraseLba first count) = operate_as _ []
  carry_as tag (request.EraseForce first count) = operate_as _ []
  carry_as tag (request.ReadLba first count) = operate_as _ _
  carry_as tag (request.WriteLba first count fill) = operate_as _ _
  carry_as tag (request.ResetDevice opcode) = operate_as _ []
  carry_as tag request.Storage = operate_as _ []
  carry_as tag (request.SwitchStorage index) = operate_as _ []
  carry_as tag (request.WriteArea area n fill) = refl

  deal_as : (tag : ℕ) (told : Told Request) → deal_asked tag told h ≡ deal_asked_by before.usb_turn tag told h
  unfolding deal_asked deal_asked_by
  deal_as tag (given asked) = carry_as tag asked
  deal_as tag (refused n values) = refl

  deal_keeps : (tag : ℕ) (told : Told Request) → AsThen (deal_asked tag told h).leaves.device
  unfolding deal_asked
  deal_keeps tag (given asked) = by_request (λ (d : Deal). AsThen d.leaves.device) h (λ k c. operate_keeps (fresh k c)) load_keeps tag asked
  deal_keeps tag (refused n values) = then

-- A DECK

abbrev OnTable : Table → Type 0
OnTable t = AsThen t.deck.bench.device

module _ (block : List ℕ) (t : Table) (then : OnTable t) where
  dealt_as_lem : deal_of t block ≡ dealt_by before.usb_turn block t
  unfolding deal_block
  dealt_as_lem = deal_as (head_of t) then (next_tag t.deck.bench) (read_card (next_tag t.deck.bench) block)

  left_as : (is_over : Bool) → t.deck.is_over ≡ is_over → (deal_next block t).leaves ≡ left_by before.usb_turn block t
  unfolding deal_next
  left_as true e = rw e refl
  left_as false e = rw e (ap (table_after t block) dealt_as_lem)

  left_keeps : (is_over : Bool) → t.deck.is_over ≡ is_over → OnTable (deal_next block t).leaves
  unfolding deal_next deal_block
  left_keeps true e = rw e then
  left_keeps false e = rw e (deal_keeps (head_of t) then (next_tag t.deck.bench) (read_card (next_tag t.deck.bench) block))

lines_as : (blocks : List (List ℕ)) (t : Table) → OnTable t → lines_by line_text blocks t ≡ lines_over before.usb_turn blocks t
unfolding lines_by lines_over
lines_as [] t then = refl
lines_as (block ∷ blocks) t then =
    let here : pick t.deck.is_over [] (line_text (next_number t.deck.bench) (deal_of t block).told)
    ≡ pick t.deck.is_over [] (line_text (next_number t.deck.bench) (dealt_by before.usb_turn block t).told) =
    ap (λ (d : Deal). pick t.deck.is_over [] (line_text (next_number t.deck.bench) d.told)) (dealt_as_lem block t then) in
    let rest : lines_by line_text blocks (deal_next block t).leaves ≡ lines_over before.usb_turn blocks (left_by before.usb_turn block t) =
    lines_as blocks (deal_next block t).leaves (left_keeps block t then t.deck.is_over refl)
    ∙ ap (lines_over before.usb_turn blocks) (left_as block t then t.deck.is_over refl) in
    ap₂ (λ (a b : List ℕ). a ++ b) here rest

-- THE LINES of every input are those that the deck gave over the stand-in as it stood before, from wherever a deck of the first variety stands ..
pub lines_as_before : (input : List ℕ) (t : Table) → AsThen t.deck.bench.device → (deal_all input t).text ≡ lines_over before.usb_turn (blocks_of input) t
lines_as_before input t then = lines_told (blocks_of input) t ∙ lines_as (blocks_of input) t then

-- .. so all lines that `bench` prints ..
pub bench_lines_as_before : (input : List ℕ) → bench_lines input ≡ lines_over before.usb_turn (blocks_of input) (deck_start bench_store)
unfolding fresh_state Quiet
bench_lines_as_before input = lines_as_before input (deck_start bench_store) (record { own = refl; quiet = tt })

-- .. and what any caller of `deal_chunk` reads, whose chunks but the last have whole blocks
pub chunk_lines_as_before : (t : Table) (chunks : List (List ℕ)) (text : List ℕ) (end : Table) → AsThen t.deck.bench.device → WholeButLast chunks → Deals t chunks text end
    → text ≡ lines_over before.usb_turn (blocks_of (joined chunks)) t
chunk_lines_as_before t chunks text end then whole deals = (any_chunks t chunks text end whole deals).0 ∙ lines_as_before (joined chunks) t then
