-- Between blocks the head has no transaction, and what it is lent is as long as ever: after every block, and so after every deck.
use Prim.Native.Nat.{ℕ}
use mathlib.Core.Path.{◌≡◌, refl, ap, sym, subst}
use mathlib.Core.Bool.{Bool, true, false}
use mathlib.Core.List.{List, [], ◌∷◌}
use lib.ListN.{length}
use Rattle.promise.specs.Told.{Told, given, refused}
use Rattle.promise.specs.Rules.{or_refuse}
use Rattle.mock_base.specs.Flash.{flash_sectors, flash_rules}
use Rattle.operation.specs.declared.steps.UsbOperation.{UsbOperation}
use Rattle.operation.specs.Record.{fresh}
use Rattle.mock_base.specs.declared.cells.Variety.{Variety}
use Rattle.mock_base.specs.declared.cells.Variety.TheVariants.{First}
use Rattle.mock.specs.declared.device.MockState.{MockState}
use Rattle.mock_base.specs.Config.{default_config}
use Rattle.mock.specs.Device.{fresh_state}
use Rattle.run_turn.specs.Turn.{usb_state}
use Rattle.run_upload.specs.Load.{upload_budget}
use Rattle.theorems.proofs.BetweenRuns.{operation_stands, upload_stands}
use Rattle.theorems.specs.Standing.{Sized}
use Rattle.theorems.proofs.NoTransactionLeft.{whole_idle}
use Rattle.theorems.proofs.UploadKeeps.{upload_keeps}
use Rattle.theorems.proofs.OperationEnds.{default_sized}
use Rattle.deck_block.specs.declared.Request.{Request}
use Rattle.deck_block.specs.Reading.{read_card}
use Rattle.deck.specs.Deal.{Head, head, Deal}
use Rattle.deck.specs.Dealing.{operate, load_of, load, carry_out, deal_asked, deal_block}
use Rattle.deck.specs.Bench.{next_tag}
use Rattle.deck_block.specs.Blocks.{blocks_of}
use Rattle.deck_chunk.specs.Deck.{Table, table, deal_next, deal_blocks, deal_all}
use Rattle.theorems.specs.Deck.{Ready, head_of}
use Rattle.theorems.specs.Chunks.{Deals, no_more, a_chunk}
use Rattle.theorems.proofs.AnyChunks.{its_table}
use Rattle.theorems.proofs.ByRequest.{by_request}

module _ (v : Variety) (sectors : ℕ) (h : Head) (ready : Ready v sectors h) where
  operated : (op : UsbOperation) (bytes : List ℕ) → Ready v sectors (operate op bytes h).leaves
  unfolding operate
  operated op bytes =
      let idle = whole_idle (usb_state op h.device h.flash bytes) (length h.store) ready.stands.none in
      record {
        stands = operation_stands v h.device h.flash sectors op bytes (length h.store) ready.stands;
        sized = subst Sized (sym (ap (λ (d : MockState). d.config) idle.same)) ready.sized;
      }

  loaded : (area : ℕ) (image : List ℕ) → Ready v sectors (load area image h).leaves
  unfolding load_of
  loaded area image =
      let keeps = upload_keeps area image (length h.flash) h.device h.store (upload_budget (length image)) in
      record {
        stands = upload_stands v h.device h.flash sectors area image h.store (upload_budget (length image)) ready.stands;
        sized = subst Sized (sym (ap (λ (d : MockState). d.config) keeps.same)) ready.sized;
      }

  carried : (tag : ℕ) (asked : Request) → Ready v sectors (carry_out tag asked h).leaves
  carried tag asked = by_request (λ (d : Deal). Ready v sectors d.leaves) h (λ k c. operated (fresh k c)) loaded tag asked

  dealt : (tag : ℕ) (told : Told Request) → Ready v sectors (deal_asked tag told h).leaves
  unfolding deal_asked
  dealt tag (given asked) = carried tag asked
  dealt tag (refused n values) = ready

  -- whatever the block is
  pub block_ready : (tag : ℕ) (block : List ℕ) → Ready v sectors (deal_block tag block h).leaves
  unfolding deal_block
  block_ready tag block = dealt tag (read_card tag block)

-- a block of a deck, and none once it is over
next_ready : (v : Variety) (sectors : ℕ) (block : List ℕ) (t : Table) (is_over : Bool) → t.deck.is_over ≡ is_over → Ready v sectors (head_of t) → Ready v sectors (head_of (deal_next block t).leaves)
unfolding deal_next
next_ready v sectors block t true e ready = rw e ready
next_ready v sectors block t false e ready = rw e (block_ready v sectors (head_of t) ready (next_tag t.deck.bench) block)

blocks_ready : (v : Variety) (sectors : ℕ) (blocks : List (List ℕ)) (t : Table) → Ready v sectors (head_of t) → Ready v sectors (head_of (deal_blocks blocks t).leaves)
unfolding deal_blocks
blocks_ready v sectors [] t ready = ready
blocks_ready v sectors (block ∷ blocks) t ready = blocks_ready v sectors blocks _ (next_ready v sectors block t t.deck.is_over refl ready)

-- whatever the input is, and wherever the deck stands
pub deck_ready : (v : Variety) (sectors : ℕ) (input : List ℕ) (t : Table) → Ready v sectors (head_of t) → Ready v sectors (head_of (deal_all input t).leaves)
deck_ready v sectors input t ready = blocks_ready v sectors (blocks_of input) t ready

-- for any caller of `deal_chunk`, whatever the chunks are
pub chunks_ready : (v : Variety) (sectors : ℕ) (t : Table) (chunks : List (List ℕ)) (text : List ℕ) (end : Table) → Deals t chunks text end
    → Ready v sectors (head_of t) → Ready v sectors (head_of end)
chunks_ready v sectors t chunks text end (no_more s) ready = ready
chunks_ready v sectors t chunks text end (a_chunk s chunk buffer r after flash store more rest last room m deals) ready =
    let next = subst (λ (x : Table). Ready v sectors (head_of x)) (sym (its_table s chunk buffer r after flash store room m)) (deck_ready v sectors chunk s ready) in
    chunks_ready v sectors (table r.deck flash store) more rest last deals next

-- the bench's own head: the Rust's default, a flash of 128 sectors and a store of any length
pub fresh_ready : (flash store : List ℕ) → length flash ≡ 65536 → Ready First 128 (head (fresh_state First default_config (length store)) flash store)
unfolding fresh_state flash_sectors flash_rules or_refuse
fresh_ready flash store e =
    record {
      stands = record { own = refl; legal = ap flash_sectors e; stored = refl; none = refl };
      sized = default_sized;
    }
