-- The deck never meets a short transfer, whatever a block asks for and whatever the head's record and lent bytes are; and so its lines are as they
-- were.
use Prim.Native.Nat.{ℕ}
use mathlib.Core.Path.{◌≡◌, refl, ap, ap₂, sym, ◌∙◌}
use mathlib.Core.Bool.{Bool, true, false}
use mathlib.Core.List.{List, [], ◌∷◌, ◌++◌}
use native.Mathlib.Omega.{arith}
use lib.ListN.{length}
use Rattle.promise.specs.Told.{Told, given, refused}
use Rattle.promise.specs.Rules.{pick}
use Rattle.protocol.specs.declared.CommandBlock.{CommandBlock}
use Rattle.operation_finish.specs.declared.Kind.{Kind}
use Rattle.operation_finish.specs.declared.ShortTransfer.{ShortTransfer}
use Rattle.operation_finish.specs.declared.SectorTransfer.TheVariants.{Short}
use Rattle.operation_finish.specs.declared.UsbReply.TheVariants as usb
use Rattle.operation_finish.specs.Reply.{Reply, NotShort, reply_given}
use Rattle.operation.specs.Record.{fresh}
use Rattle.run_operation.specs.Run.{whole_budget}
use Rattle.deck_block.specs.declared.Request.{Request}
use Rattle.deck_block.specs.Reading.{read_card}
use Rattle.deck.specs.declared.bench.Bench.{Bench}
use Rattle.deck.specs.declared.bench.DeckStep.{DeckStep}
use Rattle.deck.specs.Verdict.{numbered, load_told, verdict_told}
use Rattle.deck.specs.Deal.{Head, head, Deal}
use Rattle.deck.specs.Dealing.{operate, load_of, load, carry_out, deal_asked, deal_block}
use Rattle.deck.specs.Bench.{next_tag, next_number, StepMeets}
use Rattle.deck_line.specs.Line.{line_text, line_plain}
use Rattle.deck_line.proofs.Plain.{plain_line}
use Rattle.deck_block.specs.Blocks.{blocks_of, joined, WholeButLast}
use Rattle.deck_chunk.specs.Deck.{Table, deal_of, deal_next, deal_blocks, deal_all, deck_start, bench_store, bench_lines}
use Rattle.theorems.specs.Deck.{lines_by}
use Rattle.theorems.specs.Chunks.{Deals}
use Rattle.theorems.proofs.AnyChunks.{any_chunks}
use Rattle.theorems.proofs.ByRequest.{by_request}
use Rattle.theorems.proofs.NeverShort.{refusal_not, fresh_never_short}
use Rattle.std.specs.Prelude.{Result}
use Rattle.operation_finish.specs.declared.UsbReply.{UsbReply}
use Rattle.deck.specs.declared.verdict.RefusalNumber.{RefusalNumber}
use Rattle.std.specs.declared.result.Result.TheVariants.{Ok}

-- what is told of a run, and of an upload's
numbered_not : (t : Told Reply) → NotShort t → NotShort (numbered t)
unfolding numbered
numbered_not (given reply) not = not
numbered_not (refused n values) not = refusal_not n []

load_not : (t : Told Unit) → NotShort (load_told t)
unfolding load_told
load_not (given done) s e = let z : ◌≡◌ {A = ℕ} 0 1 = cc in omega arith
load_not (refused n values) s e = refusal_not n [] s e

module _ (h : Head) where
  operated : (k : Kind) (c : CommandBlock) (bytes : List ℕ) → NotShort (operate (fresh k c) bytes h).told
  unfolding operate
  operated k c bytes = numbered_not _ (fresh_never_short k c h.device h.flash bytes (length h.store) whole_budget)

  loaded : (area : ℕ) (image : List ℕ) → NotShort (load area image h).told
  unfolding load_of
  loaded area image = load_not _

  carried : (tag : ℕ) (asked : Request) → NotShort (carry_out tag asked h).told
  carried tag asked = by_request (λ (d : Deal). NotShort d.told) h operated loaded tag asked

  dealt : (tag : ℕ) (told : Told Request) → NotShort (deal_asked tag told h).told
  unfolding deal_asked
  dealt tag (given asked) = carried tag asked
  dealt tag (refused n values) = refusal_not n []

  pub block_never_short : (tag : ℕ) (block : List ℕ) → NotShort (deal_block tag block h).told
  unfolding deal_block
  block_never_short tag block = dealt tag (read_card tag block)

-- any caller of the bench's step, whatever the bench is
pub step_never_short : (r : DeckStep) (flash store : List ℕ) (bench : Bench) (block before held : List ℕ) → StepMeets r flash store bench block before held
    → (s : ShortTransfer) → r.verdict ≡ Ok (usb.Sectors (Short s)) → ⊥
unfolding verdict_told reply_given
step_never_short r flash store bench block before held m s e =
    block_never_short (head bench.device before held) (next_tag bench) block s (sym m.tells ∙ ap (λ (v : Result UsbReply RefusalNumber). verdict_told v r.beside) e)

-- the lines of a deck are made of what is told of its blocks
next_text : (block : List ℕ) (t : Table) (is_over : Bool) → t.deck.is_over ≡ is_over
    → (deal_next block t).text ≡ pick t.deck.is_over [] (line_text (next_number t.deck.bench) (deal_of t block).told)
unfolding deal_next
next_text block t true e = rw e
next_text block t false e = rw e

pub lines_told : (blocks : List (List ℕ)) (t : Table) → (deal_blocks blocks t).text ≡ lines_by line_text blocks t
unfolding deal_blocks lines_by
lines_told [] t = refl
lines_told (block ∷ blocks) t = ap₂ (λ (a b : List ℕ). a ++ b) (next_text block t t.deck.is_over refl) (lines_told blocks (deal_next block t).leaves)

plain_lines : (blocks : List (List ℕ)) (t : Table) → lines_by line_text blocks t ≡ lines_by line_plain blocks t
unfolding lines_by deal_block
plain_lines [] t = refl
plain_lines (block ∷ blocks) t =
    let bench = t.deck.bench in
    let here = plain_line (next_number bench) (deal_of t block).told (block_never_short (head bench.device t.flash t.store) (next_tag bench) block) in
    ap₂ (λ (a b : List ℕ). pick t.deck.is_over [] a ++ b) here (plain_lines blocks (deal_next block t).leaves)

-- AS THEY WERE. The lines of every input, from wherever a deck stands, are those that the definition of a line gave before short transfers were told
pub lines_as_they_were : (input : List ℕ) (t : Table) → (deal_all input t).text ≡ lines_by line_plain (blocks_of input) t
lines_as_they_were input t = lines_told (blocks_of input) t ∙ plain_lines (blocks_of input) t

-- so are all lines that `bench` prints
pub bench_lines_as_they_were : (input : List ℕ) → bench_lines input ≡ lines_by line_plain (blocks_of input) (deck_start bench_store)
bench_lines_as_they_were input = lines_as_they_were input (deck_start bench_store)

-- and what any caller of `deal_chunk` reads, whose chunks but the last have whole blocks
pub chunk_lines_as_they_were : (t : Table) (chunks : List (List ℕ)) (text : List ℕ) (end : Table) → WholeButLast chunks → Deals t chunks text end
    → text ≡ lines_by line_plain (blocks_of (joined chunks)) t
chunk_lines_as_they_were t chunks text end whole deals = (any_chunks t chunks text end whole deals).0 ∙ lines_as_they_were (joined chunks) t
