-- The bench meets no refusals but 40 to 46, 53, 54, 57, 58 and 59.
use Prim.Native.Nat.{ℕ, ◌*◌, ◌^◌, ◌<◌, ◌≤◌}
use mathlib.Core.Path.{◌≡◌, refl, ap, subst}
use mathlib.Core.Bool.{Bool, true, false}
use mathlib.Core.List.{List, [], ◌∷◌, ◌++◌}
use native.Mathlib.Omega.{arith}
use lib.ListN.{length, replicate, length-replicate}
use lib.Dec.{eqb}
use Rattle.promise.specs.Told.{Told, given, refused}
use Rattle.promise.specs.Rules.{pick}
use Rattle.promise.specs.Bytes.{AreBytes}
use Rattle.protocol.specs.declared.CommandBlock.{CommandBlock}
use Rattle.protocol.specs.Commands.{chip_info_command, flash_id_command, flash_info_command, capability_command, storage_command, erase_lba_command, erase_force_command, read_lba_command, write_lba_command, reset_command, switch_command}
use Rattle.operation_finish.specs.Reply.{Reply}
use Rattle.operation_finish.specs.declared.Kind.{Kind}
use Rattle.operation_finish.specs.declared.Kind.TheVariants as kind
use Rattle.operation.specs.Record.{fresh}
use Rattle.theorems.proofs.UploadRefusals.{whole_upload_told}
use Rattle.theorems.specs.Told.{UploadTold, accepted, no_slot, slot_full}
use Rattle.theorems.proofs.OperationTold as told
use Rattle.theorems.specs.Told as ends
use Rattle.deck_block.specs.declared.Request.{Request}
use Rattle.deck_block.specs.declared.Request.TheVariants as request
use Rattle.deck_block.specs.Reading.{read_card, Named}
use Rattle.deck_block.proofs.ByKind.{passed_rules}
use Rattle.deck_block.proofs.Fitting.{asked_named}
use Rattle.deck_block.proofs.Refusals.{card_told_lem}
use Rattle.deck_block.specs.Refusals.{is_among, block_refusals, CardTold}
use Rattle.deck.specs.Verdict.{numbered, load_told}
use Rattle.mock_base.specs.declared.cells.Variety.TheVariants.{First}
use Rattle.deck.specs.Deal.{Head}
use Rattle.mock_base.specs.declared.cells.Variety.TheVariants.{First}
use Rattle.deck.specs.Dealing.{operate, load_of, load, carry_out, deal_asked, deal_block}
use Rattle.theorems.specs.Deck.{Ready, done_refusals, BenchTold}

either : (t a b : Bool) → (a ≡ true → b ≡ true) → pick t true a ≡ true → pick t true b ≡ true
either true a b f e = refl
either false a b f e = f e

among_more : (n : ℕ) (xs ys : List ℕ) → is_among n xs ≡ true → is_among n (xs ++ ys) ≡ true
among_more n [] ys h = let z : ◌≡◌ {A = ℕ} 0 1 = ap (λ (b : Bool). pick b 1 0) h in absurd (omega arith)
among_more n (x ∷ xs) ys h = either (eqb n x) (is_among n xs) (is_among n (xs ++ ys)) (among_more n xs ys) h

operation_numbered : (t : Told Reply) → ends.OperationTold First t → BenchTold (numbered t)
unfolding numbered
operation_numbered t (ends.replies v reply) = tt
operation_numbered t (ends.unknown v values) = refl
operation_numbered t ends.unexpected = refl
operation_numbered t (ends.out_of_range v) = refl

upload_numbered : (t : Told Unit) → UploadTold t → BenchTold (load_told t)
unfolding load_told
upload_numbered t accepted = tt
upload_numbered t no_slot = refl
upload_numbered t slot_full = refl

module _ (sectors : ℕ) (h : Head) (ready : Ready First sectors h) where
  operated : (k : Kind) (c : CommandBlock) (bytes : List ℕ) → ends.Started (length bytes) k c → BenchTold (operate (fresh k c) bytes h).told
  unfolding operate
  operated k c bytes started =
      operation_numbered _ (told.operation_told First h.device h.flash bytes (length h.store) sectors ready.stands k c ready.sized started)

  loaded : (area : ℕ) (image : List ℕ) → BenchTold (load area image h).told
  unfolding load_of
  loaded area image =
      upload_numbered _ (whole_upload_told area image (length h.flash) h.device h.store sectors ready.stands.legal ready.stands.stored)

  -- the data of as many sectors is as long as they are
  lent : (count fill : ℕ) → count * 512 ≤ length (replicate (count * 512) fill)
  lent count fill = let e = length-replicate (count * 512) fill in omega arith

  carried : (tag : ℕ) (asked : Request) → tag < 256 ^ 4 → Named asked → BenchTold (carry_out tag asked h).told
  unfolding carry_out
  carried tag request.ChipInfo small named = operated kind.ChipInfo (chip_info_command tag) [] (ends.chip_info_lem tag small)
  carried tag request.FlashId small named = operated kind.FlashId (flash_id_command tag) [] (ends.flash_id_lem tag small)
  carried tag request.FlashInfo small named = operated kind.FlashInfo (flash_info_command tag) [] (ends.flash_info_lem tag small)
  carried tag request.Capability small named = operated kind.Capability (capability_command tag) [] (ends.capability tag small)
  carried tag (request.EraseLba first count) small named = operated kind.Nothing (erase_lba_command tag first count) [] (ends.erase_lba_lem tag first count small named.0 named.1)
  carried tag (request.EraseForce first count) small named = operated kind.Nothing (erase_force_command tag first count) [] (ends.erase_force_lem tag first count small named.0 named.1)
  carried tag (request.ReadLba first count) small named =
      operated kind.Read (read_lba_command tag first count) (replicate (count * 512) 0) (ends.read tag first count small named.0 named.1 (lent count 0))
  carried tag (request.WriteLba first count fill) small named =
      operated kind.Write (write_lba_command tag first count) (replicate (count * 512) fill) (ends.write tag first count small named.0 named.1 (lent count fill))
  carried tag (request.ResetDevice opcode) small named = operated kind.Nothing (reset_command tag opcode) [] (ends.reset tag opcode small)
  carried tag request.Storage small named = operated kind.Storage (storage_command tag) [] (ends.storage tag small)
  carried tag (request.SwitchStorage index) small named = operated kind.Nothing (switch_command tag index) [] (ends.switch tag index small)
  carried tag (request.WriteArea area n fill) small named = loaded area (replicate n fill)

  dealt : (tag : ℕ) (block : List ℕ) (t : Told Request) → tag < 256 ^ 4 → AreBytes block → read_card tag block ≡ t → BenchTold (deal_asked tag t h).told
  unfolding deal_asked
  dealt tag block (given asked) small bytes e = carried tag asked small (asked_named block asked bytes (passed_rules tag block asked e))
  dealt tag block (refused n values) small bytes e =
      among_more n block_refusals done_refusals (subst CardTold e (card_told_lem tag block))

  -- every block of bytes, with every tag
  pub block_told : (tag : ℕ) (block : List ℕ) → tag < 256 ^ 4 → AreBytes block → BenchTold (deal_block tag block h).told
  unfolding deal_block
  block_told tag block small bytes = dealt tag block (read_card tag block) small bytes refl
