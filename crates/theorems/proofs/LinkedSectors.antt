-- The sector operations that C and Rust link: an answer of 0 is never a short transfer. Both counts are then the length of the caller's data.
use Prim.Native.Nat.{ℕ, zero, suc, ◌*◌, ◌/◌, ◌%◌, ◌<◌, ◌≤◌, ◌^◌}
use mathlib.Core.Path.{◌≡◌, refl, ap, sym, ◌∙◌}
use mathlib.Core.Bool.{not}
use mathlib.Core.List.{List, [], ◌∷◌}
use native.Mathlib.Omega.{arith}
use lib.Dec.{eqb, ltb}
use lib.ListN.{length}
use borrow.Author.Tests.{eqb-true, ltb-false, not-false}
use Rattle.promise.specs.Told.{Told, given, refused, number}
use Rattle.promise.specs.Rules.{pick, or_refuse}
use Rattle.promise.specs.Run.{tells, end_told}
use Rattle.promise.proofs.Outcome.{by_test, on_test}
use Rattle.protocol.specs.Commands.{read_lba_command, write_lba_command}
use Rattle.protocol.specs.declared.CommandBlock.{CommandBlock}
use Rattle.protocol_reply.specs.Sectors.{sectors_in}
use Rattle.protocol_reply.specs.declared.size.SectorCount.{SectorCount}
use Rattle.operation_finish.specs.declared.Kind.{Kind}
use Rattle.operation_finish.specs.declared.Kind.TheVariants as kind
use Rattle.operation_finish.specs.Transfer.{whole}
use Rattle.operation_finish.specs.Reply.{Reply, moved}
use Rattle.operation.specs.Record.{fresh}
use Rattle.mock_base.specs.Flash.{flash_rules, flash_sectors, fits_in}
use Rattle.mock_base.specs.declared.cells.Variety.TheVariants.{First}
use Rattle.mock.specs.Device.{fresh_state}
use Rattle.run_operation.specs.Run.{run_rules, usb_run}
use Rattle.ffi.specs.Sectors.{SectorsMeet, counts_of, counts_after, device, ran_to, carries, one_tag, read_sectors, write_sectors}
use Rattle.theorems.specs.Runs.{operation_run}
use Rattle.theorems.specs.Standing.{Standing}
use Rattle.theorems.proofs.OperationEnds.{read_ends, read_none_ends, first_write_ends, write_none_ends}

-- an operation over so many sectors, by what it ends in at the fresh stand-in
module _ (k : Kind) (command : ℕ → CommandBlock) (first : ℕ) (flash bytes counts : List ℕ)
    (ends : (sectors n : ℕ) → Standing First device flash 0 sectors → 0 < n → n < 256 ^ 2 → n * 512 ≤ length bytes
    → (operation_run k (command n) device flash bytes 0).end ≡ tells (pick (fits_in sectors first n) (given (moved (whole (n * 512)))) (refused 57 [])))
    (none : (sectors : ℕ) → Standing First device flash 0 sectors → (code : ℕ) × ((operation_run k (command 0) device flash bytes 0).end ≡ tells (refused 53 (code ∷ [])))) where
  abbrev all : List ℕ
  all = length bytes ∷ length bytes ∷ []

  abbrev Counted : Told Reply → Type 0
  Counted t = number t ≡ 0 → counts_after t counts ≡ all

  refused_counted : (n : ℕ) (values : List ℕ) → (n ≡ 0 → ⊥) → Counted (refused n values)
  unfolding number
  refused_counted n values some e = absurd (some e)

  whole_counted : (n : ℕ) → n ≡ length bytes → Counted (given (moved (whole n)))
  unfolding counts_after counts_of
  whole_counted n long e = ap (λ (m : ℕ). m ∷ m ∷ []) long

  ended : (n : ℕ) (t : Told Reply) → (operation_run k (command n) device flash bytes 0).end ≡ tells t → Counted t
      → Counted (end_told (operation_run k (command n) device flash bytes 0).end)
  unfolding end_told
  ended n t e counted = rw e counted

  -- lent a flash of whole sectors, at most 65,536 of them
  standing : (sectors n : ℕ) → Standing First device flash 0 sectors → n < 256 ^ 2 → n * 512 ≡ length bytes
      → Counted (end_told (operation_run k (command n) device flash bytes 0).end)
  standing sectors zero stands few long = let e = none sectors stands in ended zero _ e.1 (refused_counted 53 _ (λ f. omega arith))
  standing sectors (suc n) stands few long =
      ended (suc n) _ (ends sectors (suc n) stands (omega arith) few (omega arith))
      (by_test Counted (fits_in sectors first (suc n)) (λ fits. whole_counted (suc n * 512) long) (λ out. refused_counted 57 [] (λ f. omega arith)))

  run_counted : (n : ℕ) → n < 256 ^ 2 → n * 512 ≡ length bytes → Counted (end_told (operation_run k (command n) device flash bytes 0).end)
  unfolding usb_run run_rules flash_rules flash_sectors or_refuse fresh_state
  run_counted n few long =
      let size = length flash in
      on_test (not (eqb (size % 512) 0))
      (λ t. ended n (refused 60 (size ∷ [])) (rw t refl) (refused_counted 60 _ (λ f. omega arith)))
      (λ t. on_test (ltb 65536 (size / 512))
      (λ u. ended n (refused 61 []) (rw (t, u) refl) (refused_counted 61 [] (λ f. omega arith)))
      (λ u. standing (size / 512) n (record { own = refl; legal = rw (t, u) refl; stored = refl; none = refl }) few long))

  -- 23 and 24 are no 0
  carried_counted : (carries (λ n. fresh k (command n)) (sectors_in (length bytes)) flash bytes counts).number ≡ 0
      → (carries (λ n. fresh k (command n)) (sectors_in (length bytes)) flash bytes counts).counts ≡ all
  unfolding sectors_in or_refuse carries ran_to
  carried_counted =
      let size = length bytes in
      let P : Told SectorCount → Type 0 =
      λ t. (carries (λ n. fresh k (command n)) t flash bytes counts).number ≡ 0 → (carries (λ n. fresh k (command n)) t flash bytes counts).counts ≡ all in
      by_test P (not (eqb (size % 512) 0)) (λ t e. absurd (omega (arith, e)))
      (λ t. by_test P (ltb 65535 (size / 512)) (λ u e. absurd (omega (arith, e)))
      (λ u.
      let full : size % 512 ≡ 0 = eqb-true (size % 512) 0 (not-false (eqb (size % 512) 0) t) in
      let few : size / 512 ≤ 65535 = ltb-false 65535 (size / 512) u in
      run_counted (size / 512) (omega arith) (omega arith)))

  counted : (r : ℕ) (flash-now bytes-now counts-now : List ℕ)
      → SectorsMeet r flash-now bytes-now counts-now (carries (λ n. fresh k (command n)) (sectors_in (length bytes)) flash bytes counts) → r ≡ 0 → counts-now ≡ all
  counted r flash-now bytes-now counts-now m e = m.counts ∙ carried_counted (sym m.tells ∙ e)

-- 0 IS WHOLE. For any caller of the two functions
module _ (first : ℕ) (low : first < 256 ^ 4) (flash bytes counts : List ℕ) (r : ℕ) (flash-now bytes-now counts-now : List ℕ) where
  pub read_0_is_whole : SectorsMeet r flash-now bytes-now counts-now (read_sectors first flash bytes counts) → r ≡ 0 → counts-now ≡ length bytes ∷ length bytes ∷ []
  read_0_is_whole =
      counted kind.Read (read_lba_command one_tag first) first flash bytes counts
      (λ sectors n stands some few enough. read_ends First device flash bytes 0 sectors stands one_tag (omega arith) first n low few some enough)
      (λ sectors stands. (_, read_none_ends First device flash bytes 0 sectors stands one_tag (omega arith) first low)) r flash-now bytes-now counts-now

  pub write_0_is_whole : SectorsMeet r flash-now bytes-now counts-now (write_sectors first flash bytes counts) → r ≡ 0 → counts-now ≡ length bytes ∷ length bytes ∷ []
  write_0_is_whole =
      counted kind.Write (write_lba_command one_tag first) first flash bytes counts
      (λ sectors n stands some few enough. first_write_ends First device flash bytes 0 sectors stands one_tag (omega arith) first n low few some enough refl)
      (λ sectors stands. (_, write_none_ends First device flash bytes 0 sectors stands one_tag (omega arith) first low)) r flash-now bytes-now counts-now
