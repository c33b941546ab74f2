-- What a bulk write may do to the flash, by the variety: fill for an erase that is taken, store for the first, program for NOR. And 63 is told of an
-- erase that splits a block, and of nothing else.
use Prim.Native.Nat.{ℕ, ◌*◌}
use mathlib.Core.Path.{◌≡◌, refl, ap, sym, ◌∙◌}
use mathlib.Core.Bool.{true, not}
use mathlib.Core.List.{List, [], ◌∷◌}
use native.Mathlib.Omega.{arith}
use lib.Dec.{eqb}
use lib.ListN.{length}
use borrow.Author.Tests.{eqb-true, not-false, eq-eqb}
use Rattle.promise.specs.Told.{Told, given, refused, number}
use Rattle.promise.specs.Rules.{or_refuse}
use Rattle.promise.proofs.Outcome.{by_test}
use Rattle.protocol_codes.specs.Numbers.{code_number, reset_number, reset_opcodes}
use Rattle.protocol_codes.specs.Reading.{reset_of}
use Rattle.protocol_codes.proofs.Reading.{known_refused}
use Rattle.protocol_codes.specs.declared.ResetOpcode.{ResetOpcode}
use Rattle.protocol_codes.specs.declared.Direction.TheVariants.{Out}
use Rattle.protocol_codes.specs.declared.CommandCode.TheVariants.{WriteLBA, DeviceReset}
use Rattle.protocol_codes.specs.declared.Status.TheVariants.{SUCCESS}
use Rattle.protocol_bytes.specs.Sector.{sector_size}
use Rattle.protocol.specs.CommandBytes.{read_command}
use Rattle.protocol.specs.declared.CommandBlock.{CommandBlock}
use Rattle.mock_base.specs.Flash.{fits_in}
use Rattle.mock_base.specs.declared.cells.Variety.{Variety}
use Rattle.mock_base.specs.declared.cells.Variety.TheVariants.{First, Nor}
use Rattle.mock_table.specs.Turn.{Turn, refuses, done, has_code, is_erase, is_out}
use Rattle.mock_table.specs.Ways.{stored_by, moved_by, splits, switches, switched}
use Rattle.mock_table.specs.Table.{range_of, sector_turn, stored_reset, erase_rules, erase_turn, zero_length_turn, start_turn, write_io_turn, write_row}
use Rattle.mock_table.specs.Erasing.{command_in, ErasesWithin, Erases, Splits}
use Rattle.mock_table.specs.declared.session.CommandState.{CommandState}
use Rattle.mock_table.specs.declared.session.CommandState.TheVariants.{None, IO, Status}
use Rattle.mock_table.specs.declared.outcome.Effect.{Effect}
use Rattle.mock_table.specs.declared.outcome.Effect.TheVariants.{Nothing, Fill, Store, Program, Supply, Reply}
use Rattle.std.specs.Prelude.{Option}
use Rattle.std.specs.declared.option.Option.TheVariants.{Some}

module _ (v : Variety) (block sectors : ℕ) (command : Told CommandBlock) where
  unfoldable pub OnFlash : Effect → Type 0
  OnFlash Nothing = Unit
  OnFlash (Fill range) = (c : CommandBlock) × (command ≡ given c) × (range ≡ range_of c) × Erases v block sectors c
  OnFlash (Store range) = v ≡ First
  OnFlash (Program range) = v ≡ Nor
  OnFlash (Supply range) = Unit
  OnFlash (Reply kind) = Unit

  pub record Touches (t : Turn) : Type 0 where
    pub effect : OnFlash t.effect
    pub by_63 : (values : List ℕ) → t.told ≡ refused 63 values → (c : CommandBlock) × (command ≡ given c) × Splits v block sectors c

  module _ (last : Option ResetOpcode) where
    refuses_touches : (n : ℕ) (values : List ℕ) → (n ≡ 63 → ⊥) → Touches (refuses last n values)
    unfolding refuses OnFlash number
    refuses_touches n values other =
        record { effect = tt; by_63 = λ vs e. absurd (other (ap (λ (t : Told Unit). number t) e)) }

    done_touches : (state : CommandState) (last' : Option ResetOpcode) (effect : Effect) → OnFlash effect → Touches (done state last' effect)
    unfolding done
    done_touches state last' effect on = record { effect = on; by_63 = λ vs e. absurd (let z : ◌≡◌ {A = ℕ} 0 1 = cc in omega arith) }

    module _ (c : CommandBlock) where
      stored_on : (w : Variety) → v ≡ w → OnFlash (stored_by w (range_of c))
      unfolding stored_by OnFlash
      stored_on First e = e
      stored_on Nor e = e

      sector_touches : (actual : ℕ) → Touches (sector_turn v last c Out sectors actual)
      unfolding sector_turn or_refuse moved_by
      sector_touches actual =
          by_test Touches (not (fits_in sectors c.cd_address c.cd_length)) (λ e. refuses_touches 57 [] (λ f. omega arith))
          (λ e. by_test Touches (not (eqb actual (c.cd_length * sector_size))) (λ f. refuses_touches 50 _ (λ g. omega arith))
          (λ f. done_touches (Status c SUCCESS) last (stored_by v (range_of c)) (stored_on v refl)))

      write_io_touches : (actual : ℕ) → Touches (write_io_turn v last c sectors actual)
      unfolding write_io_turn or_refuse
      write_io_touches actual =
          by_test Touches (not (is_out c.flags)) (λ e. refuses_touches 55 [] (λ f. omega arith))
          (λ e. by_test Touches (not (has_code c WriteLBA)) (λ f. refuses_touches 55 [] (λ g. omega arith)) (λ f. sector_touches actual))

      reset_touches : (t : Told ResetOpcode) → reset_of c.cd_opcode ≡ t → Touches (stored_reset t last c)
      unfolding stored_reset OnFlash reset_of number
      reset_touches (given opcode) e = done_touches (Status c SUCCESS) (Some opcode) Nothing tt
      reset_touches (refused n values) e =
          let f = known_refused 52 reset_number reset_opcodes c.cd_opcode n values e in
          let own : n ≡ 52 = ap (λ (t : Told ResetOpcode). number t) (sym e ∙ f) in
          refuses_touches n values (λ g. omega arith)

      module _ (own : command ≡ given c) (empty : c.transfer_length ≡ 0) where
        erase_touches : is_erase c ≡ true → Touches (erase_turn v block last c sectors)
        unfolding erase_turn erase_rules or_refuse OnFlash refuses done
        erase_touches code =
            let fit = fits_in sectors c.cd_address c.cd_length in
            by_test Touches (not fit) (λ e. refuses_touches 57 [] (λ f. omega arith))
            (λ e.
            let within : ErasesWithin sectors c = record { empty = empty; code = code; fits = not-false fit e } in
            by_test Touches (splits v block c)
            (λ f. record { effect = tt; by_63 = λ vs g. (c, own, record { within = within; parts = f }) })
            (λ f. done_touches (Status c SUCCESS) last (Fill (range_of c)) (c, own, refl, record { within = within; whole = f })))

        zero_length_touches : Touches (zero_length_turn v block last c sectors)
        unfolding zero_length_turn OnFlash
        zero_length_touches =
            by_test Touches (is_erase c) erase_touches
            (λ e. by_test Touches (has_code c DeviceReset) (λ f. reset_touches (reset_of c.cd_opcode) refl)
            (λ f. by_test Touches (switches v c) (λ g. done_touches (Status c (switched c.cd_opcode)) last Nothing tt)
            (λ g. refuses_touches 53 (code_number c.cd_code ∷ []) (λ h. omega arith))))

    start_touches : (t : Told CommandBlock) → command ≡ t → Touches (start_turn v block t last sectors)
    unfolding start_turn OnFlash
    start_touches (given c) own =
        by_test Touches (eqb c.transfer_length 0) (λ e. zero_length_touches c own (eqb-true c.transfer_length 0 e))
        (λ e. done_touches (IO c) last Nothing tt)
    start_touches (refused n values) own = refuses_touches 56 (n ∷ values) (λ e. omega arith)

-- whatever the transaction is
pub write_touches : (v : Variety) (block : ℕ) (state : CommandState) (last : Option ResetOpcode) (sectors : ℕ) (bytes : List ℕ)
    → Touches v block sectors (command_in state bytes) (write_row v block state last sectors bytes)
unfolding write_row command_in
write_touches v block None last sectors bytes = start_touches v block sectors (read_command bytes) last (read_command bytes) refl
write_touches v block (IO c) last sectors bytes = write_io_touches v block sectors (refused 0 []) last c (length bytes)
write_touches v block (Status c status) last sectors bytes = refuses_touches v block sectors (refused 0 []) last 55 [] (λ e. omega arith)

-- an erase that splits a block is refused by 63
pub splits_63 : (v : Variety) (block : ℕ) (last : Option ResetOpcode) (sectors : ℕ) (c : CommandBlock) → Splits v block sectors c
    → start_turn v block (given c) last sectors ≡ refuses last 63 []
unfolding start_turn zero_length_turn erase_turn erase_rules or_refuse
splits_63 v block last sectors c s =
    rw (eq-eqb c.transfer_length 0 s.within.empty, s.within.code, s.within.fits, s.parts) refl

-- and one that splits none is done
pub erases_fill : (v : Variety) (block : ℕ) (last : Option ResetOpcode) (sectors : ℕ) (c : CommandBlock) → Erases v block sectors c
    → start_turn v block (given c) last sectors ≡ done (Status c SUCCESS) last (Fill (range_of c))
unfolding start_turn zero_length_turn erase_turn erase_rules or_refuse
erases_fill v block last sectors c s =
    rw (eq-eqb c.transfer_length 0 s.within.empty, s.within.code, s.within.fits, s.whole) refl
