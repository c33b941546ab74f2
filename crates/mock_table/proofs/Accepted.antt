-- What a turn that was not refused is: the data of a sector command, written or read.
use Prim.Native.Nat.{ℕ, ◌*◌}
use mathlib.Core.Path.{◌≡◌, refl, ap, sym, ◌∙◌, subst}
use mathlib.Core.Bool.{true, not}
use mathlib.Core.List.{List, [], ◌∷◌}
use lib.Dec.{eqb}
use lib.ListN.{length}
use borrow.Author.Tests.{eqb-true, not-false}
use Rattle.promise.specs.Told.{given, refused}
use Rattle.promise.specs.Rules.{rule}
use Rattle.protocol_codes.specs.declared.CommandCode.TheVariants.{ReadLBA, WriteLBA}
use Rattle.protocol_codes.specs.declared.Direction.{Direction}
use Rattle.protocol_codes.specs.declared.Direction.TheVariants.{In, Out}
use Rattle.protocol_codes.specs.declared.Status.TheVariants.{SUCCESS}
use Rattle.protocol_bytes.specs.Sector.{sector_size}
use Rattle.protocol.specs.declared.CommandBlock.{CommandBlock}
use Rattle.promise.proofs.Outcome.{passed}
use Rattle.mock_base.specs.Flash.{fits_in}
use Rattle.mock_base.specs.declared.cells.Variety.{Variety}
use Rattle.mock_table.specs.Turn.{Turn, refuses, done, has_code, is_in, is_out}
use Rattle.mock_table.specs.Ways.{moved_by}
use Rattle.mock_table.specs.Table.{range_of, range_rule, length_rule, sector_turn, write_io_turn, write_row, write_turn, code_turn, read_io_turn, read_row, read_turn}
use Rattle.mock_table.specs.declared.session.CommandState.{CommandState}
use Rattle.mock_table.specs.declared.session.CommandState.TheVariants.{IO, Status}
use Rattle.mock_table.specs.declared.session.Session.{Session}
use Rattle.std.specs.Prelude.{Option}
use Rattle.protocol_codes.specs.declared.ResetOpcode.{ResetOpcode}

-- its range fits, its bytes are as many as its sectors', and they go the command's way
pub record Moves (v : Variety) (last : Option ResetOpcode) (c : CommandBlock) (direction : Direction) (sectors actual : ℕ) (t : Turn) : Type 0 where
  pub turn : t ≡ done (Status c SUCCESS) last (moved_by v direction (range_of c))
  pub fits : fits_in sectors c.cd_address c.cd_length ≡ true
  pub size : actual ≡ c.cd_length * sector_size

tells_refused : (last : Option ResetOpcode) (n : ℕ) (values : List ℕ) → (refuses last n values).told ≡ refused n values
unfolding refuses
tells_refused last n values = refl

module _ (v : Variety) (last : Option ResetOpcode) (c : CommandBlock) (sectors actual : ℕ) where
  sector_accepted : (direction : Direction) → (sector_turn v last c direction sectors actual).told ≡ given tt
      → Moves v last c direction sectors actual (sector_turn v last c direction sectors actual)
  unfolding sector_turn
  sector_accepted direction e =
      let expected = c.cd_length * sector_size in
      let p = passed (λ (t : Turn). t.told) (refuses last) (tells_refused last) (range_rule c sectors ∷ length_rule expected actual ∷ [])
      (done (Status c SUCCESS) last (moved_by v direction (range_of c))) tt e in
      record {
        turn = p.1;
        fits = not-false (fits_in sectors c.cd_address c.cd_length) p.0.0;
        size = eqb-true actual expected (not-false (eqb actual expected) p.0.1.0);
      }

  write_io_accepted : (write_io_turn v last c sectors actual).told ≡ given tt → Moves v last c Out sectors actual (write_io_turn v last c sectors actual)
  unfolding write_io_turn
  write_io_accepted e =
      let p = passed (λ (t : Turn). t.told) (refuses last) (tells_refused last)
      (rule (not (is_out c.flags)) 55 [] ∷ rule (not (has_code c WriteLBA)) 55 [] ∷ []) (sector_turn v last c Out sectors actual) tt e in
      subst (Moves v last c Out sectors actual) (sym p.1) (sector_accepted Out (ap (λ (t : Turn). t.told) (sym p.1) ∙ e))

  -- ReadLBA is none of the four replies
  read_code_lem : c.cd_code ≡ ReadLBA → code_turn v last c sectors actual ≡ sector_turn v last c In sectors actual
  unfolding code_turn has_code
  read_code_lem e = rw e refl

  read_io_accepted : c.cd_code ≡ ReadLBA → (read_io_turn v last c sectors actual).told ≡ given tt
      → Moves v last c In sectors actual (read_io_turn v last c sectors actual)
  unfolding read_io_turn
  read_io_accepted code e =
      let p = passed (λ (t : Turn). t.told) (refuses last) (tells_refused last) (rule (not (is_in c.flags)) 54 [] ∷ [])
      (code_turn v last c sectors actual) tt e in
      let same = p.1 ∙ read_code_lem code in
      subst (Moves v last c In sectors actual) (sym same) (sector_accepted In (ap (λ (t : Turn). t.told) (sym same) ∙ e))

pub write_accepted : (v : Variety) (block : ℕ) (s : Session) (sectors : ℕ) (bytes : List ℕ) (c : CommandBlock) → s.current_command ≡ IO c
    → (write_turn v block s sectors bytes).told ≡ given tt → Moves v s.last_reset c Out sectors (length bytes) (write_turn v block s sectors bytes)
unfolding write_row
write_accepted v block s sectors bytes c e h =
    let same : write_turn v block s sectors bytes ≡ write_io_turn v s.last_reset c sectors (length bytes) =
    ap (λ (x : CommandState). write_row v block x s.last_reset sectors bytes) e in
    subst (Moves v s.last_reset c Out sectors (length bytes)) (sym same)
    (write_io_accepted v s.last_reset c sectors (length bytes) (ap (λ (t : Turn). t.told) (sym same) ∙ h))

pub read_accepted : (v : Variety) (s : Session) (sectors room : ℕ) (c : CommandBlock) → s.current_command ≡ IO c → c.cd_code ≡ ReadLBA
    → (read_turn v s sectors room).told ≡ given tt → Moves v s.last_reset c In sectors room (read_turn v s sectors room)
unfolding read_row
read_accepted v s sectors room c e code h =
    let same : read_turn v s sectors room ≡ read_io_turn v s.last_reset c sectors room =
    ap (λ (x : CommandState). read_row v x s.last_reset sectors room) e in
    subst (Moves v s.last_reset c In sectors room) (sym same)
    (read_io_accepted v s.last_reset c sectors room code (ap (λ (t : Turn). t.told) (sym same) ∙ h))
