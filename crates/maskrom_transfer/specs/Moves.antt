-- One step of an image of which no more will come: the bytes of its transfer, the register behind it, and where the upload then stands.
use Rattle.std.specs.Prelude.{ℕ, List, [], ◌∷◌, ◌++◌, length, eqb}
use Rattle.promise.specs.Rules.{pick}
use Rattle.promise.specs.Bytes.{high_first}
use Rattle.crc.specs.Check.{crc_over}
use Rattle.maskrom_transfer.specs.declared.MaskRomSteps.{MaskRomSteps}
use Rattle.maskrom_transfer.specs.declared.MaskRomSteps.TheVariants.{Writing, Check, Dummy, Done}

-- the most that one transfer holds
abbrev pub block_size : ℕ
block_size = 4096

-- "the check .., high byte first"
abbrev pub check_bytes : ℕ → List ℕ
check_bytes crc = high_first 2 crc

pub record Moves : Type 0 where
  pub bytes : List ℕ
  pub crc : ℕ
  pub steps : MaskRomSteps

abbrev pub moves : List ℕ → ℕ → MaskRomSteps → Moves
moves bs crc steps = record { bytes = bs; crc = crc; steps = steps }

-- `w` is the next of the image, a whole block unless it is the last, and the register covers it: a whole block goes as it is, 4,095 bytes with
-- the pad and before the check, anything else with the check; after 4,094 the last zero is left
unfoldable pub writing : ℕ → List ℕ → Moves
writing crc w =
    pick (eqb (length w) block_size) (moves w crc Writing)
    (pick (eqb (length w) 4095) (moves (w ++ (0 ∷ [])) (crc_over crc (0 ∷ [])) Check)
    (moves (w ++ check_bytes crc) crc (pick (eqb (length w) 4094) Dummy Done)))

unfoldable pub moves_at : MaskRomSteps → ℕ → List ℕ → Moves
moves_at Writing crc w = writing crc w
moves_at Check crc w = moves (check_bytes crc) crc Done
moves_at Dummy crc w = moves (0 ∷ []) crc Done
moves_at Done crc w = moves [] crc Done
