-- Records that calls from a fresh start can make, and what is known of such a record once the bytes `p` are taken.
use Rattle.std.specs.Prelude.{ℕ, ◌-◌, ◌%◌, ◌≤◌, ◌≡◌, List, [], ◌∷◌, ◌++◌, length, drop, eqb, ltb}
use Rattle.promise.specs.Rules.{pick}
use Rattle.crc.specs.Check.{start, crc_over}
use Rattle.maskrom_transfer.specs.declared.MaskRomSteps.{MaskRomSteps}
use Rattle.maskrom_transfer.specs.declared.MaskRomSteps.TheVariants.{Writing, Check, Dummy, Done}
use Rattle.maskrom_transfer.specs.Moves.{block_size}
use Rattle.maskrom.specs.declared.MaskRomOperation.{MaskRomOperation}
use Rattle.maskrom.specs.declared.WholeUpload.{WholeUpload}
use Rattle.maskrom.specs.declared.WholeStart.{WholeStart}
use Rattle.maskrom.specs.Answers.{longest}
use Rattle.maskrom.specs.PartWise.{fresh, held}
use Rattle.maskrom.specs.Whole.{StartMeets}
use Rattle.maskrom.specs.Calls.{PartCalls, WholeCalls}

-- the last n bytes
abbrev pub last_of : ℕ → List ℕ → List ℕ
last_of n l = drop (length l - n) l

-- "a zero if its length mod 4,096 is 4,095"
unfoldable pub pad : ℕ → List ℕ
pad n = pick (eqb (n % block_size) 4095) (0 ∷ []) []

-- "the image; a zero if .."
unfoldable pub padded : List ℕ → List ℕ
padded p = p ++ pad (length p)

-- what the register covers: what was taken, and once the image is shut its pad too
unfoldable pub covers : MaskRomSteps → List ℕ → List ℕ
covers Writing p = p
covers Check p = padded p
covers Dummy p = padded p
covers Done p = padded p

-- part-wise: after how many bytes an upload may stand here
abbrev pub PartPlace : MaskRomSteps → ℕ → Type 0
PartPlace Writing n = Unit
PartPlace Check n = n % block_size ≡ 4095
PartPlace Dummy n = n % block_size ≡ 4094
PartPlace Done n = Unit

-- a part-wise upload once the bytes p are taken: their number, their check, and as the bytes that wait the last of them, |p| mod 4,096
pub record PartAfter (area : ℕ) (p : List ℕ) (m : MaskRomOperation) : Type 0 where
  pub same_area : m.area ≡ area
  pub taken : m.taken ≡ length p
  pub fits : length p ≤ longest
  pub crc : m.crc ≡ crc_over start (covers m.steps p)
  pub waits : held m ≡ last_of (length p % block_size) p
  pub whole_block : length m.block ≡ block_size
  pub place : PartPlace m.steps (length p)

-- `new`, then any calls, whose parts took p
abbrev pub PartMade : ℕ → List ℕ → MaskRomOperation → Type 0
PartMade area p m = PartCalls (fresh area) p m

-- whole, of an image of so many bytes: after how many an upload may stand here
abbrev pub WholePlace : MaskRomSteps → ℕ → ℕ → Type 0
WholePlace Writing whole n = n % block_size ≡ 0
WholePlace Check whole n = (n ≡ whole) × (n % block_size ≡ 4095)
WholePlace Dummy whole n = (n ≡ whole) × (n % block_size ≡ 4094)
WholePlace Done whole n = n ≡ whole

-- a whole upload of an image of so many bytes, once the bytes p are taken
pub record WholeAfter (area whole : ℕ) (p : List ℕ) (u : WholeUpload) : Type 0 where
  pub same_area : u.area ≡ area
  pub same_length : u.length ≡ whole
  pub fits : whole ≤ longest
  pub taken : u.taken ≡ length p
  pub within : length p ≤ whole
  pub crc : u.crc ≡ crc_over start (covers u.steps p)
  pub place : WholePlace u.steps whole (length p)

-- the length that a start keeps: the image's, and 0 beside a refusal
unfoldable pub start_length : List ℕ → ℕ
start_length image = pick (ltb longest (length image)) 0 (length image)

-- `write_area` of an image, refused or not, then any steps, which took p
pub record WholeMade (lends : List ℕ → Type 0) (area : ℕ) (image p : List ℕ) (u : WholeUpload) : Type 0 where
  pub begun : WholeStart
  pub starts : StartMeets begun area image
  pub calls : WholeCalls lends begun.upload p u
