-- The giving of received bytes: "at most once, right after the step that asked".
use Rattle.std.specs.Prelude.{ℕ, ◌≡◌, Bool, true, false, List, [], ◌∷◌, ltb, length}
use Rattle.promise.specs.Told.{Told, given, refused}
use Rattle.promise.specs.Rules.{rule, or_refuse, differs}
use Rattle.promise.specs.Bytes.{front}
use Rattle.operation.specs.declared.steps.Asked.{Asked}
use Rattle.operation.specs.declared.steps.Asked.TheVariants as asked
use Rattle.operation.specs.declared.steps.UsbOperation.{UsbOperation}
use Rattle.operation.specs.declared.giving.UsbGiven.{UsbGiven}
use Rattle.operation.specs.Record.{status_size, transfer_length, inband_length, turned, with_status, with_inband}
use Rattle.operation.specs.Step.{data_rule}
use Rattle.promise.specs.Does.{Puts}
use Rattle.std.specs.Prelude.{Result}
use Rattle.operation.specs.declared.giving.GivingError.{GivingError}
use Rattle.std.specs.declared.result.Result.TheVariants.{Ok, Err}
use Rattle.operation.specs.declared.giving.GivingError.TheVariants.{NotAsked, TooMany, DataDiffers}

-- what a giving tells, the bytes that it puts at the front of the caller's data, and the record that it hands back
abbrev pub Give : Type 0
Give = Puts Unit UsbOperation

abbrev pub takes : List ℕ → UsbOperation → Give
takes put next = record { told = given tt; sent = put; next = next }

-- "A refusal writes no lent buffer and changes no record"
abbrev pub keeps : UsbOperation → ℕ → List ℕ → Give
keeps op n values = record { told = refused n values; sent = []; next = op }

-- too many given, not asked
abbrev pub too_many : ℕ
too_many = 21

abbrev pub not_asked : ℕ
not_asked = 22

unfoldable pub nothing_asked : Asked → Bool
nothing_asked asked.Nothing = true
nothing_asked asked.Inband = false
nothing_asked asked.Sectors = false
nothing_asked asked.Status = false

-- how many bytes were asked for
unfoldable pub asks_for : Asked → UsbOperation → ℕ
asks_for asked.Nothing op = 0
asks_for asked.Inband op = inband_length op
asks_for asked.Sectors op = transfer_length op
asks_for asked.Status op = status_size

-- how long the caller's data has to be: "sector data below the transfer length .. when its bytes are given", and nothing at the status
unfoldable pub owed : Asked → UsbOperation → ℕ
owed asked.Nothing op = 0
owed asked.Inband op = 0
owed asked.Sectors op = transfer_length op
owed asked.Status op = 0

-- "Fewer than asked leave the rest of that buffer as before"; nothing is asked any more
unfoldable pub received : Asked → UsbOperation → List ℕ → Give
received asked.Nothing op bytes = takes [] op
received asked.Inband op bytes = takes [] (with_inband op (front bytes op.«data»))
received asked.Sectors op bytes = takes bytes (turned op op.next asked.Nothing)
received asked.Status op bytes = takes [] (with_status op (front bytes op.command_bytes))

-- "more than asked; no read just asked for (22 first)"; "27 .. (after 22, 21)"
unfoldable pub give_of : Asked → UsbOperation → List ℕ → ℕ → Give
give_of asked op bytes lent =
    or_refuse (keeps op)
    (rule (nothing_asked asked) not_asked []
    ∷ rule (ltb (asks_for asked op) (length bytes)) too_many []
    ∷ data_rule lent (owed asked op)
    ∷ [])
    (received asked op bytes)

abbrev pub usb_give : UsbOperation → List ℕ → ℕ → Give
usb_give op bytes lent = give_of op.asked op bytes lent

abbrev pub giving_error_number : GivingError → ℕ
giving_error_number NotAsked = not_asked
giving_error_number TooMany = too_many
giving_error_number DataDiffers = differs

-- number and values of every answer
unfoldable pub giving_told : Result Unit GivingError → Told Unit
giving_told (Ok u) = given tt
giving_told (Err NotAsked) = refused not_asked []
giving_told (Err TooMany) = refused too_many []
giving_told (Err DataDiffers) = refused differs []

-- a giving that answers r and leaves the caller's data `after`, where it was `before`
pub record GiveMeets (r : UsbGiven) (before after : List ℕ) (g : Give) : Type 0 where
  pub tells : giving_told r.answer ≡ g.told
  pub next : r.next ≡ g.next
  pub leaves : after ≡ front g.sent before

-- "an empty giving counts as the one": after the data buffer was filled from outside it is the same as giving those bytes
pub record Alike (data₁ data₂ : List ℕ) (g₁ g₂ : Give) : Type 0 where
  pub told : g₁.told ≡ g₂.told
  pub next : g₁.next ≡ g₂.next
  pub leaves : front g₁.sent data₁ ≡ front g₂.sent data₂
