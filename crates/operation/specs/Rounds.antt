-- Turns that a caller takes with an operation: a step each, and givings behind it.
use Rattle.std.specs.Prelude.{ℕ, ◌≤◌, List, [], ◌∷◌}
use Rattle.operation.specs.declared.steps.UsbOperation.{UsbOperation}
use Rattle.operation.specs.Step.{usb_step}
use Rattle.operation.specs.Give.{usb_give}

-- a step, and then any givings, refused or not
pub record Gift : Type 0 where
  pub bytes : List ℕ
  pub lent : ℕ

pub record Turn : Type 0 where
  pub lent : ℕ
  pub room : ℕ
  pub gifts : List Gift

unfoldable pub gifted : List Gift → UsbOperation → UsbOperation
gifted [] op = op
gifted (g ∷ gs) op = gifted gs (usb_give op g.bytes g.lent).next

unfoldable pub played : List Turn → UsbOperation → UsbOperation
played [] op = op
played (t ∷ ts) op = played ts (gifted t.gifts (usb_step op t.lent t.room).next)

-- no turn lends too little for a transfer of that length
unfoldable pub AllFit : ℕ → List Turn → Type 0
AllFit l [] = Unit
AllFit l (t ∷ ts) = (31 ≤ t.room) × (l ≤ t.lent) × AllFit l ts
