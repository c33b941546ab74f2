-- One turn of a run: a step of the operation, and the transfer that it asks for at the stand-in.
use Rattle.std.specs.Prelude.{ℕ, Bool, true, false, List, [], length, take, replicate}
use Rattle.promise.specs.Told.{Told, given, refused}
use Rattle.promise.specs.Rules.{pick}
use Rattle.promise.specs.Bytes.{front}
use Rattle.protocol.specs.CommandBytes.{command_length}
use Rattle.operation_finish.specs.Reply.{Reply}
use Rattle.operation_finish.specs.declared.Kind.{Kind}
use Rattle.operation_finish.specs.declared.Kind.TheVariants as kind
use Rattle.operation.specs.declared.steps.Asked.{Asked}
use Rattle.operation.specs.declared.steps.Asked.TheVariants as asked
use Rattle.operation.specs.declared.steps.UsbOperation.{UsbOperation}
use Rattle.operation.specs.Step.{Asks, writes_command, writes_data, reads, finished, Step, usb_step}
use Rattle.operation.specs.Give.{usb_give}
use Rattle.mock.specs.declared.device.MockState.{MockState}
use Rattle.mock.specs.Device.{Call, write_bulk, read_bulk}
use Rattle.promise.specs.Run.{Turned, ends, goes}

-- the operation, the device, and what is lent: the flash, and the caller's sector data
pub record UsbState : Type 0 where
  pub operation : UsbOperation
  pub device : MockState
  pub flash : List ℕ
  pub «data» : List ℕ

abbrev pub usb_state : UsbOperation → MockState → List ℕ → List ℕ → UsbState
usb_state operation device flash bytes = record { operation = operation; device = device; flash = flash; «data» = bytes }

-- a transfer that the device accepts is followed by the next step, one that it refuses is the end
unfoldable pub onward : Told Unit → UsbState → Turned Reply UsbState
onward (given done) s = goes s
onward (refused number values) s = ends (refused number values) s

abbrev pub wrote : UsbState → Call → Turned Reply UsbState
wrote s w = onward w.told (usb_state s.operation w.next w.leaves s.«data»)

-- "A run has its own transfer buffers": zeros for statuses and in-band replies. Sector data goes straight between the caller's data and the flash
unfoldable pub buffer_for : Asked → ℕ → UsbState → List ℕ
buffer_for asked.Sectors n s = take n s.«data»
buffer_for asked.Nothing n s = replicate n 0
buffer_for asked.Inband n s = replicate n 0
buffer_for asked.Status n s = replicate n 0

-- what the device left of that buffer is the caller's data
unfoldable pub landed : Asked → List ℕ → List ℕ → List ℕ
landed asked.Sectors bytes lent = front bytes lent
landed asked.Nothing bytes lent = lent
landed asked.Inband bytes lent = lent
landed asked.Status bytes lent = lent

-- the operation is given these bytes, beside so many of the caller's data
abbrev pub giving : UsbState → List ℕ → ℕ → UsbState
giving s bytes lent = usb_state (usb_give s.operation bytes lent).next s.device s.flash s.«data»

-- sectors stand in the caller's data already, and "an empty giving counts as the one"
unfoldable pub gives : Asked → UsbState → List ℕ → UsbState
gives asked.Sectors s bytes = giving s [] (length s.«data»)
gives asked.Nothing s bytes = giving s bytes 0
gives asked.Inband s bytes = giving s bytes 0
gives asked.Status s bytes = giving s bytes 0

unfoldable pub received : Told Unit → Asked → UsbState → List ℕ → Turned Reply UsbState
received (given done) asked s bytes = goes (gives asked s bytes)
received (refused number values) asked s bytes = ends (refused number values) s

abbrev pub got : Asked → UsbState → Call → Turned Reply UsbState
got asked s g = received g.told asked (usb_state s.operation g.next s.flash (landed asked g.leaves s.«data»)) g.leaves

-- what a step asks for; the finish and a refusal are the end
unfoldable pub transfers : Told Asks → List ℕ → UsbState → Turned Reply UsbState
transfers (given writes_command) sent s = wrote s (write_bulk s.device s.flash sent)
transfers (given (writes_data n)) sent s = wrote s (write_bulk s.device s.flash (take n s.«data»))
transfers (given (reads asked n)) sent s = got asked s (read_bulk s.device s.flash (buffer_for asked n s))
transfers (given (finished reply)) sent s = ends (given reply) s
transfers (refused number values) sent s = ends (refused number values) s

-- the data that an operation is lent: what it writes, or what it reads into
unfoldable pub is_write : Kind → Bool
is_write kind.ChipInfo = false
is_write kind.FlashId = false
is_write kind.FlashInfo = false
is_write kind.Capability = false
is_write kind.Nothing = false
is_write kind.Storage = false
is_write kind.Read = false
is_write kind.Write = true

abbrev pub lent_to : Kind → List ℕ → List ℕ → List ℕ
lent_to kind source room = pick (is_write kind) source room

-- the operation stands as its step hands it back, whatever the transfer comes to
abbrev pub after : Step → UsbState → Turned Reply UsbState
after step s = transfers step.told step.sent (usb_state step.next s.device s.flash s.«data»)

unfoldable pub usb_turn : UsbState → Turned Reply UsbState
usb_turn s = after (usb_step s.operation (length s.«data») command_length) s
