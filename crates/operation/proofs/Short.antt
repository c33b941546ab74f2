-- The status is read over the command's first 13 bytes. So `USBS` alone is a success of an out command with nothing moved, and 7 of an in command.
use Prim.Native.Nat.{ℕ, ◌-◌, ◌<◌, ◌≤◌}
use mathlib.Core.Path.{◌≡◌, refl, ap, ◌∙◌}
use mathlib.Core.List.{List, [], ◌∷◌}
use native.Mathlib.Omega.{arith}
use borrow.Author.Tests.{ne_eqb}
use lib.Dec.{lit≤}
use lib.ListN.{take}
use Rattle.promise.specs.Told.{given, refused, and_then}
use Rattle.promise.specs.Rules.{or_refuse}
use Rattle.promise.specs.Bytes.{high_first, low_first}
use Rattle.protocol_codes.specs.Reading.{by_number, known, status_of}
use Rattle.protocol_codes.specs.declared.Direction.TheVariants.{In, Out}
use Rattle.protocol_bytes.specs.Signature.{usbs, same}
use Rattle.protocol.specs.CommandBytes.{command_bytes}
use Rattle.protocol.specs.declared.CommandBlock.{CommandBlock}
use Rattle.protocol_status.specs.StatusBytes.{status_bytes, read_status, StatusFits}
use Rattle.protocol_status.proofs.Trips.{reads_back}
use Rattle.operation_finish.specs.declared.Kind.TheVariants as kind
use Rattle.operation_finish.specs.Transfer.{whole, short}
use Rattle.operation_finish.specs.Reply.{nothing, moved}
use Rattle.operation_finish.specs.Finish.{reply_by, finishes}
use Rattle.operation_finish.proofs.Cases.{sectors_whole, sectors_short, finish_reply}
use Rattle.operation.specs.declared.steps.Operation.TheVariants as operation
use Rattle.operation.specs.declared.steps.Asked.TheVariants as asked
use Rattle.operation.specs.declared.steps.UsbOperation.{UsbOperation}
use Rattle.operation.specs.Record.{fresh, turned, with_status, after_command}
use Rattle.operation.specs.Step.{finished, finished_told, status_step, finish_step, step_of, usb_step}
use Rattle.operation.specs.Give.{Give, nothing_asked, asks_for, owed, received, usb_give}
use Rattle.operation.specs.Rounds.{gifted, played}
use Rattle.operation.specs.Short.{usbs_alone, nothing_moved, silent, given_usbs}
use Rattle.operation.proofs.Cases.{command_out_lem, give_taken}
use Rattle.operation.proofs.Laws.{data_write}

pub out_succeeds : (c : CommandBlock) → c.flags ≡ Out → StatusFits (nothing_moved c) → read_status (usbs_alone c) ≡ given (nothing_moved c)
unfolding command_bytes status_bytes high_first low_first
out_succeeds c e fits = rw e (reads_back (nothing_moved c) [] fits)

pub in-refused : (c : CommandBlock) → c.flags ≡ In → read_status (usbs_alone c) ≡ refused 7 (0x80 ∷ [])
unfolding command_bytes high_first low_first read_status or_refuse same status_of known by_number and_then
in-refused c e = rw e

-- the finish of an out command whose status is that
module _ (c : CommandBlock) (out : c.flags ≡ Out) (fits : StatusFits (nothing_moved c)) (inband : List ℕ) where
  abbrev asks : ℕ
  asks = c.transfer_length

  -- a write of at least one sector is short: nothing of what was asked was moved
  pub write_short : 0 < asks → finishes kind.Write c.tag asks (usbs_alone c) inband ≡ given (moved (short 0 asks))
  unfolding reply_by
  write_short some =
      let none : asks - asks ≡ 0 = omega arith in
      finish_reply kind.Write c.tag asks (usbs_alone c) inband (nothing_moved c) (out_succeeds c out fits) refl refl
      ∙ sectors_short asks asks some (omega arith) ∙ ap (λ (n : ℕ). given (moved (short n asks))) none

  -- a write of none is whole
  pub write_of_none : asks ≡ 0 → finishes kind.Write c.tag asks (usbs_alone c) inband ≡ given (moved (whole 0))
  unfolding reply_by
  write_of_none none =
      finish_reply kind.Write c.tag asks (usbs_alone c) inband (nothing_moved c) (out_succeeds c out fits) refl refl
      ∙ sectors_whole asks asks none ∙ ap (λ (n : ℕ). given (moved (whole n))) none

  -- an erase, a reset or a switch succeeds
  pub others_succeed : finishes kind.Nothing c.tag asks (usbs_alone c) inband ≡ given nothing
  unfolding reply_by
  others_succeed = finish_reply kind.Nothing c.tag asks (usbs_alone c) inband (nothing_moved c) (out_succeeds c out fits) refl refl

-- a caller of a write who takes its three steps, lent enough at each, and gives `USBS` for its status (ShortStep has any caller)
module _ (c : CommandBlock) (out : c.flags ≡ Out) (fits : StatusFits (nothing_moved c)) (some : 0 < c.transfer_length) where
  abbrev start : UsbOperation
  start = fresh kind.Write c

  -- behind its command it stands at the data
  abbrev there : UsbOperation
  there = turned (with_status start (take 13 (command_bytes c))) operation.IO asked.Nothing

  module _ (lent room : ℕ) (long : 31 ≤ room) (enough : c.transfer_length ≤ lent) where
    command_sent : (usb_step start lent room).next ≡ there
    unfolding step_of after_command
    command_sent = rw (command_out_lem start room long, ne_eqb c.transfer_length 0 (λ e. omega (arith, e, some))) refl

    data_sent : (usb_step there lent room).next ≡ turned there operation.CommandStatus asked.Nothing
    unfolding step_of
    data_sent = rw (data_write there lent enough) refl

    abbrev waiting : UsbOperation
    waiting = turned there operation.Finish asked.Status

    usbs_given : (usb_give waiting usbs lent).next ≡ with_status waiting (usbs_alone c)
    unfolding received nothing_asked asks_for owed
    usbs_given = ap (λ (g : Give). g.next) (give_taken asked.Status waiting usbs lent refl (lit≤ tt) (omega arith))

    -- behind the command, the data and the status
    stands_there : played (silent lent room ∷ silent lent room ∷ given_usbs lent room ∷ []) start ≡ with_status waiting (usbs_alone c)
    unfolding played gifted step_of status_step
    stands_there = rw (command_sent, data_sent) usbs_given

    -- the next step is its finish, and tells a short transfer
    pub usbs_alone_short : (usb_step (played (silent lent room ∷ silent lent room ∷ given_usbs lent room ∷ []) start) lent room).told
        ≡ given (finished (moved (short 0 c.transfer_length)))
    unfolding step_of finish_step finished_told and_then
    usbs_alone_short =
        ap (λ (o : UsbOperation). (usb_step o lent room).told) stands_there ∙ ap finished_told (write_short c out fits start.«data» some)
