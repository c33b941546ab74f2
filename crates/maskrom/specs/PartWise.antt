-- The part-wise upload: parts, then closing steps.
use Rattle.std.specs.Prelude.{ℕ, ◌+◌, ◌-◌, ◌%◌, Bool, true, false, List, [], ◌∷◌, ◌++◌, length, take, drop, replicate, eqb, ltb}
use Rattle.promise.specs.Told.{Told, given, and_then}
use Rattle.promise.specs.Rules.{pick, rule, unless, room_rule}
use Rattle.crc.specs.Check.{start, crc_over}
use Rattle.maskrom_transfer.specs.declared.MaskRomSteps.{MaskRomSteps}
use Rattle.maskrom_transfer.specs.declared.MaskRomSteps.TheVariants.{Writing, Check, Dummy, Done}
use Rattle.maskrom.specs.declared.MaskRomOperation.{MaskRomOperation}
use Rattle.maskrom_transfer.specs.declared.Moved.{Moved}
use Rattle.maskrom_transfer.specs.Moves.{block_size}
use Rattle.maskrom.specs.Answers.{longest, too_long, closed_already, control, Handed, took, filled, Asks, writes, finish}
use Rattle.promise.specs.Does.{Does, does}
use Rattle.maskrom_transfer.specs.Sending.{send_step}

abbrev pub fresh : ℕ → MaskRomOperation
fresh area = record {
  area = area;
  taken = 0;
  crc = start;
  steps = Writing;
  block = replicate block_size 0;
}

-- how many bytes of the block wait for their transfer, and which
abbrev pub waiting : MaskRomOperation → ℕ
waiting m = m.taken % block_size

abbrev pub held : MaskRomOperation → List ℕ
held m = take (waiting m) m.block

-- "a part after closing began"
unfoldable pub closed : MaskRomSteps → Bool
closed Writing = false
closed Check = true
closed Dummy = true
closed Done = true

abbrev pub with_block : MaskRomOperation → ℕ → ℕ → List ℕ → MaskRomOperation
with_block m taken crc block = record {
  area = m.area;
  taken = taken;
  crc = crc;
  steps = m.steps;
  block = block;
}

-- the record once `ys` are taken: they stand behind the bytes that waited
abbrev pub holding : MaskRomOperation → List ℕ → MaskRomOperation
holding m ys =
    with_block m (m.taken + length ys) (crc_over m.crc ys)
    (held m ++ (ys ++ drop (waiting m + length ys) m.block))

-- "says how many it took, and puts a full transfer in the first 4,096 output bytes"
unfoldable pub takes : MaskRomOperation → List ℕ → Does Handed MaskRomOperation
takes m ys =
    pick (eqb (waiting m + length ys) block_size)
    (does (filled (length ys) (control m.area block_size)) (held m ++ ys) (holding m ys))
    (does (took (length ys)) [] (holding m ys))

-- "each call takes bytes until the block is full"; "Parts: 20, 26, 25"
unfoldable pub part_step : MaskRomOperation → List ℕ → ℕ → Told (Does Handed MaskRomOperation)
part_step m part room =
    unless
    (room_rule room block_size
    ∷ rule (closed m.steps) closed_already []
    ∷ rule (ltb longest (m.taken + length part)) too_long []
    ∷ [])
    (given (takes m (take (block_size - waiting m) part)))

-- a control write of n bytes, or the finish
unfoldable pub asks : MaskRomSteps → ℕ → ℕ → Asks
asks Writing area n = writes (control area n)
asks Check area n = writes (control area n)
asks Dummy area n = writes (control area n)
asks Done area n = finish

abbrev pub with_moved : MaskRomOperation → ℕ → MaskRomSteps → MaskRomOperation
with_moved m crc steps = record {
  area = m.area;
  taken = m.taken;
  crc = crc;
  steps = steps;
  block = m.block;
}

-- what the transfer comes to in this record
abbrev pub closes : MaskRomOperation → Does Moved Unit → Does Asks MaskRomOperation
closes m d =
    does (asks m.steps m.area d.says.size) d.sends (with_moved m d.says.crc d.says.steps)

-- "The first closing step shuts the image": from then on nothing but its next transfer comes; "closing 20"
unfoldable pub close_step : MaskRomOperation → ℕ → Told (Does Asks MaskRomOperation)
close_step m room =
    and_then (send_step m.steps m.crc (held m) room) (λ (d : Does Moved Unit). given (closes m d))
