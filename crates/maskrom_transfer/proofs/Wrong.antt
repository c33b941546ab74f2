-- Programs that the contracts rule out: each theorem is that the wrong program's answer does not meet the contract at a named input.
use Prim.Native.Nat.{ℕ, suc, ◌≤◌}
use mathlib.Core.Path.{◌≡◌, ap, sym, ◌∙◌}
use mathlib.Core.List.{List, [], ◌∷◌}
use native.Mathlib.Omega.{arith}
use lib.ListN.{length, get_or, take, replicate, length-replicate}
use lib.Seq.{length-take-le}
use lib.Dec.{lit≤}
use Rattle.promise.specs.Told.{Told, given, refused, number}
use Rattle.promise.specs.Bytes.{low_first, high_first, front}
use Rattle.promise.specs.Rules.{or_refuse}
use Rattle.maskrom_transfer.specs.declared.Moved.{Moved}
use Rattle.maskrom_transfer.specs.declared.MaskRomSteps.{MaskRomSteps}
use Rattle.maskrom_transfer.specs.declared.MaskRomSteps.TheVariants.{Writing, Check, Dummy, Done}
use Rattle.maskrom_transfer.specs.Moves.{Moves, moves, moves_at, writing}
use Rattle.promise.specs.Does.{Does, Meets, said, sent}
use Rattle.maskrom_transfer.specs.Sending.{sent_told, moved, send_step}
use Rattle.maskrom_transfer.proofs.Cases.{writing_block, writing_dummy, send_acts}
use Rattle.std.specs.Prelude.{Result}
use Rattle.rule_number.specs.declared.OutputTooShort.{OutputTooShort}
use Rattle.std.specs.declared.result.Result.TheVariants.{Ok, Err}

-- `send`, `send_lent`: the check with its low byte first, of an image that has ended at the register 1
pub low_byte_first : (r : Result Moved OutputTooShort) (old new : List ℕ) → Meets (sent_told r) tt old new tt (send_step Writing 1 [] 4096)
    → get_or new 0 0 ≡ 1 → ⊥
unfolding send_step or_refuse moves_at writing high_first low_first sent
low_byte_first r old new meets first =
    let differ : ◌≡◌ {A = ℕ} 1 0 = sym first ∙ ap (λ (l : List ℕ). get_or l 0 0) meets.leaves in omega arith

-- `send`, `send_lent`: a step that leaves the output as it was
pub nothing_sent : (r : Result Moved OutputTooShort) (rest : List ℕ) → Meets (sent_told r) tt (0 ∷ 0 ∷ rest) (0 ∷ 0 ∷ rest) tt (send_step Writing 1 [] 4096) → ⊥
unfolding send_step or_refuse moves_at writing high_first low_first sent
nothing_sent r rest meets = let differ : ◌≡◌ {A = ℕ} 0 1 = ap (λ (l : List ℕ). get_or l 1 0) meets.leaves in omega arith

-- `send`, `send_lent`: two zeros in the place of the check, as an upload without one had
pub zeros_for_the_check : (r : Result Moved OutputTooShort) (old new : List ℕ) → Meets (sent_told r) tt old new tt (send_step Writing 1 [] 4096)
    → take 2 new ≡ 0 ∷ 0 ∷ [] → ⊥
unfolding send_step or_refuse moves_at writing high_first low_first sent
zeros_for_the_check r old new meets zeros =
    let differ : ◌≡◌ {A = ℕ} 0 1 = ap (λ (l : List ℕ). get_or l 1 0) (sym zeros ∙ ap (take 2) meets.leaves) in omega arith

-- where an upload stands, as a number
place : MaskRomSteps → ℕ
place Writing = 0
place Check = 1
place Dummy = 2
place Done = 3

placed : Told Moved → ℕ
placed (given m) = place m.steps
placed (refused n vs) = 4

-- `send`, `send_lent`: no zero is left to send after 4,094 bytes
pub no_last_zero : (r : Result Moved OutputTooShort) (m : Moved) (old new : List ℕ) → sent_told r ≡ given m → m.steps ≡ Done
    → Meets (sent_told r) tt old new tt (send_step Writing 0 (replicate 4094 0) 4096) → ⊥
unfolding said moves_at placed place
no_last_zero r m old new told done meets =
    let w : List ℕ = replicate 4094 0 in
    let dummy : said (send_step Writing 0 w 4096) ≡ given (moved (writing 0 w)) = ap said (send_acts Writing 0 w 4096 (lit≤ tt)) in
    let differ : ◌≡◌ {A = ℕ} 3 2 =
    ap place (sym done) ∙ ap placed (sym told ∙ meets.tells ∙ dummy)
    ∙ ap (λ (to : Moves). place to.steps) (writing_dummy 0 w (length-replicate {A = ℕ} 4094 0)) in
    omega arith

-- `send_lent`: bytes for more than one transfer taken for the last ones, where the output has room for all of them and the check
pub too_many_as_last : (r : Result Moved OutputTooShort) (m : Moved) (old new : List ℕ) → 4099 ≤ length old → sent_told r ≡ given m → m.steps ≡ Done
    → Meets (sent_told r) tt old new tt (send_step Writing 0 (take 4096 (replicate 4097 0)) (length old)) → ⊥
unfolding said moves_at placed place
too_many_as_last r m old new room told done meets =
    let w : List ℕ = take 4096 (replicate 4097 0) in
    let full : length w ≡ 4096 = length-take-le {A = ℕ} 4096 (replicate 4097 0) (omega (arith, length-replicate {A = ℕ} 4097 0)) in
    let differ : ◌≡◌ {A = ℕ} 3 0 =
    ap place (sym done) ∙ ap placed (sym told ∙ meets.tells ∙ ap said (send_acts Writing 0 w (length old) (omega arith)))
    ∙ ap (λ (to : Moves). place to.steps) (writing_block 0 w full) in
    omega arith

-- 1 and then zeros, as many bytes as a full transfer has
abbrev pub one_then_zeros : List ℕ
one_then_zeros = 1 ∷ replicate 4095 0

full_of_them : writing 0 one_then_zeros ≡ moves one_then_zeros 0 Writing
full_of_them = writing_block 0 one_then_zeros (omega (arith, length-replicate {A = ℕ} 4095 0))

-- `send`, `send_lent`: the first byte left out
pub first_byte_left_out : (r : Result Moved OutputTooShort) (old new : List ℕ) → get_or new 0 0 ≡ 0
    → Meets (sent_told r) tt old new tt (send_step Writing 0 one_then_zeros 4096) → ⊥
unfolding sent moves_at
first_byte_left_out r old new zero meets =
    let leaves : new ≡ front (writing 0 one_then_zeros).bytes old =
    meets.leaves ∙ ap (λ (t : Told (Does Moved Unit)). front (sent t) old) (send_acts Writing 0 one_then_zeros 4096 (lit≤ tt)) in
    let differ : ◌≡◌ {A = ℕ} 0 1 =
    sym zero ∙ ap (λ (l : List ℕ). get_or l 0 0) (leaves ∙ ap (λ (to : Moves). front to.bytes old) full_of_them) in
    omega arith

-- how many bytes were put into the output
size_of : Told Moved → ℕ
size_of (given m) = m.size
size_of (refused n vs) = 0

-- `send`, `send_lent`: the image left out, so that two bytes of check are all that goes
pub image_left_out : (r : Result Moved OutputTooShort) (m : Moved) (old new : List ℕ) → sent_told r ≡ given m → m.size ≡ 2
    → Meets (sent_told r) tt old new tt (send_step Writing 0 one_then_zeros 4096) → ⊥
unfolding said moves_at size_of
image_left_out r m old new told two meets =
    let differ : ◌≡◌ {A = ℕ} 2 4096 =
    sym two ∙ ap size_of (sym told ∙ meets.tells ∙ ap said (send_acts Writing 0 one_then_zeros 4096 (lit≤ tt)))
    ∙ ap (λ (to : Moves). length to.bytes) full_of_them ∙ ap suc (length-replicate {A = ℕ} 4095 0) in
    omega arith

-- `send`: all of the block sent, where n is 0
pub n_not_looked_at : (r : Result Moved OutputTooShort) (m : Moved) (block old new : List ℕ) → sent_told r ≡ given m → m.size ≡ 4096
    → Meets (sent_told r) tt old new tt (send_step Writing 0 (take 0 block) 4096) → ⊥
unfolding send_step or_refuse moves_at writing high_first low_first said size_of
n_not_looked_at r m block old new told all meets =
    let differ : ◌≡◌ {A = ℕ} 4096 2 = sym all ∙ ap size_of (sym told ∙ meets.tells) in omega arith

-- `number` of what `send` and `send_lent` give: one number for every answer
pub fixed_number : (n : ℕ) (m : Moved) → n ≡ number (sent_told (Ok m)) → n ≡ number (sent_told (Err (record {}))) → ⊥
unfolding number sent_told
fixed_number n m gives short = let differ : ◌≡◌ {A = ℕ} 0 20 = sym gives ∙ short in omega arith

-- `number` of what `send` and `send_lent` give: an output that is too short, told as data that differs
pub short_as_differing : number (sent_told (Err (record {}))) ≡ 27 → ⊥
unfolding number sent_told
short_as_differing e = let differ : ◌≡◌ {A = ℕ} 20 27 = e in omega arith
