-- What a block asks for is within the bounds of 43, and within those of its fields.
use Prim.Native.Nat.{ℕ, ◌^◌, ◌≤◌, ◌<◌}
use mathlib.Core.Path.{ap, subst}
use mathlib.Core.List.{List}
use native.Mathlib.Omega.{arith}
use borrow.Author.Tests.{ltb-false}
use lib.ListN.{length}
use Rattle.promise.specs.Told.{Told, given, refused}
use Rattle.promise.specs.Bytes.{AreBytes, from_high, from_low}
use Rattle.protocol_bytes.proofs.Short.{field_elements}
use Rattle.protocol_codes.specs.declared.ResetOpcode.{ResetOpcode}
use Rattle.protocol_codes.specs.Reading.{reset_of}
use Rattle.deck_block.specs.declared.Request.{Request}
use Rattle.deck_block.specs.Block.{fields_of, too_large}
use Rattle.deck_block.specs.Reading.{asks_reset, reset_request, Fits, Named, Passed}
use Rattle.deck_block.proofs.ByKind.{by_kind}

abbrev FitsTold : Told Request → Type 0
FitsTold (given r) = Fits r
FitsTold (refused n values) = Unit

reset_fits : (told : Told ResetOpcode) → FitsTold (asks_reset told)
unfolding asks_reset Fits
reset_fits (given opcode) = tt
reset_fits (refused n values) = tt

pub asked_fits : (block : List ℕ) (r : Request) → Passed block r → Fits r
unfolding Fits too_large reset_request
asked_fits block r p =
    let f = fields_of block in
    subst FitsTold p.asks
    (by_kind FitsTold f p.kind tt tt tt tt tt tt
    (λ e. ltb-false 16 f.half (rw e at p.small))
    (λ e. ltb-false 16 f.half (rw e at p.small))
    (reset_fits (reset_of f.byte)) tt tt
    (λ e. ltb-false 8192 f.word (rw e at p.small)))

abbrev NamedTold : Told Request → Type 0
NamedTold (given r) = Named r
NamedTold (refused n values) = Unit

reset_named : (told : Told ResetOpcode) → NamedTold (asks_reset told)
unfolding asks_reset
reset_named (given opcode) = tt
reset_named (refused n values) = tt

-- bytes make numbers of their width
pub word_bound : (block : List ℕ) → AreBytes block → 512 ≤ length block → (fields_of block).word < 256 ^ 4
unfolding fields_of from_high from_low
word_bound block bytes long =
    let e = ap from_high (field_elements 4 1 block (omega arith)) in
    let a = bytes 1 in
    let b = bytes 2 in
    let c = bytes 3 in
    let d = bytes 4 in
    omega (arith, e)

pub half_bound : (block : List ℕ) → AreBytes block → 512 ≤ length block → (fields_of block).half < 256 ^ 2
unfolding fields_of from_high from_low
half_bound block bytes long =
    let e = ap from_high (field_elements 2 5 block (omega arith)) in
    let a = bytes 5 in
    let b = bytes 6 in
    omega (arith, e)

pub asked_named : (block : List ℕ) (r : Request) → AreBytes block → Passed block r → Named r
unfolding reset_request
asked_named block r bytes p =
    let f = fields_of block in
    let both : (f.word < 256 ^ 4) × (f.half < 256 ^ 2) = (word_bound block bytes p.long, half_bound block bytes p.long) in
    subst NamedTold p.asks
    (by_kind NamedTold f p.kind tt tt tt tt both both (λ e. both) (λ e. both) (reset_named (reset_of f.byte)) tt tt (λ e. tt))
