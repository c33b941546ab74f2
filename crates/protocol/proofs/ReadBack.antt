-- What `to_bytes` wrote `from_bytes` reads; and what reading a command looks at.
use Prim.Native.Nat.{ℕ, zero, suc, ◌+◌, ◌<◌, ◌≤◌}
use mathlib.Core.Path.{◌≡◌, refl, ap, ap₂, sym, ◌∙◌}
use mathlib.Core.List.{List, ◌∷◌, ◌++◌}
use native.Mathlib.Omega.{arith}
use borrow.Author.Tests.{le-ltb}
use lib.Dec.{lit<}
use lib.ListN.{length, get_or, take, drop, length-drop}
use Rattle.promise.specs.Told.{given}
use Rattle.promise.specs.Rules.{or_refuse}
use Rattle.promise.specs.Bytes.{low_first, high_first, field}
use Rattle.protocol_bytes.specs.Signature.{signature_in, no_signature}
use Rattle.protocol_bytes.specs.Writing.{writing, WriteMeets}
use Rattle.protocol_bytes.proofs.Short.{elements, field_elements}
use Rattle.protocol.specs.declared.CommandBlock.{CommandBlock}
use Rattle.protocol_bytes.specs.declared.signature.Parse.{Parse}
use Rattle.protocol.specs.declared.CommandBlockParseError.{CommandBlockParseError}
use Rattle.protocol.specs.CommandBytes.{command_bytes, block_of, read_command, write_command, BlockFits, Alike}
use Rattle.protocol.specs.CommandMeets.{CommandMeets, command_told}
use Rattle.protocol.proofs.Trips.{reads_back}
use Rattle.protocol.proofs.Unique.{command_unique}
use Rattle.std.specs.Prelude.{Result}
use Rattle.rule_number.specs.declared.OutputTooShort.{OutputTooShort}
use Rattle.std.specs.declared.result.Result.TheVariants.{Ok}

block_meets : (b : CommandBlock) → CommandMeets (record { answer = Ok b; signature = no_signature }) (given b)
unfolding command_told signature_in
block_meets b = record { tells = refl; signature = refl }

-- the buffer after a write into one that is long enough
long_enough : (b : CommandBlock) (before after : List ℕ) (w : Result ℕ OutputTooShort) → 31 ≤ length before
    → WriteMeets w before after (write_command b (length before)) → after ≡ command_bytes b ++ drop 24 before
unfolding write_command writing command_bytes high_first low_first
long_enough b before after w room wrote = wrote.leaves ∙ rw (le-ltb (length before) 31 room) refl

-- `to_bytes` of a block into a buffer of at least 31 bytes, whatever it held, and then `from_bytes` of that buffer: the block, and no
-- signature. That the block fits is a part of the contract of `to_bytes`.
pub block_reads_back : (b : CommandBlock) (before after : List ℕ) (w : Result ℕ OutputTooShort) (r : Parse CommandBlock CommandBlockParseError) → 31 ≤ length before
    → WriteMeets w before after (write_command b (length before)) → BlockFits b → CommandMeets r (read_command after)
    → r ≡ record { answer = Ok b; signature = no_signature }
block_reads_back b before after w r room wrote fits read =
    let behind : 7 ≤ length (drop 24 before) = simp length-drop (omega arith) in
    let told : read_command after ≡ given b =
    ap read_command (long_enough b before after w room wrote) ∙ reads_back b (drop 24 before) fits behind in
    command_unique (given b) r (record { answer = Ok b; signature = no_signature }) (rw told at read) (block_meets b)

-- a field of bytes that are the same in both
same_elements : (n at : ℕ) (bytes others : List ℕ) → ((i : ℕ) → at ≤ i → i < at + n → get_or bytes i 0 ≡ get_or others i 0)
    → elements n at bytes ≡ elements n at others
same_elements zero at bytes others h = refl
same_elements (suc n) at bytes others h =
    ap₂ (λ (b : ℕ) (l : List ℕ). b ∷ l) (h at (omega arith) (omega arith))
    (same_elements n (suc at) bytes others (λ i low high. h i (omega arith) (omega arith)))

module _ (bytes others : List ℕ) (long : 31 ≤ length bytes) (also : 31 ≤ length others) (alike : Alike bytes others) where
  same_field : (n at : ℕ) → at + n ≤ 31 → ((i : ℕ) → at ≤ i → i < at + n → get_or bytes i 0 ≡ get_or others i 0) → field at n bytes ≡ field at n others
  same_field n at inside h =
      field_elements n at bytes (omega arith) ∙ same_elements n at bytes others h ∙ sym (field_elements n at others (omega arith))

  same_told : read_command bytes ≡ read_command others
  unfolding read_command or_refuse block_of
  same_told =
      let signature : take 4 bytes ≡ take 4 others = same_field 4 0 (omega arith) (λ i low high. alike.front i (omega arith)) in
      let tag : field 4 4 bytes ≡ field 4 4 others = same_field 4 4 (omega arith) (λ i low high. alike.front i (omega arith)) in
      let transfer : field 8 4 bytes ≡ field 8 4 others = same_field 4 8 (omega arith) (λ i low high. alike.front i (omega arith)) in
      let address : field 17 4 bytes ≡ field 17 4 others = same_field 4 17 (omega arith) (λ i low high. alike.front i (omega arith)) in
      let count : field 22 2 bytes ≡ field 22 2 others = same_field 2 22 (omega arith) (λ i low high. alike.count i low (omega arith)) in
      rw (
        le-ltb (length bytes) 31 long,
        le-ltb (length others) 31 also,
        signature,
        tag,
        transfer,
        address,
        count,
        alike.front 12 (lit< tt),
        alike.front 13 (lit< tt),
        alike.front 14 (lit< tt),
        alike.front 15 (lit< tt),
        alike.front 16 (lit< tt),
      )
      refl

  -- reading looks at no byte of 21 and of 24 and on: such inputs, of any two lengths, get the same answer, with the same signature beside it
  pub no_other_byte_read : (r s : Parse CommandBlock CommandBlockParseError) → CommandMeets r (read_command bytes) → CommandMeets s (read_command others) → r ≡ s
  no_other_byte_read r s read also-read = command_unique (read_command others) r s (rw same_told at read) also-read
