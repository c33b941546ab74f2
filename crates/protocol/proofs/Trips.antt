-- A command reads back as what was written, with anything behind it, and what is read is written back as it stood, byte 21 being zero.
use Prim.Native.Nat.{ℕ, ◌+◌, ◌≤◌}
use mathlib.Core.Path.{◌≡◌, refl, ap, ap₂, sym, ◌∙◌}
use mathlib.Core.Bool.{not}
use mathlib.Core.List.{List, [], ◌∷◌, ◌++◌}
use native.Mathlib.Omega.{arith}
use borrow.Author.Tests.{ltb-false, not-false}
use lib.Dec.{ltb}
use lib.ListN.{length, get_or, take, set, length-append}
use Rattle.promise.specs.Told.{Told, given, and_then}
use Rattle.promise.specs.Rules.{or_refuse, rule}
use Rattle.promise.specs.Bytes.{low_first, high_first, from_low, from_high, field, AreBytes}
use Rattle.promise.proofs.Order.{from_low_first, from_high_first}
use Rattle.protocol_codes.specs.Numbers.{direction_number, directions, code_number, command_codes}
use Rattle.protocol_codes.specs.Reading.{direction_of, code_of}
use Rattle.protocol_codes.specs.declared.Direction.{Direction}
use Rattle.protocol_codes.specs.declared.CommandCode.{CommandCode}
use Rattle.protocol_codes.proofs.Reading.{known_given}
use Rattle.protocol_codes.proofs.Back.{direction_back, code_back}
use Rattle.protocol_bytes.specs.Signature.{usbc, same}
use Rattle.protocol_bytes.proofs.Same.{same_equal}
use Rattle.protocol_bytes.proofs.Short.{elements, field_elements}
use Rattle.protocol_bytes.proofs.Rewritten.{low_rewritten, high_rewritten}
use Rattle.protocol_bytes.proofs.Given.{rule_met, first_given}
use Rattle.protocol.specs.declared.CommandBlock.{CommandBlock}
use Rattle.protocol.specs.CommandBytes.{command_bytes, block_of, read_command, BlockFits}
use Rattle.protocol.proofs.Reading.{read_fields, read_signed}

-- the same block but for its fields of several bytes
abbrev with : CommandBlock → ℕ → ℕ → ℕ → ℕ → CommandBlock
with b tag transfer address count =
    record {
      tag = tag;
      transfer_length = transfer;
      flags = b.flags;
      lun = b.lun;
      cdb_length = b.cdb_length;
      cd_code = b.cd_code;
      cd_opcode = b.cd_opcode;
      cd_address = address;
      cd_length = count;
    }

with_own : (b : CommandBlock) (t l a n : ℕ) → t ≡ b.tag → l ≡ b.transfer_length → a ≡ b.cd_address → n ≡ b.cd_length → with b t l a n ≡ b
with_own b t l a n tag transfer address count = rw (tag, transfer, address, count) refl

pub reads_back : (b : CommandBlock) (behind : List ℕ) → BlockFits b → 7 ≤ length behind → read_command (command_bytes b ++ behind) ≡ given b
unfolding command_bytes high_first low_first same and_then block_of read_fields
reads_back b behind fits room =
    let bytes = command_bytes b ++ behind in
    let enough : 31 ≤ length (command_bytes b ++ behind) = simp length-append (omega arith) in
    let tag : from_high (field 4 4 bytes) ≡ b.tag = from_high_first 4 b.tag fits.tag in
    let transfer : from_low (field 8 4 bytes) ≡ b.transfer_length = from_low_first 4 b.transfer_length fits.transfer in
    let address : from_high (field 17 4 bytes) ≡ b.cd_address = from_high_first 4 b.cd_address fits.address in
    let count : from_high (field 22 2 bytes) ≡ b.cd_length = from_high_first 2 b.cd_length fits.count in
    read_signed bytes enough refl ∙ rw (direction_back b.flags, code_back b.cd_code) (ap given
    (with_own b (from_high (field 4 4 bytes)) (from_low (field 8 4 bytes)) (from_high (field 17 4 bytes)) (from_high (field 22 2 bytes)) tag transfer address count))

-- what was accepted: long enough, signed, its direction and code known
pub record Accepted (bytes : List ℕ) (b : CommandBlock) : Type 0 where
  pub long : 31 ≤ length bytes
  pub signed : take 4 bytes ≡ usbc
  pub flags : direction_number b.flags ≡ get_or bytes 12 0
  pub code : code_number b.cd_code ≡ get_or bytes 15 0
  pub fields : block_of bytes b.flags b.cd_code ≡ b

pub accepted : (bytes : List ℕ) (b : CommandBlock) → read_command bytes ≡ given b → Accepted bytes b
unfolding read_command or_refuse direction_of code_of block_of
accepted bytes b h =
    let unsigned = rule (not (same (take 4 bytes) usbc)) 2 (take 4 bytes) in
    let coded : Direction → Told CommandBlock = λ direction. and_then (code_of (get_or bytes 15 0)) (λ (code : CommandCode). given (block_of bytes direction code)) in
    let read = and_then (direction_of (get_or bytes 12 0)) coded in
    let length-met = rule_met (rule (ltb (length bytes) 31) 1 (length bytes ∷ [])) (unsigned ∷ []) read b h in
    let signature-met = rule_met unsigned [] read b length-met.1 in
    let direction = first_given (direction_of (get_or bytes 12 0)) coded b signature-met.1 in
    let code = first_given (code_of (get_or bytes 15 0)) (λ (code : CommandCode). given (block_of bytes direction.0 code)) b direction.2 in
    let fields : block_of bytes direction.0 code.0 ≡ b = cc code.2 in
    let same_flags : direction.0 ≡ b.flags = ap (λ (x : CommandBlock). x.flags) fields in
    let same_code : code.0 ≡ b.cd_code = ap (λ (x : CommandBlock). x.cd_code) fields in
    record {
      long = ltb-false (length bytes) 31 length-met.0;
      signed = same_equal (take 4 bytes) usbc (not-false (same (take 4 bytes) usbc) signature-met.0);
      flags = rw (← same_flags) (known_given 3 direction_number directions (get_or bytes 12 0) direction.0 direction.1);
      code = rw (← same_code) (known_given 4 code_number command_codes (get_or bytes 15 0) code.0 code.1);
      fields = ap₂ (block_of bytes) (sym same_flags) (sym same_code) ∙ fields;
    }

pub writes_back : (bytes : List ℕ) (b : CommandBlock) → AreBytes bytes → read_command bytes ≡ given b → command_bytes b ≡ set (take 24 bytes) 21 0
unfolding command_bytes block_of
writes_back bytes b are h =
    let read = accepted bytes b h in
    let long : 31 ≤ length bytes = read.long in
    let to-four : 0 + 4 ≤ length bytes = omega arith in
    let to-eight : 4 + 4 ≤ length bytes = omega arith in
    let to-twelve : 8 + 4 ≤ length bytes = omega arith in
    let to-twenty-one : 17 + 4 ≤ length bytes = omega arith in
    let to_end : 22 + 2 ≤ length bytes = omega arith in
    let whole : 0 + 24 ≤ length bytes = omega arith in
    let tag : high_first 4 b.tag ≡ elements 4 4 bytes =
    ap (λ (x : CommandBlock). high_first 4 x.tag) (sym read.fields) ∙ high_rewritten 4 4 bytes are to-eight ∙ field_elements 4 4 bytes to-eight in
    let transfer : low_first 4 b.transfer_length ≡ elements 4 8 bytes =
    ap (λ (x : CommandBlock). low_first 4 x.transfer_length) (sym read.fields) ∙ low_rewritten 4 8 bytes are to-twelve ∙ field_elements 4 8 bytes to-twelve in
    let address : high_first 4 b.cd_address ≡ elements 4 17 bytes =
    ap (λ (x : CommandBlock). high_first 4 x.cd_address) (sym read.fields) ∙ high_rewritten 4 17 bytes are to-twenty-one
    ∙ field_elements 4 17 bytes to-twenty-one in
    let count : high_first 2 b.cd_length ≡ elements 2 22 bytes =
    ap (λ (x : CommandBlock). high_first 2 x.cd_length) (sym read.fields) ∙ high_rewritten 2 22 bytes are to_end ∙ field_elements 2 22 bytes to_end in
    let lun : b.lun ≡ get_or bytes 13 0 = ap (λ (x : CommandBlock). x.lun) (sym read.fields) in
    let cdb : b.cdb_length ≡ get_or bytes 14 0 = ap (λ (x : CommandBlock). x.cdb_length) (sym read.fields) in
    let opcode : b.cd_opcode ≡ get_or bytes 16 0 = ap (λ (x : CommandBlock). x.cd_opcode) (sym read.fields) in
    rw (tag, transfer, address, count, lun, cdb, opcode, read.flags, read.code)
    (ap (λ (l : List ℕ). l ++ (elements 17 4 bytes ++ (0 ∷ elements 2 22 bytes))) (sym read.signed ∙ field_elements 4 0 bytes to-four))
    ∙ ap (λ (l : List ℕ). set l 21 0) (sym (field_elements 24 0 bytes whole))
