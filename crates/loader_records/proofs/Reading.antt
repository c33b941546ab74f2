-- A reader's promise by cases: a slice that is too short, a tag that is none, and a record that is read.
use Prim.Native.Nat.{ℕ, ◌≤◌, ◌<◌}
use mathlib.Core.Path.{◌≡◌, refl, ap}
use mathlib.Core.Bool.{true, false}
use mathlib.Core.List.{List, [], ◌∷◌}
use borrow.Author.Tests.{lt-ltb, le-ltb}
use lib.ListN.{length, take}
use Rattle.promise.specs.Told.{Told, given}
use Rattle.promise.specs.Rules.{Rule, or_refuse, unless}
use Rattle.protocol_bytes.specs.Signature.{signature_in}
use Rattle.loader_records.specs.declared.answer.RkBootError.TheVariants.{TooShort, UnknownTag}
use Rattle.loader_records.specs.Records.{short_rule, tag_rule, is_tag}
use Rattle.loader_records.specs.Refusals.{boot_told, boot_error_values, value_in, no_tag, ReadMeets}
use Rattle.std.specs.declared.result.Result.TheVariants.{Ok, Err}

module _ {A : Type 0} (wanted : ℕ) (none : A) (bytes : List ℕ) (v : A) where
  pub reads_short : (rules : List Rule) (later : Told A) → length bytes < wanted → v ≡ none
      → ReadMeets (Err (TooShort (length bytes))) v no_tag none (unless (short_rule wanted bytes ∷ rules) later)
  unfolding or_refuse boot_told boot_error_values value_in signature_in
  reads_short rules later short e = rw (lt-ltb (length bytes) wanted short) (record { tells = refl; value = e; tag = refl })

  pub reads_whole : (value : A) → wanted ≤ length bytes → v ≡ value → ReadMeets (Ok tt) v no_tag none (unless (short_rule wanted bytes ∷ []) (given value))
  unfolding or_refuse boot_told value_in signature_in
  reads_whole value enough e = rw (le-ltb (length bytes) wanted enough) (record { tells = ap given e; value = e; tag = refl })

  pub reads_untagged : (t : List ℕ) (later : Told A) → wanted ≤ length bytes → is_tag (take 4 bytes) ≡ false → v ≡ none → t ≡ take 4 bytes
      → ReadMeets (Err UnknownTag) v t none (unless (short_rule wanted bytes ∷ tag_rule bytes ∷ []) later)
  unfolding or_refuse boot_told boot_error_values value_in signature_in
  reads_untagged t later enough other e f =
      rw (le-ltb (length bytes) wanted enough, other, f) (record { tells = refl; value = e; tag = refl })

  pub reads_tagged : (value : A) → wanted ≤ length bytes → is_tag (take 4 bytes) ≡ true → v ≡ value
      → ReadMeets (Ok tt) v no_tag none (unless (short_rule wanted bytes ∷ tag_rule bytes ∷ []) (given value))
  unfolding or_refuse boot_told value_in signature_in
  reads_tagged value enough own e =
      rw (le-ltb (length bytes) wanted enough, own) (record { tells = ap given e; value = e; tag = refl })
