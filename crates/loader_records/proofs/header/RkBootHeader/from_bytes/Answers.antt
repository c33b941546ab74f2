-- A slice that is too short, one with another tag, and the header in its first bytes.
use mathlib.Core.Path.{◌≡◌, refl, ap, sym, subst, ◌∙◌}
use mathlib.Core.Bool.{true, false}
use mathlib.Core.List.{List, [], ◌∷◌}
use Prim.Native.Nat.{ℕ}
use lib.ListN.{take}
use Rattle.promise.specs.Told.{given}
use Rattle.loader_records.specs.Records.{header_of, no_header, is_tag, tag_rule, read_header}
use Rattle.loader_records.specs.declared.header.RkBootHeaderRead.{RkBootHeaderRead}
use Rattle.loader_records.specs.Refusals.{ReadMeets}
use Rattle.loader_records.proofs.First.{first_four}
use Rattle.loader_records.proofs.Reading.{reads_short, reads_untagged, reads_tagged}
use Rattle.loader_records.proofs.header.RkBootHeader.from_bytes.Goals as goal

abbrev Right : List ℕ → RkBootHeaderRead → Type 0
Right bytes r = ReadMeets r.answer r.header r.unknown_tag no_header (read_header bytes)

pub returns-in_default : goal.returns-in_default
returns-in_default c =
    let bytes = c.args.bytes.now in
    subst (Right bytes) (sym c.unread.ensures)
    (reads_short 102 no_header bytes no_header (tag_rule bytes ∷ []) (given (header_of (take 102 bytes))) c.in_default.ensures.cases refl)

pub returns-then-not-has_tag : goal.returns-then-not-has_tag
returns-then-not-has_tag c =
    let bytes = c.args.bytes.now in
    let first = c.in-Some.ensures.cases in
    let other : is_tag (take 4 bytes) ≡ false = sym c.has_tag.ensures ∙ c.if-not-has_tag.true in
    subst (Right bytes) (sym c.unread-then-not-has_tag.ensures)
    (reads_untagged 102 no_header bytes no_header _ (given (header_of (take 102 bytes))) first.enough other refl
    (first_four bytes c.in-Some.b.now first.enough first.same))

pub returns : goal.returns
returns c =
    let bytes = c.args.bytes.now in
    let first = c.in-Some.ensures.cases in
    let own : is_tag (take 4 bytes) ≡ true = sym c.has_tag.ensures ∙ c.if-not-has_tag.false in
    reads_tagged 102 no_header bytes c.header_of.result (header_of (take 102 bytes)) first.enough own
    (c.header_of.ensures ∙ ap header_of first.same)
