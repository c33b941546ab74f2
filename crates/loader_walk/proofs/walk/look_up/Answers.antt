-- The three refusals in their order, and then the entry.
use Prim.Native.Nat.{ℕ, ◌+◌, ◌≤◌, ◌<◌}
use mathlib.Core.Path.{◌≡◌, ap, ◌∙◌}
use mathlib.Core.List.{List}
use native.Mathlib.Omega.{arith}
use lib.ListN.{length}
use Rattle.loader_records.specs.declared.list.RkBootHeaderEntry.{RkBootHeaderEntry}
use Rattle.loader_records.specs.declared.entry.RkBootEntry.{RkBootEntry}
use Rattle.loader_records.specs.Records.{read_entry, no_entry}
use Rattle.loader_records.specs.Refusals.{value_in}
use Rattle.loader_walk.specs.Entries.{start_of, entry_at}
use Rattle.loader_walk.proofs.Cases.{looked_72, looked_73, looked_74, looked_found, entry_read, rest_whole}
use Rattle.loader_walk.proofs.walk.look_up.Goals as goal
use Rattle.loader_walk.proofs.walk.look_up.Goals.{After-from_bytes}

-- behind both tests of the entry's own place: it is wide enough and in the file, and what was read is what stands there
pub record There (file : List ℕ) (l : RkBootHeaderEntry) (i : ℕ) (e : RkBootEntry) : Type 0 where
  pub wide : 57 ≤ l.size
  pub inside : start_of l i + 57 ≤ length file
  pub says : e ≡ entry_at file l i

there : (c : After-from_bytes) → There c.args.file.now c.args.list c.args.at.entry c.from_bytes.result.entry
there c =
    let a = c.args in
    let file = a.file.now in
    let start = c.start_of-start in
    let place = start_of a.list a.at.entry in
    let inside : place + 57 ≤ length file = omega (arith, start.ensures.value, c.if-file-start.false) in
    record {
      wide = c.if-list-lt-RK_BOOT_ENTRY_BYTES.false;
      inside = inside;
      says =
          c.from_bytes.ensures.value
          ∙ ap (λ (l : List ℕ). value_in no_entry (read_entry l)) (rest_whole file start.result place start.ensures.value)
          ∙ entry_read file place inside;
    }

pub returns-then-list-lt-RK_BOOT_ENTRY_BYTES : goal.returns-then-list-lt-RK_BOOT_ENTRY_BYTES
returns-then-list-lt-RK_BOOT_ENTRY_BYTES c =
    let a = c.args in
    looked_72 a.file.now a.at.list a.at.entry a.list c.if-list-lt-RK_BOOT_ENTRY_BYTES.true

pub overflow_add-start : goal.overflow_add-start
overflow_add-start c = let b = c.start_of-start.ensures.upper_bound in omega arith

pub returns-then-file-start : goal.returns-then-file-start
returns-then-file-start c =
    let a = c.args in
    let start = c.start_of-start in
    let past : length a.file.now < start_of a.list a.at.entry + 57 = omega (arith, start.ensures.value) in
    looked_73 a.file.now a.at.list a.at.entry a.list c.if-list-lt-RK_BOOT_ENTRY_BYTES.false past

pub returns-then-file-entry : goal.returns-then-file-entry
returns-then-file-entry c =
    let a = c.args in
    let t = there (goal.at.returns-then-file-entry c).After-from_bytes in
    looked_74 a.file.now a.at.list a.at.entry a.list t.wide t.inside c.from_bytes.result.entry t.says c.if-file-entry.true

pub returns : goal.returns
returns c =
    let a = c.args in
    let t = there (goal.at.returns c).After-from_bytes in
    looked_found a.file.now a.at.list a.at.entry a.list t.wide t.inside c.from_bytes.result.entry t.says c.if-file-entry.false
