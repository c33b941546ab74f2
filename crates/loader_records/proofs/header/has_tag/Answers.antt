-- The first test, and then the second.
use mathlib.Core.Path.{sym, ◌∙◌}
use Rattle.loader_records.specs.Records.{is_tag}
use Rattle.loader_records.proofs.header.has_tag.Goals as goal

pub returns-then-starts_with : goal.returns-then-starts_with
unfolding is_tag
returns-then-starts_with c = rw (sym c.starts_with.ensures ∙ c.if-starts_with.true) c.if-starts_with.true

pub returns-else-starts_with : goal.returns-else-starts_with
unfolding is_tag
returns-else-starts_with c = rw (sym c.starts_with.ensures ∙ c.if-starts_with.false) c.starts_with-else-starts_with.ensures
