-- A bench that is lent as many bytes as the Rust's default flash has starts with that flash.
use Prim.Native.Nat.{ℕ}
use mathlib.Core.Path.{◌≡◌, ap, ◌∙◌}
use mathlib.Core.List.{List}
use lib.ListN.{length, replicate}
use Rattle.promise.specs.Told.{Told, given, and_then}
use Rattle.promise.specs.Rules.{or_refuse}
use Rattle.mock_base.specs.Config.{default_byte, default_flash}
use Rattle.mock_base.specs.Flash.{flash_rules, flash_sectors}
use Rattle.mock_base.specs.Told.{Answers}
use Rattle.deck.specs.declared.bench.BenchStart.{BenchStart}
use Rattle.deck.specs.Bench.{start_told, start_flash, StartMeets}

taken : (n : ℕ) → n ≡ 65536 → start_told n ≡ given tt
unfolding and_then flash_sectors flash_rules or_refuse
taken n e = ap start_told e

pub default_start : (r : BenchStart) (after flash : List ℕ) (n : ℕ) → length flash ≡ 65536 → StartMeets r after flash n
    → (Answers r.answer (given tt)) × (after ≡ default_flash)
unfolding start_flash default_flash
default_start r after flash n e m = (
  rw (taken (length flash) e) at m.tells,
  m.leaves ∙ ap (λ (t : Told Unit). start_flash t flash) (taken (length flash) e) ∙ ap (λ (k : ℕ). replicate k default_byte) e,
)
