-- The three outcomes of an append, at the place that its number has.
use Prim.Native.Nat.{ℕ, ◌+◌, ◌≤◌, ◌<◌}
use mathlib.Core.Path.{◌≡◌}
use mathlib.Core.List.{List, []}
use lib.ListN.{length}
use borrow.Author.Tests.{le-leb, lt-leb, lt-ltb, le-ltb}
use Rattle.promise.specs.Rules.{or_refuse}
use Rattle.mock_areas.specs.Slots.{slot_count, slot_size, place}
use Rattle.mock_areas.specs.Append.{append_rules, refused_append, appended_at, append_step}
use Rattle.mock_areas.specs.declared.Areas.{Areas}
use Rattle.mock_areas.specs.declared.Place.{Place}

module _ (areas : Areas) (number : ℕ) (bytes store : List ℕ) (p : Place) (e : p ≡ place number areas.slots) where
  pub no_slot : slot_count ≤ p.slot → append_step areas number bytes store ≡ refused_append areas store 58 []
  unfolding append_step or_refuse append_rules
  no_slot h = rw (← e, le-leb slot_count p.slot h)

  pub slot_full : p.slot < slot_count → slot_size (length store) < p.used + length bytes
      → append_step areas number bytes store ≡ refused_append areas store 59 []
  unfolding append_step or_refuse append_rules
  slot_full h f = rw (← e, lt-leb slot_count p.slot h, lt-ltb (slot_size (length store)) (p.used + length bytes) f)

  pub appended : p.slot < slot_count → p.used + length bytes ≤ slot_size (length store)
      → append_step areas number bytes store ≡ appended_at areas p number bytes store
  unfolding append_step or_refuse append_rules
  appended h f = rw (← e, lt-leb slot_count p.slot h, le-ltb (slot_size (length store)) (p.used + length bytes) f)
