-- What a range answer tells, the ranges of example P14 of the rules, and a flash that was taken.
use Prim.Native.Nat.{ℕ, ◌+◌, ◌*◌, ◌/◌, ◌%◌, ◌≤◌}
use mathlib.Core.Path.{◌≡◌, refl}
use mathlib.Core.Bool.{Bool, true, false, not}
use mathlib.Core.List.{List, [], ◌∷◌}
use native.Mathlib.Omega.{arith}
use lib.Dec.{ltb, eqb}
use borrow.Author.Tests.{leb-true, le-leb, eqb-true, not-false, ltb-false}
use Rattle.promise.specs.Told.{given, refused}
use Rattle.promise.specs.Rules.{or_refuse, pick}
use Rattle.protocol_bytes.specs.Sector.{sector_size}
use Rattle.mock_base.specs.Flash.{most_flash_sectors, flash_rules, flash_sectors, fits_in, range_in, range_told}
use Rattle.mock_base.specs.declared.range.FlashRange.{FlashRange}
use Rattle.std.specs.declared.result.Result.TheVariants.{Ok, Err}

-- P14: of 128 sectors, 128+0 fits, 128+1 doesn't
pub p14 : (fits_in 128 128 0 ≡ true) × (fits_in 128 128 1 ≡ false)
unfolding fits_in
p14 = (refl, refl)

-- a range fits exactly if address plus count is at most the flash's sectors, and then exactly if its bytes lie in the flash
pub fits_sectors : (sectors first count : ℕ) → fits_in sectors first count ≡ true → first + count ≤ sectors
unfolding fits_in
fits_sectors sectors first count h = leb-true (first + count) sectors h

pub sectors_fit : (sectors first count : ℕ) → first + count ≤ sectors → fits_in sectors first count ≡ true
unfolding fits_in
sectors_fit sectors first count h = le-leb (first + count) sectors h

pub bytes_fit : (sectors first count : ℕ) → first * sector_size + count * sector_size ≤ sectors * sector_size → fits_in sectors first count ≡ true
bytes_fit sectors first count h = sectors_fit sectors first count (omega arith)

pub fits_bytes : (sectors first count : ℕ) → fits_in sectors first count ≡ true → first * sector_size + count * sector_size ≤ sectors * sector_size
fits_bytes sectors first count h = omega (arith, fits_sectors sectors first count h)

-- what the two answers of a range tell
by_fit : (t : Bool) (asked range : FlashRange) → pick (not t) (refused 57 []) (given asked) ≡ given range → (t ≡ true) × (range ≡ asked)
by_fit true asked range e = (refl, cc)
by_fit false asked range e = let z : ◌≡◌ {A = ℕ} 0 1 = cc in absurd (omega arith)

by_miss : (t : Bool) (asked : FlashRange) → pick (not t) (refused 57 []) (given asked) ≡ refused 57 [] → t ≡ false
by_miss true asked e = let z : ◌≡◌ {A = ℕ} 0 1 = cc in absurd (omega arith)
by_miss false asked e = refl

module _ (sectors first count : ℕ) where
  pub within : (range : FlashRange) → range_in sectors first count ≡ range_told (Ok range)
      → (fits_in sectors first count ≡ true) × (range ≡ record { first = first; count = count })
  unfolding range_in range_told or_refuse
  within range e = by_fit (fits_in sectors first count) (record { first = first; count = count }) range e

  pub outside : range_in sectors first count ≡ range_told (Err (record {})) → fits_in sectors first count ≡ false
  unfolding range_in range_told or_refuse
  outside e = by_miss (fits_in sectors first count) (record { first = first; count = count }) e

-- what is given behind two rules was refused by neither
unrefused : (s t : Bool) (m n : ℕ) (u v : List ℕ) (x y : ℕ) → pick s (refused m u) (pick t (refused n v) (given x)) ≡ given y
    → (s ≡ false) × (t ≡ false) × (x ≡ y)
unrefused true t m n u v x y e = let z : ◌≡◌ {A = ℕ} 0 1 = cc in absurd (omega arith)
unrefused false true m n u v x y e = let z : ◌≡◌ {A = ℕ} 0 1 = cc in absurd (omega arith)
unrefused false false m n u v x y e = (refl, refl, cc)

-- a flash that was taken is that many whole sectors
pub whole_sectors : (n sectors : ℕ) → flash_sectors n ≡ given sectors → (n ≡ sectors * sector_size) × (sectors ≤ most_flash_sectors)
unfolding flash_sectors flash_rules or_refuse
whole_sectors n sectors e =
    let u = unrefused (not (eqb (n % sector_size) 0)) (ltb most_flash_sectors (n / sector_size)) 60 61 (n ∷ []) [] (n / sector_size) sectors e in
    let z = eqb-true (n % sector_size) 0 (not-false (eqb (n % sector_size) 0) u.0) in
    let l = ltb-false most_flash_sectors (n / sector_size) u.1 in
    (omega arith, omega arith)
