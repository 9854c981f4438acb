-- What a piece of code does to the cells.
use Rattle.std.specs.Prelude.{◌≡◌, ◌≢◌, ℕ, ◌+◌, ◌<◌, ◌≤◌, List, [], ◌∷◌, length, ℤ, pos, negsuc}
use Rattle.vp_isa.specs.Machine.{cell}
use Rattle.vp_interval.specs.Rounding.{Ends}
use Rattle.vp_layout.specs.declared.home.Home.{Home}
use Rattle.vp_layout.specs.Homes.{zero_cell, one_cell, two_cell, minus_cell}

-- the words stand in the cells from a place on
abbrev pub StandAt : List ℤ → ℕ → List ℤ → Type 0
StandAt c at [] = Unit {0}
StandAt c at (w ∷ ws) = (cell c at ≡ w) × StandAt c (at + 1) ws

-- only the cells from lo to hi may have changed
pub record Within (lo hi : ℕ) (c c' : List ℤ) : Type 0 where
  pub same_length : length c' ≡ length c
  pub low : (i : ℕ) → i < lo → cell c' i ≡ cell c i
  pub high : (i : ℕ) → hi ≤ i → cell c' i ≡ cell c i

-- the cells below d are as they were
pub record Keeps (d : ℕ) (c c' : List ℤ) : Type 0 where
  pub same_length : length c' ≡ length c
  pub below : (i : ℕ) → i < d → cell c' i ≡ cell c i

-- the interval v stands in the cells d and d + 1, and the cells below d are as they were
pub record Leaves (d : ℕ) (v : Ends) (c c' : List ℤ) : Type 0 where
  pub low : cell c' d ≡ v.lo
  pub high : cell c' (d + 1) ≡ v.hi
  pub keeps : Keeps d c c'

-- the interval v stands in the cells d and d + 1, and of the others at most cell t has changed
pub record LeavesUsing (d t : ℕ) (v : Ends) (c c' : List ℤ) : Type 0 where
  pub same_length : length c' ≡ length c
  pub low : cell c' d ≡ v.lo
  pub high : cell c' (d + 1) ≡ v.hi
  pub others : (i : ℕ) → i ≢ d → i ≢ d + 1 → i ≢ t → cell c' i ≡ cell c i

-- the cells of the constants hold 0, 1, 2 and -1
pub record Constants (c : List ℤ) : Type 0 where
  pub zero_is : cell c zero_cell ≡ pos 0
  pub one_is : cell c one_cell ≡ pos 1
  pub two_is : cell c two_cell ≡ pos 2
  pub minus_is : cell c minus_cell ≡ negsuc 0

-- the cells of a home are neither d nor t
pub record IsApart (d t : ℕ) (v : Home) : Type 0 where
  pub lo_d : v.lo ≢ d
  pub lo_t : v.lo ≢ t
  pub hi_d : v.hi ≢ d
  pub hi_t : v.hi ≢ t

-- the cells of a home stand below d
pub record HomeIsBelow (d : ℕ) (v : Home) : Type 0 where
  pub lo : v.lo < d
  pub hi : v.hi < d

-- and so those of all of these
abbrev pub HomesAreBelow : ℕ → List Home → Type 0
HomesAreBelow d [] = Unit {0}
HomesAreBelow d (h ∷ hs) = HomeIsBelow d h × HomesAreBelow d hs
