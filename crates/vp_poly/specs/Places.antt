-- Which places polynomials have, and the renaming of places.
use Rattle.std.specs.Prelude.{◌≡◌, ℕ, ◌<◌, ◌≤◌, Bool, false, IsTrue, List, map, slice_index, All}
use Rattle.std.specs.List.{range_with_len}
use Rattle.std.specs.List.Sorted.{IsPermutation}
use Rattle.vp_terms.specs.declared.expr.Places.{Places}
use Rattle.vp_words.specs.declared.record.Counts.{Counts}
use Rattle.vp_poly.specs.declared.mono.Term.{Term}
use Rattle.vp_poly.specs.Poly.{Powers}
use Rattle.vp_poly.specs.Value.{Point}

-- the places of a model with these counts
abbrev pub places_for : Counts → Places
places_for c = record { params = c.params; states = c.states; controls = c.controls }

-- no place from v on has an exponent
pub record IsBelow (v : ℕ) (powers : Powers) : Type 0 where
  pub none : (k : ℕ) → v ≤ k → slice_index powers k ≡ 0

-- all places of the terms are below v
abbrev pub AreBelow : ℕ → List Term → Type 0
AreBelow v ts = All (λ t. IsBelow v t.mono.powers) ts

-- no place that fails the test has an exponent
pub record HasOnly (allowed : ℕ → Bool) (powers : Powers) : Type 0 where
  pub others : (k : ℕ) → allowed k ≡ false → slice_index powers k ≡ 0

-- all places of the terms pass the test
abbrev pub HaveOnly : (ℕ → Bool) → List Term → Type 0
HaveOnly allowed ts = All (λ t. HasOnly allowed t.mono.powers) ts

-- each number from 0 to 31 once
abbrev pub IsRenaming : List ℕ → Type 0
IsRenaming to = IsPermutation (range_with_len 0 32) to

-- the exponents of which `to` makes these: place k has that of the place `to[k]`
abbrev pub before_renaming : List ℕ → Powers → Powers
before_renaming to powers = map (λ j. slice_index powers j) to

-- the point at which place k has the value of place `to[k]`
abbrev pub point_before : List ℕ → Point → Point
point_before to a k = a (slice_index to k)

-- `to` sends the places that pass one test to places that pass another
abbrev pub SendsAllowed : List ℕ → (ℕ → Bool) → (ℕ → Bool) → Type 0
SendsAllowed to allowed kept = (k : ℕ) → k < 32 → IsTrue (allowed k) → IsTrue (kept (slice_index to k))
