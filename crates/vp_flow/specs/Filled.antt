-- The series of all states.
use Rattle.std.specs.Prelude.{◌≡◌, ℕ, suc, ◌<◌, List, [], length, slice_get, slice_index, unwrap_or}
use Rattle.vp_poly.specs.declared.mono.Term.{Term}
use Rattle.vp_flow.specs.Whole.{part_at}
use Rattle.vp_flow.specs.Parts.{AreFirst, IsSized}
use Rattle.vp_flow.specs.declared.rates.Rates.{Rates}

-- the series of the state j
abbrev pub row_at : List (List (List Term)) → ℕ → List (List Term)
row_at series j = unwrap_or (slice_get series j) []

-- the series of the first n states of the order are there, and all that is there is small
pub record AreFilled (r : Rates) (h : ℕ → ℕ) (order : List ℕ) (n : ℕ) (series : List (List (List Term))) : Type 0 where
  pub count : length series ≡ r.counts.states
  pub sizes : (j k : ℕ) → IsSized r.bounds k (part_at series j k)
  pub done : (t : ℕ) → t < n → AreFirst r (slice_index order t) (suc (h (slice_index order t))) (row_at series (slice_index order t))
