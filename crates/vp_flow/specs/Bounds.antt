-- The four numbers by which the weights of flows go.
use Rattle.std.specs.Prelude.{ℕ, ◌*◌, ◌/◌, max, List, [], ◌∷◌}
use Rattle.vp_poly.specs.declared.scaled.Scaled.{Scaled}
use Rattle.vp_poly.specs.Lcm.{lcm}
use Rattle.vp_flow.specs.declared.bounds.Bounds.{Bounds}

-- the least common multiple of all denominators
abbrev pub common_den : List Scaled → ℕ
common_den [] = 1
common_den (q ∷ qs) = lcm q.weight.den (common_den qs)

-- the greatest of 1 and all f q
abbrev pub at_least_one : (Scaled → ℕ) → List Scaled → ℕ
at_least_one f [] = 1
at_least_one f (q ∷ qs) = max (f q) (at_least_one f qs)

-- the least common multiple E of the denominators, the greatest norm over E, the greatest degree and the greatest number of terms
abbrev pub bounds_of : List Scaled → Bounds
bounds_of qs = record {
  common = common_den qs;
  norm = at_least_one (λ q. q.weight.norm * (common_den qs / q.weight.den)) qs;
  degree = at_least_one (λ q. q.weight.degree) qs;
  terms = at_least_one (λ q. q.weight.terms) qs;
}
