-- By what the parts of a sum are multiplied.
use Rattle.std.specs.Prelude.{◌+◌, ◌*◌, ◌<◌, ◌≤◌, ◌^◌, ℕ}
use Rattle.vp_poly.specs.Weights.{Weights, weight_sum}

-- what a sum that isn't over says of the factors k and l of its parts
pub record IsRoomy (v w : Weights) (k l : ℕ) : Type 0 where
  pub k_small : k < 2 ^ 62
  pub l_small : l < 2 ^ 62
  pub norms : v.norm * k + w.norm * l < 2 ^ 62
  pub norm_is : v.norm * k + w.norm * l ≤ (weight_sum v w).norm
