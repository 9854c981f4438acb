-- The weights of flows, over unbounded numbers.
use Rattle.std.specs.Prelude.{◌≡◌, ◌<◌, ℕ, ◌+◌, ◌-◌, ◌*◌, ◌/◌, ◌^◌}
use Rattle.vp_poly.specs.Product.{sum_to}
use Rattle.vp_poly.specs.Weights.{Weights}
use Rattle.vp_flow.specs.Series.{factorial}
use Rattle.vp_flow.specs.declared.bounds.Bounds.{Bounds}
use Rattle.vp_flow.specs.declared.weights.Growth.{Growth}

-- f 0, f 1 and so on to f n, added
abbrev pub added_to : ℕ → (ℕ → ℕ) → ℕ
added_to n f = sum_to (λ x y. x + y) n f

-- the weight of a flow of height h
abbrev pub flow_weight : Bounds → ℕ → Weights
flow_weight b h = record {
  norm = added_to h (λ k. b.norm ^ k * b.common ^ (h - k) * (factorial h / factorial k));
  den = b.common ^ h * factorial h;
  degree = 1 + h * b.degree;
  terms = added_to h (λ k. b.terms ^ k);
}

-- the weight of a flow of height k, all of it below the limit, and the powers that it is made of
pub record IsGrowth (b : Bounds) (k : ℕ) (g : Growth) : Type 0 where
  pub norm : g.norm ≡ (flow_weight b k).norm
  pub den : g.den ≡ (flow_weight b k).den
  pub terms : g.terms ≡ (flow_weight b k).terms
  pub norm_power : g.norm_power ≡ b.norm ^ k
  pub terms_power : g.terms_power ≡ b.terms ^ k
  pub norm_small : g.norm < 2 ^ 62
  pub den_small : g.den < 2 ^ 62
  pub terms_small : g.terms < 2 ^ 62
