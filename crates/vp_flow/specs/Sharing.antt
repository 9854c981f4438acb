-- Right sides over their common denominator.
use Rattle.std.specs.Prelude.{◌≡◌, ◌⊎◌, ℕ, ◌*◌, ◌/◌, ◌≤◌, ◌<◌, ◌^◌, pos, List, [], length, get_or}
use Rattle.vp_words.specs.declared.record.Counts.{Counts}
use Rattle.vp_poly.specs.declared.mono.Term.{Term}
use Rattle.vp_poly.specs.declared.scaled.Scaled.{Scaled}
use Rattle.vp_poly.specs.Poly.{IsPoly, IsWithin, scaled}
use Rattle.vp_poly.specs.Canonical.{IsWeighed}
use Rattle.vp_flow.specs.Sides.{side}
use Rattle.vp_flow.specs.declared.bounds.Bounds.{Bounds}
use Rattle.vp_flow.specs.declared.rates.Rates.{Rates}

-- the denominator of q is a part of the common one, over which q is within the bounds
pub record IsShare (b : Bounds) (q : Scaled) : Type 0 where
  pub exact : (b.common / q.weight.den) * q.weight.den ≡ b.common
  pub positive : 0 < b.common / q.weight.den
  pub small : b.common < 2 ^ 62
  pub norm_le : q.weight.norm * (b.common / q.weight.den) ≤ b.norm
  pub degree_le : q.weight.degree ≤ b.degree
  pub terms_le : q.weight.terms ≤ b.terms

-- q is zero, or has a share of the common denominator
pub record IsSuited (b : Bounds) (q : Scaled) : Type 0 where
  pub weighed : IsWeighed q.poly q.weight
  pub positive : 0 < q.weight.den
  pub shared : (q.poly ≡ []) ⊎ IsShare b q

-- `ts` is q times the common denominator, within the bounds
pub record IsSharedOf (b : Bounds) (q : Scaled) (ts : List Term) : Type 0 where
  pub terms : ts ≡ scaled (pos (b.common / q.weight.den)) q.poly
  pub poly : IsPoly ts
  pub sizes : IsWithin ts b.norm b.degree b.terms

-- the right sides times the common denominator
pub record AreShared (c : Counts) (b : Bounds) (qs : List Scaled) (r : Rates) : Type 0 where
  pub counts : r.counts ≡ c
  pub bounds : r.bounds ≡ b
  pub count : length r.sides ≡ length qs
  pub each : (i : ℕ) (d : Scaled) → i < length qs → IsSharedOf b (get_or qs i d) (side r.sides i)
