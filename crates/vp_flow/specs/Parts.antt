-- What the series are made of, and how large their polynomials are.
use Rattle.std.specs.Prelude.{◌≡◌, ℕ, zero, suc, ◌+◌, ◌*◌, ◌^◌, ◌≤◌, ◌<◌, max, List, [], length, slice_get, slice_index, unwrap_or, All, ℤ}
use Rattle.vp_terms.specs.declared.expr.Places.{Places}
use Rattle.vp_poly.specs.declared.mono.Term.{Term}
use Rattle.vp_poly.specs.Poly.{Powers, IsPoly, coef, norm, degree}
use Rattle.vp_poly.specs.Places.{places_for}
use Rattle.vp_flow.specs.Series.{state_degree}
use Rattle.vp_flow.specs.Whole.{state_place, zstates, zlie, part_at}
use Rattle.vp_flow.specs.Sides.{side}
use Rattle.vp_flow.specs.declared.bounds.Bounds.{Bounds}
use Rattle.vp_flow.specs.declared.rates.Rates.{Rates}

-- the state j is a factor of the monomial
pub record HasState (p : Places) (j : ℕ) (m : Powers) : Type 0 where
  pub below : j < p.states
  pub has : 0 < slice_index m (state_place p j)

-- each monomial has degree at most 1 in the states
abbrev pub IsLinear : Places → List Term → Type 0
IsLinear p ts = All (λ t. state_degree p t.mono.powers ≤ 1) ts

-- the greatest of f 0, f 1 and so on to f (n - 1), and of 0
abbrev pub greatest : ℕ → (ℕ → ℕ) → ℕ
greatest zero f = 0
greatest (suc n) f = max (greatest n f) (f n)

-- `out` is what these terms give where each state j is replaced by g j and terms without states are dropped
pub record IsReplaced (p : Places) (g : ℕ → List Term) (ts out : List Term) : Type 0 where
  pub coefficients : (m : Powers) → coef out m ≡ zstates p (λ j. coef (g j)) (coef ts) m
  pub norm_le : norm out ≤ norm ts * greatest p.states (λ j. norm (g j))
  pub degree_le : (d : ℕ) → degree ts + greatest p.states (λ j. degree (g j)) ≤ suc d → degree out ≤ d
  pub length_le : length out ≤ length ts * greatest p.states (λ j. length (g j))

-- replacing the states in these terms takes no number out of range
pub record HasRoom (p : Places) (g : ℕ → List Term) (ts : List Term) : Type 0 where
  pub small : norm ts * greatest p.states (λ j. norm (g j)) < 2 ^ 126
  pub few : length ts * greatest p.states (λ j. length (g j)) < 2 ^ 32
  pub low : degree ts + greatest p.states (λ j. degree (g j)) ≤ 49

-- as large as the k-th of a Lie series may be
pub record IsSized (b : Bounds) (k : ℕ) (ts : List Term) : Type 0 where
  pub norm_le : norm ts ≤ b.norm ^ k
  pub degree_le : degree ts + k ≤ 1 + k * b.degree
  pub length_le : length ts ≤ b.terms ^ k

-- the coefficients of the right sides
abbrev pub sides : Rates → ℕ → Powers → ℤ
sides r j = coef (side r.sides j)

-- the k-th of the Lie series of the state i
pub record IsPart (r : Rates) (i k : ℕ) (ts : List Term) : Type 0 where
  pub coefficients : (m : Powers) → coef ts m ≡ zlie (places_for r.counts) (sides r) i k m
  pub size : IsSized r.bounds k ts

-- a right side within the bounds
pub record IsSide (p : Places) (b : Bounds) (ts : List Term) : Type 0 where
  pub poly : IsPoly ts
  pub linear : IsLinear p ts
  pub norm_le : norm ts ≤ b.norm
  pub degree_le : degree ts ≤ b.degree
  pub length_le : length ts ≤ b.terms

-- one for each state
pub record AreSides (r : Rates) : Type 0 where
  pub few : r.counts.params + r.counts.states ≤ 32
  pub count : length r.sides ≡ r.counts.states
  pub each : All (IsSide (places_for r.counts) r.bounds) r.sides
  pub norm : 1 ≤ r.bounds.norm
  pub degree : 1 ≤ r.bounds.degree
  pub terms : 1 ≤ r.bounds.terms

-- the series of the state j is complete
pub record IsDone (r : Rates) (j : ℕ) (series : List (List (List Term))) : Type 0 where
  pub parts : (k : ℕ) (m : Powers) → coef (part_at series j k) m ≡ zlie (places_for r.counts) (sides r) j k m

-- the k-th of a Lie series takes no number out of range
pub record IsLow (b : Bounds) (k : ℕ) : Type 0 where
  pub norm : b.norm ^ k < 2 ^ 62
  pub degree : 1 + k * b.degree ≤ 12
  pub terms : b.terms ^ k ≤ 4096

-- the first n of the series of the state i
pub record AreFirst (r : Rates) (i n : ℕ) (own : List (List Term)) : Type 0 where
  pub size : length own ≡ n
  pub each : (k : ℕ) → k < n → IsPart r i k (unwrap_or (slice_get own k) [])
