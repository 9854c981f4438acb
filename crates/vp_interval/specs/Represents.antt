-- Which rationals an interval represents.
use Rattle.std.specs.Prelude.{◌≡◌, ℕ, List, All, Some, slice_get}
use Rattle.vp_words.specs.Ends.{IsFractionLowEnd, IsFractionHighEnd}
use Rattle.vp_terms.specs.Rational.{Rational}
use Rattle.vp_interval.specs.Rounding.{Ends, IsValid}

-- q is at least a finite low end, and at most a finite high end; an infinite end is no bound
pub record Represents (v : Ends) (q : Rational) : Type 0 where
  pub low : IsFractionLowEnd v.lo q.num q.den
  pub high : IsFractionHighEnd v.hi q.num q.den

-- each box represents the value of its place
pub record RepresentEach (boxes : List Ends) (x : ℕ → Rational) : Type 0 where
  pub each : (k : ℕ) (v : Ends) → slice_get boxes k ≡ Some v → Represents v (x k)

-- each pair of ends is that of an interval
abbrev pub AreValid : List Ends → Type 0
AreValid boxes = All (λ v. IsValid v.lo v.hi) boxes
