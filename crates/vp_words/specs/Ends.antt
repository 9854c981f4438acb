-- The ends of an interval, and the numbers between them.
use Rattle.std.specs.Prelude.{Bool, ◌&&◌, not, ℕ, ℤ, pos, ◌*ℤ◌, ◌≤ℤ◌, int_le}
use Rattle.std.specs.Ordering.{int_eq}
use Rattle.vp_words.specs.Number.{IsFinite, inf, minus_inf}

-- a valid pair of ends: low is at most high and not `inf`, and high is not `-inf`
abbrev pub encloses : ℤ → ℤ → Bool
encloses low high = int_le low high && (not (int_eq low inf) && not (int_eq high minus_inf))

-- z is at least the low end; an infinite end is no bound
abbrev pub IsLowEnd : ℤ → ℤ → Type 0
IsLowEnd low z = IsFinite low → low ≤ℤ z

-- z is at most the high end
abbrev pub IsHighEnd : ℤ → ℤ → Type 0
IsHighEnd high z = IsFinite high → z ≤ℤ high

-- z stands between the ends
abbrev pub IsBetween : ℤ → ℤ → ℤ → Type 0
IsBetween low high z = IsLowEnd low z × IsHighEnd high z

-- the fraction n / d is at least the low end
abbrev pub IsFractionLowEnd : ℤ → ℤ → ℕ → Type 0
IsFractionLowEnd low n d = IsFinite low → (low *ℤ pos d) ≤ℤ n

-- the fraction n / d is at most the high end
abbrev pub IsFractionHighEnd : ℤ → ℤ → ℕ → Type 0
IsFractionHighEnd high n d = IsFinite high → n ≤ℤ (high *ℤ pos d)

-- the fraction n / d stands between the ends
abbrev pub IsFractionBetween : ℤ → ℤ → ℤ → ℕ → Type 0
IsFractionBetween low high n d = IsFractionLowEnd low n d × IsFractionHighEnd high n d
