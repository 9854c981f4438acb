-- What numbers a fraction in lowest terms has.
use Rattle.std.specs.Prelude.{◌≡◌, ℕ, List, IsSomeAnd, ℤ, pos, ◌*ℤ◌}
use Rattle.vp_terms.specs.Number.{number}
use Rattle.vp_terms.specs.declared.ratio.Ratio.{Ratio}

-- r is the number num / den
abbrev pub IsQuotient : ℤ → ℤ → Ratio → Type 0
IsQuotient num den r = r.num *ℤ den ≡ num *ℤ r.den

-- the text is a number token that is not refused, and r is its number
abbrev pub IsNumber : List ℕ → Ratio → Type 0
IsNumber text r = IsSomeAnd (number text) (λ f. IsQuotient (pos f.0) (pos f.1) r)
