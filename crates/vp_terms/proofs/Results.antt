-- What the calls on fractions give, as rationals.
use Rattle.std.proofs.Common.{◌≡◌, ◌*◌, ℤ, pos, ◌+ℤ◌, ◌-ℤ◌, ◌*ℤ◌, unsigned_abs, Option, None, Some, refl, ◌∙◌}
use Rattle.std.specs.Option.{MatchOption}
use Rattle.vp_terms.specs.declared.ratio.Ratio.{Ratio}
use Rattle.vp_terms.specs.Rational.{Rational, Equals, sum, difference}
use Rattle.vp_terms.specs.Meaning.{rational}
use Rattle.vp_terms.specs.Ratios.{IsQuotient}
use Rattle.vp_terms.specs.Evaluation.{IsResult}
use Rattle.vp_terms.proofs.Sizes.{size_is}

quotient_equals : (z d : ℤ) (q : Rational) (r : Ratio) → z ≡ q.num → d ≡ pos q.den → IsQuotient z d r → Equals (rational r) q
quotient_equals z d q r e f h = let p = size_is r.den r.lowest.positive in record { crossed = cc }

equals_quotient : (z d : ℤ) (q : Rational) (r : Ratio) → z ≡ q.num → d ≡ pos q.den → Equals (rational r) q → IsQuotient z d r
equals_quotient z d q r e f h = let p = size_is r.den r.lowest.positive in let k = h.crossed in cc

-- the fraction in lowest terms of the parts of a rational
pub result_of : (z d : ℤ) (q : Rational) (o : Option Ratio) → z ≡ q.num → d ≡ pos q.den → MatchOption o ((r : Ratio) → ¬ IsQuotient z d r) (IsQuotient z d) → IsResult q o
result_of z d q None e f h = λ s. h s.0 (equals_quotient z d q s.0 e f s.1)
result_of z d q (Some r) e f h = quotient_equals z d q r e f h

pub sum_num : (a b : Ratio) (l r s : ℤ) → l ≡ a.num *ℤ b.den → r ≡ b.num *ℤ a.den → s ≡ l +ℤ r → s ≡ (sum (rational a) (rational b)).num
sum_num a b l r s e f g = let p = size_is b.den b.lowest.positive in let q = size_is a.den a.lowest.positive in cc

pub difference_num : (a b : Ratio) (l r s : ℤ) → l ≡ a.num *ℤ b.den → r ≡ b.num *ℤ a.den → s ≡ l -ℤ r → s ≡ (difference (rational a) (rational b)).num
difference_num a b l r s e f g = let p = size_is b.den b.lowest.positive in let q = size_is a.den a.lowest.positive in cc

pub product_den : (a b : Ratio) (d : ℤ) → d ≡ a.den *ℤ b.den → d ≡ pos (unsigned_abs a.den * unsigned_abs b.den)
product_den a b d e =
    let p = size_is a.den a.lowest.positive in
    let q = size_is b.den b.lowest.positive in
    let m : a.den *ℤ b.den ≡ pos (unsigned_abs a.den) *ℤ pos (unsigned_abs b.den) = cc in
    e ∙ m ∙ refl
