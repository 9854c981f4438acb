-- Fractions in lowest terms are unique.
use Rattle.std.proofs.Common.{◌≡◌, ℕ, ◌*◌, pos, ◌*ℤ◌, unsigned_abs, sym, ap, ◌∙◌}
use Rattle.std.proofs.lemmas.Int.{unsigned_abs-mul}
use Rattle.vp_terms.specs.declared.ratio.Ratio.{Ratio}
use Rattle.vp_terms.specs.Rational.{Equals, size_positive}
use Rattle.vp_terms.specs.Meaning.{rational}
use Rattle.vp_terms.proofs.Lowest.{same_parts}
use Rattle.vp_terms.proofs.RationalLaws.{cancel}
use Rattle.vp_terms.proofs.Sizes.{size_is}

same_sizes : (a b : Ratio) → Equals (rational a) (rational b) → unsigned_abs a.den ≡ unsigned_abs b.den
same_sizes a b e =
    let crossed : unsigned_abs a.num * unsigned_abs b.den ≡ unsigned_abs b.num * unsigned_abs a.den =
    sym (unsigned_abs-mul a.num (pos (unsigned_abs b.den))) ∙ ap unsigned_abs e.crossed ∙ unsigned_abs-mul b.num (pos (unsigned_abs a.den)) in
    (same_parts
    (unsigned_abs a.num)
    (unsigned_abs a.den)
    (unsigned_abs b.num)
    (unsigned_abs b.den)
    (size_positive a.den a.lowest.positive)
    (size_positive b.den b.lowest.positive)
    a.lowest.coprime
    b.lowest.coprime
    crossed).1

pub same_den : (a b : Ratio) → Equals (rational a) (rational b) → a.den ≡ b.den
same_den a b e = sym (size_is a.den a.lowest.positive) ∙ ap pos (same_sizes a b e) ∙ size_is b.den b.lowest.positive

pub same_num : (a b : Ratio) → Equals (rational a) (rational b) → a.num ≡ b.num
same_num a b e =
    let s = same_sizes a b e in
    cancel a.num b.num (unsigned_abs b.den) (size_positive b.den b.lowest.positive) (e.crossed ∙ ap (λ (n : ℕ). b.num *ℤ pos n) s)
