-- The product of factors, one after the other.
use Rattle.std.proofs.Common.{◌≡◌, ℕ, ◌*◌, ◌+◌, ◌^◌, ◌<◌, ◌≤◌, List, [], ◌∷◌, ◌++◌, map, max, pos, replicate, length, take, get_or, sym, ap, ◌∙◌, subst, arith, ◌*ℤ◌}
use Rattle.std.specs.List.{All}
use Rattle.std.proofs.Math.Nat.{mul-le-mul, le-max_left}
use Rattle.std.proofs.lemmas.List.{take_more}
use Rattle.std.proofs.lemmas.List.Elements.{All-get_or}
use Rattle.vp_terms.specs.Rational.{whole}
use Rattle.vp_poly.specs.declared.mono.Term.{Term}
use Rattle.vp_poly.specs.declared.scaled.Scaled.{Scaled}
use Rattle.vp_poly.specs.Poly.{Powers, IsPoly, IsWithin, coef, norm, degree, only_at}
use Rattle.vp_poly.specs.Product.{split_sum}
use Rattle.vp_poly.specs.Coefficient.{Coefficients, constant, times}
use Rattle.vp_poly.specs.Times.{HasCoefficients}
use Rattle.vp_cert.specs.Bounds.{size_product, product_size}
use Rattle.vp_cert.specs.Capped.{IsWithinWeight, scaled_size}
use Rattle.vp_cert.specs.Certificate.{TermFactor, Size, factor_product}
use Rattle.vp_cert.specs.Factors.{AreTermFactors}
use Rattle.vp_cert.proofs.Combining.{combined-more, Parted, parted, size_more, below_all}
use Rattle.vp_cert.proofs.FactorLaws.{number_coefficients}

-- what the law on coefficients says of products
abbrev pub ProductLaw : Type 0
ProductLaw = (d e : ℕ) (xs ys zs : List Term) (f g : Coefficients) → HasCoefficients d xs f → HasCoefficients e ys g → ((m : Powers) → coef zs m ≡ split_sum m (λ a b. coef xs a *ℤ coef ys b)) → HasCoefficients (d * e) zs (times f g)

-- ps is the product of the polynomials of these factors
pub record HasProduct (ss : List Scaled) (ps : List Term) : Type 0 where
  pub poly : IsPoly ps
  pub within : IsWithin ps (product_size (map scaled_size ss)).norm (product_size (map scaled_size ss)).degree (product_size (map scaled_size ss)).terms
  pub coefficients : (fs : List TermFactor) → AreTermFactors fs ss → HasCoefficients 1 ps (factor_product fs)

pub HasProduct-none : (ps : List Term) → IsPoly ps → IsWithin ps 1 0 1 → ((m : Powers) → coef ps m ≡ only_at (replicate 32 0) m (pos 1)) → HasProduct [] ps
HasProduct-none ps p w f = record { poly = p; within = w; coefficients = coefs }
  where
    coefs : (fs : List TermFactor) → AreTermFactors fs [] → HasCoefficients 1 ps (factor_product fs)
    coefs [] h = number_coefficients 1 ps f
    coefs (k ∷ fs) h = absurd h

IsWithin-product : (s : Scaled) (ps qs : List Term) (a : Size) → IsWithin s.poly s.weight.norm s.weight.degree s.weight.terms → IsWithin ps a.norm a.degree a.terms →
    IsWithin qs (norm s.poly * norm ps) (degree s.poly + degree ps) (length s.poly * length ps) →
    IsWithin qs (size_product (scaled_size s) a).norm (size_product (scaled_size s) a).degree (size_product (scaled_size s) a).terms
IsWithin-product s ps qs a h k l = record {
  norm_le = omega (arith, l.norm_le, mul-le-mul (let b : norm s.poly ≤ max s.weight.norm 1 = omega (arith, h.norm_le, le-max_left s.weight.norm 1) in b) k.norm_le);
  degree_le = omega (arith, l.degree_le, h.degree_le, k.degree_le);
  length_le = omega (arith, l.length_le, mul-le-mul (let b : length s.poly ≤ max s.weight.terms 1 = omega (arith, h.length_le, le-max_left s.weight.terms 1) in b) k.length_le);
}

HasProduct-more : ProductLaw → (ss : List Scaled) (s : Scaled) (ps qs : List Term) → HasProduct ss ps → IsWithin s.poly s.weight.norm s.weight.degree s.weight.terms →
    ((m : Powers) → coef qs m ≡ split_sum m (λ a b. coef s.poly a *ℤ coef ps b)) →
    IsPoly qs → IsWithin qs (norm s.poly * norm ps) (degree s.poly + degree ps) (length s.poly * length ps) → HasProduct (ss ++ s ∷ []) qs
HasProduct-more law ss s ps qs h w f q l = record {
  poly = q;
  within = rw (combined-more size_product (record { norm = 1; terms = 1; degree = 0 }) scaled_size ss s) (IsWithin-product s ps qs (product_size (map scaled_size ss)) w h.within l);
  coefficients = λ fs k. coefs fs (parted fs ss s k);
}
  where
    coefs : (fs : List TermFactor) → Parted fs ss s → HasCoefficients 1 qs (factor_product fs)
    coefs fs r =
        subst (λ (k : List TermFactor). HasCoefficients 1 qs (factor_product k)) (sym r.is)
        (rw (combined-more times (constant (whole (pos 1))) (λ (k : TermFactor). k.coefficients) r.front r.last)
        (law 1 1 s.poly ps qs r.last.coefficients (factor_product r.front) r.is_factor.coefficients (h.coefficients r.front r.are_factors) f))

-- ---- as the loop goes

-- what the next product needs, where the whole product is not too large
pub record Fits (s : Scaled) (ps : List Term) : Type 0 where
  pub norm : norm s.poly * norm ps < 2 ^ 126
  pub few : length s.poly * length ps < 2 ^ 32
  pub low : degree s.poly + degree ps ≤ 48

pub product_fits : (ss : List Scaled) (i : ℕ) (s : Scaled) (ps : List Term) → i < length ss → s ≡ get_or ss i s → All IsWithinWeight ss → HasProduct (take i ss) ps →
    (product_size (map scaled_size ss)).norm < 2 ^ 126 → (product_size (map scaled_size ss)).terms ≤ 65536 → (product_size (map scaled_size ss)).degree ≤ 48 → Fits s ps
product_fits ss i s ps h e b p small few low =
    let w = All-get_or IsWithinWeight ss i s h b in
    let v = subst IsWithinWeight (sym e) w in
    let next = size_more ss i s h e in
    let a = product_size (map scaled_size (take i ss)) in
    let grows = below_all ss (i + 1) in
    let n : norm s.poly * norm ps ≤ max s.weight.norm 1 * a.norm = mul-le-mul (let k : norm s.poly ≤ max s.weight.norm 1 = omega (arith, v.norm_le, le-max_left s.weight.norm 1) in k) p.within.norm_le in
    let t : length s.poly * length ps ≤ max s.weight.terms 1 * a.terms = mul-le-mul (let k : length s.poly ≤ max s.weight.terms 1 = omega (arith, v.length_le, le-max_left s.weight.terms 1) in k) p.within.length_le in
    record {
      norm = omega (arith, n, ap (λ z. z.norm) next, grows.norm);
      few = omega (arith, t, ap (λ z. z.terms) next, grows.terms);
      low = omega (arith, v.degree_le, p.within.degree_le, ap (λ z. z.degree) next, grows.degree);
    }

pub HasProduct-next : ProductLaw → (ss : List Scaled) (i : ℕ) (s : Scaled) (ps qs : List Term) → i < length ss → s ≡ get_or ss i s → All IsWithinWeight ss → HasProduct (take i ss) ps →
    ((m : Powers) → coef qs m ≡ split_sum m (λ a b. coef s.poly a *ℤ coef ps b)) →
    IsPoly qs → IsWithin qs (norm s.poly * norm ps) (degree s.poly + degree ps) (length s.poly * length ps) → HasProduct (take (i + 1) ss) qs
HasProduct-next law ss i s ps qs h e b p f q l =
    subst (λ (k : List Scaled). HasProduct k qs) (sym (take_more ss i s h ∙ ap (λ (t : Scaled). take i ss ++ t ∷ []) (sym e)))
    (HasProduct-more law (take i ss) s ps qs p (subst IsWithinWeight (sym e) (All-get_or IsWithinWeight ss i s h b)) f q l)
