-- Numbers, polynomials and expressions as factors.
use Rattle.std.proofs.Common.{◌≡◌, ℕ, List, pos, replicate, length, ℤ, sym, ap, ◌∙◌, subst, arith}
use Rattle.std.specs.Prelude.{Bool, IsTrue, unsigned_abs, sum}
use Rattle.vp_words.specs.declared.record.Counts.{Counts}
use Rattle.vp_terms.specs.Certificates.{has_whole_numbers}
use Rattle.vp_terms.specs.Places.{has_variable}
use Rattle.vp_terms.specs.Rational.{Rational, whole, Equals, product}
use Rattle.vp_terms.specs.Variables.{all_variables}
use Rattle.vp_terms.specs.WellFormed.{in_certificate, is_allowed, is_good_expr}
use Rattle.vp_terms.specs.declared.expr.Places.{Places}
use Rattle.vp_terms.specs.declared.expr.Var.{Var}
use Rattle.vp_terms.specs.declared.expr.Expr.{Expr}
use Rattle.vp_terms.specs.declared.well_formed.Kinds.{Kinds}
use Rattle.vp_terms.proofs.RationalLaws.{Equals-refl, Equals-sym, Equals-product, chain}
use Rattle.vp_poly.specs.declared.mono.Term.{Term}
use Rattle.vp_poly.specs.declared.scaled.Scaled.{Scaled}
use Rattle.vp_poly.specs.Canonical.{IsCanonical, IsWeighed, StandsFor, own_weight, variables, weights_of}
use Rattle.vp_poly.specs.Coefficient.{Coefficients, constant, coefficients}
use Rattle.vp_poly.specs.Places.{places_for}
use Rattle.vp_poly.specs.Poly.{Powers, IsWithin, coef, only_at, norm, degree}
use Rattle.vp_poly.specs.Times.{HasCoefficients, IsTimes}
use Rattle.vp_poly.specs.Value.{Point, powers_value, value_at}
use Rattle.vp_poly.specs.Weights.{Weights, weight_in}
use Rattle.vp_poly.proofs.NumberLaws.{powers_value-none}
use Rattle.vp_poly.proofs.ProductValues.{product-one, product-comm}
use Rattle.vp_poly.proofs.TimesLaws.{IsTimes-only_at}
use Rattle.vp_cert.specs.Certificate.{expression_factor, number_factor, polynomial_factor}
use Rattle.vp_cert.specs.Factors.{IsPlain, IsTermFactor}
use Rattle.vp_cert.proofs.Whole.{den_is_one}

-- once a number
pub times_once : (q : Rational) → IsTimes 1 q q
times_once q = record { same = product-one q }

pub once_is : (v q : Rational) → IsTimes 1 v q → Equals v q
once_is v q h = chain h.same (Equals-sym _ _ (product-one q))

-- ---- numbers

pub number_coefficients : (n : ℕ) (ts : List Term) → ((m : Powers) → coef ts m ≡ only_at (replicate 32 0) m (pos n)) → HasCoefficients 1 ts (constant (whole (pos n)))
number_coefficients n ts f = record { each = λ m. subst (λ (z : ℤ). IsTimes 1 (whole z) (constant (whole (pos n)) m)) (sym (f m)) (IsTimes-only_at 1 (replicate 32 0) m (pos n) (whole (pos n)) (times_once (whole (pos n)))) }

pub number_values : (n : ℕ) (ts : List Term) (x : Point) → Equals (value_at ts x) (product (whole (pos n)) (powers_value 0 (replicate 32 0) x)) → Equals (value_at ts x) (whole (pos n))
number_values n ts x g =
    chain g (chain (Equals-product (whole (pos n)) (whole (pos n)) (powers_value 0 (replicate 32 0) x) (whole (pos 1)) (Equals-refl (whole (pos n))) (powers_value-none 32 0 x))
    (chain (product-comm (whole (pos n)) (whole (pos 1))) (Equals-sym _ _ (product-one (whole (pos n))))))

number_is : (n : ℕ) (s : Scaled) → ((m : Powers) → coef s.poly m ≡ only_at (replicate 32 0) m (pos n)) → IsWithin s.poly n 0 1 → s.weight ≡ record { norm = n; den = 1; degree = 0; terms = 1 } → IsTermFactor (number_factor n) s
number_is n s f w e = record {
  coefficients = number_coefficients n s.poly f;
  norm = ap (λ v. v.norm) e;
  terms = ap (λ v. v.terms) e;
  degree = ap (λ v. v.degree) e;
  within = rw e w;
}

-- a number's polynomial as the call makes it
pub number_made : (n : ℕ) (s : Scaled) (t : Term) → t ≡ record { mono = record { powers = replicate 32 0 }; coef = pos n } → ((m : Powers) → coef s.poly m ≡ only_at t.mono.powers m t.coef) →
    IsWithin s.poly (unsigned_abs t.coef) (sum t.mono.powers) 1 → s.weight ≡ record { norm = n; den = 1; degree = 0; terms = 1 } → IsTermFactor (number_factor n) s
number_made n s t e f w h =
    number_is n s (λ m. f m ∙ ap (λ (u : Term). only_at u.mono.powers m u.coef) e)
    (subst (λ (u : Term). IsWithin s.poly (unsigned_abs u.coef) (sum u.mono.powers) 1) e w) h

-- ---- polynomials

pub polynomial_coefficients : (ts : List Term) → HasCoefficients 1 ts (λ m. whole (coef ts m))
polynomial_coefficients ts = record { each = λ m. times_once (whole (coef ts m)) }

pub polynomial_is : (ts : List Term) (s : Scaled) → s.poly ≡ ts → s.weight ≡ record { norm = norm ts; den = 1; degree = degree ts; terms = length ts } → IsTermFactor (polynomial_factor ts) s
polynomial_is ts s p e = record {
  coefficients = subst (λ (l : List Term). HasCoefficients 1 l (λ m. whole (coef ts m))) (sym p) (polynomial_coefficients ts);
  norm = ap (λ v. v.norm) e;
  terms = ap (λ v. v.terms) e;
  degree = ap (λ v. v.degree) e;
  within = rw (e, p) (record { norm_le = omega arith; degree_le = omega arith; length_le = omega arith });
}

-- ---- expressions

-- what the laws on the variables of well formed parts say
pub record Allowed : Type 0 where
  pub expressions : (k : Kinds) (p : Places) (e : Expr) → IsTrue (is_good_expr k p e) → IsTrue (all_variables (is_allowed k p) e)
  pub allowed : (k : Kinds) (p : Places) (v : Var) → IsTrue (is_allowed k p v) → IsTrue (has_variable p v)
  pub weaker : (t u : Var → Bool) (e : Expr) → ((v : Var) → IsTrue (t v) → IsTrue (u v)) → IsTrue (all_variables t e) → IsTrue (all_variables u e)

-- the variables of a certificate's expression are the model's
pub model_variables : Allowed → (p : Places) (e : Expr) → IsTrue (is_good_expr in_certificate p e) → IsTrue (all_variables (has_variable p) e)
model_variables law p e h = law.weaker (is_allowed in_certificate p) (has_variable p) e (law.allowed in_certificate p) (law.expressions in_certificate p e h)

pub expression_is : (c : Counts) (env : List Scaled) (e : Expr) (s : Scaled) → IsPlain c env → IsTrue (has_whole_numbers e) → s.weight ≡ weight_in (places_for c) (weights_of env) e → IsWeighed s.poly s.weight →
    ((f : Var → Coefficients) → IsTrue (all_variables (has_variable (places_for c)) e) → StandsFor (places_for c) env f → IsCanonical s.weight.den s.poly (coefficients f e)) →
    IsTrue (all_variables (has_variable (places_for c)) e) → IsTermFactor (expression_factor (places_for c) e) s
expression_is c env e s p g w h f v = record {
  coefficients = subst (λ (d : ℕ). HasCoefficients d s.poly (coefficients (variables (places_for c)) e)) one ((f (variables (places_for c)) v p.coefficients).coefficients);
  norm = ap (λ (k : Weights). k.norm) own;
  terms = ap (λ (k : Weights). k.terms) own;
  degree = ap (λ (k : Weights). k.degree) own;
  within = h.within;
}
  where
    own : s.weight ≡ own_weight (places_for c) e
    own = w ∙ ap (λ (l : List Scaled). weight_in (places_for c) (weights_of l) e) p.exact

    one : s.weight.den ≡ 1
    one = ap (λ (k : Weights). k.den) own ∙ den_is_one (places_for c) e g
