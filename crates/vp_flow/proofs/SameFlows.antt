-- Packages with one tree have the same right sides and the same refusals.
use Rattle.std.proofs.Common.{◌≡◌, ℕ, false, List, length, map, Option, None, Some, slice_get, refl, sym, ap, ◌∙◌, subst}
use Rattle.std.specs.Prelude.{IfSome, option_map}
use Rattle.std.proofs.Math.Path.{fun_ext}
use Rattle.std.proofs.lemmas.List.{length-map}
use Rattle.std.proofs.lemmas.Option.{slice_get-map}
use Rattle.vp_terms.specs.Packages.{PackageTree, package_tree}
use Rattle.vp_terms.specs.Tree.{expr_tree}
use Rattle.vp_terms.specs.WellFormed.{places_of}
use Rattle.vp_terms.specs.declared.expr.Expr.{Expr}
use Rattle.vp_terms.specs.declared.expr.Places.{Places}
use Rattle.vp_terms.specs.declared.expr.Var.{Var}
use Rattle.vp_terms.specs.declared.package.Names.{Names}
use Rattle.vp_terms.specs.declared.package.Package.{Package}
use Rattle.vp_poly.specs.declared.scaled.Scaled.{Scaled}
use Rattle.vp_poly.specs.Canonical.{IsCanonical, own_weight, own_weights, variables}
use Rattle.vp_poly.specs.Coefficient.{Coefficients, coefficients}
use Rattle.vp_poly.specs.Weights.{Weights, fits, weight, weight_at}
use Rattle.vp_terms.specs.Places.{place_count}
use Rattle.vp_flow.specs.Outcome.{AreLinear, IsOver, Refuses}
use Rattle.vp_flow.specs.Sides.{AreRightSides, IsPolynomialOf, model, rate_of, rates_of}
use Rattle.vp_flow.specs.declared.error.FlowErr.{FlowErr}
use Rattle.vp_flow.specs.declared.error.FlowErr.TheVariants as flow

-- the package with other names
abbrev pub with_names : Names → Package → Package
with_names names pkg = record {
  names = names;
  init = pkg.init;
  inv = pkg.inv;
  safe = pkg.safe;
  ctrl = pkg.ctrl;
  plant = pkg.plant;
  fallback = pkg.fallback;
  certs = pkg.certs;
}

pub at_alike : {A B : Type 0} (f : A → B) (xs ys : List A) → map f xs ≡ map f ys → (i : ℕ) → option_map f (slice_get xs i) ≡ option_map f (slice_get ys i)
at_alike {A} {B} f xs ys h i = sym (slice_get-map f xs i) ∙ ap (λ (zs : List B). slice_get zs i) h ∙ slice_get-map f ys i

pub lengths_alike : {A B : Type 0} (f : A → B) (xs ys : List A) → map f xs ≡ map f ys → length xs ≡ length ys
lengths_alike {A} {B} f xs ys h = sym (length-map xs f) ∙ ap (λ (zs : List B). length zs) h ∙ length-map ys f

-- what is known of expressions with one tree
pub record Known : Type 0 where
  pub weights : (env : Var → Weights) (e f : Expr) → expr_tree e ≡ expr_tree f → weight env e ≡ weight env f
  pub coefficients_are : (env : Var → Coefficients) (e f : Expr) → expr_tree e ≡ expr_tree f → coefficients env e ≡ coefficients env f

module _ (known : Known) where
  own_weight-alike : (p : Places) (e f : Expr) → expr_tree e ≡ expr_tree f → own_weight p e ≡ own_weight p f
  own_weight-alike p e f h = known.weights (weight_at p (own_weights (place_count p))) e f h

  polynomial-alike : (p : Places) (e f : Expr) (q : Scaled) → expr_tree e ≡ expr_tree f → IsPolynomialOf p e q → IsPolynomialOf p f q
  polynomial-alike p e f q h i = record {
    weight = i.weight ∙ own_weight-alike p e f h;
    weighed = i.weighed;
    positive = i.positive;
    canonical = subst (λ (c : Coefficients). IsCanonical q.weight.den q.poly c) (known.coefficients_are (variables p) e f h) i.canonical;
  }

  side-alike : (p : Places) (o r : Option Expr) (s : Option Scaled) → option_map expr_tree o ≡ option_map expr_tree r → IfSome o (λ e. IfSome s (IsPolynomialOf p e)) → IfSome r (λ e. IfSome s (IsPolynomialOf p e))
  side-alike p o None s h i = tt
  side-alike p None (Some f) s h i = absurd (cc)
  side-alike p (Some e) (Some f) None h i = tt
  side-alike p (Some e) (Some f) (Some q) h i = let same : expr_tree e ≡ expr_tree f = cc in polynomial-alike p e f q same i

  rate-alike : (p : Places) (o r : Option Expr) → option_map expr_tree o ≡ option_map expr_tree r → rate_of p o ≡ rate_of p r
  rate-alike p None None h = refl
  rate-alike p None (Some f) h = absurd (cc)
  rate-alike p (Some e) None h = absurd (cc)
  rate-alike p (Some e) (Some f) h = let same : expr_tree e ≡ expr_tree f = cc in known.coefficients_are (variables p) e f same

  over-alike : (p : Places) (o r : Option Expr) → option_map expr_tree o ≡ option_map expr_tree r → IfSome o (λ e. fits (own_weight p e) ≡ false) → IfSome r (λ e. fits (own_weight p e) ≡ false)
  over-alike p o None h i = tt
  over-alike p None (Some f) h i = absurd (cc)
  over-alike p (Some e) (Some f) h i = let same : expr_tree e ≡ expr_tree f = cc in sym (ap fits (own_weight-alike p e f same)) ∙ i

  module _ (p q : Package) (h : package_tree p ≡ package_tree q) where
    names : p.names ≡ q.names
    names = ap (λ (k : PackageTree). k.names) h

    rates : map expr_tree p.plant.rates ≡ map expr_tree q.plant.rates
    rates = ap (λ (k : PackageTree). k.rates) h

    -- the first with the names of the second
    abbrev named : Package
    named = with_names q.names p

    named_sides : (qs : List Scaled) → AreRightSides named qs → AreRightSides q qs
    named_sides qs a = record {
      count = a.count ∙ lengths_alike expr_tree p.plant.rates q.plant.rates rates;
      each = λ i. side-alike (model q) (slice_get p.plant.rates i) (slice_get q.plant.rates i) (slice_get qs i) (at_alike expr_tree p.plant.rates q.plant.rates rates i) (a.each i);
    }

    pub same_sides : (qs : List Scaled) → AreRightSides p qs → AreRightSides q qs
    same_sides qs a = named_sides qs (subst (λ (n : Names). AreRightSides (with_names n p) qs) names a)

    pub same_rates : rates_of p ≡ rates_of q
    same_rates =
        let named_rates : Names → ℕ → Coefficients = λ n i. rate_of (places_of n) (slice_get p.plant.rates i) in
        ap named_rates names
        ∙ fun_ext (λ i. rate-alike (model q) (slice_get p.plant.rates i) (slice_get q.plant.rates i) (at_alike expr_tree p.plant.rates q.plant.rates rates i))

    over : (i : ℕ) → IsOver named i → IsOver q i
    over i = over-alike (model q) (slice_get p.plant.rates i) (slice_get q.plant.rates i) (at_alike expr_tree p.plant.rates q.plant.rates rates i)

    over_back : (i : ℕ) → IsOver q i → IsOver named i
    over_back i = over-alike (model q) (slice_get q.plant.rates i) (slice_get p.plant.rates i) (sym (at_alike expr_tree p.plant.rates q.plant.rates rates i))

    linear : (qs : List Scaled) → AreLinear named qs → AreLinear q qs
    linear qs l = record { each = l.each }

    refuses : (e : FlowErr) → Refuses named e → Refuses q e
    refuses (flow.Rate name) r = record {
      state = r.state;
      named = r.named;
      has = over r.state r.has;
      first = λ j l o. r.first j l (over_back j o);
    }
    refuses (flow.NotLinear name) r = record { sides = r.sides; right = named_sides r.sides r.right; first = r.first }
    refuses (flow.Cycle cycle) r = record {
      sides = r.sides;
      right = named_sides r.sides r.right;
      linear = linear r.sides r.linear;
      test = r.test;
      exact = r.exact;
      all = r.all;
      some = r.some;
    }
    refuses (flow.Wide name) r = record {
      sides = r.sides;
      right = named_sides r.sides r.right;
      linear = linear r.sides r.linear;
      heights = r.heights;
      are_heights = r.are_heights;
      first = r.first;
    }
    refuses flow.Memory r = tt

    pub same_refusals : (e : FlowErr) → Refuses p e → Refuses q e
    same_refusals e r = refuses e (subst (λ (n : Names). Refuses (with_names n p) e) names r)
