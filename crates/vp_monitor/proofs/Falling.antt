-- The polynomials of the fallback, one after the other.
use Rattle.std.proofs.Common.{◌≡◌, ◌⊎◌, inl, inr, ℕ, ◌+◌, ◌<◌, ◌≤◌, Bool, List, [], ◌∷◌, ◌++◌, length, take, slice_get, get_or, false, refl, sym, ap, ◌∙◌, subst, arith, pos, All}
use Rattle.std.specs.Prelude.{Some}
use Rattle.std.proofs.lemmas.Option.{get_or_from_slice_get, slice_get-get_or}
use Rattle.std.proofs.lemmas.List.{take_all, take_more}
use Rattle.std.proofs.lemmas.List.Elements.{All-append, All-cons, All-nil}
use Rattle.vp_words.specs.declared.record.Counts.{Counts}
use Rattle.vp_terms.specs.Meaning.{Assignment, value}
use Rattle.vp_terms.specs.Rational.{Rational, Equals, product, whole}
use Rattle.vp_terms.specs.declared.expr.Expr.{Expr}
use Rattle.vp_terms.specs.declared.expr.Places.{Places}
use Rattle.vp_terms.specs.declared.package.Package.{Package}
use Rattle.vp_terms.proofs.RationalLaws.{Equals-sym, chain}
use Rattle.vp_poly.specs.declared.mono.Term.{Term}
use Rattle.vp_poly.specs.Canonical.{IsCanonical, variables}
use Rattle.vp_poly.specs.Coefficient.{coefficients}
use Rattle.vp_poly.specs.Places.{HaveOnly, places_for}
use Rattle.vp_poly.specs.Points.{IsAt}
use Rattle.vp_poly.specs.Times.{IsTimes}
use Rattle.vp_poly.specs.Value.{Point, value_at}
use Rattle.vp_poly.proofs.ProductValues.{product-one}
use Rattle.vp_flow.specs.Sides.{model}
use Rattle.vp_monitor.specs.declared.error.MonErr.{MonErr}
use Rattle.vp_monitor.specs.declared.error.MonErr.TheVariants.{Wide, Paths, Hidden, NotLinear, Cycle, Fraction, Cases, Memory}
use Rattle.vp_monitor.specs.declared.error.Place.TheVariants as at
use Rattle.vp_terms.specs.declared.expr.Expr.TheVariants.{Var as Variable}
use Rattle.vp_terms.specs.declared.expr.Var.TheVariants.{NextControl}
use Rattle.vp_poly.specs.declared.canonical.PolyErr.{PolyErr}
use Rattle.vp_poly.specs.declared.canonical.PolyErr.TheVariants as poly
use Rattle.vp_monitor.specs.Errors.{of_poly}
use Rattle.vp_monitor.specs.Fallback.{AreValuesOf, TellsFallback}
use Rattle.vp_monitor.specs.Meaning.{AllowsModel, IsSmall}
use Rattle.vp_monitor.specs.Monitors.{ArePolynomialsOf}
use Rattle.vp_monitor.specs.Refusals.{FallbackGoodBelow, IsFallbackGood, IsFallbackOver, IsFraction, RefusesFallback, difference_fits}

-- once a rational is the rational
pub value_once : (d : ℕ) (v q : Rational) → d ≡ 1 → IsTimes d v q → Equals v q
value_once d v q e t = chain (subst (λ (n : ℕ). Equals v (product (whole (pos n)) q)) e t.same) (Equals-sym _ _ (product-one q))

polynomials-append : (p : Places) (es : List Expr) (qs : List (List Term)) (e : Expr) (q : List Term) → ArePolynomialsOf p es qs → IsCanonical 1 q (coefficients (variables p) e) → ArePolynomialsOf p (es ++ e ∷ []) (qs ++ q ∷ [])
polynomials-append p [] [] e q h k = (k, tt)
polynomials-append p [] (r ∷ qs) e q h k = absurd h
polynomials-append p (d ∷ es) [] e q h k = absurd h
polynomials-append p (d ∷ es) (r ∷ qs) e q h k = (h.0, polynomials-append p es qs e q h.1 k)

values-append : (z : Point) (a : Assignment) (es : List Expr) (qs : List (List Term)) (e : Expr) (q : List Term) → AreValuesOf z a es qs → Equals (value_at q z) (value e a) → AreValuesOf z a (es ++ e ∷ []) (qs ++ q ∷ [])
values-append z a [] [] e q h k = (k, tt)
values-append z a [] (r ∷ qs) e q h k = absurd h
values-append z a (d ∷ es) [] e q h k = absurd h
values-append z a (d ∷ es) (r ∷ qs) e q h k = (h.0, values-append z a es qs e q h.1 k)

-- the polynomials of the first n expressions
pub record HaveCome (c : Counts) (es : List Expr) (n : ℕ) (qs : List (List Term)) : Type 0 where
  pub are : ArePolynomialsOf (places_for c) (take n es) qs
  pub good : FallbackGoodBelow (places_for c) es n
  pub values : (z : Point) (a : Assignment) → IsAt (places_for c) z a → AreValuesOf z a (take n es) qs
  pub small : All IsSmall qs
  pub only : (allowed : ℕ → Bool) → AllowsModel (places_for c) allowed → All (HaveOnly allowed) qs

pub come_none : (c : Counts) (es : List Expr) (qs : List (List Term)) → qs ≡ [] → HaveCome c es 0 qs
come_none c es qs e = subst (HaveCome c es 0) (sym e) (record {
  are = tt;
  good = λ k d l. absurd (omega arith);
  values = λ z a i. tt;
  small = All-nil IsSmall;
  only = λ f h. All-nil (HaveOnly f);
})

below_more : (c : Counts) (es : List Expr) (n : ℕ) (e : Expr) → e ≡ get_or es n e → FallbackGoodBelow (places_for c) es n → IsFallbackGood (places_for c) n e → FallbackGoodBelow (places_for c) es (n + 1)
below_more c es n e is h k = λ j d l g. by (same_or_below j n (omega arith)) g
  where
    same_or_below : (j n : ℕ) → j < n + 1 → (j ≡ n) ⊎ (j < n)
    same_or_below j n l = grind arith

    by : {j : ℕ} {d : Expr} → (j ≡ n) ⊎ (j < n) → slice_get es j ≡ Some d → IsFallbackGood (places_for c) j d
    by {j} {d} (inl q) g =
        let r : e ≡ d = is ∙ get_or_from_slice_get es n d e (subst (λ (i : ℕ). slice_get es i ≡ Some d) q g) in
        subst (λ (i : ℕ). IsFallbackGood (places_for c) i d) (sym q) (subst (IsFallbackGood (places_for c) n) r k)
    by {j} {d} (inr l) g = h j d l g

pub come_more : (c : Counts) (es : List Expr) (n : ℕ) (e : Expr) (q : List Term) (qs rs : List (List Term)) → n < length es → e ≡ get_or es n e → HaveCome c es n qs → rs ≡ qs ++ q ∷ [] → IsCanonical 1 q (coefficients (variables (places_for c)) e) → IsFallbackGood (places_for c) n e →
    ((z : Point) (a : Assignment) → IsAt (places_for c) z a → Equals (value_at q z) (value e a)) → IsSmall q → ((allowed : ℕ → Bool) → AllowsModel (places_for c) allowed → HaveOnly allowed q) → HaveCome c es (n + 1) rs
come_more c es n e q qs rs l is h same canonical good values small only = subst (HaveCome c es (n + 1)) (sym same) (record {
  are = subst (λ (ds : List Expr). ArePolynomialsOf (places_for c) ds (qs ++ q ∷ [])) (sym front) (polynomials-append (places_for c) (take n es) qs e q h.are canonical);
  good = below_more c es n e is h.good good;
  values = λ z a i. subst (λ (ds : List Expr). AreValuesOf z a ds (qs ++ q ∷ [])) (sym front) (values-append z a (take n es) qs e q (h.values z a i) (values z a i));
  small = All-append IsSmall qs (q ∷ []) h.small (All-cons IsSmall q [] small (All-nil IsSmall));
  only = λ f a. All-append (HaveOnly f) qs (q ∷ []) (h.only f a) (All-cons (HaveOnly f) q [] (only f a) (All-nil (HaveOnly f)));
})
  where
    front : take (n + 1) es ≡ take n es ++ e ∷ []
    front = take_more es n e l ∙ ap (λ (d : Expr). take n es ++ d ∷ []) (sym is)

pub come_all : (c : Counts) (es : List Expr) (n : ℕ) (qs : List (List Term)) → length es ≤ n → HaveCome c es n qs → ArePolynomialsOf (places_for c) es qs × FallbackGoodBelow (places_for c) es (length es) × ((z : Point) (a : Assignment) → IsAt (places_for c) z a → AreValuesOf z a es qs)
come_all c es n qs l h = (
  subst (λ (ds : List Expr). ArePolynomialsOf (places_for c) ds qs) (take_all n es l) h.are,
  λ k d m g. h.good k d (omega arith) g,
  λ z a i. subst (λ (ds : List Expr). AreValuesOf z a ds qs) (take_all n es l) (h.values z a i),
)

-- the first refusal
pub refused_at : (pkg : Package) (c : Counts) (n : ℕ) (e : Expr) (f : MonErr) → places_for c ≡ model pkg → n < length pkg.fallback → e ≡ get_or pkg.fallback n e → FallbackGoodBelow (places_for c) pkg.fallback n →
    TellsFallback (places_for c) pkg.names.controls n e f → RefusesFallback pkg f
refused_at pkg c n e (Wide at.Init) s l is h t = absurd t
refused_at pkg c n e (Wide at.Inv) s l is h t = absurd t
refused_at pkg c n e (Wide at.Safe) s l is h t = absurd t
refused_at pkg c n e (Wide at.Ctrl) s l is h t = absurd t
refused_at pkg c n e (Wide (at.Flow i)) s l is h t = absurd t
refused_at pkg c n e (Wide at.Time) s l is h t = absurd t
refused_at pkg c n e (Wide (at.Slack i)) s l is h t = absurd t
refused_at pkg c n e (Wide at.Domain) s l is h t = absurd t
refused_at pkg c n e (Wide (at.Fallback k)) s l is h t =
    let P : ℕ → Places → Type 0 = λ j p. IsFallbackOver p pkg.fallback j × FallbackGoodBelow p pkg.fallback j in
    subst (λ (p : Places). P k p) s (subst (λ (j : ℕ). P j (places_for c)) (sym t.0) ((e, slice_get-get_or pkg.fallback n e l ∙ ap Some (sym is), t.1), h))
refused_at pkg c n e (Paths k) s l is h t = absurd t
refused_at pkg c n e (Hidden k) s l is h t = absurd t
refused_at pkg c n e (NotLinear k) s l is h t = absurd t
refused_at pkg c n e (Cycle k) s l is h t = absurd t
refused_at pkg c n e (Fraction name) s l is h t =
    let P : Places → Type 0 = λ p. IsFraction p pkg.fallback n × FallbackGoodBelow p pkg.fallback n in
    let q = subst P s ((e, slice_get-get_or pkg.fallback n e l ∙ ap Some (sym is), t.1, t.2), h) in
    (n, t.0, q.0, q.1)
refused_at pkg c n e (Cases k m) s l is h t = absurd t
refused_at pkg c n e Memory s l is h t = tt

-- why there is no polynomial
pub tells_over : (p : Places) (names : List (List ℕ)) (k : ℕ) (e : Expr) (r : PolyErr) → (r ≡ poly.Wide → difference_fits p (Variable (NextControl k)) e ≡ false) → TellsFallback p names k e (of_poly (at.Fallback k) r)
tells_over p names k e poly.Wide h = (refl, h refl)
tells_over p names k e poly.Memory h = tt
