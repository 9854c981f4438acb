use Rattle.std.proofs.Common.{◌≡◌, ◌+◌, ap, refl, sym, ◌∙◌, subst, map, false, min}
use Rattle.vp_poly.specs.Places.{places_for}
use Rattle.vp_cert.specs.Bounds.{product_size, size_of_term}
use Rattle.vp_cert.specs.Capped.{IsWithinWeight, greatest, scaled_size}
use Rattle.vp_cert.specs.Certificate.{Size, factors, labelled}
use Rattle.vp_cert.specs.Factors.{AreTermFactors}
use Rattle.vp_cert.proofs.Adding.{IsPartialSum-next, keeps, not_within, size_is}
use Rattle.vp_cert.proofs.Combining.{bounded}
use Rattle.vp_poly.specs.Poly.{IsWithin}
use Rattle.std.specs.List.{All}
use Rattle.vp_cert.proofs.refuting.sum_of_terms.Goals as goal

pub returns-then-not-are_small-clause-wide : goal.returns-then-not-are_small-clause-wide
returns-then-not-are_small-clause-wide c =
    let z : product_size (map scaled_size c.deref-in-loop-term.result.now) ≡ size_of_term (places_for c.args.counts) (labelled c.args.atoms.now c.args.places.now) c.term-item.result =
    size_is (places_for c.args.counts) (labelled c.args.atoms.now c.args.places.now) c.term-item.result c.in_ok-factors.factors.items c.deref-in-loop-term.result.now c.deref-in-loop-term.ensures.value c.in_ok-factors.ensures.factors in
    let f : c.are_small.result ≡ false = cc in
    λ e. not_within (places_for c.args.counts) (labelled c.args.atoms.now c.args.places.now) c.args.terms.now c.loop-term.term-index c.term-item.result c.loop-term.norms c.loop-term.count _ _ _ c.loop-term.sum c.loop-term-test.true c.term-item.is c.loop-term.invariant
    (c.saturating_add-norms.ensures ∙ ap (λ k. min (c.loop-term.norms + k) greatest) (c.product_size-size.ensures.norm ∙ ap (λ (k : Size). min k.norm greatest) z))
    (c.saturating_add-count.ensures ∙ ap (λ k. min (c.loop-term.count + k) greatest) (c.product_size-size.ensures.terms ∙ ap (λ (k : Size). min k.terms greatest) z))
    (c.product_size-size.ensures.degree ∙ ap (λ (k : Size). min k.degree greatest) z)
    (sym c.are_small.ensures ∙ f)

pub multiply-requires-clause-within : goal.multiply-requires-clause-within
multiply-requires-clause-within c =
    subst (All IsWithinWeight) (sym c.deref-in-loop-term-2.ensures.value)
    (bounded (factors (places_for c.args.counts) (labelled c.args.atoms.now c.args.places.now) c.term-item.result) c.in_ok-factors.factors.items c.in_ok-factors.ensures.factors)

pub loop-term-preserved : goal.loop-term-preserved
loop-term-preserved c =
    let z : product_size (map scaled_size c.deref-in-loop-term.result.now) ≡ size_of_term (places_for c.args.counts) (labelled c.args.atoms.now c.args.places.now) c.term-item.result =
    size_is (places_for c.args.counts) (labelled c.args.atoms.now c.args.places.now) c.term-item.result c.in_ok-factors.factors.items c.deref-in-loop-term.result.now c.deref-in-loop-term.ensures.value c.in_ok-factors.ensures.factors in
    let y : product_size (map scaled_size c.deref-in-loop-term-2.result.now) ≡ size_of_term (places_for c.args.counts) (labelled c.args.atoms.now c.args.places.now) c.term-item.result =
    size_is (places_for c.args.counts) (labelled c.args.atoms.now c.args.places.now) c.term-item.result c.in_ok-factors.factors.items c.deref-in-loop-term-2.result.now c.deref-in-loop-term-2.ensures.value c.in_ok-factors.ensures.factors in
    let lent : AreTermFactors (factors (places_for c.args.counts) (labelled c.args.atoms.now c.args.places.now) c.term-item.result) c.deref-in-loop-term-2.result.now =
    subst (AreTermFactors (factors (places_for c.args.counts) (labelled c.args.atoms.now c.args.places.now) c.term-item.result)) (sym c.deref-in-loop-term-2.ensures.value) c.in_ok-factors.ensures.factors in
    let k = keeps c.loop-term.norms c.loop-term.count c.saturating_add-norms.result c.saturating_add-count.result c.product_size-size.result.degree (size_of_term (places_for c.args.counts) (labelled c.args.atoms.now c.args.places.now) c.term-item.result)
    (c.saturating_add-norms.ensures ∙ ap (λ j. min (c.loop-term.norms + j) greatest) (c.product_size-size.ensures.norm ∙ ap (λ (j : Size). min j.norm greatest) z))
    (c.saturating_add-count.ensures ∙ ap (λ j. min (c.loop-term.count + j) greatest) (c.product_size-size.ensures.terms ∙ ap (λ (j : Size). min j.terms greatest) z))
    (c.product_size-size.ensures.degree ∙ ap (λ (j : Size). min j.degree greatest) z)
    (sym c.are_small.ensures ∙ c.if-not-are_small.false) in
    IsPartialSum-next c.coefficients_combine.ensures.sums (places_for c.args.counts) (labelled c.args.atoms.now c.args.places.now) c.args.terms.now c.loop-term.term-index c.term-item.result c.loop-term.norms c.loop-term.count c.saturating_add-norms.result c.saturating_add-count.result
    c.in_ok-product.product c.loop-term.sum c.in_ok-sum.sum c.loop-term-test.true c.term-item.is c.loop-term.invariant
    (record {
      product_coefficients = c.in_ok-product.ensures.coefficients (factors (places_for c.args.counts) (labelled c.args.atoms.now c.args.places.now) c.term-item.result) lent;
      product_within = subst (λ (j : Size). IsWithin c.in_ok-product.product j.norm j.degree j.terms) y c.in_ok-product.ensures.sizes;
      coefficients = c.in_ok-sum.ensures.coefficients;
      poly = c.in_ok-sum.ensures.canonical;
      within = c.in_ok-sum.ensures.sizes;
      fits = c.in_ok-factors.ensures.within refl;
      low = k.low;
      norms_are = k.norms_are;
      counts_are = k.counts_are;
      small = k.small;
      few = k.few;
    })
