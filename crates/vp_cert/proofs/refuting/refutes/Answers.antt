use Rattle.std.proofs.Common.{◌≡◌, ap, refl, sym, ◌∙◌, subst, true, List, [], ◌∷◌, None, slice_get}
use Rattle.std.specs.List.{list_all}
use Rattle.vp_terms.specs.declared.package.CertTerm.{CertTerm}
use Rattle.vp_poly.specs.declared.mono.Term.{Term}
use Rattle.vp_poly.specs.Places.{places_for}
use Rattle.vp_poly.specs.Times.{HasCoefficients}
use Rattle.vp_cert.specs.Certificate.{labelled, labels_fit, begins_strict, total_coefficients}
use Rattle.vp_cert.specs.Bounds.{is_within_bounds}
use Rattle.vp_cert.specs.Refusals.{Refuses}
use Rattle.vp_cert.proofs.Refuted.{first_left, refutes_of}
use Rattle.vp_cert.proofs.refuting.refutes.Goals as goal

empty : (ts : List Term) → slice_get ts 0 ≡ None → ts ≡ []
empty [] e = refl
empty (t ∷ ts) e = absurd (cc)

pub returns-clause-refutes : goal.returns-clause-refutes
returns-clause-refutes c =
    let e = c.get-terms.ensures in
    let l : c.all_labels_fit.result ≡ true = cc in
    let b : c.begins_strict.result ≡ true = cc in
    refutes_of (places_for c.args.counts) (labelled c.args.atoms.now c.args.places.now) c.args.cert.now.terms c.in_ok-sum.sum
    (ap (list_all (labels_fit (labelled c.args.atoms.now c.args.places.now))) (sym e) ∙ sym c.all_labels_fit.ensures ∙ l)
    (ap (begins_strict (labelled c.args.atoms.now c.args.places.now)) (sym e) ∙ sym c.begins_strict.ensures ∙ b)
    (empty c.in_ok-sum.sum (sym c.first_term.ensures.first ∙ c.in-None.is))
    (subst (λ (ts : List CertTerm). HasCoefficients 1 c.in_ok-sum.sum (total_coefficients (places_for c.args.counts) (labelled c.args.atoms.now c.args.places.now) ts)) e c.in_ok-sum.ensures.coefficients)

pub returns-clause-sound : goal.returns-clause-sound
returns-clause-sound c =
    let e = c.get-terms.ensures in
    let l : c.all_labels_fit.result ≡ true = cc in
    let b : c.begins_strict.result ≡ true = cc in
    c.refuted_cases_never_hold.ensures (places_for c.args.counts) c.requires.counts.2 c.args.atoms.now c.requires.polynomials c.args.places.now c.args.cert.now c.requires.form c.requires.good
    (refutes_of (places_for c.args.counts) (labelled c.args.atoms.now c.args.places.now) c.args.cert.now.terms c.in_ok-sum.sum
    (ap (list_all (labels_fit (labelled c.args.atoms.now c.args.places.now))) (sym e) ∙ sym c.all_labels_fit.ensures ∙ l)
    (ap (begins_strict (labelled c.args.atoms.now c.args.places.now)) (sym e) ∙ sym c.begins_strict.ensures ∙ b)
    (empty c.in_ok-sum.sum (sym c.first_term.ensures.first ∙ c.in-None.is))
    (subst (λ (ts : List CertTerm). HasCoefficients 1 c.in_ok-sum.sum (total_coefficients (places_for c.args.counts) (labelled c.args.atoms.now c.args.places.now) ts)) e c.in_ok-sum.ensures.coefficients))
    (ap (is_within_bounds (places_for c.args.counts) (labelled c.args.atoms.now c.args.places.now)) (sym e) ∙ c.in_ok-sum.ensures.within refl)

pub returns-in-Some-clause-refused : goal.returns-in-Some-clause-refused
returns-in-Some-clause-refused c =
    let e = c.get-terms.ensures in
    let l : c.all_labels_fit.result ≡ true = cc in
    let b : c.begins_strict.result ≡ true = cc in
    subst (Refuses (places_for c.args.counts) (labelled c.args.atoms.now c.args.places.now) c.args.cert.now.terms) (sym c.left_at.ensures) (
      record {
        labels = ap (list_all (labels_fit (labelled c.args.atoms.now c.args.places.now))) (sym e) ∙ sym c.all_labels_fit.ensures ∙ l;
        strict = ap (begins_strict (labelled c.args.atoms.now c.args.places.now)) (sym e) ∙ sym c.begins_strict.ensures ∙ b;
        within = ap (is_within_bounds (places_for c.args.counts) (labelled c.args.atoms.now c.args.places.now)) (sym e) ∙ c.in_ok-sum.ensures.within refl;
      },
      first_left c.polynomials_are_ordered.ensures (places_for c.args.counts) (labelled c.args.atoms.now c.args.places.now) c.args.cert.now.terms c.in_ok-sum.sum c.in-Some.term c.in_ok-sum.ensures.canonical
          (subst (λ (ts : List CertTerm). HasCoefficients 1 c.in_ok-sum.sum (total_coefficients (places_for c.args.counts) (labelled c.args.atoms.now c.args.places.now) ts)) e c.in_ok-sum.ensures.coefficients) (sym c.first_term.ensures.first ∙ c.in-Some.is) c.in-Some.ensures.nonzero c.in-Some.ensures.coefficient,
    )
