use Rattle.std.proofs.Common.{sym, subst}
use Rattle.vp_terms.specs.declared.package.CertTerm.{CertTerm}
use Rattle.vp_poly.specs.Places.{places_for}
use Rattle.vp_cert.specs.Certificate.{factors, labelled}
use Rattle.vp_cert.specs.Factors.{AreTermFactors}
use Rattle.vp_cert.proofs.Combining.{sum_factors}
use Rattle.vp_cert.proofs.factor.factors_of.Goals as goal

pub returns-in_ok-append-in-Sum-2-clause-factors : goal.returns-in_ok-append-in-Sum-2-clause-factors
returns-in_ok-append-in-Sum-2-clause-factors c =
    subst (λ (t : CertTerm). AreTermFactors (factors (places_for c.args.counts) (labelled c.args.atoms.now c.args.places.now) t) c.append-in-Sum-2.new.self.items) (sym c.in-Sum.is)
    (sum_factors (places_for c.args.counts) (labelled c.args.atoms.now c.args.places.now) c.in-Sum.times c.in-Sum.squares c.get-in-Sum.result.now c.in-Sum.labels c.get-in-Sum-2.result.now c.in_ok-all-in-Sum.all.items c.in_ok-twice-in-Sum.twice.items c.in_ok-atoms-in-Sum.atoms.items c.append-in-Sum.new.self.items c.append-in-Sum-2.new.self.items
    c.get-in-Sum.ensures c.get-in-Sum-2.ensures c.in_ok-all-in-Sum.ensures c.in_ok-twice-in-Sum.ensures.factors c.in_ok-atoms-in-Sum.ensures c.in_ok-append-in-Sum.ensures.items c.in_ok-append-in-Sum-2.ensures.items)
