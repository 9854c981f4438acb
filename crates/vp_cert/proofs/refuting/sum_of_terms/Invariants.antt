use Rattle.std.proofs.Common.{take}
use Rattle.vp_poly.specs.Places.{places_for}
use Rattle.vp_cert.specs.Certificate.{labelled}
use Rattle.vp_cert.specs.Sums.{IsPartialSum}
use Rattle.vp_cert.proofs.refuting.sum_of_terms.Given as goal

abbrev pub invariant-loop-term : goal.invariant-loop-term
invariant-loop-term l = IsPartialSum (places_for l.counts) (labelled l.atoms l.places) (take l.term-index l.terms) l.norms l.count l.sum
