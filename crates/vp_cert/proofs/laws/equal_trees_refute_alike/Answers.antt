use Rattle.vp_cert.proofs.SameTerms.{Known, same_bounds, same_refusals, same_refuted}
use Rattle.vp_cert.proofs.laws.equal_trees_refute_alike.Goals as goal

pub returns : goal.returns
returns c =
    let known : Known = record {
      weights = c.equal_trees_have_one_polynomial.ensures.weights;
      coefficients_are = c.equal_trees_have_one_polynomial.ensures.coefficients;
      values = c.equal_trees_mean_the_same.ensures.values;
    } in
    record {
      refutes = same_refuted known;
      bounds = same_bounds known;
      refusals = λ p h ts us e g r. same_refusals known p h ts us g e r;
    }
