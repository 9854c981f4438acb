use Rattle.vp_cert.proofs.Combining.{capped_norm, capped_terms, capped_degree}
use Rattle.vp_cert.proofs.size.product_size.Goals as goal

pub loop-factor-preserved : goal.loop-factor-preserved
loop-factor-preserved c = record {
  norm = capped_norm c.args.factors.now c.loop-factor.factor-index c.factor-item.result c.loop-factor.norm c.norm_of.result _ _ c.loop-factor-test.true c.factor-item.is c.loop-factor.invariant.norm c.norm_of.ensures c.saturating_mul-norm.ensures;
  terms = capped_terms c.args.factors.now c.loop-factor.factor-index c.factor-item.result c.loop-factor.terms c.terms_of.result _ _ c.loop-factor-test.true c.factor-item.is c.loop-factor.invariant.terms c.terms_of.ensures c.saturating_mul-terms.ensures;
  degree = capped_degree c.args.factors.now c.loop-factor.factor-index c.factor-item.result c.loop-factor.degree c.degree_of.result _ _ c.loop-factor-test.true c.factor-item.is c.loop-factor.invariant.degree c.degree_of.ensures c.saturating_add-degree.ensures;
}
