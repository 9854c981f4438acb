use Rattle.vp_flow.proofs.Outcomes.{one_flows, one_or_other, one_refusal}
use Rattle.vp_flow.proofs.laws.one_outcome.Goals as goal

pub returns : goal.returns
returns c = record {
  flows = one_flows c.polynomials_are_unique.ensures.canonical;
  flows_alone = one_or_other c.polynomials_are_unique.ensures.canonical;
  refusals = one_refusal c.polynomials_are_unique.ensures.canonical;
}
