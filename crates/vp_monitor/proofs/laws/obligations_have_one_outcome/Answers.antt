use Rattle.vp_monitor.proofs.OneSplit.{Known, few_alone, one_obligations, one_refusal}
use Rattle.vp_monitor.proofs.laws.obligations_have_one_outcome.Goals as goal

pub returns : goal.returns
returns c =
    let known : Known = record {
      polynomials = c.polynomials_are_unique.ensures.by_coefficients;
      forms = c.normal_forms_are_unique.ensures;
      counted = c.cases_split_parts.ensures.counted;
    } in
    record {
      obligations = one_obligations known;
      few_alone = few_alone known;
      refusals = one_refusal known;
    }
