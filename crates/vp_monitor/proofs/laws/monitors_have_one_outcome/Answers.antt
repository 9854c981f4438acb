use Rattle.vp_monitor.proofs.OneList.{Known, one_monitors}
use Rattle.vp_monitor.proofs.OneRefusal.{KnownFlows, one_refusal, passes_alone}
use Rattle.vp_monitor.proofs.laws.monitors_have_one_outcome.Goals as goal

pub returns : goal.returns
returns c =
    let known : Known = record {
      canonical = c.polynomials_are_unique.ensures.canonical;
      forms = c.normal_forms_are_unique.ensures;
      paths = c.paths_are_unique.ensures.paths;
      sides = c.sides_and_heights_are_unique.ensures.sides;
      heights = c.sides_and_heights_are_unique.ensures.heights;
    } in
    let flows : KnownFlows = record { alone = c.one_outcome.ensures.flows_alone; one = c.one_outcome.ensures.refusals } in
    record {
      monitors = one_monitors known;
      passes_alone = λ pkg good e p r. passes_alone known flows pkg good e p r;
      refusals = λ pkg good e f m n a b. one_refusal known flows pkg good e f m n a b;
    }
