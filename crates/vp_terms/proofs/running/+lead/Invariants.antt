use Rattle.std.proofs.Common.{◌+◌, ◌*◌}
use Rattle.vp_terms.proofs.Weights.{prog_weight, rest_weight}
use Rattle.vp_terms.proofs.running.+lead.Given as goal

abbrev pub decreases-leads : goal.decreases-leads
decreases-leads l = 3 * (prog_weight l.prog.now + rest_weight l.rest.now)

abbrev pub decreases-goes_on : goal.decreases-goes_on
decreases-goes_on l = 3 * rest_weight l.rest.now + 1

abbrev pub decreases-goes_on_with : goal.decreases-goes_on_with
decreases-goes_on_with l = 3 * rest_weight l.rest.now + 2
