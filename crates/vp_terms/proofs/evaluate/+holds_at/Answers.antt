use Rattle.std.proofs.Common.{◌∙◌}
use Rattle.vp_terms.proofs.Orders.{same_comparison}
use Rattle.vp_terms.proofs.evaluate.+holds_at.Goals as goal

pub returns-in_ok-right-in-Cmp-clause-exact : goal.returns-in_ok-right-in-Cmp-clause-exact
returns-in_ok-right-in-Cmp-clause-exact t c =
    rw c.in-Cmp.is (c.compares.ensures ∙ same_comparison _ _ _ _ _ c.in_ok-left-in-Cmp.ensures.exact c.in_ok-right-in-Cmp.ensures.exact)
