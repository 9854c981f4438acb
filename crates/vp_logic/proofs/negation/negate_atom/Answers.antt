use Rattle.vp_logic.proofs.Negating.{negated_ge, negated_gt, negated_eq}
use Rattle.vp_logic.proofs.negation.negate_atom.Goals as goal

pub returns-in-Ge-clause-holds : goal.returns-in-Ge-clause-holds
returns-in-Ge-clause-holds c = λ x. rw c.compared.ensures (negated_ge c.args.atom.now c.in_ok-below.below x (c.in_ok-below.ensures.values x) c.in-Ge.is)

pub returns-in-Gt-clause-holds : goal.returns-in-Gt-clause-holds
returns-in-Gt-clause-holds c = λ x. rw c.compared-in-Gt.ensures (negated_gt c.args.atom.now c.in_ok-below.below x (c.in_ok-below.ensures.values x) c.in-Gt.is)

pub returns-in_ok-n-in-Eq-clause-holds : goal.returns-in_ok-n-in-Eq-clause-holds
returns-in_ok-n-in-Eq-clause-holds c =
    λ x.
    rw (c.in_ok-n-in-Eq.ensures, c.compared-in-Eq.ensures, c.compared-in-Eq-2.ensures) (negated_eq c.args.atom.now c.in_ok-below.below x (c.in_ok-below.ensures.values x) c.in_ok-above-in-Eq.above c.in_ok-above-in-Eq.ensures.same c.in-Eq.is)
