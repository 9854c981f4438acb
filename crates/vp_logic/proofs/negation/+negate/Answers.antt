use Rattle.vp_logic.proofs.Negating.{none_of}
use Rattle.vp_logic.proofs.negation.+negate.Goals as goal

pub negate_each-returns-in_ok-new-in-More-clause-all : goal.negate_each-returns-in_ok-new-in-More-clause-all
negate_each-returns-in_ok-new-in-More-clause-all t c =
    λ x.
    let rest = rw c.deref.ensures at (c.in_ok-rest-in-More.ensures.all x) in
    rw (c.in_ok-new-in-More.ensures.ok, c.in-More.is) (none_of _ _ _ _ (c.in_ok-first-in-More.ensures.holds x) rest)
