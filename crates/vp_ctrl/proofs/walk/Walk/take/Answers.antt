use Rattle.vp_poly.specs.Places.{places_for}
use Rattle.vp_ctrl.proofs.Good.{path_variables, path_variables_of}
use Rattle.vp_ctrl.proofs.Coming.{on_ok, any_come, any_wide}
use Rattle.vp_ctrl.proofs.walk.Walk.take.Goals as goal

pub put-requires-clause-variables : goal.put-requires-clause-variables
put-requires-clause-variables c =
    let g = rw c.in-Assign.is at c.requires.good in
    path_variables (places_for c.args.counts) c.in-Assign.value.now g.1

pub test-requires-clause-variables : goal.test-requires-clause-variables
test-requires-clause-variables c =
    let g = rw c.in-Test.is at c.requires.good in
    path_variables_of (places_for c.args.counts) c.in-Test.formula.now g

pub test-requires-in-Deny-clause-variables : goal.test-requires-in-Deny-clause-variables
test-requires-in-Deny-clause-variables c =
    let g = rw c.in-Deny.is at c.requires.good in
    path_variables_of (places_for c.args.counts) c.in-Deny.formula.now g

pub returns-in-Any-clause-come : goal.returns-in-Any-clause-come
returns-in-Any-clause-come c =
    λ s rs cs h.
    rw c.in-Any.is (on_ok c.put-in-Any.result _ _ (any_come (places_for c.args.counts) c.args.self.now c.put-in-Any.new.self s rs cs c.in-Any.control h) (c.put-in-Any.ensures.come s rs cs h))

pub returns-in-Any-clause-wide : goal.returns-in-Any-clause-wide
returns-in-Any-clause-wide c =
    λ s rs cs h e.
    let g = rw c.in-Any.is at c.requires.good in
    rw c.in-Any.is (any_wide (places_for c.args.counts) rs cs c.in-Any.control g (c.put-in-Any.ensures.wide s rs cs h e))
