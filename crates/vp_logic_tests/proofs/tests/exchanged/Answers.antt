use Rattle.vp_logic_tests.proofs.tests.exchanged.Goals as goal

pub returns : goal.returns
returns c = c.swap.ensures.permutation
