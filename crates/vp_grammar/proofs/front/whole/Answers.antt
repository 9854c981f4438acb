use Rattle.std.proofs.Common.{rules}
use Rattle.vp_grammar.proofs.front.whole.Goals as goal

pub returns-in-Some-Number-default-true-default : goal.returns-in-Some-Number-default-true-default
returns-in-Some-Number-default-true-default c =
    (c.in-Some-Number-default-true-default.number, search rules, c.numerator.ensures)
