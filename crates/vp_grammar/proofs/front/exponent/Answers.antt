use Rattle.vp_grammar.proofs.Steps.{exponent_raises, exponent_fails}
use Rattle.vp_grammar.proofs.front.exponent.Goals as goal

pub returns-in-Some-exponent_of : goal.returns-in-Some-exponent_of
returns-in-Some-exponent_of c =
    exponent_raises c.args.terminals.now c.in-Some.rest.now c.in-Some-exponent_of.after.now c.in-Some-exponent_of.power c.in-Some.ensures c.in-Some-exponent_of.ensures

pub returns-in-None-exponent_of : goal.returns-in-None-exponent_of
returns-in-None-exponent_of c = exponent_fails c.args.terminals.now c.in-Some.rest.now c.in-Some.ensures c.in-None-exponent_of.ensures
