use Rattle.std.proofs.Common.{◌<◌, length, ◌+◌, ◌*◌}
use Rattle.vp_terms.specs.Tree.{expr_tree}
use Rattle.vp_grammar.specs.Grammar.{precedence}
use Rattle.vp_grammar.proofs.Steps.{TermSoFar, SumSoFar}
use Rattle.vp_grammar.proofs.expression.+expr.Given as goal

abbrev pub decreases-base : goal.decreases-base
decreases-base l = 5 * length l.terminals.now

abbrev pub decreases-expression : goal.decreases-expression
decreases-expression l = 5 * length l.terminals.now + 4

abbrev pub decreases-factor : goal.decreases-factor
decreases-factor l = 5 * length l.terminals.now + 1

abbrev pub decreases-start : goal.decreases-start
decreases-start l = 5 * length l.terminals.now + 3

abbrev pub decreases-term : goal.decreases-term
decreases-term l = 5 * length l.terminals.now + 2

abbrev pub invariant-expression-terms : goal.invariant-expression-terms
invariant-expression-terms l = record {
  so_far : SumSoFar l.terminals (expr_tree l.sum) l.rest;
  ready : precedence l.rest < 4;
  shorter : length l.rest < length l.terminals;
}

abbrev pub decreases-expression-terms : goal.decreases-expression-terms
decreases-expression-terms l = length l.rest

abbrev pub invariant-term-factors : goal.invariant-term-factors
invariant-term-factors l = record {
  so_far : TermSoFar l.terminals (expr_tree l.product) l.rest;
  ready : precedence l.rest < 5;
  shorter : length l.rest < length l.terminals;
}

abbrev pub decreases-term-factors : goal.decreases-term-factors
decreases-term-factors l = length l.rest
