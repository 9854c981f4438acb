use Rattle.std.proofs.Common.{◌<◌, length, ◌+◌, ◌*◌}
use Rattle.vp_terms.specs.Tree.{formula_tree}
use Rattle.vp_grammar.specs.Grammar.{precedence}
use Rattle.vp_grammar.proofs.FormulaSteps.{DisjunctionSoFar, ConjunctionSoFar}
use Rattle.vp_grammar.proofs.formula.+formula.Given as goal

abbrev pub decreases-group : goal.decreases-group
decreases-group l = 5 * length l.terminals.now + 4

abbrev pub decreases-disjunction : goal.decreases-disjunction
decreases-disjunction l = 5 * length l.terminals.now + 3

abbrev pub decreases-conjunction : goal.decreases-conjunction
decreases-conjunction l = 5 * length l.terminals.now + 2

abbrev pub decreases-literal : goal.decreases-literal
decreases-literal l = 5 * length l.terminals.now + 1

abbrev pub decreases-bare_literal : goal.decreases-bare_literal
decreases-bare_literal l = 5 * length l.terminals.now

abbrev pub invariant-disjunction-ors : goal.invariant-disjunction-ors
invariant-disjunction-ors l = record {
  so_far : DisjunctionSoFar l.terminals (formula_tree l.formula) l.rest;
  ready : precedence l.rest < 2;
  shorter : length l.rest < length l.terminals;
}

abbrev pub decreases-disjunction-ors : goal.decreases-disjunction-ors
decreases-disjunction-ors l = length l.rest

abbrev pub invariant-conjunction-ands : goal.invariant-conjunction-ands
invariant-conjunction-ands l = record {
  so_far : ConjunctionSoFar l.terminals (formula_tree l.formula) l.rest;
  ready : precedence l.rest < 3;
  shorter : length l.rest < length l.terminals;
}

abbrev pub decreases-conjunction-ands : goal.decreases-conjunction-ands
decreases-conjunction-ands l = length l.rest
