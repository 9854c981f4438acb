use Rattle.std.proofs.Common.{length, map}
use Rattle.vp_terms.specs.Tree.{expr_tree}
use Rattle.vp_grammar.specs.EntryReads.{IsEntry}
use Rattle.vp_grammar.proofs.Lists.{ListedSoFar}
use Rattle.vp_grammar.proofs.EntrySteps.{comma}
use Rattle.vp_grammar.proofs.entries.entry_list.Given as goal

abbrev pub invariant-entries : goal.invariant-entries
invariant-entries l = record {
  so_far : ListedSoFar (IsEntry l.mark) comma l.terminals (map expr_tree l.found.items) l.rest;
}

abbrev pub decreases-entries : goal.decreases-entries
decreases-entries l = length l.rest
