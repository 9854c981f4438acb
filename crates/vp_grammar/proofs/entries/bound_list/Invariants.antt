use Rattle.std.proofs.Common.{length, map}
use Rattle.vp_terms.specs.Packages.{slack_tree}
use Rattle.vp_grammar.specs.EntryReads.{IsBound}
use Rattle.vp_grammar.proofs.Lists.{ListedSoFar}
use Rattle.vp_grammar.proofs.EntrySteps.{comma}
use Rattle.vp_grammar.proofs.entries.bound_list.Given as goal

abbrev pub invariant-bounds : goal.invariant-bounds
invariant-bounds l = record {
  so_far : ListedSoFar IsBound comma l.terminals (map slack_tree l.found.items) l.rest;
}

abbrev pub decreases-bounds : goal.decreases-bounds
decreases-bounds l = length l.rest
