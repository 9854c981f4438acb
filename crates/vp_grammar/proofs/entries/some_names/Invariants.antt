use Rattle.std.proofs.Common.{length}
use Rattle.vp_grammar.specs.EntryReads.{IsName}
use Rattle.vp_grammar.proofs.Lists.{ListedSoFar}
use Rattle.vp_grammar.proofs.EntrySteps.{comma}
use Rattle.vp_grammar.proofs.entries.some_names.Given as goal

abbrev pub invariant-names : goal.invariant-names
invariant-names l = record {
  so_far : ListedSoFar IsName comma l.terminals l.found.items l.rest;
}

abbrev pub decreases-names : goal.decreases-names
decreases-names l = length l.rest
