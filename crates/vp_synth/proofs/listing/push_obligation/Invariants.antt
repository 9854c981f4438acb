use Rattle.std.proofs.Common.{◌≡◌, ◌+◌, ◌++◌, drop, map}
use Rattle.std.specs.Prelude.{string_bytes}
use Rattle.vp_logic.specs.Cases.{lists}
use Rattle.vp_synth.specs.Listing.{lines_of, obligation_lines}
use Rattle.vp_synth.proofs.listing.push_obligation.Given as goal

abbrev pub invariant-loop-k : goal.invariant-loop-k
invariant-loop-k l = l.text.items ++ obligation_lines (map string_bytes l.variables) l.obligation.part l.obligation.atoms (l.k + 1) (lists (drop l.k l.obligation.cases)) ≡ l.initial.text.items ++ lines_of (map string_bytes l.variables) l.obligation
