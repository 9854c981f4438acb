use Rattle.std.proofs.Common.{◌≡◌, ◌+◌, ◌++◌, drop, map}
use Rattle.std.specs.Prelude.{string_bytes}
use Rattle.vp_synth.specs.Listing.{case_lines}
use Rattle.vp_synth.proofs.listing.push_case.Given as goal

abbrev pub invariant-loop-k : goal.invariant-loop-k
invariant-loop-k l = l.text.items ++ case_lines (map string_bytes l.variables) l.obligation.part l.number l.obligation.atoms (l.k + 1) (drop l.k l.case) ≡ l.initial.text.items ++ case_lines (map string_bytes l.variables) l.obligation.part l.number l.obligation.atoms 1 l.case
