use Rattle.std.proofs.Common.{◌≡◌, ◌+◌, ◌++◌, drop, map}
use Rattle.std.specs.Prelude.{string_bytes}
use Rattle.vp_logic.specs.Tree.{tree}
use Rattle.vp_synth.specs.Listing.{form_lines}
use Rattle.vp_synth.proofs.listing.push_forms.Given as goal

abbrev pub invariant-loop-k : goal.invariant-loop-k
invariant-loop-k l = l.text.items ++ form_lines (map string_bytes l.variables) l.kind (l.k + 1) (map tree (drop l.k l.forms)) ≡ l.initial.text.items ++ form_lines (map string_bytes l.variables) l.kind 1 (map tree l.forms)
