use Rattle.std.proofs.Common.{◌≡◌, ◌++◌, drop, map}
use Rattle.std.specs.List.{flat_map}
use Rattle.std.specs.Prelude.{string_bytes}
use Rattle.vp_synth.specs.Printing.{later_text, polynomial_text}
use Rattle.vp_synth.proofs.printing.push_polynomial.Given as goal

abbrev pub invariant-loop-k : goal.invariant-loop-k
invariant-loop-k l = l.text.items ++ flat_map (later_text (map string_bytes l.variables)) (drop l.k l.poly) ≡ l.fn.text.items ++ polynomial_text (map string_bytes l.variables) l.poly
