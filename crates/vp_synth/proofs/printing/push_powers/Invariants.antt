use Rattle.std.proofs.Common.{◌≡◌, ◌++◌, drop, length, map}
use Rattle.std.specs.Prelude.{string_bytes}
use Rattle.vp_synth.specs.Factors.{factors_behind}
use Rattle.vp_synth.specs.Printing.{power_texts}
use Rattle.vp_synth.proofs.printing.push_powers.Given as goal

abbrev pub invariant-loop-name : goal.invariant-loop-name
invariant-loop-name l = l.text.items ++ factors_behind l.between (power_texts (map string_bytes (drop (length l.yielded) l.variables)) (drop (length l.yielded) l.powers)) ≡ l.initial.text.items ++ factors_behind l.follows (power_texts (map string_bytes l.variables) l.powers)
