use Rattle.std.proofs.Common.{◌≡◌, ◌++◌, drop, map}
use Rattle.std.specs.List.{flat_map}
use Rattle.std.specs.Prelude.{string_bytes}
use Rattle.vp_synth.specs.Listing.{lines_of}
use Rattle.vp_synth.proofs.listing.push_obligations.Given as goal

abbrev pub invariant-loop-obligation : goal.invariant-loop-obligation
invariant-loop-obligation l = l.text.items ++ flat_map (lines_of (map string_bytes l.variables)) (drop l.obligation-index l.obligations) ≡ l.initial.text.items ++ flat_map (lines_of (map string_bytes l.variables)) l.obligations
