use Rattle.std.proofs.Common.{◌≡◌, ◌++◌, drop, length, map}
use Rattle.std.specs.Prelude.{string_bytes}
use Rattle.vp_synth.specs.Listing.{fallback_lines}
use Rattle.vp_synth.proofs.listing.push_fallback.Given as goal

abbrev pub invariant-loop-name : goal.invariant-loop-name
invariant-loop-name l = l.text.items ++ fallback_lines (map string_bytes l.variables) (map string_bytes (drop (length l.yielded) l.controls)) (drop (length l.yielded) l.polys) ≡ l.initial.text.items ++ fallback_lines (map string_bytes l.variables) (map string_bytes l.controls) l.polys
