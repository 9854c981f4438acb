use Rattle.std.proofs.Common.{◌≡◌, ◌++◌, codes, drop, map}
use Rattle.std.specs.List.{flat_map}
use Rattle.std.specs.Prelude.{string_bytes}
use Rattle.vp_cmd.proofs.refusal.push_more_names.Given as goal

abbrev pub invariant-loop-name : goal.invariant-loop-name
invariant-loop-name l =
    l.text.items ++ flat_map (λ name. codes " " ++ name) (map string_bytes (drop l.name-index l.names)) ≡ l.initial.text.items ++ flat_map (λ name. codes " " ++ name) (map string_bytes l.names)
