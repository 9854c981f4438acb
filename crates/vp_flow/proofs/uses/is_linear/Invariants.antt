use Rattle.std.proofs.Common.{◌≡◌, true, take}
use Rattle.std.specs.List.{list_all}
use Rattle.std.specs.Prelude.{nat_le}
use Rattle.vp_poly.specs.Places.{places_for}
use Rattle.vp_flow.specs.Series.{state_degree}
use Rattle.vp_flow.proofs.uses.is_linear.Given as goal

abbrev pub invariant-loop-k : goal.invariant-loop-k
invariant-loop-k l = list_all (λ t. nat_le (state_degree (places_for l.counts) t.mono.powers) 1) (take l.k l.poly) ≡ true
