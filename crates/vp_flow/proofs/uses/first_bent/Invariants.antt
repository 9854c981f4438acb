use Rattle.std.proofs.Common.{◌≡◌, ◌<◌, ℕ, true}
use Rattle.vp_poly.specs.Places.{places_for}
use Rattle.vp_flow.specs.Sides.{is_linear, polys, side}
use Rattle.vp_flow.proofs.uses.first_bent.Given as goal

abbrev pub invariant-loop-i : goal.invariant-loop-i
invariant-loop-i l = (j : ℕ) → j < l.i → is_linear (places_for l.counts) (side (polys l.sides) j) ≡ true
