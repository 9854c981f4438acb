use Rattle.std.proofs.Common.{◌≡◌, map, take, true}
use Rattle.std.specs.List.{list_all}
use Rattle.vp_poly.specs.Canonical.{own_weight}
use Rattle.vp_poly.specs.Places.{places_for}
use Rattle.vp_poly.specs.Weights.{fits}
use Rattle.vp_cert.specs.Certificate.{expression_factor, squared}
use Rattle.vp_cert.specs.Factors.{AreTermFactors}
use Rattle.vp_cert.proofs.factor.squares_of.Given as goal

abbrev pub invariant-loop-square : goal.invariant-loop-square
invariant-loop-square l = record {
  factors : AreTermFactors (squared (map (expression_factor (places_for l.counts)) (take l.square-index l.squares))) l.all.items;
  fit : list_all (λ e. fits (own_weight (places_for l.counts) e)) (take l.square-index l.squares) ≡ true;
}
