use Rattle.std.proofs.Common.{refl}
use Rattle.vp_poly.specs.Places.{places_for}
use Rattle.vp_ctrl.proofs.Standing.{Follows-first}
use Rattle.vp_ctrl.proofs.Walking.{HasParts-none, narrow_none}
use Rattle.vp_ctrl.proofs.walk.Walk.start.Goals as goal

pub returns : goal.returns
returns c = record {
  follows = Follows-first (places_for c.args.counts) c.in_ok-plain.field-0.items c.in_ok-plain.ensures.exact c.in_ok-plain.ensures.environment c.in_ok-plain.ensures.coefficients c.in_ok-plain.ensures.only;
  parts = rw c.new.ensures.items (HasParts-none (places_for c.args.counts));
  narrow = narrow_none (places_for c.args.counts);
  terms = refl;
}
