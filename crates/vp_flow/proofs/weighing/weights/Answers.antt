use Rattle.std.proofs.Common.{◌≡◌, ℕ, Some, slice_get, slice_index, refl, subst, arith}
use Rattle.vp_flow.specs.Bounds.{bounds_of}
use Rattle.vp_flow.proofs.WeighLaws.{bounds-positive, first-wide, of-bounds-more, positive-sides}
use Rattle.vp_flow.proofs.weighing.weights.Goals as goal

pub weight_at-requires : goal.weight_at-requires
weight_at-requires c = bounds-positive c.args.pkg.now c.args.sides.now c.args.bounds (positive-sides c.args.pkg.now c.args.sides.now c.requires.sides) c.requires.bounds

pub returns-in_default-clause-refused : goal.returns-in_default-clause-refused
returns-in_default-clause-refused c =
    first-wide c.args.pkg.now c.args.sides.now c.args.heights.now c.loop-height.height-index (slice_index c.args.heights.now c.loop-height.height-index) c.loop-height.weights.items c.in_ok-name.name c.requires.sides c.requires.linear c.requires.heights c.loop-height.invariant refl (c.in_default.ensures c.args.sides.now c.requires.bounds)
    (subst (λ (n : ℕ). slice_get c.args.pkg.now.names.states n ≡ Some c.in_ok-name.name) (omega (arith, c.len.ensures, c.loop-height.weights.ok.0, c.loop-height.invariant.count)) c.in_ok-name.ensures)

pub loop-height-preserved : goal.loop-height-preserved
loop-height-preserved c = of-bounds-more (bounds_of c.args.sides.now) c.args.heights.now c.loop-height.height-index (slice_index c.args.heights.now c.loop-height.height-index) c.loop-height.weights.items c.push.new.self.items c.in-Some.weight c.in_ok-push.ensures.items c.loop-height.invariant refl (c.in-Some.ensures c.args.sides.now c.requires.bounds)
