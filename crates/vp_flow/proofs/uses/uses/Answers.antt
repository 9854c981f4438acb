use Rattle.vp_poly.specs.Places.{places_for}
use Rattle.vp_flow.specs.Sides.{polys, uses}
use Rattle.vp_flow.proofs.UseTables.{use-row}
use Rattle.vp_flow.proofs.Tables.{HasRows-more}
use Rattle.vp_flow.proofs.uses.uses.Goals as goal

pub loop-side-preserved : goal.loop-side-preserved
loop-side-preserved c =
    HasRows-more c.loop-side.side-index c.args.counts.states (uses (places_for c.args.counts) (polys c.args.sides.now)) c.loop-side.rows.items _ c.in_ok-used.field-0 c.in_ok-push.ensures.items c.loop-side.invariant
    (use-row (places_for c.args.counts) c.args.sides.now c.loop-side.side-index c.side-item.result c.in_ok-used.field-0 c.loop-side-test.true c.side-item.is c.in_ok-used.ensures)
