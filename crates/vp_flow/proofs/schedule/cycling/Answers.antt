use Rattle.std.proofs.Common.{◌∙◌, true, false, length, string_bytes, ap, refl, arith}
use Rattle.vp_flow.specs.Matrix.{cell}
use Rattle.vp_flow.specs.Outcome.{named_where}
use Rattle.vp_flow.proofs.Scheduling.{cell-at, cycle-push, cycle-skip, map-size}
use Rattle.vp_flow.proofs.schedule.cycling.Goals as goal
use Rattle.vp_flow.proofs.schedule.cycling.Goals.{then-get-k+in_ok-to_string+in_ok-push, else-get-k}

pub loop-k-preserved : goal.loop-k-preserved
loop-k-preserved c =
    elim c.if-get-k.branch [
      | then-get-k+in_ok-to_string+in_ok-push w ↦ cycle-push (λ i. cell c.args.reach.now i i) c.loop-k.k c.args.states.now (named_where (λ i. cell c.args.reach.now i i) 0 c.args.states.now) c.get-name-items.result.now c.loop-k.names.items c.if-get-k.names.items w.in_ok-to_string.field-0 c.name-item.result c.get-name-items.ensures c.loop-k-test.true c.name-item.is w.in_ok-to_string.ensures.ok (ap (λ v. v.items) w.names-is ∙ w.in_ok-push.ensures.items) (cell-at c.args.reach.now c.loop-k.k true _ c.get.result.now c.index-reach-k.result c.requires.matrix (omega (arith, c.loop-k-test.true, c.requires.count, ap length c.get-name-items.ensures, map-size string_bytes c.get-name-items.result.now)) c.get.ensures c.index-reach-k.is w.if-get-k.true) refl c.loop-k.invariant
      | else-get-k w ↦ cycle-skip (λ i. cell c.args.reach.now i i) c.loop-k.k c.args.states.now (named_where (λ i. cell c.args.reach.now i i) 0 c.args.states.now) c.get-name-items.result.now c.loop-k.names.items c.if-get-k.names.items c.get-name-items.ensures c.loop-k-test.true (ap (λ v. v.items) w.names-is) (cell-at c.args.reach.now c.loop-k.k false _ c.get.result.now c.index-reach-k.result c.requires.matrix (omega (arith, c.loop-k-test.true, c.requires.count, ap length c.get-name-items.ensures, map-size string_bytes c.get-name-items.result.now)) c.get.ensures c.index-reach-k.is w.if-get-k.false) refl c.loop-k.invariant
    ]
