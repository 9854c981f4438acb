use Rattle.vp_sandbox.proofs.boxes.+set_boxes.Given as goal

abbrev pub decreases-set_boxes : goal.decreases-set_boxes
decreases-set_boxes l = l.pairs
