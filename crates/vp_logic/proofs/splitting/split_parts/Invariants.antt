use Rattle.vp_logic.specs.Cases.{lists}
use Rattle.vp_logic.proofs.Joining.{HasParts}
use Rattle.vp_logic.proofs.splitting.split_parts.Given as goal

abbrev pub invariant-loop-part : goal.invariant-loop-part
invariant-loop-part l = HasParts l.parts (lists l.cases.items) l.part-index l.first
