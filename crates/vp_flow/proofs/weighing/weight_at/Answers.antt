use Rattle.vp_flow.proofs.WeighLaws.{none-weight}
use Rattle.vp_flow.proofs.weighing.weight_at.Goals as goal

pub returns-in-None : goal.returns-in-None
returns-in-None c = λ qs a. none-weight qs c.args.bounds c.args.height c.in-None.is c.if-height-eq0.false a
