use Rattle.std.proofs.Common.{suc, arith}
use Rattle.vp_flow.proofs.Growing.{over-later, den-positive}
use Rattle.vp_flow.proofs.bounds.Bounds.weight.Goals as goal

pub returns-in_default : goal.returns-in_default
returns-in_default c = over-later c.args.self.now (suc c.loop-k.k) c.args.height c.requires (omega (arith, c.loop-k-test.true)) c.in_default.ensures

pub new-requires-clause-positive : goal.new-requires-clause-positive
new-requires-clause-positive c = omega (arith, den-positive c.args.self.now c.loop-k.k c.requires, c.loop-k.invariant.den)
