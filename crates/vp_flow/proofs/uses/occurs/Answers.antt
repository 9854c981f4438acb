use Rattle.std.proofs.Common.{◌+◌, ℕ, ap, arith}
use Rattle.vp_flow.proofs.TestLaws.{absent-state, found-state}
use Rattle.vp_flow.proofs.uses.occurs.Goals as goal

pub returns-then-term-from-gt0 : goal.returns-then-term-from-gt0
returns-then-term-from-gt0 c = found-state (c.args.counts.params + c.args.state) (c.from.result + c.args.state) c.args.poly.now c.loop-k.k c.term.result c.term.ensures.exact (ap (λ (n : ℕ). n + c.args.state) c.from.ensures) c.if-term-from-gt0.true

pub loop-k-preserved : goal.loop-k-preserved
loop-k-preserved c = absent-state (c.args.counts.params + c.args.state) (c.from.result + c.args.state) c.args.poly.now c.loop-k.k c.term.result (omega (arith, c.loop-k-test.true, c.len-k-end.ensures.count)) c.term.ensures.exact (ap (λ (n : ℕ). n + c.args.state) c.from.ensures) (omega (arith, c.if-term-from-gt0.false)) c.loop-k.invariant
