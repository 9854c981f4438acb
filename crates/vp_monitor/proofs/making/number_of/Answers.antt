use Rattle.std.proofs.Common.{Some, ap, ◌∙◌}
use Rattle.vp_monitor.proofs.Naming.{name_at, none_left, none_more}
use Rattle.vp_monitor.proofs.making.number_of.Goals as goal

pub loop-k-preserved : goal.loop-k-preserved
loop-k-preserved c = none_more c.get-other-items.result.now c.args.names.now c.get-other-items.ensures c.args.name.now c.loop-k.k c.other-item.result c.loop-k-test.true c.other-item.is (λ e. let t = c.is_named.ensures.1 e in absurd (cc)) c.loop-k.invariant

pub unreachable-requires : goal.unreachable-requires
unreachable-requires c = none_left c.get-other-items.result.now c.args.names.now c.get-other-items.ensures c.args.name.now c.loop-k.k c.loop-k-test.false c.loop-k.invariant c.requires.some.0 c.requires.some.1

pub returns-then-is_named : goal.returns-then-is_named
returns-then-is_named c = name_at c.get-other-items.result.now c.args.names.now c.get-other-items.ensures c.args.name.now c.loop-k.k c.other-item.result c.loop-k-test.true c.other-item.is ∙ ap Some (c.is_named.ensures.0 c.if-is_named.true)
