use Rattle.std.proofs.Common.{ap, ◌∙◌}
use Rattle.vp_logic.specs.Tree.{negated, tree}
use Rattle.vp_monitor.specs.Obligations.{path_tree}
use Rattle.vp_monitor.proofs.Parting.{mapped_more, path_sized_at, sized_more}
use Rattle.vp_monitor.proofs.parts.denied_paths.Goals as goal

pub loop-path-preserved : goal.loop-path-preserved
loop-path-preserved c = record {
  parts = mapped_more (λ path. negated (path_tree path)) tree c.args.paths.now c.loop-path.path-index c.path-item.result c.loop-path.denials.items c.push.new.self.items c.in_ok-denial.denial c.loop-path-test.true c.path-item.is c.loop-path.invariant.parts (c.in_ok-denial.ensures.form ∙ ap negated c.in_ok-form.ensures.form) c.in_ok-push.ensures.items;
  sized = λ n h. sized_more n c.loop-path.denials.items c.push.new.self.items c.in_ok-denial.denial (c.loop-path.invariant.sized n h) (c.in_ok-denial.ensures.sized n (c.in_ok-form.ensures.sized n (path_sized_at n c.args.paths.now c.loop-path.path-index c.path-item.result c.loop-path-test.true c.path-item.is h))) c.in_ok-push.ensures.items;
}
