use Rattle.std.proofs.Common.{Err, ap, sym, subst, ◌∙◌, arith, inl, inr}
use Rattle.vp_flow.specs.Outcome.{Refuses}
use Rattle.vp_flow.specs.declared.error.FlowErr.TheVariants as flow
use Rattle.vp_monitor.specs.Refusals.{RefusesFlow}
use Rattle.vp_monitor.proofs.Naming.{refused_here}
use Rattle.vp_monitor.proofs.making.flows.Goals as goal

pub over-requires-clause-some : goal.over-requires-clause-some
over-requires-clause-some c =
    let h = refused_here (Refuses c.args.pkg.now) c.flow.result (flow.Rate c.in-Err-Rate.name) (c.in-Err-Rate.is ∙ ap Err c.in-Err-Rate.field-0-is) c.flow.ensures.refused in
    (h.state, h.named)

pub over-requires-clause-few : goal.over-requires-clause-few
over-requires-clause-few c = omega (arith, c.requires.names.few)

pub returns-in-Err-Rate-clause-refused : goal.returns-in-Err-Rate-clause-refused
returns-in-Err-Rate-clause-refused c =
    let h = refused_here (Refuses c.args.pkg.now) c.flow.result (flow.Rate c.in-Err-Rate.name) (c.in-Err-Rate.is ∙ ap Err c.in-Err-Rate.field-0-is) c.flow.ensures.refused in
    let o = c.over.ensures in
    subst (RefusesFlow c.args.pkg.now) (sym o.2) (c.in-Err-Rate.name, o.1, inl h)

pub over-requires-in-Err-Wide-clause-some : goal.over-requires-in-Err-Wide-clause-some
over-requires-in-Err-Wide-clause-some c =
    let h = refused_here (Refuses c.args.pkg.now) c.flow.result (flow.Wide c.in-Err-Wide.name) (c.in-Err-Wide.is ∙ ap Err c.in-Err-Wide.field-0-is) c.flow.ensures.refused in
    (h.first.state, h.first.named)

pub over-requires-in-Err-Wide-clause-few : goal.over-requires-in-Err-Wide-clause-few
over-requires-in-Err-Wide-clause-few c = omega (arith, c.requires.names.few)

pub returns-in-Err-Wide-clause-refused : goal.returns-in-Err-Wide-clause-refused
returns-in-Err-Wide-clause-refused c =
    let h = refused_here (Refuses c.args.pkg.now) c.flow.result (flow.Wide c.in-Err-Wide.name) (c.in-Err-Wide.is ∙ ap Err c.in-Err-Wide.field-0-is) c.flow.ensures.refused in
    let o = c.over-in-Err-Wide.ensures in
    subst (RefusesFlow c.args.pkg.now) (sym o.2) (c.in-Err-Wide.name, o.1, inr h)
