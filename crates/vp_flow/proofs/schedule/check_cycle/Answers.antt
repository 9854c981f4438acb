use Rattle.std.proofs.Common.{◌∙◌, string_bytes, sym, ap, arith}
use Rattle.vp_poly.specs.Places.{places_for}
use Rattle.vp_flow.specs.Sides.{polys}
use Rattle.vp_flow.proofs.Scheduling.{acyclic, has-cycle, no-names, some-names, rows-of}
use Rattle.vp_flow.proofs.schedule.check_cycle.Goals as goal

pub returns-then-is_empty-clause-acyclic : goal.returns-then-is_empty-clause-acyclic
returns-then-is_empty-clause-acyclic c =
    acyclic (places_for c.args.counts) (polys c.args.sides.now) c.args.reach.now c.args.pkg.now.names.states (sym (ap (λ p. p.states) c.requires.places)) c.requires.reach
    (sym c.in_ok-names.ensures ∙ no-names string_bytes c.in_ok-names.names.items _ c.is_empty.result c.is_empty.ensures c.if-is_empty.true (omega (arith, c.in_ok-names.names.ok.0)))

pub returns-clause-refused : goal.returns-clause-refused
returns-clause-refused c =
    has-cycle c.args.pkg.now c.args.sides.now c.args.reach.now c.of.result c.requires.sides c.requires.linear
    (rows-of c.args.pkg.now (places_for c.args.counts) (polys c.args.sides.now) c.args.reach.now c.requires.places c.requires.reach)
    (c.of.ensures ∙ c.in_ok-names.ensures)
    (some-names string_bytes c.in_ok-names.names.items c.of.result _ c.is_empty.result c.of.ensures c.is_empty.ensures c.if-is_empty.false (omega (arith, c.in_ok-names.names.ok.0)))
