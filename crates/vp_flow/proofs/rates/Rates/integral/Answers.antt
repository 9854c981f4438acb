use Rattle.std.proofs.Common.{sym, ◌∙◌, subst, suc, List}
use Rattle.vp_poly.specs.declared.mono.Term.{Term}
use Rattle.vp_poly.specs.Places.{places_for}
use Rattle.vp_flow.specs.Whole.{part_at}
use Rattle.vp_flow.specs.Parts.{IsPart, IsReplaced, HasRoom}
use Rattle.vp_flow.specs.Sides.{side}
use Rattle.vp_flow.proofs.Integrals.{IsPart-first, IsPart-next, room-next, side-is}
use Rattle.vp_flow.proofs.rates.Rates.integral.Goals as goal

pub returns-then-k-eq0 : goal.returns-then-k-eq0
returns-then-k-eq0 c = subst (λ k. IsPart c.args.self.now c.args.state (suc k) c.in_ok-first.first) (sym c.if-k-eq0.true) (IsPart-first c.args.self.now c.args.state c.in_ok-first.first c.requires.sides c.requires.state (c.in_ok-first.ensures.same ∙ c.side-rate.ensures))

pub replaced-requires-clause-room : goal.replaced-requires-clause-room
replaced-requires-clause-room c =
    subst (λ (ts : List Term). HasRoom (places_for c.args.self.now.counts) (λ j. part_at c.args.series.now j c.args.k) ts) (sym c.side-rate.ensures)
    (room-next (places_for c.args.self.now.counts) c.args.k c.args.self.now.bounds (λ j. part_at c.args.series.now j c.args.k) (side c.args.self.now.sides c.args.state) (side-is c.args.self.now c.args.state c.requires.sides c.requires.state) c.requires.sides.degree (λ j. c.requires.sizes j c.args.k) c.requires.low)

pub returns : goal.returns
returns c =
    IsPart-next c.args.self.now c.args.state c.args.k c.args.series.now c.in_ok-next.next c.requires.sides c.requires.state c.if-k-eq0.false c.requires.sizes c.requires.used
    (subst (λ (ts : List Term). IsReplaced (places_for c.args.self.now.counts) (λ j. part_at c.args.series.now j c.args.k) ts c.in_ok-next.next) c.side-rate.ensures c.in_ok-next.ensures)
