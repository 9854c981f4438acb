use Rattle.std.proofs.Common.{◌≡◌, ◌+◌, ◌-◌, ℕ, arith, ap, refl, sym, subst, ◌∙◌}
use Rattle.vp_poly.specs.Places.{IsRenaming}
use Rattle.vp_monitor.specs.Exchange.{exchanging}
use Rattle.vp_monitor.proofs.Exchanging.{Renames, exchanging_renames, started, stepped}
use Rattle.vp_monitor.proofs.exchange.exchange.Goals as goal

pub loop-k-2-init : goal.loop-k-2-init
loop-k-2-init c = started c.loop-k.to c.args.first c.args.by _ (omega arith) c.loop-k.invariant.size (λ i h. c.loop-k.invariant.each i (omega arith))

pub loop-k-2-preserved : goal.loop-k-2-preserved
loop-k-2-preserved c = stepped c.loop-k-2.to _ c.args.first (c.loop-k-2.k - c.args.first) _ c.args.by c.loop-k-2.k (c.loop-k-2.k + c.args.by) c.loop-k-2.invariant (omega arith) refl (omega arith) (omega arith) (omega arith) c.swap.ensures.after

pub returns-clause-exact : goal.returns-clause-exact
returns-clause-exact c =
    let e : c.loop-k-2.k - c.args.first ≡ c.args.places = omega arith in
    c.loop-k-2.invariant ∙ ap (λ (n : ℕ). exchanging c.args.first n c.args.by) e

pub returns-clause-renaming : goal.returns-clause-renaming
returns-clause-renaming c =
    let e : c.loop-k-2.k - c.args.first ≡ c.args.places = omega arith in
    let r : Renames = record { none = c.renamings_are_exchanges.ensures.none; exchanged = c.renamings_are_exchanges.ensures.exchanged } in
    subst IsRenaming (sym (c.loop-k-2.invariant ∙ ap (λ (n : ℕ). exchanging c.args.first n c.args.by) e)) (exchanging_renames r c.args.first c.args.places c.args.by (omega arith) (omega arith))
