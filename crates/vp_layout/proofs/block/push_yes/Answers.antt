use Rattle.std.proofs.Common.{◌∙◌, ap, sym, length, refl}
use Rattle.vp_emit.specs.Draft.{Draft}
use Rattle.vp_layout.specs.Drafts.{mon_of}
use Rattle.vp_layout.proofs.Drafts.{yes_made}
use Rattle.vp_layout.proofs.block.push_yes.Goals as goal

pub returns : goal.returns
returns c =
    yes_made c.args.d c.args.b.now c.place-2.new.self c.in_ok-ok.ok c.in_ok-unknown.unknown c.mon.result c.mon-2.result (mon_of c.args.monitor c.args.k)
    (sym c.mon.ensures) (sym c.mon-2.ensures)
    c.in_ok-ok.ensures.label (c.in_ok-unknown.ensures.label ∙ ap (λ (s : Draft). length s.places) c.in_ok-ok.ensures.state)
    (rw (
      c.place-2.ensures,
      c.in_ok-push-4.ensures,
      c.place.ensures,
      c.in_ok-push-3.ensures,
      c.in_ok-push-2.ensures,
      c.in_ok-push.ensures,
      c.in_ok-unknown.ensures.state,
      c.in_ok-ok.ensures.state,
    ) refl)
