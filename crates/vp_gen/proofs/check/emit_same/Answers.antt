use Rattle.std.proofs.Common.{refl}
use Rattle.vp_gen.proofs.Listing.{same_made}
use Rattle.vp_gen.proofs.check.emit_same.Goals as goal

pub returns : goal.returns
returns c =
    same_made c.args.b.now c.push-3.new.self c.in_ok-same.same c.args.f c.in_ok-same.ensures.label
    (rw (c.in_ok-push-3.ensures, c.place.ensures, c.in_ok-push-2.ensures, c.in_ok-push.ensures, c.in_ok-same.ensures.state) refl)
