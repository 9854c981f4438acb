use Rattle.vp_poly.specs.Places.{places_for}
use Rattle.vp_synth.specs.Certifying.{all_cases}
use Rattle.vp_synth.proofs.Walking.{all_done, next_obligation}
use Rattle.vp_synth.proofs.certifying.certify.Goals as goal

pub loop-obligation-preserved : goal.loop-obligation-preserved
loop-obligation-preserved c = record {
  certs = c.in_ok-left.ensures.certs;
  leads = next_obligation (places_for c.args.counts) c.args.obligations.now c.loop-obligation.obligation-index c.obligation-item.result (all_cases c.args.obligations.now) c.args.certs.now c.loop-obligation.left.now c.in_ok-left.left.now c.loop-obligation-test.true c.obligation-item.is c.loop-obligation.invariant.leads c.in_ok-left.ensures.leads;
}

pub returns-in-empty-clause-sound : goal.returns-in-empty-clause-sound
returns-in-empty-clause-sound c = λ x. all_done (places_for c.args.counts) c.args.obligations.now c.loop-obligation.obligation-index c.args.certs.now c.loop-obligation.left.now x c.loop-obligation-test.false c.loop-obligation.invariant.leads
