use Rattle.vp_synth.specs.Stages.{Certified}
use Rattle.vp_cmd.proofs.Files.{named_unless, refusal_due}
use Rattle.vp_cmd.proofs.packages.accepted.Goals as goal

pub bad_package-requires-clause-named : goal.bad_package-requires-clause-named
bad_package-requires-clause-named c = named_unless Certified c.args.text.now c.in-Err.why c.in-Err.ensures.refused

pub returns-in-Ok-clause-guarded : goal.returns-in-Ok-clause-guarded
returns-in-Ok-clause-guarded c =
    let pkg = c.in-Ok.prepared.package in
    let s = c.in-Ok.prepared.sandbox in
    record {
      flow = c.in-Ok.ensures.flow.0;
      exact = c.in-Ok.ensures.flow.1;
      guards = λ f exact. record {
        safe = c.histories_are_allowed.ensures.safe f pkg s c.in-Ok.ensures.fits (c.in-Ok.ensures.means f exact) (c.in-Ok.ensures.inductive f exact);
        runs = c.histories_are_allowed.ensures.runs f pkg s c.in-Ok.ensures.fits (c.in-Ok.ensures.means f exact) (c.in-Ok.ensures.inductive f exact);
        denies = c.false_reports_deny_histories.ensures f pkg s c.in-Ok.ensures.fits (c.in-Ok.ensures.means f exact);
      };
      right = c.reports_are_right.ensures.always s c.in-Ok.ensures.fits;
    }

pub returns-in_ok-bad_package-in-Err-clause-halted : goal.returns-in_ok-bad_package-in-Err-clause-halted
returns-in_ok-bad_package-in-Err-clause-halted c =
    refusal_due Certified c.args.text.now c.in-Err.why c.in_ok-bad_package-in-Err.field-0 (c.in-Err.ensures.refused c.in_ok-bad_package-in-Err.ensures.memory) c.in_ok-bad_package-in-Err.ensures.due
