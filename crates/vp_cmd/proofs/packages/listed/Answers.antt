use Rattle.std.proofs.Common.{◌≢◌, ap}
use Rattle.std.proofs.lemmas.Result.{err_from_is_err_and}
use Rattle.vp_synth.specs.Stages.{Split}
use Rattle.vp_cmd.specs.declared.opening.Halt.TheVariants.{StoreFault, WantOfMemory}
use Rattle.vp_cmd.specs.Dues.{OfText}
use Rattle.vp_cmd.specs.Outcomes.{done}
use Rattle.vp_cmd.specs.Steps.{Halts, IsUnrefused}
use Rattle.vp_cmd.proofs.Files.{passed_on}
use Rattle.vp_cmd.proofs.packages.listed.Goals as goal

pub returns-in_err-list-clause-halted : goal.returns-in_err-list-clause-halted
returns-in_err-list-clause-halted c =
    let q = err_from_is_err_and c.from_residual-in_err-list.result c.from_residual-in_err-list.ensures.1 in
    passed_on (Halts (OfText Split IsUnrefused c.args.text.now)) c.from_residual-in_err-list.result q.0 WantOfMemory q.1 q.2 tt

pub returns-in_err-list-clause-no_load : goal.returns-in_err-list-clause-no_load
returns-in_err-list-clause-no_load c =
    let q = err_from_is_err_and c.from_residual-in_err-list.result c.from_residual-in_err-list.ensures.1 in
    passed_on (λ halt. halt ≢ StoreFault) c.from_residual-in_err-list.result q.0 WantOfMemory q.1 q.2 (λ e. cc)

pub returns-clause-listed : goal.returns-clause-listed
returns-clause-listed c =
    let prepared = c.in_ok-prepared.prepared in
    (prepared.package, c.in_ok-prepared.ensures.opened, (prepared.obligations, prepared.sandbox, c.in_ok-prepared.ensures.made, ap done c.in_ok-list.ensures))
