use Rattle.std.proofs.Common.{◌≤◌, ℕ, List, length, subst, sym, arith}
use Rattle.std.proofs.lemmas.Result.{err_from_is_err_and}
use Rattle.vp_synth.specs.Stages.{Certified}
use Rattle.vp_cmd.specs.Dues.{OfText, package_limit}
use Rattle.vp_cmd.specs.Steps.{Halts, IsOversized}
use Rattle.vp_cmd.specs.Tank.{tank}
use Rattle.vp_cmd.proofs.Files.{demo_shown, demo_task, passed_on}
use Rattle.vp_cmd.proofs.opening.demo.Goals as goal

pub returns-in_err-image_of-clause-halted : goal.returns-in_err-image_of-clause-halted
returns-in_err-image_of-clause-halted c =
    let q = err_from_is_err_and c.from_residual.result c.from_residual.ensures.1 in
    passed_on (Halts (OfText Certified IsOversized tank)) c.from_residual.result q.0 c.in_err-image_of.field-0.0 q.1 q.2
    (subst (λ text. Halts (OfText Certified IsOversized text) c.in_err-image_of.field-0.0) c.tank.ensures c.in_err-image_of.ensures.halted)

pub returns-clause-task : goal.returns-clause-task
returns-clause-task c = λ files. demo_task files c.tank.result.now c.in_ok-image_of.field-0.items c.tank.ensures c.in_ok-image_of.ensures.made

pub returns-clause-shown : goal.returns-clause-shown
returns-clause-shown c = λ files. demo_shown c.tank.result.now c.in_ok-image_of.field-0.items c.tank.ensures c.in_ok-image_of.ensures.made

tank_short : length tank ≤ package_limit
unfolding tank
tank_short = grind (arith)

pub image_of-requires : goal.image_of-requires
image_of-requires c = subst (λ (t : List ℕ). length t ≤ package_limit) (sym c.tank.ensures) tank_short
