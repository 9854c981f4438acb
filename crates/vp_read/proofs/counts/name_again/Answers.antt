use Rattle.std.proofs.Common.{sym}
use Rattle.vp_read.proofs.AgainSteps.{texts, three_first, three_second, three_last}
use Rattle.vp_read.proofs.counts.name_again.Goals as goal

pub returns-in-Some : goal.returns-in-Some
returns-in-Some c =
    rw (sym c.get-params.ensures, sym c.get-states.ensures, sym c.get-controls.ensures) (three_first (texts c.get-params.result.now) (texts c.get-states.result.now) (texts c.get-controls.result.now) _ c.in-Some.ensures)

pub returns-in-Some-first_again : goal.returns-in-Some-first_again
returns-in-Some-first_again c =
    rw (sym c.get-params.ensures, sym c.get-states.ensures, sym c.get-controls.ensures) (three_second (texts c.get-params.result.now) (texts c.get-states.result.now) (texts c.get-controls.result.now) _ c.in_default.ensures c.in-Some-first_again.ensures)

pub returns : goal.returns
returns c =
    rw (sym c.get-params.ensures, sym c.get-states.ensures, sym c.get-controls.ensures) (three_last (texts c.get-params.result.now) (texts c.get-states.result.now) (texts c.get-controls.result.now) c.first_again-3.result c.in_default.ensures c.in_default-first_again.ensures c.first_again-3.ensures)
