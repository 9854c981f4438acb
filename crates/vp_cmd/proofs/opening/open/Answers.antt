use Rattle.std.proofs.Common.{◌≡◌, Option, Some, ap, sym, subst, ◌∙◌}
use Rattle.std.specs.Prelude.{IfOk}
use Rattle.std.specs.Option.{option_map}
use Rattle.vp_cmd.specs.Commands.{Command, Demo, built, chosen, texts}
use Rattle.vp_cmd.specs.Shown.{shown}
use Rattle.vp_cmd.specs.Steps.{IsTask}
use Rattle.vp_cmd.proofs.Files.{opened_compile, opened_demo, opened_run}
use Rattle.vp_cmd.proofs.opening.open.Goals as goal

pub returns-in-Some-Compile-clause-halted : goal.returns-in-Some-Compile-clause-halted
returns-in-Some-Compile-clause-halted g c =
    opened_compile c.compile.result (g.St.Store.files c.args.store.now) c.in-Some-Compile.name.now (chosen (texts c.args.words.now))
    (ap built (sym c.command_of.ensures) ∙ (ap (λ r. built (option_map shown r)) c.in-Some-Compile.is ∙ ap (λ x. built (Some (shown x))) c.in-Some-Compile.field-0-is)) c.compile.ensures.halted

pub returns-in-Some-Run-clause-halted : goal.returns-in-Some-Run-clause-halted
returns-in-Some-Run-clause-halted g c =
    opened_run c.run.result (g.St.Store.files c.args.store.now) c.in-Some-Run.name.now (chosen (texts c.args.words.now))
    (ap built (sym c.command_of.ensures) ∙ (ap (λ r. built (option_map shown r)) c.in-Some-Run.is ∙ ap (λ x. built (Some (shown x))) c.in-Some-Run.field-0-is)) c.run.ensures.halted

pub returns-in-Some-Demo-clause-task : goal.returns-in-Some-Demo-clause-task
returns-in-Some-Demo-clause-task g c =
    let e : chosen (texts c.args.words.now) ≡ Some Demo = ap built (sym c.command_of.ensures) ∙ (ap (λ r. built (option_map shown r)) c.in-Some-Demo.is ∙ ap (λ x. built (Some (shown x))) c.in-Some-Demo.field-0-is) in
    subst (λ (k : Option Command). IfOk c.demo.result (IsTask (g.St.Store.files c.args.store.now) k)) (sym e) (c.demo.ensures.task (g.St.Store.files c.args.store.now))

pub returns-in-Some-Demo-clause-halted : goal.returns-in-Some-Demo-clause-halted
returns-in-Some-Demo-clause-halted g c =
    let e : chosen (texts c.args.words.now) ≡ Some Demo = ap built (sym c.command_of.ensures) ∙ (ap (λ r. built (option_map shown r)) c.in-Some-Demo.is ∙ ap (λ x. built (Some (shown x))) c.in-Some-Demo.field-0-is) in
    opened_demo c.demo.result (g.St.Store.files c.args.store.now) (chosen (texts c.args.words.now)) e c.demo.ensures.halted
