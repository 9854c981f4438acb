use Rattle.std.proofs.Common.{refl}
use Rattle.std.proofs.lemmas.Result.{err_from_is_err_and}
use Rattle.vp_terms.specs.Tree.{formula_tree, prog_tree}
use Rattle.vp_grammar.specs.FormulaReads.{IsGroup}
use Rattle.vp_grammar.specs.Controllers.{NoStatements, IsChoice, IsBlock, IsStatement, AreSome, IsElse, IsConditional}
use Rattle.vp_grammar.proofs.Steps.{fails}
use Rattle.vp_grammar.proofs.ControllerSteps.{choice_has_block, choice_has_other, several, single, reads_braced, no_block, reads_some, some_have_one, some_have_others, last, followed, reads_freed, reads_given, reads_test, reads_conditional, reads_choice, conditional_has_condition, conditional_has_block, conditional_has_else, reads_else}
use Rattle.vp_grammar.proofs.controller.+controller.Goals as goal

pub block-returns-in-Some-clause-reads : goal.block-returns-in-Some-clause-reads
block-returns-in-Some-clause-reads t c =
    reads_braced (λ x. prog_tree x.0) (λ x. x.1.now) c.args.terminals.now c.in-Some.more.now c.statements.result c.in-Some.ensures c.statements.ensures.reads

pub block-returns-in-None-clause-reads : goal.block-returns-in-None-clause-reads
block-returns-in-None-clause-reads t c = no_block c.args.terminals.now c.in-None.ensures

pub conditional-returns-in_err-formula-clause-reads : goal.conditional-returns-in_err-formula-clause-reads
conditional-returns-in_err-formula-clause-reads t c =
    let p = err_from_is_err_and c.from_residual.result c.from_residual.ensures.1 in
    rw (p.1, p.2) (fails (IsGroup c.args.terminals.now) (IsConditional c.args.terminals.now) c.in_err-formula.field-0.0 (conditional_has_condition c.args.terminals.now) c.in_err-formula.ensures.reads)

pub conditional-returns-in_err-yes-clause-reads : goal.conditional-returns-in_err-yes-clause-reads
conditional-returns-in_err-yes-clause-reads t c =
    let p = err_from_is_err_and c.from_residual-in_err-yes.result c.from_residual-in_err-yes.ensures.1 in
    rw (p.1, p.2) (fails (IsBlock c.in_ok-formula.rest.now) (IsConditional c.args.terminals.now) c.in_err-yes.field-0.0 (conditional_has_block c.args.terminals.now c.in_ok-formula.rest.now (formula_tree c.in_ok-formula.formula) c.in_ok-formula.ensures.reads) c.in_err-yes.ensures.reads)

pub conditional-returns-in_err-no-clause-reads : goal.conditional-returns-in_err-no-clause-reads
conditional-returns-in_err-no-clause-reads t c =
    let p = err_from_is_err_and c.from_residual-in_err-no.result c.from_residual-in_err-no.ensures.1 in
    rw (p.1, p.2) (fails (IsElse c.in_ok-yes.more.now) (IsConditional c.args.terminals.now) c.in_err-no.field-0.0 (conditional_has_else c.args.terminals.now c.in_ok-formula.rest.now c.in_ok-yes.more.now (formula_tree c.in_ok-formula.formula) (prog_tree c.in_ok-yes.yes) c.in_ok-formula.ensures.reads c.in_ok-yes.ensures.reads) c.in_err-no.ensures.reads)

pub choice-returns-in_err-one-clause-reads : goal.choice-returns-in_err-one-clause-reads
choice-returns-in_err-one-clause-reads t c =
    let p = err_from_is_err_and c.from_residual.result c.from_residual.ensures.1 in
    rw (p.1, p.2) (fails (IsBlock c.args.terminals.now) (IsChoice c.args.terminals.now) c.in_err-one.field-0.0 (choice_has_block c.args.terminals.now) c.in_err-one.ensures.reads)

pub choice-returns-in_err-other-in-Some-clause-reads : goal.choice-returns-in_err-other-in-Some-clause-reads
choice-returns-in_err-other-in-Some-clause-reads t c =
    let p = err_from_is_err_and c.from_residual-in_err-other-in-Some.result c.from_residual-in_err-other-in-Some.ensures.1 in
    rw (p.1, p.2) (fails (IsChoice c.in-Some.more.now) (IsChoice c.args.terminals.now) c.in_err-other-in-Some.field-0.0 (choice_has_other c.args.terminals.now c.in_ok-one.rest.now c.in-Some.more.now (prog_tree c.in_ok-one.one) c.in_ok-one.ensures.reads c.in-Some.ensures) c.in_err-other-in-Some.ensures.reads)

pub choice-returns-in_ok-new-in-Some-2-clause-reads : goal.choice-returns-in_ok-new-in-Some-2-clause-reads
choice-returns-in_ok-new-in-Some-2-clause-reads t c =
    rw (c.in_ok-new-in-Some.ensures.ok, c.in_ok-new-in-Some-2.ensures.ok) (several c.args.terminals.now c.in_ok-one.rest.now c.in-Some.more.now c.in_ok-other-in-Some.after.now (prog_tree c.in_ok-one.one) (prog_tree c.in_ok-other-in-Some.other) c.in_ok-one.ensures.reads c.in-Some.ensures c.in_ok-other-in-Some.ensures.reads)

pub choice-returns-in-None-clause-reads : goal.choice-returns-in-None-clause-reads
choice-returns-in-None-clause-reads t c = single c.args.terminals.now c.in_ok-one.rest.now (prog_tree c.in_ok-one.one) c.in_ok-one.ensures.reads c.in-None.ensures

pub otherwise-returns-in-Some-clause-reads : goal.otherwise-returns-in-Some-clause-reads
otherwise-returns-in-Some-clause-reads t c =
    reads_else (λ x. prog_tree x.0) (λ x. x.1.now) c.args.terminals.now c.in-Some.more.now c.block.result c.in-Some.ensures c.block.ensures.reads

pub some_statements-returns-in_err-one-clause-reads : goal.some_statements-returns-in_err-one-clause-reads
some_statements-returns-in_err-one-clause-reads t c =
    let p = err_from_is_err_and c.from_residual.result c.from_residual.ensures.1 in
    rw (p.1, p.2) (fails (IsStatement c.args.terminals.now) (AreSome c.args.terminals.now) c.in_err-one.field-0.0 (some_have_one c.args.terminals.now) c.in_err-one.ensures.reads)

pub some_statements-returns-in_err-others-in-None-clause-reads : goal.some_statements-returns-in_err-others-in-None-clause-reads
some_statements-returns-in_err-others-in-None-clause-reads t c =
    let p = err_from_is_err_and c.from_residual-in_err-others-in-None.result c.from_residual-in_err-others-in-None.ensures.1 in
    rw (p.1, p.2) (fails (AreSome c.in_ok-one.rest.now) (AreSome c.args.terminals.now) c.in_err-others-in-None.field-0.0 (some_have_others c.args.terminals.now c.in_ok-one.rest.now (prog_tree c.in_ok-one.one) c.in_ok-one.ensures.reads c.in-None.ensures) c.in_err-others-in-None.ensures.reads)

pub some_statements-returns-in-Some-clause-reads : goal.some_statements-returns-in-Some-clause-reads
some_statements-returns-in-Some-clause-reads t c = last c.args.terminals.now c.in_ok-one.rest.now c.in-Some.after.now (prog_tree c.in_ok-one.one) c.in_ok-one.ensures.reads c.in-Some.ensures

pub some_statements-returns-in_ok-new-in-None-2-clause-reads : goal.some_statements-returns-in_ok-new-in-None-2-clause-reads
some_statements-returns-in_ok-new-in-None-2-clause-reads t c =
    rw (c.in_ok-new-in-None.ensures.ok, c.in_ok-new-in-None-2.ensures.ok) (followed c.args.terminals.now c.in_ok-one.rest.now c.in_ok-others-in-None.after.now (prog_tree c.in_ok-one.one) (prog_tree c.in_ok-others-in-None.others) c.in_ok-one.ensures.reads c.in_ok-others-in-None.ensures.reads)

pub statement-returns-in-Freeing-clause-reads : goal.statement-returns-in-Freeing-clause-reads
statement-returns-in-Freeing-clause-reads t c =
    reads_freed (λ x. prog_tree x.0) (λ x. x.1.now) c.args.terminals.now c.in-Freeing.rest.now c.in-Freeing.ensures.0 c.in-Freeing.variable c.freed.result c.in-Freeing.ensures.1 (rw c.control_of.ensures at c.freed.ensures.reads)

pub statement-returns-in-Giving-clause-reads : goal.statement-returns-in-Giving-clause-reads
statement-returns-in-Giving-clause-reads t c =
    reads_given (λ x. prog_tree x.0) (λ x. x.1.now) c.args.terminals.now c.in-Giving.rest.now c.in-Giving.ensures.0 c.in-Giving.variable c.given.result c.in-Giving.ensures.1 c.in-Giving.ensures.2 (rw c.control_of-in-Giving.ensures at c.given.ensures.reads)

pub statement-returns-in-Testing-clause-reads : goal.statement-returns-in-Testing-clause-reads
statement-returns-in-Testing-clause-reads t c =
    reads_test (λ x. prog_tree x.0) (λ x. x.1.now) c.args.terminals.now c.in-Testing.rest.now c.test.result c.in-Testing.ensures c.test.ensures.reads

pub statement-returns-in-Branching-clause-reads : goal.statement-returns-in-Branching-clause-reads
statement-returns-in-Branching-clause-reads t c =
    reads_conditional (λ x. prog_tree x.0) (λ x. x.1.now) c.args.terminals.now c.in-Branching.rest.now c.conditional.result c.in-Branching.ensures c.conditional.ensures.reads

pub statement-returns-in-Other-clause-reads : goal.statement-returns-in-Other-clause-reads
statement-returns-in-Other-clause-reads t c =
    reads_choice (λ x. prog_tree x.0) (λ x. x.1.now) c.args.terminals.now c.choice.result c.in-Other.ensures c.choice.ensures.reads

pub statements-returns-in-Some-clause-reads : goal.statements-returns-in-Some-clause-reads
statements-returns-in-Some-clause-reads t c = (NoStatements, c.in-Some.ensures, refl)

pub statements-returns-in-None-clause-reads : goal.statements-returns-in-None-clause-reads
statements-returns-in-None-clause-reads t c =
    reads_some (λ x. prog_tree x.0) (λ x. x.1.now) c.args.terminals.now c.some_statements.result c.in-None.ensures c.some_statements.ensures.reads
