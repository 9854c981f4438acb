use Rattle.std.proofs.Common.{◌≡◌, ◌+◌, length, arith, refl, ap, ◌∙◌}
use Rattle.std.proofs.lemmas.Result.{err_from_is_err_and}
use Rattle.vp_terms.specs.Tree.{formula_tree}
use Rattle.vp_grammar.specs.Formulas.{Truth, Falsity}
use Rattle.vp_grammar.specs.FormulaReads.{IsDisjunction, IsConjunction, IsLit, IsBareLit, IsGroup}
use Rattle.vp_grammar.proofs.Steps.{fails}
use Rattle.vp_grammar.proofs.FormulaSteps.{or_begins_so, or_goes_on, or_has_and, or_has_next, and_begins_so, and_goes_on, and_has_lit, and_has_next, lit_has_bare, goes_further, bare_has_denied, denied, reads_grouped, reads_compared, group_has_formula, unclosed}
use Rattle.vp_grammar.proofs.formula.+formula.Goals as goal

pub bare_literal-returns-in_err-inner-in-NotGroup-clause-reads : goal.bare_literal-returns-in_err-inner-in-NotGroup-clause-reads
bare_literal-returns-in_err-inner-in-NotGroup-clause-reads t c =
    let p = err_from_is_err_and c.from_residual-in_err-inner-in-NotGroup.result c.from_residual-in_err-inner-in-NotGroup.ensures.1 in
    rw (p.1, p.2) (fails (IsGroup c.in-NotGroup.more.now) (IsBareLit c.args.terminals.now) c.in_err-inner-in-NotGroup.field-0.0 (bare_has_denied c.args.terminals.now c.in-NotGroup.more.now c.in-NotGroup.ensures) c.in_err-inner-in-NotGroup.ensures.reads)

pub bare_literal-returns-in-True-clause-reads : goal.bare_literal-returns-in-True-clause-reads
bare_literal-returns-in-True-clause-reads t c =
    (Truth, c.in-True.ensures, refl, tt)

pub bare_literal-returns-in_ok-new-in-False-clause-reads : goal.bare_literal-returns-in_ok-new-in-False-clause-reads
bare_literal-returns-in_ok-new-in-False-clause-reads t c =
    (Falsity, c.in-False.ensures, rw c.in_ok-new-in-False.ensures.ok refl, tt)

pub bare_literal-returns-in-Group-clause-reads : goal.bare_literal-returns-in-Group-clause-reads
bare_literal-returns-in-Group-clause-reads t c =
    reads_grouped (λ x. formula_tree x.0) (λ x. x.1.now) c.args.terminals.now c.in-Group.more.now c.group.result c.in-Group.ensures c.group.ensures.reads

pub bare_literal-returns-in_ok-new-in-NotGroup-clause-reads : goal.bare_literal-returns-in_ok-new-in-NotGroup-clause-reads
bare_literal-returns-in_ok-new-in-NotGroup-clause-reads t c =
    rw c.in_ok-new-in-NotGroup.ensures.ok (denied c.args.terminals.now c.in-NotGroup.more.now c.in_ok-inner-in-NotGroup.rest.now (formula_tree c.in_ok-inner-in-NotGroup.inner) c.in-NotGroup.ensures c.in_ok-inner-in-NotGroup.ensures.reads)

pub bare_literal-returns-in-Other-clause-reads : goal.bare_literal-returns-in-Other-clause-reads
bare_literal-returns-in-Other-clause-reads t c =
    reads_compared (λ x. formula_tree x.0) (λ x. x.1.now) c.args.terminals.now c.comparison.result c.in-Other.ensures c.comparison.ensures.reads

pub conjunction-returns-in_err-formula-clause-reads : goal.conjunction-returns-in_err-formula-clause-reads
conjunction-returns-in_err-formula-clause-reads t c =
    let p = err_from_is_err_and c.from_residual.result c.from_residual.ensures.1 in
    rw (p.1, p.2) (fails (IsLit c.args.terminals.now) (IsConjunction c.args.terminals.now) c.in_err-formula.field-0.0 (and_has_lit c.args.terminals.now) c.in_err-formula.ensures.reads)

pub conjunction-ands-init : goal.conjunction-ands-init
conjunction-ands-init t c =
    record {
      so_far = and_begins_so c.args.terminals.now c.in_ok-formula.rest.now (formula_tree c.in_ok-formula.formula) c.in_ok-formula.ensures.reads;
      ready = c.in_ok-formula.ensures.reads.3;
      shorter = c.in_ok-formula.ensures.shorter;
    }

pub conjunction-returns-in_err-next-clause-reads : goal.conjunction-returns-in_err-next-clause-reads
conjunction-returns-in_err-next-clause-reads t c =
    let p = err_from_is_err_and c.from_residual-in_err-next.result c.from_residual-in_err-next.ensures.1 in
    rw (p.1, p.2) (fails (IsLit c.in-Some.more.now) (IsConjunction c.args.terminals.now) c.in_err-next.field-0.0 (and_has_next c.args.terminals.now c.ands.rest.now c.in-Some.more.now (formula_tree c.ands.formula) c.ands.invariant.so_far c.in-Some.ensures) c.in_err-next.ensures.reads)

pub conjunction-ands-preserved : goal.conjunction-ands-preserved
conjunction-ands-preserved t c =
    record {
      so_far = rw (c.in_ok-new.ensures.ok, c.in_ok-new-2.ensures.ok) (and_goes_on c.args.terminals.now c.ands.rest.now c.in-Some.more.now c.in_ok-next.after.now (formula_tree c.ands.formula) (formula_tree c.in_ok-next.next) c.ands.invariant.so_far c.in-Some.ensures c.in_ok-next.ensures.reads);
      ready = c.in_ok-next.ensures.reads.3;
      shorter = (let e : length c.ands.rest.now ≡ length c.in-Some.more.now + 1 = ap length c.in-Some.ensures ∙ (omega arith) in omega (arith, c.in_ok-next.ensures.shorter, c.ands.invariant.shorter));
    }

pub disjunction-returns-in_err-formula-clause-reads : goal.disjunction-returns-in_err-formula-clause-reads
disjunction-returns-in_err-formula-clause-reads t c =
    let p = err_from_is_err_and c.from_residual.result c.from_residual.ensures.1 in
    rw (p.1, p.2) (fails (IsConjunction c.args.terminals.now) (IsDisjunction c.args.terminals.now) c.in_err-formula.field-0.0 (or_has_and c.args.terminals.now) c.in_err-formula.ensures.reads)

pub disjunction-ors-init : goal.disjunction-ors-init
disjunction-ors-init t c =
    record {
      so_far = or_begins_so c.args.terminals.now c.in_ok-formula.rest.now (formula_tree c.in_ok-formula.formula) c.in_ok-formula.ensures.reads;
      ready = c.in_ok-formula.ensures.reads.3;
      shorter = c.in_ok-formula.ensures.shorter;
    }

pub disjunction-returns-in_err-next-clause-reads : goal.disjunction-returns-in_err-next-clause-reads
disjunction-returns-in_err-next-clause-reads t c =
    let p = err_from_is_err_and c.from_residual-in_err-next.result c.from_residual-in_err-next.ensures.1 in
    rw (p.1, p.2) (fails (IsConjunction c.in-Some.more.now) (IsDisjunction c.args.terminals.now) c.in_err-next.field-0.0 (or_has_next c.args.terminals.now c.ors.rest.now c.in-Some.more.now (formula_tree c.ors.formula) c.ors.invariant.so_far c.in-Some.ensures) c.in_err-next.ensures.reads)

pub disjunction-ors-preserved : goal.disjunction-ors-preserved
disjunction-ors-preserved t c =
    record {
      so_far = rw (c.in_ok-new.ensures.ok, c.in_ok-new-2.ensures.ok) (or_goes_on c.args.terminals.now c.ors.rest.now c.in-Some.more.now c.in_ok-next.after.now (formula_tree c.ors.formula) (formula_tree c.in_ok-next.next) c.ors.invariant.so_far c.in-Some.ensures c.in_ok-next.ensures.reads);
      ready = c.in_ok-next.ensures.reads.3;
      shorter = (let e : length c.ors.rest.now ≡ length c.in-Some.more.now + 1 = ap length c.in-Some.ensures ∙ (omega arith) in omega (arith, c.in_ok-next.ensures.shorter, c.ors.invariant.shorter));
    }

pub group-returns-in_err-inner-clause-reads : goal.group-returns-in_err-inner-clause-reads
group-returns-in_err-inner-clause-reads t c =
    let p = err_from_is_err_and c.from_residual.result c.from_residual.ensures.1 in
    rw (p.1, p.2) (fails (IsDisjunction c.args.terminals.now) (IsGroup c.args.terminals.now) c.in_err-inner.field-0.0 (group_has_formula c.args.terminals.now) c.in_err-inner.ensures.reads)

pub group-returns-in-None-clause-reads : goal.group-returns-in-None-clause-reads
group-returns-in-None-clause-reads t c =
    unclosed c.args.terminals.now c.in_ok-inner.rest.now (formula_tree c.in_ok-inner.inner) c.in_ok-inner.ensures.reads c.in-None.ensures

pub literal-returns-in_err-found-clause-reads : goal.literal-returns-in_err-found-clause-reads
literal-returns-in_err-found-clause-reads t c =
    let p = err_from_is_err_and c.from_residual.result c.from_residual.ensures.1 in
    rw (p.1, p.2) (fails (IsBareLit c.args.terminals.now) (IsLit c.args.terminals.now) c.in_err-found.field-0.0 (lit_has_bare c.args.terminals.now) c.in_err-found.ensures.reads)

pub literal-returns-else-precedence_of-lt3-clause-reads : goal.literal-returns-else-precedence_of-lt3-clause-reads
literal-returns-else-precedence_of-lt3-clause-reads t c =
    goes_further c.args.terminals.now c.in_ok-found.rest.now (formula_tree c.in_ok-found.found) c.in_ok-found.ensures.reads (omega arith)
