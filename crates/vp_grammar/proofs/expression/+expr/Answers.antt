use Rattle.std.proofs.Common.{◌≡◌, ◌+◌, length, arith, refl, ap, ◌∙◌}
use Rattle.std.proofs.lemmas.Result.{err_from_is_err_and}
use Rattle.vp_terms.specs.Tree.{expr_tree}
use Rattle.vp_grammar.specs.Grammar.{Literal}
use Rattle.vp_grammar.specs.Reads.{IsExpression, IsStart, IsTerm, IsFactor, IsBase}
use Rattle.vp_grammar.proofs.Steps.{fails, term_begins_so, term_goes_on, sum_begins_so, sum_goes_on, term_has_factor, star_has_factor, expression_has_start, sign_has_term, minus_has_term, negative, reads_start, factor_has_base, raised, alone, no_exponent, bracket_has_expression, bracketed, not_closed, opens_nothing, variable}
use Rattle.vp_grammar.proofs.expression.+expr.Goals as goal

pub base-returns-in_err-inner-in-Bracket-clause-reads : goal.base-returns-in_err-inner-in-Bracket-clause-reads
base-returns-in_err-inner-in-Bracket-clause-reads t c =
    let p = err_from_is_err_and c.from_residual.result c.from_residual.ensures.1 in rw (p.1, p.2) (fails (IsExpression c.in-Bracket.more.now) (IsBase c.args.terminals.now) c.in_err-inner-in-Bracket.field-0.0 (bracket_has_expression c.args.terminals.now c.in-Bracket.more.now c.in-Bracket.ensures) c.in_err-inner-in-Bracket.ensures.reads)

pub base-returns-in-Number-clause-reads : goal.base-returns-in-Number-clause-reads
base-returns-in-Number-clause-reads t c = (Literal c.in-Number.number c.in-Number.ensures.0, c.in-Number.ensures.1, refl)

pub base-returns-in-Variable-clause-reads : goal.base-returns-in-Variable-clause-reads
base-returns-in-Variable-clause-reads t c =
    rw c.known.ensures (variable c.args.terminals.now c.in-Variable.rest.now c.in-Variable.variable c.in-Variable.ensures)

pub base-returns-in-Some-clause-reads : goal.base-returns-in-Some-clause-reads
base-returns-in-Some-clause-reads t c =
    bracketed c.args.terminals.now c.in-Bracket.more.now c.in_ok-inner-in-Bracket.rest.now c.in-Some.after.now (expr_tree c.in_ok-inner-in-Bracket.inner) c.in-Bracket.ensures c.in_ok-inner-in-Bracket.ensures.reads c.in-Some.ensures

pub base-returns-in-None-clause-reads : goal.base-returns-in-None-clause-reads
base-returns-in-None-clause-reads t c =
    not_closed c.args.terminals.now c.in-Bracket.more.now c.in_ok-inner-in-Bracket.rest.now (expr_tree c.in_ok-inner-in-Bracket.inner) c.in-Bracket.ensures c.in_ok-inner-in-Bracket.ensures.reads c.in-None.ensures

pub base-returns-in-Other-clause-reads : goal.base-returns-in-Other-clause-reads
base-returns-in-Other-clause-reads t c = opens_nothing c.args.terminals.now c.in-Other.ensures

pub expression-returns-in_err-sum-clause-reads : goal.expression-returns-in_err-sum-clause-reads
expression-returns-in_err-sum-clause-reads t c =
    let p = err_from_is_err_and c.from_residual.result c.from_residual.ensures.1 in rw (p.1, p.2) (fails (IsStart c.args.terminals.now) (IsExpression c.args.terminals.now) c.in_err-sum.field-0.0 (expression_has_start c.args.terminals.now) c.in_err-sum.ensures.reads)

pub expression-terms-init : goal.expression-terms-init
expression-terms-init t c = record {
  so_far = sum_begins_so c.args.terminals.now c.in_ok-sum.rest.now (expr_tree c.in_ok-sum.sum) c.in_ok-sum.ensures.reads;
  ready = c.in_ok-sum.ensures.reads.3;
  shorter = c.in_ok-sum.ensures.shorter;
}

pub expression-returns-in_err-next-clause-reads : goal.expression-returns-in_err-next-clause-reads
expression-returns-in_err-next-clause-reads t c =
    let p = err_from_is_err_and c.from_residual-in_err-next.result c.from_residual-in_err-next.ensures.1 in rw (p.1, p.2) (fails (IsTerm c.in-Some.more.now) (IsExpression c.args.terminals.now) c.in_err-next.field-0.0 (sign_has_term c.args.terminals.now c.terms.rest.now c.in-Some.more.now (expr_tree c.terms.sum) c.in-Some.sign c.terms.invariant.so_far c.in-Some.ensures) c.in_err-next.ensures.reads)

pub expression-terms-preserved : goal.expression-terms-preserved
expression-terms-preserved t c = record {
  so_far = rw c.in_ok-sum-2.ensures (sum_goes_on c.args.terminals.now c.terms.rest.now c.in-Some.more.now c.in_ok-next.after.now (expr_tree c.terms.sum) (expr_tree c.in_ok-next.next) c.in-Some.sign c.terms.invariant.so_far c.in-Some.ensures c.in_ok-next.ensures.reads);
  ready = c.in_ok-next.ensures.reads.3;
  shorter = (let e : length c.terms.rest.now ≡ length c.in-Some.more.now + 1 = ap length c.in-Some.ensures ∙ (omega arith) in omega (arith, c.in_ok-next.ensures.shorter, c.terms.invariant.shorter));
}

pub factor-returns-in_err-found-clause-reads : goal.factor-returns-in_err-found-clause-reads
factor-returns-in_err-found-clause-reads t c =
    let p = err_from_is_err_and c.from_residual.result c.from_residual.ensures.1 in rw (p.1, p.2) (fails (IsBase c.args.terminals.now) (IsFactor c.args.terminals.now) c.in_err-found.field-0.0 (factor_has_base c.args.terminals.now) c.in_err-found.ensures.reads)

pub factor-returns-in_err-power-clause-reads : goal.factor-returns-in_err-power-clause-reads
factor-returns-in_err-power-clause-reads t c =
    let p = err_from_is_err_and c.from_residual-in_err-power.result c.from_residual-in_err-power.ensures.1 in rw (p.1, p.2) (no_exponent c.args.terminals.now c.in_ok-found.rest.now (expr_tree c.in_ok-found.found) c.in_err-power.field-0.0 c.in_ok-found.ensures.reads c.in_err-power.ensures)

pub factor-returns-in-None-clause-reads : goal.factor-returns-in-None-clause-reads
factor-returns-in-None-clause-reads t c = alone c.args.terminals.now c.in_ok-found.rest.now (expr_tree c.in_ok-found.found) c.in_ok-found.ensures.reads (rw c.in-None.is at c.in_ok-power.ensures)

pub factor-returns-in_ok-new-in-Some-clause-reads : goal.factor-returns-in_ok-new-in-Some-clause-reads
factor-returns-in_ok-new-in-Some-clause-reads t c =
    rw c.in_ok-new-in-Some.ensures.ok (raised c.args.terminals.now c.in_ok-found.rest.now c.in-Some.after.now (expr_tree c.in_ok-found.found) c.in-Some.power c.in_ok-found.ensures.reads (rw c.in-Some.is at c.in_ok-power.ensures))

pub start-returns-in_err-first-in-Some-clause-reads : goal.start-returns-in_err-first-in-Some-clause-reads
start-returns-in_err-first-in-Some-clause-reads t c =
    let p = err_from_is_err_and c.from_residual.result c.from_residual.ensures.1 in rw (p.1, p.2) (fails (IsTerm c.in-Some.more.now) (IsStart c.args.terminals.now) c.in_err-first-in-Some.field-0.0 (minus_has_term c.args.terminals.now c.in-Some.more.now c.in-Some.ensures) c.in_err-first-in-Some.ensures.reads)

pub start-returns-in_ok-joined-in-Some-clause-reads : goal.start-returns-in_ok-joined-in-Some-clause-reads
start-returns-in_ok-joined-in-Some-clause-reads t c =
    rw c.in_ok-joined-in-Some.ensures (negative c.args.terminals.now c.in-Some.more.now c.in_ok-first-in-Some.rest.now c.nought.result (expr_tree c.in_ok-first-in-Some.first) c.nought.ensures c.in-Some.ensures c.in_ok-first-in-Some.ensures.reads)

pub start-returns-in-None-clause-reads : goal.start-returns-in-None-clause-reads
start-returns-in-None-clause-reads t c =
    reads_start (λ x. expr_tree x.0) (λ x. x.1.now) c.args.terminals.now c.term-in-None.result c.in-None.ensures c.term-in-None.ensures.reads

pub term-returns-in_err-product-clause-reads : goal.term-returns-in_err-product-clause-reads
term-returns-in_err-product-clause-reads t c =
    let p = err_from_is_err_and c.from_residual.result c.from_residual.ensures.1 in rw (p.1, p.2) (fails (IsFactor c.args.terminals.now) (IsTerm c.args.terminals.now) c.in_err-product.field-0.0 (term_has_factor c.args.terminals.now) c.in_err-product.ensures.reads)

pub term-factors-init : goal.term-factors-init
term-factors-init t c = record {
  so_far = term_begins_so c.args.terminals.now c.in_ok-product.rest.now (expr_tree c.in_ok-product.product) c.in_ok-product.ensures.reads;
  ready = c.in_ok-product.ensures.reads.3;
  shorter = c.in_ok-product.ensures.shorter;
}

pub term-returns-in_err-next-clause-reads : goal.term-returns-in_err-next-clause-reads
term-returns-in_err-next-clause-reads t c =
    let p = err_from_is_err_and c.from_residual-in_err-next.result c.from_residual-in_err-next.ensures.1 in rw (p.1, p.2) (fails (IsFactor c.in-Some.more.now) (IsTerm c.args.terminals.now) c.in_err-next.field-0.0 (star_has_factor c.args.terminals.now c.factors.rest.now c.in-Some.more.now (expr_tree c.factors.product) c.factors.invariant.so_far c.in-Some.ensures) c.in_err-next.ensures.reads)

pub term-factors-preserved : goal.term-factors-preserved
term-factors-preserved t c =
    record {
      so_far = rw (c.in_ok-new.ensures.ok, c.in_ok-new-2.ensures.ok) (term_goes_on c.args.terminals.now c.factors.rest.now c.in-Some.more.now c.in_ok-next.after.now (expr_tree c.factors.product) (expr_tree c.in_ok-next.next) c.factors.invariant.so_far c.in-Some.ensures c.in_ok-next.ensures.reads);
      ready = c.in_ok-next.ensures.reads.3;
      shorter = (let e : length c.factors.rest.now ≡ length c.in-Some.more.now + 1 = ap length c.in-Some.ensures ∙ (omega arith) in omega (arith, c.in_ok-next.ensures.shorter, c.factors.invariant.shorter));
    }
