use Rattle.std.proofs.Common.{◌≡◌, ◌+◌, length, map, ap, ◌∙◌, arith}
use Rattle.std.proofs.lemmas.Result.{err_from_is_err_and}
use Rattle.vp_terms.specs.Tree.{expr_tree}
use Rattle.vp_grammar.proofs.Lists.{pushed}
use Rattle.vp_grammar.proofs.CertificateSteps.{square_fails, square_more, squares_end}
use Rattle.vp_grammar.proofs.certificate.squares.Goals as goal

pub returns-in_err-square-clause-reads : goal.returns-in_err-square-clause-reads
returns-in_err-square-clause-reads c =
    let r = c.from_residual in
    let p = err_from_is_err_and r.result r.ensures.1 in
    rw (p.1, p.2) (square_fails c.args.terminals.now c.squares.rest.now c.in-Some.more.now (map expr_tree c.squares.found.items) c.in_err-square.field-0.0 c.squares.invariant.so_far c.in-Some.ensures c.in_err-square.ensures.reads)

pub squares-preserved : goal.squares-preserved
squares-preserved c = record {
  so_far = rw (pushed expr_tree c.squares.found.items c.push.new.self.items c.in_ok-square.square c.in_ok-push.ensures.items) (square_more c.args.terminals.now c.squares.rest.now c.in-Some.more.now c.in_ok-square.after.now (map expr_tree c.squares.found.items) (expr_tree c.in_ok-square.square) c.squares.invariant.so_far c.in-Some.ensures c.in_ok-square.ensures.reads);
  no_longer = (let a : length c.squares.rest.now ≡ length c.in-Some.more.now + 1 = ap length c.in-Some.ensures ∙ (omega arith) in omega (arith, c.in_ok-square.ensures.shorter, c.squares.invariant.no_longer));
}

pub returns-clause-reads : goal.returns-clause-reads
returns-clause-reads c = squares_end c.args.terminals.now c.squares.rest.now (map expr_tree c.squares.found.items) c.squares.invariant.so_far c.in_default.ensures
