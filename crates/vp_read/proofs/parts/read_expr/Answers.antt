use Rattle.vp_terms.specs.declared.expr.Expr.{Expr}
use Rattle.std.proofs.Common.{IsTrue}
use Rattle.vp_terms.specs.Tree.{expr_tree}
use Rattle.vp_terms.specs.WellFormed.{in_certificate, is_good_expr, places_of}
use Rattle.vp_grammar.specs.Reads.{Spells}
use Rattle.vp_read.proofs.Parting.{part_reads}
use Rattle.vp_read.proofs.PartLaws.{read_good}
use Rattle.vp_read.proofs.parts.read_expr.Goals as goal

pub returns-clause-exact : goal.returns-clause-exact
returns-clause-exact c =
    part_reads {X = Expr} expr_tree Spells c.args.text.now c.args.tokens.now c.args.names.now c.in_ok-known.known c.deref.result.now c.deref-2.result.now c.whole_expression-read.result c.declared_part.result c.in_ok-known.ensures.gives c.deref.ensures.value c.deref-2.ensures.value c.whole_expression-read.ensures c.declared_part.ensures

pub returns-clause-well_formed : goal.returns-clause-well_formed
returns-clause-well_formed c =
    let reads = part_reads {X = Expr} expr_tree Spells c.args.text.now c.args.tokens.now c.args.names.now c.in_ok-known.known c.deref.result.now c.deref-2.result.now c.whole_expression-read.result c.declared_part.result c.in_ok-known.ensures.gives c.deref.ensures.value c.deref-2.ensures.value c.whole_expression-read.ensures c.declared_part.ensures in
    read_good {X = Expr} expr_tree Spells c.args.text.now c.args.tokens.now c.args.names.now (λ x. IsTrue (is_good_expr in_certificate (places_of c.args.names.now) x)) c.declared_part.result reads (λ x h. c.parts_are_well_formed.ensures.expressions c.args.text.now c.args.tokens.now c.args.names.now x h)
