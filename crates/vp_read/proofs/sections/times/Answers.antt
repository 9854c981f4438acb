use Rattle.std.proofs.Common.{map, subst}
use Rattle.vp_terms.specs.declared.expr.Expr.{Expr}
use Rattle.vp_terms.specs.Tree.{expr_tree}
use Rattle.vp_grammar.specs.Entries.{SpellsTimes}
use Rattle.vp_grammar.specs.Reads.{FailsAll}
use Rattle.vp_read.specs.Pieces.{items, piece}
use Rattle.vp_read.proofs.SectionSteps.{refused}
use Rattle.vp_read.proofs.sections.times.Goals as goal

pub returns-in-Err : goal.returns-in-Err
returns-in-Err c =
    refused (λ (x : Expr × Expr). (expr_tree x.0, expr_tree x.1)) (SpellsTimes (piece (map items c.args.pieces.now) 9)) 9 c.refusal.result c.in-Err.why c.refusal.ensures (subst (λ p. FailsAll (SpellsTimes p) c.in-Err.why) c.piece.ensures c.in-Err.ensures)
