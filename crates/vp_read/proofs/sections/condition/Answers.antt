use Rattle.std.proofs.Common.{map, subst}
use Rattle.vp_terms.specs.Tree.{formula_tree}
use Rattle.vp_grammar.specs.FormulaReads.{SpellsFormulaPiece}
use Rattle.vp_grammar.specs.Reads.{FailsAll}
use Rattle.vp_read.specs.Pieces.{items, piece}
use Rattle.vp_read.proofs.SectionSteps.{refused}
use Rattle.vp_read.proofs.sections.condition.Goals as goal

pub returns-in-Err : goal.returns-in-Err
returns-in-Err c =
    refused formula_tree (SpellsFormulaPiece c.args.word (piece (map items c.args.pieces.now) c.args.number)) c.args.number c.refusal.result c.in-Err.why c.refusal.ensures (subst (λ p. FailsAll (SpellsFormulaPiece c.args.word p) c.in-Err.why) c.piece.ensures c.in-Err.ensures)
