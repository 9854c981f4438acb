use Rattle.std.proofs.Common.{map, subst}
use Rattle.vp_terms.specs.Tree.{prog_tree}
use Rattle.vp_grammar.specs.Controllers.{SpellsController}
use Rattle.vp_grammar.specs.Reads.{FailsAll}
use Rattle.vp_read.specs.Pieces.{items, piece}
use Rattle.vp_read.proofs.SectionSteps.{refused}
use Rattle.vp_read.proofs.sections.controller.Goals as goal

pub returns-in-Err : goal.returns-in-Err
returns-in-Err c =
    refused prog_tree (SpellsController (piece (map items c.args.pieces.now) 8)) 8 c.refusal.result c.in-Err.why c.refusal.ensures (subst (λ p. FailsAll (SpellsController p) c.in-Err.why) c.piece.ensures c.in-Err.ensures)
