use Rattle.std.proofs.Common.{Vec, Global, ◌≡◌, ◌≤◌, length, map, ap, subst, arith}
use Rattle.vp_terms.specs.declared.expr.Expr.{Expr}
use Rattle.vp_terms.specs.Tree.{expr_tree}
use Rattle.vp_grammar.specs.Entries.{SpellsEntries}
use Rattle.vp_grammar.specs.Reads.{FailsAll}
use Rattle.vp_read.specs.Pieces.{items, piece}
use Rattle.vp_read.proofs.PieceLists.{short_piece}
use Rattle.vp_read.proofs.SectionSteps.{refused}
use Rattle.vp_read.proofs.sections.entries.Goals as goal

pub returns-in-Err-clause-reads : goal.returns-in-Err-clause-reads
returns-in-Err-clause-reads c =
    refused (λ (v : Vec Expr Global). map expr_tree v.items) (SpellsEntries c.args.word c.args.mark (piece (map items c.args.pieces.now) c.args.number)) c.args.number c.refusal.result c.in-Err.why c.refusal.ensures (subst (λ p. FailsAll (SpellsEntries c.args.word c.args.mark p) c.in-Err.why) c.piece.ensures c.in-Err.ensures.reads)

pub returns-in-Ok-clause-few : goal.returns-in-Ok-clause-few
returns-in-Ok-clause-few c =
    let same : length c.piece.result.now ≡ length (piece (map items c.args.pieces.now) c.args.number) = ap length c.piece.ensures in
    let short : length (piece (map items c.args.pieces.now) c.args.number) ≤ 1048576 = short_piece c.args.pieces.now c.args.number c.requires.short in
    omega (arith, same, short, c.in-Ok.ensures.few)
