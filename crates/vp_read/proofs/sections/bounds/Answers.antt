use Rattle.std.proofs.Common.{Vec, Global, ◌≡◌, ◌≤◌, length, map, ap, subst, arith}
use Rattle.vp_terms.specs.declared.package.Slack.{Slack}
use Rattle.vp_grammar.specs.Entries.{SpellsBounds}
use Rattle.vp_terms.specs.Packages.{slack_tree}
use Rattle.vp_grammar.specs.Reads.{FailsAll}
use Rattle.vp_read.specs.Pieces.{items, piece}
use Rattle.vp_read.proofs.PieceLists.{short_piece}
use Rattle.vp_read.proofs.SectionSteps.{refused}
use Rattle.vp_read.proofs.sections.bounds.Goals as goal

pub returns-in-Err-clause-reads : goal.returns-in-Err-clause-reads
returns-in-Err-clause-reads c =
    refused (λ (v : Vec Slack Global). map slack_tree v.items) (SpellsBounds (piece (map items c.args.pieces.now) 11)) 11 c.refusal.result c.in-Err.why c.refusal.ensures (subst (λ p. FailsAll (SpellsBounds p) c.in-Err.why) c.piece.ensures c.in-Err.ensures.reads)

pub returns-in-Ok-clause-few : goal.returns-in-Ok-clause-few
returns-in-Ok-clause-few c =
    let same : length c.piece.result.now ≡ length (piece (map items c.args.pieces.now) 11) = ap length c.piece.ensures in
    let short : length (piece (map items c.args.pieces.now) 11) ≤ 1048576 = short_piece c.args.pieces.now 11 c.requires in
    omega (arith, same, short, c.in-Ok.ensures.few)
