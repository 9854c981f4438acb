use Rattle.std.proofs.Common.{◌≡◌, ◌≤◌, All, List, ℕ, length, map, ap, sym, ◌∙◌, subst, arith}
use Rattle.vp_grammar.specs.Reads.{FailsAll}
use Rattle.vp_grammar.specs.Entries.{SpellsNames}
use Rattle.vp_read.specs.Naming.{IsWithin}
use Rattle.vp_read.specs.Pieces.{items, piece}
use Rattle.vp_read.specs.Sections.{IsListed}
use Rattle.vp_read.proofs.Drafting.{spelled_few}
use Rattle.vp_read.proofs.NamesWithin.{listed_within, piece_within}
use Rattle.vp_read.proofs.PieceLists.{short_piece}
use Rattle.vp_read.proofs.SectionSteps.{refused, no_list}
use Rattle.vp_read.proofs.sections.listed.Goals as goal

pub spelled-requires : goal.spelled-requires
spelled-requires c =
    let p = piece (map items c.args.pieces.now) c.args.number in
    subst (All (IsWithin c.args.text.now)) (sym c.deref.ensures.value) (listed_within c.args.text.now c.args.word c.args.least p c.in-Ok.spans.items (subst (λ q. SpellsNames c.args.word c.args.least q c.in-Ok.spans.items) c.piece.ensures c.in-Ok.ensures.reads) (piece_within c.args.text.now c.args.pieces.now c.args.number c.requires.within))

pub returns-in-Err-clause-reads : goal.returns-in-Err-clause-reads
returns-in-Err-clause-reads c =
    let p = piece (map items c.args.pieces.now) c.args.number in
    refused (λ (l : List (List ℕ)). l) (IsListed c.args.text.now c.args.word c.args.least p) c.args.number c.refusal.result c.in-Err.why c.refusal.ensures (no_list c.args.text.now c.args.word c.args.least p c.in-Err.why (subst (λ q. FailsAll (SpellsNames c.args.word c.args.least q) c.in-Err.why) c.piece.ensures c.in-Err.ensures.reads))

pub returns-in_ok-names-in-Ok-clause-few : goal.returns-in_ok-names-in-Ok-clause-few
returns-in_ok-names-in-Ok-clause-few c =
    let same : length c.piece.result.now ≡ length (piece (map items c.args.pieces.now) c.args.number) = ap length c.piece.ensures in
    let short : length (piece (map items c.args.pieces.now) c.args.number) ≤ 1048576 = short_piece c.args.pieces.now c.args.number c.requires.short in
    spelled_few c.args.text.now c.deref.result.now c.of.result (length c.piece.result.now) (c.of.ensures ∙ c.in_ok-names-in-Ok.ensures) (omega (arith, ap length c.deref.ensures.value, c.in-Ok.ensures.few)) (omega (arith, same, short))
