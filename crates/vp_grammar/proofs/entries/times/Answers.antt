use Rattle.std.proofs.Common.{◌≡◌, [], ◌∷◌, true, sym}
use Rattle.std.proofs.lemmas.Result.{err_from_is_err_and}
use Rattle.vp_terms.specs.Tree.{expr_tree}
use Rattle.vp_lex.specs.declared.word.ReservedWord.TheVariants as word
use Rattle.vp_grammar.specs.Entries.{SpellsTimes}
use Rattle.vp_grammar.specs.EntryReads.{IsPair}
use Rattle.vp_grammar.proofs.Lists.{Piece, piece_fails, piece_goes, fails_alike}
use Rattle.vp_grammar.proofs.EntrySteps.{semicolon, pair_once, times_piece}
use Rattle.vp_grammar.proofs.entries.times.Goals as goal

pub returns-in_err-low : goal.returns-in_err-low
returns-in_err-low c =
    let p = err_from_is_err_and c.from_residual.result c.from_residual.ensures.1 in
    rw (p.1, p.2) (fails_alike (Piece word.Time IsPair (semicolon ∷ []) c.args.terminals.now) (SpellsTimes c.args.terminals.now) c.in_err-low.field-0.0 (times_piece c.args.terminals.now) (piece_fails word.Time IsPair (semicolon ∷ []) c.args.terminals.now c.in-Some.more.now c.in_err-low.field-0.0 c.in-Some.ensures c.in_err-low.ensures.reads))

pub returns-else-is_only : goal.returns-else-is_only
returns-else-is_only c =
    λ t s. piece_goes word.Time IsPair pair_once (semicolon ∷ []) c.args.terminals.now c.in-Some.more.now c.in_ok-low.rest.now (expr_tree c.in_ok-low.low, expr_tree c.in_ok-low.high) c.in-Some.ensures c.in_ok-low.ensures.reads (λ q. let a : c.is_only.result ≡ true = c.is_only.ensures.1 (sym q) in cc) t (times_piece c.args.terminals.now t s)
