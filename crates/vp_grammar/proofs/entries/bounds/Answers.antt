use Rattle.std.proofs.Common.{◌≡◌, ◌≢◌, length, [], map, rules}
use Rattle.std.proofs.lemmas.Result.{err_from_is_err_and}
use Rattle.vp_lex.specs.declared.word.ReservedWord.TheVariants as word
use Rattle.vp_grammar.specs.Entries.{SpellsBounds}
use Rattle.vp_terms.specs.Packages.{slack_tree}
use Rattle.vp_grammar.specs.EntryReads.{Listed, IsBound}
use Rattle.vp_grammar.proofs.Lists.{Piece, piece_fails, piece_goes, fails_alike, read_whole, goes_behind}
use Rattle.vp_grammar.proofs.EntrySteps.{comma, bound_list_once, bounds_piece, piece_bounds}
use Rattle.vp_grammar.proofs.FewItems.{few_bounds}
use Rattle.vp_grammar.proofs.entries.bounds.Goals as goal

pub returns-in_err-found-clause-reads : goal.returns-in_err-found-clause-reads
returns-in_err-found-clause-reads c =
    let p = err_from_is_err_and c.from_residual.result c.from_residual.ensures.1 in
    rw (p.1, p.2) (fails_alike (Piece word.Slack (Listed IsBound comma) [] c.args.terminals.now) (SpellsBounds c.args.terminals.now) c.in_err-found.field-0.0 (bounds_piece c.args.terminals.now) (piece_fails word.Slack (Listed IsBound comma) [] c.args.terminals.now c.in-Some.more.now c.in_err-found.field-0.0 c.in-Some.ensures c.in_err-found.ensures))

pub returns-then-is_empty-clause-reads : goal.returns-then-is_empty-clause-reads
returns-then-is_empty-clause-reads c =
    let n : length c.in_ok-found.rest.now ≡ 0 = search rules in
    piece_bounds c.args.terminals.now (map slack_tree c.in_ok-found.found.items) (c.in-Some.more.now, c.in-Some.ensures, read_whole (Listed IsBound comma) c.in-Some.more.now c.in_ok-found.rest.now (map slack_tree c.in_ok-found.found.items) c.in_ok-found.ensures n)

pub returns-then-is_empty-clause-few : goal.returns-then-is_empty-clause-few
returns-then-is_empty-clause-few c =
    let n : length c.in_ok-found.rest.now ≡ 0 = search rules in
    few_bounds c.args.terminals.now c.in_ok-found.found.items (piece_bounds c.args.terminals.now (map slack_tree c.in_ok-found.found.items) (c.in-Some.more.now, c.in-Some.ensures, read_whole (Listed IsBound comma) c.in-Some.more.now c.in_ok-found.rest.now (map slack_tree c.in_ok-found.found.items) c.in_ok-found.ensures n))

pub returns-else-is_empty-clause-reads : goal.returns-else-is_empty-clause-reads
returns-else-is_empty-clause-reads c =
    let n : length c.in_ok-found.rest.now ≢ 0 = search rules in
    λ t s. piece_goes word.Slack (Listed IsBound comma) bound_list_once [] c.args.terminals.now c.in-Some.more.now c.in_ok-found.rest.now (map slack_tree c.in_ok-found.found.items) c.in-Some.ensures c.in_ok-found.ensures (goes_behind c.in_ok-found.rest.now n) t (bounds_piece c.args.terminals.now t s)
