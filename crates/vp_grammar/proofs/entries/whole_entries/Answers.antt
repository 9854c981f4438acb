use Rattle.std.proofs.Common.{◌≡◌, ◌≢◌, length, [], map, rules}
use Rattle.std.proofs.lemmas.Result.{err_from_is_err_and}
use Rattle.vp_terms.specs.Tree.{expr_tree}
use Rattle.vp_grammar.specs.Entries.{SpellsEntries}
use Rattle.vp_grammar.specs.EntryReads.{Listed, IsEntry}
use Rattle.vp_grammar.proofs.Lists.{Piece, piece_fails, piece_goes, fails_alike, read_whole, goes_behind}
use Rattle.vp_grammar.proofs.EntrySteps.{comma, entry_list_once, entries_piece, piece_entries}
use Rattle.vp_grammar.proofs.FewItems.{few_entries}
use Rattle.vp_grammar.proofs.entries.whole_entries.Goals as goal

pub returns-in_err-found-clause-reads : goal.returns-in_err-found-clause-reads
returns-in_err-found-clause-reads c =
    let p = err_from_is_err_and c.from_residual.result c.from_residual.ensures.1 in
    rw (p.1, p.2) (fails_alike (Piece c.args.word (Listed (IsEntry c.args.mark) comma) [] c.args.terminals.now) (SpellsEntries c.args.word c.args.mark c.args.terminals.now) c.in_err-found.field-0.0 (entries_piece c.args.word c.args.mark c.args.terminals.now) (piece_fails c.args.word (Listed (IsEntry c.args.mark) comma) [] c.args.terminals.now c.in-Some.more.now c.in_err-found.field-0.0 c.in-Some.ensures c.in_err-found.ensures))

pub returns-then-is_empty-clause-reads : goal.returns-then-is_empty-clause-reads
returns-then-is_empty-clause-reads c =
    let n : length c.in_ok-found.rest.now ≡ 0 = search rules in
    piece_entries c.args.word c.args.mark c.args.terminals.now (map expr_tree c.in_ok-found.found.items) (c.in-Some.more.now, c.in-Some.ensures, read_whole (Listed (IsEntry c.args.mark) comma) c.in-Some.more.now c.in_ok-found.rest.now (map expr_tree c.in_ok-found.found.items) c.in_ok-found.ensures n)

pub returns-then-is_empty-clause-few : goal.returns-then-is_empty-clause-few
returns-then-is_empty-clause-few c =
    let n : length c.in_ok-found.rest.now ≡ 0 = search rules in
    few_entries c.args.word c.args.mark c.args.terminals.now c.in_ok-found.found.items (piece_entries c.args.word c.args.mark c.args.terminals.now (map expr_tree c.in_ok-found.found.items) (c.in-Some.more.now, c.in-Some.ensures, read_whole (Listed (IsEntry c.args.mark) comma) c.in-Some.more.now c.in_ok-found.rest.now (map expr_tree c.in_ok-found.found.items) c.in_ok-found.ensures n))

pub returns-else-is_empty-clause-reads : goal.returns-else-is_empty-clause-reads
returns-else-is_empty-clause-reads c =
    let n : length c.in_ok-found.rest.now ≢ 0 = search rules in
    λ t s. piece_goes c.args.word (Listed (IsEntry c.args.mark) comma) (entry_list_once c.args.mark) [] c.args.terminals.now c.in-Some.more.now c.in_ok-found.rest.now (map expr_tree c.in_ok-found.found.items) c.in-Some.ensures c.in_ok-found.ensures (goes_behind c.in_ok-found.rest.now n) t (entries_piece c.args.word c.args.mark c.args.terminals.now t s)
