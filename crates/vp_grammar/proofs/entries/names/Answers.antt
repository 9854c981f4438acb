use Rattle.std.proofs.Common.{◌≡◌, ◌≢◌, ◌≤◌, ◌<◌, length, [], ap, arith, rules}
use Rattle.std.proofs.lemmas.Result.{err_from_is_err_and}
use Rattle.vp_grammar.specs.Entries.{SpellsNames}
use Rattle.vp_grammar.specs.EntryReads.{MaybeNames}
use Rattle.vp_grammar.proofs.Lists.{Piece, piece_fails, piece_goes, piece_is, fails_alike, read_whole, goes_behind}
use Rattle.vp_grammar.proofs.EntrySteps.{names_once, names_piece, piece_names}
use Rattle.vp_grammar.proofs.FewItems.{few_names}
use Rattle.vp_grammar.proofs.entries.names.Goals as goal
use Rattle.vp_grammar.proofs.entries.names.Goals.{else-is_empty-via-then-is_empty+else-least-len, else-is_empty-via-else-is_empty}

pub returns-in_err-found-clause-reads : goal.returns-in_err-found-clause-reads
returns-in_err-found-clause-reads c =
    let p = err_from_is_err_and c.from_residual.result c.from_residual.ensures.1 in
    rw (p.1, p.2) (fails_alike (Piece c.args.word MaybeNames [] c.args.terminals.now) (SpellsNames c.args.word c.args.least c.args.terminals.now) c.in_err-found.field-0.0 (λ t s. (names_piece c.args.word c.args.least c.args.terminals.now t s).0) (piece_fails c.args.word MaybeNames [] c.args.terminals.now c.in-Some.more.now c.in_err-found.field-0.0 c.in-Some.ensures c.in_err-found.ensures))

pub returns-then-least-len-clause-reads : goal.returns-then-least-len-clause-reads
returns-then-least-len-clause-reads c =
    let n : length c.in_ok-found.rest.now ≡ 0 = search rules in
    let l : c.args.least ≤ length c.in_ok-found.found.items = search rules in
    piece_names c.args.word c.args.least c.args.terminals.now c.in_ok-found.found.items (c.in-Some.more.now, c.in-Some.ensures, read_whole MaybeNames c.in-Some.more.now c.in_ok-found.rest.now c.in_ok-found.found.items c.in_ok-found.ensures n) l

pub returns-then-least-len-clause-few : goal.returns-then-least-len-clause-few
returns-then-least-len-clause-few c =
    let n : length c.in_ok-found.rest.now ≡ 0 = search rules in
    let l : c.args.least ≤ length c.in_ok-found.found.items = search rules in
    few_names c.args.word c.args.least c.args.terminals.now c.in_ok-found.found.items (piece_names c.args.word c.args.least c.args.terminals.now c.in_ok-found.found.items (c.in-Some.more.now, c.in-Some.ensures, read_whole MaybeNames c.in-Some.more.now c.in_ok-found.rest.now c.in_ok-found.found.items c.in_ok-found.ensures n) l)

pub returns-else-is_empty-clause-reads : goal.returns-else-is_empty-clause-reads
returns-else-is_empty-clause-reads c = elim c.else-is_empty.branch [
  | else-is_empty-via-then-is_empty+else-least-len w ↦ (
      let l : length c.in_ok-found.found.items < c.args.least = search rules in
      λ t s.
      let q : Piece c.args.word MaybeNames [] c.args.terminals.now t × (c.args.least ≤ length t) = names_piece c.args.word c.args.least c.args.terminals.now t s in
      let e : length t ≡ length c.in_ok-found.found.items = ap length (piece_is c.args.word MaybeNames names_once [] c.args.terminals.now c.in-Some.more.now c.in_ok-found.rest.now t c.in_ok-found.found.items c.in-Some.ensures c.in_ok-found.ensures q.0).0 in
      let m : c.args.least ≤ length t = q.1 in
      omega arith)
  | else-is_empty-via-else-is_empty w ↦ (
      let n : length c.in_ok-found.rest.now ≢ 0 = search rules in
      λ t s. piece_goes c.args.word MaybeNames names_once [] c.args.terminals.now c.in-Some.more.now c.in_ok-found.rest.now c.in_ok-found.found.items c.in-Some.ensures c.in_ok-found.ensures (goes_behind c.in_ok-found.rest.now n) t (names_piece c.args.word c.args.least c.args.terminals.now t s).0)
]
