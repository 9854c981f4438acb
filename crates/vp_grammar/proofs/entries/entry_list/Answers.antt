use Rattle.std.proofs.Common.{map}
use Rattle.std.proofs.lemmas.Result.{err_from_is_err_and}
use Rattle.vp_terms.specs.Tree.{expr_tree}
use Rattle.vp_grammar.specs.EntryReads.{IsEntry}
use Rattle.vp_grammar.proofs.Lists.{first_fails, begins, next_fails, one_more, list_ended, no_end, pushed}
use Rattle.vp_grammar.proofs.EntrySteps.{comma, comma_other, entry_once}
use Rattle.vp_grammar.proofs.entries.entry_list.Goals as goal

pub returns-in_err-first : goal.returns-in_err-first
returns-in_err-first c =
    let p = err_from_is_err_and c.from_residual.result c.from_residual.ensures.1 in
    rw (p.1, p.2) (first_fails (IsEntry c.args.mark) comma c.args.terminals.now c.in_err-first.field-0.0 c.in_err-first.ensures.reads)

pub entries-init : goal.entries-init
entries-init c = record {
  so_far = rw c.in_ok-found.ensures.items (begins (IsEntry c.args.mark) comma (entry_once c.args.mark) c.args.terminals.now c.in_ok-first.rest.now (expr_tree c.in_ok-first.first) c.in_ok-first.ensures.reads);
}

pub returns-in_err-value : goal.returns-in_err-value
returns-in_err-value c =
    let r = c.from_residual-in_err-value in
    let p = err_from_is_err_and r.result r.ensures.1 in
    rw (p.1, p.2) (next_fails (IsEntry c.args.mark) comma comma_other c.args.terminals.now c.entries.rest.now c.in-Some.more.now (map expr_tree c.entries.found.items) c.in_err-value.field-0.0 c.entries.invariant.so_far c.in-Some.ensures c.in_err-value.ensures.reads)

pub entries-preserved : goal.entries-preserved
entries-preserved c = record {
  so_far = rw (pushed expr_tree c.entries.found.items c.push.new.self.items c.in_ok-value.value c.in_ok-push.ensures.items) (one_more (IsEntry c.args.mark) comma (entry_once c.args.mark) comma_other c.args.terminals.now c.entries.rest.now c.in-Some.more.now c.in_ok-value.after.now (map expr_tree c.entries.found.items) (expr_tree c.in_ok-value.value) c.entries.invariant.so_far c.in-Some.ensures c.in_ok-value.ensures.reads);
}

pub returns-in-Some-after_symbol : goal.returns-in-Some-after_symbol
returns-in-Some-after_symbol c = list_ended (IsEntry c.args.mark) comma c.args.terminals.now c.entries.rest.now c.in-Some-after_symbol.after.now (map expr_tree c.entries.found.items) c.entries.invariant.so_far c.in-Some-after_symbol.ensures

pub returns : goal.returns
returns c = no_end (IsEntry c.args.mark) comma c.args.terminals.now c.entries.rest.now (map expr_tree c.entries.found.items) c.entries.invariant.so_far c.in_default.ensures c.in-None.ensures
