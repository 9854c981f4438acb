use Rattle.std.proofs.Common.{map}
use Rattle.std.proofs.lemmas.Result.{err_from_is_err_and}
use Rattle.vp_terms.specs.Packages.{slack_tree}
use Rattle.vp_grammar.specs.EntryReads.{IsBound}
use Rattle.vp_grammar.proofs.Lists.{first_fails, begins, next_fails, one_more, list_ended, no_end, pushed}
use Rattle.vp_grammar.proofs.EntrySteps.{comma, comma_other, bound_once}
use Rattle.vp_grammar.proofs.entries.bound_list.Goals as goal

pub returns-in_err-first : goal.returns-in_err-first
returns-in_err-first c =
    let p = err_from_is_err_and c.from_residual.result c.from_residual.ensures.1 in
    rw (p.1, p.2) (first_fails IsBound comma c.args.terminals.now c.in_err-first.field-0.0 c.in_err-first.ensures.reads)

pub bounds-init : goal.bounds-init
bounds-init c = record {
  so_far = rw c.in_ok-found.ensures.items (begins IsBound comma bound_once c.args.terminals.now c.in_ok-first.rest.now (slack_tree c.in_ok-first.first) c.in_ok-first.ensures.reads);
}

pub returns-in_err-slack : goal.returns-in_err-slack
returns-in_err-slack c =
    let r = c.from_residual-in_err-slack in
    let p = err_from_is_err_and r.result r.ensures.1 in
    rw (p.1, p.2) (next_fails IsBound comma comma_other c.args.terminals.now c.bounds.rest.now c.in-Some.more.now (map slack_tree c.bounds.found.items) c.in_err-slack.field-0.0 c.bounds.invariant.so_far c.in-Some.ensures c.in_err-slack.ensures.reads)

pub bounds-preserved : goal.bounds-preserved
bounds-preserved c = record {
  so_far = rw (pushed slack_tree c.bounds.found.items c.push.new.self.items c.in_ok-slack.slack c.in_ok-push.ensures.items) (one_more IsBound comma bound_once comma_other c.args.terminals.now c.bounds.rest.now c.in-Some.more.now c.in_ok-slack.after.now (map slack_tree c.bounds.found.items) (slack_tree c.in_ok-slack.slack) c.bounds.invariant.so_far c.in-Some.ensures c.in_ok-slack.ensures.reads);
}

pub returns-in-Some-after_symbol : goal.returns-in-Some-after_symbol
returns-in-Some-after_symbol c = list_ended IsBound comma c.args.terminals.now c.bounds.rest.now c.in-Some-after_symbol.after.now (map slack_tree c.bounds.found.items) c.bounds.invariant.so_far c.in-Some-after_symbol.ensures

pub returns : goal.returns
returns c = no_end IsBound comma c.args.terminals.now c.bounds.rest.now (map slack_tree c.bounds.found.items) c.bounds.invariant.so_far c.in_default.ensures c.in-None.ensures
