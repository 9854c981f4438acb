use Rattle.vp_grammar.specs.EntryReads.{IsName}
use Rattle.vp_grammar.proofs.Lists.{no_first, no_next, one_more, list_ended, no_end}
use Rattle.vp_grammar.proofs.EntrySteps.{comma, comma_other, name_once}
use Rattle.vp_grammar.proofs.entries.some_names.Goals as goal

pub returns-in_default : goal.returns-in_default
returns-in_default c = no_first IsName comma c.args.terminals.now c.in_default.ensures

pub returns-in_default-name : goal.returns-in_default-name
returns-in_default-name c = no_next IsName comma comma_other c.args.terminals.now c.names.rest.now c.in-Some-after_symbol.more.now c.names.found.items c.names.invariant.so_far c.in-Some-after_symbol.ensures c.in_default-name.ensures

pub names-preserved : goal.names-preserved
names-preserved c = record {
  so_far = rw c.in_ok-push.ensures.items (one_more IsName comma name_once comma_other c.args.terminals.now c.names.rest.now c.in-Some-after_symbol.more.now c.in-Some-name.after.now c.names.found.items c.in-Some-name.next c.names.invariant.so_far c.in-Some-after_symbol.ensures c.in-Some-name.ensures);
}

pub returns-in-Some-after_symbol-2 : goal.returns-in-Some-after_symbol-2
returns-in-Some-after_symbol-2 c = list_ended IsName comma c.args.terminals.now c.names.rest.now c.in-Some-after_symbol-2.after.now c.names.found.items c.names.invariant.so_far c.in-Some-after_symbol-2.ensures

pub returns : goal.returns
returns c = no_end IsName comma c.args.terminals.now c.names.rest.now c.names.found.items c.names.invariant.so_far c.in_default-after_symbol.ensures c.in-None.ensures
