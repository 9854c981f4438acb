use Rattle.std.proofs.Common.{◌≡◌, ◌+◌, length, ap, ◌∙◌, arith}
use Rattle.vp_grammar.specs.CertificateReads.{IsLabel}
use Rattle.vp_grammar.proofs.Lists.{no_first, no_next, one_more, list_ended, no_end}
use Rattle.vp_grammar.proofs.CertificateSteps.{star, star_other, label_once}
use Rattle.vp_grammar.proofs.certificate.product.Goals as goal

pub returns-in_default-clause-reads : goal.returns-in_default-clause-reads
returns-in_default-clause-reads c = no_first IsLabel star c.args.terminals.now c.in_default.ensures

pub returns-in_default-label-clause-reads : goal.returns-in_default-label-clause-reads
returns-in_default-label-clause-reads c = no_next IsLabel star star_other c.args.terminals.now c.labels.rest.now c.in-Some-after_operator.more.now c.labels.found.items c.labels.invariant.so_far c.in-Some-after_operator.ensures c.in_default-label.ensures

pub labels-preserved : goal.labels-preserved
labels-preserved c = record {
  so_far = rw c.in_ok-push.ensures.items (one_more IsLabel star label_once star_other c.args.terminals.now c.labels.rest.now c.in-Some-after_operator.more.now c.in-Some-label.after.now c.labels.found.items c.in-Some-label.next c.labels.invariant.so_far c.in-Some-after_operator.ensures c.in-Some-label.ensures);
  shorter = (let a : length c.labels.rest.now ≡ length c.in-Some-after_operator.more.now + 1 = ap length c.in-Some-after_operator.ensures ∙ (omega arith) in let b : length c.in-Some-after_operator.more.now ≡ length c.in-Some-label.after.now + 1 = ap length c.in-Some-label.ensures.1 ∙ (omega arith) in omega (arith, c.labels.invariant.shorter));
}

pub returns-in-Some-after_symbol-clause-reads : goal.returns-in-Some-after_symbol-clause-reads
returns-in-Some-after_symbol-clause-reads c = list_ended IsLabel star c.args.terminals.now c.labels.rest.now c.in-Some-after_symbol.after.now c.labels.found.items c.labels.invariant.so_far c.in-Some-after_symbol.ensures

pub returns-clause-reads : goal.returns-clause-reads
returns-clause-reads c = no_end IsLabel star c.args.terminals.now c.labels.rest.now c.labels.found.items c.labels.invariant.so_far c.in_default-after_operator.ensures c.in-None.ensures
