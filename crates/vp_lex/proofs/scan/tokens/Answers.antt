use Rattle.std.proofs.Common.{length, arith, sym, ap, ◌∙◌, [], length-drop}
use Rattle.std.proofs.lemmas.List.{take_rest}
use Rattle.std.specs.Prelude.{Ok, Err}
use Rattle.vp_lex.proofs.Scanning.{end, space, comment, token, stuck}
use Rattle.vp_lex.proofs.Scanning.{scans_pushed, completed}
use Rattle.vp_lex.proofs.Filling.{filled, spans, in_order}
use Rattle.vp_lex.proofs.scan.tokens.Goals as goal

pub scan-preserved-then-is_space : goal.scan-preserved-then-is_space
scan-preserved-then-is_space c = record {
  within = omega arith;
  completes = λ r s. c.scan.invariant.completes r (space c.scan.at r c.scan-test.true (sym c.is_space.ensures ∙ c.if-is_space.true) s);
}

pub scan-preserved-then-text-at-eq35 : goal.scan-preserved-then-text-at-eq35
scan-preserved-then-text-at-eq35 c = record {
  within = c.comment_end-at.ensures.within;
  completes = λ r s. c.scan.invariant.completes r (comment c.scan.at c.comment_end-at.result r c.scan-test.true c.if-text-at-eq35.true c.comment_end-at.ensures s);
}

pub returns : goal.returns
returns c =
    let text = c.args.text.now in
    let ts = c.scan.found.items in
    let scan = completed text ts (c.scan.invariant.completes (Ok []) (end c.scan.at c.scan-test.false)) in
    let filling = filled text 0 (Ok ts) (omega arith) scan in
    record {
      tokens = filling;
      spans = spans text 0 ts (length text) filling;
      in_order = in_order text 0 ts (length text) filling;
    }

pub scan-preserved : goal.scan-preserved
scan-preserved c =
    let text = c.args.text.now in
    let h = rw take_rest at c.in-Some.ensures in
    record {
      within = omega (arith, c.in-Some.ensures.within.1, ap length (take_rest text c.scan.at), length-drop c.scan.at text);
      completes = λ r s. rw c.in_ok-push-in-Some.ensures.items (scans_pushed text c.scan.found.items _ r (c.scan.invariant.completes _ (token c.scan.at c.in-Some.len c.in-Some.kind r c.scan-test.true h.found s)));
    }

pub returns-in-None : goal.returns-in-None
returns-in-None c =
    let text = c.args.text.now in
    let h = rw take_rest at c.in-None.ensures in
    let scan = c.scan.invariant.completes (Err c.scan.at) (stuck c.scan.at c.scan-test.true (sym c.is_space.ensures ∙ c.if-is_space.false) c.if-text-at-eq35.false h.found) in
    record {
      tokens = filled text 0 (Err c.scan.at) (omega arith) scan;
      spans = tt;
      in_order = tt;
    }
