use Rattle.std.proofs.Common.{◌+◌, ◌-◌, ◌≤◌, true, false, length, ap, sym, ◌∙◌, arith}
use Rattle.vp_stream.specs.Reading.{first_empty}
use Rattle.vp_stream.proofs.Pairs.{pair_step}
use Rattle.vp_stream.proofs.record.first_empty.Goals as goal

pub returns-then-not-encloses : goal.returns-then-not-encloses
returns-then-not-encloses c =
    let long : 2 ≤ length c.loop-pair.rest.now = omega (arith, c.loop-pair.invariant.left, c.loop-pair-test.true, c.requires.pairs) in
    let step = pair_step c.args.pairs c.loop-pair._pair c.loop-pair.number c.loop-pair.rest.now c.split_at.result.0.now c.index-ends-0.result c.index-ends-1.result false
    c.loop-pair-test.true long c.split_at.ensures.front c.index-ends-0.is c.index-ends-1.is (sym c.if-not-encloses.true ∙ c.encloses.ensures) in
    sym step ∙ c.loop-pair.invariant.rest

pub loop-pair-preserved : goal.loop-pair-preserved
loop-pair-preserved c =
    let long : 2 ≤ length c.loop-pair.rest.now = omega (arith, c.loop-pair.invariant.left, c.loop-pair-test.true, c.requires.pairs) in
    let step = pair_step c.args.pairs c.loop-pair._pair c.loop-pair.number c.loop-pair.rest.now c.split_at.result.0.now c.index-ends-0.result c.index-ends-1.result true
    c.loop-pair-test.true long c.split_at.ensures.front c.index-ends-0.is c.index-ends-1.is (sym c.if-not-encloses.false ∙ c.encloses.ensures) in
    record {
      number = omega (arith, c.loop-pair.invariant.number);
      left = omega (arith, c.loop-pair.invariant.left, c.split_at.ensures.back_len, long);
      rest = ap (first_empty (c.args.pairs - (c.loop-pair._pair + 1)) (c.loop-pair.number + 2)) c.split_at.ensures.back ∙ sym step ∙ c.loop-pair.invariant.rest;
    }
