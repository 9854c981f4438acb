use Rattle.std.proofs.Common.{sym, ap, ◌∙◌, arith}
use Rattle.vp_isa.specs.Decoding.{decoded}
use Rattle.vp_image.proofs.Loop.{goes_on, fails}
use Rattle.vp_image.proofs.reading.read_instrs.Goals as goal

pub returns-in_default : goal.returns-in_default
returns-in_default c =
    let parts = rw c.unwrap.ensures at c.split_first_chunk.ensures.cases in
    fails c.args.count c.loop-at.at c.loop-at.instrs.items c.loop-at.rest.now _ c.loop-at-test.true (ap decoded (sym parts.0) ∙ (sym c.decode.ensures.exact ∙ c.in_default.is)) c.loop-at.invariant.rest

pub loop-at-preserved : goal.loop-at-preserved
loop-at-preserved c =
    let parts = rw c.unwrap.ensures at c.split_first_chunk.ensures.cases in
    record {
      long = omega (arith, c.loop-at.invariant.long, parts.2, c.loop-at-test.true);
      rest = rw (c.in_ok-push.ensures.items, parts.1)
          (goes_on c.args.count c.loop-at.at c.loop-at.instrs.items c.in-Some.instr c.loop-at.rest.now _ c.loop-at-test.true (ap decoded (sym parts.0) ∙ (sym c.decode.ensures.exact ∙ c.in-Some.is)) c.loop-at.invariant.rest);
    }
