use Rattle.std.proofs.Common.{subst, arith}
use Rattle.std.proofs.lemmas.Grind.{common_steps}
use Rattle.std.proofs.lemmas.List.Elements.{All-more}
use Rattle.vp_isa.specs.Encoding.{IsInstr}
use Rattle.vp_image.proofs.writing.push_instrs.Goals as goal

pub loop-instr-preserved : goal.loop-instr-preserved
loop-instr-preserved c = record {
  bytes = grind (arith, common_steps);
  fit = All-more IsInstr c.args.instrs.now c.loop-instr.instr-index c.instr-item.result c.loop-instr-test.true c.loop-instr.invariant.fit (subst IsInstr c.instr-item.is c.encode.ensures.fits);
}
