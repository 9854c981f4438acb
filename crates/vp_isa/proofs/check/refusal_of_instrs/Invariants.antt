use Rattle.std.proofs.Common.{◌≡◌, drop}
use Rattle.vp_isa.specs.Valid.{first_refusal}
use Rattle.vp_isa.proofs.check.refusal_of_instrs.Given as goal

abbrev pub invariant-loop-instr : goal.invariant-loop-instr
invariant-loop-instr l = record {
  count : l.at ≡ l.instr-index;
  rest : first_refusal l.code l.at (drop l.instr-index l.code.instrs) ≡ first_refusal l.code 0 l.code.instrs;
}
