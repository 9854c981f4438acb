use Rattle.std.proofs.Common.{◌≡◌, ◌++◌, take}
use Rattle.vp_layout.proofs.block.push_block.Given as goal

abbrev pub invariant-loop-instr : goal.invariant-loop-instr
invariant-loop-instr l = l.b ≡ record l.fn.b { pushed = l.fn.b.pushed ++ take l.instr-index l.block }
