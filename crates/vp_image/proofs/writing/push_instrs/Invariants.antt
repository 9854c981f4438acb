use Rattle.std.proofs.Common.{◌≡◌, ◌++◌, take}
use Rattle.std.specs.List.{flat_map}
use Rattle.vp_isa.specs.Encoding.{encoded}
use Rattle.vp_image.specs.Image.{AreInstrs}
use Rattle.vp_image.proofs.writing.push_instrs.Given as goal

abbrev pub invariant-loop-instr : goal.invariant-loop-instr
invariant-loop-instr l = record {
  bytes : l.out.items ≡ l.fn.out.items ++ flat_map encoded (take l.instr-index l.instrs);
  fit : AreInstrs (take l.instr-index l.instrs);
}
