use Rattle.std.proofs.Common.{◌≡◌, ◌++◌}
use Rattle.vp_layout.specs.Blocks.{copies}
use Rattle.vp_layout.proofs.block.emit_copies.Given as goal

abbrev pub invariant-loop-i : goal.invariant-loop-i
invariant-loop-i l = l.code.items ≡ l.fn.code.items ++ copies l.to l.from l.i
