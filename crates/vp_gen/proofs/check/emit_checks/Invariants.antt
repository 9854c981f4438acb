use Rattle.std.proofs.Common.{map}
use Rattle.vp_logic.specs.Tree.{tree}
use Rattle.vp_layout.specs.Drafts.{mon_of}
use Rattle.vp_gen.proofs.Listing.{Checked}
use Rattle.vp_gen.proofs.check.emit_checks.Given as goal

abbrev pub invariant-loop-i : goal.invariant-loop-i
invariant-loop-i l = Checked l.fn.b l.b (mon_of l.monitor) (map tree l.forms) l.homes l.i
