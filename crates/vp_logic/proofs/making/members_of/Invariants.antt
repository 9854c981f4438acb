use Rattle.std.proofs.Common.{◌≡◌, map, vec_len}
use Rattle.vp_logic.specs.Tree.{tree, trees, members}
use Rattle.vp_logic.proofs.AllMembers.{members_before}
use Rattle.vp_logic.proofs.making.members_of.Given as goal

abbrev pub invariant-loop-last : goal.invariant-loop-last
invariant-loop-last l = members_before (map tree l.left.items) (trees l.made) ≡ members (map tree l.fn.forms.items)

abbrev pub decreases-loop-last : goal.decreases-loop-last
decreases-loop-last l = vec_len l.left
