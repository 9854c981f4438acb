use Rattle.std.proofs.Common.{List, map, sym, ap, ◌∙◌}
use Rattle.vp_logic.specs.declared.norm.Norm.{Norm}
use Rattle.vp_logic.specs.Tree.{tree, trees}
use Rattle.vp_logic.proofs.AllMembers.{members_before, members_before-none, members_before-last}
use Rattle.vp_logic.proofs.making.members_of.Goals as goal

pub loop-last-init : goal.loop-last-init
loop-last-init c = members_before-none _

pub loop-last-preserved : goal.loop-last-preserved
loop-last-preserved c =
    let made = c.in_ok-new.ensures.ok in
    sym (members_before-last c.pop.new.self.items c.in-Some.last (trees c.in_ok-new.field-0.value))
    ∙ ap (λ (ns : List Norm). members_before (map tree ns) (trees c.in_ok-new.field-0.value)) (sym c.in-Some.ensures.items)
    ∙ (rw made c.loop-last.invariant)
