use Rattle.std.proofs.Common.{◌≡◌, get_or, length, ap, ◌∙◌}
use Rattle.vp_logic.specs.declared.norm.Norm.{Norm}
use Rattle.vp_logic.specs.Tree.{tree, atoms_of}
use Rattle.vp_logic.specs.Cases.{cases_from, lists}
use Rattle.vp_logic.proofs.Joining.{HasParts-more}
use Rattle.vp_logic.proofs.splitting.split_parts.Goals as goal

pub loop-part-preserved : goal.loop-part-preserved
loop-part-preserved c =
    let d = c.part-item.result in
    let here : d ≡ get_or c.args.parts.now c.loop-part.part-index d = c.part-item.is in
    let joined = rw (c.deref.ensures.value, c.deref-in-loop-part.ensures.value) at c.in_ok-cases-2.ensures in
    HasParts-more
    c.args.parts.now
    (lists c.loop-part.cases.items)
    (lists c.in_ok-more.more.items)
    (lists c.in_ok-cases-2.cases.items)
    c.loop-part.part-index
    c.loop-part.first
    c.atom_count-first.result
    d
    c.loop-part-test.true
    c.loop-part.invariant
    (c.in_ok-more.ensures ∙ ap (λ (n : Norm). cases_from c.loop-part.first (tree n)) here)
    joined
    (c.atom_count-first.ensures ∙ ap (λ (n : Norm). length (atoms_of (tree n))) here)
