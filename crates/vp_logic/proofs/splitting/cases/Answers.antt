use Rattle.std.proofs.Common.{◌≡◌, map, sym, arith}
use Rattle.vp_logic.specs.Tree.{tree}
use Rattle.vp_logic.specs.Cases.{lists, part_cases_from, part_count}
use Rattle.vp_logic.proofs.Joining.{no_parts}
use Rattle.vp_logic.proofs.Choosing.{some_listed_holds}
use Rattle.vp_logic.proofs.splitting.cases.Goals as goal

pub returns-then-count-eq0-clause-exact : goal.returns-then-count-eq0-clause-exact
returns-then-count-eq0-clause-exact c =
    let e : part_count (map tree c.args.parts.now) ≡ 0 = omega arith in
    rw c.new.ensures.items (sym (no_parts (map tree c.args.parts.now) e))

pub returns-then-count-eq0-clause-holds : goal.returns-then-count-eq0-clause-holds
returns-then-count-eq0-clause-holds c =
    let e : part_count (map tree c.args.parts.now) ≡ 0 = omega arith in
    let none : lists c.new.result.items ≡ part_cases_from 0 (map tree c.args.parts.now) = rw c.new.ensures.items (sym (no_parts (map tree c.args.parts.now) e)) in
    λ x. some_listed_holds (map tree c.args.parts.now) x (lists c.new.result.items) none
