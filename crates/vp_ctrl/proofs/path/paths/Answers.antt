use Rattle.std.proofs.Common.{◌≡◌, true, refl, subst, sym, ◌∙◌}
use Rattle.vp_terms.specs.WellFormed.{places_of}
use Rattle.vp_terms.specs.declared.expr.Places.{Places}
use Rattle.vp_ctrl.specs.Ways.{ways}
use Rattle.vp_ctrl.specs.Widths.{ways_are_narrow}
use Rattle.vp_ctrl.proofs.Good.{good_ways, hidden_below}
use Rattle.vp_ctrl.proofs.path.paths.Goals as goal

pub name_of-requires : goal.name_of-requires
name_of-requires c =
    let p = places_of c.args.pkg.now.names in
    let w = rw (c.deref.ensures.value, c.in_ok-ways.ensures) at c.first_hidden.ensures in
    let z = c.in-Some.is in
    hidden_below p (ways c.args.pkg.now.ctrl) c.in-Some.control (good_ways p c.args.pkg.now.ctrl c.requires.ctrl) (cc)

pub follow_all-requires-clause-good : goal.follow_all-requires-clause-good
follow_all-requires-clause-good c =
    rw (c.counts_of.ensures.same, c.deref-2.ensures.value, c.in_ok-ways.ensures) (good_ways (places_of c.args.pkg.now.names) c.args.pkg.now.ctrl c.requires.ctrl)

pub returns-clause-meaning : goal.returns-clause-meaning
returns-clause-meaning c =
    λ z p x u v y t at agree.
    let q = places_of c.args.pkg.now.names in
    let w = rw (c.deref.ensures.value, c.in_ok-ways.ensures) at c.first_hidden.ensures in
    let n = c.in_default.is in
    let h = rw (c.counts_of.ensures.same, c.deref-2.ensures.value, c.in_ok-ways.ensures) at c.in_ok-paths.ensures.come.are in
    let P : Places → Type 0 = λ r. ways_are_narrow r (ways c.args.pkg.now.ctrl) ≡ true in
    let f = subst P c.counts_of.ensures.same (rw (c.deref-2.ensures.value, c.in_ok-ways.ensures) at (c.in_ok-paths.ensures.narrow refl)) in
    c.paths_hold_where_controllers_lead.ensures q c.requires.names.few c.args.pkg.now.ctrl c.requires.ctrl (sym w ∙ n) f c.in_ok-paths.paths.items h z p x u v y t at agree

pub returns-clause-count : goal.returns-clause-count
returns-clause-count c =
    let q = places_of c.args.pkg.now.names in
    let h = rw (c.counts_of.ensures.same, c.deref-2.ensures.value, c.in_ok-ways.ensures) at c.in_ok-paths.ensures.come.are in
    c.paths_are_bounded.ensures.count q (ways c.args.pkg.now.ctrl) c.in_ok-paths.paths.items h ∙ c.ways_are_counted.ensures c.args.pkg.now.ctrl

pub returns-clause-atoms : goal.returns-clause-atoms
returns-clause-atoms c =
    let q = places_of c.args.pkg.now.names in
    let h = rw (c.counts_of.ensures.same, c.deref-2.ensures.value, c.in_ok-ways.ensures) at c.in_ok-paths.ensures.come.are in
    c.paths_are_bounded.ensures.atoms q c.args.pkg.now.ctrl c.in_ok-paths.paths.items h
