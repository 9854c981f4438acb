use Rattle.std.proofs.Common.{refl, ⊎_elim}
use Rattle.vp_terms.specs.Meaning.{rational, value}
use Rattle.vp_terms.specs.Control.{assigned}
use Rattle.vp_terms.specs.Running.{StandFor}
use Rattle.vp_terms.proofs.RationalLaws.{chain}
use Rattle.vp_terms.proofs.Agreeing.{both}
use Rattle.vp_terms.proofs.Standing as standing
use Rattle.vp_terms.proofs.Runs as runs
use Rattle.vp_terms.proofs.running.+lead.Goals as goal

pub goes_on-returns-in-End-clause-sound : goal.goes_on-returns-in-End-clause-sound
goes_on-returns-in-End-clause-sound t c =
    λ p x u v s y. rw c.in-End.is (standing.same_controls c.args.places c.args.values.now c.args.after.now p x u v s c.requires.values (c.are_the_controls.ensures.0 y))

pub goes_on-returns-in-End-clause-complete : goal.goes_on-returns-in-End-clause-complete
goes_on-returns-in-End-clause-complete t c =
    λ p x u v s k h. let e = rw c.in-End.is at h in c.are_the_controls.ensures.1 (standing.controls_same c.args.places c.args.values.now c.args.after.now p x u v s c.requires.values e)

pub goes_on-returns-in-Then-clause-sound : goal.goes_on-returns-in-Then-clause-sound
goes_on-returns-in-Then-clause-sound t c = λ p x u v s. rw c.in-Then.is (c.leads.ensures.sound p x u v s)

pub goes_on-returns-in-Then-clause-complete : goal.goes_on-returns-in-Then-clause-complete
goes_on-returns-in-Then-clause-complete t c =
    λ p x u v s k. let m = rw c.in-Then.is at k in rw c.in-Then.is (c.leads.ensures.complete p x u v s (record { first = m.0; behind = m.1; apart = m.2 }))

pub leads-returns-in-Skip-clause-sound : goal.leads-returns-in-Skip-clause-sound
leads-returns-in-Skip-clause-sound t c =
    λ p x u v s. rw c.in-Skip.is (runs.if_yes c.goes_on.result _ _ (runs.skip_leads c.args.rest.now p x u v) (c.goes_on.ensures.sound p x u v s))

pub leads-returns-in-Skip-clause-complete : goal.leads-returns-in-Skip-clause-complete
leads-returns-in-Skip-clause-complete t c =
    λ p x u v s k. rw c.in-Skip.is (runs.if_held c.goes_on.result _ _ (runs.skip_led c.args.rest.now p x u v) (c.goes_on.ensures.complete p x u v s k.behind))

pub leads-returns-in_err-value-in-Assign-clause-small : goal.leads-returns-in_err-value-in-Assign-clause-small
leads-returns-in_err-value-in-Assign-clause-small t c =
    λ p x u v s.
    let g = both _ _ (rw c.in-Assign.is at c.requires.good) in
    let n = standing.parts_stand c.args.places c.args.values.now c.args.after.now p x u v s c.requires.values c.in-Assign.expr g.1 in
    rw c.in-Assign.is (runs.none_small c.from_residual.result _ _ c.from_residual.ensures (λ q. let y = c.in_err-value-in-Assign.ensures.small.1 q in absurd (cc)) (λ m. n.1 m.0))

pub leads-returns-in_ok-value-in-Assign-clause-sound : goal.leads-returns-in_ok-value-in-Assign-clause-sound
leads-returns-in_ok-value-in-Assign-clause-sound t c =
    λ p x u v s.
    let g = both _ _ (rw c.in-Assign.is at c.requires.good) in
    let e = standing.value_stands c.args.places c.args.values.now c.args.after.now p x u v s c.requires.values c.in-Assign.expr g.1 in
    let q = rational c.in_ok-value-in-Assign.value in
    let w = runs.updated c.in-Assign.control q u in
    let b = runs.updated_sets c.in-Assign.control q u in
    let d = runs.sets_value c.in-Assign.control q (value c.in-Assign.expr (assigned p x u)) u w (chain c.in_ok-value-in-Assign.ensures.exact e) b in
    rw c.in-Assign.is (runs.if_yes c.goes_on_with.result _ _ (runs.assign_leads c.args.rest.now p x u v c.in-Assign.control c.in-Assign.expr w d) (c.goes_on_with.ensures.sound p x u w v s b))

pub leads-returns-in_ok-value-in-Assign-clause-complete : goal.leads-returns-in_ok-value-in-Assign-clause-complete
leads-returns-in_ok-value-in-Assign-clause-complete t c =
    λ p x u v s k.
    let g = both _ _ (rw c.in-Assign.is at c.requires.good) in
    let e = standing.value_stands c.args.places c.args.values.now c.args.after.now p x u v s c.requires.values c.in-Assign.expr g.1 in
    let q = rational c.in_ok-value-in-Assign.value in
    let w = runs.updated c.in-Assign.control q u in
    let b = runs.updated_sets c.in-Assign.control q u in
    let d = runs.sets_value c.in-Assign.control q (value c.in-Assign.expr (assigned p x u)) u w (chain c.in_ok-value-in-Assign.ensures.exact e) b in
    rw c.in-Assign.is (runs.if_held c.goes_on_with.result _ _ (runs.assign_led c.args.rest.now p x u v c.in-Assign.control c.in-Assign.expr w d) (c.goes_on_with.ensures.complete p x u w v s b k.behind))

pub leads-returns-in_ok-value-in-Assign-clause-small : goal.leads-returns-in_ok-value-in-Assign-clause-small
leads-returns-in_ok-value-in-Assign-clause-small t c =
    λ p x u v s.
    let g = both _ _ (rw c.in-Assign.is at c.requires.good) in
    let e = standing.value_stands c.args.places c.args.values.now c.args.after.now p x u v s c.requires.values c.in-Assign.expr g.1 in
    let n = standing.parts_stand c.args.places c.args.values.now c.args.after.now p x u v s c.requires.values c.in-Assign.expr g.1 in
    let q = rational c.in_ok-value-in-Assign.value in
    let w = runs.updated c.in-Assign.control q u in
    let b = runs.updated_sets c.in-Assign.control q u in
    let d = runs.sets_value c.in-Assign.control q (value c.in-Assign.expr (assigned p x u)) u w (chain c.in_ok-value-in-Assign.ensures.exact e) b in
    rw c.in-Assign.is (runs.assign_small c.args.rest.now p x u v c.in-Assign.control c.in-Assign.expr w c.goes_on_with.result d (n.0 (c.in_ok-value-in-Assign.ensures.small.0 refl)) (c.goes_on_with.ensures.small p x u w v s b))

pub leads-returns-in-Any-clause-sound : goal.leads-returns-in-Any-clause-sound
leads-returns-in-Any-clause-sound t c =
    λ p x u v s.
    let h = standing.below c.in-Any.control c.args.places.controls (rw c.in-Any.is at c.requires.good) in
    let q = rational c.index-after-control.result in
    let w = runs.updated c.in-Any.control q u in
    let b = runs.updated_sets c.in-Any.control q u in
    let e = standing.stands_afterwards c.args.places c.args.values.now c.args.after.now p x u v s c.requires.values c.requires.after c.in-Any.control c.index-after-control.result h c.index-after-control.is in
    rw c.in-Any.is (runs.if_yes c.goes_on_with-in-Any.result _ _ (runs.any_leads c.args.rest.now p x u v c.in-Any.control w (runs.sets_value c.in-Any.control q (v c.in-Any.control) u w e b)) (c.goes_on_with-in-Any.ensures.sound p x u w v s b))

pub leads-returns-in-Any-clause-complete : goal.leads-returns-in-Any-clause-complete
leads-returns-in-Any-clause-complete t c =
    λ p x u v s k.
    let h = standing.below c.in-Any.control c.args.places.controls (rw c.in-Any.is at c.requires.good) in
    let q = rational c.index-after-control.result in
    let w = runs.updated c.in-Any.control q u in
    let b = runs.updated_sets c.in-Any.control q u in
    let e = standing.stands_afterwards c.args.places c.args.values.now c.args.after.now p x u v s c.requires.values c.requires.after c.in-Any.control c.index-after-control.result h c.index-after-control.is in
    let m = rw c.in-Any.is at k in
    rw c.in-Any.is (runs.if_held c.goes_on_with-in-Any.result _ _ (runs.any_led c.args.rest.now p x u v c.in-Any.control w (runs.sets_value c.in-Any.control q (v c.in-Any.control) u w e b) m) (c.goes_on_with-in-Any.ensures.complete p x u w v s b k.behind))

pub leads-returns-in-Any-clause-small : goal.leads-returns-in-Any-clause-small
leads-returns-in-Any-clause-small t c =
    λ p x u v s.
    let h = standing.below c.in-Any.control c.args.places.controls (rw c.in-Any.is at c.requires.good) in
    let q = rational c.index-after-control.result in
    let w = runs.updated c.in-Any.control q u in
    let b = runs.updated_sets c.in-Any.control q u in
    let e = standing.stands_afterwards c.args.places c.args.values.now c.args.after.now p x u v s c.requires.values c.requires.after c.in-Any.control c.index-after-control.result h c.index-after-control.is in
    rw c.in-Any.is (runs.any_small c.args.rest.now p x u v c.in-Any.control w c.goes_on_with-in-Any.result (runs.sets_value c.in-Any.control q (v c.in-Any.control) u w e b) (c.goes_on_with-in-Any.ensures.small p x u w v s b))

pub leads-returns-in_err-holds_at-in-Test-clause-small : goal.leads-returns-in_err-holds_at-in-Test-clause-small
leads-returns-in_err-holds_at-in-Test-clause-small t c =
    λ p x u v s.
    let g = rw c.in-Test.is at c.requires.good in
    let n = standing.formula_stands c.args.places c.args.values.now c.args.after.now p x u v s c.requires.values c.in-Test.formula g in
    rw c.in-Test.is (runs.none_small c.from_residual-in_err-holds_at-in-Test.result _ _ c.from_residual-in_err-holds_at-in-Test.ensures (λ q. let y = c.in_err-holds_at-in-Test.ensures.small.1 q in absurd (cc)) (λ m. n.1 m.0))

pub leads-returns-then-branch-clause-sound : goal.leads-returns-then-branch-clause-sound
leads-returns-then-branch-clause-sound t c =
    λ p x u v s.
    let g = rw c.in-Test.is at c.requires.good in
    let e = standing.holds_stands c.args.places c.args.values.now c.args.after.now p x u v s c.requires.values c.in-Test.formula g in
    let h = runs.true_of _ _ _ c.in_ok-holds_at-in-Test.ensures.exact e c.if-branch.true in
    rw c.in-Test.is (runs.if_yes c.goes_on-then-branch.result _ _ (runs.test_leads c.args.rest.now p x u v c.in-Test.formula h) (c.goes_on-then-branch.ensures.sound p x u v s))

pub leads-returns-then-branch-clause-complete : goal.leads-returns-then-branch-clause-complete
leads-returns-then-branch-clause-complete t c =
    λ p x u v s k.
    rw c.in-Test.is (runs.if_held c.goes_on-then-branch.result _ _ (runs.test_led c.args.rest.now p x u v c.in-Test.formula) (c.goes_on-then-branch.ensures.complete p x u v s k.behind))

pub leads-returns-then-branch-clause-small : goal.leads-returns-then-branch-clause-small
leads-returns-then-branch-clause-small t c =
    λ p x u v s.
    let g = rw c.in-Test.is at c.requires.good in
    let e = standing.holds_stands c.args.places c.args.values.now c.args.after.now p x u v s c.requires.values c.in-Test.formula g in
    let n = standing.formula_stands c.args.places c.args.values.now c.args.after.now p x u v s c.requires.values c.in-Test.formula g in
    let h = runs.true_of _ _ _ c.in_ok-holds_at-in-Test.ensures.exact e c.if-branch.true in
    rw c.in-Test.is (runs.test_small c.args.rest.now p x u v c.in-Test.formula c.goes_on-then-branch.result h (n.0 (c.in_ok-holds_at-in-Test.ensures.small.0 refl)) (c.goes_on-then-branch.ensures.small p x u v s))

pub leads-returns-else-branch-clause-complete : goal.leads-returns-else-branch-clause-complete
leads-returns-else-branch-clause-complete t c =
    λ p x u v s k l.
    let g = rw c.in-Test.is at c.requires.good in
    let e = standing.holds_stands c.args.places c.args.values.now c.args.after.now p x u v s c.requires.values c.in-Test.formula g in
    let h = runs.false_of _ _ _ c.in_ok-holds_at-in-Test.ensures.exact e c.if-branch.false in
    absurd (h (runs.test_holds c.args.rest.now p x u v c.in-Test.formula (rw c.in-Test.is at l)))

pub leads-returns-else-branch-clause-small : goal.leads-returns-else-branch-clause-small
leads-returns-else-branch-clause-small t c =
    λ p x u v s.
    let g = rw c.in-Test.is at c.requires.good in
    let e = standing.holds_stands c.args.places c.args.values.now c.args.after.now p x u v s c.requires.values c.in-Test.formula g in
    let n = standing.formula_stands c.args.places c.args.values.now c.args.after.now p x u v s c.requires.values c.in-Test.formula g in
    let h = runs.false_of _ _ _ c.in_ok-holds_at-in-Test.ensures.exact e c.if-branch.false in
    rw c.in-Test.is (runs.test_fails_small c.args.rest.now p x u v c.in-Test.formula h (n.0 (c.in_ok-holds_at-in-Test.ensures.small.0 refl)))

pub leads-returns-then-left-clause-sound : goal.leads-returns-then-left-clause-sound
leads-returns-then-left-clause-sound t c =
    λ p x u v s y.
    let f = rw c.deref.ensures at (c.in_ok-left-in-Choice.ensures.sound p x u v s y) in
    rw c.in-Choice.is (runs.choice_left c.args.rest.now p x u v c.in-Choice.one c.in-Choice.other f)

pub leads-returns-else-left-clause-sound : goal.leads-returns-else-left-clause-sound
leads-returns-else-left-clause-sound t c =
    λ p x u v s y.
    let m : StandFor c.args.places c.leads.new.values c.args.after.now p x u v = rw c.in_ok-left-in-Choice.ensures.same s in
    let f = rw c.deref-in-Choice.ensures at (c.in_ok-right-in-Choice.ensures.sound p x u v m y) in
    rw c.in-Choice.is (runs.choice_right c.args.rest.now p x u v c.in-Choice.one c.in-Choice.other f)

pub leads-returns-else-left-clause-complete : goal.leads-returns-else-left-clause-complete
leads-returns-else-left-clause-complete t c =
    λ p x u v s k l.
    let m : StandFor c.args.places c.leads.new.values c.args.after.now p x u v = rw c.in_ok-left-in-Choice.ensures.same s in
    let i = rw c.in-Choice.is at k in
    let j = rw c.in-Choice.is at l in
    let a = rw (← c.deref.ensures) at (runs.left_keeps c.args.rest.now p x u v c.in-Choice.one c.in-Choice.other i) in
    let b = rw (← c.deref-in-Choice.ensures) at (runs.right_keeps c.args.rest.now p x u v c.in-Choice.one c.in-Choice.other i) in
    let d = rw (← c.deref.ensures, ← c.deref-in-Choice.ensures) at (runs.choice_led c.args.rest.now p x u v c.in-Choice.one c.in-Choice.other j) in
    ⊎_elim (λ f. let y = c.in_ok-left-in-Choice.ensures.complete p x u v s a f in absurd (cc)) (λ f. c.in_ok-right-in-Choice.ensures.complete p x u v m b f) d

pub leads-returns-in-Seq-clause-sound : goal.leads-returns-in-Seq-clause-sound
leads-returns-in-Seq-clause-sound t c =
    λ p x u v s.
    let f = rw c.deref-in-Seq.ensures at (c.leads-in-Seq.ensures.sound p x u v s) in
    rw c.in-Seq.is (runs.if_yes c.leads-in-Seq.result _ _ (runs.seq_leads c.args.rest p x u v c.in-Seq.first c.in-Seq.second c.deref-in-Seq-2.result c.deref-in-Seq-2.ensures) f)

pub leads-returns-in-Seq-clause-complete : goal.leads-returns-in-Seq-clause-complete
leads-returns-in-Seq-clause-complete t c =
    λ p x u v s k.
    let i = rw c.in-Seq.is at k in
    let a = rw (← c.deref-in-Seq.ensures) at (runs.seq_keeps c.args.rest p x u v c.in-Seq.first c.in-Seq.second c.deref-in-Seq-2.result c.deref-in-Seq-2.ensures i) in
    let f = rw c.deref-in-Seq.ensures at (c.leads-in-Seq.ensures.complete p x u v s a) in
    rw c.in-Seq.is (runs.if_held c.leads-in-Seq.result _ _ (runs.seq_led c.args.rest p x u v c.in-Seq.first c.in-Seq.second c.deref-in-Seq-2.result c.deref-in-Seq-2.ensures) f)

pub leads-returns-in-Seq-clause-small : goal.leads-returns-in-Seq-clause-small
leads-returns-in-Seq-clause-small t c =
    λ p x u v s.
    let f = rw c.deref-in-Seq.ensures at (c.leads-in-Seq.ensures.small p x u v s) in
    rw c.in-Seq.is (runs.seq_small c.args.rest p x u v c.in-Seq.first c.in-Seq.second c.deref-in-Seq-2.result c.deref-in-Seq-2.ensures c.leads-in-Seq.result f)

pub leads-returns-in_err-holds_at-in-If-clause-small : goal.leads-returns-in_err-holds_at-in-If-clause-small
leads-returns-in_err-holds_at-in-If-clause-small t c =
    λ p x u v s.
    let g = both _ _ (rw c.in-If.is at c.requires.good) in
    let n = standing.formula_stands c.args.places c.args.values.now c.args.after.now p x u v s c.requires.values c.in-If.formula g.0 in
    rw c.in-If.is (runs.none_small c.from_residual-in_err-holds_at-in-If.result _ _ c.from_residual-in_err-holds_at-in-If.ensures (λ q. let y = c.in_err-holds_at-in-If.ensures.small.1 q in absurd (cc)) (λ m. n.1 m.0))

pub leads-returns-then-branch-2-clause-sound : goal.leads-returns-then-branch-2-clause-sound
leads-returns-then-branch-2-clause-sound t c =
    λ p x u v s.
    let g = both _ _ (rw c.in-If.is at c.requires.good) in
    let e = standing.holds_stands c.args.places c.args.values.now c.args.after.now p x u v s c.requires.values c.in-If.formula g.0 in
    let h = runs.true_of _ _ _ c.in_ok-holds_at-in-If.ensures.exact e c.if-branch-2.true in
    let f = rw c.deref-then-branch-2.ensures at (c.leads-then-branch-2.ensures.sound p x u v s) in
    rw c.in-If.is (runs.if_yes c.leads-then-branch-2.result _ _ (runs.then_leads c.args.rest.now p x u v c.in-If.formula c.in-If.a c.in-If.b h) f)

pub leads-returns-then-branch-2-clause-complete : goal.leads-returns-then-branch-2-clause-complete
leads-returns-then-branch-2-clause-complete t c =
    λ p x u v s k.
    let g = both _ _ (rw c.in-If.is at c.requires.good) in
    let e = standing.holds_stands c.args.places c.args.values.now c.args.after.now p x u v s c.requires.values c.in-If.formula g.0 in
    let h = runs.true_of _ _ _ c.in_ok-holds_at-in-If.ensures.exact e c.if-branch-2.true in
    let i = rw c.in-If.is at k in
    let a = rw (← c.deref-then-branch-2.ensures) at (runs.then_keeps c.args.rest.now p x u v c.in-If.formula c.in-If.a c.in-If.b i) in
    let f = rw c.deref-then-branch-2.ensures at (c.leads-then-branch-2.ensures.complete p x u v s a) in
    rw c.in-If.is (runs.if_held c.leads-then-branch-2.result _ _ (runs.then_led c.args.rest.now p x u v c.in-If.formula c.in-If.a c.in-If.b h) f)

pub leads-returns-then-branch-2-clause-small : goal.leads-returns-then-branch-2-clause-small
leads-returns-then-branch-2-clause-small t c =
    λ p x u v s.
    let g = both _ _ (rw c.in-If.is at c.requires.good) in
    let e = standing.holds_stands c.args.places c.args.values.now c.args.after.now p x u v s c.requires.values c.in-If.formula g.0 in
    let n = standing.formula_stands c.args.places c.args.values.now c.args.after.now p x u v s c.requires.values c.in-If.formula g.0 in
    let h = runs.true_of _ _ _ c.in_ok-holds_at-in-If.ensures.exact e c.if-branch-2.true in
    let f = rw c.deref-then-branch-2.ensures at (c.leads-then-branch-2.ensures.small p x u v s) in
    rw c.in-If.is (runs.then_small c.args.rest.now p x u v c.in-If.formula c.in-If.a c.in-If.b c.leads-then-branch-2.result h (n.0 (c.in_ok-holds_at-in-If.ensures.small.0 refl)) f)

pub leads-returns-else-branch-2-clause-sound : goal.leads-returns-else-branch-2-clause-sound
leads-returns-else-branch-2-clause-sound t c =
    λ p x u v s.
    let g = both _ _ (rw c.in-If.is at c.requires.good) in
    let e = standing.holds_stands c.args.places c.args.values.now c.args.after.now p x u v s c.requires.values c.in-If.formula g.0 in
    let h = runs.false_of _ _ _ c.in_ok-holds_at-in-If.ensures.exact e c.if-branch-2.false in
    let f = rw c.deref-else-branch-2.ensures at (c.leads-else-branch-2.ensures.sound p x u v s) in
    rw c.in-If.is (runs.if_yes c.leads-else-branch-2.result _ _ (runs.else_leads c.args.rest.now p x u v c.in-If.formula c.in-If.a c.in-If.b h) f)

pub leads-returns-else-branch-2-clause-complete : goal.leads-returns-else-branch-2-clause-complete
leads-returns-else-branch-2-clause-complete t c =
    λ p x u v s k.
    let g = both _ _ (rw c.in-If.is at c.requires.good) in
    let e = standing.holds_stands c.args.places c.args.values.now c.args.after.now p x u v s c.requires.values c.in-If.formula g.0 in
    let h = runs.false_of _ _ _ c.in_ok-holds_at-in-If.ensures.exact e c.if-branch-2.false in
    let i = rw c.in-If.is at k in
    let a = rw (← c.deref-else-branch-2.ensures) at (runs.else_keeps c.args.rest.now p x u v c.in-If.formula c.in-If.a c.in-If.b i) in
    let f = rw c.deref-else-branch-2.ensures at (c.leads-else-branch-2.ensures.complete p x u v s a) in
    rw c.in-If.is (runs.if_held c.leads-else-branch-2.result _ _ (runs.else_led c.args.rest.now p x u v c.in-If.formula c.in-If.a c.in-If.b h) f)

pub leads-returns-else-branch-2-clause-small : goal.leads-returns-else-branch-2-clause-small
leads-returns-else-branch-2-clause-small t c =
    λ p x u v s.
    let g = both _ _ (rw c.in-If.is at c.requires.good) in
    let e = standing.holds_stands c.args.places c.args.values.now c.args.after.now p x u v s c.requires.values c.in-If.formula g.0 in
    let n = standing.formula_stands c.args.places c.args.values.now c.args.after.now p x u v s c.requires.values c.in-If.formula g.0 in
    let h = runs.false_of _ _ _ c.in_ok-holds_at-in-If.ensures.exact e c.if-branch-2.false in
    let f = rw c.deref-else-branch-2.ensures at (c.leads-else-branch-2.ensures.small p x u v s) in
    rw c.in-If.is (runs.else_small c.args.rest.now p x u v c.in-If.formula c.in-If.a c.in-If.b c.leads-else-branch-2.result h (n.0 (c.in_ok-holds_at-in-If.ensures.small.0 refl)) f)

pub goes_on_with-returns-clause-sound : goal.goes_on_with-returns-clause-sound
goes_on_with-returns-clause-sound t c =
    λ p x u w v s b.
    let m = standing.stands_after c.args.places c.args.values.now c.args.after.now p x u v s c.requires.values c.args.control c.args.value w c.requires.control b in
    c.goes_on-result.ensures.sound p x w v (rw c.place-place.ensures m)

pub goes_on_with-returns-clause-complete : goal.goes_on_with-returns-clause-complete
goes_on_with-returns-clause-complete t c =
    λ p x u w v s b k.
    let m = standing.stands_after c.args.places c.args.values.now c.args.after.now p x u v s c.requires.values c.args.control c.args.value w c.requires.control b in
    c.goes_on-result.ensures.complete p x w v (rw c.place-place.ensures m) k

pub goes_on_with-returns-clause-small : goal.goes_on_with-returns-clause-small
goes_on_with-returns-clause-small t c =
    λ p x u w v s b.
    let m = standing.stands_after c.args.places c.args.values.now c.args.after.now p x u v s c.requires.values c.args.control c.args.value w c.requires.control b in
    c.goes_on-result.ensures.small p x w v (rw c.place-place.ensures m)

pub goes_on_with-returns-clause-same : goal.goes_on_with-returns-clause-same
goes_on_with-returns-clause-same t c =
    rw c.goes_on-result.ensures.same (standing.put_back c.args.values.now c.place-place.result c.args.value c.index-values-place.result c.index-values-place.is)
