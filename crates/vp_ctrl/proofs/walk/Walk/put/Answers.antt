use Rattle.std.proofs.Common.{ℕ, refl, ap}
use Rattle.std.specs.Prelude.{slice_set}
use Rattle.std.proofs.lemmas.Result.{err_from_is_err_and}
use Rattle.vp_poly.specs.Places.{places_for}
use Rattle.vp_ctrl.proofs.Known.{Placed}
use Rattle.vp_ctrl.proofs.Standing.{path_below, path_in_model}
use Rattle.vp_ctrl.proofs.Coming as coming
use Rattle.vp_ctrl.proofs.walk.Walk.put.Goals as goal

pub of_expr-requires-clause-places : goal.of_expr-requires-clause-places
of_expr-requires-clause-places c = path_below (places_for c.args.counts) c.args.value.now c.requires.variables

pub returns-in_err-scaled-clause-wide : goal.returns-in_err-scaled-clause-wide
returns-in_err-scaled-clause-wide c =
    λ s rs cs h e.
    let p = err_from_is_err_and c.from_residual.result c.from_residual.ensures.1 in
    let g = rw c.deref.ensures.value at (c.in_err-scaled.ensures.wide (cc)) in
    coming.put_wide (places_for c.args.counts) c.args.self.now c.args.self.now s rs cs h c.replacing_composes.ensures.weights c.args.value.now c.requires.variables g

pub returns-clause-come : goal.returns-clause-come
returns-clause-come c =
    λ s rs cs h.
    let placed : Placed = record { in_range = c.places_tell_variables.ensures.in_range; different = c.places_tell_variables.ensures.different } in
    let w = rw c.deref.ensures.value at c.in_ok-scaled.ensures.weight in
    let f = rw c.deref.ensures.value at (c.in_ok-scaled.ensures.within refl) in
    let i = rw c.deref.ensures.value at c.in_ok-scaled.ensures.canonical in
    let o = rw c.deref.ensures.value at c.in_ok-scaled.ensures.only in
    let v = path_in_model (places_for c.args.counts) c.args.value.now c.requires.variables in
    coming.put_come
    (places_for c.args.counts)
    c.args.self.now
    _
    s
    rs
    cs
    h
    placed
    c.replacing_composes.ensures.weights
    c.replacing_composes.ensures.coefficients
    c.args.control
    c.args.value.now
    c.in_ok-scaled.scaled
    c.requires.control
    c.requires.variables
    w
    f
    c.in_ok-scaled.ensures.places
    c.in_ok-scaled.ensures.weighed
    (λ g. i g v)
    o
    (ap (λ (k : ℕ). slice_set c.args.self.now.env.items k c.in_ok-scaled.scaled) c.place_in-place.ensures)
    refl
    refl
