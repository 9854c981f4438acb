use Rattle.std.proofs.Common.{inr, refl, subst, sym}
use Rattle.std.specs.List.{All}
use Rattle.std.proofs.lemmas.Result.{err_from_is_err_and}
use Rattle.vp_terms.specs.Places.{place_count}
use Rattle.vp_poly.specs.Places.{places_for}
use Rattle.vp_monitor.specs.Obligations.{AreNeverMet}
use Rattle.vp_synth.specs.Going.{IsSplit}
use Rattle.vp_synth.specs.Stages.{RefusesPackage}
use Rattle.vp_synth.proofs.Accepted.{are_made}
use Rattle.vp_synth.proofs.Fitting.{made_fits}
use Rattle.vp_synth.proofs.Made.{all_split}
use Rattle.vp_synth.proofs.Meaning.{means}
use Rattle.vp_synth.proofs.Refusing.{passed_on}
use Rattle.vp_synth.proofs.accepting.parts_of.Goals as goal

pub returns-in_err-obligations-clause-refused : goal.returns-in_err-obligations-clause-refused
returns-in_err-obligations-clause-refused c =
    let q = err_from_is_err_and c.from_residual-in_err-obligations.result c.from_residual-in_err-obligations.ensures.1 in
    passed_on (RefusesPackage c.args.pkg.now) c.from_residual-in_err-obligations.result q.0 c.in_err-obligations.field-0.0 q.1 q.2
    (inr (c.in_ok-monitors.monitors, record { passes = c.in_ok-monitors.ensures.passes refl; are = c.in_ok-monitors.ensures.exact }, c.in_err-obligations.ensures.refused))

pub returns-clause-made : goal.returns-clause-made
returns-clause-made c =
    are_made c.args.pkg.now c.in_ok-monitors.monitors c.in_ok-obligations.obligations.items c.of.result c.in_ok-sandbox.sandbox c.of.ensures
    (c.in_ok-monitors.ensures.passes refl) c.in_ok-monitors.ensures.exact c.in_ok-obligations.ensures.exact c.in_ok-obligations.ensures.few c.in_ok-sandbox.ensures

pub returns-clause-split : goal.returns-clause-split
returns-clause-split c =
    subst (All IsSplit) (sym c.of.ensures) (all_split (place_count (places_for c.in_ok-monitors.monitors.counts)) c.in_ok-obligations.obligations.items c.in_ok-obligations.ensures.atoms c.in_ok-obligations.ensures.few)

pub returns-clause-fits : goal.returns-clause-fits
returns-clause-fits c =
    made_fits c.args.pkg.now c.in_ok-monitors.monitors c.in_ok-sandbox.sandbox c.conjuncts_stay_small.ensures.sized c.conjuncts_stay_small.ensures.only c.requires c.in_ok-monitors.ensures.exact
    c.in_ok-monitors.ensures.valid c.in_ok-monitors.ensures.sized c.in_ok-monitors.ensures.places
    (c.monitors_have_few_conjuncts.ensures.init c.args.pkg.now c.in_ok-monitors.monitors c.requires c.in_ok-monitors.ensures.exact)
    (c.monitors_have_few_conjuncts.ensures.plant c.args.pkg.now c.in_ok-monitors.monitors c.requires c.in_ok-monitors.ensures.exact) c.in_ok-sandbox.ensures

pub returns-clause-means : goal.returns-clause-means
returns-clause-means c =
    λ flow exact.
    means flow c.args.pkg.now c.in_ok-monitors.monitors c.in_ok-sandbox.sandbox c.forms_keep_their_meaning.ensures.conjuncts c.in_ok-sandbox.ensures (c.in_ok-monitors.ensures.meaning flow exact)

pub returns-clause-inductive : goal.returns-clause-inductive
returns-clause-inductive c =
    λ flow exact never.
    c.in_ok-obligations.ensures.inductive flow (c.in_ok-monitors.ensures.meaning flow exact) (subst AreNeverMet c.of.ensures never)
