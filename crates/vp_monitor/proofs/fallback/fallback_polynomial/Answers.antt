use Rattle.std.proofs.Common.{ℕ, Err, ap, sym, subst, ◌∙◌, refl}
use Rattle.vp_poly.specs.Canonical.{IsCanonical, variables}
use Rattle.vp_poly.specs.Coefficient.{coefficients}
use Rattle.vp_poly.specs.Places.{places_for}
use Rattle.vp_poly.specs.Value.{value_at}
use Rattle.vp_terms.specs.Meaning.{value}
use Rattle.vp_monitor.specs.Fallback.{TellsFallback}
use Rattle.vp_monitor.proofs.Falling.{tells_over, value_once}
use Rattle.vp_monitor.proofs.fallback.fallback_polynomial.Goals as goal

pub returns-in-Err-clause-refused : goal.returns-in-Err-clause-refused
returns-in-Err-clause-refused c =
    subst (TellsFallback (places_for c.args.counts) c.args.names.now.controls c.args.control c.args.value.now) (sym c.at.ensures)
    (tells_over (places_for c.args.counts) c.args.names.now.controls c.args.control c.args.value.now c.in-Err.error (λ e. c.narrow_polynomial.ensures.wide (c.in-Err.is ∙ ap Err e)))

pub returns-then-is_whole-clause-exact : goal.returns-then-is_whole-clause-exact
returns-then-is_whole-clause-exact c =
    let d = c.is_whole.ensures.0 c.if-is_whole.true in
    subst (λ (n : ℕ). IsCanonical n c.in-Ok.scaled.poly (coefficients (variables (places_for c.args.counts)) c.args.value.now)) d c.in-Ok.ensures.canonical

pub returns-then-is_whole-clause-good : goal.returns-then-is_whole-clause-good
returns-then-is_whole-clause-good c =
    λ o.
    let d = c.is_whole.ensures.0 c.if-is_whole.true in
    record { fits = c.in-Ok.ensures.fits refl; whole = sym (ap (λ w. w.den) c.in-Ok.ensures.weight) ∙ d }

pub returns-then-is_whole-clause-meaning : goal.returns-then-is_whole-clause-meaning
returns-then-is_whole-clause-meaning c =
    λ z a at.
    let d = c.is_whole.ensures.0 c.if-is_whole.true in
    value_once c.in-Ok.scaled.weight.den (value_at c.in-Ok.scaled.poly z) (value c.args.value.now a) d (c.in-Ok.ensures.values z a at)

pub returns-clause-refused : goal.returns-clause-refused
returns-clause-refused c = (
  c.in_ok-name.ensures,
  c.in-Ok.ensures.fits refl,
  λ d. let t = c.is_whole.ensures.1 (ap (λ w. w.den) c.in-Ok.ensures.weight ∙ d) in absurd (cc),
)
