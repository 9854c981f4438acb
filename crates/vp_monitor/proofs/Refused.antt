-- The refusals of the stages, as refusals of the monitors.
use Rattle.std.proofs.Common.{◌≡◌, inl, inr, Bool, true, false, sym, subst}
use Rattle.vp_terms.specs.declared.expr.Places.{Places}
use Rattle.vp_terms.specs.declared.formula.Formula.{Formula}
use Rattle.vp_terms.specs.declared.package.Package.{Package}
use Rattle.vp_ctrl.specs.declared.path.PathErr.{PathErr}
use Rattle.vp_ctrl.specs.declared.path.PathErr.TheVariants as path
use Rattle.vp_ctrl.specs.Paths.{Refuses as RefusedPaths}
use Rattle.vp_flow.specs.Sides.{model}
use Rattle.vp_monitor.specs.declared.error.MonErr.{MonErr}
use Rattle.vp_monitor.specs.declared.error.MonErr.TheVariants.{Wide, Paths, Hidden, NotLinear, Cycle, Fraction, Cases, Memory}
use Rattle.vp_monitor.specs.declared.error.Place.{Place}
use Rattle.vp_monitor.specs.declared.error.Place.TheVariants as at
use Rattle.vp_monitor.specs.Errors.{Tells, of_paths}
use Rattle.vp_monitor.specs.Refusals.{BeforeFlow, FormulasPass, PlantPasses, Refuses, RefusesFallback, RefusesFlow, RefusesFormula, RefusesPaths, RefusesPlant, fits_in}

tells_so : (pkg : Package) (place : Place) (P : Type 0) → (P → RefusesFormula pkg (Wide place)) → (e : MonErr) → Tells place P e → RefusesFormula pkg e
tells_so pkg place P f (Wide q) h = subst (λ (r : Place). RefusesFormula pkg (Wide r)) (sym h.0) (f h.1)
tells_so pkg place P f (Paths k) h = absurd h
tells_so pkg place P f (Hidden k) h = absurd h
tells_so pkg place P f (NotLinear k) h = absurd h
tells_so pkg place P f (Cycle k) h = absurd h
tells_so pkg place P f (Fraction k) h = absurd h
tells_so pkg place P f (Cases k j) h = absurd h
tells_so pkg place P f Memory h = tt

module _ (pkg : Package) (p : Places) (same : p ≡ model pkg) where
  there : (f : Formula) (b : Bool) → fits_in p f ≡ b → fits_in (model pkg) f ≡ b
  there f b h = subst (λ (q : Places). fits_in q f ≡ b) same h

  pub init_refused : (e : MonErr) → Tells at.Init (fits_in p pkg.init ≡ false) e → Refuses pkg e
  init_refused e h = inl (tells_so pkg at.Init (fits_in p pkg.init ≡ false) (λ r. there pkg.init false r) e h)

  pub inv_refused : fits_in p pkg.init ≡ true → (e : MonErr) → Tells at.Inv (fits_in p pkg.inv ≡ false) e → Refuses pkg e
  inv_refused i e h = inl (tells_so pkg at.Inv (fits_in p pkg.inv ≡ false) (λ r. (there pkg.init true i, there pkg.inv false r)) e h)

  pub safe_refused : fits_in p pkg.init ≡ true → fits_in p pkg.inv ≡ true → (e : MonErr) → Tells at.Safe (fits_in p pkg.safe ≡ false) e → Refuses pkg e
  safe_refused i j e h = inl (tells_so pkg at.Safe (fits_in p pkg.safe ≡ false) (λ r. (there pkg.init true i, there pkg.inv true j, there pkg.safe false r)) e h)

  pub formulas_pass : fits_in p pkg.init ≡ true → fits_in p pkg.inv ≡ true → fits_in p pkg.safe ≡ true → FormulasPass pkg
  formulas_pass i j k = record { init = there pkg.init true i; inv = there pkg.inv true j; safe = there pkg.safe true k }

paths_so : (pkg : Package) (e : PathErr) → RefusedPaths pkg e → RefusesPaths pkg (of_paths e)
paths_so pkg (path.Paths count) h = h
paths_so pkg (path.Hidden name) h = h
paths_so pkg path.Wide h = h
paths_so pkg path.Memory h = tt

pub paths_refused : (pkg : Package) → FormulasPass pkg → (e : PathErr) → RefusedPaths pkg e → Refuses pkg (of_paths e)
paths_refused pkg f e h = inr (inl (f, paths_so pkg e h))

pub flow_refused : (pkg : Package) → BeforeFlow pkg → (e : MonErr) → RefusesFlow pkg e → Refuses pkg e
flow_refused pkg b e h = inr (inr (inl (b, h)))

pub plant_refused : (pkg : Package) → BeforeFlow pkg → (e : MonErr) → RefusesPlant pkg e → Refuses pkg e
plant_refused pkg b e h = inr (inr (inr (inl (b, h))))

pub fallback_refused : (pkg : Package) → BeforeFlow pkg → PlantPasses pkg → (e : MonErr) → RefusesFallback pkg e → Refuses pkg e
fallback_refused pkg b p e h = inr (inr (inr (inr (b, p, h))))
