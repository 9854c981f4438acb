-- What the monitors of a package are.
use Rattle.std.specs.Prelude.{◌≡◌, ⊤, List, [], ◌∷◌, map}
use Rattle.vp_terms.specs.declared.expr.Places.{Places}
use Rattle.vp_terms.specs.declared.expr.Expr.{Expr}
use Rattle.vp_terms.specs.declared.package.Package.{Package}
use Rattle.vp_poly.specs.declared.mono.Term.{Term}
use Rattle.vp_poly.specs.Canonical.{IsCanonical, variables}
use Rattle.vp_poly.specs.Coefficient.{coefficients}
use Rattle.vp_poly.specs.Places.{places_for}
use Rattle.vp_logic.specs.Tree.{tree}
use Rattle.vp_ctrl.specs.Paths.{ArePaths}
use Rattle.vp_ctrl.specs.Ways.{ways}
use Rattle.vp_flow.specs.Sides.{model}
use Rattle.vp_monitor.specs.declared.types.Monitors.{Monitors}
use Rattle.vp_monitor.specs.Plant.{ArePlantConjuncts, IsOwnNormal}

-- each is the canonical polynomial of its expression, of which no denominator was cleared
abbrev pub ArePolynomialsOf : Places → List Expr → List (List Term) → Type 0
ArePolynomialsOf p [] [] = ⊤
ArePolynomialsOf p [] (q ∷ qs) = ⊥
ArePolynomialsOf p (e ∷ es) [] = ⊥
ArePolynomialsOf p (e ∷ es) (q ∷ qs) = IsCanonical 1 q (coefficients (variables p) e) × ArePolynomialsOf p es qs

-- the normal forms of the three formulas, the paths of the controller, the conjuncts of the plant, and the
-- polynomials of the fallback
pub record AreMonitors (pkg : Package) (m : Monitors) : Type 0 where
  pub places : places_for m.counts ≡ model pkg
  pub init : IsOwnNormal (model pkg) pkg.init (tree m.init)
  pub inv : IsOwnNormal (model pkg) pkg.inv (tree m.inv)
  pub safe : IsOwnNormal (model pkg) pkg.safe (tree m.safe)
  pub paths : ArePaths (model pkg) (ways pkg.ctrl) m.paths
  pub plant : ArePlantConjuncts pkg (map tree m.plant)
  pub fallback : ArePolynomialsOf (model pkg) pkg.fallback m.fallback
