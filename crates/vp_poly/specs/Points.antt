-- Points at which the variables of a model have given values.
use Rattle.std.specs.Prelude.{◌≡◌, ℕ, List, slice_index, IsTrue}
use Rattle.vp_terms.specs.Rational.{Equals}
use Rattle.vp_terms.specs.Meaning.{Assignment}
use Rattle.vp_terms.specs.Places.{place, has_variable}
use Rattle.vp_terms.specs.declared.expr.Places.{Places}
use Rattle.vp_terms.specs.declared.expr.Var.{Var}
use Rattle.vp_poly.specs.Value.{Point}

-- at the point each variable of the model has the value that the assignment gives it
pub record IsAt (p : Places) (x : Point) (a : Assignment) : Type 0 where
  pub each : (v : Var) → IsTrue (has_variable p v) → Equals (x (place p v)) (a v)

-- `to` sends the place of each variable v of the model to that of g v, a variable of the model too
pub record Sends (p : Places) (to : List ℕ) (g : Var → Var) : Type 0 where
  pub inside : (v : Var) → IsTrue (has_variable p v) → IsTrue (has_variable p (g v))
  pub each : (v : Var) → IsTrue (has_variable p v) → slice_index to (place p v) ≡ place p (g v)
