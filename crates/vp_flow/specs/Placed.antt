-- Which places flows may have.
use Rattle.std.specs.Prelude.{ℕ, Bool, IsTrue}
use Rattle.vp_terms.specs.Places.{place}
use Rattle.vp_terms.specs.WellFormed.{in_domain, is_allowed}
use Rattle.vp_terms.specs.declared.expr.Places.{Places}
use Rattle.vp_terms.specs.declared.expr.Var.{Var}

-- the places of all parameters, states and controls of the model and of `tau` pass the test
abbrev pub AllowsFlows : Places → (ℕ → Bool) → Type 0
AllowsFlows p allowed = (v : Var) → IsTrue (is_allowed in_domain p v) → IsTrue (allowed (place p v))
