-- What a model says of rationals, its sampled runs, and its claim.
use Rattle.std.specs.Prelude.{◌≡◌, ℕ, ◌≤◌, List, [], ◌∷◌, length, slice_get, Some, IsTrue}
use Rattle.vp_terms.specs.declared.expr.Expr.{Expr}
use Rattle.vp_terms.specs.declared.package.Package.{Package}
use Rattle.vp_terms.specs.Control.{Values, Ctrl, assigned}
use Rattle.vp_terms.specs.Meaning.{holds, value}
use Rattle.vp_terms.specs.Plant.{Flow, PlantStep}
use Rattle.vp_terms.specs.Rational.{Rational, Equals}

-- what a model says of parameters p, states x and controls u
pub record Model : Type 1 where
  -- where it may start, what stays true, and what is asked: at p, x, u
  pub init : Values → Values → Values → Type 0
  pub inv : Values → Values → Values → Type 0
  pub safe : Values → Values → Values → Type 0
  -- the controller may go from u to v: at p, x, u, v
  pub ctrl : Values → Values → Values → Values → Type 0
  -- the fallback goes from u to v: at p, x, u, v
  pub fallback : Values → Values → Values → Values → Type 0
  -- the plant may go from x to y under the controls v in the time t: at p, x, v, t, y
  pub plant : Values → Values → Values → Rational → Values → Type 0

-- each control of the model has the value of its expression in v, and other numbers keep their values
pub record FallsBack (fallback : List Expr) (p x u v : Values) : Type 0 where
  pub each : (k : ℕ) (e : Expr) → slice_get fallback k ≡ Some e → Equals (v k) (value e (assigned p x u))
  pub others : (k : ℕ) → length fallback ≤ k → Equals (u k) (v k)

-- the model of a package, where the plant's flow is given
abbrev pub model_of : Flow → Package → Model
model_of flow pkg = record {
  init = λ p x u. IsTrue (holds pkg.init (assigned p x u));
  inv = λ p x u. IsTrue (holds pkg.inv (assigned p x u));
  safe = λ p x u. IsTrue (holds pkg.safe (assigned p x u));
  ctrl = λ p x u v. Ctrl pkg.ctrl p x u v;
  fallback = λ p x u v. FallsBack pkg.fallback p x u v;
  plant = λ p x v t y. PlantStep flow pkg.plant p x v t y;
}

-- the invariant holds at the start, is safe, and is kept by each round; where it holds the controller
-- allows the fallback
pub record IsInductive (m : Model) : Type 0 where
  pub starts : (p x u : Values) → m.init p x u → m.inv p x u
  pub is_safe : (p x u : Values) → m.inv p x u → m.safe p x u
  pub kept : (p x u v y : Values) (t : Rational) → m.inv p x u → m.ctrl p x u v → m.plant p x v t y → m.inv p y v
  pub falls_back : (p x u v : Values) → m.inv p x u → m.fallback p x u v → m.ctrl p x u v

-- one round: the controls that the controller chose, the time that passed, and the states behind it
pub record Round : Type 0 where
  pub controls : Values
  pub time : Rational
  pub states : Values

-- the model may go through these rounds from states x and controls u
abbrev pub SampledRun : Model → Values → Values → Values → List Round → Type 0
SampledRun m p x u [] = Unit {0}
SampledRun m p x u (r ∷ rs) = m.ctrl p x u r.controls × m.plant p x r.controls r.time r.states × SampledRun m p r.states r.controls rs

-- it is safe behind each round
abbrev pub EachIsSafe : Model → Values → List Round → Type 0
EachIsSafe m p [] = Unit {0}
EachIsSafe m p (r ∷ rs) = m.safe p r.states r.controls × EachIsSafe m p rs

-- the model's claim: each sampled run from where it may start is safe at its start and behind each round
abbrev pub Claim : Model → Type 0
Claim m = (p x u : Values) (rounds : List Round) → m.init p x u → SampledRun m p x u rounds → m.safe p x u × EachIsSafe m p rounds
