-- What a well formed package is.
use Rattle.std.specs.Prelude.{◌≡◌, ◌≢◌, ℕ, ◌+◌, ◌<◌, ◌≤◌, slice_get, Bool, true, false, ◌&&◌, IsTrue, nat_lt, nat_le, List, ◌++◌, length, AllPairs}
use Rattle.std.specs.List.{list_all}
use Rattle.vp_terms.specs.Places.{place_count}
use Rattle.vp_terms.specs.declared.expr.Places.{Places}
use Rattle.vp_terms.specs.declared.expr.Var.{Var}
use Rattle.vp_terms.specs.declared.expr.Var.TheVariants.{Param, State, Control, NextState, NextControl, Tau}
use Rattle.vp_terms.specs.declared.expr.Expr.{Expr}
use Rattle.vp_terms.specs.declared.expr.Expr.TheVariants.{Num, Var as Variable, Add', Sub', Mul', Pow'}
use Rattle.vp_terms.specs.declared.formula.Formula.{Formula}
use Rattle.vp_terms.specs.declared.formula.Formula.TheVariants.{True, Cmp as Compare, And', Or', Not'}
use Rattle.vp_terms.specs.declared.prog.Prog.{Prog}
use Rattle.vp_terms.specs.declared.prog.Prog.TheVariants.{Skip, Assign, Any, Test, Choice', Seq', If'}
use Rattle.vp_terms.specs.declared.well_formed.Kinds.{Kinds}
use Rattle.vp_terms.specs.declared.package.Slack.{Slack}
use Rattle.vp_terms.specs.declared.package.Plant.{Plant}
use Rattle.vp_terms.specs.declared.package.CertTerm.{CertTerm}
use Rattle.vp_terms.specs.declared.package.CertTerm.TheVariants as term
use Rattle.vp_terms.specs.declared.package.Cert.{Cert}
use Rattle.vp_terms.specs.declared.package.Names.{Names}
use Rattle.vp_terms.specs.declared.package.Package.{Package}

-- how many variables of each kind the names name
abbrev pub places_of : Names → Places
places_of n = record { params = length n.params; states = length n.states; controls = length n.controls }

-- a variable of the model, of a kind that may stand there
abbrev pub is_allowed : Kinds → Places → Var → Bool
is_allowed k p (Param i) = nat_lt i p.params
is_allowed k p (State i) = k.states && nat_lt i p.states
is_allowed k p (Control i) = k.controls && nat_lt i p.controls
is_allowed k p (NextState i) = k.next && nat_lt i p.states
is_allowed k p (NextControl i) = k.next && nat_lt i p.controls
is_allowed k p Tau = k.tau

-- the formulas of a model, its controller, its rates and its fallback: parameters, states and controls
abbrev pub in_model : Kinds
in_model = record { states = true; controls = true; next = false; tau = false }

-- the bounds of the time: parameters
abbrev pub in_time : Kinds
in_time = record { states = false; controls = false; next = false; tau = false }

-- the slack: parameters, controls and `tau`
abbrev pub in_slack : Kinds
in_slack = record { states = false; controls = true; next = false; tau = true }

-- the domain: parameters, states, controls and `tau`
abbrev pub in_domain : Kinds
in_domain = record { states = true; controls = true; next = false; tau = true }

-- a certificate: all variables
abbrev pub in_certificate : Kinds
in_certificate = record { states = true; controls = true; next = true; tau = true }

-- each variable may stand there, and each exponent is at most 12
abbrev pub is_good_expr : Kinds → Places → Expr → Bool
is_good_expr k p (Num r) = true
is_good_expr k p (Variable v) = is_allowed k p v
is_good_expr k p (Add' l e r f) = is_good_expr k p e && is_good_expr k p f
is_good_expr k p (Sub' l e r f) = is_good_expr k p e && is_good_expr k p f
is_good_expr k p (Mul' l e r f) = is_good_expr k p e && is_good_expr k p f
is_good_expr k p (Pow' l e n) = is_good_expr k p e && nat_le n 12

-- and so in each comparison
abbrev pub is_good_formula : Kinds → Places → Formula → Bool
is_good_formula k p True = true
is_good_formula k p (Compare c e f) = is_good_expr k p e && is_good_expr k p f
is_good_formula k p (And' l f r g) = is_good_formula k p f && is_good_formula k p g
is_good_formula k p (Or' l f r g) = is_good_formula k p f && is_good_formula k p g
is_good_formula k p (Not' l f) = is_good_formula k p f

-- and so in each statement, and each control is one of the model's
abbrev pub is_good_prog : Places → Prog → Bool
is_good_prog p Skip = true
is_good_prog p (Assign c e) = nat_lt c p.controls && is_good_expr in_model p e
is_good_prog p (Any c) = nat_lt c p.controls
is_good_prog p (Test f) = is_good_formula in_model p f
is_good_prog p (Choice' l a r b) = is_good_prog p a && is_good_prog p b
is_good_prog p (Seq' l a r b) = is_good_prog p a && is_good_prog p b
is_good_prog p (If' f l a r b) = is_good_formula in_model p f && (is_good_prog p a && is_good_prog p b)

-- the number of comparisons and `True`s of a formula
abbrev pub comparisons : Formula → ℕ
comparisons True = 1
comparisons (Compare c e f) = 1
comparisons (And' l f r g) = comparisons f + comparisons g
comparisons (Or' l f r g) = comparisons f + comparisons g
comparisons (Not' l f) = comparisons f

-- and of all formulas of a program
abbrev pub prog_comparisons : Prog → ℕ
prog_comparisons Skip = 0
prog_comparisons (Assign c e) = 0
prog_comparisons (Any c) = 0
prog_comparisons (Test f) = comparisons f
prog_comparisons (Choice' l a r b) = prog_comparisons a + prog_comparisons b
prog_comparisons (Seq' l a r b) = prog_comparisons a + prog_comparisons b
prog_comparisons (If' f l a r b) = comparisons f + (prog_comparisons a + prog_comparisons b)

-- the bounds of a state's slack have the variables that may stand there
abbrev pub is_good_slack : Places → Slack → Bool
is_good_slack p s = is_good_expr in_slack p s.low && is_good_expr in_slack p s.high

-- and so the expressions of a certificate's term
abbrev pub is_good_term : Places → CertTerm → Bool
is_good_term p (term.Pos times labels) = true
is_good_term p (term.Sum times squares labels) = list_all (is_good_expr in_certificate p) squares
is_good_term p (term.Eq label times) = is_good_expr in_certificate p times

abbrev pub is_good_cert : Places → Cert → Bool
is_good_cert p c = list_all (is_good_term p) c.terms

-- all names, in the order of the numbers of their kinds
abbrev pub all_names : Names → List (List ℕ)
all_names n = n.params ++ n.states ++ n.controls

-- the name number j is none of those before it
abbrev pub IsNewName : List (List ℕ) → ℕ → Type 0
IsNewName names j = (i : ℕ) → i < j → slice_get names i ≢ slice_get names j

-- all names are different; there is a state and a control, and there are at most 32 places
pub record AreGoodNames (n : Names) : Type 0 where
  pub distinct : AllPairs (λ a b. a ≢ b) (all_names n)
  pub some_state : 1 ≤ length n.states
  pub some_control : 1 ≤ length n.controls
  pub few : place_count (places_of n) ≤ 32

-- a rate and a slack for each state, and each part has the variables that may stand there
pub record IsGoodPlant (p : Places) (plant : Plant) : Type 0 where
  pub low : IsTrue (is_good_expr in_time p plant.low)
  pub high : IsTrue (is_good_expr in_time p plant.high)
  pub rates : IsTrue (list_all (is_good_expr in_model p) plant.rates)
  pub rate_count : length plant.rates ≡ p.states
  pub slack : IsTrue (list_all (is_good_slack p) plant.slack)
  pub slack_count : length plant.slack ≡ p.states
  pub domain : IsTrue (is_good_formula in_domain p plant.domain)
  pub domain_size : comparisons plant.domain ≤ 2048

-- a formula of the model with at most 2,048 comparisons and `True`s
pub record IsGoodCondition (p : Places) (f : Formula) : Type 0 where
  pub variables : IsTrue (is_good_formula in_model p f)
  pub size : comparisons f ≤ 2048

-- a well formed package
pub record IsWellFormed (pkg : Package) : Type 0 where
  pub names : AreGoodNames pkg.names
  pub init : IsGoodCondition (places_of pkg.names) pkg.init
  pub inv : IsGoodCondition (places_of pkg.names) pkg.inv
  pub safe : IsGoodCondition (places_of pkg.names) pkg.safe
  pub ctrl : IsTrue (is_good_prog (places_of pkg.names) pkg.ctrl)
  pub ctrl_size : prog_comparisons pkg.ctrl ≤ 2048
  pub plant : IsGoodPlant (places_of pkg.names) pkg.plant
  pub fallback : IsTrue (list_all (is_good_expr in_model (places_of pkg.names)) pkg.fallback)
  pub fallback_count : length pkg.fallback ≡ length pkg.names.controls
  pub certs : IsTrue (list_all (is_good_cert (places_of pkg.names)) pkg.certs)
