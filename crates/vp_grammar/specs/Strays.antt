-- The first variable of a piece that may not stand there.
use Rattle.std.specs.Prelude.{ℕ, ◌+◌, Bool, true, false, ◌&&◌, nat_eq, nat_lt, List, [], ◌∷◌, Option, None, Some, if◌then◌else◌}
use Rattle.vp_terms.specs.declared.formula.Cmp.TheVariants as cmp
use Rattle.vp_terms.specs.declared.expr.Var.{Var}
use Rattle.vp_terms.specs.declared.expr.Var.TheVariants.{State, Control}
use Rattle.vp_terms.specs.declared.expr.Places.{Places}
use Rattle.vp_terms.specs.declared.well_formed.Kinds.{Kinds}
use Rattle.vp_terms.specs.WellFormed.{is_allowed, in_model, in_slack}
use Rattle.vp_grammar.specs.declared.terminal.Span.{Span}
use Rattle.vp_grammar.specs.declared.terminal.Symbol.TheVariants as symbol
use Rattle.vp_lex.specs.declared.word.ReservedWord.TheVariants as word
use Rattle.vp_grammar.specs.declared.terminal.Terminal.{Terminal}
use Rattle.vp_grammar.specs.declared.terminal.Terminal.TheVariants as terminal
use Rattle.vp_grammar.specs.declared.strays.Rule.{Rule}
use Rattle.vp_grammar.specs.declared.strays.Rule.TheVariants.{Plain, Controller, Flow, Slack, Fallback}

-- the name is declared and its variable may stand there
abbrev pub is_known : Kinds → Places → Option Var → Bool
is_known k p None = false
is_known k p (Some v) = is_allowed k p v

-- a terminal that is no variable, or whose name is declared
abbrev pub is_declared : Terminal → Bool
is_declared (terminal.Name s None) = false
is_declared (terminal.Name s (Some v)) = true
is_declared (terminal.Variable s None) = false
is_declared (terminal.Variable s (Some v)) = true
is_declared t = true

-- the name of a control of the model
abbrev pub is_control : Places → Option Var → Bool
is_control p (Some (Control i)) = nat_lt i p.controls
is_control p v = false

-- the name of a control, whatever its number
abbrev pub names_control : Option Var → Bool
names_control (Some (Control i)) = true
names_control v = false

-- what stands in front behind a name that is set: `:=` in a controller, `'` in a flow, `from` in a
-- slack and `=` in a fallback
abbrev pub assigns : List Terminal → Bool
assigns (terminal.Symbol symbol.Assign ∷ ts) = true
assigns ts = false

-- each name before `:=` is a control's
abbrev pub sets_controls : List Terminal → Bool
sets_controls [] = true
sets_controls (terminal.Name s v ∷ ts) = (if assigns ts then names_control v else true) && sets_controls ts
sets_controls (t ∷ ts) = sets_controls ts

abbrev pub rates : List Terminal → Bool
rates (terminal.Symbol symbol.Prime ∷ ts) = true
rates ts = false

abbrev pub bounds : List Terminal → Bool
bounds (terminal.Word word.From ∷ ts) = true
bounds ts = false

abbrev pub sets : List Terminal → Bool
sets (terminal.Compare cmp.Eq ∷ ts) = true
sets ts = false

-- which variables may stand in a piece, beside the names that it sets
abbrev pub kinds_of : Rule → Kinds
kinds_of (Plain k) = k
kinds_of Controller = in_model
kinds_of Flow = in_model
kinds_of Slack = in_slack
kinds_of Fallback = in_model

-- a name in front of these terminals is one that the piece sets
abbrev pub is_set : Rule → List Terminal → Bool
is_set (Plain k) ts = false
is_set Controller ts = assigns ts
is_set Flow ts = rates ts
is_set Slack ts = bounds ts
is_set Fallback ts = sets ts

abbrev pub is_state_number : ℕ → Option Var → Bool
is_state_number i (Some (State j)) = nat_eq i j
is_state_number i v = false

abbrev pub is_control_number : ℕ → Option Var → Bool
is_control_number i (Some (Control j)) = nat_eq i j
is_control_number i v = false

-- the piece may set the name there: any control in a controller, else the state or control of the entry's number
abbrev pub is_due : Rule → Places → ℕ → Option Var → Bool
is_due (Plain k) p i v = false
is_due Controller p i v = is_control p v
is_due Flow p i v = is_state_number i v
is_due Slack p i v = is_state_number i v
is_due Fallback p i v = is_control_number i v

-- a name, next name or `tau`
abbrev pub variable_span : Terminal → Option Span
variable_span (terminal.Name s v) = Some s
variable_span (terminal.Variable s v) = Some s
variable_span t = None

-- a terminal that may stand before these terminals, where i names were set before it
abbrev pub fits : Rule → Places → ℕ → Terminal → List Terminal → Bool
fits r p i (terminal.Name s v) ts = if is_set r ts then is_due r p i v else is_known (kinds_of r) p v
fits r p i (terminal.Variable s v) ts = is_known (kinds_of r) p v
fits r p i t ts = true

-- how many names were set behind it
abbrev pub set_behind : Rule → ℕ → Terminal → List Terminal → ℕ
set_behind r i (terminal.Name s v) ts = if is_set r ts then i + 1 else i
set_behind r i t ts = i

-- the first variable that may not stand there or is not the one that is due, where i names were set before
abbrev pub first_stray : Rule → Places → ℕ → List Terminal → Option Span
first_stray r p i [] = None
first_stray r p i (t ∷ ts) = if fits r p i t ts then first_stray r p (set_behind r i t ts) ts else variable_span t
