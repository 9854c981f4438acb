-- What stands in front.
use Rattle.std.specs.Prelude.{ℕ, ◌≡◌, ◌⊎◌, ◌<◌, ◌≤◌, true, List, ◌∷◌, Option, Some, None, Result, Ok, Err, unsigned_abs, Bool}
use Rattle.std.specs.Borrow.{Bor}
use Rattle.vp_terms.specs.declared.ratio.Ratio.{Ratio}
use Rattle.vp_terms.specs.declared.expr.Var.{Var}
use Rattle.vp_grammar.specs.declared.terminal.Span.{Span}
use Rattle.vp_grammar.specs.declared.terminal.Operator.TheVariants as operator
use Rattle.vp_grammar.specs.declared.terminal.Symbol.TheVariants as symbol
use Rattle.vp_grammar.specs.declared.terminal.Terminal.{Terminal}
use Rattle.vp_grammar.specs.declared.terminal.Terminal.TheVariants as terminal
use Rattle.vp_grammar.specs.declared.fault.ParseErr.{ParseErr}
use Rattle.vp_grammar.specs.declared.fault.ParseErr.TheVariants.{Form, Memory}
use Rattle.vp_grammar.specs.declared.front.Sign.{Sign}
use Rattle.vp_grammar.specs.declared.front.Sign.TheVariants.{Plus, Minus}
use Rattle.vp_grammar.specs.declared.front.Opening.{Opening}
use Rattle.vp_grammar.specs.declared.front.Opening.TheVariants.{Number, Variable, Bracket, Other}
use Rattle.vp_grammar.specs.Grammar.{precedence}

-- the terminal does not stand in front
abbrev pub NotBegins : Terminal → List Terminal → Type 0
NotBegins t ts = (rest : List Terminal) → ts ≡ t ∷ rest → ⊥

abbrev pub sign_terminal : Sign → Terminal
sign_terminal Plus = terminal.Operator operator.Plus
sign_terminal Minus = terminal.Operator operator.Minus

-- a name, a next name or `tau` stands in front
abbrev pub HasVariable : List Terminal → Option Var → List Terminal → Type 0
HasVariable ts v rest = ((s : Span) × (ts ≡ terminal.Name s v ∷ rest)) ⊎ ((s : Span) × (ts ≡ terminal.Variable s v ∷ rest))

-- a base begins with a number, a name, a next name, `tau` or a bracket, and not with anything else
pub record OpensNothing (ts : List Terminal) : Type 0 where
  pub number : (r : Ratio) (w : Bool) (rest : List Terminal) → ts ≡ terminal.Number r w ∷ rest → ⊥
  pub name : (s : Span) (v : Option Var) (rest : List Terminal) → ts ≡ terminal.Name s v ∷ rest → ⊥
  pub variable : (s : Span) (v : Option Var) (rest : List Terminal) → ts ≡ terminal.Variable s v ∷ rest → ⊥
  pub bracket : NotBegins (terminal.Symbol symbol.Open) ts

abbrev pub IsOpening : List Terminal → Opening → Type 0
IsOpening ts (Number r rest) = (w : Bool) × (ts ≡ terminal.Number r w ∷ rest.now)
IsOpening ts (Variable v rest) = HasVariable ts v rest.now
IsOpening ts (Bracket rest) = ts ≡ terminal.Symbol symbol.Open ∷ rest.now
IsOpening ts Other = OpensNothing ts

-- a whole stands in front
abbrev pub IsWholeFront : List Terminal → ℕ → List Terminal → Type 0
IsWholeFront ts n rest = (r : Ratio) × (ts ≡ terminal.Number r true ∷ rest) × (n ≡ unsigned_abs r.num)

-- a whole of at most 12 stands in front, at which no further exponent follows
abbrev pub IsExponent : List Terminal → ℕ → List Terminal → Type 0
IsExponent ts n rest = (r : Ratio) × (ts ≡ terminal.Number r true ∷ rest) × (n ≡ unsigned_abs r.num) × (n ≤ 12) × (precedence rest < 5)

abbrev pub Exponent : List Terminal → Option (ℕ × Bor (List Terminal)) → Type 0
Exponent ts None = (n : ℕ) (rest : List Terminal) → IsExponent ts n rest → ⊥
Exponent ts (Some x) = IsExponent ts x.0 x.1.now

-- a `^` with its exponent
abbrev pub IsRaised : List Terminal → ℕ → List Terminal → Type 0
IsRaised ts n rest = (r : Ratio) × (ts ≡ terminal.Operator operator.Caret ∷ terminal.Number r true ∷ rest) × (n ≡ unsigned_abs r.num) × (n ≤ 12) × (precedence rest < 5)

abbrev pub MaybeExponent : List Terminal → Option (ℕ × Bor (List Terminal)) → Type 0
MaybeExponent ts None = precedence ts ≡ 5 → ⊥
MaybeExponent ts (Some x) = IsRaised ts x.0 x.1.now

-- a `^` stands in front, and no exponent follows it
pub record NoExponent (ts : List Terminal) : Type 0 where
  pub raised : precedence ts ≡ 5
  pub none : (n : ℕ) (rest : List Terminal) → IsRaised ts n rest → ⊥

abbrev pub NotRaised : List Terminal → ParseErr → Type 0
NotRaised ts Form = NoExponent ts
NotRaised ts Memory = ⊥

abbrev pub HasExponent : List Terminal → Result (Option (ℕ × Bor (List Terminal))) ParseErr → Type 0
HasExponent ts (Ok x) = MaybeExponent ts x
HasExponent ts (Err e) = NotRaised ts e
