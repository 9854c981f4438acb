-- Names: which are declared, which variables they name, and how many there are.
use Rattle.std.specs.Prelude.{ℕ, ◌+◌, ◌-◌, ◌≤◌, Bool, false, ◌||◌, List, [], ◌∷◌, ◌++◌, take, length, Option, None, Some, if◌then◌else◌}
use Rattle.std.specs.Str.{bytes_eq, IsUtf8}
use Rattle.std.specs.Option.{option_map, option_or}
use Rattle.vp_terms.specs.declared.expr.Var.{Var}
use Rattle.vp_terms.specs.declared.expr.Var.TheVariants.{Param, State, Control, NextState, NextControl}
use Rattle.vp_terms.specs.declared.package.Names.{Names}
use Rattle.vp_grammar.specs.declared.terminal.Span.{Span}
use Rattle.vp_grammar.specs.declared.terminal.Terminal.{Terminal}
use Rattle.vp_grammar.specs.declared.terminal.Terminal.TheVariants as terminal
use Rattle.vp_read.specs.Spelling.{span_text}

-- the number of a name in a list, from 0: the first place where it stands
abbrev pub number_in : List (List ℕ) → List ℕ → Option ℕ
number_in [] name = None
number_in (n ∷ ns) name = if bytes_eq n name then Some 0 else option_map (λ k. k + 1) (number_in ns name)

-- the variable that a name names: a parameter, a state or a control
abbrev pub variable : Names → List ℕ → Option Var
variable names name = option_or (option_map Param (number_in names.params name)) (option_or (option_map State (number_in names.states name)) (option_map Control (number_in names.controls name)))

-- the variable that a next name names, by the name before its `@`
abbrev pub next_variable : Names → List ℕ → Option Var
next_variable names name = option_or (option_map NextState (number_in names.states name)) (option_map NextControl (number_in names.controls name))

-- a terminal with the variable that its name names
abbrev pub known : List ℕ → Names → Terminal → Terminal
known text names (terminal.Name s v) = terminal.Name s (variable names (span_text text s))
known text names (terminal.Variable s None) = terminal.Variable s (next_variable names (take (length (span_text text s) - 1) (span_text text s)))
known text names t = t

-- the first name of a list that stands in it or among the names before it a second time
abbrev pub contains : List (List ℕ) → List ℕ → Bool
contains [] name = false
contains (n ∷ ns) name = bytes_eq n name || contains ns name

abbrev pub first_again : List (List ℕ) → List (List ℕ) → Option (List ℕ)
first_again before [] = None
first_again before (n ∷ ns) = if contains before n then Some n else first_again (before ++ n ∷ []) ns

-- lists of names that are not longer than a text
abbrev pub AreFew : Names → Type 0
AreFew names = (length names.params ≤ 1048576) × (length names.states ≤ 1048576) × (length names.controls ≤ 1048576)

-- the span of a name lies within a text, and its bytes are a string's
abbrev pub IsWithin : List ℕ → Span → Type 0
IsWithin text s = (s.from ≤ s.to) × (s.to ≤ length text) × IsUtf8 (span_text text s)

abbrev pub StandsIn : List ℕ → Terminal → Type 0
StandsIn text (terminal.Name s v) = IsWithin text s
StandsIn text (terminal.Variable s v) = IsWithin text s
StandsIn text t = Unit {0}
