-- What a reader of each part of a list answers.
use Rattle.std.specs.Prelude.{◌≡◌, ◌<◌, List, [], ◌∷◌, Option}
use Rattle.vp_terms.specs.declared.expr.Var.{Var}
use Rattle.vp_terms.specs.Tree.{ExprTree}
use Rattle.vp_grammar.specs.declared.terminal.Span.{Span}
use Rattle.vp_grammar.specs.declared.terminal.Symbol.TheVariants as symbol
use Rattle.vp_lex.specs.declared.word.ReservedWord.TheVariants as word
use Rattle.vp_grammar.specs.declared.terminal.Terminal.{Terminal}
use Rattle.vp_grammar.specs.declared.terminal.Terminal.TheVariants as terminal
use Rattle.vp_grammar.specs.declared.entries.Mark.{Mark}
use Rattle.vp_grammar.specs.Grammar.{Expression, expression_then, expression_tree, precedence}
use Rattle.vp_grammar.specs.Entries.{mark_then}

-- steps, and then the end
abbrev pub Goes : {T : Type 0} → (List Terminal → T → List Terminal → Type 0) → (List Terminal → List Terminal → Type 0) → List Terminal → List T → List Terminal → Type 0
Goes step ends ts [] rest = ends ts rest
Goes {T} step ends ts (t ∷ us) rest = (after : List Terminal) × step ts t after × Goes step ends after us rest

-- an item behind a separator
abbrev pub Behind : {T : Type 0} → (List Terminal → T → List Terminal → Type 0) → Terminal → List Terminal → T → List Terminal → Type 0
Behind item separator ts t rest = (more : List Terminal) × (ts ≡ separator ∷ more) × item more t rest

-- ";" stands in front
abbrev pub IsEnd : List Terminal → List Terminal → Type 0
IsEnd ts rest = ts ≡ terminal.Symbol symbol.Semicolon ∷ rest

-- at least one item, with separators between, and then ";"
abbrev pub Listed : {T : Type 0} → (List Terminal → T → List Terminal → Type 0) → Terminal → List Terminal → List T → List Terminal → Type 0
Listed item separator ts [] rest = ⊥
Listed item separator ts (t ∷ us) rest = (after : List Terminal) × item ts t after × Goes (Behind item separator) IsEnd after us rest

-- a name
abbrev pub IsName : List Terminal → Span → List Terminal → Type 0
IsName ts span rest = (v : Option Var) × (ts ≡ terminal.Name span v ∷ rest)

-- nothing but ";", or names with commas between and ";"
abbrev pub MaybeNames : List Terminal → List Span → List Terminal → Type 0
MaybeNames ts [] rest = IsEnd ts rest
MaybeNames ts (span ∷ spans) rest = Listed IsName (terminal.Symbol symbol.Comma) ts (span ∷ spans) rest

-- a name and the mark
abbrev pub IsMarked : Mark → List Terminal → List Terminal → Type 0
IsMarked m ts rest = (s : Span) × (v : Option Var) × (ts ≡ terminal.Name s v ∷ mark_then m rest)

abbrev pub IsEntry : Mark → List Terminal → ExprTree → List Terminal → Type 0
IsEntry m ts t rest = (s : Span) × (v : Option Var) × (e : Expression) × (ts ≡ terminal.Name s v ∷ mark_then m (expression_then e rest)) × (t ≡ expression_tree e) × (precedence rest < 3)

-- expr "to" expr
abbrev pub IsPair : List Terminal → ExprTree × ExprTree → List Terminal → Type 0
IsPair ts t rest = (e : Expression) × (f : Expression) × (ts ≡ expression_then e (terminal.Word word.To ∷ expression_then f rest)) × (t ≡ (expression_tree e, expression_tree f)) × (precedence rest < 3)

-- a name and "from"
abbrev pub IsBounded : List Terminal → List Terminal → Type 0
IsBounded ts rest = (s : Span) × (v : Option Var) × (ts ≡ terminal.Name s v ∷ terminal.Word word.From ∷ rest)

abbrev pub IsBound : List Terminal → ExprTree × ExprTree → List Terminal → Type 0
IsBound ts t rest = (more : List Terminal) × IsBounded ts more × IsPair more t rest
