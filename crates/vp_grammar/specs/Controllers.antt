-- The grammar of controllers.
use Rattle.std.specs.Prelude.{ℕ, ◌≡◌, ◌<◌, List, [], ◌∷◌, Option, Some, None}
use Rattle.vp_terms.specs.declared.expr.Var.{Var}
use Rattle.vp_terms.specs.declared.expr.Var.TheVariants as variable
use Rattle.vp_terms.specs.Tree.{ProgTree, Nothing, Gives, GivesAny, Passes, OneOf, Then, Where}
use Rattle.vp_grammar.specs.declared.terminal.Span.{Span}
use Rattle.vp_grammar.specs.declared.terminal.Operator.TheVariants as operator
use Rattle.vp_grammar.specs.declared.terminal.Symbol.TheVariants as symbol
use Rattle.vp_lex.specs.declared.word.ReservedWord.TheVariants as word
use Rattle.vp_grammar.specs.declared.terminal.Terminal.{Terminal}
use Rattle.vp_grammar.specs.declared.terminal.Terminal.TheVariants as terminal
use Rattle.vp_grammar.specs.declared.controller.Beginning.{Beginning}
use Rattle.vp_grammar.specs.declared.controller.Beginning.TheVariants.{Freeing, Giving, Testing, Branching, Other}
use Rattle.vp_grammar.specs.Front.{NotBegins}
use Rattle.vp_grammar.specs.Grammar.{Expression, expression_then, expression_tree}
use Rattle.vp_grammar.specs.Formulas.{Disjunction, or_then, or_formula}

mutual
  -- block { "++" block }
  pub data Choice : Type 0 where
    Single : Block → Choice
    Several : Block → Choice → Choice

  -- "{" { statement } "}"
  pub data Block : Type 0 where
    Braced : Statements → Block

  pub data Statements : Type 0 where
    NoStatements : Statements
    Stated : Statement → Statements → Statements

  -- name ":=" "*" ";" | name ":=" expr ";" | "?" formula ";" | choice
  -- | "if" "[" formula "]" block [ "else" block ]
  pub data Statement : Type 0 where
    Freed : Span → Option Var → Statement
    Assigned : Span → Option Var → Expression → Statement
    Tested : Disjunction → Statement
    Nested : Choice → Statement
    Guarded : Disjunction → Block → Statement
    Forked : Disjunction → Block → Block → Statement

-- the terminals of the form, and then those that follow
abbrev mutual
  pub choice_then : Choice → List Terminal → List Terminal
  choice_then (Single b) rest = block_then b rest
  choice_then (Several b c) rest = block_then b (terminal.Symbol symbol.Choice ∷ choice_then c rest)

  pub block_then : Block → List Terminal → List Terminal
  block_then (Braced ss) rest = terminal.Symbol symbol.BraceOpen ∷ statements_then ss (terminal.Symbol symbol.BraceClose ∷ rest)

  pub statements_then : Statements → List Terminal → List Terminal
  statements_then NoStatements rest = rest
  statements_then (Stated s ss) rest = statement_then s (statements_then ss rest)

  pub statement_then : Statement → List Terminal → List Terminal
  statement_then (Freed s v) rest = terminal.Name s v ∷ terminal.Symbol symbol.Assign ∷ terminal.Operator operator.Star ∷ terminal.Symbol symbol.Semicolon ∷ rest
  statement_then (Assigned s v e) rest = terminal.Name s v ∷ terminal.Symbol symbol.Assign ∷ expression_then e (terminal.Symbol symbol.Semicolon ∷ rest)
  statement_then (Tested f) rest = terminal.Symbol symbol.Question ∷ or_then f (terminal.Symbol symbol.Semicolon ∷ rest)
  statement_then (Nested c) rest = choice_then c rest
  statement_then (Guarded f b) rest = terminal.Word word.If ∷ terminal.Symbol symbol.SquareOpen ∷ or_then f (terminal.Symbol symbol.SquareClose ∷ block_then b rest)
  statement_then (Forked f b c) rest = terminal.Word word.If ∷ terminal.Symbol symbol.SquareOpen ∷ or_then f (terminal.Symbol symbol.SquareClose ∷ block_then b (terminal.Word word.Else ∷ block_then c rest))

-- the number of a control; 0 for a name of anything else, which is refused later
abbrev pub control_of : Option Var → ℕ
control_of (Some (variable.Control i)) = i
control_of v = 0

-- the tree of the form: blocks nest to the right as choices and statements as sequences, an empty
-- block changes nothing, and so does a missing `else`
abbrev mutual
  pub choice_tree : Choice → ProgTree
  choice_tree (Single b) = block_tree b
  choice_tree (Several b c) = OneOf (block_tree b) (choice_tree c)

  pub block_tree : Block → ProgTree
  block_tree (Braced ss) = statements_tree ss

  pub statements_tree : Statements → ProgTree
  statements_tree NoStatements = Nothing
  statements_tree (Stated s NoStatements) = statement_tree s
  statements_tree (Stated s (Stated t ts)) = Then (statement_tree s) (statements_tree (Stated t ts))

  pub statement_tree : Statement → ProgTree
  statement_tree (Freed s v) = GivesAny (control_of v)
  statement_tree (Assigned s v e) = Gives (control_of v) (expression_tree e)
  statement_tree (Tested f) = Passes (or_formula f)
  statement_tree (Nested c) = choice_tree c
  statement_tree (Guarded f b) = Where (or_formula f) (block_tree b) Nothing
  statement_tree (Forked f b c) = Where (or_formula f) (block_tree b) (block_tree c)

-- what goes on behind a block: `++` a choice, and `else` an `if`
abbrev pub going : List Terminal → ℕ
going (terminal.Symbol symbol.Choice ∷ ts) = 2
going (terminal.Word word.Else ∷ ts) = 1
going ts = 0

-- the terminals are those of a form and then the rest, at which it doesn't go on
abbrev pub IsChoice : List Terminal → ProgTree → List Terminal → Type 0
IsChoice ts t rest = (c : Choice) × (ts ≡ choice_then c rest) × (t ≡ choice_tree c) × (going rest < 2)

abbrev pub IsBlock : List Terminal → ProgTree → List Terminal → Type 0
IsBlock ts t rest = (b : Block) × (ts ≡ block_then b rest) × (t ≡ block_tree b)

-- statements with the `}` behind them
abbrev pub AreStatements : List Terminal → ProgTree → List Terminal → Type 0
AreStatements ts t rest = (ss : Statements) × (ts ≡ statements_then ss (terminal.Symbol symbol.BraceClose ∷ rest)) × (t ≡ statements_tree ss)

-- one statement at least
abbrev pub AreSome : List Terminal → ProgTree → List Terminal → Type 0
AreSome ts t rest = (s : Statement) × (ss : Statements) × (ts ≡ statements_then (Stated s ss) (terminal.Symbol symbol.BraceClose ∷ rest)) × (t ≡ statements_tree (Stated s ss))

-- A choice ends where no `++` follows, and an `if` without an `else` where none follows.
abbrev pub Ends : Statement → List Terminal → Type 0
Ends (Freed s v) rest = Unit {0}
Ends (Assigned s v e) rest = Unit {0}
Ends (Tested f) rest = Unit {0}
Ends (Nested c) rest = going rest < 2
Ends (Guarded f b) rest = NotBegins (terminal.Word word.Else) rest
Ends (Forked f b c) rest = Unit {0}

abbrev pub IsStatement : List Terminal → ProgTree → List Terminal → Type 0
IsStatement ts t rest = (s : Statement) × (ts ≡ statement_then s rest) × (t ≡ statement_tree s) × Ends s rest

-- what stands behind the first marks of a statement: behind a name, ":=" and "*"
abbrev pub IsFreed : ℕ → List Terminal → ProgTree → List Terminal → Type 0
IsFreed c ts t rest = (ts ≡ terminal.Symbol symbol.Semicolon ∷ rest) × (t ≡ GivesAny c)

-- behind a name and ":="
abbrev pub IsGiven : ℕ → List Terminal → ProgTree → List Terminal → Type 0
IsGiven c ts t rest = (e : Expression) × (ts ≡ expression_then e (terminal.Symbol symbol.Semicolon ∷ rest)) × (t ≡ Gives c (expression_tree e))

-- behind "?"
abbrev pub IsTest : List Terminal → ProgTree → List Terminal → Type 0
IsTest ts t rest = (f : Disjunction) × (ts ≡ or_then f (terminal.Symbol symbol.Semicolon ∷ rest)) × (t ≡ Passes (or_formula f))

-- [ "else" block ]
abbrev pub else_then : Option Block → List Terminal → List Terminal
else_then None rest = rest
else_then (Some b) rest = terminal.Word word.Else ∷ block_then b rest

abbrev pub else_tree : Option Block → ProgTree
else_tree None = Nothing
else_tree (Some b) = block_tree b

abbrev pub ElseEnds : Option Block → List Terminal → Type 0
ElseEnds None rest = NotBegins (terminal.Word word.Else) rest
ElseEnds (Some b) rest = Unit {0}

abbrev pub IsElse : List Terminal → ProgTree → List Terminal → Type 0
IsElse ts t rest = (b : Option Block) × (ts ≡ else_then b rest) × (t ≡ else_tree b) × ElseEnds b rest

-- behind "if" and "["
abbrev pub IsConditional : List Terminal → ProgTree → List Terminal → Type 0
IsConditional ts t rest = (f : Disjunction) × (a : Block) × (b : Option Block) × (ts ≡ or_then f (terminal.Symbol symbol.SquareClose ∷ block_then a (else_then b rest))) × (t ≡ Where (or_formula f) (block_tree a) (else_tree b)) × ElseEnds b rest

-- no statement but a choice can begin so
pub record BeginsNothing (ts : List Terminal) : Type 0 where
  pub named : (s : Span) (v : Option Var) (rest : List Terminal) → ts ≡ terminal.Name s v ∷ terminal.Symbol symbol.Assign ∷ rest → ⊥
  pub tested : NotBegins (terminal.Symbol symbol.Question) ts
  pub branched : (rest : List Terminal) → ts ≡ terminal.Word word.If ∷ terminal.Symbol symbol.SquareOpen ∷ rest → ⊥

-- the first marks of a statement, and what follows them
abbrev pub IsBeginning : List Terminal → Beginning → Type 0
IsBeginning ts (Freeing v rest) = (s : Span) × (ts ≡ terminal.Name s v ∷ terminal.Symbol symbol.Assign ∷ terminal.Operator operator.Star ∷ rest.now)
IsBeginning ts (Giving v rest) = (s : Span) × (ts ≡ terminal.Name s v ∷ terminal.Symbol symbol.Assign ∷ rest.now) × NotBegins (terminal.Operator operator.Star) rest.now
IsBeginning ts (Testing rest) = ts ≡ terminal.Symbol symbol.Question ∷ rest.now
IsBeginning ts (Branching rest) = ts ≡ terminal.Word word.If ∷ terminal.Symbol symbol.SquareOpen ∷ rest.now
IsBeginning ts Other = BeginsNothing ts

-- all of the terminals are a choice and `;`
abbrev pub SpellsChoice : List Terminal → ProgTree → Type 0
SpellsChoice ts t = (c : Choice) × (ts ≡ choice_then c (terminal.Symbol symbol.Semicolon ∷ [])) × (t ≡ choice_tree c)

-- "ctrl" choice ";"
abbrev pub SpellsController : List Terminal → ProgTree → Type 0
SpellsController ts t = (c : Choice) × (ts ≡ terminal.Word word.Ctrl ∷ choice_then c (terminal.Symbol symbol.Semicolon ∷ [])) × (t ≡ choice_tree c)
