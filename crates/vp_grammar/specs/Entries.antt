-- The grammar of the pieces that list names, expressions or pairs of them.
use Rattle.std.specs.Prelude.{ℕ, ◌≡◌, ◌≤◌, List, [], ◌∷◌, length, map, Option}
use Rattle.vp_terms.specs.declared.formula.Cmp.TheVariants as cmp
use Rattle.vp_terms.specs.declared.expr.Var.{Var}
use Rattle.vp_terms.specs.Tree.{ExprTree}
use Rattle.vp_grammar.specs.declared.terminal.Span.{Span}
use Rattle.vp_grammar.specs.declared.terminal.Symbol.TheVariants as symbol
use Rattle.vp_lex.specs.declared.word.ReservedWord.{ReservedWord}
use Rattle.vp_lex.specs.declared.word.ReservedWord.TheVariants as word
use Rattle.vp_grammar.specs.declared.terminal.Terminal.{Terminal}
use Rattle.vp_grammar.specs.declared.terminal.Terminal.TheVariants as terminal
use Rattle.vp_grammar.specs.declared.entries.Mark.{Mark}
use Rattle.vp_grammar.specs.declared.entries.Mark.TheVariants.{Rate, Setting}
use Rattle.vp_grammar.specs.Grammar.{Expression, expression_then, expression_tree}

-- names with commas between
abbrev pub names_then : List (Span × Option Var) → List Terminal → List Terminal
names_then [] rest = rest
names_then (n ∷ []) rest = terminal.Name n.0 n.1 ∷ rest
names_then (n ∷ m ∷ ms) rest = terminal.Name n.0 n.1 ∷ terminal.Symbol symbol.Comma ∷ names_then (m ∷ ms) rest

-- a word, then at least so many names, then ";"
abbrev pub SpellsNames : ReservedWord → ℕ → List Terminal → List Span → Type 0
SpellsNames w least ts spans = (ns : List (Span × Option Var)) × (ts ≡ terminal.Word w ∷ names_then ns (terminal.Symbol symbol.Semicolon ∷ [])) × (spans ≡ map (λ n. n.0) ns) × (least ≤ length ns)

-- what stands between a name and its expression: "'" "=" for a rate, "=" for a setting
abbrev pub mark_then : Mark → List Terminal → List Terminal
mark_then Rate rest = terminal.Symbol symbol.Prime ∷ terminal.Compare cmp.Eq ∷ rest
mark_then Setting rest = terminal.Compare cmp.Eq ∷ rest

-- entries with commas between; each has its name, the mark and its expression
pub data Entries : Type 0 where
  LastEntry : Span → Option Var → Expression → Entries
  Entry : Span → Option Var → Expression → Entries → Entries

abbrev pub entries_then : Mark → Entries → List Terminal → List Terminal
entries_then m (LastEntry s v e) rest = terminal.Name s v ∷ mark_then m (expression_then e rest)
entries_then m (Entry s v e es) rest = terminal.Name s v ∷ mark_then m (expression_then e (terminal.Symbol symbol.Comma ∷ entries_then m es rest))

abbrev pub entry_trees : Entries → List ExprTree
entry_trees (LastEntry s v e) = expression_tree e ∷ []
entry_trees (Entry s v e es) = expression_tree e ∷ entry_trees es

-- a word, then entries, then ";"
abbrev pub SpellsEntries : ReservedWord → Mark → List Terminal → List ExprTree → Type 0
SpellsEntries w m ts trees = (es : Entries) × (ts ≡ terminal.Word w ∷ entries_then m es (terminal.Symbol symbol.Semicolon ∷ [])) × (trees ≡ entry_trees es)

-- bounds with commas between: name "from" expr "to" expr
pub data Bounds : Type 0 where
  LastBound : Span → Option Var → Expression → Expression → Bounds
  Bound : Span → Option Var → Expression → Expression → Bounds → Bounds

abbrev pub bounds_then : Bounds → List Terminal → List Terminal
bounds_then (LastBound s v e f) rest = terminal.Name s v ∷ terminal.Word word.From ∷ expression_then e (terminal.Word word.To ∷ expression_then f rest)
bounds_then (Bound s v e f bs) rest = terminal.Name s v ∷ terminal.Word word.From ∷ expression_then e (terminal.Word word.To ∷ expression_then f (terminal.Symbol symbol.Comma ∷ bounds_then bs rest))

abbrev pub bound_trees : Bounds → List (ExprTree × ExprTree)
bound_trees (LastBound s v e f) = (expression_tree e, expression_tree f) ∷ []
bound_trees (Bound s v e f bs) = (expression_tree e, expression_tree f) ∷ bound_trees bs

-- "slack", then bounds, then ";"
abbrev pub SpellsBounds : List Terminal → List (ExprTree × ExprTree) → Type 0
SpellsBounds ts trees = (bs : Bounds) × (ts ≡ terminal.Word word.Slack ∷ bounds_then bs (terminal.Symbol symbol.Semicolon ∷ [])) × (trees ≡ bound_trees bs)

-- "time" expr "to" expr ";"
abbrev pub SpellsTimes : List Terminal → ExprTree × ExprTree → Type 0
SpellsTimes ts t = (e : Expression) × (f : Expression) × (ts ≡ terminal.Word word.Time ∷ expression_then e (terminal.Word word.To ∷ expression_then f (terminal.Symbol symbol.Semicolon ∷ []))) × (t ≡ (expression_tree e, expression_tree f))
