-- What a reader of each rule of formulas answers.
use Rattle.std.specs.Prelude.{◌≡◌, ◌<◌, List, [], ◌∷◌}
use Rattle.vp_terms.specs.declared.formula.Cmp.{Cmp}
use Rattle.vp_terms.specs.Tree.{FormulaTree, Compares}
use Rattle.vp_grammar.specs.declared.terminal.Symbol.TheVariants as symbol
use Rattle.vp_lex.specs.declared.word.ReservedWord.{ReservedWord}
use Rattle.vp_lex.specs.declared.word.ReservedWord.TheVariants as word
use Rattle.vp_grammar.specs.declared.terminal.Terminal.{Terminal}
use Rattle.vp_grammar.specs.declared.terminal.Terminal.TheVariants as terminal
use Rattle.vp_grammar.specs.declared.leading.Leading.{Leading}
use Rattle.vp_grammar.specs.declared.leading.Leading.TheVariants.{True, False, Group as GroupIn, NotGroup as NotGroupIn, Other}
use Rattle.vp_grammar.specs.Grammar.{Expression, expression_then, expression_tree, precedence}
use Rattle.vp_grammar.specs.Formulas.{Disjunction, Conjunction, Lit, Truth, Falsity, Group, NotGroup, Comparison, or_then, and_then, lit_then, or_formula, and_formula, lit_formula}

-- the terminals are those of a form and then the rest, at which no operator goes on
abbrev pub IsDisjunction : List Terminal → FormulaTree → List Terminal → Type 0
IsDisjunction ts t rest = (e : Disjunction) × (ts ≡ or_then e rest) × (t ≡ or_formula e) × (precedence rest < 1)

abbrev pub IsConjunction : List Terminal → FormulaTree → List Terminal → Type 0
IsConjunction ts t rest = (e : Conjunction) × (ts ≡ and_then e rest) × (t ≡ and_formula e) × (precedence rest < 2)

abbrev pub IsLit : List Terminal → FormulaTree → List Terminal → Type 0
IsLit ts t rest = (e : Lit) × (ts ≡ lit_then e rest) × (t ≡ lit_formula e) × (precedence rest < 3)

-- A comparison ends where its expression does.
abbrev pub Follows : Lit → List Terminal → Type 0
Follows (Comparison a c b) rest = precedence rest < 3
Follows Truth rest = Unit {0}
Follows Falsity rest = Unit {0}
Follows (Group f) rest = Unit {0}
Follows (NotGroup f) rest = Unit {0}

abbrev pub IsBareLit : List Terminal → FormulaTree → List Terminal → Type 0
IsBareLit ts t rest = (e : Lit) × (ts ≡ lit_then e rest) × (t ≡ lit_formula e) × Follows e rest

-- a formula and its ]
abbrev pub IsGroup : List Terminal → FormulaTree → List Terminal → Type 0
IsGroup ts t rest = (e : Disjunction) × (ts ≡ or_then e (terminal.Symbol symbol.SquareClose ∷ rest)) × (t ≡ or_formula e)

abbrev pub IsComparison : List Terminal → FormulaTree → List Terminal → Type 0
IsComparison ts t rest = (a : Expression) × (c : Cmp) × (b : Expression) × (ts ≡ expression_then a (terminal.Compare c ∷ expression_then b rest)) × (t ≡ Compares c (expression_tree a) (expression_tree b)) × (precedence rest < 3)

pub record LeadsNothing (terminals : List Terminal) : Type 0 where
  pub truth : (rest : List Terminal) → terminals ≡ terminal.Word word.True ∷ rest → ⊥
  pub falsity : (rest : List Terminal) → terminals ≡ terminal.Word word.False ∷ rest → ⊥
  pub group : (rest : List Terminal) → terminals ≡ terminal.Symbol symbol.SquareOpen ∷ rest → ⊥
  pub not_group : (rest : List Terminal) → terminals ≡ terminal.Symbol symbol.Bang ∷ terminal.Symbol symbol.SquareOpen ∷ rest → ⊥

abbrev pub IsLeading : List Terminal → Leading → Type 0
IsLeading terminals (True rest) = terminals ≡ terminal.Word word.True ∷ rest.now
IsLeading terminals (False rest) = terminals ≡ terminal.Word word.False ∷ rest.now
IsLeading terminals (GroupIn rest) = terminals ≡ terminal.Symbol symbol.SquareOpen ∷ rest.now
IsLeading terminals (NotGroupIn rest) = terminals ≡ terminal.Symbol symbol.Bang ∷ terminal.Symbol symbol.SquareOpen ∷ rest.now
IsLeading terminals Other = LeadsNothing terminals

-- All of the terminals are those of a formula with this tree.
abbrev pub SpellsFormula : List Terminal → FormulaTree → Type 0
SpellsFormula ts t = (e : Disjunction) × (ts ≡ or_then e []) × (t ≡ or_formula e)

-- All of the terminals are a word, a formula with this tree, and `;`.
abbrev pub SpellsFormulaPiece : ReservedWord → List Terminal → FormulaTree → Type 0
SpellsFormulaPiece w ts t = (e : Disjunction) × (ts ≡ terminal.Word w ∷ or_then e (terminal.Symbol symbol.Semicolon ∷ [])) × (t ≡ or_formula e)
