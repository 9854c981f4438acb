-- The grammar of formulas.
use Rattle.std.specs.Prelude.{List, ◌∷◌}
use Rattle.vp_terms.specs.declared.formula.Cmp.{Cmp}
use Rattle.vp_terms.specs.Tree.{FormulaTree, Always, Compares, Both, Either, Denial}
use Rattle.vp_grammar.specs.declared.terminal.Operator.TheVariants as operator
use Rattle.vp_grammar.specs.declared.terminal.Symbol.TheVariants as symbol
use Rattle.vp_lex.specs.declared.word.ReservedWord.TheVariants as word
use Rattle.vp_grammar.specs.declared.terminal.Terminal.{Terminal}
use Rattle.vp_grammar.specs.declared.terminal.Terminal.TheVariants as terminal
use Rattle.vp_grammar.specs.Grammar.{Expression, expression_then, expression_tree}

mutual
  -- conjunction { "|" conjunction }
  pub data Disjunction : Type 0 where
    OrList : Conjunction → OrRest → Disjunction

  pub data OrRest : Type 0 where
    NoOrs : OrRest
    Or : Conjunction → OrRest → OrRest

  -- lit { "&" lit }
  pub data Conjunction : Type 0 where
    AndList : Lit → AndRest → Conjunction

  pub data AndRest : Type 0 where
    NoAnds : AndRest
    And : Lit → AndRest → AndRest

  -- "true" | "false" | "[" formula "]" | "!" "[" formula "]" | expr cmp expr
  pub data Lit : Type 0 where
    Truth : Lit
    Falsity : Lit
    Group : Disjunction → Lit
    NotGroup : Disjunction → Lit
    Comparison : Expression → Cmp → Expression → Lit

abbrev mutual
  pub or_then : Disjunction → List Terminal → List Terminal
  or_then (OrList t ts) rest = and_then t (ors_then ts rest)

  pub ors_then : OrRest → List Terminal → List Terminal
  ors_then NoOrs rest = rest
  ors_then (Or t ts) rest = terminal.Operator operator.Bar ∷ and_then t (ors_then ts rest)

  pub and_then : Conjunction → List Terminal → List Terminal
  and_then (AndList t ts) rest = lit_then t (ands_then ts rest)

  pub ands_then : AndRest → List Terminal → List Terminal
  ands_then NoAnds rest = rest
  ands_then (And t ts) rest = terminal.Operator operator.Ampersand ∷ lit_then t (ands_then ts rest)

  pub lit_then : Lit → List Terminal → List Terminal
  lit_then Truth rest = terminal.Word word.True ∷ rest
  lit_then Falsity rest = terminal.Word word.False ∷ rest
  lit_then (Group f) rest = terminal.Symbol symbol.SquareOpen ∷ or_then f (terminal.Symbol symbol.SquareClose ∷ rest)
  lit_then (NotGroup f) rest = terminal.Symbol symbol.Bang ∷ terminal.Symbol symbol.SquareOpen ∷ or_then f (terminal.Symbol symbol.SquareClose ∷ rest)
  lit_then (Comparison a c b) rest = expression_then a (terminal.Compare c ∷ expression_then b rest)

abbrev mutual
  pub or_formula : Disjunction → FormulaTree
  or_formula (OrList t ts) = ors_formula (and_formula t) ts

  pub ors_formula : FormulaTree → OrRest → FormulaTree
  ors_formula f NoOrs = f
  ors_formula f (Or t ts) = ors_formula (Either f (and_formula t)) ts

  pub and_formula : Conjunction → FormulaTree
  and_formula (AndList t ts) = ands_formula (lit_formula t) ts

  pub ands_formula : FormulaTree → AndRest → FormulaTree
  ands_formula f NoAnds = f
  ands_formula f (And t ts) = ands_formula (Both f (lit_formula t)) ts

  pub lit_formula : Lit → FormulaTree
  lit_formula Truth = Always
  lit_formula Falsity = Denial Always
  lit_formula (Group f) = or_formula f
  lit_formula (NotGroup f) = Denial (or_formula f)
  lit_formula (Comparison a c b) = Compares c (expression_tree a) (expression_tree b)
