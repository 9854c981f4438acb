-- The grammar of expressions: a type for each rule, and a constructor for each of its forms. What a
-- form spells is said by a function that takes the terminals that follow.
use Rattle.std.specs.Prelude.{ℕ, ◌≤◌, Bool, true, List, ◌∷◌, Option, Some, None, pos, unsigned_abs}
use Rattle.vp_terms.specs.declared.ratio.Ratio.{Ratio}
use Rattle.vp_terms.specs.declared.expr.Var.{Var}
use Rattle.vp_terms.specs.declared.expr.Var.TheVariants.{Tau}
use Rattle.vp_terms.specs.Tree.{ExprTree, Constant, Place, Sum, Difference, Product, Power}
use Rattle.vp_terms.proofs.Numbers.{nought_lowest}
use Rattle.vp_grammar.specs.declared.terminal.Span.{Span}
use Rattle.vp_grammar.specs.declared.terminal.Operator.{Operator}
use Rattle.vp_grammar.specs.declared.terminal.Operator.TheVariants.{Plus, Minus, Star, Caret, Ampersand, Bar}
use Rattle.vp_grammar.specs.declared.terminal.Symbol.TheVariants as symbol
use Rattle.vp_grammar.specs.declared.terminal.Terminal.{Terminal}
use Rattle.vp_grammar.specs.declared.terminal.Terminal.TheVariants as terminal

mutual
  -- start { ( "+" | "-" ) term }, where start = [ "-" ] term
  pub data Expression : Type 0 where
    Summed : Start → Terms → Expression

  pub data Start : Type 0 where
    Positive : Term → Start
    Negative : Term → Start

  pub data Terms : Type 0 where
    NoTerms : Terms
    Added : Term → Terms → Terms
    Subtracted : Term → Terms → Terms

  -- factor { "*" factor }
  pub data Term : Type 0 where
    Factored : Factor → Factors → Term

  pub data Factors : Type 0 where
    NoFactors : Factors
    Times : Factor → Factors → Factors

  -- base [ "^" whole ], where the whole is at most 12
  pub data Factor : Type 0 where
    Alone : Base → Factor
    Raised : Base → (r : Ratio) → unsigned_abs r.num ≤ 12 → Factor

  -- a number, a name, a next name or `tau`, or an expression in brackets
  pub data Base : Type 0 where
    Literal : Ratio → Bool → Base
    Named : Span → Option Var → Base
    Timed : Span → Option Var → Base
    Bracketed : Expression → Base

-- the terminals of the form, and then those that follow
abbrev mutual
  pub expression_then : Expression → List Terminal → List Terminal
  expression_then (Summed t ts) rest = start_then t (terms_then ts rest)

  pub start_then : Start → List Terminal → List Terminal
  start_then (Positive t) rest = term_then t rest
  start_then (Negative t) rest = terminal.Operator Minus ∷ term_then t rest

  pub terms_then : Terms → List Terminal → List Terminal
  terms_then NoTerms rest = rest
  terms_then (Added t ts) rest = terminal.Operator Plus ∷ term_then t (terms_then ts rest)
  terms_then (Subtracted t ts) rest = terminal.Operator Minus ∷ term_then t (terms_then ts rest)

  pub term_then : Term → List Terminal → List Terminal
  term_then (Factored f fs) rest = factor_then f (factors_then fs rest)

  pub factors_then : Factors → List Terminal → List Terminal
  factors_then NoFactors rest = rest
  factors_then (Times f fs) rest = terminal.Operator Star ∷ factor_then f (factors_then fs rest)

  pub factor_then : Factor → List Terminal → List Terminal
  factor_then (Alone b) rest = base_then b rest
  factor_then (Raised b r h) rest = base_then b (terminal.Operator Caret ∷ terminal.Number r true ∷ rest)

  pub base_then : Base → List Terminal → List Terminal
  base_then (Literal r w) rest = terminal.Number r w ∷ rest
  base_then (Named s v) rest = terminal.Name s v ∷ rest
  base_then (Timed s v) rest = terminal.Variable s v ∷ rest
  base_then (Bracketed e) rest = terminal.Symbol symbol.Open ∷ expression_then e (terminal.Symbol symbol.Close ∷ rest)

-- the number 0
abbrev pub nought : Ratio
nought = record { num = pos 0; den = pos 1; lowest = nought_lowest }

-- the variable of a name; a name that is not declared stands for `tau` until it is refused
abbrev pub known : Option Var → Var
known (Some v) = v
known None = Tau

-- the tree of the form; sums, differences and products nest to the left, and a leading `-` makes the
-- difference of 0 and the first term
abbrev mutual
  pub expression_tree : Expression → ExprTree
  expression_tree (Summed t ts) = terms_tree (start_tree t) ts

  pub start_tree : Start → ExprTree
  start_tree (Positive t) = term_tree t
  start_tree (Negative t) = Difference (Constant nought) (term_tree t)

  pub terms_tree : ExprTree → Terms → ExprTree
  terms_tree sum NoTerms = sum
  terms_tree sum (Added t ts) = terms_tree (Sum sum (term_tree t)) ts
  terms_tree sum (Subtracted t ts) = terms_tree (Difference sum (term_tree t)) ts

  pub term_tree : Term → ExprTree
  term_tree (Factored f fs) = factors_tree (factor_tree f) fs

  pub factors_tree : ExprTree → Factors → ExprTree
  factors_tree product NoFactors = product
  factors_tree product (Times f fs) = factors_tree (Product product (factor_tree f)) fs

  pub factor_tree : Factor → ExprTree
  factor_tree (Alone b) = base_tree b
  factor_tree (Raised b r h) = Power (base_tree b) (unsigned_abs r.num)

  pub base_tree : Base → ExprTree
  base_tree (Literal r w) = Constant r
  base_tree (Named s v) = Place (known v)
  base_tree (Timed s v) = Place (known v)
  base_tree (Bracketed e) = expression_tree e

-- how tightly an operator binds
abbrev pub binding : Operator → ℕ
binding Caret = 5
binding Star = 4
binding Plus = 3
binding Minus = 3
binding Ampersand = 2
binding Bar = 1

-- how tightly the operator in front binds, and 0 where there is none
abbrev pub precedence : List Terminal → ℕ
precedence (terminal.Operator o ∷ ts) = binding o
precedence ts = 0
