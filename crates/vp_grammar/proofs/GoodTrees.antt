-- Terminals that may stand there are those of well formed trees, and of trees that are no larger.
use Rattle.std.proofs.Common.{◌≡◌, ◌+◌, ◌<◌, ◌≤◌, length, List, [], ◌∷◌, Bool, true, false, ◌&&◌, IsTrue, nat_le, Option, Some, None, unsigned_abs, refl, ap, sym, ◌∙◌, arith}
use Rattle.std.specs.List.{list_all}
use Rattle.std.proofs.lemmas.Bool.{and_from, le-leb}
use Rattle.vp_terms.specs.declared.expr.Var.{Var}
use Rattle.vp_terms.specs.declared.expr.Places.{Places}
use Rattle.vp_terms.specs.declared.expr.Expr.{Expr}
use Rattle.vp_terms.specs.declared.expr.Expr.TheVariants.{Num, Var as Variable, Add', Sub', Mul', Pow'}
use Rattle.vp_terms.specs.declared.formula.Cmp.{Cmp}
use Rattle.vp_terms.specs.declared.formula.Formula.{Formula}
use Rattle.vp_terms.specs.declared.formula.Formula.TheVariants.{True, Cmp as CmpOf, And', Or', Not'}
use Rattle.vp_terms.specs.declared.well_formed.Kinds.{Kinds}
use Rattle.vp_terms.specs.WellFormed.{is_allowed, is_good_expr, is_good_formula, comparisons}
use Rattle.vp_terms.specs.Tree.{ExprTree, Sum, Difference, Product, expr_tree, FormulaTree, Both, Either, formula_tree}
use Rattle.vp_grammar.specs.declared.terminal.Operator.{Operator}
use Rattle.vp_grammar.specs.declared.terminal.Operator.TheVariants as operator
use Rattle.vp_grammar.specs.declared.terminal.Symbol.TheVariants as symbol
use Rattle.vp_grammar.specs.declared.terminal.Terminal.{Terminal}
use Rattle.vp_grammar.specs.declared.terminal.Terminal.TheVariants as terminal
use Rattle.vp_grammar.specs.Grammar.{Expression, Summed, Start, Positive, Negative, Terms, NoTerms, Added, Subtracted, Term, Factored, Factors, NoFactors, Times, Factor, Alone, Raised, Base, Literal, Named, Timed, Bracketed, expression_then, start_then, terms_then, term_then, factors_then, factor_then, base_then, expression_tree, start_tree, terms_tree, term_tree, factors_tree, factor_tree, base_tree, known}
use Rattle.vp_grammar.specs.Formulas.{Disjunction, OrList, OrRest, NoOrs, Or, Conjunction, AndList, AndRest, NoAnds, And, Lit, Truth, Falsity, Group, NotGroup, Comparison, or_then, ors_then, and_then, ands_then, lit_then, or_formula, ors_formula, and_formula, ands_formula, lit_formula}
use Rattle.vp_grammar.specs.Strays.{is_known}
use Rattle.vp_grammar.proofs.Good.{may_stand, all_before, is_good_tree, is_good_condition, formula_size}

-- trees with boxes and trees without
pub good_expr_is : (k : Kinds) (p : Places) (e : Expr) → is_good_expr k p e ≡ is_good_tree k p (expr_tree e)
good_expr_is k p (Num r) = refl
good_expr_is k p (Variable v) = refl
good_expr_is k p (Add' l e r f) = let a = good_expr_is k p e in let b = good_expr_is k p f in cc
good_expr_is k p (Sub' l e r f) = let a = good_expr_is k p e in let b = good_expr_is k p f in cc
good_expr_is k p (Mul' l e r f) = let a = good_expr_is k p e in let b = good_expr_is k p f in cc
good_expr_is k p (Pow' l e n) = ap (λ b. b && nat_le n 12) (good_expr_is k p e)

pub good_formula_is : (k : Kinds) (p : Places) (f : Formula) → is_good_formula k p f ≡ is_good_condition k p (formula_tree f)
good_formula_is k p True = refl
good_formula_is k p (CmpOf c e f) = let a = good_expr_is k p e in let b = good_expr_is k p f in cc
good_formula_is k p (And' l f r g) = let a = good_formula_is k p f in let b = good_formula_is k p g in cc
good_formula_is k p (Or' l f r g) = let a = good_formula_is k p f in let b = good_formula_is k p g in cc
good_formula_is k p (Not' l f) = good_formula_is k p f

pub comparisons_is : (f : Formula) → comparisons f ≡ formula_size (formula_tree f)
comparisons_is True = refl
comparisons_is (CmpOf c e f) = refl
comparisons_is (And' l f r g) = let a = comparisons_is f in let b = comparisons_is g in cc
comparisons_is (Or' l f r g) = let a = comparisons_is f in let b = comparisons_is g in cc
comparisons_is (Not' l f) = comparisons_is f

-- two tests passed
pub both : (a b : Bool) → IsTrue (a && b) → IsTrue a × IsTrue b
both true b h = (refl, h)
both false b h = absurd (cc)

pub and_both : (a b : Bool) → IsTrue a → IsTrue b → IsTrue (a && b)
and_both a b h k = and_from a b h k

known_allowed : (k : Kinds) (p : Places) (v : Option Var) → IsTrue (is_known k p v) → IsTrue (is_allowed k p (known v))
known_allowed k p (Some v) h = h
known_allowed k p None h = absurd (cc)

-- A test that looks at what follows: `left` holds of what stands behind a name that is looked at
-- apart. In an expression no name is, and any other terminal that passes may stand there.
pub record Looks (k : Kinds) (p : Places) (left : List Terminal → Bool) (test : Terminal → List Terminal → Bool) : Type 0 where
  pub operator : (o : Operator) (ts : List Terminal) → left (terminal.Operator o ∷ ts) ≡ false
  pub close : (ts : List Terminal) → left (terminal.Symbol symbol.Close ∷ ts) ≡ false
  pub stands : (t : Terminal) (ts : List Terminal) → left ts ≡ false → IsTrue (test t ts) → IsTrue (may_stand k p t)

-- and so in a formula
pub record LooksOver (k : Kinds) (p : Places) (left : List Terminal → Bool) (test : Terminal → List Terminal → Bool) : Type 0 where
  pub looks : Looks k p left test
  pub compare : (c : Cmp) (ts : List Terminal) → left (terminal.Compare c ∷ ts) ≡ false
  pub square_close : (ts : List Terminal) → left (terminal.Symbol symbol.SquareClose ∷ ts) ≡ false

-- no name is looked at apart
pub looks_at_each : (k : Kinds) (p : Places) → Looks k p (λ ts. false) (λ t ts. may_stand k p t)
looks_at_each k p = record { operator = λ o ts. refl; close = λ ts. refl; stands = λ t ts e h. h }

pub looks_over_each : (k : Kinds) (p : Places) → LooksOver k p (λ ts. false) (λ t ts. may_stand k p t)
looks_over_each k p = record { looks = looks_at_each k p; compare = λ c ts. refl; square_close = λ ts. refl }

pub all_before_is : (g : Terminal → Bool) (ts : List Terminal) → all_before (λ t rest. g t) ts ≡ list_all g ts
all_before_is g [] = refl
all_before_is g (t ∷ ts) = ap (λ b. g t && b) (all_before_is g ts)

module _ {k : Kinds} {p : Places} {left : List Terminal → Bool} {test : Terminal → List Terminal → Bool} (g : Looks k p left test) where
  left_terms : (ts : Terms) (rest : List Terminal) → left rest ≡ false → left (terms_then ts rest) ≡ false
  left_terms NoTerms rest l = l
  left_terms (Added t ts) rest l = g.operator operator.Plus _
  left_terms (Subtracted t ts) rest l = g.operator operator.Minus _

  left_factors : (ts : Factors) (rest : List Terminal) → left rest ≡ false → left (factors_then ts rest) ≡ false
  left_factors NoFactors rest l = l
  left_factors (Times t ts) rest l = g.operator operator.Star _

  mutual
    pub expression_good : (e : Expression) (rest : List Terminal) → left rest ≡ false → IsTrue (all_before test (expression_then e rest)) → IsTrue (is_good_tree k p (expression_tree e)) × IsTrue (all_before test rest)
    expression_good (Summed t ts) rest l h =
        let a : IsTrue (is_good_tree k p (start_tree t)) × IsTrue (all_before test (terms_then ts rest)) = start_good t (terms_then ts rest) (left_terms ts rest l) h in
        terms_good (start_tree t) ts rest l a.0 a.1

    pub start_good : (e : Start) (rest : List Terminal) → left rest ≡ false → IsTrue (all_before test (start_then e rest)) → IsTrue (is_good_tree k p (start_tree e)) × IsTrue (all_before test rest)
    start_good (Positive t) rest l h = term_good t rest l h
    start_good (Negative t) rest l h = term_good t rest l (both _ _ h).1

    pub terms_good : (sum : ExprTree) (ts : Terms) (rest : List Terminal) → left rest ≡ false → IsTrue (is_good_tree k p sum) → IsTrue (all_before test (terms_then ts rest)) → IsTrue (is_good_tree k p (terms_tree sum ts)) × IsTrue (all_before test rest)
    terms_good sum NoTerms rest l s h = (s, h)
    terms_good sum (Added t ts) rest l s h =
        let a : IsTrue (is_good_tree k p (term_tree t)) × IsTrue (all_before test (terms_then ts rest)) = term_good t (terms_then ts rest) (left_terms ts rest l) (both _ _ h).1 in
        terms_good (Sum sum (term_tree t)) ts rest l (and_both _ _ s a.0) a.1
    terms_good sum (Subtracted t ts) rest l s h =
        let a : IsTrue (is_good_tree k p (term_tree t)) × IsTrue (all_before test (terms_then ts rest)) = term_good t (terms_then ts rest) (left_terms ts rest l) (both _ _ h).1 in
        terms_good (Difference sum (term_tree t)) ts rest l (and_both _ _ s a.0) a.1

    pub term_good : (e : Term) (rest : List Terminal) → left rest ≡ false → IsTrue (all_before test (term_then e rest)) → IsTrue (is_good_tree k p (term_tree e)) × IsTrue (all_before test rest)
    term_good (Factored f fs) rest l h =
        let a : IsTrue (is_good_tree k p (factor_tree f)) × IsTrue (all_before test (factors_then fs rest)) = factor_good f (factors_then fs rest) (left_factors fs rest l) h in
        factors_good (factor_tree f) fs rest l a.0 a.1

    pub factors_good : (product : ExprTree) (fs : Factors) (rest : List Terminal) → left rest ≡ false → IsTrue (is_good_tree k p product) → IsTrue (all_before test (factors_then fs rest)) → IsTrue (is_good_tree k p (factors_tree product fs)) × IsTrue (all_before test rest)
    factors_good product NoFactors rest l s h = (s, h)
    factors_good product (Times f fs) rest l s h =
        let a : IsTrue (is_good_tree k p (factor_tree f)) × IsTrue (all_before test (factors_then fs rest)) = factor_good f (factors_then fs rest) (left_factors fs rest l) (both _ _ h).1 in
        factors_good (Product product (factor_tree f)) fs rest l (and_both _ _ s a.0) a.1

    pub factor_good : (e : Factor) (rest : List Terminal) → left rest ≡ false → IsTrue (all_before test (factor_then e rest)) → IsTrue (is_good_tree k p (factor_tree e)) × IsTrue (all_before test rest)
    factor_good (Alone b) rest l h = base_good b rest l h
    factor_good (Raised b r i) rest l h =
        let a : IsTrue (is_good_tree k p (base_tree b)) × IsTrue (all_before test (terminal.Operator operator.Caret ∷ terminal.Number r true ∷ rest)) = base_good b (terminal.Operator operator.Caret ∷ terminal.Number r true ∷ rest) (g.operator operator.Caret _) h in
        (and_both _ _ a.0 (le-leb (unsigned_abs r.num) 12 i), (both _ _ (both _ _ a.1).1).1)

    pub base_good : (e : Base) (rest : List Terminal) → left rest ≡ false → IsTrue (all_before test (base_then e rest)) → IsTrue (is_good_tree k p (base_tree e)) × IsTrue (all_before test rest)
    base_good (Literal r w) rest l h = (refl, (both _ _ h).1)
    base_good (Named s v) rest l h = (known_allowed k p v (g.stands (terminal.Name s v) rest l (both _ _ h).0), (both _ _ h).1)
    base_good (Timed s v) rest l h = (known_allowed k p v (g.stands (terminal.Variable s v) rest l (both _ _ h).0), (both _ _ h).1)
    base_good (Bracketed e) rest l h =
        let a : IsTrue (is_good_tree k p (expression_tree e)) × IsTrue (all_before test (terminal.Symbol symbol.Close ∷ rest)) = expression_good e (terminal.Symbol symbol.Close ∷ rest) (g.close rest) (both _ _ h).1 in
        (a.0, (both _ _ a.1).1)

module _ {k : Kinds} {p : Places} {left : List Terminal → Bool} {test : Terminal → List Terminal → Bool} (g : LooksOver k p left test) where
  left_ors : (ts : OrRest) (rest : List Terminal) → left rest ≡ false → left (ors_then ts rest) ≡ false
  left_ors NoOrs rest l = l
  left_ors (Or t ts) rest l = g.looks.operator operator.Bar _

  left_ands : (ts : AndRest) (rest : List Terminal) → left rest ≡ false → left (ands_then ts rest) ≡ false
  left_ands NoAnds rest l = l
  left_ands (And t ts) rest l = g.looks.operator operator.Ampersand _

  mutual
    pub formula_good : (e : Disjunction) (rest : List Terminal) → left rest ≡ false → IsTrue (all_before test (or_then e rest)) → IsTrue (is_good_condition k p (or_formula e)) × IsTrue (all_before test rest)
    formula_good (OrList f fs) rest l h =
        let a : IsTrue (is_good_condition k p (and_formula f)) × IsTrue (all_before test (ors_then fs rest)) = conjunction_good f (ors_then fs rest) (left_ors fs rest l) h in
        ors_good (and_formula f) fs rest l a.0 a.1

    pub ors_good : (t : FormulaTree) (fs : OrRest) (rest : List Terminal) → left rest ≡ false → IsTrue (is_good_condition k p t) → IsTrue (all_before test (ors_then fs rest)) → IsTrue (is_good_condition k p (ors_formula t fs)) × IsTrue (all_before test rest)
    ors_good t NoOrs rest l s h = (s, h)
    ors_good t (Or f fs) rest l s h =
        let a : IsTrue (is_good_condition k p (and_formula f)) × IsTrue (all_before test (ors_then fs rest)) = conjunction_good f (ors_then fs rest) (left_ors fs rest l) (both _ _ h).1 in
        ors_good (Either t (and_formula f)) fs rest l (and_both _ _ s a.0) a.1

    pub conjunction_good : (e : Conjunction) (rest : List Terminal) → left rest ≡ false → IsTrue (all_before test (and_then e rest)) → IsTrue (is_good_condition k p (and_formula e)) × IsTrue (all_before test rest)
    conjunction_good (AndList f fs) rest l h =
        let a : IsTrue (is_good_condition k p (lit_formula f)) × IsTrue (all_before test (ands_then fs rest)) = lit_good f (ands_then fs rest) (left_ands fs rest l) h in
        ands_good (lit_formula f) fs rest l a.0 a.1

    pub ands_good : (t : FormulaTree) (fs : AndRest) (rest : List Terminal) → left rest ≡ false → IsTrue (is_good_condition k p t) → IsTrue (all_before test (ands_then fs rest)) → IsTrue (is_good_condition k p (ands_formula t fs)) × IsTrue (all_before test rest)
    ands_good t NoAnds rest l s h = (s, h)
    ands_good t (And f fs) rest l s h =
        let a : IsTrue (is_good_condition k p (lit_formula f)) × IsTrue (all_before test (ands_then fs rest)) = lit_good f (ands_then fs rest) (left_ands fs rest l) (both _ _ h).1 in
        ands_good (Both t (lit_formula f)) fs rest l (and_both _ _ s a.0) a.1

    pub lit_good : (e : Lit) (rest : List Terminal) → left rest ≡ false → IsTrue (all_before test (lit_then e rest)) → IsTrue (is_good_condition k p (lit_formula e)) × IsTrue (all_before test rest)
    lit_good Truth rest l h = (refl, (both _ _ h).1)
    lit_good Falsity rest l h = (refl, (both _ _ h).1)
    lit_good (Group f) rest l h =
        let a : IsTrue (is_good_condition k p (or_formula f)) × IsTrue (all_before test (terminal.Symbol symbol.SquareClose ∷ rest)) = formula_good f (terminal.Symbol symbol.SquareClose ∷ rest) (g.square_close rest) (both _ _ h).1 in
        (a.0, (both _ _ a.1).1)
    lit_good (NotGroup f) rest l h =
        let a : IsTrue (is_good_condition k p (or_formula f)) × IsTrue (all_before test (terminal.Symbol symbol.SquareClose ∷ rest)) = formula_good f (terminal.Symbol symbol.SquareClose ∷ rest) (g.square_close rest) (both _ _ (both _ _ h).1).1 in
        (a.0, (both _ _ a.1).1)
    lit_good (Comparison e c f) rest l h =
        let a : IsTrue (is_good_tree k p (expression_tree e)) × IsTrue (all_before test (terminal.Compare c ∷ expression_then f rest)) = expression_good g.looks e (terminal.Compare c ∷ expression_then f rest) (g.compare c _) h in
        let b : IsTrue (is_good_tree k p (expression_tree f)) × IsTrue (all_before test rest) = expression_good g.looks f rest l (both _ _ a.1).1 in
        (and_both _ _ a.0 b.0, b.1)

-- an expression whose terminals may all stand there
pub spelt_good : (k : Kinds) (p : Places) (e : Expression) (rest : List Terminal) → IsTrue (list_all (may_stand k p) (expression_then e rest)) → IsTrue (is_good_tree k p (expression_tree e)) × IsTrue (list_all (may_stand k p) rest)
spelt_good k p e rest h =
    let a : IsTrue (is_good_tree k p (expression_tree e)) × IsTrue (all_before (λ t ts. may_stand k p t) rest) = expression_good (looks_at_each k p) e rest refl (all_before_is (may_stand k p) (expression_then e rest) ∙ h) in
    (a.0, sym (all_before_is (may_stand k p) rest) ∙ a.1)

-- and so of a formula
pub formula_spelt_good : (k : Kinds) (p : Places) (e : Disjunction) (rest : List Terminal) → IsTrue (list_all (may_stand k p) (or_then e rest)) → IsTrue (is_good_condition k p (or_formula e)) × IsTrue (list_all (may_stand k p) rest)
formula_spelt_good k p e rest h =
    let a : IsTrue (is_good_condition k p (or_formula e)) × IsTrue (all_before (λ t ts. may_stand k p t) rest) = formula_good (looks_over_each k p) e rest refl (all_before_is (may_stand k p) (or_then e rest) ∙ h) in
    (a.0, sym (all_before_is (may_stand k p) rest) ∙ a.1)

-- forms spell at least one terminal
mutual
  pub expression_longer : (e : Expression) (rest : List Terminal) → length rest < length (expression_then e rest)
  expression_longer (Summed t ts) rest = omega (arith, start_longer t (terms_then ts rest), terms_longer ts rest)

  start_longer : (e : Start) (rest : List Terminal) → length rest < length (start_then e rest)
  start_longer (Positive t) rest = term_longer t rest
  start_longer (Negative t) rest = omega (arith, term_longer t rest)

  terms_longer : (ts : Terms) (rest : List Terminal) → length rest ≤ length (terms_then ts rest)
  terms_longer NoTerms rest = omega arith
  terms_longer (Added t ts) rest = omega (arith, term_longer t (terms_then ts rest), terms_longer ts rest)
  terms_longer (Subtracted t ts) rest = omega (arith, term_longer t (terms_then ts rest), terms_longer ts rest)

  term_longer : (e : Term) (rest : List Terminal) → length rest < length (term_then e rest)
  term_longer (Factored f fs) rest = omega (arith, factor_longer f (factors_then fs rest), factors_longer fs rest)

  factors_longer : (fs : Factors) (rest : List Terminal) → length rest ≤ length (factors_then fs rest)
  factors_longer NoFactors rest = omega arith
  factors_longer (Times f fs) rest = omega (arith, factor_longer f (factors_then fs rest), factors_longer fs rest)

  factor_longer : (e : Factor) (rest : List Terminal) → length rest < length (factor_then e rest)
  factor_longer (Alone b) rest = base_longer b rest
  factor_longer (Raised b r i) rest = omega (arith, base_longer b (terminal.Operator operator.Caret ∷ terminal.Number r true ∷ rest))

  base_longer : (e : Base) (rest : List Terminal) → length rest < length (base_then e rest)
  base_longer (Literal r w) rest = omega arith
  base_longer (Named s v) rest = omega arith
  base_longer (Timed s v) rest = omega arith
  base_longer (Bracketed e) rest = omega (arith, expression_longer e (terminal.Symbol symbol.Close ∷ rest))

-- a comparison or `true` takes a terminal at least
mutual
  pub formula_small : (e : Disjunction) (rest : List Terminal) → formula_size (or_formula e) + length rest ≤ length (or_then e rest)
  formula_small (OrList f fs) rest = omega (arith, conjunction_small f (ors_then fs rest), ors_small (and_formula f) fs rest)

  ors_small : (t : FormulaTree) (fs : OrRest) (rest : List Terminal) → formula_size (ors_formula t fs) + length rest ≤ formula_size t + length (ors_then fs rest)
  ors_small t NoOrs rest = omega arith
  ors_small t (Or f fs) rest = omega (arith, conjunction_small f (ors_then fs rest), ors_small (Either t (and_formula f)) fs rest)

  conjunction_small : (e : Conjunction) (rest : List Terminal) → formula_size (and_formula e) + length rest ≤ length (and_then e rest)
  conjunction_small (AndList f fs) rest = omega (arith, lit_small f (ands_then fs rest), ands_small (lit_formula f) fs rest)

  ands_small : (t : FormulaTree) (fs : AndRest) (rest : List Terminal) → formula_size (ands_formula t fs) + length rest ≤ formula_size t + length (ands_then fs rest)
  ands_small t NoAnds rest = omega arith
  ands_small t (And f fs) rest = omega (arith, lit_small f (ands_then fs rest), ands_small (Both t (lit_formula f)) fs rest)

  lit_small : (e : Lit) (rest : List Terminal) → formula_size (lit_formula e) + length rest ≤ length (lit_then e rest)
  lit_small Truth rest = omega arith
  lit_small Falsity rest = omega arith
  lit_small (Group f) rest = omega (arith, formula_small f (terminal.Symbol symbol.SquareClose ∷ rest))
  lit_small (NotGroup f) rest = omega (arith, formula_small f (terminal.Symbol symbol.SquareClose ∷ rest))
  lit_small (Comparison a c b) rest = omega (arith, expression_longer a (terminal.Compare c ∷ expression_then b rest), expression_longer b rest)
