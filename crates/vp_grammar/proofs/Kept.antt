-- Where the tree of declared terminals is well formed, none of their variables strays.
use Rattle.std.proofs.Common.{ℕ, ◌≡◌, Bool, true, false, ◌&&◌, IsTrue, List, [], ◌∷◌, Option, None, Some, unsigned_abs, nat_le, if◌then◌else◌, refl, ap, sym, ◌∙◌}
use Rattle.std.specs.List.{list_all}
use Rattle.vp_terms.specs.declared.expr.Places.{Places}
use Rattle.vp_terms.specs.declared.expr.Expr.{Expr}
use Rattle.vp_terms.specs.declared.formula.Formula.{Formula}
use Rattle.vp_terms.specs.declared.well_formed.Kinds.{Kinds}
use Rattle.vp_terms.specs.WellFormed.{is_allowed, is_good_expr, is_good_formula}
use Rattle.vp_terms.specs.Tree.{ExprTree, Sum, Difference, Product, expr_tree, FormulaTree, Both, Either, formula_tree}
use Rattle.vp_grammar.specs.declared.strays.Rule.TheVariants.{Plain}
use Rattle.vp_grammar.specs.declared.terminal.Span.{Span}
use Rattle.vp_grammar.specs.declared.terminal.Operator.TheVariants as operator
use Rattle.vp_grammar.specs.declared.terminal.Symbol.TheVariants as symbol
use Rattle.vp_lex.specs.declared.word.ReservedWord.{ReservedWord}
use Rattle.vp_grammar.specs.declared.terminal.Terminal.{Terminal}
use Rattle.vp_grammar.specs.declared.terminal.Terminal.TheVariants as terminal
use Rattle.vp_grammar.specs.Grammar.{Expression, Summed, Start, Positive, Negative, Terms, NoTerms, Added, Subtracted, Term, Factored, Factors, NoFactors, Times, Factor, Alone, Raised, Base, Literal, Named, Timed, Bracketed, expression_then, start_then, terms_then, term_then, factors_then, factor_then, base_then, expression_tree, start_tree, terms_tree, term_tree, factors_tree, factor_tree, base_tree}
use Rattle.vp_grammar.specs.Formulas.{Disjunction, OrList, OrRest, NoOrs, Or, Conjunction, AndList, AndRest, NoAnds, And, Lit, Truth, Falsity, Group, NotGroup, Comparison, or_then, ors_then, and_then, ands_then, lit_then, or_formula, ors_formula, and_formula, ands_formula, lit_formula}
use Rattle.vp_grammar.specs.FormulaReads.{SpellsFormula, SpellsFormulaPiece}
use Rattle.vp_grammar.specs.Reads.{Spells}
use Rattle.vp_grammar.specs.Strays.{first_stray, is_declared, is_known}
use Rattle.vp_grammar.proofs.Good.{is_good_condition, is_good_tree, may_stand}
use Rattle.vp_grammar.proofs.GoodTrees.{and_both, both, good_expr_is, good_formula_is}

abbrev Declared : List Terminal → Type 0
Declared ts = IsTrue (list_all is_declared ts)

abbrev Stand : Kinds → Places → List Terminal → Type 0
Stand k p ts = IsTrue (list_all (may_stand k p) ts)

-- the tree is well formed, and these terminals stand
abbrev Good : Kinds → Places → ExprTree → Type 0
Good k p t = IsTrue (is_good_tree k p t)

abbrev GoodOver : Kinds → Places → FormulaTree → Type 0
GoodOver k p f = IsTrue (is_good_condition k p f)

module _ (k : Kinds) (p : Places) where
  mutual
    pub expression_kept : (e : Expression) (rest : List Terminal) → Declared (expression_then e rest) → Declared rest × (Good k p (expression_tree e) → Stand k p rest → Stand k p (expression_then e rest))
    expression_kept (Summed t ts) rest d =
        let a : Declared (terms_then ts rest) × (Good k p (start_tree t) → Stand k p (terms_then ts rest) → Stand k p (start_then t (terms_then ts rest))) = start_kept t (terms_then ts rest) d in
        let b : Declared rest × (Good k p (terms_tree (start_tree t) ts) → Stand k p rest → Good k p (start_tree t) × Stand k p (terms_then ts rest)) = terms_kept (start_tree t) ts rest a.0 in
        (b.0, λ g s. let c : Good k p (start_tree t) × Stand k p (terms_then ts rest) = b.1 g s in a.1 c.0 c.1)

    start_kept : (e : Start) (rest : List Terminal) → Declared (start_then e rest) → Declared rest × (Good k p (start_tree e) → Stand k p rest → Stand k p (start_then e rest))
    start_kept (Positive t) rest d = term_kept t rest d
    start_kept (Negative t) rest d = term_kept t rest d

    terms_kept : (sum : ExprTree) (ts : Terms) (rest : List Terminal) → Declared (terms_then ts rest) → Declared rest × (Good k p (terms_tree sum ts) → Stand k p rest → Good k p sum × Stand k p (terms_then ts rest))
    terms_kept sum NoTerms rest d = (d, λ g s. (g, s))
    terms_kept sum (Added t ts) rest d =
        let a : Declared (terms_then ts rest) × (Good k p (term_tree t) → Stand k p (terms_then ts rest) → Stand k p (term_then t (terms_then ts rest))) = term_kept t (terms_then ts rest) d in
        let b : Declared rest × (Good k p (terms_tree (Sum sum (term_tree t)) ts) → Stand k p rest → Good k p (Sum sum (term_tree t)) × Stand k p (terms_then ts rest)) = terms_kept (Sum sum (term_tree t)) ts rest a.0 in (
          b.0,
          λ g s.
              let c : Good k p (Sum sum (term_tree t)) × Stand k p (terms_then ts rest) = b.1 g s in
              let h : Good k p sum × Good k p (term_tree t) = both (is_good_tree k p sum) (is_good_tree k p (term_tree t)) c.0 in
              (h.0, a.1 h.1 c.1),
        )
    terms_kept sum (Subtracted t ts) rest d =
        let a : Declared (terms_then ts rest) × (Good k p (term_tree t) → Stand k p (terms_then ts rest) → Stand k p (term_then t (terms_then ts rest))) = term_kept t (terms_then ts rest) d in
        let b : Declared rest × (Good k p (terms_tree (Difference sum (term_tree t)) ts) → Stand k p rest → Good k p (Difference sum (term_tree t)) × Stand k p (terms_then ts rest)) = terms_kept (Difference sum (term_tree t)) ts rest a.0 in (
          b.0,
          λ g s.
              let c : Good k p (Difference sum (term_tree t)) × Stand k p (terms_then ts rest) = b.1 g s in
              let h : Good k p sum × Good k p (term_tree t) = both (is_good_tree k p sum) (is_good_tree k p (term_tree t)) c.0 in
              (h.0, a.1 h.1 c.1),
        )

    term_kept : (e : Term) (rest : List Terminal) → Declared (term_then e rest) → Declared rest × (Good k p (term_tree e) → Stand k p rest → Stand k p (term_then e rest))
    term_kept (Factored f fs) rest d =
        let a : Declared (factors_then fs rest) × (Good k p (factor_tree f) → Stand k p (factors_then fs rest) → Stand k p (factor_then f (factors_then fs rest))) = factor_kept f (factors_then fs rest) d in
        let b : Declared rest × (Good k p (factors_tree (factor_tree f) fs) → Stand k p rest → Good k p (factor_tree f) × Stand k p (factors_then fs rest)) = factors_kept (factor_tree f) fs rest a.0 in
        (b.0, λ g s. let c : Good k p (factor_tree f) × Stand k p (factors_then fs rest) = b.1 g s in a.1 c.0 c.1)

    factors_kept : (product : ExprTree) (fs : Factors) (rest : List Terminal) → Declared (factors_then fs rest) → Declared rest × (Good k p (factors_tree product fs) → Stand k p rest → Good k p product × Stand k p (factors_then fs rest))
    factors_kept product NoFactors rest d = (d, λ g s. (g, s))
    factors_kept product (Times f fs) rest d =
        let a : Declared (factors_then fs rest) × (Good k p (factor_tree f) → Stand k p (factors_then fs rest) → Stand k p (factor_then f (factors_then fs rest))) = factor_kept f (factors_then fs rest) d in
        let b : Declared rest × (Good k p (factors_tree (Product product (factor_tree f)) fs) → Stand k p rest → Good k p (Product product (factor_tree f)) × Stand k p (factors_then fs rest)) = factors_kept (Product product (factor_tree f)) fs rest a.0 in (
          b.0,
          λ g s.
              let c : Good k p (Product product (factor_tree f)) × Stand k p (factors_then fs rest) = b.1 g s in
              let h : Good k p product × Good k p (factor_tree f) = both (is_good_tree k p product) (is_good_tree k p (factor_tree f)) c.0 in
              (h.0, a.1 h.1 c.1),
        )

    factor_kept : (e : Factor) (rest : List Terminal) → Declared (factor_then e rest) → Declared rest × (Good k p (factor_tree e) → Stand k p rest → Stand k p (factor_then e rest))
    factor_kept (Alone b) rest d = base_kept b rest d
    factor_kept (Raised b r i) rest d =
        let tail : List Terminal = terminal.Operator operator.Caret ∷ terminal.Number r true ∷ rest in
        let a : Declared tail × (Good k p (base_tree b) → Stand k p tail → Stand k p (base_then b tail)) = base_kept b tail d in
        (a.0, λ g s. a.1 (both (is_good_tree k p (base_tree b)) (nat_le (unsigned_abs r.num) 12) g).0 s)

    base_kept : (e : Base) (rest : List Terminal) → Declared (base_then e rest) → Declared rest × (Good k p (base_tree e) → Stand k p rest → Stand k p (base_then e rest))
    base_kept (Literal r w) rest d = (d, λ g s. s)
    base_kept (Named s None) rest d = absurd (cc)
    base_kept (Named s (Some v)) rest d = (d, λ g t. and_both (is_allowed k p v) (list_all (may_stand k p) rest) g t)
    base_kept (Timed s None) rest d = absurd (cc)
    base_kept (Timed s (Some v)) rest d = (d, λ g t. and_both (is_allowed k p v) (list_all (may_stand k p) rest) g t)
    base_kept (Bracketed e) rest d = expression_kept e (terminal.Symbol symbol.Close ∷ rest) d

  mutual
    pub formula_kept : (e : Disjunction) (rest : List Terminal) → Declared (or_then e rest) → Declared rest × (GoodOver k p (or_formula e) → Stand k p rest → Stand k p (or_then e rest))
    formula_kept (OrList f fs) rest d =
        let a : Declared (ors_then fs rest) × (GoodOver k p (and_formula f) → Stand k p (ors_then fs rest) → Stand k p (and_then f (ors_then fs rest))) = conjunction_kept f (ors_then fs rest) d in
        let b : Declared rest × (GoodOver k p (ors_formula (and_formula f) fs) → Stand k p rest → GoodOver k p (and_formula f) × Stand k p (ors_then fs rest)) = ors_kept (and_formula f) fs rest a.0 in
        (b.0, λ g s. let c : GoodOver k p (and_formula f) × Stand k p (ors_then fs rest) = b.1 g s in a.1 c.0 c.1)

    ors_kept : (t : FormulaTree) (fs : OrRest) (rest : List Terminal) → Declared (ors_then fs rest) → Declared rest × (GoodOver k p (ors_formula t fs) → Stand k p rest → GoodOver k p t × Stand k p (ors_then fs rest))
    ors_kept t NoOrs rest d = (d, λ g s. (g, s))
    ors_kept t (Or f fs) rest d =
        let a : Declared (ors_then fs rest) × (GoodOver k p (and_formula f) → Stand k p (ors_then fs rest) → Stand k p (and_then f (ors_then fs rest))) = conjunction_kept f (ors_then fs rest) d in
        let b : Declared rest × (GoodOver k p (ors_formula (Either t (and_formula f)) fs) → Stand k p rest → GoodOver k p (Either t (and_formula f)) × Stand k p (ors_then fs rest)) = ors_kept (Either t (and_formula f)) fs rest a.0 in (
          b.0,
          λ g s.
              let c : GoodOver k p (Either t (and_formula f)) × Stand k p (ors_then fs rest) = b.1 g s in
              let h : GoodOver k p t × GoodOver k p (and_formula f) = both (is_good_condition k p t) (is_good_condition k p (and_formula f)) c.0 in
              (h.0, a.1 h.1 c.1),
        )

    conjunction_kept : (e : Conjunction) (rest : List Terminal) → Declared (and_then e rest) → Declared rest × (GoodOver k p (and_formula e) → Stand k p rest → Stand k p (and_then e rest))
    conjunction_kept (AndList f fs) rest d =
        let a : Declared (ands_then fs rest) × (GoodOver k p (lit_formula f) → Stand k p (ands_then fs rest) → Stand k p (lit_then f (ands_then fs rest))) = lit_kept f (ands_then fs rest) d in
        let b : Declared rest × (GoodOver k p (ands_formula (lit_formula f) fs) → Stand k p rest → GoodOver k p (lit_formula f) × Stand k p (ands_then fs rest)) = ands_kept (lit_formula f) fs rest a.0 in
        (b.0, λ g s. let c : GoodOver k p (lit_formula f) × Stand k p (ands_then fs rest) = b.1 g s in a.1 c.0 c.1)

    ands_kept : (t : FormulaTree) (fs : AndRest) (rest : List Terminal) → Declared (ands_then fs rest) → Declared rest × (GoodOver k p (ands_formula t fs) → Stand k p rest → GoodOver k p t × Stand k p (ands_then fs rest))
    ands_kept t NoAnds rest d = (d, λ g s. (g, s))
    ands_kept t (And f fs) rest d =
        let a : Declared (ands_then fs rest) × (GoodOver k p (lit_formula f) → Stand k p (ands_then fs rest) → Stand k p (lit_then f (ands_then fs rest))) = lit_kept f (ands_then fs rest) d in
        let b : Declared rest × (GoodOver k p (ands_formula (Both t (lit_formula f)) fs) → Stand k p rest → GoodOver k p (Both t (lit_formula f)) × Stand k p (ands_then fs rest)) = ands_kept (Both t (lit_formula f)) fs rest a.0 in (
          b.0,
          λ g s.
              let c : GoodOver k p (Both t (lit_formula f)) × Stand k p (ands_then fs rest) = b.1 g s in
              let h : GoodOver k p t × GoodOver k p (lit_formula f) = both (is_good_condition k p t) (is_good_condition k p (lit_formula f)) c.0 in
              (h.0, a.1 h.1 c.1),
        )

    lit_kept : (e : Lit) (rest : List Terminal) → Declared (lit_then e rest) → Declared rest × (GoodOver k p (lit_formula e) → Stand k p rest → Stand k p (lit_then e rest))
    lit_kept Truth rest d = (d, λ g s. s)
    lit_kept Falsity rest d = (d, λ g s. s)
    lit_kept (Group f) rest d = formula_kept f (terminal.Symbol symbol.SquareClose ∷ rest) d
    lit_kept (NotGroup f) rest d = formula_kept f (terminal.Symbol symbol.SquareClose ∷ rest) d
    lit_kept (Comparison e c f) rest d =
        let tail : List Terminal = terminal.Compare c ∷ expression_then f rest in
        let a : Declared tail × (Good k p (expression_tree e) → Stand k p tail → Stand k p (expression_then e tail)) = expression_kept e tail d in
        let b : Declared rest × (Good k p (expression_tree f) → Stand k p rest → Stand k p (expression_then f rest)) = expression_kept f rest a.0 in (
          b.0,
          λ g s.
              let h : Good k p (expression_tree e) × Good k p (expression_tree f) = both (is_good_tree k p (expression_tree e)) (is_good_tree k p (expression_tree f)) g in
              a.1 h.0 (b.1 h.1 s),
        )

  -- terminals that may all stand there: none strays
  unguard : (b : Bool) (o : Option Span) (s : Span) (c : Bool) → IsTrue (b && c) → (IsTrue c → o ≡ None) → (if b then o else Some s) ≡ None
  unguard true o s c h f = f h
  unguard false o s c h f = absurd (cc)

  pub none_strays : (i : ℕ) (ts : List Terminal) → Stand k p ts → first_stray (Plain k) p i ts ≡ None
  none_strays i [] h = refl
  none_strays i (terminal.Name s v ∷ ts) h = unguard (is_known k p v) (first_stray (Plain k) p i ts) s (list_all (may_stand k p) ts) h (λ g. none_strays i ts g)
  none_strays i (terminal.Variable s v ∷ ts) h = unguard (is_known k p v) (first_stray (Plain k) p i ts) s (list_all (may_stand k p) ts) h (λ g. none_strays i ts g)
  none_strays i (terminal.Word w ∷ ts) h = none_strays i ts h
  none_strays i (terminal.Symbol s ∷ ts) h = none_strays i ts h
  none_strays i (terminal.Operator o ∷ ts) h = none_strays i ts h
  none_strays i (terminal.Compare c ∷ ts) h = none_strays i ts h
  none_strays i (terminal.Number r w ∷ ts) h = none_strays i ts h

  -- a whole expression, a whole formula and a formula's piece
  pub kept_expression : (e : Expr) (ts : List Terminal) → Spells ts (expr_tree e) → IsTrue (list_all is_declared ts) → IsTrue (is_good_expr k p e) → first_stray (Plain k) p 0 ts ≡ None
  kept_expression e ts s d g =
      let these : Declared (expression_then s.0 []) = ap (list_all is_declared) (sym s.1) ∙ d in
      let good : Good k p (expression_tree s.0) = ap (is_good_tree k p) (sym s.2) ∙ sym (good_expr_is k p e) ∙ g in
      none_strays 0 ts (ap (list_all (may_stand k p)) s.1 ∙ (expression_kept s.0 [] these).1 good refl)

  pub kept_formula : (f : Formula) (ts : List Terminal) → SpellsFormula ts (formula_tree f) → IsTrue (list_all is_declared ts) → IsTrue (is_good_formula k p f) → first_stray (Plain k) p 0 ts ≡ None
  kept_formula f ts s d g =
      let these : Declared (or_then s.0 []) = ap (list_all is_declared) (sym s.1) ∙ d in
      let good : GoodOver k p (or_formula s.0) = ap (is_good_condition k p) (sym s.2) ∙ sym (good_formula_is k p f) ∙ g in
      none_strays 0 ts (ap (list_all (may_stand k p)) s.1 ∙ (formula_kept s.0 [] these).1 good refl)

  pub kept_condition : (w : ReservedWord) (f : Formula) (ts : List Terminal) → SpellsFormulaPiece w ts (formula_tree f) → IsTrue (list_all is_declared ts) → IsTrue (is_good_formula k p f) → first_stray (Plain k) p 0 ts ≡ None
  kept_condition w f ts s d g =
      let end : List Terminal = terminal.Symbol symbol.Semicolon ∷ [] in
      let these : Declared (or_then s.0 end) = ap (list_all is_declared) (sym s.1) ∙ d in
      let good : GoodOver k p (or_formula s.0) = ap (is_good_condition k p) (sym s.2) ∙ sym (good_formula_is k p f) ∙ g in
      none_strays 0 ts (ap (list_all (may_stand k p)) s.1 ∙ (formula_kept s.0 end these).1 good refl)
