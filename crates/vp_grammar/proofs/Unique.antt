-- Terminals are those of at most one tree.
use Rattle.std.proofs.Common.{◌≡◌, ℕ, ◌<◌, List, ◌∷◌, Bool, true, false, Option, refl, ap, sym, ◌∙◌, arith}
use Rattle.vp_terms.specs.declared.expr.Var.{Var}
use Rattle.vp_terms.specs.Tree.{ExprTree, Constant, Place, Sum, Difference, Product}
use Rattle.vp_grammar.specs.declared.terminal.Operator.TheVariants.{Minus, Caret}
use Rattle.vp_grammar.specs.declared.terminal.Symbol.TheVariants as symbol
use Rattle.vp_grammar.specs.declared.terminal.Terminal.{Terminal}
use Rattle.vp_grammar.specs.declared.terminal.Terminal.TheVariants as terminal
use Rattle.vp_grammar.specs.Grammar.{Expression, Summed, Start, Positive, Negative, Terms, NoTerms, Added, Subtracted, Term, Factored, Factors, NoFactors, Times, Factor, Alone, Raised, Base, Literal, Named, Timed, Bracketed, expression_then, start_then, terms_then, term_then, factors_then, factor_then, base_then, expression_tree, start_tree, terms_tree, term_tree, factors_tree, factor_tree, base_tree, nought, known, precedence}

-- what a base begins with
abbrev pub begins_base : List Terminal → Bool
begins_base (terminal.Number r w ∷ ts) = true
begins_base (terminal.Name s v ∷ ts) = true
begins_base (terminal.Variable s v ∷ ts) = true
begins_base (terminal.Symbol symbol.Open ∷ ts) = true
begins_base ts = false

pub term_begins : (t : Term) (r : List Terminal) → begins_base (term_then t r) ≡ true
term_begins (Factored (Alone (Literal n w)) fs) r = refl
term_begins (Factored (Alone (Named s v)) fs) r = refl
term_begins (Factored (Alone (Timed s v)) fs) r = refl
term_begins (Factored (Alone (Bracketed n)) fs) r = refl
term_begins (Factored (Raised (Literal n w) k h) fs) r = refl
term_begins (Factored (Raised (Named s v) k h) fs) r = refl
term_begins (Factored (Raised (Timed s v) k h) fs) r = refl
term_begins (Factored (Raised (Bracketed n) k h) fs) r = refl

pub no_minus : (t : Term) (r s : List Terminal) → term_then t r ≡ terminal.Operator Minus ∷ s → ⊥
no_minus t r s e = let f : false ≡ true = sym (ap begins_base e) ∙ term_begins t r in cc

pub after_terms : (ts : Terms) (r : List Terminal) → precedence r < 4 → precedence (terms_then ts r) < 4
after_terms NoTerms r h = omega arith
after_terms (Added t ts) r h = omega arith
after_terms (Subtracted t ts) r h = omega arith

pub after_factors : (fs : Factors) (r : List Terminal) → precedence r < 5 → precedence (factors_then fs r) < 5
after_factors NoFactors r h = omega arith
after_factors (Times t ts) r h = omega arith

pub no_operator : {P : Type 0} (r s : List Terminal) (n : ℕ) → precedence r < n → r ≡ s → precedence s ≡ n → P
no_operator r s n h e k = let f : precedence r ≡ precedence s = ap precedence e in absurd (omega arith)

pub tail_of : (x y : Terminal) (xs ys : List Terminal) → x ∷ xs ≡ y ∷ ys → xs ≡ ys
tail_of x y xs ys e = cc

mutual
  pub unique_expression : (a b : Expression) (r s : List Terminal) → precedence r < 3 → precedence s < 3 → expression_then a r ≡ expression_then b s → (expression_tree a ≡ expression_tree b) × (r ≡ s)
  unique_expression (Summed t ts) (Summed u us) r s p q e =
      let h : (start_tree t ≡ start_tree u) × (terms_then ts r ≡ terms_then us s) = unique_start t u (terms_then ts r) (terms_then us s) (after_terms ts r (omega arith)) (after_terms us s (omega arith)) e in
      unique_terms ts us (start_tree t) (start_tree u) r s h.0 p q h.1

  pub unique_start : (a b : Start) (r s : List Terminal) → precedence r < 4 → precedence s < 4 → start_then a r ≡ start_then b s → (start_tree a ≡ start_tree b) × (r ≡ s)
  unique_start (Positive t) (Positive u) r s p q e = unique_term t u r s p q e
  unique_start (Positive t) (Negative u) r s p q e = absurd (no_minus t r (term_then u s) e)
  unique_start (Negative t) (Positive u) r s p q e = absurd (no_minus u s (term_then t r) (sym e))
  unique_start (Negative t) (Negative u) r s p q e =
      let h : (term_tree t ≡ term_tree u) × (r ≡ s) = unique_term t u r s p q (tail_of _ _ _ _ e) in
      (ap (Difference (Constant nought)) h.0, h.1)

  pub unique_terms : (a b : Terms) (x y : ExprTree) (r s : List Terminal) → x ≡ y → precedence r < 3 → precedence s < 3 → terms_then a r ≡ terms_then b s → (terms_tree x a ≡ terms_tree y b) × (r ≡ s)
  unique_terms NoTerms NoTerms x y r s k p q e = (k, e)
  unique_terms NoTerms (Added u us) x y r s k p q e = no_operator r _ 3 p e refl
  unique_terms NoTerms (Subtracted u us) x y r s k p q e = no_operator r _ 3 p e refl
  unique_terms (Added t ts) NoTerms x y r s k p q e = no_operator s _ 3 q (sym e) refl
  unique_terms (Added t ts) (Added u us) x y r s k p q e =
      let h : (term_tree t ≡ term_tree u) × (terms_then ts r ≡ terms_then us s) = unique_term t u (terms_then ts r) (terms_then us s) (after_terms ts r (omega arith)) (after_terms us s (omega arith)) (tail_of _ _ _ _ e) in
      unique_terms ts us (Sum x (term_tree t)) (Sum y (term_tree u)) r s (let m : term_tree t ≡ term_tree u = h.0 in cc) p q h.1
  unique_terms (Added t ts) (Subtracted u us) x y r s k p q e = absurd (cc)
  unique_terms (Subtracted t ts) NoTerms x y r s k p q e = no_operator s _ 3 q (sym e) refl
  unique_terms (Subtracted t ts) (Added u us) x y r s k p q e = absurd (cc)
  unique_terms (Subtracted t ts) (Subtracted u us) x y r s k p q e =
      let h : (term_tree t ≡ term_tree u) × (terms_then ts r ≡ terms_then us s) = unique_term t u (terms_then ts r) (terms_then us s) (after_terms ts r (omega arith)) (after_terms us s (omega arith)) (tail_of _ _ _ _ e) in
      unique_terms ts us (Difference x (term_tree t)) (Difference y (term_tree u)) r s (let m : term_tree t ≡ term_tree u = h.0 in cc) p q h.1

  pub unique_term : (a b : Term) (r s : List Terminal) → precedence r < 4 → precedence s < 4 → term_then a r ≡ term_then b s → (term_tree a ≡ term_tree b) × (r ≡ s)
  unique_term (Factored f fs) (Factored g gs) r s p q e =
      let h : (factor_tree f ≡ factor_tree g) × (factors_then fs r ≡ factors_then gs s) = unique_factor f g (factors_then fs r) (factors_then gs s) (after_factors fs r (omega arith)) (after_factors gs s (omega arith)) e in
      unique_factors fs gs (factor_tree f) (factor_tree g) r s h.0 p q h.1

  pub unique_factors : (a b : Factors) (x y : ExprTree) (r s : List Terminal) → x ≡ y → precedence r < 4 → precedence s < 4 → factors_then a r ≡ factors_then b s → (factors_tree x a ≡ factors_tree y b) × (r ≡ s)
  unique_factors NoFactors NoFactors x y r s k p q e = (k, e)
  unique_factors NoFactors (Times g gs) x y r s k p q e = no_operator r _ 4 p e refl
  unique_factors (Times f fs) NoFactors x y r s k p q e = no_operator s _ 4 q (sym e) refl
  unique_factors (Times f fs) (Times g gs) x y r s k p q e =
      let h : (factor_tree f ≡ factor_tree g) × (factors_then fs r ≡ factors_then gs s) = unique_factor f g (factors_then fs r) (factors_then gs s) (after_factors fs r (omega arith)) (after_factors gs s (omega arith)) (tail_of _ _ _ _ e) in
      unique_factors fs gs (Product x (factor_tree f)) (Product y (factor_tree g)) r s (let m : factor_tree f ≡ factor_tree g = h.0 in cc) p q h.1

  pub unique_factor : (a b : Factor) (r s : List Terminal) → precedence r < 5 → precedence s < 5 → factor_then a r ≡ factor_then b s → (factor_tree a ≡ factor_tree b) × (r ≡ s)
  unique_factor (Alone a) (Alone b) r s p q e = unique_base a b r s e
  unique_factor (Alone a) (Raised b n i) r s p q e =
      let h : (base_tree a ≡ base_tree b) × (r ≡ terminal.Operator Caret ∷ terminal.Number n true ∷ s) = unique_base a b r (terminal.Operator Caret ∷ terminal.Number n true ∷ s) e in
      no_operator r _ 5 p h.1 refl
  unique_factor (Raised a n i) (Alone b) r s p q e =
      let h : (base_tree a ≡ base_tree b) × (terminal.Operator Caret ∷ terminal.Number n true ∷ r ≡ s) = unique_base a b (terminal.Operator Caret ∷ terminal.Number n true ∷ r) s e in
      no_operator s _ 5 q (sym h.1) refl
  unique_factor (Raised a n i) (Raised b m j) r s p q e =
      let h : (base_tree a ≡ base_tree b) × (terminal.Operator Caret ∷ terminal.Number n true ∷ r ≡ terminal.Operator Caret ∷ terminal.Number m true ∷ s) = unique_base a b (terminal.Operator Caret ∷ terminal.Number n true ∷ r) (terminal.Operator Caret ∷ terminal.Number m true ∷ s) e in
      let k : base_tree a ≡ base_tree b = h.0 in
      let l : terminal.Operator Caret ∷ terminal.Number n true ∷ r ≡ terminal.Operator Caret ∷ terminal.Number m true ∷ s = h.1 in
      let v : n ≡ m = cc in
      (cc, cc)

  pub unique_base : (a b : Base) (r s : List Terminal) → base_then a r ≡ base_then b s → (base_tree a ≡ base_tree b) × (r ≡ s)
  unique_base (Literal n w) (Literal m x) r s e = let v : n ≡ m = cc in (ap Constant v, cc)
  unique_base (Literal n w) (Named y v) r s e = absurd (cc)
  unique_base (Literal n w) (Timed y v) r s e = absurd (cc)
  unique_base (Literal n w) (Bracketed b) r s e = absurd (cc)
  unique_base (Named x u) (Literal m w) r s e = absurd (cc)
  unique_base (Named x u) (Named y v) r s e = let w : u ≡ v = cc in (ap (λ (o : Option Var). Place (known o)) w, cc)
  unique_base (Named x u) (Timed y v) r s e = absurd (cc)
  unique_base (Named x u) (Bracketed b) r s e = absurd (cc)
  unique_base (Timed x u) (Literal m w) r s e = absurd (cc)
  unique_base (Timed x u) (Named y v) r s e = absurd (cc)
  unique_base (Timed x u) (Timed y v) r s e = let w : u ≡ v = cc in (ap (λ (o : Option Var). Place (known o)) w, cc)
  unique_base (Timed x u) (Bracketed b) r s e = absurd (cc)
  unique_base (Bracketed a) (Literal m w) r s e = absurd (cc)
  unique_base (Bracketed a) (Named y v) r s e = absurd (cc)
  unique_base (Bracketed a) (Timed y v) r s e = absurd (cc)
  unique_base (Bracketed a) (Bracketed b) r s e =
      let h : (expression_tree a ≡ expression_tree b) × (terminal.Symbol symbol.Close ∷ r ≡ terminal.Symbol symbol.Close ∷ s) = unique_expression a b (terminal.Symbol symbol.Close ∷ r) (terminal.Symbol symbol.Close ∷ s) (omega arith) (omega arith) (tail_of _ _ _ _ e) in
      (h.0, tail_of _ _ _ _ h.1)
