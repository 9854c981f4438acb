-- Terminals are those of at most one formula.
use Rattle.std.proofs.Common.{◌≡◌, ◌<◌, List, ◌∷◌, Bool, true, false, refl, ap, sym, ◌∙◌, arith}
use Rattle.vp_terms.specs.declared.formula.Cmp.{Cmp}
use Rattle.vp_grammar.specs.declared.terminal.Terminal.{Terminal}
use Rattle.vp_grammar.specs.declared.terminal.Operator.TheVariants as operator
use Rattle.vp_grammar.specs.declared.terminal.Symbol.TheVariants as symbol
use Rattle.vp_grammar.specs.declared.terminal.Terminal.TheVariants as terminal
use Rattle.vp_terms.specs.Tree.{FormulaTree, Compares, Both, Either, Denial}
use Rattle.vp_grammar.specs.Grammar.{Expression, Summed, Positive, Negative, Factored, Alone, Raised, Literal, Named, Timed, Bracketed, expression_then, expression_tree, precedence}
use Rattle.vp_grammar.specs.Formulas.{Disjunction, OrList, OrRest, NoOrs, Or, Conjunction, AndList, AndRest, NoAnds, And, Lit, Truth, Falsity, Group, NotGroup, Comparison, or_then, ors_then, and_then, ands_then, lit_then, or_formula, ors_formula, and_formula, ands_formula, lit_formula}
use Rattle.vp_grammar.specs.FormulaReads.{Follows}
use Rattle.vp_grammar.proofs.Unique.{no_operator, tail_of, unique_expression}

-- what an expression begins with
abbrev pub begins_expression : List Terminal → Bool
begins_expression (terminal.Operator operator.Minus ∷ ts) = true
begins_expression (terminal.Number n w ∷ ts) = true
begins_expression (terminal.Name s v ∷ ts) = true
begins_expression (terminal.Variable s v ∷ ts) = true
begins_expression (terminal.Symbol symbol.Open ∷ ts) = true
begins_expression ts = false

pub expression_begins : (e : Expression) (r : List Terminal) → begins_expression (expression_then e r) ≡ true
expression_begins (Summed (Negative t) ts) r = refl
expression_begins (Summed (Positive (Factored (Alone (Literal n w)) fs)) ts) r = refl
expression_begins (Summed (Positive (Factored (Alone (Named n v)) fs)) ts) r = refl
expression_begins (Summed (Positive (Factored (Alone (Timed n v)) fs)) ts) r = refl
expression_begins (Summed (Positive (Factored (Alone (Bracketed n)) fs)) ts) r = refl
expression_begins (Summed (Positive (Factored (Raised (Literal n w) k h) fs)) ts) r = refl
expression_begins (Summed (Positive (Factored (Raised (Named n v) k h) fs)) ts) r = refl
expression_begins (Summed (Positive (Factored (Raised (Timed n v) k h) fs)) ts) r = refl
expression_begins (Summed (Positive (Factored (Raised (Bracketed n) k h) fs)) ts) r = refl

pub not_expression : {P : Type 0} (e : Expression) (r s : List Terminal) → expression_then e r ≡ s → begins_expression s ≡ false → P
not_expression e r s h k = let f : true ≡ false = sym (expression_begins e r) ∙ ap begins_expression h ∙ k in absurd (cc)

pub follows : (l : Lit) (r : List Terminal) → precedence r < 3 → Follows l r
follows Truth r p = tt
follows Falsity r p = tt
follows (Group f) r p = tt
follows (NotGroup f) r p = tt
follows (Comparison a c b) r p = p

pub after_ors : (fs : OrRest) (r : List Terminal) → precedence r < 2 → precedence (ors_then fs r) < 2
after_ors NoOrs r h = omega arith
after_ors (Or t ts) r h = omega arith

pub after_ands : (fs : AndRest) (r : List Terminal) → precedence r < 3 → precedence (ands_then fs r) < 3
after_ands NoAnds r h = omega arith
after_ands (And t ts) r h = omega arith

pub unique_comparison : (a u : Expression) (c d : Cmp) (b v : Expression) (r s : List Terminal) → precedence r < 3 → precedence s < 3 → expression_then a (terminal.Compare c ∷ expression_then b r) ≡ expression_then u (terminal.Compare d ∷ expression_then v s) → (Compares c (expression_tree a) (expression_tree b) ≡ Compares d (expression_tree u) (expression_tree v)) × (r ≡ s)
unique_comparison a u c d b v r s p q e =
    let h : (expression_tree a ≡ expression_tree u) × (terminal.Compare c ∷ expression_then b r ≡ terminal.Compare d ∷ expression_then v s) = unique_expression a u (terminal.Compare c ∷ expression_then b r) (terminal.Compare d ∷ expression_then v s) (omega arith) (omega arith) e in
    let k : (expression_tree b ≡ expression_tree v) × (r ≡ s) = unique_expression b v r s p q (tail_of _ _ _ _ h.1) in
    let x : expression_tree a ≡ expression_tree u = h.0 in
    let y : expression_tree b ≡ expression_tree v = k.0 in
    let z : terminal.Compare c ∷ expression_then b r ≡ terminal.Compare d ∷ expression_then v s = h.1 in
    let w : c ≡ d = cc in
    (cc, k.1)

mutual
  pub unique_or : (a b : Disjunction) (r s : List Terminal) → precedence r < 1 → precedence s < 1 → or_then a r ≡ or_then b s → (or_formula a ≡ or_formula b) × (r ≡ s)
  unique_or (OrList f fs) (OrList g gs) r s p q e =
      let h : (and_formula f ≡ and_formula g) × (ors_then fs r ≡ ors_then gs s) = unique_and f g (ors_then fs r) (ors_then gs s) (after_ors fs r (omega arith)) (after_ors gs s (omega arith)) e in
      unique_ors fs gs (and_formula f) (and_formula g) r s h.0 p q h.1

  pub unique_ors : (a b : OrRest) (x y : FormulaTree) (r s : List Terminal) → x ≡ y → precedence r < 1 → precedence s < 1 → ors_then a r ≡ ors_then b s → (ors_formula x a ≡ ors_formula y b) × (r ≡ s)
  unique_ors NoOrs NoOrs x y r s k p q e = (k, e)
  unique_ors NoOrs (Or g gs) x y r s k p q e = no_operator r _ 1 p e refl
  unique_ors (Or f fs) NoOrs x y r s k p q e = no_operator s _ 1 q (sym e) refl
  unique_ors (Or f fs) (Or g gs) x y r s k p q e =
      let h : (and_formula f ≡ and_formula g) × (ors_then fs r ≡ ors_then gs s) = unique_and f g (ors_then fs r) (ors_then gs s) (after_ors fs r (omega arith)) (after_ors gs s (omega arith)) (tail_of _ _ _ _ e) in
      unique_ors fs gs (Either x (and_formula f)) (Either y (and_formula g)) r s (let m : and_formula f ≡ and_formula g = h.0 in cc) p q h.1

  pub unique_and : (a b : Conjunction) (r s : List Terminal) → precedence r < 2 → precedence s < 2 → and_then a r ≡ and_then b s → (and_formula a ≡ and_formula b) × (r ≡ s)
  unique_and (AndList f fs) (AndList g gs) r s p q e =
      let h : (lit_formula f ≡ lit_formula g) × (ands_then fs r ≡ ands_then gs s) = unique_bare f g (ands_then fs r) (ands_then gs s) (follows f (ands_then fs r) (after_ands fs r (omega arith))) (follows g (ands_then gs s) (after_ands gs s (omega arith))) e in
      unique_ands fs gs (lit_formula f) (lit_formula g) r s h.0 p q h.1

  pub unique_ands : (a b : AndRest) (x y : FormulaTree) (r s : List Terminal) → x ≡ y → precedence r < 2 → precedence s < 2 → ands_then a r ≡ ands_then b s → (ands_formula x a ≡ ands_formula y b) × (r ≡ s)
  unique_ands NoAnds NoAnds x y r s k p q e = (k, e)
  unique_ands NoAnds (And g gs) x y r s k p q e = no_operator r _ 2 p e refl
  unique_ands (And f fs) NoAnds x y r s k p q e = no_operator s _ 2 q (sym e) refl
  unique_ands (And f fs) (And g gs) x y r s k p q e =
      let h : (lit_formula f ≡ lit_formula g) × (ands_then fs r ≡ ands_then gs s) = unique_bare f g (ands_then fs r) (ands_then gs s) (follows f (ands_then fs r) (after_ands fs r (omega arith))) (follows g (ands_then gs s) (after_ands gs s (omega arith))) (tail_of _ _ _ _ e) in
      unique_ands fs gs (Both x (lit_formula f)) (Both y (lit_formula g)) r s (let m : lit_formula f ≡ lit_formula g = h.0 in cc) p q h.1

  pub unique_bare : (a b : Lit) (r s : List Terminal) → Follows a r → Follows b s → lit_then a r ≡ lit_then b s → (lit_formula a ≡ lit_formula b) × (r ≡ s)
  unique_bare Truth Truth r s p q e = (refl, tail_of _ _ _ _ e)
  unique_bare Truth Falsity r s p q e = absurd (cc)
  unique_bare Truth (Group g) r s p q e = absurd (cc)
  unique_bare Truth (NotGroup g) r s p q e = absurd (cc)
  unique_bare Truth (Comparison u d v) r s p q e = not_expression u _ _ (sym e) refl
  unique_bare Falsity Truth r s p q e = absurd (cc)
  unique_bare Falsity Falsity r s p q e = (refl, tail_of _ _ _ _ e)
  unique_bare Falsity (Group g) r s p q e = absurd (cc)
  unique_bare Falsity (NotGroup g) r s p q e = absurd (cc)
  unique_bare Falsity (Comparison u d v) r s p q e = not_expression u _ _ (sym e) refl
  unique_bare (Group f) Truth r s p q e = absurd (cc)
  unique_bare (Group f) Falsity r s p q e = absurd (cc)
  unique_bare (Group f) (Group g) r s p q e =
      let h : (or_formula f ≡ or_formula g) × (terminal.Symbol symbol.SquareClose ∷ r ≡ terminal.Symbol symbol.SquareClose ∷ s) = unique_or f g (terminal.Symbol symbol.SquareClose ∷ r) (terminal.Symbol symbol.SquareClose ∷ s) (omega arith) (omega arith) (tail_of _ _ _ _ e) in
      (h.0, tail_of _ _ _ _ h.1)
  unique_bare (Group f) (NotGroup g) r s p q e = absurd (cc)
  unique_bare (Group f) (Comparison u d v) r s p q e = not_expression u _ _ (sym e) refl
  unique_bare (NotGroup f) Truth r s p q e = absurd (cc)
  unique_bare (NotGroup f) Falsity r s p q e = absurd (cc)
  unique_bare (NotGroup f) (Group g) r s p q e = absurd (cc)
  unique_bare (NotGroup f) (NotGroup g) r s p q e =
      let h : (or_formula f ≡ or_formula g) × (terminal.Symbol symbol.SquareClose ∷ r ≡ terminal.Symbol symbol.SquareClose ∷ s) = unique_or f g (terminal.Symbol symbol.SquareClose ∷ r) (terminal.Symbol symbol.SquareClose ∷ s) (omega arith) (omega arith) (tail_of _ _ _ _ (tail_of _ _ _ _ e)) in
      (ap Denial h.0, tail_of _ _ _ _ h.1)
  unique_bare (NotGroup f) (Comparison u d v) r s p q e = not_expression u _ _ (sym e) refl
  unique_bare (Comparison a c b) Truth r s p q e = not_expression a _ _ e refl
  unique_bare (Comparison a c b) Falsity r s p q e = not_expression a _ _ e refl
  unique_bare (Comparison a c b) (Group g) r s p q e = not_expression a _ _ e refl
  unique_bare (Comparison a c b) (NotGroup g) r s p q e = not_expression a _ _ e refl
  unique_bare (Comparison a c b) (Comparison u d v) r s p q e = unique_comparison a u c d b v r s p q e

pub unique_lit : (a b : Lit) (r s : List Terminal) → precedence r < 3 → precedence s < 3 → lit_then a r ≡ lit_then b s → (lit_formula a ≡ lit_formula b) × (r ≡ s)
unique_lit a b r s p q e = unique_bare a b r s (follows a r p) (follows b s q) e
