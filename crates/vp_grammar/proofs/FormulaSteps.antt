-- The two loops of formulas, their literals, and pieces.
use Rattle.std.proofs.Common.{◌≡◌, ◌≢◌, ◌<◌, ◌≤◌, length, List, [], ◌∷◌, Result, Ok, Err, refl, ap, sym, ◌∙◌, arith}
use Rattle.vp_terms.specs.declared.formula.Cmp.{Cmp}
use Rattle.vp_grammar.specs.declared.terminal.Terminal.{Terminal}
use Rattle.vp_grammar.specs.declared.terminal.Operator.TheVariants as operator
use Rattle.vp_grammar.specs.declared.terminal.Symbol.TheVariants as symbol
use Rattle.vp_lex.specs.declared.word.ReservedWord.{ReservedWord}
use Rattle.vp_grammar.specs.declared.terminal.Terminal.TheVariants as terminal
use Rattle.vp_grammar.specs.declared.fault.ParseErr.{ParseErr}
use Rattle.vp_grammar.specs.declared.fault.ParseErr.TheVariants.{Form, Memory}
use Rattle.vp_terms.specs.Tree.{ExprTree}
use Rattle.vp_terms.specs.Tree.{FormulaTree, Compares, Both, Either, Denial}
use Rattle.vp_grammar.specs.Grammar.{expression_then, expression_tree, precedence}
use Rattle.vp_grammar.specs.Formulas.{Disjunction, OrList, OrRest, NoOrs, Or, Conjunction, AndList, AndRest, NoAnds, And, Lit, Truth, Falsity, Group, NotGroup, Comparison, or_then, ors_then, and_then, ands_then, lit_then, or_formula, ors_formula, and_formula, ands_formula, lit_formula}
use Rattle.vp_grammar.specs.FormulaReads.{IsDisjunction, IsConjunction, IsLit, IsBareLit, IsGroup, IsComparison, Follows, LeadsNothing, SpellsFormula, SpellsFormulaPiece}
use Rattle.vp_grammar.specs.Reads.{IsExpression, Fails, FailsAll, Reads}
use Rattle.vp_grammar.proofs.Unique.{no_operator, tail_of, unique_expression}
use Rattle.vp_grammar.proofs.FormulaUnique.{after_ors, after_ands, unique_or, unique_and, unique_lit, unique_bare, follows, not_expression}
use Rattle.vp_grammar.proofs.Steps.{Has, fails}

pub record DisjunctionSoFar (ts : List Terminal) (t : FormulaTree) (rest : List Terminal) : Type 0 where
  pub form : Disjunction
  pub spelt : ts ≡ or_then form rest
  pub is : t ≡ or_formula form

abbrev pub more_ors : OrRest → Conjunction → OrRest
more_ors NoOrs g = Or g NoOrs
more_ors (Or f fs) g = Or f (more_ors fs g)

more_ors_then : (fs : OrRest) (g : Conjunction) (rest : List Terminal) → ors_then (more_ors fs g) rest ≡ ors_then fs (terminal.Operator operator.Bar ∷ and_then g rest)
more_ors_then NoOrs g rest = refl
more_ors_then (Or f fs) g rest = ap (λ (ts : List Terminal). terminal.Operator operator.Bar ∷ and_then f ts) (more_ors_then fs g rest)

more_ors_formula : (fs : OrRest) (g : Conjunction) (t : FormulaTree) → ors_formula t (more_ors fs g) ≡ Either (ors_formula t fs) (and_formula g)
more_ors_formula NoOrs g t = refl
more_ors_formula (Or f fs) g t = more_ors_formula fs g (Either t (and_formula f))

abbrev pub more_or : Disjunction → Conjunction → Disjunction
more_or (OrList f fs) g = OrList f (more_ors fs g)

more_or_then : (t : Disjunction) (g : Conjunction) (rest : List Terminal) → or_then (more_or t g) rest ≡ or_then t (terminal.Operator operator.Bar ∷ and_then g rest)
more_or_then (OrList f fs) g rest = ap (λ (ts : List Terminal). and_then f ts) (more_ors_then fs g rest)

more_or_formula : (t : Disjunction) (g : Conjunction) → or_formula (more_or t g) ≡ Either (or_formula t) (and_formula g)
more_or_formula (OrList f fs) g = more_ors_formula fs g (and_formula f)

pub or_begins_so : (ts rest : List Terminal) (t : FormulaTree) → IsConjunction ts t rest → DisjunctionSoFar ts t rest
or_begins_so ts rest t h = record { form = OrList h.0 NoOrs; spelt = h.1; is = h.2 }

pub or_goes_on : (ts at more after : List Terminal) (t u : FormulaTree) → DisjunctionSoFar ts t at → at ≡ terminal.Operator operator.Bar ∷ more → IsConjunction more u after → DisjunctionSoFar ts (Either t u) after
or_goes_on ts at more after t u so_far e h = record {
  form = more_or so_far.form h.0;
  spelt = so_far.spelt ∙ ap (λ (xs : List Terminal). or_then so_far.form xs) (e ∙ ap (λ (xs : List Terminal). terminal.Operator operator.Bar ∷ xs) h.1) ∙ sym (more_or_then so_far.form h.0 after);
  is = (let a : t ≡ or_formula so_far.form = so_far.is in let b : u ≡ and_formula h.0 = h.2 in rw (a, b) (sym (more_or_formula so_far.form h.0)));
}

pub or_has_and : (ts : List Terminal) (t : FormulaTree) (r : List Terminal) → IsDisjunction ts t r → Has (IsConjunction ts)
or_has_and ts t r h = from h.0 h.1 h.3
  where
    from : (e : Disjunction) → ts ≡ or_then e r → precedence r < 1 → Has (IsConjunction ts)
    from (OrList f fs) e p = (and_formula f, ors_then fs r, (f, e, refl, after_ors fs r (omega arith)))

ors_go_on : (a b : OrRest) (more r : List Terminal) → precedence r < 1 → ors_then a (terminal.Operator operator.Bar ∷ more) ≡ ors_then b r → Has (IsConjunction more)
ors_go_on NoOrs NoOrs more r p e = no_operator r _ 1 p (sym e) refl
ors_go_on NoOrs (Or g gs) more r p e = (and_formula g, ors_then gs r, (g, tail_of _ _ _ _ e, refl, after_ors gs r (omega arith)))
ors_go_on (Or f fs) NoOrs more r p e = no_operator r _ 1 p (sym e) refl
ors_go_on (Or f fs) (Or g gs) more r p e =
    let h : (and_formula f ≡ and_formula g) × (ors_then fs (terminal.Operator operator.Bar ∷ more) ≡ ors_then gs r) = unique_and f g (ors_then fs (terminal.Operator operator.Bar ∷ more)) (ors_then gs r) (after_ors fs (terminal.Operator operator.Bar ∷ more) (omega arith)) (after_ors gs r (omega arith)) (tail_of _ _ _ _ e) in
    ors_go_on fs gs more r p h.1

whole_ors_go_on : (a b : Disjunction) (more r : List Terminal) → precedence r < 1 → or_then a (terminal.Operator operator.Bar ∷ more) ≡ or_then b r → Has (IsConjunction more)
whole_ors_go_on (OrList f fs) (OrList g gs) more r p e =
    let h : (and_formula f ≡ and_formula g) × (ors_then fs (terminal.Operator operator.Bar ∷ more) ≡ ors_then gs r) = unique_and f g (ors_then fs (terminal.Operator operator.Bar ∷ more)) (ors_then gs r) (after_ors fs (terminal.Operator operator.Bar ∷ more) (omega arith)) (after_ors gs r (omega arith)) e in
    ors_go_on fs gs more r p h.1

pub or_has_next : (ts at more : List Terminal) (u : FormulaTree) → DisjunctionSoFar ts u at → at ≡ terminal.Operator operator.Bar ∷ more → (t : FormulaTree) (r : List Terminal) → IsDisjunction ts t r → Has (IsConjunction more)
or_has_next ts at more u so_far e t r h = whole_ors_go_on so_far.form h.0 more r h.3 (ap (λ (xs : List Terminal). or_then so_far.form xs) (sym e) ∙ sym so_far.spelt ∙ h.1)

pub record ConjunctionSoFar (ts : List Terminal) (t : FormulaTree) (rest : List Terminal) : Type 0 where
  pub form : Conjunction
  pub spelt : ts ≡ and_then form rest
  pub is : t ≡ and_formula form

abbrev pub more_ands : AndRest → Lit → AndRest
more_ands NoAnds g = And g NoAnds
more_ands (And f fs) g = And f (more_ands fs g)

more_ands_then : (fs : AndRest) (g : Lit) (rest : List Terminal) → ands_then (more_ands fs g) rest ≡ ands_then fs (terminal.Operator operator.Ampersand ∷ lit_then g rest)
more_ands_then NoAnds g rest = refl
more_ands_then (And f fs) g rest = ap (λ (ts : List Terminal). terminal.Operator operator.Ampersand ∷ lit_then f ts) (more_ands_then fs g rest)

more_ands_formula : (fs : AndRest) (g : Lit) (t : FormulaTree) → ands_formula t (more_ands fs g) ≡ Both (ands_formula t fs) (lit_formula g)
more_ands_formula NoAnds g t = refl
more_ands_formula (And f fs) g t = more_ands_formula fs g (Both t (lit_formula f))

abbrev pub more_and : Conjunction → Lit → Conjunction
more_and (AndList f fs) g = AndList f (more_ands fs g)

more_and_then : (t : Conjunction) (g : Lit) (rest : List Terminal) → and_then (more_and t g) rest ≡ and_then t (terminal.Operator operator.Ampersand ∷ lit_then g rest)
more_and_then (AndList f fs) g rest = ap (λ (ts : List Terminal). lit_then f ts) (more_ands_then fs g rest)

more_and_formula : (t : Conjunction) (g : Lit) → and_formula (more_and t g) ≡ Both (and_formula t) (lit_formula g)
more_and_formula (AndList f fs) g = more_ands_formula fs g (lit_formula f)

pub and_begins_so : (ts rest : List Terminal) (t : FormulaTree) → IsLit ts t rest → ConjunctionSoFar ts t rest
and_begins_so ts rest t h = record { form = AndList h.0 NoAnds; spelt = h.1; is = h.2 }

pub and_goes_on : (ts at more after : List Terminal) (t u : FormulaTree) → ConjunctionSoFar ts t at → at ≡ terminal.Operator operator.Ampersand ∷ more → IsLit more u after → ConjunctionSoFar ts (Both t u) after
and_goes_on ts at more after t u so_far e h = record {
  form = more_and so_far.form h.0;
  spelt = so_far.spelt ∙ ap (λ (xs : List Terminal). and_then so_far.form xs) (e ∙ ap (λ (xs : List Terminal). terminal.Operator operator.Ampersand ∷ xs) h.1) ∙ sym (more_and_then so_far.form h.0 after);
  is = (let a : t ≡ and_formula so_far.form = so_far.is in let b : u ≡ lit_formula h.0 = h.2 in rw (a, b) (sym (more_and_formula so_far.form h.0)));
}

pub and_has_lit : (ts : List Terminal) (t : FormulaTree) (r : List Terminal) → IsConjunction ts t r → Has (IsLit ts)
and_has_lit ts t r h = from h.0 h.1 h.3
  where
    from : (e : Conjunction) → ts ≡ and_then e r → precedence r < 2 → Has (IsLit ts)
    from (AndList f fs) e p = (lit_formula f, ands_then fs r, (f, e, refl, after_ands fs r (omega arith)))

ands_go_on : (a b : AndRest) (more r : List Terminal) → precedence r < 2 → ands_then a (terminal.Operator operator.Ampersand ∷ more) ≡ ands_then b r → Has (IsLit more)
ands_go_on NoAnds NoAnds more r p e = no_operator r _ 2 p (sym e) refl
ands_go_on NoAnds (And g gs) more r p e = (lit_formula g, ands_then gs r, (g, tail_of _ _ _ _ e, refl, after_ands gs r (omega arith)))
ands_go_on (And f fs) NoAnds more r p e = no_operator r _ 2 p (sym e) refl
ands_go_on (And f fs) (And g gs) more r p e =
    let h : (lit_formula f ≡ lit_formula g) × (ands_then fs (terminal.Operator operator.Ampersand ∷ more) ≡ ands_then gs r) = unique_lit f g (ands_then fs (terminal.Operator operator.Ampersand ∷ more)) (ands_then gs r) (after_ands fs (terminal.Operator operator.Ampersand ∷ more) (omega arith)) (after_ands gs r (omega arith)) (tail_of _ _ _ _ e) in
    ands_go_on fs gs more r p h.1

whole_ands_go_on : (a b : Conjunction) (more r : List Terminal) → precedence r < 2 → and_then a (terminal.Operator operator.Ampersand ∷ more) ≡ and_then b r → Has (IsLit more)
whole_ands_go_on (AndList f fs) (AndList g gs) more r p e =
    let h : (lit_formula f ≡ lit_formula g) × (ands_then fs (terminal.Operator operator.Ampersand ∷ more) ≡ ands_then gs r) = unique_lit f g (ands_then fs (terminal.Operator operator.Ampersand ∷ more)) (ands_then gs r) (after_ands fs (terminal.Operator operator.Ampersand ∷ more) (omega arith)) (after_ands gs r (omega arith)) e in
    ands_go_on fs gs more r p h.1

pub and_has_next : (ts at more : List Terminal) (u : FormulaTree) → ConjunctionSoFar ts u at → at ≡ terminal.Operator operator.Ampersand ∷ more → (t : FormulaTree) (r : List Terminal) → IsConjunction ts t r → Has (IsLit more)
and_has_next ts at more u so_far e t r h = whole_ands_go_on so_far.form h.0 more r h.3 (ap (λ (xs : List Terminal). and_then so_far.form xs) (sym e) ∙ sym so_far.spelt ∙ h.1)

-- literals
pub lit_has_bare : (ts : List Terminal) (t : FormulaTree) (r : List Terminal) → IsLit ts t r → Has (IsBareLit ts)
lit_has_bare ts t r h = (t, r, (h.0, h.1, h.2, follows h.0 r h.3))

pub goes_further : (ts rest : List Terminal) (u : FormulaTree) → IsBareLit ts u rest → 3 ≤ precedence rest → (t : FormulaTree) (r : List Terminal) → IsLit ts t r → ⊥
goes_further ts rest u h p t r l =
    let k : (lit_formula h.0 ≡ lit_formula l.0) × (rest ≡ r) = unique_bare h.0 l.0 rest r h.3 (follows l.0 r l.3) (sym h.1 ∙ l.1) in
    let m : precedence rest ≡ precedence r = ap precedence k.1 in
    let q : precedence r < 3 = l.3 in omega arith

pub bare_has_group : (ts more : List Terminal) → ts ≡ terminal.Symbol symbol.SquareOpen ∷ more → (t : FormulaTree) (r : List Terminal) → IsBareLit ts t r → Has (IsGroup more)
bare_has_group ts more m t r h = from h.0 h.1
  where
    from : (e : Lit) → ts ≡ lit_then e r → Has (IsGroup more)
    from Truth e = absurd (cc)
    from Falsity e = absurd (cc)
    from (Group f) e = (or_formula f, r, (f, tail_of _ _ _ _ (sym m ∙ e), refl))
    from (NotGroup f) e = absurd (cc)
    from (Comparison a c b) e = not_expression a _ _ (sym e ∙ m) refl

pub bare_has_denied : (ts more : List Terminal) → ts ≡ terminal.Symbol symbol.Bang ∷ terminal.Symbol symbol.SquareOpen ∷ more → (t : FormulaTree) (r : List Terminal) → IsBareLit ts t r → Has (IsGroup more)
bare_has_denied ts more m t r h = from h.0 h.1
  where
    from : (e : Lit) → ts ≡ lit_then e r → Has (IsGroup more)
    from Truth e = absurd (cc)
    from Falsity e = absurd (cc)
    from (Group f) e = absurd (cc)
    from (NotGroup f) e = (or_formula f, r, (f, tail_of _ _ _ _ (tail_of _ _ _ _ (sym m ∙ e)), refl))
    from (Comparison a c b) e = not_expression a _ _ (sym e ∙ m) refl

pub bare_has_comparison : (ts : List Terminal) → LeadsNothing ts → (t : FormulaTree) (r : List Terminal) → IsBareLit ts t r → Has (IsComparison ts)
bare_has_comparison ts none t r h = from h.0 h.1 h.3
  where
    from : (e : Lit) → ts ≡ lit_then e r → Follows e r → Has (IsComparison ts)
    from Truth e p = absurd (none.truth r e)
    from Falsity e p = absurd (none.falsity r e)
    from (Group f) e p = absurd (none.group _ e)
    from (NotGroup f) e p = absurd (none.not_group _ e)
    from (Comparison a c b) e p = (Compares c (expression_tree a) (expression_tree b), r, (a, c, b, e, refl, p))

grouped : (ts more r : List Terminal) (t : FormulaTree) → ts ≡ terminal.Symbol symbol.SquareOpen ∷ more → IsGroup more t r → IsBareLit ts t r
grouped ts more r t m h = (Group h.0, m ∙ ap (λ (xs : List Terminal). terminal.Symbol symbol.SquareOpen ∷ xs) h.1, h.2, tt)

pub denied : (ts more r : List Terminal) (t : FormulaTree) → ts ≡ terminal.Symbol symbol.Bang ∷ terminal.Symbol symbol.SquareOpen ∷ more → IsGroup more t r → IsBareLit ts (Denial t) r
denied ts more r t m h = (NotGroup h.0, m ∙ ap (λ (xs : List Terminal). terminal.Symbol symbol.Bang ∷ terminal.Symbol symbol.SquareOpen ∷ xs) h.1, ap Denial h.2, tt)

compared : (ts r : List Terminal) (t : FormulaTree) → IsComparison ts t r → IsBareLit ts t r
compared ts r t h = (Comparison h.0 h.1 h.2, h.3, h.4, h.5)

pub reads_grouped : {X : Type 0} (view : X → FormulaTree) (rest : X → List Terminal) (ts more : List Terminal) (result : Result X ParseErr) → ts ≡ terminal.Symbol symbol.SquareOpen ∷ more → Reads view rest (IsGroup more) result → Reads view rest (IsBareLit ts) result
reads_grouped view rest ts more (Ok x) m h = grouped ts more (rest x) (view x) m h
reads_grouped view rest ts more (Err e) m h = fails (IsGroup more) (IsBareLit ts) e (bare_has_group ts more m) h

pub reads_compared : {X : Type 0} (view : X → FormulaTree) (rest : X → List Terminal) (ts : List Terminal) (result : Result X ParseErr) → LeadsNothing ts → Reads view rest (IsComparison ts) result → Reads view rest (IsBareLit ts) result
reads_compared view rest ts (Ok x) m h = compared ts (rest x) (view x) h
reads_compared view rest ts (Err e) m h = fails (IsComparison ts) (IsBareLit ts) e (bare_has_comparison ts m) h

-- groups
pub group_has_formula : (ts : List Terminal) (t : FormulaTree) (r : List Terminal) → IsGroup ts t r → Has (IsDisjunction ts)
group_has_formula ts t r h = (t, terminal.Symbol symbol.SquareClose ∷ r, (h.0, h.1, h.2, omega arith))

pub unclosed : (ts rest : List Terminal) (u : FormulaTree) → IsDisjunction ts u rest → ((s : List Terminal) → rest ≡ terminal.Symbol symbol.SquareClose ∷ s → ⊥) → (t : FormulaTree) (r : List Terminal) → IsGroup ts t r → ⊥
unclosed ts rest u h none t r q =
    let k : (or_formula h.0 ≡ or_formula q.0) × (rest ≡ terminal.Symbol symbol.SquareClose ∷ r) = unique_or h.0 q.0 rest (terminal.Symbol symbol.SquareClose ∷ r) h.3 (omega arith) (sym h.1 ∙ q.1) in
    none r k.1

-- comparisons
pub comparison_has_left : (ts : List Terminal) (t : FormulaTree) (r : List Terminal) → IsComparison ts t r → Has (IsExpression ts)
comparison_has_left ts t r h = (expression_tree h.0, terminal.Compare h.1 ∷ expression_then h.2 r, (h.0, h.3, refl, omega arith))

pub comparison_has_right : (ts rest more : List Terminal) (u : ExprTree) (c : Cmp) → IsExpression ts u rest → rest ≡ terminal.Compare c ∷ more → (t : FormulaTree) (r : List Terminal) → IsComparison ts t r → Has (IsExpression more)
comparison_has_right ts rest more u c h e t r q =
    let k : (expression_tree h.0 ≡ expression_tree q.0) × (rest ≡ terminal.Compare q.1 ∷ expression_then q.2 r) = unique_expression h.0 q.0 rest (terminal.Compare q.1 ∷ expression_then q.2 r) h.3 (omega arith) (sym h.1 ∙ q.3) in
    (expression_tree q.2, r, (q.2, tail_of _ _ _ _ (sym e ∙ k.1), refl, q.5))

pub no_comparison : (ts rest : List Terminal) (u : ExprTree) → IsExpression ts u rest → ((c : Cmp) (s : List Terminal) → rest ≡ terminal.Compare c ∷ s → ⊥) → (t : FormulaTree) (r : List Terminal) → IsComparison ts t r → ⊥
no_comparison ts rest u h none t r q =
    let k : (expression_tree h.0 ≡ expression_tree q.0) × (rest ≡ terminal.Compare q.1 ∷ expression_then q.2 r) = unique_expression h.0 q.0 rest (terminal.Compare q.1 ∷ expression_then q.2 r) h.3 (omega arith) (sym h.1 ∙ q.3) in
    none q.1 (expression_then q.2 r) k.1

-- all of the terminals
pub formula_fails_all : (ts : List Terminal) (e : ParseErr) → Fails (IsDisjunction ts) e → FailsAll (SpellsFormula ts) e
formula_fails_all ts Form h = λ t s. h t [] (s.0, s.1, s.2, omega arith)
formula_fails_all ts Memory h = tt

pub formula_not_all : (ts rest : List Terminal) (u : FormulaTree) → IsDisjunction ts u rest → length rest ≢ 0 → (t : FormulaTree) → SpellsFormula ts t → ⊥
formula_not_all ts rest u h n t s =
    let k : (or_formula h.0 ≡ or_formula s.0) × (rest ≡ []) = unique_or h.0 s.0 rest [] h.3 (omega arith) (sym h.1 ∙ s.1) in
    n (ap length k.1)

-- a word, a formula and `;`
pub piece_fails : (w : ReservedWord) (ts more : List Terminal) (e : ParseErr) → ts ≡ terminal.Word w ∷ more → Fails (IsDisjunction more) e → FailsAll (SpellsFormulaPiece w ts) e
piece_fails w ts more Form m h = λ t s. h t (terminal.Symbol symbol.Semicolon ∷ []) (s.0, tail_of _ _ _ _ (sym m ∙ s.1), s.2, omega arith)
piece_fails w ts more Memory m h = tt

pub piece_goes_on : (w : ReservedWord) (ts more rest : List Terminal) (u : FormulaTree) → ts ≡ terminal.Word w ∷ more → IsDisjunction more u rest → (rest ≡ terminal.Symbol symbol.Semicolon ∷ [] → ⊥) → (t : FormulaTree) → SpellsFormulaPiece w ts t → ⊥
piece_goes_on w ts more rest u m h none t s =
    let k : (or_formula h.0 ≡ or_formula s.0) × (rest ≡ terminal.Symbol symbol.Semicolon ∷ []) = unique_or h.0 s.0 rest (terminal.Symbol symbol.Semicolon ∷ []) h.3 (omega arith) (sym h.1 ∙ tail_of _ _ _ _ (sym m ∙ s.1)) in
    none k.1
