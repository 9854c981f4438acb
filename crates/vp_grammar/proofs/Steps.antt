-- One more factor, and one more term.
use Rattle.std.proofs.Common.{◌≡◌, ℕ, ◌<◌, ◌≤◌, ◌≢◌, length, List, [], ◌∷◌, true, Option, Result, Ok, Err, unsigned_abs, refl, inl, inr, ap, sym, ◌∙◌, arith}
use Rattle.vp_grammar.specs.declared.terminal.Terminal.{Terminal}
use Rattle.vp_grammar.specs.declared.terminal.Operator.TheVariants as operator
use Rattle.vp_grammar.specs.declared.terminal.Symbol.TheVariants as symbol
use Rattle.vp_grammar.specs.declared.terminal.Terminal.TheVariants as terminal
use Rattle.vp_grammar.specs.declared.fault.ParseErr.{ParseErr}
use Rattle.vp_grammar.specs.declared.fault.ParseErr.TheVariants.{Form, Memory}
use Rattle.vp_grammar.specs.declared.front.Sign.{Sign}
use Rattle.vp_grammar.specs.declared.front.Sign.TheVariants.{Plus, Minus}
use Rattle.vp_terms.specs.declared.ratio.Ratio.{Ratio}
use Rattle.vp_terms.specs.declared.expr.Var.{Var}
use Rattle.vp_terms.specs.Tree.{ExprTree, Constant, Place, Sum, Difference, Product, Power}
use Rattle.vp_grammar.specs.Grammar.{Expression, Summed, Start, Positive, Negative, Terms, NoTerms, Added, Subtracted, Term, Factored, Factors, NoFactors, Times, Factor, Alone, Raised, Base, Literal, Named, Timed, Bracketed, expression_then, start_then, terms_then, term_then, factors_then, factor_then, base_then, expression_tree, start_tree, terms_tree, term_tree, factors_tree, factor_tree, base_tree, nought, known, precedence}
use Rattle.vp_grammar.specs.Reads.{IsExpression, IsStart, IsTerm, IsFactor, IsBase, Fails, Reads, Spells, FailsAll, joined_tree}
use Rattle.vp_grammar.specs.Front.{sign_terminal, OpensNothing, HasVariable, IsExponent, IsRaised, NoExponent, NotRaised}
use Rattle.vp_grammar.proofs.Unique.{no_operator, tail_of, no_minus, after_terms, after_factors, unique_expression, unique_start, unique_term, unique_factor, unique_base}

-- a term up to here
pub record TermSoFar (ts : List Terminal) (t : ExprTree) (rest : List Terminal) : Type 0 where
  pub form : Term
  pub spelt : ts ≡ term_then form rest
  pub is : t ≡ term_tree form

pub record SumSoFar (ts : List Terminal) (t : ExprTree) (rest : List Terminal) : Type 0 where
  pub form : Expression
  pub spelt : ts ≡ expression_then form rest
  pub is : t ≡ expression_tree form

-- one more factor at the end
abbrev pub more_factors : Factors → Factor → Factors
more_factors NoFactors g = Times g NoFactors
more_factors (Times f fs) g = Times f (more_factors fs g)

more_factors_then : (fs : Factors) (g : Factor) (rest : List Terminal) → factors_then (more_factors fs g) rest ≡ factors_then fs (terminal.Operator operator.Star ∷ factor_then g rest)
more_factors_then NoFactors g rest = refl
more_factors_then (Times f fs) g rest = ap (λ (ts : List Terminal). terminal.Operator operator.Star ∷ factor_then f ts) (more_factors_then fs g rest)

more_factors_tree : (fs : Factors) (g : Factor) (t : ExprTree) → factors_tree t (more_factors fs g) ≡ Product (factors_tree t fs) (factor_tree g)
more_factors_tree NoFactors g t = refl
more_factors_tree (Times f fs) g t = more_factors_tree fs g (Product t (factor_tree f))

abbrev pub more_term : Term → Factor → Term
more_term (Factored f fs) g = Factored f (more_factors fs g)

more_term_then : (t : Term) (g : Factor) (rest : List Terminal) → term_then (more_term t g) rest ≡ term_then t (terminal.Operator operator.Star ∷ factor_then g rest)
more_term_then (Factored f fs) g rest = ap (λ (ts : List Terminal). factor_then f ts) (more_factors_then fs g rest)

more_term_tree : (t : Term) (g : Factor) → term_tree (more_term t g) ≡ Product (term_tree t) (factor_tree g)
more_term_tree (Factored f fs) g = more_factors_tree fs g (factor_tree f)

-- one more term at the end
abbrev pub signed : Sign → Term → Terms → Terms
signed Plus t ts = Added t ts
signed Minus t ts = Subtracted t ts

abbrev pub more_terms : Terms → Sign → Term → Terms
more_terms NoTerms s u = signed s u NoTerms
more_terms (Added t ts) s u = Added t (more_terms ts s u)
more_terms (Subtracted t ts) s u = Subtracted t (more_terms ts s u)

more_terms_then : (ts : Terms) (s : Sign) (u : Term) (rest : List Terminal) → terms_then (more_terms ts s u) rest ≡ terms_then ts (sign_terminal s ∷ term_then u rest)
more_terms_then NoTerms Plus u rest = refl
more_terms_then NoTerms Minus u rest = refl
more_terms_then (Added t ts) s u rest = ap (λ (xs : List Terminal). terminal.Operator operator.Plus ∷ term_then t xs) (more_terms_then ts s u rest)
more_terms_then (Subtracted t ts) s u rest = ap (λ (xs : List Terminal). terminal.Operator operator.Minus ∷ term_then t xs) (more_terms_then ts s u rest)

more_terms_tree : (ts : Terms) (s : Sign) (u : Term) (t : ExprTree) → terms_tree t (more_terms ts s u) ≡ joined_tree s (terms_tree t ts) (term_tree u)
more_terms_tree NoTerms Plus u t = refl
more_terms_tree NoTerms Minus u t = refl
more_terms_tree (Added v ts) s u t = more_terms_tree ts s u (Sum t (term_tree v))
more_terms_tree (Subtracted v ts) s u t = more_terms_tree ts s u (Difference t (term_tree v))

abbrev pub more_expression : Expression → Sign → Term → Expression
more_expression (Summed t ts) s u = Summed t (more_terms ts s u)

more_expression_then : (e : Expression) (s : Sign) (u : Term) (rest : List Terminal) → expression_then (more_expression e s u) rest ≡ expression_then e (sign_terminal s ∷ term_then u rest)
more_expression_then (Summed t ts) s u rest = ap (λ (xs : List Terminal). start_then t xs) (more_terms_then ts s u rest)

more_expression_tree : (e : Expression) (s : Sign) (u : Term) → expression_tree (more_expression e s u) ≡ joined_tree s (expression_tree e) (term_tree u)
more_expression_tree (Summed t ts) s u = more_terms_tree ts s u (start_tree t)

-- Beginnings and steps of the two loops.
pub term_begins_so : (ts rest : List Terminal) (t : ExprTree) → IsFactor ts t rest → TermSoFar ts t rest
term_begins_so ts rest t h = record { form = Factored h.0 NoFactors; spelt = h.1; is = h.2 }

pub term_goes_on : (ts at more after : List Terminal) (t u : ExprTree) → TermSoFar ts t at → at ≡ terminal.Operator operator.Star ∷ more → IsFactor more u after → TermSoFar ts (Product t u) after
term_goes_on ts at more after t u so_far e h = record {
  form = more_term so_far.form h.0;
  spelt = so_far.spelt ∙ ap (λ (xs : List Terminal). term_then so_far.form xs) (e ∙ ap (λ (xs : List Terminal). terminal.Operator operator.Star ∷ xs) h.1) ∙ sym (more_term_then so_far.form h.0 after);
  is = (let a : t ≡ term_tree so_far.form = so_far.is in let b : u ≡ factor_tree h.0 = h.2 in cc (more_term_tree so_far.form h.0));
}

pub sum_begins_so : (ts rest : List Terminal) (t : ExprTree) → IsStart ts t rest → SumSoFar ts t rest
sum_begins_so ts rest t h = record { form = Summed h.0 NoTerms; spelt = h.1; is = h.2 }

pub sum_goes_on : (ts at more after : List Terminal) (t u : ExprTree) (s : Sign) → SumSoFar ts t at → at ≡ sign_terminal s ∷ more → IsTerm more u after → SumSoFar ts (joined_tree s t u) after
sum_goes_on ts at more after t u s so_far e h = record {
  form = more_expression so_far.form s h.0;
  spelt = so_far.spelt ∙ ap (λ (xs : List Terminal). expression_then so_far.form xs) (e ∙ ap (λ (xs : List Terminal). sign_terminal s ∷ xs) h.1) ∙ sym (more_expression_then so_far.form s h.0 after);
  is = (let a : t ≡ expression_tree so_far.form = so_far.is in let b : u ≡ term_tree h.0 = h.2 in rw (a, b) (sym (more_expression_tree so_far.form s h.0)));
}

-- Where a part fails the whole does, if each form of the whole has one of the part.
abbrev pub Has : {T : Type 0} → (T → List Terminal → Type 0) → Type 0
Has {T} P = (t : T) × (r : List Terminal) × P t r

pub fails : {A B : Type 0} (P : A → List Terminal → Type 0) (Q : B → List Terminal → Type 0) (e : ParseErr) → ((t : B) (r : List Terminal) → Q t r → Has P) → Fails P e → Fails Q e
fails P Q Form f h = λ t r q. let x : Has P = f t r q in h x.0 x.1 x.2
fails P Q Memory f h = tt

pub term_has_factor : (ts : List Terminal) (t : ExprTree) (r : List Terminal) → IsTerm ts t r → Has (IsFactor ts)
term_has_factor ts t r h = from h.0 h.1 h.3
  where
    from : (e : Term) → ts ≡ term_then e r → precedence r < 4 → Has (IsFactor ts)
    from (Factored f fs) e p = (factor_tree f, factors_then fs r, (f, e, refl, after_factors fs r (omega arith)))

factors_go_on : (a b : Factors) (more r : List Terminal) → precedence r < 4 → factors_then a (terminal.Operator operator.Star ∷ more) ≡ factors_then b r → Has (IsFactor more)
factors_go_on NoFactors NoFactors more r p e = no_operator r _ 4 p (sym e) refl
factors_go_on NoFactors (Times g gs) more r p e = (factor_tree g, factors_then gs r, (g, tail_of _ _ _ _ e, refl, after_factors gs r (omega arith)))
factors_go_on (Times f fs) NoFactors more r p e = no_operator r _ 4 p (sym e) refl
factors_go_on (Times f fs) (Times g gs) more r p e =
    let h : (factor_tree f ≡ factor_tree g) × (factors_then fs (terminal.Operator operator.Star ∷ more) ≡ factors_then gs r) = unique_factor f g (factors_then fs (terminal.Operator operator.Star ∷ more)) (factors_then gs r) (after_factors fs (terminal.Operator operator.Star ∷ more) (omega arith)) (after_factors gs r (omega arith)) (tail_of _ _ _ _ e) in
    factors_go_on fs gs more r p h.1

terms_of_factors : (a b : Term) (more r : List Terminal) → precedence r < 4 → term_then a (terminal.Operator operator.Star ∷ more) ≡ term_then b r → Has (IsFactor more)
terms_of_factors (Factored f fs) (Factored g gs) more r p e =
    let h : (factor_tree f ≡ factor_tree g) × (factors_then fs (terminal.Operator operator.Star ∷ more) ≡ factors_then gs r) = unique_factor f g (factors_then fs (terminal.Operator operator.Star ∷ more)) (factors_then gs r) (after_factors fs (terminal.Operator operator.Star ∷ more) (omega arith)) (after_factors gs r (omega arith)) e in
    factors_go_on fs gs more r p h.1

-- a term that goes on by a star has a factor behind the star
pub star_has_factor : (ts at more : List Terminal) (u : ExprTree) → TermSoFar ts u at → at ≡ terminal.Operator operator.Star ∷ more → (t : ExprTree) (r : List Terminal) → IsTerm ts t r → Has (IsFactor more)
star_has_factor ts at more u so_far e t r h = terms_of_factors so_far.form h.0 more r h.3 (ap (λ (xs : List Terminal). term_then so_far.form xs) (sym e) ∙ sym so_far.spelt ∙ h.1)

pub expression_has_start : (ts : List Terminal) (t : ExprTree) (r : List Terminal) → IsExpression ts t r → Has (IsStart ts)
expression_has_start ts t r h = from h.0 h.1 h.3
  where
    from : (e : Expression) → ts ≡ expression_then e r → precedence r < 3 → Has (IsStart ts)
    from (Summed f fs) e p = (start_tree f, terms_then fs r, (f, e, refl, after_terms fs r (omega arith)))

sign_precedence : (s : Sign) (ts : List Terminal) → precedence (sign_terminal s ∷ ts) ≡ 3
sign_precedence Plus ts = refl
sign_precedence Minus ts = refl

terms_go_on : (s : Sign) (a b : Terms) (more r : List Terminal) → precedence r < 3 → terms_then a (sign_terminal s ∷ more) ≡ terms_then b r → Has (IsTerm more)
terms_go_on s NoTerms NoTerms more r p e = no_operator r _ 3 p (sym e) (sign_precedence s more)
terms_go_on s NoTerms (Added g gs) more r p e = (term_tree g, terms_then gs r, (g, tail_of _ _ _ _ e, refl, after_terms gs r (omega arith)))
terms_go_on s NoTerms (Subtracted g gs) more r p e = (term_tree g, terms_then gs r, (g, tail_of _ _ _ _ e, refl, after_terms gs r (omega arith)))
terms_go_on s (Added f fs) NoTerms more r p e = no_operator r _ 3 p (sym e) refl
terms_go_on s (Subtracted f fs) NoTerms more r p e = no_operator r _ 3 p (sym e) refl
terms_go_on s (Added f fs) (Subtracted g gs) more r p e = absurd (cc)
terms_go_on s (Subtracted f fs) (Added g gs) more r p e = absurd (cc)
terms_go_on s (Added f fs) (Added g gs) more r p e =
    let k : precedence (sign_terminal s ∷ more) ≡ 3 = sign_precedence s more in
    let h : (term_tree f ≡ term_tree g) × (terms_then fs (sign_terminal s ∷ more) ≡ terms_then gs r) = unique_term f g (terms_then fs (sign_terminal s ∷ more)) (terms_then gs r) (after_terms fs (sign_terminal s ∷ more) (omega arith)) (after_terms gs r (omega arith)) (tail_of _ _ _ _ e) in
    terms_go_on s fs gs more r p h.1
terms_go_on s (Subtracted f fs) (Subtracted g gs) more r p e =
    let k : precedence (sign_terminal s ∷ more) ≡ 3 = sign_precedence s more in
    let h : (term_tree f ≡ term_tree g) × (terms_then fs (sign_terminal s ∷ more) ≡ terms_then gs r) = unique_term f g (terms_then fs (sign_terminal s ∷ more)) (terms_then gs r) (after_terms fs (sign_terminal s ∷ more) (omega arith)) (after_terms gs r (omega arith)) (tail_of _ _ _ _ e) in
    terms_go_on s fs gs more r p h.1

sums_of_terms : (s : Sign) (a b : Expression) (more r : List Terminal) → precedence r < 3 → expression_then a (sign_terminal s ∷ more) ≡ expression_then b r → Has (IsTerm more)
sums_of_terms s (Summed f fs) (Summed g gs) more r p e =
    let k : precedence (sign_terminal s ∷ more) ≡ 3 = sign_precedence s more in
    let h : (start_tree f ≡ start_tree g) × (terms_then fs (sign_terminal s ∷ more) ≡ terms_then gs r) = unique_start f g (terms_then fs (sign_terminal s ∷ more)) (terms_then gs r) (after_terms fs (sign_terminal s ∷ more) (omega arith)) (after_terms gs r (omega arith)) e in
    terms_go_on s fs gs more r p h.1

-- an expression that goes on by a sign has a term behind the sign
pub sign_has_term : (ts at more : List Terminal) (u : ExprTree) (s : Sign) → SumSoFar ts u at → at ≡ sign_terminal s ∷ more → (t : ExprTree) (r : List Terminal) → IsExpression ts t r → Has (IsTerm more)
sign_has_term ts at more u s so_far e t r h = sums_of_terms s so_far.form h.0 more r h.3 (ap (λ (xs : List Terminal). expression_then so_far.form xs) (sym e) ∙ sym so_far.spelt ∙ h.1)

-- a start with a minus has a term behind it
pub minus_has_term : (ts more : List Terminal) → ts ≡ terminal.Operator operator.Minus ∷ more → (t : ExprTree) (r : List Terminal) → IsStart ts t r → Has (IsTerm more)
minus_has_term ts more m t r h = from h.0 h.1 h.3
  where
    from : (e : Start) → ts ≡ start_then e r → precedence r < 4 → Has (IsTerm more)
    from (Positive u) e p = absurd (no_minus u r more (sym e ∙ m))
    from (Negative u) e p = (term_tree u, r, (u, tail_of _ _ _ _ (sym m ∙ e), refl, p))

pub negative : (ts more r : List Terminal) (z : Ratio) (t : ExprTree) → z ≡ nought → ts ≡ terminal.Operator operator.Minus ∷ more → IsTerm more t r → IsStart ts (Difference (Constant z) t) r
negative ts more r z t none m h =
    let same : t ≡ term_tree h.0 = h.2 in
    (Negative h.0, m ∙ ap (λ (xs : List Terminal). terminal.Operator operator.Minus ∷ xs) h.1, cc, h.3)

-- without a minus a start is a term
pub positive : (ts : List Terminal) (r : List Terminal) (t : ExprTree) → IsTerm ts t r → IsStart ts t r
positive ts r t h = (Positive h.0, h.1, h.2, h.3)

pub positive_has_term : (ts : List Terminal) → ((s : List Terminal) → ts ≡ terminal.Operator operator.Minus ∷ s → ⊥) → (t : ExprTree) (r : List Terminal) → IsStart ts t r → Has (IsTerm ts)
positive_has_term ts none t r h = from h.0 h.1 h.3
  where
    from : (e : Start) → ts ≡ start_then e r → precedence r < 4 → Has (IsTerm ts)
    from (Positive u) e p = (term_tree u, r, (u, e, refl, p))
    from (Negative u) e p = absurd (none (term_then u r) e)

pub reads_start : {X : Type 0} (view : X → ExprTree) (rest : X → List Terminal) (ts : List Terminal) (result : Result X ParseErr) → ((s : List Terminal) → ts ≡ terminal.Operator operator.Minus ∷ s → ⊥) → Reads view rest (IsTerm ts) result → Reads view rest (IsStart ts) result
reads_start view rest ts (Ok x) none h = positive ts (rest x) (view x) h
reads_start view rest ts (Err e) none h = fails (IsTerm ts) (IsStart ts) e (positive_has_term ts none) h

-- exponents
pub exponent_raises : (ts rest after : List Terminal) (n : ℕ) → ts ≡ terminal.Operator operator.Caret ∷ rest → IsExponent rest n after → IsRaised ts n after
exponent_raises ts rest after n m h = (h.0, m ∙ ap (λ (xs : List Terminal). terminal.Operator operator.Caret ∷ xs) h.1, h.2, h.3, h.4)

pub exponent_fails : (ts rest : List Terminal) → ts ≡ terminal.Operator operator.Caret ∷ rest → ((n : ℕ) (after : List Terminal) → IsExponent rest n after → ⊥) → NoExponent ts
exponent_fails ts rest m none = record {
  raised = ap precedence m;
  none = λ n after h. none n after (h.0, tail_of _ _ _ _ (sym m ∙ h.1), h.2, h.3, h.4);
}

-- factors
pub factor_has_base : (ts : List Terminal) (t : ExprTree) (r : List Terminal) → IsFactor ts t r → Has (IsBase ts)
factor_has_base ts t r h = from h.0 h.1
  where
    from : (e : Factor) → ts ≡ factor_then e r → Has (IsBase ts)
    from (Alone b) e = (base_tree b, r, (b, e, refl))
    from (Raised b n i) e = (base_tree b, terminal.Operator operator.Caret ∷ terminal.Number n true ∷ r, (b, e, refl))

pub raised : (ts rest after : List Terminal) (t : ExprTree) (n : ℕ) → IsBase ts t rest → IsRaised rest n after → IsFactor ts (Power t n) after
raised ts rest after t n h x =
    let k : n ≡ unsigned_abs x.0.num = x.2 in
    let small : unsigned_abs x.0.num ≤ 12 = (let m : n ≤ 12 = x.3 in omega arith) in
    let same : t ≡ base_tree h.0 = h.2 in
    (Raised h.0 x.0 small, h.1 ∙ ap (λ (xs : List Terminal). base_then h.0 xs) x.1, cc, x.4)

precedence_most : (ts : List Terminal) → precedence ts ≤ 5
precedence_most [] = omega arith
precedence_most (terminal.Operator operator.Caret ∷ ts) = omega arith
precedence_most (terminal.Operator operator.Star ∷ ts) = omega arith
precedence_most (terminal.Operator operator.Plus ∷ ts) = omega arith
precedence_most (terminal.Operator operator.Minus ∷ ts) = omega arith
precedence_most (terminal.Operator operator.Ampersand ∷ ts) = omega arith
precedence_most (terminal.Operator operator.Bar ∷ ts) = omega arith
precedence_most (_ ∷ ts) = omega arith

pub alone : (ts rest : List Terminal) (t : ExprTree) → IsBase ts t rest → (precedence rest ≡ 5 → ⊥) → IsFactor ts t rest
alone ts rest t h n = (Alone h.0, h.1, h.2, omega (arith, precedence_most rest))

pub no_exponent : (ts rest : List Terminal) (t : ExprTree) (e : ParseErr) → IsBase ts t rest → NotRaised rest e → Fails (IsFactor ts) e
no_exponent ts rest t Memory h n = absurd n
no_exponent ts rest t Form h n = λ u r q. from r q.0 q.1 q.3
  where
    from : (r : List Terminal) (e : Factor) → ts ≡ factor_then e r → precedence r < 5 → ⊥
    from r (Alone b) e p =
        let k : (base_tree h.0 ≡ base_tree b) × (rest ≡ r) = unique_base h.0 b rest r (sym h.1 ∙ e) in
        let l : precedence rest ≡ precedence r = ap precedence k.1 in
        let m : precedence rest ≡ 5 = n.raised in omega arith
    from r (Raised b i j) e p =
        let k : (base_tree h.0 ≡ base_tree b) × (rest ≡ terminal.Operator operator.Caret ∷ terminal.Number i true ∷ r) = unique_base h.0 b rest (terminal.Operator operator.Caret ∷ terminal.Number i true ∷ r) (sym h.1 ∙ e) in
        n.none (unsigned_abs i.num) r (i, k.1, refl, j, p)

-- bases
pub bracket_has_expression : (ts more : List Terminal) → ts ≡ terminal.Symbol symbol.Open ∷ more → (t : ExprTree) (r : List Terminal) → IsBase ts t r → Has (IsExpression more)
bracket_has_expression ts more m t r h = from h.0 h.1
  where
    from : (e : Base) → ts ≡ base_then e r → Has (IsExpression more)
    from (Literal n w) e = absurd (cc)
    from (Named x v) e = absurd (cc)
    from (Timed x v) e = absurd (cc)
    from (Bracketed f) e = (expression_tree f, terminal.Symbol symbol.Close ∷ r, (f, tail_of _ _ _ _ (sym m ∙ e), refl, omega arith))

pub bracketed : (ts more rest after : List Terminal) (t : ExprTree) → ts ≡ terminal.Symbol symbol.Open ∷ more → IsExpression more t rest → rest ≡ terminal.Symbol symbol.Close ∷ after → IsBase ts t after
bracketed ts more rest after t m h e = (Bracketed h.0, m ∙ ap (λ (xs : List Terminal). terminal.Symbol symbol.Open ∷ xs) (h.1 ∙ ap (λ (xs : List Terminal). expression_then h.0 xs) e), h.2)

pub not_closed : (ts more rest : List Terminal) (t : ExprTree) → ts ≡ terminal.Symbol symbol.Open ∷ more → IsExpression more t rest → ((s : List Terminal) → rest ≡ terminal.Symbol symbol.Close ∷ s → ⊥) → (u : ExprTree) (r : List Terminal) → IsBase ts u r → ⊥
not_closed ts more rest t m h none u r q = from q.0 q.1
  where
    from : (e : Base) → ts ≡ base_then e r → ⊥
    from (Literal n w) e = cc
    from (Named x v) e = cc
    from (Timed x v) e = cc
    from (Bracketed f) e =
        let k : (expression_tree h.0 ≡ expression_tree f) × (rest ≡ terminal.Symbol symbol.Close ∷ r) = unique_expression h.0 f rest (terminal.Symbol symbol.Close ∷ r) h.3 (omega arith) (sym h.1 ∙ tail_of _ _ _ _ (sym m ∙ e)) in
        none r k.1

pub opens_nothing : (ts : List Terminal) → OpensNothing ts → (u : ExprTree) (r : List Terminal) → IsBase ts u r → ⊥
opens_nothing ts none u r q = from q.0 q.1
  where
    from : (e : Base) → ts ≡ base_then e r → ⊥
    from (Literal n w) e = none.number n w r e
    from (Named x v) e = none.name x v r e
    from (Timed x v) e = none.variable x v r e
    from (Bracketed f) e = none.bracket (expression_then f (terminal.Symbol symbol.Close ∷ r)) e

pub variable : (ts rest : List Terminal) (v : Option Var) → HasVariable ts v rest → IsBase ts (Place (known v)) rest
variable ts rest v (inl h) = (Named h.0 v, h.1, refl)
variable ts rest v (inr h) = (Timed h.0 v, h.1, refl)

-- all of the terminals
pub spelt_is_expression : (ts : List Terminal) (t : ExprTree) → Spells ts t → IsExpression ts t []
spelt_is_expression ts t h = (h.0, h.1, h.2, omega arith)

pub fails_all : (ts : List Terminal) (e : ParseErr) → Fails (IsExpression ts) e → FailsAll (Spells ts) e
fails_all ts Form h = λ t s. h t [] (spelt_is_expression ts t s)
fails_all ts Memory h = tt

pub not_all : (ts rest : List Terminal) (u : ExprTree) → IsExpression ts u rest → length rest ≢ 0 → (t : ExprTree) → Spells ts t → ⊥
not_all ts rest u h n t s =
    let k : (expression_tree h.0 ≡ expression_tree s.0) × (rest ≡ []) = unique_expression h.0 s.0 rest [] h.3 (omega arith) (sym h.1 ∙ s.1) in
    n (ap length k.1)
