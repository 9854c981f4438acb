-- Where the tree of declared terminals of a controller is well formed, none of their variables strays.
use Rattle.std.proofs.Common.{ℕ, ◌+◌, ◌≡◌, Bool, true, false, ◌&&◌, IsTrue, List, [], ◌∷◌, ◌++◌, Option, None, Some, nat_lt, if◌then◌else◌, refl, ap, sym, ◌∙◌, append_assoc}
use Rattle.std.specs.List.{list_all}
use Rattle.std.proofs.lemmas.List.{append-nil}
use Rattle.vp_terms.specs.declared.expr.Var.{Var}
use Rattle.vp_terms.specs.declared.expr.Var.TheVariants as variable
use Rattle.vp_terms.specs.declared.expr.Places.{Places}
use Rattle.vp_terms.specs.declared.prog.Prog.{Prog}
use Rattle.vp_terms.specs.WellFormed.{in_model, is_good_prog}
use Rattle.vp_terms.specs.Tree.{prog_tree}
use Rattle.vp_lex.specs.declared.word.ReservedWord.TheVariants as word
use Rattle.vp_grammar.specs.declared.strays.Rule.TheVariants.{Controller}
use Rattle.vp_grammar.specs.declared.terminal.Span.{Span}
use Rattle.vp_grammar.specs.declared.terminal.Operator.TheVariants as operator
use Rattle.vp_grammar.specs.declared.terminal.Symbol.TheVariants as symbol
use Rattle.vp_grammar.specs.declared.terminal.Terminal.{Terminal}
use Rattle.vp_grammar.specs.declared.terminal.Terminal.TheVariants as terminal
use Rattle.vp_grammar.specs.Grammar.{Expression, Summed, Start, Positive, Negative, Terms, NoTerms, Added, Subtracted, Term, Factored, Factors, NoFactors, Times, Factor, Alone, Raised, Base, Literal, Named, Timed, Bracketed, expression_then, start_then, terms_then, term_then, factors_then, factor_then, base_then, expression_tree}
use Rattle.vp_grammar.specs.Formulas.{Disjunction, OrList, OrRest, NoOrs, Or, Conjunction, AndList, AndRest, NoAnds, And, Lit, Truth, Falsity, Group, NotGroup, Comparison, or_then, ors_then, and_then, ands_then, lit_then, or_formula}
use Rattle.vp_grammar.specs.Controllers.{Choice, Single, Several, Block, Braced, Statements, NoStatements, Stated, Statement, Freed, Assigned, Tested, Nested, Guarded, Forked, choice_then, block_then, statements_then, statement_then, choice_tree, block_tree, statements_tree, statement_tree, control_of, SpellsController}
use Rattle.vp_grammar.specs.Strays.{assigns, first_stray, is_control, is_declared, is_known, sets_controls}
use Rattle.vp_grammar.proofs.Good.{all_before, is_good_condition, is_good_program, is_good_tree, may_control, may_stand}
use Rattle.vp_grammar.proofs.GoodTrees.{and_both, both}
use Rattle.vp_grammar.proofs.GoodControllers.{good_prog_is}
use Rattle.vp_grammar.proofs.Kept.{expression_kept, formula_kept}

-- ---- terminals of expressions and formulas: no `:=` is among them

abbrev is_free : Terminal → Bool
is_free (terminal.Symbol symbol.Assign) = false
is_free t = true

-- a form spells these terminals in front of any others
abbrev Fronts : (List Terminal → List Terminal) → Type 0
Fronts f = (xs : List Terminal) × ((rest : List Terminal) → f rest ≡ xs ++ rest) × IsTrue (list_all is_free xs)

all_joined : (g : Terminal → Bool) (xs ys : List Terminal) → IsTrue (list_all g xs) → IsTrue (list_all g ys) → IsTrue (list_all g (xs ++ ys))
all_joined g [] ys h k = k
all_joined g (x ∷ xs) ys h k = let a : IsTrue (g x) × IsTrue (list_all g xs) = both (g x) (list_all g xs) h in and_both (g x) (list_all g (xs ++ ys)) a.0 (all_joined g xs ys a.1 k)

alone : Fronts (λ rest. rest)
alone = ([], λ rest. refl, refl)

joined : (f g : List Terminal → List Terminal) → Fronts f → Fronts g → Fronts (λ rest. f (g rest))
joined f g a b = (a.0 ++ b.0, λ rest. a.1 (g rest) ∙ ap (λ (zs : List Terminal). a.0 ++ zs) (b.1 rest) ∙ sym (append_assoc a.0 b.0 rest), all_joined is_free a.0 b.0 a.2 b.2)

behind : (t : Terminal) (f : List Terminal → List Terminal) → IsTrue (is_free t) → Fronts f → Fronts (λ rest. t ∷ f rest)
behind t f h a = (t ∷ a.0, λ rest. ap (λ (zs : List Terminal). t ∷ zs) (a.1 rest), and_both (is_free t) (list_all is_free a.0) h a.2)

mutual
  expression_fronts : (e : Expression) → Fronts (expression_then e)
  expression_fronts (Summed t ts) = joined (start_then t) (terms_then ts) (start_fronts t) (terms_fronts ts)

  start_fronts : (e : Start) → Fronts (start_then e)
  start_fronts (Positive t) = term_fronts t
  start_fronts (Negative t) = behind (terminal.Operator operator.Minus) (term_then t) refl (term_fronts t)

  terms_fronts : (ts : Terms) → Fronts (terms_then ts)
  terms_fronts NoTerms = alone
  terms_fronts (Added t ts) = behind (terminal.Operator operator.Plus) (λ rest. term_then t (terms_then ts rest)) refl (joined (term_then t) (terms_then ts) (term_fronts t) (terms_fronts ts))
  terms_fronts (Subtracted t ts) = behind (terminal.Operator operator.Minus) (λ rest. term_then t (terms_then ts rest)) refl (joined (term_then t) (terms_then ts) (term_fronts t) (terms_fronts ts))

  term_fronts : (e : Term) → Fronts (term_then e)
  term_fronts (Factored f fs) = joined (factor_then f) (factors_then fs) (factor_fronts f) (factors_fronts fs)

  factors_fronts : (fs : Factors) → Fronts (factors_then fs)
  factors_fronts NoFactors = alone
  factors_fronts (Times f fs) = behind (terminal.Operator operator.Star) (λ rest. factor_then f (factors_then fs rest)) refl (joined (factor_then f) (factors_then fs) (factor_fronts f) (factors_fronts fs))

  factor_fronts : (e : Factor) → Fronts (factor_then e)
  factor_fronts (Alone b) = base_fronts b
  factor_fronts (Raised b r i) = joined (base_then b) (λ rest. terminal.Operator operator.Caret ∷ terminal.Number r true ∷ rest) (base_fronts b) (behind (terminal.Operator operator.Caret) (λ rest. terminal.Number r true ∷ rest) refl (behind (terminal.Number r true) (λ rest. rest) refl alone))

  base_fronts : (e : Base) → Fronts (base_then e)
  base_fronts (Literal r w) = behind (terminal.Number r w) (λ rest. rest) refl alone
  base_fronts (Named s v) = behind (terminal.Name s v) (λ rest. rest) refl alone
  base_fronts (Timed s v) = behind (terminal.Variable s v) (λ rest. rest) refl alone
  base_fronts (Bracketed e) = behind (terminal.Symbol symbol.Open) (λ rest. expression_then e (terminal.Symbol symbol.Close ∷ rest)) refl (joined (expression_then e) (λ rest. terminal.Symbol symbol.Close ∷ rest) (expression_fronts e) (behind (terminal.Symbol symbol.Close) (λ rest. rest) refl alone))

mutual
  formula_fronts : (e : Disjunction) → Fronts (or_then e)
  formula_fronts (OrList f fs) = joined (and_then f) (ors_then fs) (conjunction_fronts f) (ors_fronts fs)

  ors_fronts : (fs : OrRest) → Fronts (ors_then fs)
  ors_fronts NoOrs = alone
  ors_fronts (Or f fs) = behind (terminal.Operator operator.Bar) (λ rest. and_then f (ors_then fs rest)) refl (joined (and_then f) (ors_then fs) (conjunction_fronts f) (ors_fronts fs))

  conjunction_fronts : (e : Conjunction) → Fronts (and_then e)
  conjunction_fronts (AndList f fs) = joined (lit_then f) (ands_then fs) (lit_fronts f) (ands_fronts fs)

  ands_fronts : (fs : AndRest) → Fronts (ands_then fs)
  ands_fronts NoAnds = alone
  ands_fronts (And f fs) = behind (terminal.Operator operator.Ampersand) (λ rest. lit_then f (ands_then fs rest)) refl (joined (lit_then f) (ands_then fs) (lit_fronts f) (ands_fronts fs))

  lit_fronts : (e : Lit) → Fronts (lit_then e)
  lit_fronts Truth = behind (terminal.Word word.True) (λ rest. rest) refl alone
  lit_fronts Falsity = behind (terminal.Word word.False) (λ rest. rest) refl alone
  lit_fronts (Group f) = behind (terminal.Symbol symbol.SquareOpen) (λ rest. or_then f (terminal.Symbol symbol.SquareClose ∷ rest)) refl (joined (or_then f) (λ rest. terminal.Symbol symbol.SquareClose ∷ rest) (formula_fronts f) (behind (terminal.Symbol symbol.SquareClose) (λ rest. rest) refl alone))
  lit_fronts (NotGroup f) = behind (terminal.Symbol symbol.Bang) (λ rest. terminal.Symbol symbol.SquareOpen ∷ or_then f (terminal.Symbol symbol.SquareClose ∷ rest)) refl (behind (terminal.Symbol symbol.SquareOpen) (λ rest. or_then f (terminal.Symbol symbol.SquareClose ∷ rest)) refl (joined (or_then f) (λ rest. terminal.Symbol symbol.SquareClose ∷ rest) (formula_fronts f) (behind (terminal.Symbol symbol.SquareClose) (λ rest. rest) refl alone)))
  lit_fronts (Comparison e c f) = joined (expression_then e) (λ rest. terminal.Compare c ∷ expression_then f rest) (expression_fronts e) (behind (terminal.Compare c) (expression_then f) refl (expression_fronts f))

-- ---- such terminals in a controller

-- behind such a terminal no name was set
free_head : (t : Terminal) (ts : List Terminal) → IsTrue (is_free t) → assigns (t ∷ ts) ≡ false
free_head (terminal.Word w) ts h = refl
free_head (terminal.Symbol symbol.Semicolon) ts h = refl
free_head (terminal.Symbol symbol.Comma) ts h = refl
free_head (terminal.Symbol symbol.Open) ts h = refl
free_head (terminal.Symbol symbol.Close) ts h = refl
free_head (terminal.Symbol symbol.SquareOpen) ts h = refl
free_head (terminal.Symbol symbol.SquareClose) ts h = refl
free_head (terminal.Symbol symbol.BraceOpen) ts h = refl
free_head (terminal.Symbol symbol.BraceClose) ts h = refl
free_head (terminal.Symbol symbol.Choice) ts h = refl
free_head (terminal.Symbol symbol.Prime) ts h = refl
free_head (terminal.Symbol symbol.Assign) ts h = absurd (cc)
free_head (terminal.Symbol symbol.Question) ts h = refl
free_head (terminal.Symbol symbol.Bang) ts h = refl
free_head (terminal.Operator o) ts h = refl
free_head (terminal.Compare c) ts h = refl
free_head (terminal.Number r w) ts h = refl
free_head (terminal.Name s v) ts h = refl
free_head (terminal.Variable s v) ts h = refl

free_front : (xs rest : List Terminal) → IsTrue (list_all is_free xs) → assigns rest ≡ false → assigns (xs ++ rest) ≡ false
free_front [] rest h l = l
free_front (x ∷ xs) rest h l = free_head x (xs ++ rest) (both (is_free x) (list_all is_free xs) h).0

-- what may stand in the model's formulas may stand in a controller where no name is set
may_control_of : (p : Places) (t : Terminal) (ts : List Terminal) → assigns ts ≡ false → IsTrue (may_stand in_model p t) → IsTrue (may_control p t ts)
may_control_of p (terminal.Word w) ts l h = h
may_control_of p (terminal.Symbol s) ts l h = h
may_control_of p (terminal.Operator o) ts l h = h
may_control_of p (terminal.Compare c) ts l h = h
may_control_of p (terminal.Number r w) ts l h = h
may_control_of p (terminal.Name s v) ts l h = rw l h
may_control_of p (terminal.Variable s v) ts l h = h

front_controls : (p : Places) (xs rest : List Terminal) → IsTrue (list_all is_free xs) → assigns rest ≡ false → IsTrue (list_all (may_stand in_model p) xs) → IsTrue (all_before (may_control p) rest) → IsTrue (all_before (may_control p) (xs ++ rest))
front_controls p [] rest h l m k = k
front_controls p (x ∷ xs) rest h l m k =
    let a : IsTrue (is_free x) × IsTrue (list_all is_free xs) = both (is_free x) (list_all is_free xs) h in
    let b : IsTrue (may_stand in_model p x) × IsTrue (list_all (may_stand in_model p) xs) = both (may_stand in_model p x) (list_all (may_stand in_model p) xs) m in
    and_both (may_control p x (xs ++ rest)) (all_before (may_control p) (xs ++ rest)) (may_control_of p x (xs ++ rest) (free_front xs rest a.1 l) b.0) (front_controls p xs rest a.1 l b.1 k)

-- terminals that are declared, of which each name before `:=` is a control's
pub record Fit (ts : List Terminal) : Type 0 where
  pub declared : IsTrue (list_all is_declared ts)
  pub controls : IsTrue (sets_controls ts)

rest_sets : (t : Terminal) (ts : List Terminal) → IsTrue (sets_controls (t ∷ ts)) → IsTrue (sets_controls ts)
rest_sets (terminal.Word w) ts h = h
rest_sets (terminal.Symbol s) ts h = h
rest_sets (terminal.Operator o) ts h = h
rest_sets (terminal.Compare c) ts h = h
rest_sets (terminal.Number r w) ts h = h
rest_sets (terminal.Name s v) ts h = (both _ (sets_controls ts) h).1
rest_sets (terminal.Variable s v) ts h = h

next : (t : Terminal) (ts : List Terminal) → Fit (t ∷ ts) → Fit ts
next t ts h = record { declared = (both (is_declared t) (list_all is_declared ts) h.declared).1; controls = rest_sets t ts h.controls }

over : (xs ts : List Terminal) → Fit (xs ++ ts) → IsTrue (list_all is_declared xs) × Fit ts
over [] ts h = (refl, h)
over (x ∷ xs) ts h =
    let a : IsTrue (list_all is_declared xs) × Fit ts = over xs ts (next x (xs ++ ts) h) in
    (and_both (is_declared x) (list_all is_declared xs) (both (is_declared x) (list_all is_declared (xs ++ ts)) h.declared).0 a.0, a.1)

fit_same : (ts us : List Terminal) → ts ≡ us → Fit ts → Fit us
fit_same ts us e h = record { declared = sym (ap (list_all is_declared) e) ∙ h.declared; controls = sym (ap sets_controls e) ∙ h.controls }

module _ (p : Places) where
  abbrev Stands : List Terminal → Type 0
  Stands ts = IsTrue (all_before (may_control p) ts)

  -- a form in front of terminals that may stand there
  fronted : (f : List Terminal → List Terminal) (good : Bool) (rest : List Terminal) → Fronts f → ((d : IsTrue (list_all is_declared (f []))) → IsTrue good → IsTrue (list_all (may_stand in_model p) (f []))) →
      assigns rest ≡ false → Fit (f rest) → Fit rest × (IsTrue good → Stands rest → Stands (f rest))
  fronted f good rest a kept l h =
      let b : IsTrue (list_all is_declared a.0) × Fit rest = over a.0 rest (fit_same (f rest) (a.0 ++ rest) (a.1 rest) h) in
      let e : f [] ≡ a.0 = a.1 [] ∙ append-nil a.0 in (
        b.1,
        λ g s.
            let m : IsTrue (list_all (may_stand in_model p) a.0) = sym (ap (list_all (may_stand in_model p)) e) ∙ kept (ap (list_all is_declared) e ∙ b.0) g in
            ap (all_before (may_control p)) (a.1 rest) ∙ front_controls p a.0 rest a.2 l m s,
      )

  expression_controls : (e : Expression) (rest : List Terminal) → assigns rest ≡ false → Fit (expression_then e rest) → Fit rest × (IsTrue (is_good_tree in_model p (expression_tree e)) → Stands rest → Stands (expression_then e rest))
  expression_controls e rest = fronted (expression_then e) (is_good_tree in_model p (expression_tree e)) rest (expression_fronts e) (λ d g. (expression_kept in_model p e [] d).1 g refl)

  formula_controls : (e : Disjunction) (rest : List Terminal) → assigns rest ≡ false → Fit (or_then e rest) → Fit rest × (IsTrue (is_good_condition in_model p (or_formula e)) → Stands rest → Stands (or_then e rest))
  formula_controls e rest = fronted (or_then e) (is_good_condition in_model p (or_formula e)) rest (formula_fronts e) (λ d g. (formula_kept in_model p e [] d).1 g refl)

  -- a name that is set is a control's, and of the model where the tree is well formed
  set_control : (v : Option Var) (s : Span) (ts : List Terminal) → Fit (terminal.Name s v ∷ terminal.Symbol symbol.Assign ∷ ts) → IsTrue (nat_lt (control_of v) p.controls) → IsTrue (is_control p v)
  set_control None s ts h g = absurd (cc)
  set_control (Some (variable.Param i)) s ts h g = let c = h.controls in absurd (cc)
  set_control (Some (variable.State i)) s ts h g = let c = h.controls in absurd (cc)
  set_control (Some (variable.Control i)) s ts h g = g
  set_control (Some (variable.NextState i)) s ts h g = let c = h.controls in absurd (cc)
  set_control (Some (variable.NextControl i)) s ts h g = let c = h.controls in absurd (cc)
  set_control (Some variable.Tau) s ts h g = let c = h.controls in absurd (cc)

  abbrev Goes : Bool → List Terminal → List Terminal → Type 0
  Goes good rest all = Fit rest × (IsTrue good → Stands rest → Stands all)

  mutual
    choice_controls : (c : Choice) (rest : List Terminal) → Fit (choice_then c rest) → Goes (is_good_program p (choice_tree c)) rest (choice_then c rest)
    choice_controls (Single b) rest h = block_controls b rest h
    choice_controls (Several b c) rest h =
        let tail : List Terminal = terminal.Symbol symbol.Choice ∷ choice_then c rest in
        let x : Goes (is_good_program p (block_tree b)) tail (block_then b tail) = block_controls b tail h in
        let y : Goes (is_good_program p (choice_tree c)) rest (choice_then c rest) = choice_controls c rest (next (terminal.Symbol symbol.Choice) (choice_then c rest) x.0) in
        (y.0, λ g s. let a : IsTrue (is_good_program p (block_tree b)) × IsTrue (is_good_program p (choice_tree c)) = both (is_good_program p (block_tree b)) (is_good_program p (choice_tree c)) g in x.1 a.0 (y.1 a.1 s))

    block_controls : (b : Block) (rest : List Terminal) → Fit (block_then b rest) → Goes (is_good_program p (block_tree b)) rest (block_then b rest)
    block_controls (Braced ss) rest h =
        let tail : List Terminal = terminal.Symbol symbol.BraceClose ∷ rest in
        let x : Goes (is_good_program p (statements_tree ss)) tail (statements_then ss tail) = statements_controls ss tail (next (terminal.Symbol symbol.BraceOpen) (statements_then ss tail) h) in
        (next (terminal.Symbol symbol.BraceClose) rest x.0, x.1)

    statements_controls : (ss : Statements) (rest : List Terminal) → Fit (statements_then ss rest) → Goes (is_good_program p (statements_tree ss)) rest (statements_then ss rest)
    statements_controls NoStatements rest h = (h, λ g s. s)
    statements_controls (Stated s NoStatements) rest h = statement_controls s rest h
    statements_controls (Stated s (Stated t ts)) rest h =
        let tail : List Terminal = statements_then (Stated t ts) rest in
        let x : Goes (is_good_program p (statement_tree s)) tail (statement_then s tail) = statement_controls s tail h in
        let y : Goes (is_good_program p (statements_tree (Stated t ts))) rest tail = statements_controls (Stated t ts) rest x.0 in
        (y.0, λ g k. let a : IsTrue (is_good_program p (statement_tree s)) × IsTrue (is_good_program p (statements_tree (Stated t ts))) = both (is_good_program p (statement_tree s)) (is_good_program p (statements_tree (Stated t ts))) g in x.1 a.0 (y.1 a.1 k))

    statement_controls : (s : Statement) (rest : List Terminal) → Fit (statement_then s rest) → Goes (is_good_program p (statement_tree s)) rest (statement_then s rest)
    statement_controls (Freed s v) rest h =
        let end : List Terminal = terminal.Symbol symbol.Semicolon ∷ rest in
        let star : List Terminal = terminal.Operator operator.Star ∷ end in
        let set : List Terminal = terminal.Symbol symbol.Assign ∷ star in
        let x : Fit rest = next (terminal.Symbol symbol.Semicolon) rest (next (terminal.Operator operator.Star) end (next (terminal.Symbol symbol.Assign) star (next (terminal.Name s v) set h))) in
        (x, λ g k. and_both (is_control p v) (all_before (may_control p) rest) (set_control v s star h g) k)
    statement_controls (Assigned s v e) rest h =
        let end : List Terminal = terminal.Symbol symbol.Semicolon ∷ rest in
        let body : List Terminal = expression_then e end in
        let x : Goes (is_good_tree in_model p (expression_tree e)) end body = expression_controls e end refl (next (terminal.Symbol symbol.Assign) body (next (terminal.Name s v) (terminal.Symbol symbol.Assign ∷ body) h)) in (
          next (terminal.Symbol symbol.Semicolon) rest x.0,
          λ g k.
              let a : IsTrue (nat_lt (control_of v) p.controls) × IsTrue (is_good_tree in_model p (expression_tree e)) = both (nat_lt (control_of v) p.controls) (is_good_tree in_model p (expression_tree e)) g in
              and_both (is_control p v) (all_before (may_control p) body) (set_control v s body h a.0) (x.1 a.1 k),
        )
    statement_controls (Tested f) rest h =
        let end : List Terminal = terminal.Symbol symbol.Semicolon ∷ rest in
        let x : Goes (is_good_condition in_model p (or_formula f)) end (or_then f end) = formula_controls f end refl (next (terminal.Symbol symbol.Question) (or_then f end) h) in
        (next (terminal.Symbol symbol.Semicolon) rest x.0, x.1)
    statement_controls (Nested c) rest h = choice_controls c rest h
    statement_controls (Guarded f b) rest h =
        let tail : List Terminal = terminal.Symbol symbol.SquareClose ∷ block_then b rest in
        let x : Goes (is_good_condition in_model p (or_formula f)) tail (or_then f tail) = formula_controls f tail refl (next (terminal.Symbol symbol.SquareOpen) (or_then f tail) (next (terminal.Word word.If) (terminal.Symbol symbol.SquareOpen ∷ or_then f tail) h)) in
        let y : Goes (is_good_program p (block_tree b)) rest (block_then b rest) = block_controls b rest (next (terminal.Symbol symbol.SquareClose) (block_then b rest) x.0) in (
          y.0,
          λ g k.
              let a : IsTrue (is_good_condition in_model p (or_formula f)) × IsTrue (is_good_program p (block_tree b) && true) = both (is_good_condition in_model p (or_formula f)) (is_good_program p (block_tree b) && true) g in
              x.1 a.0 (y.1 (both (is_good_program p (block_tree b)) true a.1).0 k),
        )
    statement_controls (Forked f b c) rest h =
        let other : List Terminal = terminal.Word word.Else ∷ block_then c rest in
        let tail : List Terminal = terminal.Symbol symbol.SquareClose ∷ block_then b other in
        let x : Goes (is_good_condition in_model p (or_formula f)) tail (or_then f tail) = formula_controls f tail refl (next (terminal.Symbol symbol.SquareOpen) (or_then f tail) (next (terminal.Word word.If) (terminal.Symbol symbol.SquareOpen ∷ or_then f tail) h)) in
        let y : Goes (is_good_program p (block_tree b)) other (block_then b other) = block_controls b other (next (terminal.Symbol symbol.SquareClose) (block_then b other) x.0) in
        let z : Goes (is_good_program p (block_tree c)) rest (block_then c rest) = block_controls c rest (next (terminal.Word word.Else) (block_then c rest) y.0) in (
          z.0,
          λ g k.
              let a : IsTrue (is_good_condition in_model p (or_formula f)) × IsTrue (is_good_program p (block_tree b) && is_good_program p (block_tree c)) = both (is_good_condition in_model p (or_formula f)) (is_good_program p (block_tree b) && is_good_program p (block_tree c)) g in
              let d : IsTrue (is_good_program p (block_tree b)) × IsTrue (is_good_program p (block_tree c)) = both (is_good_program p (block_tree b)) (is_good_program p (block_tree c)) a.1 in
              x.1 a.0 (y.1 d.0 (z.1 d.1 k)),
        )

  -- terminals that may all stand there: none strays
  unguard : (b : Bool) (o : Option Span) (s : Span) (c : Bool) → IsTrue (b && c) → (IsTrue c → o ≡ None) → (if b then o else Some s) ≡ None
  unguard true o s c h f = f h
  unguard false o s c h f = absurd (cc)

  none_strays : (i : ℕ) (ts : List Terminal) → Stands ts → first_stray Controller p i ts ≡ None
  none_strays i [] h = refl
  none_strays i (terminal.Name s v ∷ ts) h = unguard (if assigns ts then is_control p v else is_known in_model p v) (first_stray Controller p (if assigns ts then i + 1 else i) ts) s (all_before (may_control p) ts) h (λ g. none_strays (if assigns ts then i + 1 else i) ts g)
  none_strays i (terminal.Variable s v ∷ ts) h = unguard (is_known in_model p v) (first_stray Controller p i ts) s (all_before (may_control p) ts) h (λ g. none_strays i ts g)
  none_strays i (terminal.Word w ∷ ts) h = none_strays i ts h
  none_strays i (terminal.Symbol s ∷ ts) h = none_strays i ts h
  none_strays i (terminal.Operator o ∷ ts) h = none_strays i ts h
  none_strays i (terminal.Compare c ∷ ts) h = none_strays i ts h
  none_strays i (terminal.Number r w ∷ ts) h = none_strays i ts h

pub kept_controller : (p : Places) (g : Prog) (ts : List Terminal) → SpellsController ts (prog_tree g) → IsTrue (list_all is_declared ts) → IsTrue (sets_controls ts) → IsTrue (is_good_prog p g) → first_stray Controller p 0 ts ≡ None
kept_controller p g ts s d c good =
    let end : List Terminal = terminal.Symbol symbol.Semicolon ∷ [] in
    let these : Fit (choice_then s.0 end) = next (terminal.Word word.Ctrl) (choice_then s.0 end) (fit_same ts (terminal.Word word.Ctrl ∷ choice_then s.0 end) s.1 (record { declared = d; controls = c })) in
    let tree : IsTrue (is_good_program p (choice_tree s.0)) = ap (is_good_program p) (sym s.2) ∙ sym (good_prog_is p g) ∙ good in
    none_strays p 0 ts (ap (all_before (may_control p)) s.1 ∙ (choice_controls p s.0 end these).1 tree refl)
