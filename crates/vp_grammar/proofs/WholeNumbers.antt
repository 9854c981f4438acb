-- Terminals whose numbers are whole are those of expressions and certificates with whole numbers alone.
use Rattle.std.proofs.Common.{◌≡◌, List, [], ◌∷◌, map, Bool, true, false, not, ◌&&◌, ◌||◌, IsTrue, pos, unsigned_abs, refl, ap, sym, ◌∙◌}
use Rattle.std.specs.List.{list_all}
use Rattle.std.specs.Ordering.{int_eq}
use Rattle.vp_terms.specs.declared.ratio.Ratio.{Ratio}
use Rattle.vp_terms.specs.declared.expr.Expr.{Expr}
use Rattle.vp_terms.specs.declared.expr.Expr.TheVariants.{Num, Var as Variable, Add', Sub', Mul', Pow'}
use Rattle.vp_terms.specs.declared.package.Cert.{Cert}
use Rattle.vp_terms.specs.declared.package.CertTerm.{CertTerm}
use Rattle.vp_terms.specs.declared.package.CertTerm.TheVariants as term
use Rattle.vp_terms.specs.Certificates.{IsCertificate, begins_with_one_pos, has_whole_numbers, is_pos, term_has_whole_numbers}
use Rattle.vp_terms.specs.Tree.{ExprTree, Constant, Place, Sum, Difference, Product as ProductOf, Power, expr_tree}
use Rattle.vp_grammar.specs.declared.terminal.Operator.TheVariants as operator
use Rattle.vp_grammar.specs.declared.terminal.Symbol.TheVariants as symbol
use Rattle.vp_lex.specs.declared.word.ReservedWord.TheVariants as word
use Rattle.vp_grammar.specs.declared.terminal.Terminal.{Terminal}
use Rattle.vp_grammar.specs.declared.terminal.Terminal.TheVariants as terminal
use Rattle.vp_grammar.specs.Grammar.{Expression, Summed, Start, Positive, Negative, Terms, NoTerms, Added, Subtracted, Term, Factored, Factors, NoFactors, Times, Factor, Alone, Raised, Base, Literal, Named, Timed, Bracketed, expression_then, start_then, terms_then, term_then, factors_then, factor_then, base_then, expression_tree, start_tree, terms_tree, term_tree as tree_of_term, factors_tree, factor_tree, base_tree}
use Rattle.vp_grammar.specs.Certificates.{CertForm, Later, Summed as SummedTerm, Equated, labels_then, of_then, squares_then, later_then, laters_then, cert_terminals, is_no_fraction, is_whole_number, later_tree, label_of, part_word, SpellsCert}
use Rattle.vp_terms.specs.Packages.{TermTree, Product, Squares, Multiple, term_tree, cert_tree}
use Rattle.vp_grammar.proofs.GoodTrees.{both, and_both}
use Rattle.vp_grammar.proofs.EntrySteps.{semicolon}

-- trees without boxes
abbrev is_whole_tree : ExprTree → Bool
is_whole_tree (Constant r) = int_eq r.den (pos 1)
is_whole_tree (Place v) = true
is_whole_tree (Sum e f) = is_whole_tree e && is_whole_tree f
is_whole_tree (Difference e f) = is_whole_tree e && is_whole_tree f
is_whole_tree (ProductOf e f) = is_whole_tree e && is_whole_tree f
is_whole_tree (Power e n) = is_whole_tree e

whole_expr_is : (e : Expr) → has_whole_numbers e ≡ is_whole_tree (expr_tree e)
whole_expr_is (Num r) = refl
whole_expr_is (Variable v) = refl
whole_expr_is (Add' l e r f) = let a = whole_expr_is e in let b = whole_expr_is f in cc
whole_expr_is (Sub' l e r f) = let a = whole_expr_is e in let b = whole_expr_is f in cc
whole_expr_is (Mul' l e r f) = let a = whole_expr_is e in let b = whole_expr_is f in cc
whole_expr_is (Pow' l e n) = whole_expr_is e

-- each number of the terminals is whole
abbrev has_whole : Terminal → Bool
has_whole (terminal.Number r w) = int_eq r.den (pos 1)
has_whole t = true

abbrev Wholes : List Terminal → Type 0
Wholes ts = IsTrue (list_all has_whole ts)

behind : (t : Terminal) (ts : List Terminal) → Wholes (t ∷ ts) → Wholes ts
behind t ts h = (both (has_whole t) (list_all has_whole ts) h).1

mutual
  expression_whole : (e : Expression) (rest : List Terminal) → Wholes (expression_then e rest) → IsTrue (is_whole_tree (expression_tree e)) × Wholes rest
  expression_whole (Summed t ts) rest h =
      let a : IsTrue (is_whole_tree (start_tree t)) × Wholes (terms_then ts rest) = start_whole t (terms_then ts rest) h in
      terms_whole (start_tree t) ts rest a.0 a.1

  start_whole : (e : Start) (rest : List Terminal) → Wholes (start_then e rest) → IsTrue (is_whole_tree (start_tree e)) × Wholes rest
  start_whole (Positive t) rest h = term_whole t rest h
  start_whole (Negative t) rest h = term_whole t rest (behind (terminal.Operator operator.Minus) (term_then t rest) h)

  terms_whole : (sum : ExprTree) (ts : Terms) (rest : List Terminal) → IsTrue (is_whole_tree sum) → Wholes (terms_then ts rest) → IsTrue (is_whole_tree (terms_tree sum ts)) × Wholes rest
  terms_whole sum NoTerms rest s h = (s, h)
  terms_whole sum (Added t ts) rest s h =
      let a : IsTrue (is_whole_tree (tree_of_term t)) × Wholes (terms_then ts rest) = term_whole t (terms_then ts rest) (behind (terminal.Operator operator.Plus) (term_then t (terms_then ts rest)) h) in
      terms_whole (Sum sum (tree_of_term t)) ts rest (and_both (is_whole_tree sum) (is_whole_tree (tree_of_term t)) s a.0) a.1
  terms_whole sum (Subtracted t ts) rest s h =
      let a : IsTrue (is_whole_tree (tree_of_term t)) × Wholes (terms_then ts rest) = term_whole t (terms_then ts rest) (behind (terminal.Operator operator.Minus) (term_then t (terms_then ts rest)) h) in
      terms_whole (Difference sum (tree_of_term t)) ts rest (and_both (is_whole_tree sum) (is_whole_tree (tree_of_term t)) s a.0) a.1

  term_whole : (e : Term) (rest : List Terminal) → Wholes (term_then e rest) → IsTrue (is_whole_tree (tree_of_term e)) × Wholes rest
  term_whole (Factored f fs) rest h =
      let a : IsTrue (is_whole_tree (factor_tree f)) × Wholes (factors_then fs rest) = factor_whole f (factors_then fs rest) h in
      factors_whole (factor_tree f) fs rest a.0 a.1

  factors_whole : (product : ExprTree) (fs : Factors) (rest : List Terminal) → IsTrue (is_whole_tree product) → Wholes (factors_then fs rest) → IsTrue (is_whole_tree (factors_tree product fs)) × Wholes rest
  factors_whole product NoFactors rest s h = (s, h)
  factors_whole product (Times f fs) rest s h =
      let a : IsTrue (is_whole_tree (factor_tree f)) × Wholes (factors_then fs rest) = factor_whole f (factors_then fs rest) (behind (terminal.Operator operator.Star) (factor_then f (factors_then fs rest)) h) in
      factors_whole (ProductOf product (factor_tree f)) fs rest (and_both (is_whole_tree product) (is_whole_tree (factor_tree f)) s a.0) a.1

  factor_whole : (e : Factor) (rest : List Terminal) → Wholes (factor_then e rest) → IsTrue (is_whole_tree (factor_tree e)) × Wholes rest
  factor_whole (Alone b) rest h = base_whole b rest h
  factor_whole (Raised b r i) rest h =
      let a : IsTrue (is_whole_tree (base_tree b)) × Wholes (terminal.Operator operator.Caret ∷ terminal.Number r true ∷ rest) = base_whole b (terminal.Operator operator.Caret ∷ terminal.Number r true ∷ rest) h in
      (a.0, behind (terminal.Number r true) rest (behind (terminal.Operator operator.Caret) (terminal.Number r true ∷ rest) a.1))

  base_whole : (e : Base) (rest : List Terminal) → Wholes (base_then e rest) → IsTrue (is_whole_tree (base_tree e)) × Wholes rest
  base_whole (Literal r w) rest h = both (int_eq r.den (pos 1)) (list_all has_whole rest) h
  base_whole (Named s v) rest h = (refl, behind (terminal.Name s v) rest h)
  base_whole (Timed s v) rest h = (refl, behind (terminal.Variable s v) rest h)
  base_whole (Bracketed e) rest h =
      let a : IsTrue (is_whole_tree (expression_tree e)) × Wholes (terminal.Symbol symbol.Close ∷ rest) = expression_whole e (terminal.Symbol symbol.Close ∷ rest) (behind (terminal.Symbol symbol.Open) (expression_then e (terminal.Symbol symbol.Close ∷ rest)) h) in
      (a.0, behind (terminal.Symbol symbol.Close) rest a.1)

-- certificates
abbrev is_whole_term_tree : TermTree → Bool
is_whole_term_tree (Product n ls) = true
is_whole_term_tree (Squares n es ls) = list_all is_whole_tree es
is_whole_term_tree (Multiple l t) = is_whole_tree t

whole_exprs_are : (es : List Expr) → list_all has_whole_numbers es ≡ list_all is_whole_tree (map expr_tree es)
whole_exprs_are [] = refl
whole_exprs_are (e ∷ es) = let a = whole_expr_is e in let b = whole_exprs_are es in cc

whole_term_is : (t : CertTerm) → term_has_whole_numbers t ≡ is_whole_term_tree (term_tree t)
whole_term_is (term.Pos n ls) = refl
whole_term_is (term.Sum n es ls) = whole_exprs_are es
whole_term_is (term.Eq l e) = whole_expr_is e

whole_terms_are : (ts : List CertTerm) → list_all term_has_whole_numbers ts ≡ list_all is_whole_term_tree (map term_tree ts)
whole_terms_are [] = refl
whole_terms_are (t ∷ ts) = let a = whole_term_is t in let b = whole_terms_are ts in cc

labels_whole : (ls : List Ratio) (rest : List Terminal) → Wholes (labels_then ls rest) → Wholes rest
labels_whole [] rest h = h
labels_whole (l ∷ []) rest h = behind (terminal.Number l true) rest h
labels_whole (l ∷ m ∷ ms) rest h = labels_whole (m ∷ ms) rest (behind (terminal.Operator operator.Star) (labels_then (m ∷ ms) rest) (behind (terminal.Number l true) (terminal.Operator operator.Star ∷ labels_then (m ∷ ms) rest) h))

of_whole : (ls : List Ratio) (rest : List Terminal) → Wholes (of_then ls rest) → Wholes rest
of_whole [] rest h = h
of_whole (l ∷ ls) rest h = labels_whole (l ∷ ls) rest (behind (terminal.Word word.Of) (labels_then (l ∷ ls) rest) h)

bracketed_whole : (e : Expression) (rest : List Terminal) → Wholes (terminal.Symbol symbol.Open ∷ expression_then e (terminal.Symbol symbol.Close ∷ rest)) → IsTrue (is_whole_tree (expression_tree e)) × Wholes rest
bracketed_whole e rest h =
    let a : IsTrue (is_whole_tree (expression_tree e)) × Wholes (terminal.Symbol symbol.Close ∷ rest) = expression_whole e (terminal.Symbol symbol.Close ∷ rest) (behind (terminal.Symbol symbol.Open) (expression_then e (terminal.Symbol symbol.Close ∷ rest)) h) in
    (a.0, behind (terminal.Symbol symbol.Close) rest a.1)

squares_whole : (es : List Expression) (rest : List Terminal) → Wholes (squares_then es rest) → IsTrue (list_all is_whole_tree (map expression_tree es)) × Wholes rest
squares_whole [] rest h = (refl, h)
squares_whole (e ∷ es) rest h =
    let a : IsTrue (is_whole_tree (expression_tree e)) × Wholes (squares_then es rest) = bracketed_whole e (squares_then es rest) (behind (terminal.Word word.Sq) (terminal.Symbol symbol.Open ∷ expression_then e (terminal.Symbol symbol.Close ∷ squares_then es rest)) h) in
    let b : IsTrue (list_all is_whole_tree (map expression_tree es)) × Wholes rest = squares_whole es rest a.1 in
    (and_both (is_whole_tree (expression_tree e)) (list_all is_whole_tree (map expression_tree es)) a.0 b.0, b.1)

later_whole : (l : Later) (rest : List Terminal) → Wholes (later_then l rest) → IsTrue (is_whole_term_tree (later_tree l)) × Wholes rest
later_whole (SummedTerm r es ls) rest h =
    let tail : List Terminal = of_then ls (semicolon ∷ rest) in
    let a : IsTrue (list_all is_whole_tree (map expression_tree es)) × Wholes tail = squares_whole es tail (behind (terminal.Number r true) (squares_then es tail) (behind (terminal.Word word.Sum) (terminal.Number r true ∷ squares_then es tail) h)) in
    (a.0, behind semicolon rest (of_whole ls (semicolon ∷ rest) a.1))
later_whole (Equated r e) rest h =
    let tail : List Terminal = terminal.Symbol symbol.Open ∷ expression_then e (terminal.Symbol symbol.Close ∷ semicolon ∷ rest) in
    let a : IsTrue (is_whole_tree (expression_tree e)) × Wholes (semicolon ∷ rest) = bracketed_whole e (semicolon ∷ rest) (behind (terminal.Word word.Times) tail (behind (terminal.Number r true) (terminal.Word word.Times ∷ tail) (behind (terminal.Word word.Eq) (terminal.Number r true ∷ terminal.Word word.Times ∷ tail) h))) in
    (a.0, behind semicolon rest a.1)

laters_whole : (ls : List Later) (rest : List Terminal) → Wholes (laters_then ls rest) → IsTrue (list_all is_whole_term_tree (map later_tree ls))
laters_whole [] rest h = refl
laters_whole (l ∷ ls) rest h =
    let a : IsTrue (is_whole_term_tree (later_tree l)) × Wholes (laters_then ls rest) = later_whole l (laters_then ls rest) h in
    and_both (is_whole_term_tree (later_tree l)) (list_all is_whole_term_tree (map later_tree ls)) a.0 (laters_whole ls rest a.1)

abbrev terms_of : CertForm → List TermTree
terms_of c = Product (unsigned_abs c.times.num) (map label_of c.labels) ∷ map later_tree c.laters

form_whole : (c : CertForm) → Wholes (cert_terminals c) → IsTrue (list_all is_whole_term_tree (terms_of c))
form_whole c h =
    let end : List Terminal = terminal.Symbol symbol.BraceClose ∷ semicolon ∷ [] in
    let after : List Terminal = laters_then c.laters end in
    let tail : List Terminal = of_then c.labels (semicolon ∷ after) in
    let x1 : List Terminal = terminal.Number c.times true ∷ tail in
    let x2 : List Terminal = terminal.Word word.Pos ∷ x1 in
    let x3 : List Terminal = terminal.Symbol symbol.BraceOpen ∷ x2 in
    let x4 : List Terminal = terminal.Number c.number true ∷ x3 in
    let x5 : List Terminal = terminal.Word (part_word c.part) ∷ x4 in
    let a : Wholes x4 = behind (terminal.Word (part_word c.part)) x4 (behind (terminal.Word word.Cert) x5 h) in
    let b : Wholes x2 = behind (terminal.Symbol symbol.BraceOpen) x2 (behind (terminal.Number c.number true) x3 a) in
    let g : Wholes tail = behind (terminal.Number c.times true) tail (behind (terminal.Word word.Pos) x1 b) in
    laters_whole c.laters end (behind semicolon after (of_whole c.labels (semicolon ∷ after) g))

-- the first term is a `pos`, and no later one is
abbrev is_product : TermTree → Bool
is_product (Product n ls) = true
is_product (Squares n es ls) = false
is_product (Multiple l t) = false

pos_is : (t : CertTerm) → is_pos t ≡ is_product (term_tree t)
pos_is (term.Pos n ls) = refl
pos_is (term.Sum n es ls) = refl
pos_is (term.Eq l e) = refl

no_pos : (ts : List CertTerm) (ls : List Later) → map term_tree ts ≡ map later_tree ls → IsTrue (list_all (λ u. not (is_pos u)) ts)
no_pos [] ls e = refl
no_pos (t ∷ ts) [] e = absurd (cc)
no_pos (t ∷ ts) (SummedTerm r es ms ∷ ls) e = of t (cc) (no_pos ts ls (cc))
  where
    of : (u : CertTerm) → term_tree u ≡ later_tree (SummedTerm r es ms) → IsTrue (list_all (λ v. not (is_pos v)) ts) → IsTrue (not (is_pos u) && list_all (λ v. not (is_pos v)) ts)
    of (term.Pos n js) f h = absurd (cc)
    of (term.Sum n gs js) f h = h
    of (term.Eq l g) f h = h
no_pos (t ∷ ts) (Equated r x ∷ ls) e = of t (cc) (no_pos ts ls (cc))
  where
    of : (u : CertTerm) → term_tree u ≡ later_tree (Equated r x) → IsTrue (list_all (λ v. not (is_pos v)) ts) → IsTrue (not (is_pos u) && list_all (λ v. not (is_pos v)) ts)
    of (term.Pos n js) f h = absurd (cc)
    of (term.Sum n gs js) f h = h
    of (term.Eq l g) f h = h

begins : (ts : List CertTerm) (c : CertForm) → map term_tree ts ≡ terms_of c → IsTrue (begins_with_one_pos ts)
begins [] c e = absurd (cc)
begins (term.Pos n js ∷ ts) c e = no_pos ts c.laters (cc)
begins (term.Sum n gs js ∷ ts) c e = absurd (cc)
begins (term.Eq l g ∷ ts) c e = absurd (cc)

-- a number that is told as a whole, and is one
each_whole : (ts : List Terminal) → IsTrue (list_all is_no_fraction ts) → IsTrue (list_all is_whole_number ts) → Wholes ts
each_whole [] h k = refl
each_whole (terminal.Number r w ∷ ts) h k =
    let a : IsTrue w × IsTrue (list_all is_no_fraction ts) = both w (list_all is_no_fraction ts) h in
    let b : IsTrue (not w || int_eq r.den (pos 1)) × IsTrue (list_all is_whole_number ts) = both (not w || int_eq r.den (pos 1)) (list_all is_whole_number ts) k in
    and_both (int_eq r.den (pos 1)) (list_all has_whole ts) (told w (int_eq r.den (pos 1)) a.0 b.0) (each_whole ts a.1 b.1)
  where
    told : (v d : Bool) → IsTrue v → IsTrue (not v || d) → IsTrue d
    told true d p q = q
    told false d p q = absurd (cc)
each_whole (terminal.Word w ∷ ts) h k = each_whole ts h k
each_whole (terminal.Symbol s ∷ ts) h k = each_whole ts h k
each_whole (terminal.Operator o ∷ ts) h k = each_whole ts h k
each_whole (terminal.Compare c ∷ ts) h k = each_whole ts h k
each_whole (terminal.Name s v ∷ ts) h k = each_whole ts h k
each_whole (terminal.Variable s v ∷ ts) h k = each_whole ts h k

pub cert_formed : (c : Cert) (ts : List Terminal) → SpellsCert ts (cert_tree c) → IsTrue (list_all is_whole_number ts) → IsCertificate c
cert_formed c ts s h =
    let q : map term_tree c.terms ≡ terms_of s.0 = ap (λ t. t.terms) s.2 in
    let w : Wholes (cert_terminals s.0) = ap (λ (xs : List Terminal). list_all has_whole xs) (sym s.1) ∙ each_whole ts s.3 h in
    record {
      begins = begins c.terms s.0 q;
      whole = whole_terms_are c.terms ∙ ap (λ (us : List TermTree). list_all is_whole_term_tree us) q ∙ form_whole s.0 w;
    }
