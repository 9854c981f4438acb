-- Terminals that may stand in a list or a certificate are those of well formed expressions.
use Rattle.std.proofs.Common.{◌≡◌, List, [], ◌∷◌, map, Bool, true, false, ◌&&◌, IsTrue, if◌then◌else◌, Option, unsigned_abs, refl, ap, sym, ◌∙◌}
use Rattle.std.specs.List.{list_all}
use Rattle.vp_terms.specs.declared.ratio.Ratio.{Ratio}
use Rattle.vp_terms.specs.declared.formula.Cmp.TheVariants as cmp
use Rattle.vp_terms.specs.declared.expr.Var.{Var}
use Rattle.vp_terms.specs.declared.expr.Places.{Places}
use Rattle.vp_terms.specs.declared.expr.Expr.{Expr}
use Rattle.vp_terms.specs.declared.well_formed.Kinds.{Kinds}
use Rattle.vp_terms.specs.declared.package.Slack.{Slack}
use Rattle.vp_terms.specs.declared.package.CertTerm.{CertTerm}
use Rattle.vp_terms.specs.declared.package.CertTerm.TheVariants as term
use Rattle.vp_terms.specs.declared.package.Cert.{Cert}
use Rattle.vp_terms.specs.WellFormed.{is_good_expr, is_good_slack, is_good_term, is_good_cert, in_slack, in_time, in_certificate}
use Rattle.vp_terms.specs.Tree.{ExprTree, expr_tree}
use Rattle.vp_grammar.specs.declared.terminal.Span.{Span}
use Rattle.vp_grammar.specs.declared.terminal.Operator.{Operator}
use Rattle.vp_grammar.specs.declared.terminal.Operator.TheVariants as operator
use Rattle.vp_grammar.specs.declared.terminal.Symbol.TheVariants as symbol
use Rattle.vp_lex.specs.declared.word.ReservedWord.{ReservedWord}
use Rattle.vp_lex.specs.declared.word.ReservedWord.TheVariants as word
use Rattle.vp_grammar.specs.declared.terminal.Terminal.{Terminal}
use Rattle.vp_grammar.specs.declared.terminal.Terminal.TheVariants as terminal
use Rattle.vp_grammar.specs.declared.entries.Mark.{Mark}
use Rattle.vp_grammar.specs.declared.entries.Mark.TheVariants.{Rate, Setting}
use Rattle.vp_grammar.specs.Grammar.{Expression, expression_then, expression_tree}
use Rattle.vp_grammar.specs.Entries.{mark_then, Entries, LastEntry, Entry, entries_then, entry_trees, Bounds, LastBound, Bound, bounds_then, bound_trees, SpellsEntries, SpellsBounds, SpellsTimes}
use Rattle.vp_terms.specs.Packages.{slack_tree}
use Rattle.vp_grammar.specs.Certificates.{CertForm, Later, Summed, Equated, labels_then, of_then, squares_then, later_then, laters_then, cert_terminals, later_tree, label_of, part_word, SpellsCert}
use Rattle.vp_terms.specs.Packages.{TermTree, Product, Squares, Multiple, term_tree, cert_tree}
use Rattle.vp_grammar.specs.Strays.{is_known, rates, sets, bounds}
use Rattle.vp_grammar.proofs.Good.{may_stand, all_before, is_good_tree, may_enter}
use Rattle.vp_grammar.proofs.GoodTrees.{Looks, looks_at_each, all_before_is, expression_good, good_expr_is, both, and_both}
use Rattle.vp_grammar.proofs.EntrySteps.{comma, semicolon}

-- what follows the first terminal
behind : (test : Terminal → List Terminal → Bool) (t : Terminal) (ts : List Terminal) → IsTrue (all_before test (t ∷ ts)) → IsTrue (all_before test ts)
behind test t ts h = (both (test t ts) (all_before test ts) h).1

good_if : (k : Kinds) (p : Places) (e : Expr) (f : Expression) → expr_tree e ≡ expression_tree f → IsTrue (is_good_tree k p (expression_tree f)) → IsTrue (is_good_expr k p e)
good_if k p e f q h = good_expr_is k p e ∙ ap (λ (t : ExprTree). is_good_tree k p t) q ∙ h

exprs_good_is : (k : Kinds) (p : Places) (es : List Expr) → list_all (is_good_expr k p) es ≡ list_all (is_good_tree k p) (map expr_tree es)
exprs_good_is k p [] = refl
exprs_good_is k p (e ∷ es) = let a = good_expr_is k p e in let b = exprs_good_is k p es in cc

all_good : (k : Kinds) (p : Places) (es : List Expr) (ts : List ExprTree) → map expr_tree es ≡ ts → IsTrue (list_all (is_good_tree k p) ts) → IsTrue (list_all (is_good_expr k p) es)
all_good k p es ts q h = exprs_good_is k p es ∙ ap (λ (us : List ExprTree). list_all (is_good_tree k p) us) q ∙ h

-- a name before the mark is looked at apart
looks_enter : (left : List Terminal → Bool) (k : Kinds) (p : Places) → ((o : Operator) (ts : List Terminal) → left (terminal.Operator o ∷ ts) ≡ false) → ((ts : List Terminal) → left (terminal.Symbol symbol.Close ∷ ts) ≡ false) → Looks k p left (may_enter left k p)
looks_enter left k p o c = record { operator = o; close = c; stands = stands }
  where
    stands : (t : Terminal) (ts : List Terminal) → left ts ≡ false → IsTrue (may_enter left k p t ts) → IsTrue (may_stand k p t)
    stands (terminal.Name s v) ts e h = ap (λ (b : Bool). if b then true else is_known k p v) (sym e) ∙ h
    stands (terminal.Word w) ts e h = h
    stands (terminal.Symbol w) ts e h = h
    stands (terminal.Operator w) ts e h = h
    stands (terminal.Compare w) ts e h = h
    stands (terminal.Number r w) ts e h = h
    stands (terminal.Variable s v) ts e h = h

-- entries
abbrev left_of : Mark → List Terminal → Bool
left_of Rate ts = rates ts
left_of Setting ts = sets ts

left_comma : (m : Mark) (ts : List Terminal) → left_of m (comma ∷ ts) ≡ false
left_comma Rate ts = refl
left_comma Setting ts = refl

left_semicolon : (m : Mark) (ts : List Terminal) → left_of m (semicolon ∷ ts) ≡ false
left_semicolon Rate ts = refl
left_semicolon Setting ts = refl

left_operator : (m : Mark) (o : Operator) (ts : List Terminal) → left_of m (terminal.Operator o ∷ ts) ≡ false
left_operator Rate o ts = refl
left_operator Setting o ts = refl

left_close : (m : Mark) (ts : List Terminal) → left_of m (terminal.Symbol symbol.Close ∷ ts) ≡ false
left_close Rate ts = refl
left_close Setting ts = refl

looks_marked : (m : Mark) (k : Kinds) (p : Places) → Looks k p (left_of m) (may_enter (left_of m) k p)
looks_marked m k p = looks_enter (left_of m) k p (left_operator m) (left_close m)

behind_mark : (m : Mark) (test : Terminal → List Terminal → Bool) (ts : List Terminal) → IsTrue (all_before test (mark_then m ts)) → IsTrue (all_before test ts)
behind_mark Rate test ts h = behind test (terminal.Compare cmp.Eq) ts (behind test (terminal.Symbol symbol.Prime) (terminal.Compare cmp.Eq ∷ ts) h)
behind_mark Setting test ts h = behind test (terminal.Compare cmp.Eq) ts h

entry_good : (m : Mark) (k : Kinds) (p : Places) (s : Span) (v : Option Var) (e : Expression) (rest : List Terminal) → left_of m rest ≡ false → IsTrue (all_before (may_enter (left_of m) k p) (terminal.Name s v ∷ mark_then m (expression_then e rest))) → IsTrue (is_good_tree k p (expression_tree e)) × IsTrue (all_before (may_enter (left_of m) k p) rest)
entry_good m k p s v e rest l h = expression_good (looks_marked m k p) e rest l (behind_mark m (may_enter (left_of m) k p) (expression_then e rest) (behind (may_enter (left_of m) k p) (terminal.Name s v) (mark_then m (expression_then e rest)) h))

entries_good : (m : Mark) (k : Kinds) (p : Places) (es : Entries) → IsTrue (all_before (may_enter (left_of m) k p) (entries_then m es (semicolon ∷ []))) → IsTrue (list_all (is_good_tree k p) (entry_trees es))
entries_good m k p (LastEntry s v e) h = and_both (is_good_tree k p (expression_tree e)) true (entry_good m k p s v e (semicolon ∷ []) (left_semicolon m []) h).0 refl
entries_good m k p (Entry s v e es) h =
    let a : IsTrue (is_good_tree k p (expression_tree e)) × IsTrue (all_before (may_enter (left_of m) k p) (comma ∷ entries_then m es (semicolon ∷ []))) = entry_good m k p s v e (comma ∷ entries_then m es (semicolon ∷ [])) (left_comma m (entries_then m es (semicolon ∷ []))) h in
    and_both (is_good_tree k p (expression_tree e)) (list_all (is_good_tree k p) (entry_trees es)) a.0 (entries_good m k p es (behind (may_enter (left_of m) k p) comma (entries_then m es (semicolon ∷ [])) a.1))

spelt_entries_good : (m : Mark) (k : Kinds) (p : Places) (w : ReservedWord) (ts : List Terminal) (es : List Expr) → SpellsEntries w m ts (map expr_tree es) → IsTrue (all_before (may_enter (left_of m) k p) ts) → IsTrue (list_all (is_good_expr k p) es)
spelt_entries_good m k p w ts es s h =
    let a : IsTrue (all_before (may_enter (left_of m) k p) (terminal.Word w ∷ entries_then m s.0 (semicolon ∷ []))) = ap (λ (xs : List Terminal). all_before (may_enter (left_of m) k p) xs) (sym s.1) ∙ h in
    all_good k p es (entry_trees s.0) s.2 (entries_good m k p s.0 (behind (may_enter (left_of m) k p) (terminal.Word w) (entries_then m s.0 (semicolon ∷ [])) a))

pub rates_good : (k : Kinds) (p : Places) (w : ReservedWord) (ts : List Terminal) (es : List Expr) → SpellsEntries w Rate ts (map expr_tree es) → IsTrue (all_before (may_enter rates k p) ts) → IsTrue (list_all (is_good_expr k p) es)
rates_good k p w ts es s h = spelt_entries_good Rate k p w ts es s h

pub settings_good : (k : Kinds) (p : Places) (w : ReservedWord) (ts : List Terminal) (es : List Expr) → SpellsEntries w Setting ts (map expr_tree es) → IsTrue (all_before (may_enter sets k p) ts) → IsTrue (list_all (is_good_expr k p) es)
settings_good k p w ts es s h = spelt_entries_good Setting k p w ts es s h

-- pairs
pair_good : {left : List Terminal → Bool} {test : Terminal → List Terminal → Bool} (k : Kinds) (p : Places) (g : Looks k p left test) (e f : Expression) (rest : List Terminal) → left (terminal.Word word.To ∷ expression_then f rest) ≡ false → left rest ≡ false → IsTrue (all_before test (expression_then e (terminal.Word word.To ∷ expression_then f rest))) → IsTrue (is_good_tree k p (expression_tree e)) × IsTrue (is_good_tree k p (expression_tree f)) × IsTrue (all_before test rest)
pair_good {left} {test} k p g e f rest l m h =
    let a : IsTrue (is_good_tree k p (expression_tree e)) × IsTrue (all_before test (terminal.Word word.To ∷ expression_then f rest)) = expression_good g e (terminal.Word word.To ∷ expression_then f rest) l h in
    let b : IsTrue (is_good_tree k p (expression_tree f)) × IsTrue (all_before test rest) = expression_good g f rest m (behind test (terminal.Word word.To) (expression_then f rest) a.1) in
    (a.0, b.0, b.1)

-- bounds
abbrev is_good_pair : Places → ExprTree × ExprTree → Bool
is_good_pair p t = is_good_tree in_slack p t.0 && is_good_tree in_slack p t.1

slacks_good_is : (p : Places) (ss : List Slack) → list_all (is_good_slack p) ss ≡ list_all (is_good_pair p) (map slack_tree ss)
slacks_good_is p [] = refl
slacks_good_is p (s ∷ ss) = let a = good_expr_is in_slack p s.low in let b = good_expr_is in_slack p s.high in let c = slacks_good_is p ss in cc

looks_bounds : (p : Places) → Looks in_slack p bounds (may_enter bounds in_slack p)
looks_bounds p = looks_enter bounds in_slack p (λ o ts. refl) (λ ts. refl)

bound_good : (p : Places) (s : Span) (v : Option Var) (e f : Expression) (rest : List Terminal) → bounds rest ≡ false → IsTrue (all_before (may_enter bounds in_slack p) (terminal.Name s v ∷ terminal.Word word.From ∷ expression_then e (terminal.Word word.To ∷ expression_then f rest))) → IsTrue (is_good_pair p (expression_tree e, expression_tree f)) × IsTrue (all_before (may_enter bounds in_slack p) rest)
bound_good p s v e f rest l h =
    let spelt : List Terminal = expression_then e (terminal.Word word.To ∷ expression_then f rest) in
    let a : IsTrue (is_good_tree in_slack p (expression_tree e)) × IsTrue (is_good_tree in_slack p (expression_tree f)) × IsTrue (all_before (may_enter bounds in_slack p) rest) = pair_good in_slack p (looks_bounds p) e f rest refl l (behind (may_enter bounds in_slack p) (terminal.Word word.From) spelt (behind (may_enter bounds in_slack p) (terminal.Name s v) (terminal.Word word.From ∷ spelt) h)) in
    (and_both (is_good_tree in_slack p (expression_tree e)) (is_good_tree in_slack p (expression_tree f)) a.0 a.1, a.2)

bound_list_good : (p : Places) (bs : Bounds) → IsTrue (all_before (may_enter bounds in_slack p) (bounds_then bs (semicolon ∷ []))) → IsTrue (list_all (is_good_pair p) (bound_trees bs))
bound_list_good p (LastBound s v e f) h = and_both (is_good_pair p (expression_tree e, expression_tree f)) true (bound_good p s v e f (semicolon ∷ []) refl h).0 refl
bound_list_good p (Bound s v e f bs) h =
    let a : IsTrue (is_good_pair p (expression_tree e, expression_tree f)) × IsTrue (all_before (may_enter bounds in_slack p) (comma ∷ bounds_then bs (semicolon ∷ []))) = bound_good p s v e f (comma ∷ bounds_then bs (semicolon ∷ [])) refl h in
    and_both (is_good_pair p (expression_tree e, expression_tree f)) (list_all (is_good_pair p) (bound_trees bs)) a.0 (bound_list_good p bs (behind (may_enter bounds in_slack p) comma (bounds_then bs (semicolon ∷ [])) a.1))

pub bounds_good : (p : Places) (ts : List Terminal) (ss : List Slack) → SpellsBounds ts (map slack_tree ss) → IsTrue (all_before (may_enter bounds in_slack p) ts) → IsTrue (list_all (is_good_slack p) ss)
bounds_good p ts ss s h =
    let a : IsTrue (all_before (may_enter bounds in_slack p) (terminal.Word word.Slack ∷ bounds_then s.0 (semicolon ∷ []))) = ap (λ (xs : List Terminal). all_before (may_enter bounds in_slack p) xs) (sym s.1) ∙ h in
    slacks_good_is p ss ∙ ap (λ (us : List (ExprTree × ExprTree)). list_all (is_good_pair p) us) s.2 ∙ bound_list_good p s.0 (behind (may_enter bounds in_slack p) (terminal.Word word.Slack) (bounds_then s.0 (semicolon ∷ [])) a)

-- times
abbrev stand : Kinds → Places → Terminal → List Terminal → Bool
stand k p t ts = may_stand k p t

pub times_good : (p : Places) (e f : Expr) (ts : List Terminal) → SpellsTimes ts (expr_tree e, expr_tree f) → IsTrue (list_all (may_stand in_time p) ts) → IsTrue (is_good_expr in_time p e) × IsTrue (is_good_expr in_time p f)
times_good p e f ts s h =
    let spelt : List Terminal = expression_then s.0 (terminal.Word word.To ∷ expression_then s.1 (semicolon ∷ [])) in
    let a : IsTrue (all_before (stand in_time p) (terminal.Word word.Time ∷ spelt)) = ap (λ (xs : List Terminal). all_before (stand in_time p) xs) (sym s.2) ∙ all_before_is (may_stand in_time p) ts ∙ h in
    let b : IsTrue (is_good_tree in_time p (expression_tree s.0)) × IsTrue (is_good_tree in_time p (expression_tree s.1)) × IsTrue (all_before (stand in_time p) (semicolon ∷ [])) = pair_good in_time p (looks_at_each in_time p) s.0 s.1 (semicolon ∷ []) refl refl (behind (stand in_time p) (terminal.Word word.Time) spelt a) in
    let q : (expr_tree e, expr_tree f) ≡ (expression_tree s.0, expression_tree s.1) = s.3 in
    (good_if in_time p e s.0 (ap (λ (t : ExprTree × ExprTree). t.0) q) b.0, good_if in_time p f s.1 (ap (λ (t : ExprTree × ExprTree). t.1) q) b.1)

-- certificates
-- what is well formed of a term without its boxes
abbrev pub is_good_term_tree : Places → TermTree → Bool
is_good_term_tree p (Product n ls) = true
is_good_term_tree p (Squares n es ls) = list_all (is_good_tree in_certificate p) es
is_good_term_tree p (Multiple l t) = is_good_tree in_certificate p t

term_good_is : (p : Places) (t : CertTerm) → is_good_term p t ≡ is_good_term_tree p (term_tree t)
term_good_is p (term.Pos n ls) = refl
term_good_is p (term.Sum n es ls) = exprs_good_is in_certificate p es
term_good_is p (term.Eq l e) = good_expr_is in_certificate p e

pub terms_good_is : (p : Places) (ts : List CertTerm) → list_all (is_good_term p) ts ≡ list_all (is_good_term_tree p) (map term_tree ts)
terms_good_is p [] = refl
terms_good_is p (t ∷ ts) = let a = term_good_is p t in let b = terms_good_is p ts in cc

abbrev Passes : Places → List Terminal → Type 0
Passes p ts = IsTrue (all_before (stand in_certificate p) ts)

passes : (p : Places) (t : Terminal) (ts : List Terminal) → Passes p (t ∷ ts) → Passes p ts
passes p t ts h = behind (stand in_certificate p) t ts h

labels_pass : (p : Places) (ls : List Ratio) (rest : List Terminal) → Passes p (labels_then ls rest) → Passes p rest
labels_pass p [] rest h = h
labels_pass p (l ∷ []) rest h = passes p (terminal.Number l true) rest h
labels_pass p (l ∷ m ∷ ms) rest h = labels_pass p (m ∷ ms) rest (passes p (terminal.Operator operator.Star) (labels_then (m ∷ ms) rest) (passes p (terminal.Number l true) (terminal.Operator operator.Star ∷ labels_then (m ∷ ms) rest) h))

of_passes : (p : Places) (ls : List Ratio) (rest : List Terminal) → Passes p (of_then ls rest) → Passes p rest
of_passes p [] rest h = h
of_passes p (l ∷ ls) rest h = labels_pass p (l ∷ ls) rest (passes p (terminal.Word word.Of) (labels_then (l ∷ ls) rest) h)

bracketed_good : (p : Places) (e : Expression) (rest : List Terminal) → Passes p (terminal.Symbol symbol.Open ∷ expression_then e (terminal.Symbol symbol.Close ∷ rest)) → IsTrue (is_good_tree in_certificate p (expression_tree e)) × Passes p rest
bracketed_good p e rest h =
    let a : IsTrue (is_good_tree in_certificate p (expression_tree e)) × Passes p (terminal.Symbol symbol.Close ∷ rest) = expression_good (looks_at_each in_certificate p) e (terminal.Symbol symbol.Close ∷ rest) refl (passes p (terminal.Symbol symbol.Open) (expression_then e (terminal.Symbol symbol.Close ∷ rest)) h) in
    (a.0, passes p (terminal.Symbol symbol.Close) rest a.1)

squares_good : (p : Places) (es : List Expression) (rest : List Terminal) → Passes p (squares_then es rest) → IsTrue (list_all (is_good_tree in_certificate p) (map expression_tree es)) × Passes p rest
squares_good p [] rest h = (refl, h)
squares_good p (e ∷ es) rest h =
    let a : IsTrue (is_good_tree in_certificate p (expression_tree e)) × Passes p (squares_then es rest) = bracketed_good p e (squares_then es rest) (passes p (terminal.Word word.Sq) (terminal.Symbol symbol.Open ∷ expression_then e (terminal.Symbol symbol.Close ∷ squares_then es rest)) h) in
    let b : IsTrue (list_all (is_good_tree in_certificate p) (map expression_tree es)) × Passes p rest = squares_good p es rest a.1 in
    (and_both (is_good_tree in_certificate p (expression_tree e)) (list_all (is_good_tree in_certificate p) (map expression_tree es)) a.0 b.0, b.1)

later_good : (p : Places) (l : Later) (rest : List Terminal) → Passes p (later_then l rest) → IsTrue (is_good_term_tree p (later_tree l)) × Passes p rest
later_good p (Summed r es ls) rest h =
    let tail : List Terminal = of_then ls (semicolon ∷ rest) in
    let a : IsTrue (list_all (is_good_tree in_certificate p) (map expression_tree es)) × Passes p tail = squares_good p es tail (passes p (terminal.Number r true) (squares_then es tail) (passes p (terminal.Word word.Sum) (terminal.Number r true ∷ squares_then es tail) h)) in
    (a.0, passes p semicolon rest (of_passes p ls (semicolon ∷ rest) a.1))
later_good p (Equated r e) rest h =
    let tail : List Terminal = terminal.Symbol symbol.Open ∷ expression_then e (terminal.Symbol symbol.Close ∷ semicolon ∷ rest) in
    let a : IsTrue (is_good_tree in_certificate p (expression_tree e)) × Passes p (semicolon ∷ rest) = bracketed_good p e (semicolon ∷ rest) (passes p (terminal.Word word.Times) tail (passes p (terminal.Number r true) (terminal.Word word.Times ∷ tail) (passes p (terminal.Word word.Eq) (terminal.Number r true ∷ terminal.Word word.Times ∷ tail) h))) in
    (a.0, passes p semicolon rest a.1)

laters_good : (p : Places) (ls : List Later) (rest : List Terminal) → Passes p (laters_then ls rest) → IsTrue (list_all (is_good_term_tree p) (map later_tree ls))
laters_good p [] rest h = refl
laters_good p (l ∷ ls) rest h =
    let a : IsTrue (is_good_term_tree p (later_tree l)) × Passes p (laters_then ls rest) = later_good p l (laters_then ls rest) h in
    and_both (is_good_term_tree p (later_tree l)) (list_all (is_good_term_tree p) (map later_tree ls)) a.0 (laters_good p ls rest a.1)

form_good : (p : Places) (c : CertForm) → Passes p (cert_terminals c) → IsTrue (list_all (is_good_term_tree p) (Product (unsigned_abs c.times.num) (map label_of c.labels) ∷ map later_tree c.laters))
form_good p c h =
    let end : List Terminal = terminal.Symbol symbol.BraceClose ∷ semicolon ∷ [] in
    let after : List Terminal = laters_then c.laters end in
    let tail : List Terminal = of_then c.labels (semicolon ∷ after) in
    let x1 : List Terminal = terminal.Number c.times true ∷ tail in
    let x2 : List Terminal = terminal.Word word.Pos ∷ x1 in
    let x3 : List Terminal = terminal.Symbol symbol.BraceOpen ∷ x2 in
    let x4 : List Terminal = terminal.Number c.number true ∷ x3 in
    let x5 : List Terminal = terminal.Word (part_word c.part) ∷ x4 in
    let a : Passes p x4 = passes p (terminal.Word (part_word c.part)) x4 (passes p (terminal.Word word.Cert) x5 h) in
    let b : Passes p x2 = passes p (terminal.Symbol symbol.BraceOpen) x2 (passes p (terminal.Number c.number true) x3 a) in
    let g : Passes p tail = passes p (terminal.Number c.times true) tail (passes p (terminal.Word word.Pos) x1 b) in
    laters_good p c.laters end (passes p semicolon after (of_passes p c.labels (semicolon ∷ after) g))

pub cert_good : (p : Places) (c : Cert) (ts : List Terminal) → SpellsCert ts (cert_tree c) → IsTrue (list_all (may_stand in_certificate p) ts) → IsTrue (is_good_cert p c)
cert_good p c ts s h =
    let a : Passes p (cert_terminals s.0) = ap (λ (xs : List Terminal). all_before (stand in_certificate p) xs) (sym s.1) ∙ all_before_is (may_stand in_certificate p) ts ∙ h in
    let q : map term_tree c.terms ≡ Product (unsigned_abs s.0.times.num) (map label_of s.0.labels) ∷ map later_tree s.0.laters = ap (λ t. t.terms) s.2 in
    terms_good_is p c.terms ∙ ap (λ (us : List TermTree). list_all (is_good_term_tree p) us) q ∙ form_good p s.0 a
