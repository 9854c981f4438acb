-- What a text is read as is well formed.
use Rattle.std.proofs.Common.{ℕ, zero, suc, ◌+◌, ◌≡◌, ◌≢◌, ◌<◌, ◌≤◌, Bool, true, false, ◌||◌, IsTrue, nat_eq, nat_lt, List, [], ◌∷◌, ◌++◌, length, map, All, AllPairs, drop, Option, None, Some, slice_get, unwrap_or, if◌then◌else◌, refl, ap, sym, ◌∙◌, subst, arith}
use Rattle.std.proofs.lemmas.Bool.{and_from, eqb-true, le-ltb, ltb-false}
use Rattle.std.proofs.lemmas.List.{length-map}
use Rattle.std.proofs.lemmas.List.Elements.{All-head, All-tail, All-cons, All-nil}
use Rattle.std.proofs.lemmas.List.Kept.{AllPairs-cons}
use Rattle.std.proofs.lemmas.Slice.Eq.{bytes_eq-Decides}
use Rattle.std.specs.List.{list_all}
use Rattle.std.specs.Str.{bytes_eq}
use Rattle.std.specs.Option.{option_map, option_or}
use Rattle.vp_terms.specs.declared.expr.Expr.{Expr}
use Rattle.vp_terms.specs.declared.expr.Places.{Places}
use Rattle.vp_terms.specs.declared.formula.Formula.{Formula}
use Rattle.vp_terms.specs.declared.package.Cert.{Cert}
use Rattle.vp_terms.specs.declared.package.Package.{Package}
use Rattle.vp_terms.specs.declared.package.Slack.{Slack as SlackOf}
use Rattle.vp_terms.specs.declared.prog.Prog.{Prog}
use Rattle.vp_terms.specs.declared.well_formed.Kinds.{Kinds}
use Rattle.vp_terms.specs.Tree.{expr_tree, formula_tree, prog_tree}
use Rattle.vp_terms.specs.WellFormed.{IsWellFormed, AreGoodNames, IsGoodPlant, IsGoodCondition, all_names, places_of, comparisons, in_model, in_time, in_domain, in_certificate, is_good_formula, is_good_expr, is_good_prog, is_good_slack, is_good_cert, prog_comparisons}
use Rattle.vp_grammar.specs.declared.entries.Mark.TheVariants.{Rate, Setting}
use Rattle.vp_grammar.specs.declared.strays.Rule.{Rule}
use Rattle.vp_grammar.specs.declared.strays.Rule.TheVariants.{Plain, Controller, Flow, Slack, Fallback}
use Rattle.vp_grammar.specs.declared.terminal.Span.{Span}
use Rattle.vp_lex.specs.declared.word.ReservedWord.{ReservedWord}
use Rattle.vp_lex.specs.declared.word.ReservedWord.TheVariants as word
use Rattle.vp_grammar.specs.declared.terminal.Terminal.{Terminal}
use Rattle.vp_grammar.specs.Certificates.{SpellsCert}
use Rattle.vp_terms.specs.Packages.{cert_tree}
use Rattle.vp_grammar.specs.Controllers.{SpellsController}
use Rattle.vp_grammar.specs.Entries.{SpellsNames, SpellsEntries, SpellsBounds, SpellsTimes}
use Rattle.vp_terms.specs.Packages.{slack_tree}
use Rattle.vp_grammar.specs.FormulaReads.{SpellsFormulaPiece}
use Rattle.vp_grammar.specs.Strays.{first_stray}
use Rattle.vp_read.specs.Naming.{contains, first_again, known}
use Rattle.vp_read.specs.Pieces.{first_deep, greatest_depth, is_deep, piece}
use Rattle.vp_read.specs.Reading.{IsPackage, certificates, first_stray_from, rule_of, wrong_entries}
use Rattle.vp_read.specs.Sections.{AreCerts, known_pieces, spelled}
use Rattle.vp_read.specs.Spelling.{span_text}
use Rattle.vp_read.proofs.AgainSteps.{standing}

-- what the laws of the grammar say of terminals of which no variable strays
pub record GrammarLaws : Type 0 where
  pub conditions : (w : ReservedWord) (k : Kinds) (p : Places) (f : Formula) (ts : List Terminal) → SpellsFormulaPiece w ts (formula_tree f) → first_stray (Plain k) p 0 ts ≡ None → IsTrue (is_good_formula k p f)
  pub sizes : (w : ReservedWord) (f : Formula) (ts : List Terminal) → SpellsFormulaPiece w ts (formula_tree f) → comparisons f ≤ length ts
  pub controllers : (p : Places) (q : Prog) (ts : List Terminal) → SpellsController ts (prog_tree q) → first_stray Controller p 0 ts ≡ None → IsTrue (is_good_prog p q)
  pub controller_sizes : (q : Prog) (ts : List Terminal) → SpellsController ts (prog_tree q) → prog_comparisons q ≤ length ts
  pub rates : (p : Places) (w : ReservedWord) (ts : List Terminal) (es : List Expr) → SpellsEntries w Rate ts (map expr_tree es) → first_stray Flow p 0 ts ≡ None → IsTrue (list_all (is_good_expr in_model p) es)
  pub settings : (p : Places) (w : ReservedWord) (ts : List Terminal) (es : List Expr) → SpellsEntries w Setting ts (map expr_tree es) → first_stray Fallback p 0 ts ≡ None → IsTrue (list_all (is_good_expr in_model p) es)
  pub bounds : (p : Places) (ts : List Terminal) (ss : List SlackOf) → SpellsBounds ts (map slack_tree ss) → first_stray Slack p 0 ts ≡ None → IsTrue (list_all (is_good_slack p) ss)
  pub times : (p : Places) (e f : Expr) (ts : List Terminal) → SpellsTimes ts (expr_tree e, expr_tree f) → first_stray (Plain in_time) p 0 ts ≡ None → IsTrue (is_good_expr in_time p e) × IsTrue (is_good_expr in_time p f)
  pub certificates : (p : Places) (c : Cert) (ts : List Terminal) → SpellsCert ts (cert_tree c) → first_stray (Plain in_certificate) p 0 ts ≡ None → IsTrue (is_good_cert p c)

-- no stray in all pieces: none in the first, and none behind it
first_of : (o : Option Span) (rest : Option (Span × ℕ)) (k : ℕ) → option_or (option_map (λ s. (s, k)) o) rest ≡ None → (o ≡ None) × (rest ≡ None)
first_of None rest k e = (refl, e)
first_of (Some s) rest k e = absurd (cc)

each_fits : (p : Places) (k : ℕ) (qs : List (List Terminal)) (n : ℕ) → first_stray_from p k qs ≡ None → first_stray (rule_of (k + n)) p 0 (unwrap_or (slice_get qs n) []) ≡ None
each_fits p k [] n e = refl
each_fits p k (q ∷ qs) zero e = subst (λ (j : ℕ). first_stray (rule_of j) p 0 q ≡ None) (let g : k ≡ k + zero = omega arith in g) (first_of (first_stray (rule_of k) p 0 q) (first_stray_from p (k + 1) qs) k e).0
each_fits p k (q ∷ qs) (suc n) e = subst (λ (j : ℕ). first_stray (rule_of j) p 0 (unwrap_or (slice_get qs n) []) ≡ None) (let g : (k + 1) + n ≡ k + suc n = omega arith in g) (each_fits p (k + 1) qs n (first_of (first_stray (rule_of k) p 0 q) (first_stray_from p (k + 1) qs) k e).1)

rest_fits : (p : Places) (k m : ℕ) (qs : List (List Terminal)) → first_stray_from p k qs ≡ None → first_stray_from p (k + m) (drop m qs) ≡ None
rest_fits p k zero qs e = subst (λ (j : ℕ). first_stray_from p j qs ≡ None) (let g : k ≡ k + zero = omega arith in g) e
rest_fits p k (suc m) [] e = refl
rest_fits p k (suc m) (q ∷ qs) e = subst (λ (j : ℕ). first_stray_from p j (drop m qs) ≡ None) (let g : (k + 1) + m ≡ k + suc m = omega arith in g) (rest_fits p (k + 1) m qs (first_of (first_stray (rule_of k) p 0 q) (first_stray_from p (k + 1) qs) k e).1)

slice_drop : (m n : ℕ) (qs : List (List Terminal)) → slice_get (drop m qs) n ≡ slice_get qs (m + n)
slice_drop zero n qs = ap (slice_get qs) (let g : n ≡ zero + n = omega arith in g)
slice_drop (suc m) n [] = refl
slice_drop (suc m) n (q ∷ qs) = slice_drop m n qs ∙ ap (slice_get (q ∷ qs)) (let g : suc (m + n) ≡ suc m + n = omega arith in g)

drop_none : (n : ℕ) → drop {A = List Terminal} n [] ≡ []
drop_none zero = refl
drop_none (suc n) = refl

drop_drop : (m n : ℕ) (qs : List (List Terminal)) → drop n (drop m qs) ≡ drop (m + n) qs
drop_drop zero n qs = ap (λ (j : ℕ). drop j qs) (let g : n ≡ zero + n = omega arith in g)
drop_drop (suc m) n [] = drop_none n ∙ sym (drop_none (suc m + n))
drop_drop (suc m) n (q ∷ qs) = drop_drop m n qs ∙ ap (λ (j : ℕ). drop j (q ∷ qs)) (let g : suc (m + n) ≡ suc m + n = omega arith in g)

-- the piece of each number from 5 on
pub piece_fits : (p : Places) (ks : List (List Terminal)) (n : ℕ) → first_stray_from p 5 (drop 4 ks) ≡ None → first_stray (rule_of (5 + n)) p 0 (unwrap_or (slice_get ks (4 + n)) []) ≡ None
piece_fits p ks n e = subst (λ (o : Option (List Terminal)). first_stray (rule_of (5 + n)) p 0 (unwrap_or o []) ≡ None) (slice_drop 4 n ks) (each_fits p 5 (drop 4 ks) n e)

pub certs_fit : (p : Places) (ks : List (List Terminal)) → first_stray_from p 5 (drop 4 ks) ≡ None → first_stray_from p 14 (drop 13 ks) ≡ None
certs_fit p ks e = subst (λ (qs : List (List Terminal)). first_stray_from p 14 qs ≡ None) (drop_drop 4 9 ks) (rest_fits p 5 9 (drop 4 ks) e)

-- the pieces behind the 13th are certificates
no_eq : (k n : ℕ) → n < k → nat_eq k n ≡ false
no_eq k n l = of (nat_eq k n) refl
  where
    of : (b : Bool) → nat_eq k n ≡ b → nat_eq k n ≡ false
    of true e = absurd (omega (arith, l, eqb-true k n e))
    of false e = e

rule_behind : (k : ℕ) → 14 ≤ k → rule_of k ≡ certificates
rule_behind k l = rw (le-ltb k 8 (omega (arith, l)), no_eq k 8 (omega (arith, l)), no_eq k 9 (omega (arith, l)), no_eq k 10 (omega (arith, l)), no_eq k 11 (omega (arith, l)), no_eq k 12 (omega (arith, l)), no_eq k 13 (omega (arith, l))) refl

pub certs_good : (g : GrammarLaws) (p : Places) (k : ℕ) (qs : List (List Terminal)) (cs : List Cert) → 14 ≤ k → first_stray_from p k qs ≡ None → AreCerts qs (map cert_tree cs) → IsTrue (list_all (is_good_cert p) cs)
certs_good g p k [] [] l e a = refl
certs_good g p k [] (c ∷ cs) l e a = absurd a
certs_good g p k (q ∷ qs) [] l e a = refl
certs_good g p k (q ∷ qs) (c ∷ cs) l e a =
    let b : (first_stray (rule_of k) p 0 q ≡ None) × (first_stray_from p (k + 1) qs ≡ None) = first_of (first_stray (rule_of k) p 0 q) (first_stray_from p (k + 1) qs) k e in
    let f : first_stray certificates p 0 q ≡ None = subst (λ (r : Rule). first_stray r p 0 q ≡ None) (rule_behind k l) b.0 in
    and_from (is_good_cert p c) (list_all (is_good_cert p) cs) (g.certificates p c q a.0 f) (certs_good g p (k + 1) qs cs (omega (arith, l)) b.1 a.1)

-- no piece has more than 2,048 terminals
pub not_deep : (p : List Terminal) → is_deep p ≡ false → length p ≤ 2048
not_deep p e = of (nat_lt 2048 (length p)) refl e
  where
    of : (a : Bool) → nat_lt 2048 (length p) ≡ a → (a || nat_lt 32 (greatest_depth 0 p)) ≡ false → length p ≤ 2048
    of true g e = absurd (cc)
    of false g e = ltb-false 2048 (length p) g

shallow : (p : List Terminal) (k : ℕ) (o : Option ℕ) → (if is_deep p then Some k else o) ≡ None → (length p ≤ 2048) × (o ≡ None)
shallow p k o e = of (is_deep p) refl e
  where
    of : (a : Bool) → is_deep p ≡ a → (if a then Some k else o) ≡ None → (length p ≤ 2048) × (o ≡ None)
    of true g e = absurd (cc)
    of false g e = (not_deep p g, e)

pub small : (f : Terminal → Terminal) (k : ℕ) (ps : List (List Terminal)) (n : ℕ) → first_deep k ps ≡ None → length (unwrap_or (slice_get (map (map f) ps) n) []) ≤ 2048
small f k [] n e = omega arith
small f k (p ∷ ps) zero e = omega (arith, length-map p f, (shallow p k (first_deep (k + 1) ps) e).0)
small f k (p ∷ ps) (suc n) e = small f (k + 1) ps n (shallow p k (first_deep (k + 1) ps) e).1

-- a formula's piece
pub condition : (g : GrammarLaws) (w : ReservedWord) (p : Places) (f : Formula) (ts : List Terminal) → SpellsFormulaPiece w ts (formula_tree f) → first_stray (Plain in_model) p 0 ts ≡ None → length ts ≤ 2048 → IsGoodCondition p f
condition g w p f ts s e l = record { variables = g.conditions w in_model p f ts s e; size = omega (arith, g.sizes w f ts s, l) }

-- no name stands twice
pub none_before : (before ns : List (List ℕ)) → first_again before ns ≡ None → All (λ a. contains before a ≡ false) ns × AllPairs (λ a b. a ≢ b) ns
none_before before [] e = (All-nil (λ (a : List ℕ). contains before a ≡ false), λ i j d l k. absurd (omega (arith, k)))
none_before before (n ∷ ns) e = of (contains before n) refl e (λ f. none_before (before ++ n ∷ []) ns f)
  where
    Fresh : List ℕ → Type 0
    Fresh a = contains (before ++ n ∷ []) a ≡ false

    halves : (x y : Bool) → ((false || x) || (y || false)) ≡ false → (x ≡ false) × (y ≡ false)
    halves true y h = absurd (cc)
    halves false true h = absurd (cc)
    halves false false h = (refl, refl)

    apart : (a : List ℕ) → Fresh a → (contains before a ≡ false) × (bytes_eq n a ≡ false)
    apart a h = halves (contains before a) (bytes_eq n a) (sym (standing [] before (n ∷ []) a) ∙ h)

    differ : (a : List ℕ) → bytes_eq n a ≡ false → n ≢ a
    differ a h g = let t : bytes_eq n a ≡ true = (bytes_eq-Decides n a).1 g in absurd (cc)

    olds : (ms : List (List ℕ)) → All Fresh ms → All (λ a. contains before a ≡ false) ms
    olds [] h = All-nil (λ (a : List ℕ). contains before a ≡ false)
    olds (m ∷ ms) h = All-cons (λ (a : List ℕ). contains before a ≡ false) m ms (apart m (All-head Fresh m ms h)).0 (olds ms (All-tail Fresh m ms h))

    news : (ms : List (List ℕ)) → All Fresh ms → All (λ a. n ≢ a) ms
    news [] h = All-nil (λ (a : List ℕ). n ≢ a)
    news (m ∷ ms) h = All-cons (λ (a : List ℕ). n ≢ a) m ms (differ m (apart m (All-head Fresh m ms h)).1) (news ms (All-tail Fresh m ms h))

    of : (c : Bool) → contains before n ≡ c → (if c then Some n else first_again (before ++ n ∷ []) ns) ≡ None → (first_again (before ++ n ∷ []) ns ≡ None → All Fresh ns × AllPairs (λ a b. a ≢ b) ns) → All (λ a. contains before a ≡ false) (n ∷ ns) × AllPairs (λ a b. a ≢ b) (n ∷ ns)
    of true g e f = absurd (cc)
    of false g e f = (All-cons (λ (a : List ℕ). contains before a ≡ false) n ns g (olds ns (f e).0), AllPairs-cons (λ (a b : List ℕ). a ≢ b) n ns (news ns (f e).0) (f e).1)

-- as many names as are asked for
listed_some : (text : List ℕ) (w : ReservedWord) (least : ℕ) (ts : List Terminal) (spans : List Span) (names : List (List ℕ)) → SpellsNames w least ts spans → names ≡ spelled text spans → least ≤ length names
listed_some text w least ts spans names s e =
    let count : length spans ≡ length s.0 = ap length s.2 ∙ length-map s.0 (λ n. n.0) in
    let all : length names ≡ length spans = ap length e ∙ length-map spans (λ (z : Span). span_text text z) in
    omega (arith, count, all, s.3)

-- an entry for each state and each control
three : (a b c : Bool) (x y z : ℕ × ℕ) → (if a then (if b then (if c then None else Some z) else Some y) else Some x) ≡ None → IsTrue a × IsTrue b × IsTrue c
three true true true x y z e = (refl, refl, refl)
three true true false x y z e = absurd (cc)
three true false c x y z e = absurd (cc)
three false b c x y z e = absurd (cc)

pub counts : (pkg : Package) → wrong_entries pkg ≡ None → (length pkg.plant.rates ≡ length pkg.names.states) × (length pkg.plant.slack ≡ length pkg.names.states) × (length pkg.fallback ≡ length pkg.names.controls)
counts pkg e =
    let a = three (nat_eq (length pkg.plant.rates) (length pkg.names.states)) (nat_eq (length pkg.plant.slack) (length pkg.names.states)) (nat_eq (length pkg.fallback) (length pkg.names.controls)) (10, length pkg.plant.rates) (11, length pkg.plant.slack) (13, length pkg.fallback) e in
    (eqb-true (length pkg.plant.rates) (length pkg.names.states) a.0, eqb-true (length pkg.plant.slack) (length pkg.names.states) a.1, eqb-true (length pkg.fallback) (length pkg.names.controls) a.2)

good_names : (text : List ℕ) (pkg : Package) → IsPackage text pkg → AreGoodNames pkg.names
good_names text pkg h = record {
  distinct = (none_before [] (all_names pkg.names) h.distinct).1;
  some_state = listed_some text word.States 1 (piece h.draft.pieces 3) h.draft.head.state_spans pkg.names.states h.draft.head.states h.draft.head.states_are;
  some_control = listed_some text word.Controls 1 (piece h.draft.pieces 4) h.draft.head.control_spans pkg.names.controls h.draft.head.controls h.draft.head.controls_are;
  few = h.few;
}

good_plant : (g : GrammarLaws) (text : List ℕ) (pkg : Package) → IsPackage text pkg → IsGoodPlant (places_of pkg.names) pkg.plant
good_plant g text pkg h =
    let p : Places = places_of pkg.names in
    let ks : List (List Terminal) = known_pieces text pkg.names h.draft.pieces in
    let times : IsTrue (is_good_expr in_time p pkg.plant.low) × IsTrue (is_good_expr in_time p pkg.plant.high) = g.times p pkg.plant.low pkg.plant.high (piece ks 9) h.draft.body.time (piece_fits p ks 4 h.declared) in
    record {
      low = times.0;
      high = times.1;
      rates = g.rates p word.Flow (piece ks 10) pkg.plant.rates h.draft.body.flow (piece_fits p ks 5 h.declared);
      rate_count = (counts pkg h.entries).0;
      slack = g.bounds p (piece ks 11) pkg.plant.slack h.draft.body.slack (piece_fits p ks 6 h.declared);
      slack_count = (counts pkg h.entries).1;
      domain = g.conditions word.Domain in_domain p pkg.plant.domain (piece ks 12) h.draft.body.domain (piece_fits p ks 7 h.declared);
      domain_size = omega (arith, g.sizes word.Domain pkg.plant.domain (piece ks 12) h.draft.body.domain, small (known text pkg.names) 1 h.draft.pieces 11 h.draft.shallow);
    }

pub good_package : (g : GrammarLaws) (text : List ℕ) (pkg : Package) → IsPackage text pkg → IsWellFormed pkg
good_package g text pkg h =
    let p : Places = places_of pkg.names in
    let ks : List (List Terminal) = known_pieces text pkg.names h.draft.pieces in
    record {
      names = good_names text pkg h;
      init = condition g word.Init p pkg.init (piece ks 5) h.draft.body.init (piece_fits p ks 0 h.declared) (small (known text pkg.names) 1 h.draft.pieces 4 h.draft.shallow);
      inv = condition g word.Inv p pkg.inv (piece ks 6) h.draft.body.inv (piece_fits p ks 1 h.declared) (small (known text pkg.names) 1 h.draft.pieces 5 h.draft.shallow);
      safe = condition g word.Safe p pkg.safe (piece ks 7) h.draft.body.safe (piece_fits p ks 2 h.declared) (small (known text pkg.names) 1 h.draft.pieces 6 h.draft.shallow);
      ctrl = g.controllers p pkg.ctrl (piece ks 8) h.draft.body.ctrl (piece_fits p ks 3 h.declared);
      ctrl_size = omega (arith, g.controller_sizes pkg.ctrl (piece ks 8) h.draft.body.ctrl, small (known text pkg.names) 1 h.draft.pieces 7 h.draft.shallow);
      plant = good_plant g text pkg h;
      fallback = g.settings p word.Fallback (piece ks 13) pkg.fallback h.draft.body.fallback (piece_fits p ks 8 h.declared);
      fallback_count = (counts pkg h.entries).2;
      certs = certs_good g p 14 (drop 13 ks) pkg.certs (omega arith) (certs_fit p ks h.declared) h.draft.body.certs;
    }
