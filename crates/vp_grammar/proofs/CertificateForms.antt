-- The forms of a certificate, and what its readers find.
use Rattle.std.proofs.Common.{◌≡◌, inl, inr, ℕ, unsigned_abs, List, [], ◌∷◌, map, true, IsTrue, refl, ap, sym, ◌∙◌, arith, subst}
use Rattle.std.specs.List.{list_all}
use Rattle.vp_terms.specs.declared.ratio.Ratio.{Ratio}
use Rattle.vp_terms.specs.declared.package.Part.{Part}
use Rattle.vp_terms.specs.Tree.{ExprTree}
use Rattle.vp_grammar.specs.declared.terminal.Symbol.TheVariants as symbol
use Rattle.vp_lex.specs.declared.word.ReservedWord.TheVariants as word
use Rattle.vp_grammar.specs.declared.terminal.Terminal.{Terminal}
use Rattle.vp_grammar.specs.declared.terminal.Terminal.TheVariants as terminal
use Rattle.vp_grammar.specs.declared.fault.ParseErr.{ParseErr}
use Rattle.vp_grammar.specs.declared.fault.ParseErr.TheVariants.{Form, Memory}
use Rattle.vp_grammar.specs.Grammar.{Expression, expression_then, expression_tree}
use Rattle.vp_grammar.specs.Reads.{IsExpression, Fails, FailsAll}
use Rattle.vp_grammar.specs.Front.{NotBegins}
use Rattle.vp_grammar.specs.EntryReads.{Goes}
use Rattle.vp_grammar.specs.Certificates.{CertForm, Later, Summed, Equated, labels_then, of_then, squares_then, later_then, laters_then, cert_terminals, later_tree, form_tree, label_of, part_word, is_no_fraction, SpellsCert}
use Rattle.vp_terms.specs.Packages.{TermTree, Product, Squares, Multiple, CertTree}
use Rattle.vp_grammar.specs.CertificateReads.{IsLabel, IsProduct, MaybeOf, AreSquares, IsStrict, IsSum, IsEquation, IsLater, IsClosed, AreTerms, IsHead}
use Rattle.vp_grammar.proofs.Lists.{behind_listed}
use Rattle.vp_grammar.proofs.EntrySteps.{semicolon}
use Rattle.vp_grammar.proofs.CertificateSteps.{star, sq, head_once, terms_once}

abbrev brace : Terminal
brace = terminal.Symbol symbol.BraceClose

-- labels
product_listed : (r : Ratio) (rs : List Ratio) (rest : List Terminal) → IsProduct (labels_then (r ∷ rs) (semicolon ∷ rest)) (map label_of (r ∷ rs)) rest
product_listed r [] rest = (semicolon ∷ rest, (r, refl, refl), refl)
product_listed r (q ∷ qs) rest = (star ∷ labels_then (q ∷ qs) (semicolon ∷ rest), (r, refl, refl), behind_listed IsLabel star (labels_then (q ∷ qs) (semicolon ∷ rest)) (map label_of (q ∷ qs)) rest (product_listed q qs rest))

maybe_of : (rs : List Ratio) (rest : List Terminal) → MaybeOf (of_then rs (semicolon ∷ rest)) (map label_of rs) rest
maybe_of [] rest = refl
maybe_of (r ∷ rs) rest = (labels_then (r ∷ rs) (semicolon ∷ rest), refl, product_listed r rs rest)

abbrev SomeLabels : List Terminal → List ℕ → List Terminal → Type 0
SomeLabels ts ls rest = (r : Ratio) × (rs : List Ratio) × (ts ≡ labels_then (r ∷ rs) (semicolon ∷ rest)) × (ls ≡ map label_of (r ∷ rs))

product_labels : (ts : List Terminal) (ls : List ℕ) (rest : List Terminal) → IsProduct ts ls rest → SomeLabels ts ls rest
product_labels ts [] rest w = absurd w
product_labels ts (l ∷ []) rest w = (w.1.0, [], w.1.1 ∙ ap (λ (xs : List Terminal). terminal.Number w.1.0 true ∷ xs) w.2, ap (λ (x : ℕ). x ∷ []) w.1.2)
product_labels ts (l ∷ m ∷ ms) rest w =
    let n : SomeLabels w.2.1.0 (m ∷ ms) rest = product_labels w.2.1.0 (m ∷ ms) rest (w.2.0, w.2.1.2, w.2.2) in
    let a : l ≡ label_of w.1.0 = w.1.2 in let b : m ∷ ms ≡ map label_of (n.0 ∷ n.1) = n.3 in
    (w.1.0, n.0 ∷ n.1, w.1.1 ∙ ap (λ (xs : List Terminal). terminal.Number w.1.0 true ∷ xs) (w.2.1.1 ∙ ap (λ (xs : List Terminal). star ∷ xs) n.2), cc)

abbrev Labels : List Terminal → List ℕ → List Terminal → Type 0
Labels ts ls rest = (rs : List Ratio) × (ts ≡ of_then rs (semicolon ∷ rest)) × (ls ≡ map label_of rs)

maybe_labels : (ts : List Terminal) (ls : List ℕ) (rest : List Terminal) → MaybeOf ts ls rest → Labels ts ls rest
maybe_labels ts [] rest w = ([], w, refl)
maybe_labels ts (l ∷ ls) rest w =
    let n : SomeLabels w.0 (l ∷ ls) rest = product_labels w.0 (l ∷ ls) rest w.2 in
    (n.0 ∷ n.1, w.1 ∙ ap (λ (xs : List Terminal). terminal.Word word.Of ∷ xs) n.2, n.3)

-- squares
no_square_of : (rs : List Ratio) (rest : List Terminal) → NotBegins sq (of_then rs (semicolon ∷ rest))
no_square_of [] rest r e = absurd (cc)
no_square_of (q ∷ qs) rest r e = absurd (cc)

squares_go : (es : List Expression) (tail : List Terminal) → NotBegins sq tail → AreSquares (squares_then es tail) (map expression_tree es) tail
squares_go [] tail none = (refl, none)
squares_go (e ∷ es) tail none = (squares_then es tail, (terminal.Symbol symbol.Open ∷ expression_then e (terminal.Symbol symbol.Close ∷ squares_then es tail), refl, (expression_then e (terminal.Symbol symbol.Close ∷ squares_then es tail), refl, (e, refl, refl, omega arith))), squares_go es tail none)

abbrev SomeSquares : List Terminal → List ExprTree → List Terminal → Type 0
SomeSquares ts es tail = (fs : List Expression) × (ts ≡ squares_then fs tail) × (es ≡ map expression_tree fs)

goes_squares : (ts : List Terminal) (es : List ExprTree) (tail : List Terminal) → AreSquares ts es tail → SomeSquares ts es tail
goes_squares ts [] tail g = ([], g.0, refl)
goes_squares ts (e ∷ es) tail g =
    let n : SomeSquares g.0 es tail = goes_squares g.0 es tail g.2 in
    let i : IsExpression g.1.2.0 e (terminal.Symbol symbol.Close ∷ g.0) = g.1.2.2 in
    let a : e ≡ expression_tree i.0 = i.2 in let b : es ≡ map expression_tree n.0 = n.2 in
    (i.0 ∷ n.0, g.1.1 ∙ ap (λ (xs : List Terminal). sq ∷ xs) (g.1.2.1 ∙ ap (λ (xs : List Terminal). terminal.Symbol symbol.Open ∷ xs) (i.1 ∙ ap (λ (xs : List Terminal). expression_then i.0 (terminal.Symbol symbol.Close ∷ xs)) n.1)), cc)

-- later terms
later_is : (l : Later) (rest : List Terminal) → IsLater (later_then l rest) (later_tree l) rest
later_is (Summed r es ls) rest = inl (
  terminal.Number r true ∷ squares_then es (of_then ls (semicolon ∷ rest)),
  refl,
  record {
    times = unsigned_abs r.num;
    squares = map expression_tree es;
    labels = map label_of ls;
    behind = squares_then es (of_then ls (semicolon ∷ rest));
    behind_squares = of_then ls (semicolon ∷ rest);
    whole = (r, refl, refl);
    are_squares = squares_go es (of_then ls (semicolon ∷ rest)) (no_square_of ls rest);
    product = maybe_of ls rest;
    is = refl;
  },
)
later_is (Equated r e) rest = inr (
  terminal.Number r true ∷ terminal.Word word.Times ∷ terminal.Symbol symbol.Open ∷ expression_then e (terminal.Symbol symbol.Close ∷ semicolon ∷ rest),
  refl,
  record {
    label = label_of r;
    times = expression_tree e;
    behind = terminal.Symbol symbol.Open ∷ expression_then e (terminal.Symbol symbol.Close ∷ semicolon ∷ rest);
    is_label = (r, refl, refl);
    bracketed = (expression_then e (terminal.Symbol symbol.Close ∷ semicolon ∷ rest), refl, (e, refl, refl, omega arith));
    is = refl;
  },
)

laters_go : (ls : List Later) (rest : List Terminal) → Goes IsLater IsClosed (laters_then ls (brace ∷ rest)) (map later_tree ls) rest
laters_go [] rest = refl
laters_go (l ∷ ls) rest = (laters_then ls (brace ∷ rest), later_is l (laters_then ls (brace ∷ rest)), laters_go ls rest)

abbrev IsLaterForm : List Terminal → TermTree → List Terminal → Type 0
IsLaterForm ts t rest = (l : Later) × (ts ≡ later_then l rest) × (t ≡ later_tree l)

later_form : (ts : List Terminal) (t : TermTree) (rest : List Terminal) → IsLater ts t rest → IsLaterForm ts t rest
later_form ts t rest (inl h) =
    let s : IsSum h.0 t rest = h.2 in
    let f : SomeSquares s.behind s.squares s.behind_squares = goes_squares s.behind s.squares s.behind_squares s.are_squares in
    let l : Labels s.behind_squares s.labels rest = maybe_labels s.behind_squares s.labels rest s.product in
    let a : s.times ≡ unsigned_abs s.whole.0.num = s.whole.2 in
    let b : s.squares ≡ map expression_tree f.0 = f.2 in
    let c : s.labels ≡ map label_of l.0 = l.2 in
    let d : t ≡ Squares s.times s.squares s.labels = s.is in
    (Summed s.whole.0 f.0 l.0, h.1 ∙ ap (λ (xs : List Terminal). terminal.Word word.Sum ∷ xs) (s.whole.1 ∙ ap (λ (xs : List Terminal). terminal.Number s.whole.0 true ∷ xs) (f.1 ∙ ap (λ (xs : List Terminal). squares_then f.0 xs) l.1)), cc)
later_form ts t rest (inr h) =
    let s : IsEquation h.0 t rest = h.2 in
    let i : IsExpression s.bracketed.0 s.times (terminal.Symbol symbol.Close ∷ semicolon ∷ rest) = s.bracketed.2 in
    let a : s.label ≡ label_of s.is_label.0 = s.is_label.2 in
    let b : s.times ≡ expression_tree i.0 = i.2 in
    let d : t ≡ Multiple s.label s.times = s.is in
    (Equated s.is_label.0 i.0, h.1 ∙ ap (λ (xs : List Terminal). terminal.Word word.Eq ∷ xs) (s.is_label.1 ∙ ap (λ (xs : List Terminal). terminal.Number s.is_label.0 true ∷ terminal.Word word.Times ∷ xs) (s.bracketed.1 ∙ ap (λ (xs : List Terminal). terminal.Symbol symbol.Open ∷ xs) i.1)), cc)

abbrev LaterForms : List Terminal → List TermTree → List Terminal → Type 0
LaterForms ts us rest = (ls : List Later) × (ts ≡ laters_then ls (brace ∷ rest)) × (us ≡ map later_tree ls)

laters_form : (ts : List Terminal) (us : List TermTree) (rest : List Terminal) → Goes IsLater IsClosed ts us rest → LaterForms ts us rest
laters_form ts [] rest g = ([], g, refl)
laters_form ts (u ∷ us) rest g =
    let l : IsLaterForm ts u g.0 = later_form ts u g.0 g.1 in
    let n : LaterForms g.0 us rest = laters_form g.0 us rest g.2 in
    let a : u ≡ later_tree l.0 = l.2 in let b : us ≡ map later_tree n.0 = n.2 in
    (l.0 ∷ n.0, l.1 ∙ ap (λ (xs : List Terminal). later_then l.0 xs) n.1, cc)

-- the whole
abbrev pub IsCert : List Terminal → Part → ℕ → List TermTree → Type 0
IsCert ts p n us = (rest : List Terminal) × IsHead ts p n rest × AreTerms rest us (semicolon ∷ [])

cert_is : (c : CertForm) → IsCert (cert_terminals c) c.part (label_of c.number) (Product (unsigned_abs c.times.num) (map label_of c.labels) ∷ map later_tree c.laters)
cert_is c =
    let after : List Terminal = laters_then c.laters (brace ∷ semicolon ∷ []) in
    let more : List Terminal = terminal.Number c.times true ∷ of_then c.labels (semicolon ∷ after) in (
      terminal.Word word.Pos ∷ more,
      (c.number, refl, refl),
      (
        more,
        after,
        refl,
        record {
          times = unsigned_abs c.times.num;
          labels = map label_of c.labels;
          behind = of_then c.labels (semicolon ∷ after);
          whole = (c.times, refl, refl);
          product = maybe_of c.labels after;
          is = refl;
        },
        laters_go c.laters (semicolon ∷ []),
      ),
    )

pub spelt_cert : (ts : List Terminal) (t : CertTree) → SpellsCert ts t → IsCert ts t.part t.number t.terms
spelt_cert ts t s = let e : ts ≡ cert_terminals s.0 = s.1 in let f : t ≡ form_tree s.0 = s.2 in rw (e, f) (cert_is s.0)

pub cert_spelt : (ts : List Terminal) (p : Part) (n : ℕ) (us : List TermTree) → IsCert ts p n us → IsTrue (list_all is_no_fraction ts) → SpellsCert ts (record { part = p; number = n; terms = us })
cert_spelt ts p n [] w h = absurd w.2
cert_spelt ts p n (u ∷ us) w h =
    let a : AreTerms w.0 (u ∷ us) (semicolon ∷ []) = w.2 in
    let s : IsStrict a.0 u a.1 = a.3 in
    let l : Labels s.behind s.labels a.1 = maybe_labels s.behind s.labels a.1 s.product in
    let f : LaterForms a.1 us (semicolon ∷ []) = laters_form a.1 us (semicolon ∷ []) a.4 in
    let c1 : n ≡ label_of w.1.0 = w.1.2 in
    let c2 : s.times ≡ unsigned_abs s.whole.0.num = s.whole.2 in
    let c3 : s.labels ≡ map label_of l.0 = l.2 in
    let c4 : us ≡ map later_tree f.0 = f.2 in
    let c5 : u ≡ Product s.times s.labels = s.is in (
      record { part = p; number = w.1.0; times = s.whole.0; labels = l.0; laters = f.0 },
      w.1.1 ∙ ap (λ (xs : List Terminal). terminal.Word word.Cert ∷ terminal.Word (part_word p) ∷ terminal.Number w.1.0 true ∷ terminal.Symbol symbol.BraceOpen ∷ xs) (a.2 ∙ ap (λ (xs : List Terminal). terminal.Word word.Pos ∷ xs) (s.whole.1 ∙ ap (λ (xs : List Terminal). terminal.Number s.whole.0 true ∷ xs) (l.1 ∙ ap (λ (xs : List Terminal). of_then l.0 (semicolon ∷ xs)) f.1))),
      cc,
      h,
    )

cert_terms : (ts more : List Terminal) (q p : Part) (m n : ℕ) (us : List TermTree) → IsHead ts q m more → IsCert ts p n us → AreTerms more us (semicolon ∷ [])
cert_terms ts more q p m n us g w =
    let k : (q ≡ p) × (m ≡ n) × (more ≡ w.0) = head_once ts q p m n more w.0 g w.1 in
    let l : AreTerms w.0 us (semicolon ∷ []) = w.2 in
    subst (λ (xs : List Terminal). AreTerms xs us (semicolon ∷ [])) (sym k.2) l

pub no_head : (ts : List Terminal) → ((p : Part) (n : ℕ) (r : List Terminal) → IsHead ts p n r → ⊥) → (t : CertTree) → SpellsCert ts t → ⊥
no_head ts none t s = let w : IsCert ts t.part t.number t.terms = spelt_cert ts t s in none t.part t.number w.0 w.1

pub cert_fails : (ts more : List Terminal) (q : Part) (m : ℕ) (e : ParseErr) → IsHead ts q m more → Fails (AreTerms more) e → FailsAll (SpellsCert ts) e
cert_fails ts more q m Form g f = λ t s. f t.terms (semicolon ∷ []) (cert_terms ts more q t.part m t.number t.terms g (spelt_cert ts t s))
cert_fails ts more q m Memory g f = tt

pub not_ended : (ts more rest : List Terminal) (q : Part) (m : ℕ) (us : List TermTree) → IsHead ts q m more → AreTerms more us rest → (rest ≡ semicolon ∷ [] → ⊥) → (t : CertTree) → SpellsCert ts t → ⊥
not_ended ts more rest q m us g h none t s =
    let k : (us ≡ t.terms) × (rest ≡ semicolon ∷ []) = terms_once more us t.terms rest (semicolon ∷ []) h (cert_terms ts more q t.part m t.number t.terms g (spelt_cert ts t s)) in
    none k.1

pub cert_read : (ts more rest : List Terminal) (p : Part) (n : ℕ) (us : List TermTree) → IsHead ts p n more → AreTerms more us rest → rest ≡ semicolon ∷ [] → IsTrue (list_all is_no_fraction ts) → SpellsCert ts (record { part = p; number = n; terms = us })
cert_read ts more rest p n us g h e w = cert_spelt ts p n us (more, g, subst (λ (xs : List Terminal). AreTerms more us xs) e h) w

pub unique_cert : (ts : List Terminal) (t u : CertTree) → SpellsCert ts t → SpellsCert ts u → t ≡ u
unique_cert ts t u g h =
    let v : IsCert ts t.part t.number t.terms = spelt_cert ts t g in
    let w : IsCert ts u.part u.number u.terms = spelt_cert ts u h in
    let k : (t.part ≡ u.part) × (t.number ≡ u.number) × (v.0 ≡ w.0) = head_once ts t.part u.part t.number u.number v.0 w.0 v.1 w.1 in
    let l : (t.terms ≡ u.terms) × (semicolon ∷ [] ≡ semicolon ∷ []) = terms_once v.0 t.terms u.terms (semicolon ∷ []) (semicolon ∷ []) v.2 (cert_terms ts v.0 t.part u.part t.number u.number u.terms v.1 w) in
    let a : t.part ≡ u.part = k.0 in let b : t.number ≡ u.number = k.1 in let c : t.terms ≡ u.terms = l.0 in
    cc
