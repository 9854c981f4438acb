-- Where a certificate of declared terminals is well formed, none of their variables strays.
use Rattle.std.proofs.Common.{◌≡◌, IsTrue, List, [], ◌∷◌, map, None, unsigned_abs, refl, ap, sym, ◌∙◌}
use Rattle.std.specs.List.{list_all}
use Rattle.vp_terms.specs.declared.expr.Places.{Places}
use Rattle.vp_terms.specs.declared.package.Cert.{Cert}
use Rattle.vp_terms.specs.declared.ratio.Ratio.{Ratio}
use Rattle.vp_terms.specs.Packages.{TermTree, Product, term_tree, cert_tree}
use Rattle.vp_terms.specs.WellFormed.{in_certificate, is_good_cert}
use Rattle.vp_grammar.specs.declared.strays.Rule.TheVariants.{Plain}
use Rattle.vp_grammar.specs.declared.terminal.Symbol.TheVariants as symbol
use Rattle.vp_grammar.specs.declared.terminal.Terminal.{Terminal}
use Rattle.vp_grammar.specs.declared.terminal.Terminal.TheVariants as terminal
use Rattle.vp_grammar.specs.Grammar.{Expression, expression_then, expression_tree}
use Rattle.vp_grammar.specs.Certificates.{CertForm, Later, Summed, Equated, labels_then, of_then, squares_then, later_then, laters_then, cert_terminals, later_tree, label_of, SpellsCert}
use Rattle.vp_grammar.specs.Strays.{first_stray, is_declared}
use Rattle.vp_grammar.proofs.Good.{is_good_tree, may_stand}
use Rattle.vp_grammar.proofs.GoodTrees.{both}
use Rattle.vp_grammar.proofs.GoodEntries.{is_good_term_tree, terms_good_is}
use Rattle.vp_grammar.proofs.Kept.{expression_kept, none_strays}

abbrev Declared : List Terminal → Type 0
Declared ts = IsTrue (list_all is_declared ts)

abbrev semicolon : Terminal
semicolon = terminal.Symbol symbol.Semicolon

module _ (p : Places) where
  abbrev Stand : List Terminal → Type 0
  Stand ts = IsTrue (list_all (may_stand in_certificate p) ts)

  labels_kept : (ls : List Ratio) (rest : List Terminal) → Declared (labels_then ls rest) → Declared rest × (Stand rest → Stand (labels_then ls rest))
  labels_kept [] rest d = (d, λ s. s)
  labels_kept (l ∷ []) rest d = (d, λ s. s)
  labels_kept (l ∷ m ∷ ms) rest d = labels_kept (m ∷ ms) rest d

  of_kept : (ls : List Ratio) (rest : List Terminal) → Declared (of_then ls rest) → Declared rest × (Stand rest → Stand (of_then ls rest))
  of_kept [] rest d = (d, λ s. s)
  of_kept (l ∷ ls) rest d = labels_kept (l ∷ ls) rest d

  squares_kept : (es : List Expression) (rest : List Terminal) → Declared (squares_then es rest) → Declared rest × (IsTrue (list_all (is_good_tree in_certificate p) (map expression_tree es)) → Stand rest → Stand (squares_then es rest))
  squares_kept [] rest d = (d, λ g s. s)
  squares_kept (e ∷ es) rest d =
      let tail : List Terminal = terminal.Symbol symbol.Close ∷ squares_then es rest in
      let a : Declared tail × (IsTrue (is_good_tree in_certificate p (expression_tree e)) → Stand tail → Stand (expression_then e tail)) = expression_kept in_certificate p e tail d in
      let b : Declared rest × (IsTrue (list_all (is_good_tree in_certificate p) (map expression_tree es)) → Stand rest → Stand (squares_then es rest)) = squares_kept es rest a.0 in (
        b.0,
        λ g s.
            let h : IsTrue (is_good_tree in_certificate p (expression_tree e)) × IsTrue (list_all (is_good_tree in_certificate p) (map expression_tree es)) = both (is_good_tree in_certificate p (expression_tree e)) (list_all (is_good_tree in_certificate p) (map expression_tree es)) g in
            a.1 h.0 (b.1 h.1 s),
      )

  later_kept : (l : Later) (rest : List Terminal) → Declared (later_then l rest) → Declared rest × (IsTrue (is_good_term_tree p (later_tree l)) → Stand rest → Stand (later_then l rest))
  later_kept (Summed r es ls) rest d =
      let tail : List Terminal = of_then ls (semicolon ∷ rest) in
      let a : Declared tail × (IsTrue (list_all (is_good_tree in_certificate p) (map expression_tree es)) → Stand tail → Stand (squares_then es tail)) = squares_kept es tail d in
      let b : Declared (semicolon ∷ rest) × (Stand (semicolon ∷ rest) → Stand tail) = of_kept ls (semicolon ∷ rest) a.0 in
      (b.0, λ g s. a.1 g (b.1 s))
  later_kept (Equated r e) rest d =
      let tail : List Terminal = terminal.Symbol symbol.Close ∷ semicolon ∷ rest in
      let a : Declared tail × (IsTrue (is_good_tree in_certificate p (expression_tree e)) → Stand tail → Stand (expression_then e tail)) = expression_kept in_certificate p e tail d in
      (a.0, λ g s. a.1 g s)

  laters_kept : (ls : List Later) (rest : List Terminal) → Declared (laters_then ls rest) → Declared rest × (IsTrue (list_all (is_good_term_tree p) (map later_tree ls)) → Stand rest → Stand (laters_then ls rest))
  laters_kept [] rest d = (d, λ g s. s)
  laters_kept (l ∷ ls) rest d =
      let a : Declared (laters_then ls rest) × (IsTrue (is_good_term_tree p (later_tree l)) → Stand (laters_then ls rest) → Stand (later_then l (laters_then ls rest))) = later_kept l (laters_then ls rest) d in
      let b : Declared rest × (IsTrue (list_all (is_good_term_tree p) (map later_tree ls)) → Stand rest → Stand (laters_then ls rest)) = laters_kept ls rest a.0 in (
        b.0,
        λ g s.
            let h : IsTrue (is_good_term_tree p (later_tree l)) × IsTrue (list_all (is_good_term_tree p) (map later_tree ls)) = both (is_good_term_tree p (later_tree l)) (list_all (is_good_term_tree p) (map later_tree ls)) g in
            a.1 h.0 (b.1 h.1 s),
      )

  form_kept : (c : CertForm) → Declared (cert_terminals c) → IsTrue (list_all (is_good_term_tree p) (map later_tree c.laters)) → Stand (cert_terminals c)
  form_kept c d g =
      let end : List Terminal = terminal.Symbol symbol.BraceClose ∷ semicolon ∷ [] in
      let after : List Terminal = semicolon ∷ laters_then c.laters end in
      let a : Declared after × (Stand after → Stand (of_then c.labels after)) = of_kept c.labels after d in
      let b : Declared end × (IsTrue (list_all (is_good_term_tree p) (map later_tree c.laters)) → Stand end → Stand (laters_then c.laters end)) = laters_kept c.laters end a.0 in
      a.1 (b.1 g refl)

pub kept_certificate : (p : Places) (c : Cert) (ts : List Terminal) → SpellsCert ts (cert_tree c) → IsTrue (list_all is_declared ts) → IsTrue (is_good_cert p c) → first_stray (Plain in_certificate) p 0 ts ≡ None
kept_certificate p c ts s d g =
    let these : Declared (cert_terminals s.0) = ap (list_all is_declared) (sym s.1) ∙ d in
    let q : map term_tree c.terms ≡ Product (unsigned_abs s.0.times.num) (map label_of s.0.labels) ∷ map later_tree s.0.laters = ap (λ t. t.terms) s.2 in
    let good : IsTrue (list_all (is_good_term_tree p) (map later_tree s.0.laters)) = ap (λ (us : List TermTree). list_all (is_good_term_tree p) us) (sym q) ∙ sym (terms_good_is p c.terms) ∙ g in
    none_strays in_certificate p 0 ts (ap (list_all (may_stand in_certificate p)) s.1 ∙ form_kept p s.0 these good)
