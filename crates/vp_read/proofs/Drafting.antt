-- From pieces to a package, and what refuses a text.
use Rattle.std.proofs.Common.{Vec, Global, ℕ, zero, suc, ◌+◌, ◌≡◌, inl, inr, ◌≤◌, Bool, true, false, List, [], ◌∷◌, length, map, All, drop, take, Option, None, Some, unwrap_or, if◌then◌else◌, Ok, Err, refl, ap, sym, ◌∙◌, subst, arith}
use Rattle.std.proofs.lemmas.List.Elements.{All-head, All-tail, All-cons, All-nil, All-map}
use Rattle.std.proofs.lemmas.List.{length-map}
use Rattle.std.proofs.Math.Seq.{take-length}
use Rattle.std.specs.Option.{option_map, option_or}
use Rattle.vp_terms.specs.declared.expr.Places.{Places}
use Rattle.vp_terms.specs.declared.package.Names.{Names}
use Rattle.vp_terms.specs.declared.package.Package.{Package}
use Rattle.vp_terms.specs.WellFormed.{places_of}
use Rattle.vp_lex.specs.declared.token.Token.{Token}
use Rattle.vp_grammar.specs.declared.strays.Rule.{Rule}
use Rattle.vp_grammar.specs.declared.terminal.Span.{Span}
use Rattle.vp_grammar.specs.declared.terminal.Terminal.{Terminal}
use Rattle.vp_grammar.specs.declared.terminal.Terminal.TheVariants as terminal
use Rattle.vp_grammar.specs.Strays.{first_stray, fits, set_behind, variable_span}
use Rattle.vp_read.specs.declared.fault.ReadErr.{ReadErr}
use Rattle.vp_read.specs.declared.fault.ReadErr.TheVariants as fault
use Rattle.vp_read.specs.Spelling.{span_text}
use Rattle.vp_read.specs.Naming.{IsWithin, StandsIn, known}
use Rattle.vp_read.specs.Pieces.{first_deep, items}
use Rattle.vp_read.specs.Sections.{Declares, Describes, Tells, IsUnformedHead, IsUnformedBody, known_pieces, spelled}
use Rattle.vp_read.specs.Reading.{Checks, IsCut, IsDraft, IsPackage, Refuses, RefusesPieces, first_stray_from, rule_of, stray_of}
use Rattle.vp_read.proofs.Lists.{drop_map}
use Rattle.vp_read.proofs.Scanned.{of_items}

-- names that are spelled are as many as their spans
pub spelled_few : (text : List ℕ) (spans : List Span) (names : List (List ℕ)) (n : ℕ) → names ≡ spelled text spans → length spans ≤ n → n ≤ 1048576 → length names ≤ 1048576
spelled_few text spans names n e l m = omega (arith, ap length e, length-map spans (λ (z : Span). span_text text z), l, m)

-- pieces whose names have their variables are as many and as long, and stand where the others do
known_stands : (text : List ℕ) (names : Names) (t : Terminal) → StandsIn text t → StandsIn text (known text names t)
known_stands text names (terminal.Name s v) h = h
known_stands text names (terminal.Variable s None) h = h
known_stands text names (terminal.Variable s (Some v)) h = h
known_stands text names (terminal.Word w) h = tt
known_stands text names (terminal.Symbol s) h = tt
known_stands text names (terminal.Operator o) h = tt
known_stands text names (terminal.Compare c) h = tt
known_stands text names (terminal.Number r w) h = tt

pub each_stands : (text : List ℕ) (names : Names) (ts : List Terminal) → All (StandsIn text) ts → All (StandsIn text) (map (known text names) ts)
each_stands text names [] h = All-nil (StandsIn text)
each_stands text names (t ∷ ts) h = All-cons (StandsIn text) (known text names t) (map (known text names) ts) (known_stands text names t (All-head (StandsIn text) t ts h)) (each_stands text names ts (All-tail (StandsIn text) t ts h))

pieces_stand : (text : List ℕ) (names : Names) (ps : List (Vec Terminal Global)) → All (λ v. All (StandsIn text) v.items) ps → All (All (StandsIn text)) (known_pieces text names (map items ps))
pieces_stand text names [] h = All-nil (All (StandsIn text))
pieces_stand text names (p ∷ ps) h = All-cons (All (StandsIn text)) _ (known_pieces text names (map items ps)) (each_stands text names p.items (All-head (λ (v : Vec Terminal Global). All (StandsIn text) v.items) p ps h)) (pieces_stand text names ps (All-tail (λ (v : Vec Terminal Global). All (StandsIn text) v.items) p ps h))

pub known_within : (text : List ℕ) (names : Names) (ps ks : List (Vec Terminal Global)) → map items ks ≡ known_pieces text names (map items ps) → All (λ v. All (StandsIn text) v.items) ps → All (λ v. All (StandsIn text) v.items) ks
known_within text names ps ks e h = of_items (All (StandsIn text)) ks (subst (All (All (StandsIn text))) (sym e) (pieces_stand text names ps h))

pub known_few : (text : List ℕ) (names : Names) (ps ks : List (Vec Terminal Global)) → map items ks ≡ known_pieces text names (map items ps) → length ks ≡ length ps
known_few text names ps ks e = sym (length-map ks items) ∙ ap length e ∙ length-map (map items ps) (map (known text names)) ∙ length-map ps items

pieces_short : (text : List ℕ) (names : Names) (ps : List (Vec Terminal Global)) → All (λ v. length v.items ≤ 1048576) ps → All (λ p. length p ≤ 1048576) (known_pieces text names (map items ps))
pieces_short text names [] h = All-nil (λ (p : List Terminal). length p ≤ 1048576)
pieces_short text names (p ∷ ps) h =
    let same : length (map (known text names) p.items) ≡ length p.items = length-map p.items (known text names) in
    let this : length p.items ≤ 1048576 = All-head (λ (v : Vec Terminal Global). length v.items ≤ 1048576) p ps h in
    All-cons (λ (q : List Terminal). length q ≤ 1048576) (map (known text names) p.items) (known_pieces text names (map items ps)) (omega (arith, same, this)) (pieces_short text names ps (All-tail (λ (v : Vec Terminal Global). length v.items ≤ 1048576) p ps h))

pub known_short : (text : List ℕ) (names : Names) (ps ks : List (Vec Terminal Global)) → map items ks ≡ known_pieces text names (map items ps) → All (λ v. length v.items ≤ 1048576) ps → All (λ v. length v.items ≤ 1048576) ks
known_short text names ps ks e h = of_items (λ (p : List Terminal). length p ≤ 1048576) ks (subst (All (λ (p : List Terminal). length p ≤ 1048576)) (sym e) (pieces_short text names ps h))

-- what refuses the pieces of a text refuses the text
pub pieces_refuse : (text : List ℕ) (e : ReadErr) → RefusesPieces text e → Refuses text e
pieces_refuse text (fault.Lex at) h = h
pieces_refuse text (fault.Number at) h = h
pieces_refuse text (fault.Deep n) h = h
pieces_refuse text fault.Memory h = tt
pieces_refuse text (fault.Section n) h = absurd h
pieces_refuse text (fault.Names n) h = absurd h
pieces_refuse text (fault.Twice name) h = absurd h
pieces_refuse text (fault.Entries n m) h = absurd h
pieces_refuse text (fault.Undeclared name n) h = absurd h

-- what refuses a part refuses the text
pub tells_refuses : (text : List ℕ) (Q : ℕ → Type 0) (e : ReadErr) → Tells Q e → ((n : ℕ) → Q n → Refuses text (fault.Section n)) → Refuses text e
tells_refuses text Q (fault.Section n) h f = f n h
tells_refuses text Q fault.Memory h f = tt
tells_refuses text Q (fault.Lex at) h f = absurd h
tells_refuses text Q (fault.Number at) h f = absurd h
tells_refuses text Q (fault.Deep n) h f = absurd h
tells_refuses text Q (fault.Names n) h f = absurd h
tells_refuses text Q (fault.Twice name) h f = absurd h
tells_refuses text Q (fault.Entries n m) h f = absurd h
tells_refuses text Q (fault.Undeclared name n) h f = absurd h

pub head_refuses : (text : List ℕ) (tokens : List Token) (ps : List (List Terminal)) (e : ReadErr) → IsCut text tokens ps → first_deep 1 ps ≡ None → Tells (IsUnformedHead text tokens ps) e → Refuses text e
head_refuses text tokens ps e c d h = tells_refuses text (IsUnformedHead text tokens ps) e h (λ n b. (tokens, ps, c, d, inl b))

pub body_refuses : (text : List ℕ) (tokens : List Token) (ps ks : List (List Terminal)) (names : Names) (e : ReadErr) → IsCut text tokens ps → first_deep 1 ps ≡ None → Declares text tokens ps names → ks ≡ known_pieces text names ps → Tells (IsUnformedBody ks) e → Refuses text e
body_refuses text tokens ps ks names e c d n k h = tells_refuses text (IsUnformedBody ks) e h (λ m b. (tokens, ps, c, d, inr (names, n, subst (λ (qs : List (List Terminal)). IsUnformedBody qs m) k b)))

pub is_draft : (text : List ℕ) (tokens : List Token) (ps ks : List (List Terminal)) (names : Names) (pkg : Package) → IsCut text tokens ps → first_deep 1 ps ≡ None → Declares text tokens ps names → ks ≡ known_pieces text names ps → pkg.names ≡ names → Describes ks pkg → (draft : IsDraft text pkg) × (ks ≡ known_pieces text pkg.names draft.pieces)
is_draft text tokens ps ks names pkg c d n k e b =
    let these : ks ≡ known_pieces text pkg.names ps = k ∙ ap (λ (m : Names). known_pieces text m ps) (sym e) in (
      record {
        tokens = tokens;
        pieces = ps;
        cut = c;
        shallow = d;
        head = subst (Declares text tokens ps) (sym e) n;
        body = subst (λ (qs : List (List Terminal)). Describes qs pkg) these b;
      },
      these,
    )

-- the variable that is told stands in the text
pub stray_stands : (text : List ℕ) (r : Rule) (p : Places) (i : ℕ) (ts : List Terminal) (s : Span) → All (StandsIn text) ts → first_stray r p i ts ≡ Some s → IsWithin text s
stray_stands text r p i [] s h e = absurd (cc)
stray_stands text r p i (t ∷ ts) s h e = of (fits r p i t ts) e (λ k. stray_stands text r p (set_behind r i t ts) ts s (All-tail (StandsIn text) t ts h) k)
  where
    from : (u : Terminal) → StandsIn text u → variable_span u ≡ Some s → IsWithin text s
    from (terminal.Name z v) k f = subst (IsWithin text) (let g : z ≡ s = cc in g) k
    from (terminal.Variable z v) k f = subst (IsWithin text) (let g : z ≡ s = cc in g) k
    from (terminal.Word w) k f = absurd (cc)
    from (terminal.Symbol z) k f = absurd (cc)
    from (terminal.Operator o) k f = absurd (cc)
    from (terminal.Compare c) k f = absurd (cc)
    from (terminal.Number z w) k f = absurd (cc)

    of : (b : Bool) → (if b then first_stray r p (set_behind r i t ts) ts else variable_span t) ≡ Some s → (first_stray r p (set_behind r i t ts) ts ≡ Some s → IsWithin text s) → IsWithin text s
    of true f k = k f
    of false f k = from t (All-head (StandsIn text) t ts h) f

strays_stand : (text : List ℕ) (p : Places) (k n : ℕ) (qs : List (List Terminal)) (s : Span) → All (All (StandsIn text)) qs → first_stray_from p k qs ≡ Some (s, n) → IsWithin text s
strays_stand text p k n [] s h e = absurd (cc)
strays_stand text p k n (q ∷ qs) s h e = of (first_stray (rule_of k) p 0 q) refl e (λ f. strays_stand text p (k + 1) n qs s (All-tail (All (StandsIn text)) q qs h) f)
  where
    of : (o : Option Span) → first_stray (rule_of k) p 0 q ≡ o → option_or (option_map (λ z. (z, k)) o) (first_stray_from p (k + 1) qs) ≡ Some (s, n) → (first_stray_from p (k + 1) qs ≡ Some (s, n) → IsWithin text s) → IsWithin text s
    of None g f c = c f
    of (Some z) g f c = let same : z ≡ s = ap (λ (x : Option (Span × ℕ)). unwrap_or (option_map (λ y. y.0) x) s) f in stray_stands text (rule_of k) p 0 q s (All-head (All (StandsIn text)) q qs h) (g ∙ ap Some same)

drop_each : (text : List ℕ) (n : ℕ) (qs : List (List Terminal)) → All (All (StandsIn text)) qs → All (All (StandsIn text)) (drop n qs)
drop_each text zero qs h = h
drop_each text (suc n) [] h = All-nil (All (StandsIn text))
drop_each text (suc n) (q ∷ qs) h = drop_each text n qs (All-tail (All (StandsIn text)) q qs h)

pub fifth_is : (ps qs : List (Vec Terminal Global)) → qs ≡ drop 4 ps → map items qs ≡ drop 4 (map items ps)
fifth_is ps qs e = ap (map items) e ∙ drop_map items 4 ps

pub stray_within : (text : List ℕ) (p : Places) (n : ℕ) (ks qs : List (Vec Terminal Global)) (s : Span) → qs ≡ drop 4 ks → All (λ v. All (StandsIn text) v.items) ks → Some (s, n) ≡ first_stray_from p 5 (map items qs) → IsWithin text s
stray_within text p n ks qs s e h f = strays_stand text p 5 n (map items qs) s (subst (All (All (StandsIn text))) (sym (fifth_is ks qs e)) (drop_each text 4 (map items ks) (All-map (All (StandsIn text)) items ks h))) (sym f)

-- what a check of names and entries answers of a draft is what the text is read as
strays_are : (text : List ℕ) (pkg : Package) (d : IsDraft text pkg) (ks : List (List Terminal)) → ks ≡ known_pieces text pkg.names d.pieces → first_stray_from (places_of pkg.names) 5 (drop 4 ks) ≡ stray_of text d.pieces pkg.names
strays_are text pkg d ks e = ap (λ (qs : List (List Terminal)). first_stray_from (places_of pkg.names) 5 (drop 4 qs)) e

pub check_refuses : (text : List ℕ) (pkg : Package) (ks : List (List Terminal)) (e : ReadErr) → (draft : IsDraft text pkg) × (ks ≡ known_pieces text pkg.names draft.pieces) → Checks text pkg ks (Err e) → Refuses text e
check_refuses text pkg ks (fault.Names n) d h = (pkg, d.0, h.0, h.1)
check_refuses text pkg ks (fault.Twice name) d h = (pkg, d.0, h.0, h.1)
check_refuses text pkg ks (fault.Entries k n) d h = (pkg, d.0, h.0, h.1, h.2)
check_refuses text pkg ks (fault.Undeclared name k) d h = (pkg, d.0, h.0, h.1, h.2, h.3, sym (strays_are text pkg d.0 ks d.1) ∙ h.4, h.5)
check_refuses text pkg ks fault.Memory d h = tt
check_refuses text pkg ks (fault.Lex at) d h = absurd h
check_refuses text pkg ks (fault.Number at) d h = absurd h
check_refuses text pkg ks (fault.Deep n) d h = absurd h
check_refuses text pkg ks (fault.Section n) d h = absurd h

pub check_accepts : (text : List ℕ) (pkg : Package) (ks : List (List Terminal)) → (draft : IsDraft text pkg) × (ks ≡ known_pieces text pkg.names draft.pieces) → Checks text pkg ks (Ok tt) → IsPackage text pkg
check_accepts text pkg ks d h = record {
  draft = d.0;
  few = h.0;
  distinct = h.1;
  entries = h.2;
  declared = sym (strays_are text pkg d.0 ks d.1) ∙ h.3;
}

-- all pieces were gone through, with the names of the scope
pub all_known : (text : List ℕ) (n m : Names) (ps ks : List (Vec Terminal Global)) (i : ℕ) → i ≡ length ps → n ≡ m → map items ks ≡ known_pieces text n (map items (take i ps)) → map items ks ≡ known_pieces text m (map items ps)
all_known text n m ps ks i e f h = h ∙ ap (λ (k : ℕ). known_pieces text n (map items (take k ps))) e ∙ ap (λ (qs : List (Vec Terminal Global)). known_pieces text n (map items qs)) (take-length ps) ∙ ap (λ (o : Names). known_pieces text o (map items ps)) f
