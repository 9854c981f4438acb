-- Certificates and parts of a text are well formed.
use Rattle.std.proofs.Common.{ℕ, zero, suc, ◌≡◌, ◌≤◌, Bool, true, false, not, ◌||◌, IsTrue, pos, List, [], ◌∷◌, length, map, All, drop, None, Some, IfOk, Result, Ok, Err, refl, sym, subst, arith}
use Rattle.std.proofs.lemmas.Bool.{and_from}
use Rattle.std.proofs.lemmas.List.{length-map}
use Rattle.std.proofs.lemmas.List.Elements.{All-head, All-tail, All-cons, All-nil}
use Rattle.std.specs.List.{list_all}
use Rattle.std.specs.Ordering.{int_eq}
use Rattle.vp_terms.specs.declared.package.Cert.{Cert}
use Rattle.vp_terms.specs.declared.package.Names.{Names}
use Rattle.vp_terms.specs.declared.package.Package.{Package}
use Rattle.vp_terms.specs.declared.ratio.Ratio.{Ratio}
use Rattle.vp_terms.specs.Certificates.{IsCertificate}
use Rattle.vp_terms.specs.Number.{is_whole}
use Rattle.vp_terms.specs.Ratios.{IsNumber}
use Rattle.vp_lex.specs.declared.token.Token.{Token}
use Rattle.vp_grammar.specs.declared.terminal.Terminal.{Terminal}
use Rattle.vp_grammar.specs.declared.terminal.Terminal.TheVariants as terminal
use Rattle.vp_grammar.specs.Certificates.{SpellsCert, is_whole_number}
use Rattle.vp_terms.specs.Packages.{cert_tree}
use Rattle.vp_read.specs.declared.fault.ReadErr.{ReadErr}
use Rattle.vp_read.specs.Naming.{known}
use Rattle.vp_read.specs.Reading.{IsPackage, IsPart, ReadsPart}
use Rattle.vp_read.specs.Sections.{AreCerts, known_pieces}
use Rattle.vp_read.specs.Spelling.{AreTerminals, IsTerminal, token_text}
use Rattle.vp_read.proofs.GoodPackages.{not_deep}
use Rattle.vp_read.proofs.Scanned.{pieces_each}

-- a number that is told as a whole, and is one
abbrev IsWhole : Terminal → Type 0
IsWhole t = IsTrue (is_whole_number t)

-- what the laws say of numbers and certificates
pub record NumberLaws : Type 0 where
  pub whole : (text : List ℕ) (r : Ratio) → IsTrue (is_whole text) → IsNumber text r → r.den ≡ pos 1
  pub form : (c : Cert) (ts : List Terminal) → SpellsCert ts (cert_tree c) → IsTrue (list_all is_whole_number ts) → IsCertificate c

terminal_whole : (g : NumberLaws) (text : List ℕ) (t : Token) (x : Terminal) → IsTerminal text t x → IsWhole x
terminal_whole g text t (terminal.Number r w) h = of w (is_whole (token_text text t)) h.2 refl
  where
    one : (r.den ≡ pos 1) → IsTrue (int_eq r.den (pos 1))
    one e = rw e refl

    of : (v u : Bool) → v ≡ u → is_whole (token_text text t) ≡ u → IsTrue (not v || int_eq r.den (pos 1))
    of true true e f = one (g.whole (token_text text t) r f h.1)
    of true false e f = absurd (cc)
    of false u e f = refl
terminal_whole g text t (terminal.Word w) h = refl
terminal_whole g text t (terminal.Symbol s) h = refl
terminal_whole g text t (terminal.Operator o) h = refl
terminal_whole g text t (terminal.Compare c) h = refl
terminal_whole g text t (terminal.Name s v) h = refl
terminal_whole g text t (terminal.Variable s v) h = refl

pub terminals_whole : (g : NumberLaws) (text : List ℕ) (ts : List Token) (xs : List Terminal) → AreTerminals text ts xs → All IsWhole xs
terminals_whole g text [] [] h = All-nil IsWhole
terminals_whole g text [] (x ∷ xs) h = absurd h
terminals_whole g text (t ∷ ts) [] h = absurd h
terminals_whole g text (t ∷ ts) (x ∷ xs) h = All-cons IsWhole x xs (terminal_whole g text t x h.0) (terminals_whole g text ts xs h.1)

known_whole : (text : List ℕ) (names : Names) (x : Terminal) → IsWhole x → IsWhole (known text names x)
known_whole text names (terminal.Number r w) h = h
known_whole text names (terminal.Word w) h = refl
known_whole text names (terminal.Symbol s) h = refl
known_whole text names (terminal.Operator o) h = refl
known_whole text names (terminal.Compare c) h = refl
known_whole text names (terminal.Name s v) h = refl
known_whole text names (terminal.Variable s None) h = refl
known_whole text names (terminal.Variable s (Some v)) h = refl

each_whole : (text : List ℕ) (names : Names) (xs : List Terminal) → All IsWhole xs → IsTrue (list_all is_whole_number (map (known text names) xs))
each_whole text names [] h = refl
each_whole text names (x ∷ xs) h = and_from (is_whole_number (known text names x)) (list_all is_whole_number (map (known text names) xs)) (known_whole text names x (All-head IsWhole x xs h)) (each_whole text names xs (All-tail IsWhole x xs h))

-- the certificates of a package
certs_are : (g : NumberLaws) (text : List ℕ) (names : Names) (ps : List (List Terminal)) (n : ℕ) (cs : List Cert) → All (All IsWhole) ps → AreCerts (drop n (known_pieces text names ps)) (map cert_tree cs) → All IsCertificate cs
certs_are g text names ps n [] h a = All-nil IsCertificate
certs_are g text names [] zero (c ∷ cs) h a = absurd a
certs_are g text names [] (suc n) (c ∷ cs) h a = absurd a
certs_are g text names (p ∷ ps) zero (c ∷ cs) h a = All-cons IsCertificate c cs (g.form c (map (known text names) p) a.0 (each_whole text names p (All-head (All IsWhole) p ps h))) (certs_are g text names ps zero cs (All-tail (All IsWhole) p ps h) a.1)
certs_are g text names (p ∷ ps) (suc n) (c ∷ cs) h a = certs_are g text names ps n (c ∷ cs) (All-tail (All IsWhole) p ps h) a

pub package_certificates : (g : NumberLaws) (text : List ℕ) (pkg : Package) → IsPackage text pkg → All IsCertificate pkg.certs
package_certificates g text pkg h =
    let k = h.draft.cut in
    certs_are g text pkg.names h.draft.pieces 13 pkg.certs (subst (All (All IsWhole)) (sym k.2) (pieces_each IsWhole 0 k.0 (terminals_whole g text h.draft.tokens k.0 k.1.1))) h.draft.body.certs

-- a part that is a certificate
pub part_certificate : (g : NumberLaws) (text : List ℕ) (tokens : List Token) (names : Names) (c : Cert) → IsPart SpellsCert text tokens names (cert_tree c) → IsCertificate c
part_certificate g text tokens names c h = g.form c (map (known text names) h.terminals) h.form (each_whole text names h.terminals (terminals_whole g text tokens h.terminals h.stand))

-- a part has at most 2,048 terminals
pub part_small : {T : Type 0} (Form : List Terminal → T → Type 0) (text : List ℕ) (tokens : List Token) (names : Names) (t : T) (h : IsPart Form text tokens names t) → length (map (known text names) h.terminals) ≤ 2048
part_small Form text tokens names t h = omega (arith, length-map h.terminals (known text names), not_deep h.terminals h.shallow)

-- what holds of each tree that a part has holds of what is read
pub read_good : {X T : Type 0} (view : X → T) (Form : List Terminal → T → Type 0) (text : List ℕ) (tokens : List Token) (names : Names) (Good : X → Type 0) (r : Result X ReadErr) → ReadsPart view Form text tokens names r → ((x : X) → IsPart Form text tokens names (view x) → Good x) → IfOk r Good
read_good view Form text tokens names Good (Ok x) h f = f x h
read_good view Form text tokens names Good (Err e) h f = tt
