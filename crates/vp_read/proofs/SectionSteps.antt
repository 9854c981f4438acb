-- Pieces that are not what they are to be.
use Rattle.std.proofs.Common.{Vec, Global, ℕ, ◌+◌, ◌≡◌, inl, inr, ◌<◌, List, [], ◌∷◌, ◌++◌, drop, take, length, map, get_or, Err, refl, ap, sym, ◌∙◌, subst, arith}
use Rattle.std.proofs.lemmas.List.{take_more}
use Rattle.std.proofs.Math.Seq.{take-length}
use Rattle.vp_terms.specs.declared.package.Cert.{Cert}
use Rattle.vp_grammar.specs.declared.fault.ParseErr.{ParseErr}
use Rattle.vp_grammar.specs.declared.fault.ParseErr.TheVariants as form
use Rattle.vp_grammar.specs.declared.terminal.Terminal.{Terminal}
use Rattle.vp_lex.specs.declared.word.ReservedWord.{ReservedWord}
use Rattle.vp_grammar.specs.Reads.{FailsAll}
use Rattle.vp_grammar.specs.Entries.{SpellsNames}
use Rattle.vp_grammar.specs.Certificates.{SpellsCert}
use Rattle.vp_terms.specs.Packages.{CertTree, cert_tree}
use Rattle.vp_read.specs.declared.fault.ReadErr.{ReadErr}
use Rattle.vp_read.specs.declared.fault.ReadErr.TheVariants as fault
use Rattle.vp_read.specs.Pieces.{items}
use Rattle.vp_read.proofs.PieceLists.{piece_here}
use Rattle.vp_read.proofs.Lists.{drop_map}
use Rattle.vp_read.specs.Sections.{AreCerts, IsFirstNoCert, IsListed, ReadsCerts, ReadsPiece, Tells, of_form}

pub refused : {X T : Type 0} (view : X → T) (P : T → Type 0) (k : ℕ) (e : ReadErr) (why : ParseErr) → e ≡ of_form k why → FailsAll P why → ReadsPiece view P k (Err e)
refused {X} {T} view P k e form.Form h f = subst (λ (x : ReadErr). ReadsPiece {X = X} view P k (Err x)) (sym h) (refl, f)
refused {X} {T} view P k e form.Memory h f = subst (λ (x : ReadErr). ReadsPiece {X = X} view P k (Err x)) (sym h) tt

-- the loop over the pieces behind the 13th
pub record CertsSoFar (ps : List (Vec Terminal Global)) (i : ℕ) (found : List Cert) : Type 0 where
  pub spelt : AreCerts (map items (take i ps)) (map cert_tree found)
  pub none : (n : ℕ) → IsFirstNoCert (i + 14) (map items (drop i ps)) n → IsFirstNoCert 14 (map items ps) n

cert_more : (qs : List (List Terminal)) (ts : List CertTree) (q : List Terminal) (t : CertTree) → AreCerts qs ts → SpellsCert q t → AreCerts (qs ++ q ∷ []) (ts ++ t ∷ [])
cert_more [] [] q t h k = (k, tt)
cert_more [] (u ∷ us) q t h k = absurd h
cert_more (p ∷ ps) [] q t h k = absurd h
cert_more (p ∷ ps) (u ∷ us) q t h k = (h.0, cert_more ps us q t h.1 k)

map_more : {A B : Type 0} (f : A → B) (xs : List A) (x : A) → map f (xs ++ x ∷ []) ≡ map f xs ++ f x ∷ []
map_more f [] x = refl
map_more f (y ∷ ys) x = ap (λ zs. f y ∷ zs) (map_more f ys x)

pub cert_on : (ps : List (Vec Terminal Global)) (i : ℕ) (found : List Cert) (v : Vec Terminal Global) (c : Cert) → i < length ps → v ≡ get_or ps i v → CertsSoFar ps i found → SpellsCert (items v) (cert_tree c) → CertsSoFar ps (i + 1) (found ++ c ∷ [])
cert_on ps i found v c h e s k = record {
  spelt = subst (λ (qs : List (List Terminal)). AreCerts qs (map cert_tree (found ++ c ∷ []))) (sym (ap (map items) (take_more ps i v h ∙ ap (λ (u : Vec Terminal Global). take i ps ++ u ∷ []) (sym e)) ∙ map_more items (take i ps) v)) (subst (λ (ts : List CertTree). AreCerts (map items (take i ps) ++ items v ∷ []) ts) (sym (map_more cert_tree found c)) (cert_more (map items (take i ps)) (map cert_tree found) (items v) (cert_tree c) s.spelt k));
  none = λ n b. s.none n (subst (λ (qs : List (List Terminal)). IsFirstNoCert (i + 14) qs n) (sym (piece_here ps i v h e)) (inr ((cert_tree c, k), subst (λ (m : ℕ). IsFirstNoCert m (map items (drop (i + 1) ps)) n) (omega arith) b)));
}

pub cert_none : (ps : List (Vec Terminal Global)) (i : ℕ) (found : List Cert) (v : Vec Terminal Global) (why : ParseErr) (e : ReadErr) → i < length ps → v ≡ get_or ps i v → CertsSoFar ps i found → FailsAll (SpellsCert (items v)) why → e ≡ of_form (i + 14) why → ReadsCerts 14 (map items ps) (Err e)
cert_none ps i found v form.Form e h k s f w = subst (λ (x : ReadErr). ReadsCerts 14 (map items ps) (Err x)) (sym w) (s.none (i + 14) (subst (λ (qs : List (List Terminal)). IsFirstNoCert (i + 14) qs (i + 14)) (sym (piece_here ps i v h k)) (inl (f, refl))))
cert_none ps i found v form.Memory e h k s f w = subst (λ (x : ReadErr). ReadsCerts 14 (map items ps) (Err x)) (sym w) tt

pub certs_end : (ps : List (Vec Terminal Global)) (i : ℕ) (found : List Cert) → i ≡ length ps → CertsSoFar ps i found → AreCerts (map items ps) (map cert_tree found)
certs_end ps i found e s = subst (λ (qs : List (Vec Terminal Global)). AreCerts (map items qs) (map cert_tree found)) (ap (λ (k : ℕ). take k ps) e ∙ take-length ps) s.spelt

-- what refuses a piece tells its number
pub tells : {X T : Type 0} (view : X → T) (P : T → Type 0) (k : ℕ) (Q : ℕ → Type 0) (e : ReadErr) → ReadsPiece {X = X} view P k (Err e) → (((t : T) → P t → ⊥) → Q k) → Tells Q e
tells view P k Q (fault.Section n) h f = subst Q (sym h.0) (f h.1)
tells view P k Q fault.Memory h f = tt
tells view P k Q (fault.Lex at) h f = h
tells view P k Q (fault.Number at) h f = h
tells view P k Q (fault.Deep n) h f = h
tells view P k Q (fault.Names n) h f = h
tells view P k Q (fault.Twice name) h f = h
tells view P k Q (fault.Entries n m) h f = h
tells view P k Q (fault.Undeclared name n) h f = h

pub tells_more : (P Q : ℕ → Type 0) (e : ReadErr) → Tells P e → ((n : ℕ) → P n → Q n) → Tells Q e
tells_more P Q (fault.Section n) h f = f n h
tells_more P Q fault.Memory h f = tt
tells_more P Q (fault.Lex at) h f = h
tells_more P Q (fault.Number at) h f = h
tells_more P Q (fault.Deep n) h f = h
tells_more P Q (fault.Names n) h f = h
tells_more P Q (fault.Twice name) h f = h
tells_more P Q (fault.Entries n m) h f = h
tells_more P Q (fault.Undeclared name n) h f = h

-- the pieces behind the 13th
pub behind_is : (ps qs : List (Vec Terminal Global)) → qs ≡ drop 13 ps → map items qs ≡ drop 13 (map items ps)
behind_is ps qs e = ap (map items) e ∙ drop_map items 13 ps

-- terminals that are no list of names list no names
pub no_list : (text : List ℕ) (w : ReservedWord) (least : ℕ) (p : List Terminal) (why : ParseErr) → FailsAll (SpellsNames w least p) why → FailsAll (IsListed text w least p) why
no_list text w least p form.Form h = λ t x. h x.0 x.1
no_list text w least p form.Memory h = tt
