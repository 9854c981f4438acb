-- Parts of a text.
use Rattle.std.proofs.Common.{Vec, Global, ℕ, ◌+◌, ◌≡◌, ◌≤◌, List, [], ◌∷◌, ◌++◌, length, map, All, Result, Ok, Err, refl, ap, sym, ◌∙◌, subst, arith, append-nil}
use Rattle.std.proofs.lemmas.List.Elements.{All-head, All-tail, All-cons, All-nil}
use Rattle.std.proofs.lemmas.List.{length-map}
use Rattle.vp_terms.specs.declared.package.Names.{Names}
use Rattle.vp_terms.specs.Places.{place_count}
use Rattle.vp_terms.specs.WellFormed.{places_of}
use Rattle.vp_lex.specs.declared.token.Token.{Token}
use Rattle.vp_lex.specs.Tokens.{Fills, IsToken, Tokenizes}
use Rattle.vp_grammar.specs.declared.fault.ParseErr.{ParseErr}
use Rattle.vp_grammar.specs.declared.fault.ParseErr.TheVariants as form
use Rattle.vp_grammar.specs.declared.terminal.Terminal.{Terminal}
use Rattle.vp_grammar.specs.Reads.{ReadsAll}
use Rattle.vp_read.specs.declared.fault.ReadErr.{ReadErr}
use Rattle.vp_read.specs.declared.fault.ReadErr.TheVariants as fault
use Rattle.vp_read.specs.Spelling.{AreTerminals, GivesTerminals}
use Rattle.vp_read.specs.Naming.{AreFew, StandsIn, known}
use Rattle.vp_grammar.specs.Strays.{first_stray}
use Rattle.vp_read.specs.Reading.{AreConsecutive, ReadsPart, certificates}
use Rattle.vp_read.specs.Parts.{GivesKnown, GivesPart}
use Rattle.vp_read.proofs.Scanned.{tokens_stand, tokens_few, same_count, terminals_stand}
use Rattle.vp_read.proofs.Drafting.{each_stands}

front_each : (P : Token → Type 0) (xs ys : List Token) → All P (xs ++ ys) → All P xs
front_each P [] ys h = All-nil P
front_each P (x ∷ xs) ys h = All-cons P x xs (All-head P x (xs ++ ys) h) (front_each P xs ys (All-tail P x (xs ++ ys) h))

behind_each : (P : Token → Type 0) (xs ys : List Token) → All P (xs ++ ys) → All P ys
behind_each P [] ys h = h
behind_each P (x ∷ xs) ys h = behind_each P xs ys (All-tail P x (xs ++ ys) h)

joined_count : (xs ys : List Token) → length (xs ++ ys) ≡ length xs + length ys
joined_count [] ys = omega arith
joined_count (x ∷ xs) ys = omega (arith, joined_count xs ys)

pub part_stands : (text : List ℕ) (tokens : List Token) → AreConsecutive text tokens → All (λ t. IsToken text t) tokens
part_stands text tokens c = behind_each (λ (t : Token). IsToken text t) c.0 tokens (front_each (λ (t : Token). IsToken text t) (c.0 ++ tokens) c.1 (tokens_stand text 0 _ (length text) c.2))

pub part_few : (text : List ℕ) (tokens : List Token) → AreConsecutive text tokens → length text ≤ 1048576 → length tokens ≤ 1048576
part_few text tokens c l = omega (arith, tokens_few text 0 (c.0 ++ tokens ++ c.1) (length text) c.2, joined_count (c.0 ++ tokens) c.1, joined_count c.0 tokens, l)

pub names_are_few : (names : Names) → place_count (places_of names) ≤ 32 → AreFew names
names_are_few names h = (omega (arith, h), omega (arith, h), omega (arith, h))

pub known_stand : (text : List ℕ) (tokens : List Token) (names : Names) (ts ks : List Terminal) → AreConsecutive text tokens → AreTerminals text tokens ts → ks ≡ map (known text names) ts → All (StandsIn text) ks
known_stand text tokens names ts ks c h e = subst (All (StandsIn text)) (sym e) (each_stands text names ts (terminals_stand text tokens ts (part_stands text tokens c) h))

pub known_count : (text : List ℕ) (tokens : List Token) (names : Names) (ts ks : List Terminal) → AreConsecutive text tokens → length text ≤ 1048576 → AreTerminals text tokens ts → ks ≡ map (known text names) ts → length ks ≤ 1048576
known_count text tokens names ts ks c l h e = omega (arith, part_few text tokens c l, same_count text tokens ts h, ap length e, length-map ts (known text names))

pub terminal_count : (text : List ℕ) (tokens : List Token) (ts : List Terminal) → AreConsecutive text tokens → length text ≤ 1048576 → AreTerminals text tokens ts → length ts ≤ 1048576
terminal_count text tokens ts c l h = omega (arith, part_few text tokens c l, same_count text tokens ts h)

pub given_known : (text : List ℕ) (tokens : List Token) (names : Names) (e : ReadErr) → GivesTerminals text tokens (Err e) → GivesKnown text tokens names (Err e)
given_known text tokens names (fault.Number at) h = h
given_known text tokens names fault.Memory h = tt
given_known text tokens names (fault.Lex at) h = absurd h
given_known text tokens names (fault.Deep n) h = absurd h
given_known text tokens names (fault.Section n) h = absurd h
given_known text tokens names (fault.Names n) h = absurd h
given_known text tokens names (fault.Twice name) h = absurd h
given_known text tokens names (fault.Entries n m) h = absurd h
given_known text tokens names (fault.Undeclared name n) h = absurd h

-- what a part is read as, by what its terminals, its form and its variables give
pub part_refused : {X T : Type 0} (view : X → T) (Form : List Terminal → T → Type 0) (text : List ℕ) (tokens : List Token) (names : Names) (e : ReadErr) → GivesKnown text tokens names (Err e) → ReadsPart {X = X} view Form text tokens names (Err e)
part_refused view Form text tokens names (fault.Number at) h = h
part_refused view Form text tokens names (fault.Deep n) h = h
part_refused view Form text tokens names fault.Memory h = tt
part_refused view Form text tokens names (fault.Lex at) h = absurd h
part_refused view Form text tokens names (fault.Section n) h = absurd h
part_refused view Form text tokens names (fault.Names n) h = absurd h
part_refused view Form text tokens names (fault.Twice name) h = absurd h
part_refused view Form text tokens names (fault.Entries n m) h = absurd h
part_refused view Form text tokens names (fault.Undeclared name n) h = absurd h

pub part_reads : {X T : Type 0} (view : X → T) (Form : List Terminal → T → Type 0) (text : List ℕ) (tokens : List Token) (names : Names) (v : Vec Terminal Global) (ks js : List Terminal) (read : Result X ParseErr) (r : Result X ReadErr) → GivesKnown text tokens names (Ok v) → ks ≡ v.items → js ≡ v.items → ReadsAll view (Form ks) read → GivesPart text (places_of names) js read r → ReadsPart {X = X} view Form text tokens names r
part_reads {X} view Form text tokens names v ks js (Err form.Form) (Err e) g k j f w = subst (λ (x : ReadErr). ReadsPart {X = X} view Form text tokens names (Err x)) (sym w) (refl, (g.0, g.1, g.2, λ t h. f t (subst (λ (ts : List Terminal). Form ts t) (sym (k ∙ g.3)) h)))
part_reads {X} view Form text tokens names v ks js (Err form.Memory) (Err e) g k j f w = subst (λ (x : ReadErr). ReadsPart {X = X} view Form text tokens names (Err x)) (sym w) tt
part_reads view Form text tokens names v ks js (Err form.Form) (Ok y) g k j f w = absurd w
part_reads view Form text tokens names v ks js (Err form.Memory) (Ok y) g k j f w = absurd w
part_reads view Form text tokens names v ks js (Ok x) (Ok y) g k j f w = record {
  terminals = g.0;
  stand = g.1;
  shallow = g.2;
  form = subst (λ ts. Form ts (view y)) (k ∙ g.3) (subst (λ z. Form ks (view z)) w.0 f);
  declared = ap (λ (ts : List Terminal). first_stray certificates (places_of names) 0 ts) (sym (j ∙ g.3)) ∙ w.1;
}
part_reads view Form text tokens names v ks js (Ok x) (Err (fault.Undeclared name n)) g k j f h =
    (h.0, (g.0, g.1, g.2, (view x, subst (λ ts. Form ts (view x)) (k ∙ g.3) f), (h.1, ap (λ (ts : List Terminal). first_stray certificates (places_of names) 0 ts) (sym (j ∙ g.3)) ∙ h.2, h.3)))
part_reads view Form text tokens names v ks js (Ok x) (Err fault.Memory) g k j f h = tt
part_reads view Form text tokens names v ks js (Ok x) (Err (fault.Number at)) g k j f h = absurd h
part_reads view Form text tokens names v ks js (Ok x) (Err (fault.Lex at)) g k j f h = absurd h
part_reads view Form text tokens names v ks js (Ok x) (Err (fault.Deep n)) g k j f h = absurd h
part_reads view Form text tokens names v ks js (Ok x) (Err (fault.Section n)) g k j f h = absurd h
part_reads view Form text tokens names v ks js (Ok x) (Err (fault.Names n)) g k j f h = absurd h
part_reads view Form text tokens names v ks js (Ok x) (Err (fault.Twice name)) g k j f h = absurd h
part_reads view Form text tokens names v ks js (Ok x) (Err (fault.Entries n m)) g k j f h = absurd h

-- all tokens of a text are consecutive
pub all_consecutive : (text : List ℕ) (ts us : List Token) → Tokenizes text (Ok ts) → us ≡ ts → AreConsecutive text us
all_consecutive text ts us h e = ([], [], subst (λ (vs : List Token). Fills text 0 vs (length text)) (sym (append-nil us ∙ e)) h)
