-- Lists that a loop reads: what is found so far, and what may still follow.
use Rattle.std.proofs.Common.{◌≡◌, ◌≢◌, length, List, [], ◌∷◌, ◌++◌, map, refl, ap, sym, ◌∙◌, append_assoc, subst}
use Rattle.std.proofs.lemmas.List.{append-nil, map-append, nil_from_length}
use Rattle.vp_grammar.specs.declared.terminal.Symbol.TheVariants as symbol
use Rattle.vp_lex.specs.declared.word.ReservedWord.{ReservedWord}
use Rattle.vp_grammar.specs.declared.terminal.Terminal.{Terminal}
use Rattle.vp_grammar.specs.declared.terminal.Terminal.TheVariants as terminal
use Rattle.vp_grammar.specs.declared.fault.ParseErr.{ParseErr}
use Rattle.vp_grammar.specs.declared.fault.ParseErr.TheVariants.{Form, Memory}
use Rattle.vp_grammar.specs.Reads.{Fails, FailsAll}
use Rattle.vp_grammar.specs.Front.{NotBegins}
use Rattle.vp_grammar.specs.EntryReads.{Goes, Behind, IsEnd, Listed}
use Rattle.vp_grammar.proofs.Unique.{tail_of}

-- the terminals in front are those of at most one item
abbrev pub Once : {T : Type 0} → (List Terminal → T → List Terminal → Type 0) → Type 0
Once {T} item = (ts : List Terminal) (t u : T) (r s : List Terminal) → item ts t r → item ts u s → (t ≡ u) × (r ≡ s)

abbrev pub EndsOnce : (List Terminal → List Terminal → Type 0) → Type 0
EndsOnce ends = (ts r s : List Terminal) → ends ts r → ends ts s → r ≡ s

-- where a step goes on there is no end
abbrev pub Parts : {T : Type 0} → (List Terminal → T → List Terminal → Type 0) → (List Terminal → List Terminal → Type 0) → Type 0
Parts {T} step ends = (ts : List Terminal) (t : T) (r s : List Terminal) → step ts t r → ends ts s → ⊥

-- what is found and a way to go on are the whole, and the whole is nothing else
pub record SoFar {T : Type 0} (step : List Terminal → T → List Terminal → Type 0) (ends : List Terminal → List Terminal → Type 0) (whole : List T → List Terminal → Type 0) (found : List T) (at : List Terminal) : Type 0 where
  pub forward : (us : List T) (rest : List Terminal) → Goes step ends at us rest → whole (found ++ us) rest
  pub backward : (all : List T) (rest : List Terminal) → whole all rest → (us : List T) × (all ≡ found ++ us) × Goes step ends at us rest

pub steps_on : {T : Type 0} (step : List Terminal → T → List Terminal → Type 0) (ends : List Terminal → List Terminal → Type 0) (whole : List T → List Terminal → Type 0) → Once step → Parts step ends → (found : List T) (at after : List Terminal) (t : T) → SoFar step ends whole found at → step at t after → SoFar step ends whole (found ++ t ∷ []) after
steps_on {T} step ends whole once parts found at after t so_far h = record {
  forward = λ us rest g. rw (append_assoc found (t ∷ []) us) (so_far.forward (t ∷ us) rest (after, h, g));
  backward = λ all rest w. (let b : (us : List T) × (all ≡ found ++ us) × Goes step ends at us rest = so_far.backward all rest w in back all rest b.0 b.1 b.2);
}
  where
    back : (all : List T) (rest : List Terminal) (us : List T) → all ≡ found ++ us → Goes step ends at us rest → (vs : List T) × (all ≡ (found ++ t ∷ []) ++ vs) × Goes step ends after vs rest
    back all rest [] e g = absurd (parts at t after rest h g)
    back all rest (u ∷ us) e g =
        let k : (u ≡ t) × (g.0 ≡ after) = once at u t g.0 after g.1 h in
        let m : g.0 ≡ after = k.1 in
        let n : u ≡ t = k.0 in
        let l : Goes step ends g.0 us rest = g.2 in
        (us, e ∙ ap (λ (x : T). found ++ x ∷ us) n ∙ sym (append_assoc found (t ∷ []) us), subst (λ (x : List Terminal). Goes step ends x us rest) m l)

-- where no step goes on, the end follows what is found
pub stops : {T : Type 0} (step : List Terminal → T → List Terminal → Type 0) (ends : List Terminal → List Terminal → Type 0) (whole : List T → List Terminal → Type 0) (found : List T) (at : List Terminal) → SoFar step ends whole found at → ((t : T) (r : List Terminal) → step at t r → ⊥) → (all : List T) (rest : List Terminal) → whole all rest → ends at rest
stops {T} step ends whole found at so_far none all rest w = let b : (us : List T) × (all ≡ found ++ us) × Goes step ends at us rest = so_far.backward all rest w in from b.0 b.2
  where
    from : (us : List T) → Goes step ends at us rest → ends at rest
    from [] g = g
    from (u ∷ us) g = absurd (none u g.0 g.1)

-- where there is no end, a step goes on
pub goes_on : {T : Type 0} (step : List Terminal → T → List Terminal → Type 0) (ends : List Terminal → List Terminal → Type 0) (whole : List T → List Terminal → Type 0) (found : List T) (at : List Terminal) → SoFar step ends whole found at → ((r : List Terminal) → ends at r → ⊥) → (all : List T) (rest : List Terminal) → whole all rest → (t : T) × (r : List Terminal) × step at t r
goes_on {T} step ends whole found at so_far none all rest w = let b : (us : List T) × (all ≡ found ++ us) × Goes step ends at us rest = so_far.backward all rest w in from b.0 b.2
  where
    from : (us : List T) → Goes step ends at us rest → (t : T) × (r : List Terminal) × step at t r
    from [] g = absurd (none rest g)
    from (u ∷ us) g = (u, g.0, g.1)

pub ended : {T : Type 0} (step : List Terminal → T → List Terminal → Type 0) (ends : List Terminal → List Terminal → Type 0) (whole : List T → List Terminal → Type 0) (found : List T) (at rest : List Terminal) → SoFar step ends whole found at → ends at rest → whole found rest
ended step ends whole found at rest so_far e = let w : whole (found ++ []) rest = so_far.forward [] rest e in subst (λ (x : _). whole x rest) (append-nil found) w

-- at most one list
pub one_way : {T : Type 0} (step : List Terminal → T → List Terminal → Type 0) (ends : List Terminal → List Terminal → Type 0) → Once step → EndsOnce ends → Parts step ends → (us vs : List T) (at r s : List Terminal) → Goes step ends at us r → Goes step ends at vs s → (us ≡ vs) × (r ≡ s)
one_way step ends once once_end parts [] [] at r s g h = (refl, once_end at r s g h)
one_way step ends once once_end parts [] (v ∷ vs) at r s g h = absurd (parts at v h.0 r h.1 g)
one_way step ends once once_end parts (u ∷ us) [] at r s g h = absurd (parts at u g.0 s g.1 h)
one_way {T} step ends once once_end parts (u ∷ us) (v ∷ vs) at r s g h =
    let k : (u ≡ v) × (g.0 ≡ h.0) = once at u v g.0 h.0 g.1 h.1 in
    let l : Goes step ends g.0 us r = g.2 in
    let m : (us ≡ vs) × (r ≡ s) = one_way step ends once once_end parts us vs h.0 r s (subst (λ (x : List Terminal). Goes step ends x us r) k.1 l) h.2 in
    let a : u ≡ v = k.0 in let b : us ≡ vs = m.0 in
    (cc, m.1)

-- items with separators between
pub behind_once : {T : Type 0} (item : List Terminal → T → List Terminal → Type 0) (separator : Terminal) → Once item → Once (Behind item separator)
behind_once {T} item separator once ts t u r s g h =
    let e : g.0 ≡ h.0 = tail_of separator separator _ _ (sym g.1 ∙ h.1) in
    let l : item g.0 t r = g.2 in
    once h.0 t u r s (subst (λ (x : List Terminal). item x t r) e l) h.2

pub end_once : EndsOnce IsEnd
end_once ts r s g h = tail_of (terminal.Symbol symbol.Semicolon) (terminal.Symbol symbol.Semicolon) _ _ (sym g ∙ h)

abbrev pub OtherThanEnd : Terminal → Type 0
OtherThanEnd separator = (r s : List Terminal) → separator ∷ r ≡ terminal.Symbol symbol.Semicolon ∷ s → ⊥

pub behind_parts : {T : Type 0} (item : List Terminal → T → List Terminal → Type 0) (separator : Terminal) → OtherThanEnd separator → Parts (Behind item separator) IsEnd
behind_parts item separator other ts t r s g h = other _ _ (sym g.1 ∙ h)

pub one_listed : {T : Type 0} (item : List Terminal → T → List Terminal → Type 0) (separator : Terminal) → Once item → OtherThanEnd separator → (us vs : List T) (ts r s : List Terminal) → Listed item separator ts us r → Listed item separator ts vs s → (us ≡ vs) × (r ≡ s)
one_listed item separator once other [] vs ts r s g h = absurd g
one_listed item separator once other (u ∷ us) [] ts r s g h = absurd h
one_listed {T} item separator once other (u ∷ us) (v ∷ vs) ts r s g h =
    let k : (u ≡ v) × (g.0 ≡ h.0) = once ts u v g.0 h.0 g.1 h.1 in
    let l : Goes (Behind item separator) IsEnd g.0 us r = g.2 in
    let m : (us ≡ vs) × (r ≡ s) = one_way (Behind item separator) IsEnd (behind_once item separator once) end_once (behind_parts item separator other) us vs h.0 r s (subst (λ (x : List Terminal). Goes (Behind item separator) IsEnd x us r) k.1 l) h.2 in
    let a : u ≡ v = k.0 in let b : us ≡ vs = m.0 in
    (cc, m.1)

abbrev pub ListedSoFar : {T : Type 0} → (List Terminal → T → List Terminal → Type 0) → Terminal → List Terminal → List T → List Terminal → Type 0
ListedSoFar item separator ts found at = SoFar (Behind item separator) IsEnd (Listed item separator ts) found at

pub begins : {T : Type 0} (item : List Terminal → T → List Terminal → Type 0) (separator : Terminal) → Once item → (ts at : List Terminal) (t : T) → item ts t at → ListedSoFar item separator ts (t ∷ []) at
begins {T} item separator once ts at t h = record {
  forward = λ us rest g. (at, h, g);
  backward = λ all rest w. back all rest w;
}
  where
    back : (all : List T) (rest : List Terminal) → Listed item separator ts all rest → (us : List T) × (all ≡ (t ∷ []) ++ us) × Goes (Behind item separator) IsEnd at us rest
    back [] rest w = absurd w
    back (u ∷ us) rest w =
        let k : (u ≡ t) × (w.0 ≡ at) = once ts u t w.0 at w.1 h in
        let l : Goes (Behind item separator) IsEnd w.0 us rest = w.2 in
        (us, ap (λ (x : T). x ∷ us) k.0, subst (λ (x : List Terminal). Goes (Behind item separator) IsEnd x us rest) k.1 l)

pub one_more : {T : Type 0} (item : List Terminal → T → List Terminal → Type 0) (separator : Terminal) → Once item → OtherThanEnd separator → (ts at more after : List Terminal) (found : List T) (t : T) → ListedSoFar item separator ts found at → at ≡ separator ∷ more → item more t after → ListedSoFar item separator ts (found ++ t ∷ []) after
one_more item separator once other ts at more after found t so_far e h = steps_on (Behind item separator) IsEnd (Listed item separator ts) (behind_once item separator once) (behind_parts item separator other) found at after t so_far (more, e, h)

pub no_first : {T : Type 0} (item : List Terminal → T → List Terminal → Type 0) (separator : Terminal) (ts : List Terminal) → ((t : T) (r : List Terminal) → item ts t r → ⊥) → (all : List T) (rest : List Terminal) → Listed item separator ts all rest → ⊥
no_first item separator ts none [] rest w = w
no_first item separator ts none (u ∷ us) rest w = none u w.0 w.1

pub first_fails : {T : Type 0} (item : List Terminal → T → List Terminal → Type 0) (separator : Terminal) (ts : List Terminal) (e : ParseErr) → Fails (item ts) e → Fails (Listed item separator ts) e
first_fails item separator ts Form h = no_first item separator ts h
first_fails item separator ts Memory h = tt

pub no_next : {T : Type 0} (item : List Terminal → T → List Terminal → Type 0) (separator : Terminal) → OtherThanEnd separator → (ts at more : List Terminal) (found : List T) → ListedSoFar item separator ts found at → at ≡ separator ∷ more → ((t : T) (r : List Terminal) → item more t r → ⊥) → (all : List T) (rest : List Terminal) → Listed item separator ts all rest → ⊥
no_next {T} item separator other ts at more found so_far e none all rest w =
    let k : (t : T) × (r : List Terminal) × Behind item separator at t r = goes_on (Behind item separator) IsEnd (Listed item separator ts) found at so_far (λ r f. other more r (sym e ∙ f)) all rest w in
    let f : k.2.0 ≡ more = tail_of separator separator _ _ (sym k.2.1 ∙ e) in
    let l : item k.2.0 k.0 k.1 = k.2.2 in
    none k.0 k.1 (subst (λ (x : List Terminal). item x k.0 k.1) f l)

pub next_fails : {T : Type 0} (item : List Terminal → T → List Terminal → Type 0) (separator : Terminal) → OtherThanEnd separator → (ts at more : List Terminal) (found : List T) (e : ParseErr) → ListedSoFar item separator ts found at → at ≡ separator ∷ more → Fails (item more) e → Fails (Listed item separator ts) e
next_fails item separator other ts at more found Form so_far e h = no_next item separator other ts at more found so_far e h
next_fails item separator other ts at more found Memory so_far e h = tt

pub no_end : {T : Type 0} (item : List Terminal → T → List Terminal → Type 0) (separator : Terminal) (ts at : List Terminal) (found : List T) → ListedSoFar item separator ts found at → NotBegins separator at → NotBegins (terminal.Symbol symbol.Semicolon) at → (all : List T) (rest : List Terminal) → Listed item separator ts all rest → ⊥
no_end item separator ts at found so_far none no_semicolon all rest w =
    no_semicolon rest (stops (Behind item separator) IsEnd (Listed item separator ts) found at so_far (λ t r g. none g.0 g.1) all rest w)

pub list_ended : {T : Type 0} (item : List Terminal → T → List Terminal → Type 0) (separator : Terminal) (ts at rest : List Terminal) (found : List T) → ListedSoFar item separator ts found at → at ≡ terminal.Symbol symbol.Semicolon ∷ rest → Listed item separator ts found rest
list_ended item separator ts at rest found so_far e = ended (Behind item separator) IsEnd (Listed item separator ts) found at rest so_far e

-- one more item behind those of a vector
pub pushed : {A B : Type 0} (f : A → B) (xs ys : List A) (x : A) → ys ≡ xs ++ x ∷ [] → map f ys ≡ map f xs ++ f x ∷ []
pushed f xs ys x e = ap (map f) e ∙ map-append f xs (x ∷ [])

pub listed_once : {T : Type 0} (item : List Terminal → T → List Terminal → Type 0) (separator : Terminal) → Once item → OtherThanEnd separator → Once (Listed item separator)
listed_once item separator once other ts us vs r s g h = one_listed item separator once other us vs ts r s g h

pub behind_listed : {T : Type 0} (item : List Terminal → T → List Terminal → Type 0) (separator : Terminal) (ts : List Terminal) (us : List T) (rest : List Terminal) → Listed item separator ts us rest → Goes (Behind item separator) IsEnd (separator ∷ ts) us rest
behind_listed item separator ts [] rest w = absurd w
behind_listed item separator ts (u ∷ us) rest w = (w.0, (ts, refl, w.1), w.2)

-- a piece that begins with a word: what follows it is read up to the tail
abbrev pub Piece : {T : Type 0} → ReservedWord → (List Terminal → T → List Terminal → Type 0) → List Terminal → List Terminal → T → Type 0
Piece w reading tail ts t = (more : List Terminal) × (ts ≡ terminal.Word w ∷ more) × reading more t tail

pub piece_rest : {T : Type 0} (w : ReservedWord) (reading : List Terminal → T → List Terminal → Type 0) (tail ts more : List Terminal) (t : T) → ts ≡ terminal.Word w ∷ more → Piece w reading tail ts t → reading more t tail
piece_rest {T} w reading tail ts more t e p =
    let f : p.0 ≡ more = tail_of (terminal.Word w) (terminal.Word w) _ _ (sym p.1 ∙ e) in
    let l : reading p.0 t tail = p.2 in
    subst (λ (x : List Terminal). reading x t tail) f l

pub no_piece : {T : Type 0} (w : ReservedWord) (reading : List Terminal → T → List Terminal → Type 0) (tail ts : List Terminal) → NotBegins (terminal.Word w) ts → (t : T) → Piece w reading tail ts t → ⊥
no_piece w reading tail ts none t p = none p.0 p.1

pub piece_fails : {T : Type 0} (w : ReservedWord) (reading : List Terminal → T → List Terminal → Type 0) (tail ts more : List Terminal) (e : ParseErr) → ts ≡ terminal.Word w ∷ more → Fails (reading more) e → FailsAll (Piece w reading tail ts) e
piece_fails w reading tail ts more Form e h = λ t p. h t tail (piece_rest w reading tail ts more t e p)
piece_fails w reading tail ts more Memory e h = tt

pub piece_is : {T : Type 0} (w : ReservedWord) (reading : List Terminal → T → List Terminal → Type 0) → Once reading → (tail ts more rest : List Terminal) (t u : T) → ts ≡ terminal.Word w ∷ more → reading more u rest → Piece w reading tail ts t → (t ≡ u) × (tail ≡ rest)
piece_is w reading once tail ts more rest t u e h p = once more t u tail rest (piece_rest w reading tail ts more t e p) h

pub fails_alike : {T : Type 0} (P Q : T → Type 0) (e : ParseErr) → ((t : T) → Q t → P t) → FailsAll P e → FailsAll Q e
fails_alike P Q Form f h = λ t q. h t (f t q)
fails_alike P Q Memory f h = tt

pub piece_goes : {T : Type 0} (w : ReservedWord) (reading : List Terminal → T → List Terminal → Type 0) → Once reading → (tail ts more rest : List Terminal) (u : T) → ts ≡ terminal.Word w ∷ more → reading more u rest → (tail ≡ rest → ⊥) → (t : T) → Piece w reading tail ts t → ⊥
piece_goes w reading once tail ts more rest u e h none t p = none (piece_is w reading once tail ts more rest t u e h p).1

pub read_whole : {T : Type 0} (reading : List Terminal → T → List Terminal → Type 0) (more rest : List Terminal) (t : T) → reading more t rest → length rest ≡ 0 → reading more t []
read_whole reading more rest t h e = subst (λ (xs : List Terminal). reading more t xs) (nil_from_length rest e) h

pub goes_behind : (rest : List Terminal) → length rest ≢ 0 → [] ≡ rest → ⊥
goes_behind rest n e = n (ap length (sym e))

pub one_piece : {T : Type 0} (w : ReservedWord) (reading : List Terminal → T → List Terminal → Type 0) → Once reading → (tail ts : List Terminal) (t u : T) → Piece w reading tail ts t → Piece w reading tail ts u → t ≡ u
one_piece w reading once tail ts t u p q = (piece_is w reading once tail ts q.0 tail t u q.1 q.2 p).0
