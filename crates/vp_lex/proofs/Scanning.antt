-- Steps of the scanner, and that they are determined.
use Rattle.std.proofs.Common.{ℕ, ◌+◌, ◌≡◌, ◌≢◌, ◌<◌, ◌≤◌, ◌⊎◌, inl, inr, true, false, List, [], ◌∷◌, ◌++◌, length, drop, Result, Ok, Err, refl, ap, sym, ◌∙◌, arith, append_assoc, subst, slice_index}
use Rattle.std.proofs.lemmas.List.{append-nil, get_or-drop}
use Rattle.std.proofs.lemmas.Bool.Decides.{nat_tests}
use Rattle.vp_lex.specs.declared.token.TokenKind.{TokenKind}
use Rattle.vp_lex.specs.declared.token.TokenKind.TheVariants.{Name, Next, Number, Word, Symbol}
use Rattle.vp_lex.specs.declared.token.Token.{Token}
use Rattle.vp_lex.specs.Bytes.{is_letter, is_digit, is_word_byte, is_space, is_symbol, is_pair, IsCommentEnd}
use Rattle.vp_lex.specs.Tokens.{IsWordlike, Spells, IsLongest, HasNone}

-- the tokens ts, and then what the rest gives
abbrev pub with_tokens : List Token → Result (List Token) ℕ → Result (List Token) ℕ
with_tokens ts (Ok us) = Ok (ts ++ us)
with_tokens ts (Err at) = Err at

-- what is met from a place on, byte after byte
pub data Scans (text : List ℕ) : ℕ → Result (List Token) ℕ → Type 0 where
  end : (i : ℕ) → length text ≤ i → Scans text i (Ok [])
  space : (i : ℕ) (r : Result (List Token) ℕ) → i < length text → is_space (slice_index text i) ≡ true → Scans text (i + 1) r → Scans text i r
  comment : (i e : ℕ) (r : Result (List Token) ℕ) → i < length text → slice_index text i ≡ 35 → IsCommentEnd text i e → Scans text e r → Scans text i r
  token : (i n : ℕ) (kind : TokenKind) (r : Result (List Token) ℕ) → i < length text → IsLongest (drop i text) kind n → Scans text (i + n) r → Scans text i (with_tokens (record { kind = kind; from = i; to = i + n } ∷ []) r)
  stuck : (i : ℕ) → i < length text → is_space (slice_index text i) ≡ false → slice_index text i ≢ 35 → HasNone (drop i text) → Scans text i (Err i)

pub pushed : (ts : List Token) (t : Token) (r : Result (List Token) ℕ) → with_tokens ts (with_tokens (t ∷ []) r) ≡ with_tokens (ts ++ t ∷ []) r
pushed ts t (Ok us) = ap (λ (x : List Token). Ok x) (sym (append_assoc ts (t ∷ []) us))
pushed ts t (Err at) = refl

pub completed : (text : List ℕ) (ts : List Token) → Scans text 0 (with_tokens ts (Ok [])) → Scans text 0 (Ok ts)
completed text ts h = rw (append-nil ts) at h

pub scans_pushed : (text : List ℕ) (ts : List Token) (t : Token) (r : Result (List Token) ℕ) → Scans text 0 (with_tokens ts (with_tokens (t ∷ []) r)) → Scans text 0 (with_tokens (ts ++ t ∷ []) r)
scans_pushed text ts t r h = rw (pushed ts t r) at h

letter_not_digit : (b : ℕ) → is_letter b ≡ true → is_digit b ≡ true → ⊥
letter_not_digit b h k = grind (arith, nat_tests)

letter_not_symbol : (b : ℕ) → is_letter b ≡ true → is_symbol b ≡ true → ⊥
letter_not_symbol b h k = grind (arith, nat_tests)

letter_not_pair : (a b : ℕ) → is_letter a ≡ true → is_pair a b ≡ true → ⊥
letter_not_pair a b h k = grind (arith, nat_tests)

digit_not_symbol : (b : ℕ) → is_digit b ≡ true → is_symbol b ≡ true → ⊥
digit_not_symbol b h k = grind (arith, nat_tests)

digit_not_pair : (a b : ℕ) → is_digit a ≡ true → is_pair a b ≡ true → ⊥
digit_not_pair a b h k = grind (arith, nat_tests)

no_gap : (b : ℕ) → (is_space b ≡ true) ⊎ (b ≡ 35) → (is_letter b ≡ true) ⊎ ((is_digit b ≡ true) ⊎ (is_symbol b ≡ true)) → ⊥
no_gap b h k = grind (arith, nat_tests)

no_gap_pair : (a b : ℕ) → (is_space a ≡ true) ⊎ (a ≡ 35) → is_pair a b ≡ true → ⊥
no_gap_pair a b h k = grind (arith, nat_tests)

at_not_word : (b : ℕ) → is_word_byte b ≡ true → b ≡ 64 → ⊥
at_not_word b h k = grind (arith, nat_tests)

digit_of : (bytes : List ℕ) (n : ℕ) → Spells Number bytes n → is_digit (slice_index bytes 0) ≡ true
digit_of bytes n (inl d) = d.each 0 (omega arith) d.some
digit_of bytes n (inr f) = f.1.whole.each 0 (omega arith) f.1.whole.some

no_symbol : (bytes : List ℕ) (n : ℕ) → ((b : ℕ) → is_symbol (slice_index bytes 0) ≡ true → ⊥) → (is_pair (slice_index bytes 0) (slice_index bytes 1) ≡ true → ⊥) → Spells Symbol bytes n → ⊥
no_symbol bytes n h k (inl s) = h 0 s.2
no_symbol bytes n h k (inr s) = k s.2

letter_no_symbol : (bytes : List ℕ) (n : ℕ) → is_letter (slice_index bytes 0) ≡ true → Spells Symbol bytes n → ⊥
letter_no_symbol bytes n l s = no_symbol bytes n (λ b. letter_not_symbol (slice_index bytes 0) l) (letter_not_pair (slice_index bytes 0) (slice_index bytes 1) l) s

digit_no_symbol : (bytes : List ℕ) (n : ℕ) → is_digit (slice_index bytes 0) ≡ true → Spells Symbol bytes n → ⊥
digit_no_symbol bytes n l s = no_symbol bytes n (λ b. digit_not_symbol (slice_index bytes 0) l) (digit_not_pair (slice_index bytes 0) (slice_index bytes 1) l) s

next_not_wordlike : (bytes : List ℕ) (n : ℕ) → Spells Next bytes n → IsWordlike bytes n → ⊥
next_not_wordlike bytes n x w = let e : n ≡ x.0 + 1 = x.1 in at_not_word (slice_index bytes x.0) (w.each x.0 (omega arith)) x.4

-- the kind of a token is determined by its bytes
pub same_kind : (j k : TokenKind) (bytes : List ℕ) (n : ℕ) → Spells j bytes n → Spells k bytes n → j ≡ k
same_kind Name Name bytes n a b = refl
same_kind Name Next bytes n a b = absurd (next_not_wordlike bytes n b a.0)
same_kind Name Number bytes n a b = absurd (letter_not_digit (slice_index bytes 0) a.0.letter (digit_of bytes n b))
same_kind Name Word bytes n a b = absurd (a.1 b.1)
same_kind Name Symbol bytes n a b = absurd (letter_no_symbol bytes n a.0.letter b)
same_kind Next Name bytes n a b = absurd (next_not_wordlike bytes n a b.0)
same_kind Next Next bytes n a b = refl
same_kind Next Number bytes n a b = absurd (letter_not_digit (slice_index bytes 0) a.2.0.letter (digit_of bytes n b))
same_kind Next Word bytes n a b = absurd (next_not_wordlike bytes n a b.0)
same_kind Next Symbol bytes n a b = absurd (letter_no_symbol bytes n a.2.0.letter b)
same_kind Number Name bytes n a b = absurd (letter_not_digit (slice_index bytes 0) b.0.letter (digit_of bytes n a))
same_kind Number Next bytes n a b = absurd (letter_not_digit (slice_index bytes 0) b.2.0.letter (digit_of bytes n a))
same_kind Number Number bytes n a b = refl
same_kind Number Word bytes n a b = absurd (letter_not_digit (slice_index bytes 0) b.0.letter (digit_of bytes n a))
same_kind Number Symbol bytes n a b = absurd (digit_no_symbol bytes n (digit_of bytes n a) b)
same_kind Word Name bytes n a b = absurd (b.1 a.1)
same_kind Word Next bytes n a b = absurd (next_not_wordlike bytes n b a.0)
same_kind Word Number bytes n a b = absurd (letter_not_digit (slice_index bytes 0) a.0.letter (digit_of bytes n b))
same_kind Word Word bytes n a b = refl
same_kind Word Symbol bytes n a b = absurd (letter_no_symbol bytes n a.0.letter b)
same_kind Symbol Name bytes n a b = absurd (letter_no_symbol bytes n b.0.letter a)
same_kind Symbol Next bytes n a b = absurd (letter_no_symbol bytes n b.2.0.letter a)
same_kind Symbol Number bytes n a b = absurd (digit_no_symbol bytes n (digit_of bytes n b) a)
same_kind Symbol Word bytes n a b = absurd (letter_no_symbol bytes n b.0.letter a)
same_kind Symbol Symbol bytes n a b = refl

-- no token begins with a gap
gap_no_token : (k : TokenKind) (bytes : List ℕ) (n : ℕ) → (is_space (slice_index bytes 0) ≡ true) ⊎ (slice_index bytes 0 ≡ 35) → Spells k bytes n → ⊥
gap_no_token Name bytes n g a = no_gap (slice_index bytes 0) g (inl a.0.letter)
gap_no_token Next bytes n g a = no_gap (slice_index bytes 0) g (inl a.2.0.letter)
gap_no_token Word bytes n g a = no_gap (slice_index bytes 0) g (inl a.0.letter)
gap_no_token Number bytes n g a = no_gap (slice_index bytes 0) g (inr (inl (digit_of bytes n a)))
gap_no_token Symbol bytes n g a = no_symbol bytes n (λ b s. no_gap (slice_index bytes 0) g (inr (inr s))) (no_gap_pair (slice_index bytes 0) (slice_index bytes 1) g) a

at_drop : (text : List ℕ) (i : ℕ) → slice_index (drop i text) 0 ≡ slice_index text i
at_drop text i = grind (arith, get_or-drop {A = ℕ})

space_no_token : (text : List ℕ) (i : ℕ) (k : TokenKind) (n : ℕ) → is_space (slice_index text i) ≡ true → Spells k (drop i text) n → ⊥
space_no_token text i k n h a = gap_no_token k (drop i text) n (inl (ap is_space (at_drop text i) ∙ h)) a

hash_no_token : (text : List ℕ) (i : ℕ) (k : TokenKind) (n : ℕ) → slice_index text i ≡ 35 → Spells k (drop i text) n → ⊥
hash_no_token text i k n h a = gap_no_token k (drop i text) n (inr (at_drop text i ∙ h)) a

same_end : (text : List ℕ) (i d e : ℕ) → IsCommentEnd text i d → IsCommentEnd text i e → d ≡ e
same_end text i d e a b =
    let p : d < e → ⊥ = λ lt. b.each d a.forward lt (a.ends (let w : e ≤ length text = b.within in omega arith)) in
    let q : e < d → ⊥ = λ lt. a.each e b.forward lt (b.ends (let w : d ≤ length text = a.within in omega arith)) in
    omega arith

space_not_hash : (b : ℕ) → is_space b ≡ true → b ≡ 35 → ⊥
space_not_hash b h k = grind (arith, nat_tests)

pub one_outcome : (text : List ℕ) (i : ℕ) (r s : Result (List Token) ℕ) → Scans text i r → Scans text i s → r ≡ s
one_outcome text i r s (end _ h) (end _ k) = refl
one_outcome text i r s (end _ h) (space _ v l _ _) = absurd (omega arith)
one_outcome text i r s (end _ h) (comment _ e v l _ _ _) = absurd (omega arith)
one_outcome text i r s (end _ h) (token _ n k v l _ _) = absurd (omega arith)
one_outcome text i r s (end _ h) (stuck _ l _ _ _) = absurd (omega arith)
one_outcome text i r s (space _ u l g x) (end _ k) = absurd (omega arith)
one_outcome text i r s (space _ u l g x) (space _ v _ _ y) = one_outcome text (i + 1) u v x y
one_outcome text i r s (space _ u l g x) (comment _ e v _ h _ _) = absurd (space_not_hash (slice_index text i) g h)
one_outcome text i r s (space _ u l g x) (token _ n k v _ f _) = absurd (space_no_token text i k n g f.0)
one_outcome text i r s (space _ u l g x) (stuck _ _ h _ _) = absurd (cc)
one_outcome text i r s (comment _ d u l g a x) (end _ k) = absurd (omega arith)
one_outcome text i r s (comment _ d u l g a x) (space _ v _ h _) = absurd (space_not_hash (slice_index text i) h g)
one_outcome text i r s (comment _ d u l g a x) (comment _ e v _ _ b y) =
    let P : ℕ → Type 0 = λ m. Scans text m v in
    one_outcome text d u v x (subst P (same_end text i e d b a) y)
one_outcome text i r s (comment _ d u l g a x) (token _ n k v _ f _) = absurd (hash_no_token text i k n g f.0)
one_outcome text i r s (comment _ d u l g a x) (stuck _ _ _ h _) = absurd (h g)
one_outcome text i r s (token _ m j u l f x) (end _ k) = absurd (omega arith)
one_outcome text i r s (token _ m j u l f x) (space _ v _ h _) = absurd (space_no_token text i j m h f.0)
one_outcome text i r s (token _ m j u l f x) (comment _ e v _ h _ _) = absurd (hash_no_token text i j m h f.0)
one_outcome text i r s (token _ m j u l f x) (stuck _ _ _ _ h) = absurd (h j m f.0)
one_outcome text i r s (token _ m j u l f x) (token _ n k v _ g y) =
    let a : m ≤ n = g.1 j m f.0 in
    let b : n ≤ m = f.1 k n g.0 in
    let e : n ≡ m = omega arith in
    let P : ℕ → Type 0 = λ w. Scans text (i + w) v in
    let Q : ℕ → Type 0 = λ w. Spells k (drop i text) w in
    let c : j ≡ k = same_kind j k (drop i text) m f.0 (subst Q e g.0) in
    let d : u ≡ v = one_outcome text (i + m) u v x (subst P e y) in
    let t : m ≡ n = sym e in
    cc
one_outcome text i r s (stuck _ l g h none) (end _ k) = absurd (omega arith)
one_outcome text i r s (stuck _ l g h none) (space _ v _ k _) = absurd (cc)
one_outcome text i r s (stuck _ l g h none) (comment _ e v _ k _ _) = absurd (h k)
one_outcome text i r s (stuck _ l g h none) (token _ n k v _ f _) = absurd (none k n f.0)
one_outcome text i r s (stuck _ l g h none) (stuck _ _ _ _ _) = refl
