-- Tokens that fill a text are what a scan of it gives, and the other way round.
use Rattle.std.proofs.Common.{ℕ, ◌+◌, ◌-◌, ◌≡◌, ◌<◌, ◌≤◌, inl, inr, true, List, [], ◌∷◌, length, drop, Result, Ok, Err, refl, sym, arith, subst, slice_index, length-drop}
use Rattle.std.specs.Prelude.{All, AllPairs}
use Rattle.std.proofs.lemmas.List.Elements.{All-cons, All-nil, All-weaker}
use Rattle.std.proofs.lemmas.List.Kept.{AllPairs-cons}
use Rattle.vp_lex.specs.declared.token.TokenKind.{TokenKind}
use Rattle.vp_lex.specs.declared.token.TokenKind.TheVariants.{Name, Next, Number, Word, Symbol}
use Rattle.vp_lex.specs.declared.token.Token.{Token}
use Rattle.vp_lex.specs.Bytes.{is_space, IsCommentEnd}
use Rattle.vp_lex.specs.Tokens.{Spells, IsLongest, IsGap, nothing, spaced, commented, IsToken, Fills, TokenizesFrom, Tokenizes}
use Rattle.vp_lex.proofs.Scanning.{with_tokens, Scans, end, space, comment, token, stuck, one_outcome, completed}

-- a spelling has a byte and stands within the text
pub spelled_size : (k : TokenKind) (bytes : List ℕ) (n : ℕ) → Spells k bytes n → (0 < n) × (n ≤ length bytes)
spelled_size Name bytes n a = (a.0.some, a.0.within)
spelled_size Next bytes n a = (let e : n ≡ a.0 + 1 = a.1 in omega arith, a.3)
spelled_size Number bytes n (inl d) = (d.some, d.within)
spelled_size Number bytes n (inr f) = (let p : f.0 + 1 < n = f.1.part.some in omega arith, f.1.part.within)
spelled_size Word bytes n a = (a.0.some, a.0.within)
spelled_size Symbol bytes n (inl s) = (let e : n ≡ 1 = s.0 in omega arith, let e : n ≡ 1 = s.0 in let w : 1 ≤ length bytes = s.1 in omega arith)
spelled_size Symbol bytes n (inr s) = (let e : n ≡ 2 = s.0 in omega arith, let e : n ≡ 2 = s.0 in let w : 2 ≤ length bytes = s.1 in omega arith)

-- a longest spelling at a place is a token
found_token : (text : List ℕ) (i n : ℕ) (k : TokenKind) → i < length text → IsLongest (drop i text) k n → IsToken text (record { kind = k; from = i; to = i + n })
found_token text i n k l f =
    let s = spelled_size k (drop i text) n f.0 in
    let d : length (drop i text) ≡ length text - i = length-drop i text in
    let e : n ≡ i + n - i = omega arith in
    let P : ℕ → Type 0 = λ m. IsLongest (drop i text) k m in
    record {
      some = let p : 0 < n = s.0 in omega arith;
      within = let p : n ≤ length (drop i text) = s.1 in omega arith;
      longest = subst P e f;
    }

with_space : (text : List ℕ) (i : ℕ) (ts : List Token) (to : ℕ) → i < length text → is_space (slice_index text i) ≡ true → Fills text (i + 1) ts to → Fills text i ts to
with_space text i [] to l s f = spaced i to l s f
with_space text i (t ∷ ts) to l s f = (spaced i t.from l s f.0, f.1, f.2)

with_comment : (text : List ℕ) (i e : ℕ) (ts : List Token) (to : ℕ) → i < length text → slice_index text i ≡ 35 → IsCommentEnd text i e → Fills text e ts to → Fills text i ts to
with_comment text i e [] to l s c f = commented i e to l s c f
with_comment text i e (t ∷ ts) to l s c f = (commented i e t.from l s c f.0, f.1, f.2)

space_first : (text : List ℕ) (i : ℕ) (r : Result (List Token) ℕ) → i < length text → is_space (slice_index text i) ≡ true → TokenizesFrom text (i + 1) r → TokenizesFrom text i r
space_first text i (Ok ts) l s f = with_space text i ts (length text) l s f
space_first text i (Err at) l s f = (f.0, with_space text i f.0 at l s f.1, f.2)

comment_first : (text : List ℕ) (i e : ℕ) (r : Result (List Token) ℕ) → i < length text → slice_index text i ≡ 35 → IsCommentEnd text i e → TokenizesFrom text e r → TokenizesFrom text i r
comment_first text i e (Ok ts) l s c f = with_comment text i e ts (length text) l s c f
comment_first text i e (Err at) l s c f = (f.0, with_comment text i e f.0 at l s c f.1, f.2)

token_first : (text : List ℕ) (i n : ℕ) (k : TokenKind) (r : Result (List Token) ℕ) → i < length text → IsLongest (drop i text) k n → TokenizesFrom text (i + n) r → TokenizesFrom text i (with_tokens (record { kind = k; from = i; to = i + n } ∷ []) r)
token_first text i n k (Ok ts) l g f = (nothing i, found_token text i n k l g, f)
token_first text i n k (Err at) l g f = (record { kind = k; from = i; to = i + n } ∷ f.0, (nothing i, found_token text i n k l g, f.1), f.2)

-- what a scan gives fills the text
pub filled : (text : List ℕ) (i : ℕ) (r : Result (List Token) ℕ) → i ≤ length text → Scans text i r → TokenizesFrom text i r
filled text i r w (end _ h) = let e : i ≡ length text = omega arith in subst (IsGap text i) e (nothing i)
filled text i r w (space _ u l s x) = space_first text i r l s (filled text (i + 1) r (omega arith) x)
filled text i r w (comment _ e u l s c x) = comment_first text i e r l s c (filled text e r c.within x)
filled text i r w (token _ n k u l f x) = token_first text i n k u l f (filled text (i + n) u (found_token text i n k l f).within x)
filled text i r w (stuck _ l s c n) = ([], nothing i, record { within = l; no_space = s; no_comment = c; no_token = n })

-- a scan goes over a gap
over_gap : (text : List ℕ) (i to : ℕ) (r : Result (List Token) ℕ) → IsGap text i to → Scans text to r → Scans text i r
over_gap text i to r (nothing _) x = x
over_gap text i to r (spaced _ _ l s g) x = space i r l s (over_gap text (i + 1) to r g x)
over_gap text i to r (commented _ e _ l s c g) x = comment i e r l s c (over_gap text e to r g x)

no_tokens : (r : Result (List Token) ℕ) → r ≡ with_tokens [] r
no_tokens (Ok us) = refl
no_tokens (Err at) = refl

one_more : (t : Token) (ts : List Token) (r : Result (List Token) ℕ) → with_tokens (t ∷ []) (with_tokens ts r) ≡ with_tokens (t ∷ ts) r
one_more t ts (Ok us) = refl
one_more t ts (Err at) = refl

-- a scan takes a token
take_token : (text : List ℕ) (t : Token) (r : Result (List Token) ℕ) → IsToken text t → Scans text t.to r → Scans text t.from (with_tokens (t ∷ []) r)
take_token text t r k x =
    let from = t.from in
    let to = t.to in
    let some : from < to = k.some in
    let within : to ≤ length text = k.within in
    let e : to ≡ from + (to - from) = omega arith in
    let P : ℕ → Type 0 = λ m. Scans text m r in
    let Q : ℕ → Type 0 = λ m. Scans text from (with_tokens (record { kind = t.kind; from = from; to = m } ∷ []) r) in
    subst Q (sym e) (token from (to - from) t.kind r (omega arith) k.longest (subst P e x))

-- a scan goes over the tokens that fill a text up to a place
pub over_tokens : (text : List ℕ) (i : ℕ) (ts : List Token) (to : ℕ) (r : Result (List Token) ℕ) → Fills text i ts to → Scans text to r → Scans text i (with_tokens ts r)
over_tokens text i [] to r f x = subst (Scans text i) (no_tokens r) (over_gap text i to r f x)
over_tokens text i (t ∷ ts) to r f x =
    let y = take_token text t (with_tokens ts r) f.1 (over_tokens text t.to ts to r f.2 x) in
    subst (Scans text i) (one_more t ts r) (over_gap text i t.from (with_tokens (t ∷ []) (with_tokens ts r)) f.0 y)

-- what fills a text is what a scan of it gives
pub scanned : (text : List ℕ) (r : Result (List Token) ℕ) → Tokenizes text r → Scans text 0 r
scanned text (Ok ts) f = completed text ts (over_tokens text 0 ts (length text) (Ok []) f (end (length text) (omega arith)))
scanned text (Err at) f = over_tokens text 0 f.0 at (Err at) f.1 (stuck at f.2.within f.2.no_space f.2.no_comment f.2.no_token)

-- a text has one tokenization
pub one_filling : (text : List ℕ) (r s : Result (List Token) ℕ) → Tokenizes text r → Tokenizes text s → r ≡ s
one_filling text r s a b = one_outcome text 0 r s (scanned text r a) (scanned text s b)

-- tokens that fill a text stand within it
pub spans : (text : List ℕ) (i : ℕ) (ts : List Token) (to : ℕ) → Fills text i ts to → All (λ t. (t.from < t.to) × (t.to ≤ length text)) ts
spans text i [] to f = All-nil (λ t. (t.from < t.to) × (t.to ≤ length text))
spans text i (t ∷ ts) to f = All-cons (λ t. (t.from < t.to) × (t.to ≤ length text)) t ts (f.1.some, f.1.within) (spans text t.to ts to f.2)

gap_forward : (text : List ℕ) (i to : ℕ) → IsGap text i to → i ≤ to
gap_forward text i to (nothing _) = omega arith
gap_forward text i to (spaced _ _ l s g) = let p = gap_forward text (i + 1) to g in omega arith
gap_forward text i to (commented _ e _ l s c g) = let p = gap_forward text e to g in let q : i < e = c.forward in omega arith

-- all tokens that fill a text from a place on begin there or later
behind : (text : List ℕ) (i : ℕ) (ts : List Token) (to : ℕ) → Fills text i ts to → All (λ t. i ≤ t.from) ts
behind text i [] to f = All-nil (λ t. i ≤ t.from)
behind text i (t ∷ ts) to f =
    let p : i ≤ t.from = gap_forward text i t.from f.0 in
    let q : t.from < t.to = f.1.some in
    All-cons (λ u. i ≤ u.from) t ts p (All-weaker (λ u. t.to ≤ u.from) (λ u. i ≤ u.from) (λ u r. omega arith) ts (behind text t.to ts to f.2))

-- a token ends before each later one begins
pub in_order : (text : List ℕ) (i : ℕ) (ts : List Token) (to : ℕ) → Fills text i ts to → AllPairs (λ t u. t.to ≤ u.from) ts
in_order text i [] to f = λ k j d a b. absurd (omega arith)
in_order text i (t ∷ ts) to f = AllPairs-cons (λ t u. t.to ≤ u.from) t ts (behind text t.to ts to f.2) (in_order text t.to ts to f.2)
