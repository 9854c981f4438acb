-- What holds of the tokens and terminals of a text.
use Rattle.std.proofs.Common.{Vec, Global, ℕ, zero, suc, ◌+◌, ◌-◌, ◌≡◌, ◌⊎◌, inl, inr, ◌<◌, ◌≤◌, Bool, true, false, List, [], ◌∷◌, length, map, All, take, drop, slice_index, None, Some, if◌then◌else◌, refl, ap, sym, ◌∙◌, subst, arith}
use Rattle.std.proofs.lemmas.List.Elements.{All-head, All-tail, All-cons, All-nil}
use Rattle.std.proofs.lemmas.Str.{IsUtf8-from_ascii}
use Rattle.vp_terms.specs.declared.expr.Var.TheVariants.{Tau}
use Rattle.vp_lex.specs.declared.token.Token.{Token}
use Rattle.vp_lex.specs.declared.token.TokenKind.{TokenKind}
use Rattle.vp_lex.specs.declared.token.TokenKind.TheVariants as kind
use Rattle.vp_lex.specs.declared.word.ReservedWord.TheVariants as word
use Rattle.vp_lex.specs.Reserved.{word_text}
use Rattle.vp_lex.specs.Bytes.{is_word_byte}
use Rattle.vp_lex.specs.Tokens.{Fills, IsGap, nothing, spaced, commented, IsToken, IsWordlike, Spells}
use Rattle.vp_grammar.specs.declared.terminal.Terminal.{Terminal}
use Rattle.vp_grammar.specs.declared.terminal.Terminal.TheVariants as terminal
use Rattle.vp_read.specs.Spelling.{AreTerminals, IsTerminal, span_of, token_text}
use Rattle.vp_read.specs.Naming.{IsWithin, StandsIn}
use Rattle.vp_read.specs.Pieces.{cut, depth_behind, ends, items, onto_first}

pub tokens_stand : (text : List ℕ) (i : ℕ) (ts : List Token) (to : ℕ) → Fills text i ts to → All (λ t. IsToken text t) ts
tokens_stand text i [] to h = All-nil (λ (t : Token). IsToken text t)
tokens_stand text i (t ∷ ts) to h = All-cons (λ (u : Token). IsToken text u) t ts h.1 (tokens_stand text t.to ts to h.2)

gap_forward : (text : List ℕ) (i to : ℕ) → IsGap text i to → i ≤ to
gap_forward text i _ (nothing _) = omega arith
gap_forward text i to (spaced _ _ l s g) = omega (arith, gap_forward text (i + 1) to g)
gap_forward text i to (commented _ e _ l s c g) = omega (arith, gap_forward text e to g, c.forward)

pub tokens_few : (text : List ℕ) (i : ℕ) (ts : List Token) (to : ℕ) → Fills text i ts to → i + length ts ≤ to
tokens_few text i [] to h = omega (arith, gap_forward text i to h)
tokens_few text i (t ∷ ts) to h = omega (arith, gap_forward text i t.from h.0, h.1.some, tokens_few text t.to ts to h.2)

pub same_count : (text : List ℕ) (ts : List Token) (xs : List Terminal) → AreTerminals text ts xs → length xs ≡ length ts
same_count text [] [] h = refl
same_count text [] (x ∷ xs) h = absurd h
same_count text (t ∷ ts) [] h = absurd h
same_count text (t ∷ ts) (x ∷ xs) h = ap suc (same_count text ts xs h.1)

-- the bytes of a name are a string's
ascii_front : (bytes : List ℕ) (n i : ℕ) → ((k : ℕ) → k < n → slice_index bytes k < 128) → slice_index (take n bytes) i < 128
ascii_front [] zero i h = omega arith
ascii_front [] (suc n) i h = omega arith
ascii_front (b ∷ bs) zero i h = omega arith
ascii_front (b ∷ bs) (suc n) zero h = h 0 (omega arith)
ascii_front (b ∷ bs) (suc n) (suc i) h = ascii_front bs n i (λ k l. h (suc k) (omega arith))

word_byte_ascii : (b : ℕ) → is_word_byte b ≡ true → b < 128
word_byte_ascii b h = grind arith

wordlike_ascii : (bytes : List ℕ) (n : ℕ) → IsWordlike bytes n → (k : ℕ) → k < n → slice_index bytes k < 128
wordlike_ascii bytes n w k l = word_byte_ascii (slice_index bytes k) (w.each k l)

next_ascii : (bytes : List ℕ) (n : ℕ) → Spells kind.Next bytes n → (k : ℕ) → k < n → slice_index bytes k < 128
next_ascii bytes n s k l = of (lt_or_eq k s.0 (omega (arith, s.1)))
  where
    lt_or_eq : (k m : ℕ) → k < m + 1 → (k < m) ⊎ (k ≡ m)
    lt_or_eq k zero h = inr (omega arith)
    lt_or_eq zero (suc m) h = inl (omega arith)
    lt_or_eq (suc k) (suc m) h = up (lt_or_eq k m (omega arith))
      where
        up : (k < m) ⊎ (k ≡ m) → (suc k < suc m) ⊎ (suc k ≡ suc m)
        up (inl a) = inl (omega arith)
        up (inr a) = inr (omega arith)

    of : (k < s.0) ⊎ (k ≡ s.0) → slice_index bytes k < 128
    of (inl a) = wordlike_ascii bytes s.0 s.2.0 k a
    of (inr e) = let f : slice_index bytes k ≡ 64 = ap (slice_index bytes) e ∙ s.4 in omega arith

within_if : (text : List ℕ) (t : Token) → IsToken text t → ((k : ℕ) → k < t.to - t.from → slice_index (drop t.from text) k < 128) → IsWithin text (span_of t)
within_if text t h a = (omega (arith, h.some), h.within, IsUtf8-from_ascii (take (t.to - t.from) (drop t.from text)) (λ i. ascii_front (drop t.from text) (t.to - t.from) i a))

spelled_as : (text : List ℕ) (t : Token) (k : TokenKind) → IsToken text t → t.kind ≡ k → Spells k (drop t.from text) (t.to - t.from)
spelled_as text t k h e = subst (λ (j : TokenKind). Spells j (drop t.from text) (t.to - t.from)) e h.longest.0

stands : (text : List ℕ) (t : Token) (x : Terminal) → IsToken text t → IsTerminal text t x → StandsIn text x
stands text t (terminal.Word w) h k = tt
stands text t (terminal.Symbol s) h k = tt
stands text t (terminal.Operator o) h k = tt
stands text t (terminal.Compare c) h k = tt
stands text t (terminal.Number r w) h k = tt
stands text t (terminal.Name s v) h k = subst (IsWithin text) (sym k.1) (within_if text t h (wordlike_ascii (drop t.from text) (t.to - t.from) (spelled_as text t kind.Name h k.0).0))
stands text t (terminal.Variable s v) h k = subst (IsWithin text) (sym k.0) (within_if text t h (of k.1))
  where
    of : ((t.kind ≡ kind.Next) × (v ≡ None)) ⊎ ((t.kind ≡ kind.Word) × (token_text text t ≡ word_text word.Tau) × (v ≡ Some Tau)) → (j : ℕ) → j < t.to - t.from → slice_index (drop t.from text) j < 128
    of (inl e) = next_ascii (drop t.from text) (t.to - t.from) (spelled_as text t kind.Next h e.0)
    of (inr e) = wordlike_ascii (drop t.from text) (t.to - t.from) (spelled_as text t kind.Word h e.0).0

pub terminals_stand : (text : List ℕ) (ts : List Token) (xs : List Terminal) → All (λ t. IsToken text t) ts → AreTerminals text ts xs → All (StandsIn text) xs
terminals_stand text [] [] h k = All-nil (StandsIn text)
terminals_stand text [] (x ∷ xs) h k = absurd k
terminals_stand text (t ∷ ts) [] h k = absurd k
terminals_stand text (t ∷ ts) (x ∷ xs) h k = All-cons (StandsIn text) x xs (stands text t x (All-head (λ (u : Token). IsToken text u) t ts h) k.0) (terminals_stand text ts xs (All-tail (λ (u : Token). IsToken text u) t ts h) k.1)

-- what holds of each terminal holds of those of each piece
onto_each : (S : Terminal → Type 0) (t : Terminal) (ps : List (List Terminal)) → S t → All (All S) ps → All (All S) (onto_first t ps)
onto_each S t [] s h = All-cons (All S) (t ∷ []) [] (All-cons S t [] s (All-nil S)) (All-nil (All S))
onto_each S t (p ∷ ps) s h = All-cons (All S) (t ∷ p) ps (All-cons S t p s (All-head (All S) p ps h)) (All-tail (All S) p ps h)

pub pieces_each : (S : Terminal → Type 0) (d : ℕ) (ts : List Terminal) → All S ts → All (All S) (cut d ts)
pieces_each S d [] h = All-nil (All S)
pieces_each S d (t ∷ ts) h = of (ends d t) (pieces_each S 0 ts (All-tail S t ts h)) (pieces_each S (depth_behind d t) ts (All-tail S t ts h))
  where
    of : (b : Bool) → All (All S) (cut 0 ts) → All (All S) (cut (depth_behind d t) ts) → All (All S) (if b then (t ∷ []) ∷ cut 0 ts else onto_first t (cut (depth_behind d t) ts))
    of true k l = All-cons (All S) (t ∷ []) (cut 0 ts) (All-cons S t [] (All-head S t ts h) (All-nil S)) k
    of false k l = onto_each S t (cut (depth_behind d t) ts) (All-head S t ts h) l

pub of_items : (P : List Terminal → Type 0) (ps : List (Vec Terminal Global)) → All P (map items ps) → All (λ v. P v.items) ps
of_items P [] h = All-nil (λ (v : Vec Terminal Global). P v.items)
of_items P (p ∷ ps) h = All-cons (λ (v : Vec Terminal Global). P v.items) p ps (All-head P (items p) (map items ps) h) (of_items P ps (All-tail P (items p) (map items ps) h))

pub pieces_stand : (text : List ℕ) (ts : List Token) (xs : List Terminal) (ps : List (Vec Terminal Global)) → All (λ t. IsToken text t) ts → AreTerminals text ts xs → map items ps ≡ cut 0 xs → All (λ v. All (StandsIn text) v.items) ps
pieces_stand text ts xs ps h k e = of_items (All (StandsIn text)) ps (subst (All (All (StandsIn text))) (sym e) (pieces_each (StandsIn text) 0 xs (terminals_stand text ts xs h k)))

pub all_short : (ps : List (Vec Terminal Global)) (n : ℕ) → All (λ v. length v.items ≤ n) ps → n ≤ 1048576 → All (λ v. length v.items ≤ 1048576) ps
all_short ps n h l = λ k d m. let s = h k d m in omega (arith, s, l)

-- a text of few bytes has few terminals
pub terminals_few : (text : List ℕ) (ts us : List Token) (xs : List Terminal) → Fills text 0 ts (length text) → us ≡ ts → AreTerminals text us xs → length text ≤ 1048576 → length xs ≤ 1048576
terminals_few text ts us xs f e h l = omega (arith, tokens_few text 0 ts (length text) f, ap length e, same_count text us xs h, l)
