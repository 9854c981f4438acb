-- A token stands for one terminal only.
use Rattle.std.proofs.Common.{ℕ, ◌≡◌, ◌≢◌, ◌⊎◌, inl, inr, Bool, List, [], ◌∷◌, Option, None, Some, IsSomeAnd, pos, if◌then◌else◌, refl, ap, sym, ◌∙◌, subst}
use Rattle.std.specs.Str.{bytes_eq}
use Rattle.vp_terms.specs.declared.formula.Cmp.{Cmp}
use Rattle.vp_terms.specs.declared.formula.Cmp.TheVariants as cmp
use Rattle.vp_terms.specs.declared.expr.Var.{Var}
use Rattle.vp_terms.specs.declared.expr.Var.TheVariants.{Tau}
use Rattle.vp_terms.specs.declared.ratio.Ratio.{Ratio}
use Rattle.vp_terms.specs.Number.{is_whole}
use Rattle.vp_terms.specs.Ratios.{IsNumber, IsQuotient}
use Rattle.vp_lex.specs.declared.token.Token.{Token}
use Rattle.vp_lex.specs.declared.token.TokenKind.{TokenKind}
use Rattle.vp_lex.specs.declared.token.TokenKind.TheVariants as kind
use Rattle.vp_lex.specs.Reserved.{word_text}
use Rattle.vp_grammar.specs.declared.terminal.Span.{Span}
use Rattle.vp_lex.specs.declared.word.ReservedWord.{ReservedWord}
use Rattle.vp_lex.specs.declared.word.ReservedWord.TheVariants as word
use Rattle.vp_grammar.specs.declared.terminal.Symbol.{Symbol}
use Rattle.vp_grammar.specs.declared.terminal.Symbol.TheVariants as symbol
use Rattle.vp_grammar.specs.declared.terminal.Operator.{Operator}
use Rattle.vp_grammar.specs.declared.terminal.Operator.TheVariants as operator
use Rattle.vp_grammar.specs.declared.terminal.Terminal.{Terminal}
use Rattle.vp_grammar.specs.declared.terminal.Terminal.TheVariants as terminal
use Rattle.vp_read.specs.Spelling.{AreTerminals, IsBadNumber, IsFirstBad, IsTerminal, compare_text, operator_text, span_of, symbol_text, token_text}

-- the bytes of a symbol
abbrev mark_text : Terminal → List ℕ
mark_text (terminal.Symbol s) = symbol_text s
mark_text (terminal.Operator o) = operator_text o
mark_text (terminal.Compare c) = compare_text c
mark_text t = []

-- the first of some terminals that has these bytes
abbrev first_of : List Terminal → List ℕ → Option Terminal
first_of [] bytes = None
first_of (t ∷ ts) bytes = if bytes_eq (mark_text t) bytes then Some t else first_of ts bytes

abbrev marks : List Terminal
marks = terminal.Symbol symbol.Semicolon ∷ terminal.Symbol symbol.Comma ∷ terminal.Symbol symbol.Open ∷ terminal.Symbol symbol.Close ∷ terminal.Symbol symbol.SquareOpen ∷ terminal.Symbol symbol.SquareClose ∷ terminal.Symbol symbol.BraceOpen ∷ terminal.Symbol symbol.BraceClose ∷ terminal.Symbol symbol.Choice ∷ terminal.Symbol symbol.Prime ∷ terminal.Symbol symbol.Assign ∷ terminal.Symbol symbol.Question ∷ terminal.Symbol symbol.Bang ∷ terminal.Operator operator.Plus ∷ terminal.Operator operator.Minus ∷ terminal.Operator operator.Star ∷ terminal.Operator operator.Caret ∷ terminal.Operator operator.Ampersand ∷ terminal.Operator operator.Bar ∷ terminal.Compare cmp.Le ∷ terminal.Compare cmp.Lt ∷ terminal.Compare cmp.Ge ∷ terminal.Compare cmp.Gt ∷ terminal.Compare cmp.Eq ∷ terminal.Compare cmp.Ne ∷ []

-- what a token of this kind with these bytes stands for, where it is no number and no reserved word
abbrev told : List ℕ → TokenKind → Span → Option Terminal
told bytes kind.Symbol s = first_of marks bytes
told bytes kind.Name s = Some (terminal.Name s None)
told bytes kind.Next s = Some (terminal.Variable s None)
told bytes kind.Number s = None
told bytes kind.Word s = None

symbol_told : (z : Symbol) → first_of marks (symbol_text z) ≡ Some (terminal.Symbol z)
symbol_told symbol.Semicolon = refl
symbol_told symbol.Comma = refl
symbol_told symbol.Open = refl
symbol_told symbol.Close = refl
symbol_told symbol.SquareOpen = refl
symbol_told symbol.SquareClose = refl
symbol_told symbol.BraceOpen = refl
symbol_told symbol.BraceClose = refl
symbol_told symbol.Choice = refl
symbol_told symbol.Prime = refl
symbol_told symbol.Assign = refl
symbol_told symbol.Question = refl
symbol_told symbol.Bang = refl

operator_told : (z : Operator) → first_of marks (operator_text z) ≡ Some (terminal.Operator z)
operator_told operator.Plus = refl
operator_told operator.Minus = refl
operator_told operator.Star = refl
operator_told operator.Caret = refl
operator_told operator.Ampersand = refl
operator_told operator.Bar = refl

compare_told : (z : Cmp) → first_of marks (compare_text z) ≡ Some (terminal.Compare z)
compare_told cmp.Le = refl
compare_told cmp.Lt = refl
compare_told cmp.Ge = refl
compare_told cmp.Gt = refl
compare_told cmp.Eq = refl
compare_told cmp.Ne = refl

-- a token is told what it stands for, or is a number or a reserved word
abbrev IsTold : List ℕ → Token → Terminal → Type 0
IsTold text t x = told (token_text text t) t.kind (span_of t) ≡ Some x

abbrev IsCounted : List ℕ → Token → Terminal → Type 0
IsCounted text t x = (t.kind ≡ kind.Number) × (r : Ratio) × IsNumber (token_text text t) r × (x ≡ terminal.Number r (is_whole (token_text text t)))

abbrev IsWord : Token → ReservedWord → Terminal → Type 0
IsWord t w x = ((w ≢ word.Tau) × (x ≡ terminal.Word w)) ⊎ ((w ≡ word.Tau) × (x ≡ terminal.Variable (span_of t) (Some Tau)))

abbrev IsWorded : List ℕ → Token → Terminal → Type 0
IsWorded text t x = (t.kind ≡ kind.Word) × (w : ReservedWord) × (token_text text t ≡ word_text w) × IsWord t w x

abbrev IsKnown : List ℕ → Token → Terminal → Type 0
IsKnown text t x = IsTold text t x ⊎ (IsCounted text t x ⊎ IsWorded text t x)

by_kind : (text : List ℕ) (t : Token) (k : TokenKind) (o : Option Terminal) → t.kind ≡ k → told (token_text text t) k (span_of t) ≡ o → told (token_text text t) t.kind (span_of t) ≡ o
by_kind text t k o e f = ap (λ (j : TokenKind). told (token_text text t) j (span_of t)) e ∙ f

is_told : (text : List ℕ) (t : Token) (x : Terminal) → IsTerminal text t x → IsKnown text t x
is_told text t (terminal.Word w) h = inr (inr (h.0, w, h.1, inl (h.2, refl)))
is_told text t (terminal.Symbol s) h = inl (by_kind text t kind.Symbol (Some (terminal.Symbol s)) h.0 (ap (λ (b : List ℕ). told b kind.Symbol (span_of t)) h.1 ∙ symbol_told s))
is_told text t (terminal.Operator o) h = inl (by_kind text t kind.Symbol (Some (terminal.Operator o)) h.0 (ap (λ (b : List ℕ). told b kind.Symbol (span_of t)) h.1 ∙ operator_told o))
is_told text t (terminal.Compare c) h = inl (by_kind text t kind.Symbol (Some (terminal.Compare c)) h.0 (ap (λ (b : List ℕ). told b kind.Symbol (span_of t)) h.1 ∙ compare_told c))
is_told text t (terminal.Number r w) h = inr (inl (h.0, r, h.1, ap (λ (b : Bool). terminal.Number r b) h.2))
is_told text t (terminal.Name s v) h = inl (by_kind text t kind.Name (Some (terminal.Name s v)) h.0 (sym (ap (λ (z : Span). Some (terminal.Name z v)) h.1 ∙ ap (λ (o : Option Var). Some (terminal.Name (span_of t) o)) h.2)))
is_told text t (terminal.Variable s v) h = of h.1
  where
    same : (o : Option Var) → v ≡ o → terminal.Variable s v ≡ terminal.Variable (span_of t) o
    same o e = ap (λ (z : Span). terminal.Variable z v) h.0 ∙ ap (λ (u : Option Var). terminal.Variable (span_of t) u) e

    of : ((t.kind ≡ kind.Next) × (v ≡ None)) ⊎ ((t.kind ≡ kind.Word) × (token_text text t ≡ word_text word.Tau) × (v ≡ Some Tau)) → IsKnown text t (terminal.Variable s v)
    of (inl g) = inl (by_kind text t kind.Next (Some (terminal.Variable s v)) g.0 (sym (ap Some (same None g.1))))
    of (inr g) = inr (inr (g.0, word.Tau, g.1, inr (refl, same (Some Tau) g.2)))

-- no token that is told is a number or a reserved word
not_told : (text : List ℕ) (t : Token) (k : TokenKind) (x : Terminal) → t.kind ≡ k → told (token_text text t) k (span_of t) ≡ None → IsTold text t x → ⊥
not_told text t k x e n f =
    let g : None ≡ Some x = sym (by_kind text t k None e n) ∙ f in
    absurd (cc)

not_both : (t : Token) → t.kind ≡ kind.Number → t.kind ≡ kind.Word → ⊥
not_both t e f = absurd (cc)

some_same : (x y : Terminal) → Some x ≡ Some y → x ≡ y
some_same x y e = cc

-- a text writes one number, and no two reserved words are spelled alike
pub record TextsTell : Type 0 where
  pub numbers : (text : List ℕ) (a b : Ratio) → IsNumber text a → IsNumber text b → a ≡ b
  pub words : (v w : ReservedWord) → word_text v ≡ word_text w → v ≡ w

one_word : (t : Token) (v w : ReservedWord) (x y : Terminal) → v ≡ w → IsWord t v x → IsWord t w y → x ≡ y
one_word t v w x y e (inl a) (inl b) = a.1 ∙ ap terminal.Word e ∙ sym b.1
one_word t v w x y e (inl a) (inr b) = absurd (a.0 (e ∙ b.0))
one_word t v w x y e (inr a) (inl b) = absurd (b.0 (sym e ∙ a.0))
one_word t v w x y e (inr a) (inr b) = a.1 ∙ sym b.1

pub one_terminal : TextsTell → (text : List ℕ) (t : Token) (x y : Terminal) → IsTerminal text t x → IsTerminal text t y → x ≡ y
one_terminal one text t x y a b = of (is_told text t x a) (is_told text t y b)
  where
    of : IsKnown text t x → IsKnown text t y → x ≡ y
    of (inl g) (inl h) = some_same x y (sym g ∙ h)
    of (inl g) (inr (inl h)) = absurd (not_told text t kind.Number x h.0 refl g)
    of (inl g) (inr (inr h)) = absurd (not_told text t kind.Word x h.0 refl g)
    of (inr (inl g)) (inl h) = absurd (not_told text t kind.Number y g.0 refl h)
    of (inr (inr g)) (inl h) = absurd (not_told text t kind.Word y g.0 refl h)
    of (inr (inl g)) (inr (inl h)) = g.3 ∙ ap (λ (r : Ratio). terminal.Number r (is_whole (token_text text t))) (one.numbers (token_text text t) g.1 h.1 g.2 h.2) ∙ sym h.3
    of (inr (inl g)) (inr (inr h)) = absurd (not_both t g.0 h.0)
    of (inr (inr g)) (inr (inl h)) = absurd (not_both t h.0 g.0)
    of (inr (inr g)) (inr (inr h)) = one_word t g.1 h.1 x y (one.words g.1 h.1 (sym g.2 ∙ h.2)) g.3 h.3

pub one_terminals : TextsTell → (text : List ℕ) (ts : List Token) (xs ys : List Terminal) → AreTerminals text ts xs → AreTerminals text ts ys → xs ≡ ys
one_terminals one text [] [] [] a b = refl
one_terminals one text [] [] (y ∷ ys) a b = absurd b
one_terminals one text [] (x ∷ xs) ys a b = absurd a
one_terminals one text (t ∷ ts) [] ys a b = absurd a
one_terminals one text (t ∷ ts) (x ∷ xs) [] a b = absurd b
one_terminals one text (t ∷ ts) (x ∷ xs) (y ∷ ys) a b = ap (λ (z : Terminal). z ∷ xs) (one_terminal one text t x y a.0 b.0) ∙ ap (λ (zs : List Terminal). y ∷ zs) (one_terminals one text ts xs ys a.1 b.1)

-- a refused number stands for no terminal
bad_told : (text : List ℕ) (t : Token) (x : Terminal) → IsBadNumber text t → IsKnown text t x → ⊥
bad_told text t x b (inl g) = not_told text t kind.Number x b.0 refl g
bad_told text t x b (inr (inl g)) = subst (λ (o : Option (ℕ × ℕ)). IsSomeAnd o (λ f. IsQuotient (pos f.0) (pos f.1) g.1)) b.1 g.2
bad_told text t x b (inr (inr g)) = not_both t b.0 g.0

pub bad_stands_not : (text : List ℕ) (ts : List Token) (xs : List Terminal) (at : ℕ) → IsFirstBad text ts at → AreTerminals text ts xs → ⊥
bad_stands_not text [] xs at b a = b
bad_stands_not text (t ∷ ts) [] at b a = a
bad_stands_not text (t ∷ ts) (x ∷ xs) at (inl b) a = bad_told text t x b.0 (is_told text t x a.0)
bad_stands_not text (t ∷ ts) (x ∷ xs) at (inr b) a = bad_stands_not text ts xs at b.1 a.1

pub one_bad : (text : List ℕ) (ts : List Token) (m n : ℕ) → IsFirstBad text ts m → IsFirstBad text ts n → m ≡ n
one_bad text [] m n a b = absurd a
one_bad text (t ∷ ts) m n (inl a) (inl b) = a.1 ∙ sym b.1
one_bad text (t ∷ ts) m n (inl a) (inr b) = absurd (b.0 a.0)
one_bad text (t ∷ ts) m n (inr a) (inl b) = absurd (a.0 b.0)
one_bad text (t ∷ ts) m n (inr a) (inr b) = one_bad text ts m n a.1 b.1
