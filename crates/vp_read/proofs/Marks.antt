-- Each symbol is one of the grammar's.
use Rattle.std.proofs.Common.{◌≡◌, inl, inr, ℕ, Bool, true, false, ◌||◌, ◌&&◌, nat_eq, List, [], ◌∷◌, take, refl, sym, subst, arith}
use Rattle.std.proofs.lemmas.Bool.{eqb-true}
use Rattle.vp_terms.specs.declared.formula.Cmp.TheVariants as cmp
use Rattle.vp_lex.specs.Bytes.{is_symbol, is_pair}
use Rattle.vp_lex.specs.Tokens.{Spells}
use Rattle.vp_lex.specs.declared.token.TokenKind.TheVariants.{Symbol}
use Rattle.vp_grammar.specs.declared.terminal.Symbol.TheVariants as symbol
use Rattle.vp_grammar.specs.declared.terminal.Operator.TheVariants as operator
use Rattle.vp_read.specs.Spelling.{IsMark}

pick : {P : Type 0} (p q : Bool) → (p || q) ≡ true → (p ≡ true → P) → (q ≡ true → P) → P
pick true q e f g = f refl
pick false q e f g = g e

halves : (p q : Bool) → (p && q) ≡ true → (p ≡ true) × (q ≡ true)
halves true q e = (refl, e)
halves false q e = absurd (cc)

one : (b n : ℕ) → IsMark (n ∷ []) → nat_eq b n ≡ true → IsMark (b ∷ [])
one b n m e = subst (λ (k : ℕ). IsMark (k ∷ [])) (sym (eqb-true b n e)) m

two : (a b n m : ℕ) → IsMark (n ∷ m ∷ []) → (nat_eq a n && nat_eq b m) ≡ true → IsMark (a ∷ b ∷ [])
two a b n m h e =
    let p = halves (nat_eq a n) (nat_eq b m) e in
    subst (λ (k : ℕ). IsMark (k ∷ b ∷ [])) (sym (eqb-true a n p.0)) (subst (λ (k : ℕ). IsMark (n ∷ k ∷ [])) (sym (eqb-true b m p.1)) h)

byte_mark : (b : ℕ) → is_symbol b ≡ true → IsMark (b ∷ [])
byte_mark b e = pick _ (nat_eq b 124) e (λ e. pick _ (nat_eq b 38) e (λ e. pick _ (nat_eq b 33) e (λ e. pick _ (nat_eq b 63) e (λ e. pick _ (nat_eq b 61) e (λ e. pick _ (nat_eq b 62) e (λ e. pick _ (nat_eq b 60) e (λ e. pick _ (nat_eq b 39) e (λ e. pick _ (nat_eq b 94) e (λ e. pick _ (nat_eq b 42) e (λ e. pick _ (nat_eq b 45) e (λ e. pick _ (nat_eq b 43) e (λ e. pick _ (nat_eq b 125) e (λ e. pick _ (nat_eq b 123) e (λ e. pick _ (nat_eq b 93) e (λ e. pick _ (nat_eq b 91) e (λ e. pick _ (nat_eq b 41) e (λ e. pick _ (nat_eq b 40) e (λ e. pick _ (nat_eq b 44) e (λ e. one b 59 (inl (symbol.Semicolon, refl)) e) (λ e. one b 44 (inl (symbol.Comma, refl)) e)) (λ e. one b 40 (inl (symbol.Open, refl)) e)) (λ e. one b 41 (inl (symbol.Close, refl)) e)) (λ e. one b 91 (inl (symbol.SquareOpen, refl)) e)) (λ e. one b 93 (inl (symbol.SquareClose, refl)) e)) (λ e. one b 123 (inl (symbol.BraceOpen, refl)) e)) (λ e. one b 125 (inl (symbol.BraceClose, refl)) e)) (λ e. one b 43 (inr (inl (operator.Plus, refl))) e)) (λ e. one b 45 (inr (inl (operator.Minus, refl))) e)) (λ e. one b 42 (inr (inl (operator.Star, refl))) e)) (λ e. one b 94 (inr (inl (operator.Caret, refl))) e)) (λ e. one b 39 (inl (symbol.Prime, refl)) e)) (λ e. one b 60 (inr (inr (cmp.Lt, refl))) e)) (λ e. one b 62 (inr (inr (cmp.Gt, refl))) e)) (λ e. one b 61 (inr (inr (cmp.Eq, refl))) e)) (λ e. one b 63 (inl (symbol.Question, refl)) e)) (λ e. one b 33 (inl (symbol.Bang, refl)) e)) (λ e. one b 38 (inr (inl (operator.Ampersand, refl))) e)) (λ e. one b 124 (inr (inl (operator.Bar, refl))) e)

pair_mark : (a b : ℕ) → is_pair a b ≡ true → IsMark (a ∷ b ∷ [])
pair_mark a b e = pick _ (nat_eq a 58 && nat_eq b 61) e (λ e. pick _ (nat_eq a 33 && nat_eq b 61) e (λ e. pick _ (nat_eq a 62 && nat_eq b 61) e (λ e. pick _ (nat_eq a 60 && nat_eq b 61) e (λ e. two a b 43 43 (inl (symbol.Choice, refl)) e) (λ e. two a b 60 61 (inr (inr (cmp.Le, refl))) e)) (λ e. two a b 62 61 (inr (inr (cmp.Ge, refl))) e)) (λ e. two a b 33 61 (inr (inr (cmp.Ne, refl))) e)) (λ e. two a b 58 61 (inl (symbol.Assign, refl)) e)

pub spelled_mark : (bytes : List ℕ) (n : ℕ) → Spells Symbol bytes n → IsMark (take n bytes)
spelled_mark [] n (inl h) = absurd (omega (arith, h.1))
spelled_mark (b ∷ bs) n (inl h) = subst (λ (k : ℕ). IsMark (take k (b ∷ bs))) (sym h.0) (byte_mark b h.2)
spelled_mark [] n (inr h) = absurd (omega (arith, h.1))
spelled_mark (a ∷ []) n (inr h) = absurd (omega (arith, h.1))
spelled_mark (a ∷ b ∷ bs) n (inr h) = subst (λ (k : ℕ). IsMark (take k (a ∷ b ∷ bs))) (sym h.0) (pair_mark a b h.2)
