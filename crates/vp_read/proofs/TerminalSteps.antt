-- The loop over the tokens of a text.
use Rattle.std.proofs.Common.{ℕ, ◌+◌, ◌≡◌, inl, inr, ◌<◌, List, [], ◌∷◌, ◌++◌, take, drop, length, get_or, refl, ap, sym, ◌∙◌, subst}
use Rattle.std.proofs.Math.Seq.{take-length}
use Rattle.std.proofs.lemmas.List.{take_more}
use Rattle.vp_lex.specs.declared.token.Token.{Token}
use Rattle.vp_grammar.specs.declared.terminal.Terminal.{Terminal}
use Rattle.vp_read.proofs.Lists.{here}
use Rattle.vp_read.specs.Spelling.{AreTerminals, IsBadNumber, IsFirstBad, IsTerminal}

terminal_more : (text : List ℕ) (ts : List Token) (xs : List Terminal) (t : Token) (x : Terminal) → AreTerminals text ts xs → IsTerminal text t x → AreTerminals text (ts ++ t ∷ []) (xs ++ x ∷ [])
terminal_more text [] [] t x h k = (k, tt)
terminal_more text [] (y ∷ ys) t x h k = absurd h
terminal_more text (u ∷ us) [] t x h k = absurd h
terminal_more text (u ∷ us) (y ∷ ys) t x h k = (h.0, terminal_more text us ys t x h.1 k)

-- the terminals of the tokens before a place, and a first bad number behind it is the first of all
pub record Standing (text : List ℕ) (tokens : List Token) (i : ℕ) (found : List Terminal) : Type 0 where
  pub stand : AreTerminals text (take i tokens) found
  pub none : (at : ℕ) → IsFirstBad text (drop i tokens) at → IsFirstBad text tokens at

pub stands_on : (text : List ℕ) (tokens : List Token) (i : ℕ) (found : List Terminal) (z : Token) (x : Terminal) → i < length tokens → Standing text tokens i found → IsTerminal text (get_or tokens i z) x → (IsBadNumber text (get_or tokens i z) → ⊥) → Standing text tokens (i + 1) (found ++ x ∷ [])
stands_on text tokens i found z x h s k good = record {
  stand = subst (λ (ts : List Token). AreTerminals text ts (found ++ x ∷ [])) (sym (take_more tokens i z h)) (terminal_more text (take i tokens) found (get_or tokens i z) x s.stand k);
  none = λ at b. s.none at (subst (λ (ts : List Token). IsFirstBad text ts at) (sym (here tokens i z h)) (inr (good, b)));
}

pub stands_bad : (text : List ℕ) (tokens : List Token) (i : ℕ) (found : List Terminal) (t : Token) → i < length tokens → t ≡ get_or tokens i t → Standing text tokens i found → IsBadNumber text t → IsFirstBad text tokens t.from
stands_bad text tokens i found t h e s bad = s.none t.from (subst (λ (ts : List Token). IsFirstBad text ts t.from) (ap (λ (u : Token). u ∷ drop (i + 1) tokens) e ∙ sym (here tokens i t h)) (inl (bad, refl)))

pub all_stand : (text : List ℕ) (tokens : List Token) (i : ℕ) (found : List Terminal) → i ≡ length tokens → Standing text tokens i found → AreTerminals text tokens found
all_stand text tokens i found e s = subst (λ (ts : List Token). AreTerminals text ts found) (ap (λ (k : ℕ). take k tokens) e ∙ take-length tokens) s.stand
