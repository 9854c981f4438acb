-- The loop that looks for a variable that may not stand where it does.
use Rattle.std.proofs.Common.{ℕ, ◌+◌, ◌≡◌, ◌<◌, ◌≤◌, Bool, true, false, List, ◌∷◌, drop, length, get_or, None, if◌then◌else◌, refl, ap, sym, ◌∙◌, arith, drop-cons}
use Rattle.std.proofs.Math.Numerals.{add-one}
use Rattle.std.proofs.Math.ListN.{drop_of_length-le}
use Rattle.vp_terms.specs.declared.expr.Places.{Places}
use Rattle.vp_grammar.specs.declared.terminal.Terminal.{Terminal}
use Rattle.vp_grammar.specs.declared.terminal.Terminal.TheVariants as terminal
use Rattle.vp_grammar.specs.declared.strays.Rule.{Rule}
use Rattle.vp_grammar.specs.Strays.{first_stray, fits, is_set, set_behind, variable_span}

-- what is found from a place on is what is found in all
abbrev pub StrayFrom : Rule → Places → List Terminal → ℕ → ℕ → Type 0
StrayFrom r p ts set i = first_stray r p 0 ts ≡ first_stray r p set (drop i ts)

here : (ts : List Terminal) (i : ℕ) (t : Terminal) → i < length ts → t ≡ get_or ts i t → drop i ts ≡ t ∷ drop (i + 1) ts
here ts i t h e = rw (add-one i) (drop-cons ts i t h) ∙ ap (λ (u : Terminal). u ∷ drop (i + 1) ts) (sym e)

pub stray_here : (r : Rule) (p : Places) (ts : List Terminal) (set i : ℕ) (t : Terminal) → i < length ts → t ≡ get_or ts i t → fits r p set t (drop (i + 1) ts) ≡ false → StrayFrom r p ts set i → variable_span t ≡ first_stray r p 0 ts
stray_here r p ts set i t h e f b = sym (b ∙ ap (first_stray r p set) (here ts i t h e) ∙ rw f refl)

pub stray_on : (r : Rule) (p : Places) (ts : List Terminal) (set i k : ℕ) (t : Terminal) → i < length ts → t ≡ get_or ts i t → fits r p set t (drop (i + 1) ts) ≡ true → k ≡ set_behind r set t (drop (i + 1) ts) → StrayFrom r p ts set i → StrayFrom r p ts k (i + 1)
stray_on r p ts set i k t h e f g b = b ∙ ap (first_stray r p set) (here ts i t h e) ∙ rw (f, g) refl

pub stray_ends : (r : Rule) (p : Places) (ts : List Terminal) (set i : ℕ) → i ≡ length ts → StrayFrom r p ts set i → None ≡ first_stray r p 0 ts
stray_ends r p ts set i e b = sym (b ∙ ap (first_stray r p set) (drop_of_length-le ts {i = i} (omega arith)))

pub set_small : (r : Rule) (set : ℕ) (t : Terminal) (ts : List Terminal) → set_behind r set t ts ≤ set + 1
set_small r set (terminal.Name s v) ts = of (is_set r ts)
  where
    of : (b : Bool) → (if b then set + 1 else set) ≤ set + 1
    of true = omega arith
    of false = omega arith
set_small r set (terminal.Variable s v) ts = omega arith
set_small r set (terminal.Word w) ts = omega arith
set_small r set (terminal.Symbol s) ts = omega arith
set_small r set (terminal.Operator o) ts = omega arith
set_small r set (terminal.Compare c) ts = omega arith
set_small r set (terminal.Number n w) ts = omega arith
