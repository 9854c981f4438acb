-- The list of all reserved words.
use Rattle.std.proofs.Common.{ℕ, ◌⊎◌, inl, inr, ◌+◌, ◌≡◌, ◌<◌, List, [], ◌∷◌, Some, slice_get, get_or, refl, arith, ap, sym, ◌∙◌}
use Rattle.std.proofs.Math.Nat.{eq-or-lt_of_le}
use Rattle.std.proofs.lemmas.Option.{get_or_from_slice_get}
use Rattle.vp_lex.specs.Reserved.{IsReserved, word_text}
use Rattle.vp_lex.specs.declared.word.ReservedWord.{ReservedWord}
use Rattle.vp_lex.specs.declared.word.ReservedWord.TheVariants as word

abbrev pub words : List ReservedWord
words = word.Package ∷ word.Params ∷ word.States ∷ word.Controls ∷ word.Init ∷ word.Inv ∷ word.Safe ∷ word.Ctrl ∷ word.Time ∷ word.To ∷ word.Flow ∷ word.Slack ∷ word.From ∷ word.Domain ∷ word.Fallback ∷ word.Cert ∷ word.Step ∷ word.Pos ∷ word.Sum ∷ word.Eq ∷ word.Of ∷ word.Times ∷ word.Sq ∷ word.If ∷ word.Else ∷ word.True ∷ word.False ∷ word.Tau ∷ []

-- the place of a word in the list
place : (w : ReservedWord) → (k : ℕ) × (k < 28) × (slice_get words k ≡ Some w)
place word.Package = (0, omega arith, refl)
place word.Params = (1, omega arith, refl)
place word.States = (2, omega arith, refl)
place word.Controls = (3, omega arith, refl)
place word.Init = (4, omega arith, refl)
place word.Inv = (5, omega arith, refl)
place word.Safe = (6, omega arith, refl)
place word.Ctrl = (7, omega arith, refl)
place word.Time = (8, omega arith, refl)
place word.To = (9, omega arith, refl)
place word.Flow = (10, omega arith, refl)
place word.Slack = (11, omega arith, refl)
place word.From = (12, omega arith, refl)
place word.Domain = (13, omega arith, refl)
place word.Fallback = (14, omega arith, refl)
place word.Cert = (15, omega arith, refl)
place word.Step = (16, omega arith, refl)
place word.Pos = (17, omega arith, refl)
place word.Sum = (18, omega arith, refl)
place word.Eq = (19, omega arith, refl)
place word.Of = (20, omega arith, refl)
place word.Times = (21, omega arith, refl)
place word.Sq = (22, omega arith, refl)
place word.If = (23, omega arith, refl)
place word.Else = (24, omega arith, refl)
place word.True = (25, omega arith, refl)
place word.False = (26, omega arith, refl)
place word.Tau = (27, omega arith, refl)

-- bytes that are none of the list's words are no reserved word
pub none_spelled : (bytes : List ℕ) → ((k : ℕ) (w : ReservedWord) → k < 28 → slice_get words k ≡ Some w → bytes ≡ word_text w → ⊥) → IsReserved bytes → ⊥
unfolding IsReserved
none_spelled bytes h r = let p = place r.0 in h p.0 r.0 p.1 p.2 r.1

-- bytes that are none of the first words of a list, and not the one behind them
pub none_behind : (bytes : List ℕ) (ws : List ReservedWord) (i : ℕ) (x d : ReservedWord) → x ≡ get_or ws i d → (bytes ≡ word_text x → ⊥) → ((k : ℕ) (w : ReservedWord) → k < i → slice_get ws k ≡ Some w → bytes ≡ word_text w → ⊥) →
    (k : ℕ) (w : ReservedWord) → k < i + 1 → slice_get ws k ≡ Some w → bytes ≡ word_text w → ⊥
none_behind bytes ws i x d f not before k w l e p = of (eq-or-lt_of_le (omega arith))
  where
    of : (k ≡ i) ⊎ (k < i) → ⊥
    of (inr h) = before k w h e p
    of (inl h) =
        let at : get_or ws i d ≡ w = ap (λ (j : ℕ). get_or ws j d) (sym h) ∙ get_or_from_slice_get ws k w d e in
        not (p ∙ ap word_text (sym at ∙ sym f))
