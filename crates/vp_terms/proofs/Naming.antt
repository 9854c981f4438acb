-- No name stands twice where each is none of those before it.
use Rattle.std.proofs.Common.{◌≡◌, ◌≢◌, ℕ, ◌+◌, ◌<◌, ◌⊎◌, inl, inr, List, [], length, Some, sym, ap, subst, ◌∙◌, arith}
use Rattle.std.specs.Prelude.{AllPairs}
use Rattle.std.proofs.lemmas.Option.{slice_get-get_or}
use Rattle.vp_terms.specs.WellFormed.{IsNewName}

below_or_same : (k i : ℕ) → k < i + 1 → (k < i) ⊎ (k ≡ i)
below_or_same k i h = grind arith

-- one more
pub and_next : (P : ℕ → Type 0) (i : ℕ) → ((k : ℕ) → k < i → P k) → P i → (k : ℕ) → k < i + 1 → P k
and_next P i f h k m = cases (below_or_same k i m)
  where
    cases : (k < i) ⊎ (k ≡ i) → P k
    cases (inl l) = f k l
    cases (inr e) = subst P (sym e) h

pub pairs_from_new : (xs : List (List ℕ)) → ((j : ℕ) → j < length xs → IsNewName xs j) → AllPairs (λ a b. a ≢ b) xs
pairs_from_new xs h i j d l m e =
    let k : i < length xs = omega arith in
    h j m i l (slice_get-get_or xs i d k ∙ ap (λ (x : List ℕ). Some x) e ∙ sym (slice_get-get_or xs j d m))

some_same : (a b : List ℕ) → Some a ≡ Some b → a ≡ b
some_same a b e = cc

pub new_from_pairs : (xs : List (List ℕ)) (j : ℕ) → j < length xs → AllPairs (λ a b. a ≢ b) xs → IsNewName xs j
new_from_pairs xs j m p i l e =
    let k : i < length xs = omega arith in
    p i j [] l m (some_same _ _ (sym (slice_get-get_or xs i [] k) ∙ e ∙ slice_get-get_or xs j [] m))

pub ruleset naming = (and_next, pairs_from_new, new_from_pairs)
