-- Polynomials whose places are sent to themselves.
use Rattle.std.proofs.Common.{◌≡◌, ◌≢◌, ℕ, zero, suc, ◌<◌, ◌⊎◌, inl, inr, List, [], ◌∷◌, length, map, get_or, refl, sym, ap, ◌∙◌, arith, pos}
use Rattle.std.specs.Prelude.{slice_index}
use Rattle.std.specs.List.{range_with_len}
use Rattle.std.proofs.lemmas.List.{ext_get_or, length-map}
use Rattle.std.proofs.lemmas.List.Sorted.{length_permutation}
use Rattle.vp_poly.specs.declared.mono.Term.{Term}
use Rattle.vp_poly.specs.Poly.{Powers, IsPoly, IsOrdered, coef}
use Rattle.vp_poly.specs.Places.{IsRenaming, before_renaming}
use Rattle.vp_poly.proofs.Unique.{only_at-other, IsOrdered-unique}
use Rattle.vp_logic.specs.Renamed.{KeepsPlaces}

same_or_not : (a b : ℕ) → (a ≡ b) ⊎ (a ≢ b)
same_or_not a b = grind arith

-- a monomial with another number of places has no coefficient
coef_elsewhere : (ts : List Term) (m : Powers) → IsOrdered ts → length m ≢ 32 → coef ts m ≡ pos 0
coef_elsewhere [] m h n = refl
coef_elsewhere (t ∷ ts) m h n =
    let e = only_at-other t.mono.powers m t.coef (λ q. n (sym (ap length q) ∙ h.0.places)) in
    let f = coef_elsewhere ts m h.1 n in
    rw (e, f) refl

-- moving nothing
before_same : (to : List ℕ) (m : Powers) → length to ≡ 32 → length m ≡ 32 → KeepsPlaces to → before_renaming to m ≡ m
before_same to m l n k =
    let s = length-map to (λ j. slice_index m j) in
    ext_get_or 0 (before_renaming to m) m (omega arith) (λ i h. at i (omega arith))
  where
    mapped : (xs : List ℕ) (i : ℕ) → i < length xs → get_or (map (λ j. slice_index m j) xs) i 0 ≡ slice_index m (get_or xs i 0)
    mapped [] i h = absurd (omega arith)
    mapped (x ∷ xs) zero h = refl
    mapped (x ∷ xs) (suc i) h = mapped xs i (omega arith)

    at : (i : ℕ) → i < length to → get_or (before_renaming to m) i 0 ≡ get_or m i 0
    at i h = mapped to i h ∙ ap (λ (j : ℕ). slice_index m j) (k i (omega arith))

pub same_poly : (to : List ℕ) (xs ys : List Term) → length to ≡ 32 → KeepsPlaces to → IsPoly xs → IsPoly ys → ((m : Powers) → length m ≡ 32 → coef ys m ≡ coef xs (before_renaming to m)) → ys ≡ xs
same_poly to xs ys l k p q f = IsOrdered-unique ys xs q.ordered p.ordered (λ m. each m (same_or_not (length m) 32))
  where
    each : (m : Powers) → (length m ≡ 32) ⊎ (length m ≢ 32) → coef ys m ≡ coef xs m
    each m (inl e) = f m e ∙ ap (coef xs) (before_same to m l e k)
    each m (inr n) = coef_elsewhere ys m q.ordered n ∙ sym (coef_elsewhere xs m p.ordered n)

pub renaming_length : (to : List ℕ) → IsRenaming to → length to ≡ 32
renaming_length to r = length_permutation (range_with_len 0 32) to r ∙ refl
