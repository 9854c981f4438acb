-- The number of a name.
use Rattle.std.proofs.Common.{◌≡◌, ◌≢◌, ◌⊎◌, inl, inr, ℕ, ◌+◌, ◌<◌, ◌≤◌, List, String, length, map, slice_get, get_or, Some, sym, ap, ◌∙◌, subst, arith}
use Rattle.std.specs.Prelude.{string_bytes, Result, Err, IfErr}
use Rattle.std.specs.Option.{option_map}
use Rattle.std.specs.declared.alloc.Global.{Global}
use Rattle.std.proofs.lemmas.List.{length-map}
use Rattle.std.proofs.lemmas.Option.{slice_get-get_or, slice_get-map, slice_get_within}

module _ (items : List (String Global)) (names : List (List ℕ)) (same : map string_bytes items ≡ names) (name : List ℕ) (k : ℕ) where
  pub name_at : (s : String Global) → k < length items → s ≡ get_or items k s → slice_get names k ≡ Some (string_bytes s)
  name_at s l is = ap (λ (ns : List (List ℕ)). slice_get ns k) (sym same) ∙ slice_get-map string_bytes items k ∙ ap (option_map string_bytes) (slice_get-get_or items k s l ∙ ap Some (sym is))

  some_is : (a b : List ℕ) → Some a ≡ Some b → a ≡ b
  some_is a b e = cc

  below_or_here : (j : ℕ) → j < k + 1 → (j < k) ⊎ (j ≡ k)
  below_or_here j l = grind arith

  pub none_more : (s : String Global) → k < length items → s ≡ get_or items k s → (string_bytes s ≡ name → ⊥) → ((j : ℕ) → j < k → slice_get names j ≢ Some name) → (j : ℕ) → j < k + 1 → slice_get names j ≢ Some name
  none_more s l is differs before j m q = elim (below_or_here j m) [
    | inl b ↦ before j b q
    | inr e ↦ differs (some_is (string_bytes s) name (sym (name_at s l is) ∙ ap (slice_get names) (sym e) ∙ q))
  ]

  pub none_left : length items ≤ k → ((j : ℕ) → j < k → slice_get names j ≢ Some name) → (i : ℕ) → slice_get names i ≡ Some name → ⊥
  none_left l before i q =
      let w = slice_get_within names i name q in
      let n : length names ≡ length items = ap length (sym same) ∙ length-map items string_bytes in
      before i (omega arith) q

-- what an error that is there refuses
pub refused_here : {T E : Type 0} (P : E → Type 0) (r : Result T E) (e : E) → r ≡ Err e → IfErr r P → P e
refused_here {T} {E} P r e q h = subst (λ (s : Result T E). IfErr s P) q h
