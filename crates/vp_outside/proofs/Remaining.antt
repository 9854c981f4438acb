-- What a read leaves.
use Rattle.std.proofs.Common.{ℕ, List, [], ◌≡◌, ◌+◌, ◌<◌, ◌++◌, length, take, drop, sym, ap, ◌∙◌, arith, length-drop}
use Rattle.std.proofs.lemmas.List.{take-append-drop, drop-drop}
use Rattle.std.proofs.Math.ListN.{drop_of_length-le}

-- the bytes left are the front that was given and the bytes left then
pub left-given : (at count : ℕ) (bytes front : List ℕ) → front ≡ take count (drop at bytes) → drop at bytes ≡ front ++ drop (at + count) bytes
left-given at count bytes front given =
    sym (take-append-drop count (drop at bytes)) ∙ ap (λ l. l ++ drop count (drop at bytes)) (sym given) ∙ ap (λ l. front ++ l) (drop-drop count at bytes)

-- where a read that could give some gave none, nothing is left
pub left-at_end : (at count : ℕ) (bytes : List ℕ) → count ≡ 0 → (0 < length (drop at bytes) → 0 < count) → drop (at + count) bytes ≡ []
left-at_end at count bytes none some = drop_of_length-le bytes (grind (arith, length-drop at bytes))
