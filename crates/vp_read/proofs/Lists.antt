-- Lists from a place on, and what is at a place.
use Rattle.std.proofs.Common.{ℕ, zero, suc, ◌+◌, ◌≡◌, ◌<◌, List, [], ◌∷◌, All, drop, length, map, get_or, slice_get, unwrap_or, refl, ap, sym, ◌∙◌, drop-cons}
use Rattle.std.proofs.lemmas.List.Elements.{All-head, All-tail}
use Rattle.std.proofs.Math.Numerals.{add-one}

-- from a place on stand what is there and what is behind
pub here : {X : Type 0} (xs : List X) (i : ℕ) (z : X) → i < length xs → drop i xs ≡ get_or xs i z ∷ drop (i + 1) xs
here xs i z h = rw (add-one i) (drop-cons xs i z h)

-- the same where what is there is known, and mapped
pub mapped_here : {X Y : Type 0} (f : X → Y) (xs : List X) (i : ℕ) (x : X) → i < length xs → x ≡ get_or xs i x → map f (drop i xs) ≡ f x ∷ map f (drop (i + 1) xs)
mapped_here f xs i x h e = ap (map f) (here xs i x h) ∙ ap (λ u. f u ∷ map f (drop (i + 1) xs)) (sym e)

pub drop_map : {X Y : Type 0} (f : X → Y) (n : ℕ) (xs : List X) → map f (drop n xs) ≡ drop n (map f xs)
drop_map f zero xs = refl
drop_map f (suc n) [] = refl
drop_map f (suc n) (x ∷ xs) = drop_map f n xs

-- what holds of each holds of what is at a place, where it holds of what stands for none
pub at_number : {X : Type 0} (P : X → Type 0) (xs : List X) (n : ℕ) (z : X) → P z → All P xs → P (unwrap_or (slice_get xs n) z)
at_number P [] n z e h = e
at_number P (x ∷ xs) zero z e h = All-head P x xs h
at_number P (x ∷ xs) (suc n) z e h = at_number P xs n z e (All-tail P x xs h)
