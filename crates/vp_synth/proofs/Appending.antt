-- Loops that append what a function makes of each element.
use Rattle.std.proofs.Common.{◌≡◌, ℕ, ◌+◌, ◌<◌, ◌≤◌, List, [], ◌++◌, length, drop, get_or, refl, sym, ap, ◌∙◌, append_assoc, append-nil, drop-cons}
use Rattle.std.proofs.Math.Numerals.{add-one}
use Rattle.std.proofs.Math.ListN.{drop_of_length-le}
use Rattle.std.specs.List.{flat_map}

-- one piece more of what is to be written, where `rest` is what is left from the i-th on
pub appended : {B : Type 0} (out new piece rest more all : List B) → out ++ rest ≡ all → rest ≡ piece ++ more → new ≡ out ++ piece → new ++ more ≡ all
appended out new piece rest more all e f g = rw g (append_assoc out piece more ∙ (ap (λ l. out ++ l) (sym f) ∙ e))

-- nothing is left
pub finished : {B : Type 0} (out rest all : List B) → out ++ rest ≡ all → rest ≡ [] → out ≡ all
finished out rest all e f = sym (append-nil out) ∙ (ap (λ l. out ++ l) (sym f) ∙ e)

-- what a function makes of the elements from the i-th on
pub pieces_next : {A B : Type 0} (f : A → List B) (xs : List A) (i : ℕ) (d : A) → i < length xs → flat_map f (drop i xs) ≡ f (get_or xs i d) ++ flat_map f (drop (i + 1) xs)
pieces_next f xs i d h = rw add-one (rw (drop-cons xs i d h) refl)

pub pieces_end : {A B : Type 0} (f : A → List B) (xs : List A) (i : ℕ) → length xs ≤ i → flat_map f (drop i xs) ≡ []
pieces_end f xs i h = rw (drop_of_length-le xs h) refl
