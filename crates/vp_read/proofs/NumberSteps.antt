-- The loop that numbers names from the end of their list.
use Rattle.std.proofs.Common.{ℕ, ◌+◌, ◌≡◌, ◌<◌, Bool, true, false, List, ◌∷◌, drop, length, map, get_or, String, Global, string_bytes, Option, None, Some, Bor, cond, refl, ap, sym, ◌∙◌, arith}
use Rattle.std.proofs.Math.ListN.{drop_of_length-le}
use Rattle.std.specs.Str.{bytes_eq}
use Rattle.std.specs.Option.{option_map}
use Rattle.indexmap.specs.IndexMap.{IndexMap, get}
use Rattle.vp_read.specs.Naming.{number_in}
use Rattle.vp_read.proofs.Lists.{mapped_here}
use Rattle.vp_read.specs.Numbers.{Numbers}

-- the names from a place on have their numbers
abbrev pub NumbersFrom : {S : Type 0} → List (String Global) → ℕ → IndexMap (Bor (List ℕ)) ℕ S → Type 0
NumbersFrom ns i m = (q : Bor (List ℕ)) → get (λ a b. bytes_eq a.now b.now) m q ≡ option_map (λ k. k + i) (number_in (map string_bytes (drop i ns)) q.now)

shifted : (o : Option ℕ) (i : ℕ) → option_map (λ k. k + (i + 1)) o ≡ option_map (λ k. k + i) (option_map (λ k. k + 1) o)
shifted None i = refl
shifted (Some k) i = ap Some (omega arith)

pub numbers_on : {S : Type 0} (ns : List (String Global)) (i : ℕ) (s : String Global) (m n : IndexMap (Bor (List ℕ)) ℕ S) (k : Bor (List ℕ)) → i < length ns → s ≡ get_or ns i s → k.now ≡ string_bytes s → ((q : Bor (List ℕ)) → get (λ a b. bytes_eq a.now b.now) n q ≡ cond (bytes_eq k.now q.now) (Some i) (get (λ a b. bytes_eq a.now b.now) m q)) → NumbersFrom ns (i + 1) m → NumbersFrom ns i n
numbers_on ns i s m n k h e b u f q =
    let here : map string_bytes (drop i ns) ≡ string_bytes s ∷ map string_bytes (drop (i + 1) ns) = mapped_here string_bytes ns i s h e in
    u q ∙ of (bytes_eq k.now q.now) refl ∙ ap (λ (ms : List (List ℕ)). option_map (λ j. j + i) (number_in ms q.now)) (sym here)
  where
    of : (c : Bool) → bytes_eq k.now q.now ≡ c → cond c (Some i) (get (λ a b. bytes_eq a.now b.now) m q) ≡ option_map (λ j. j + i) (number_in (string_bytes s ∷ map string_bytes (drop (i + 1) ns)) q.now)
    of true g = rw (ap (λ (z : List ℕ). bytes_eq z q.now) (sym b) ∙ g) (ap Some (omega arith))
    of false g = rw (ap (λ (z : List ℕ). bytes_eq z q.now) (sym b) ∙ g) (f q ∙ shifted (number_in (map string_bytes (drop (i + 1) ns)) q.now) i)

pub numbers_begin : {S : Type 0} (ns : List (String Global)) (m : IndexMap (Bor (List ℕ)) ℕ S) → ((q : Bor (List ℕ)) → get (λ a b. bytes_eq a.now b.now) m q ≡ None) → NumbersFrom ns (length ns) m
numbers_begin ns m h q = h q ∙ sym (ap (λ (ms : List (String Global)). option_map (λ j. j + length ns) (number_in (map string_bytes ms) q.now)) (drop_of_length-le ns {i = length ns} (omega arith)))

none_more : (o : Option ℕ) → option_map (λ j. j + 0) o ≡ o
none_more None = refl
none_more (Some k) = ap Some (omega arith)

pub numbers_end : {S : Type 0} (ns : List (String Global)) (i : ℕ) (m : IndexMap (Bor (List ℕ)) ℕ S) → i ≡ 0 → NumbersFrom ns i m → Numbers (map string_bytes ns) m
numbers_end ns i m e f q = f q ∙ ap (λ (k : ℕ). option_map (λ j. j + k) (number_in (map string_bytes (drop k ns)) q.now)) e ∙ none_more (number_in (map string_bytes ns) q.now)
