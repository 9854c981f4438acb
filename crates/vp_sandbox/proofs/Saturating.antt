-- Sums that saturate.
use Rattle.std.proofs.Common.{◌≡◌, ℕ, suc, ◌+◌, ◌*◌, ◌<◌, ◌≤◌, min, List, [], length, map, sum_by, drop, get_or, sym, ap, ◌∙◌, arith, Some}
use Rattle.std.specs.List.{slice_get}
use Rattle.std.proofs.lemmas.List.{drop_all, length-map}
use Rattle.std.proofs.Math.ListN.{get_or-map}
use Rattle.std.proofs.lemmas.List.Sums.{sum_by-cons}
use Rattle.std.proofs.lemmas.Option.{slice_get_within, get_or_from_slice_get}
use Rattle.std.proofs.Math.Seq.{drop-cons}

pub cut_sum : (a b m : ℕ) → min (min a m + min b m) m ≡ min (a + b) m
cut_sum a b m = omega arith

pub cut_left : (a b m : ℕ) → min (min a m + b) m ≡ min (a + b) m
cut_left a b m = omega arith

pub cut_double : (a m : ℕ) → min (min a m * 2) m ≡ min (2 * a) m
cut_double a m = omega arith

-- c and what the items from number i on add is all, each cut at m
pub record Adds {A : Type 0} (f : A → ℕ) (xs : List A) (m all i c : ℕ) : Type 0 where
  pub sum : min (c + sum_by f (drop i xs)) m ≡ min all m
  pub cut : c ≤ m

step : (c more here rest all m : ℕ) → min (c + (here + rest)) m ≡ min all m → more ≡ min here m → min (min (c + more) m + rest) m ≡ min all m
step c more here rest all m e f = omega arith

-- a further item
pub Adds-more : {A : Type 0} (f : A → ℕ) (xs : List A) (m all i c more total : ℕ) (x : A) → Adds f xs m all i c → i < length xs → x ≡ get_or xs i x → more ≡ min (f x) m → total ≡ min (c + more) m → Adds f xs m all (i + 1) total
Adds-more f xs m all i c more total x a h here e t =
    let next : i + 1 ≡ suc i = omega arith in
    let at : get_or xs i x ≡ x = sym here in
    let n : sum_by f (drop i xs) ≡ f x + sum_by f (drop (i + 1) xs) =
    rw (next, drop-cons xs i x h, at) (sum_by-cons f x (drop (suc i) xs)) in
    record {
      sum = rw t (step c more (f x) (sum_by f (drop (i + 1) xs)) all m (rw n at a.sum) e);
      cut = omega arith;
    }

-- the same for an item that was read
pub Adds-read : {A : Type 0} (f : A → ℕ) (xs : List A) (m all i c more total : ℕ) (x : A) → Adds f xs m all i c → slice_get xs i ≡ Some x → more ≡ min (f x) m → total ≡ min (c + more) m → Adds f xs m all (i + 1) total
Adds-read f xs m all i c more total x a h e t = Adds-more f xs m all i c more total x a (slice_get_within xs i x h) (sym (get_or_from_slice_get xs i x x h)) e t

-- the same for an item of a list that is mapped
pub Adds-mapped : {A B : Type 0} (f : B → ℕ) (g : A → B) (xs : List A) (m all i c more total : ℕ) (x : A) → Adds f (map g xs) m all i c → i < length xs → x ≡ get_or xs i x → more ≡ min (f (g x)) m → total ≡ min (c + more) m → Adds f (map g xs) m all (i + 1) total
Adds-mapped f g xs m all i c more total x a h here e t =
    let inside : i < length (map g xs) = rw length-map h in
    let at : g x ≡ get_or (map g xs) i (g x) = ap g here ∙ sym (get_or-map g xs i x) in
    Adds-more f (map g xs) m all i c more total (g x) a inside at e t

-- no further item
pub Adds-none : {A : Type 0} (f : A → ℕ) (xs : List A) (m all i c : ℕ) → Adds f xs m all i c → length xs ≤ i → c ≡ min all m
Adds-none f xs m all i c a h =
    let n : drop i xs ≡ [] = drop_all i xs h in
    let e : min (c + 0) m ≡ min all m = rw n at a.sum in
    let k = a.cut in
    omega arith

pub ruleset saturating = (cut_sum, cut_left, cut_double, Adds-none)
