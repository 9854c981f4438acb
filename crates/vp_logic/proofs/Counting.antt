-- Counts of cases that saturate.
use Rattle.std.proofs.Common.{◌≡◌, ℕ, zero, suc, ◌+◌, ◌*◌, ◌<◌, ◌≤◌, ◌⊎◌, inl, inr, min, List, [], length, map, drop, get_or, refl, sym, ap, ◌∙◌, arith, drop-cons}
use Rattle.std.proofs.Math.Numerals.{add-one}
use Rattle.std.proofs.Math.ListN.{drop_of_length-le}
use Rattle.std.proofs.Math.Nat.{mul_assoc, mul_comm}
use Rattle.vp_logic.specs.declared.norm.Norm.{Norm}
use Rattle.vp_logic.specs.Tree.{tree}
use Rattle.vp_logic.specs.Cases.{case_count, part_count}

at_most_or_not : (a m : ℕ) → (a ≤ m) ⊎ (m ≤ a)
at_most_or_not a m = grind arith

times_some : (a b : ℕ) → a ≤ a * suc b
times_some a b = omega arith

-- a product of a number that was cut
pub cut_left : (a b m : ℕ) → min (min a m * b) m ≡ min (a * b) m
cut_left a zero m = omega arith
cut_left a (suc b) m = cases (at_most_or_not a m)
  where
    cases : (a ≤ m) ⊎ (m ≤ a) → min (min a m * suc b) m ≡ min (a * suc b) m
    cases (inl h) = let e : min a m ≡ a = omega arith in rw e refl
    cases (inr h) =
        let e : min a m ≡ m = omega arith in
        let p = times_some m b in
        let q = times_some a b in
        let k : min (m * suc b) m ≡ m = omega arith in
        let l : min (a * suc b) m ≡ m = omega arith in
        rw e (k ∙ sym l)

pub cut_both : (a b m : ℕ) → min (min a m * min b m) m ≡ min (a * b) m
cut_both a b m =
    cut_left a (min b m) m
    ∙ ap (λ (n : ℕ). min n m) (mul_comm a (min b m))
    ∙ cut_left b a m
    ∙ ap (λ (n : ℕ). min n m) (mul_comm b a)

pub cut_sum : (a b m : ℕ) → min (min a m + min b m) m ≡ min (a + b) m
cut_sum a b m = omega arith

-- the count of the parts from one on
count_next : (ns : List Norm) (i : ℕ) (d : Norm) → i < length ns → part_count (map tree (drop i ns)) ≡ case_count (tree (get_or ns i d)) * part_count (map tree (drop (i + 1) ns))
count_next ns i d h = rw (add-one, drop-cons ns i d h) refl

pub count_step : (ns : List Norm) (i : ℕ) (d : Norm) (c more m all : ℕ) → i < length ns → min (c * part_count (map tree (drop i ns))) m ≡ all → more ≡ min (case_count (tree (get_or ns i d))) m → min (min (c * more) m * part_count (map tree (drop (i + 1) ns))) m ≡ all
count_step ns i d c more m all h e f =
    let t = case_count (tree (get_or ns i d)) in
    let r = part_count (map tree (drop (i + 1) ns)) in
    let g : min (c * min t m * r) m ≡ min (c * t * r) m =
    ap (λ (n : ℕ). min n m) (mul_assoc c (min t m) r ∙ mul_comm c (min t m * r) ∙ mul_assoc (min t m) r c)
    ∙ cut_left t (r * c) m
    ∙ ap (λ (n : ℕ). min n m) (sym (mul_assoc t r c) ∙ mul_comm (t * r) c ∙ sym (mul_assoc c t r)) in
    cut_left (c * more) r m
    ∙ ap (λ (n : ℕ). min (c * n * r) m) f
    ∙ g
    ∙ ap (λ (n : ℕ). min n m) (mul_assoc c t r ∙ ap (λ (n : ℕ). c * n) (sym (count_next ns i d h)))
    ∙ e

pub count_end : (ns : List Norm) (i c m all : ℕ) → length ns ≤ i → c ≤ m → min (c * part_count (map tree (drop i ns))) m ≡ all → c ≡ all
count_end ns i c m all h k e =
    let n : drop i ns ≡ [] = drop_of_length-le ns h in
    let f = rw n at e in
    omega arith

pub ruleset counting = (cut_both, cut_sum, count_step, count_end)
