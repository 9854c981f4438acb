-- Sizes of sums and products.
use Rattle.std.proofs.Common.{◌≡◌, ℕ, ◌+◌, ◌*◌, ◌≤◌, Bool, true, false, List, [], ◌∷◌, length, max, sum, refl, arith, pos, ◌+ℤ◌, ◌*ℤ◌, ℤ, sym, ap, ◌∙◌, unsigned_abs, Some, None, if◌then◌else◌, cond, ◌==◌}
use Rattle.std.specs.Ordering.{int_eq}
use Rattle.std.specs.declared.cmp.Ordering.{Ordering}
use Rattle.std.specs.declared.cmp.Ordering.TheVariants.{Less, Equal, Greater}
use Rattle.std.proofs.lemmas.List.{length-map}
use Rattle.std.proofs.Math.IntN.{*ℤ-zero}
use Rattle.vp_poly.specs.declared.mono.Term.{Term}
use Rattle.vp_poly.specs.Poly.{Powers, mono_cmp, norm, degree, coef, only_at, scaled, term_times, IsWithin}
use Rattle.vp_poly.specs.Merge.{by_order, joined, with_first, merged_from, merged}
use Rattle.vp_poly.specs.Product.{row, with_rows}
use Rattle.vp_poly.proofs.Ring.{mul-add}
use Rattle.vp_poly.proofs.PolyLaws.{norm-scaled}
use Rattle.vp_poly.proofs.MergeLaws.{norm-merged, length-merged}
use Rattle.vp_poly.proofs.RowLaws.{degree-row, norm-with_rows, length-with_rows}

degree-joined : (k : ℕ) (x y : Term) (ts : List Term) → sum x.mono.powers ≤ k → degree ts ≤ k → degree (with_first (joined x y) ts) ≤ k
degree-joined k x y ts a b = case (int_eq (x.coef +ℤ y.coef) (pos 0))
  where
    case : (v : Bool) → degree (with_first (if v then None else Some (record { mono = x.mono; coef = x.coef +ℤ y.coef })) ts) ≤ k
    case true = b
    case false = omega arith

degree-merged_from : (k : ℕ) (x : Term) (rest : List Term → List Term) → sum x.mono.powers ≤ k → ((zs : List Term) → degree zs ≤ k → degree (rest zs) ≤ k) → (ys : List Term) → degree ys ≤ k → degree (merged_from x rest ys) ≤ k
degree-merged_from k x rest a h [] b = omega (arith, h [] b)
degree-merged_from k x rest a h (y ∷ ys) b = case (degree-merged_from k x rest a h ys (omega arith)) (mono_cmp x.mono y.mono)
  where
    case : degree (merged_from x rest ys) ≤ k → (o : Ordering) → degree (by_order o (x ∷ rest (y ∷ ys)) (with_first (joined x y) (rest ys)) (y ∷ merged_from x rest ys)) ≤ k
    case more Less = omega (arith, h (y ∷ ys) b)
    case more Equal = degree-joined k x y (rest ys) a (h ys (omega arith))
    case more Greater = omega arith

pub degree-merged : (k : ℕ) (xs ys : List Term) → degree xs ≤ k → degree ys ≤ k → degree (merged xs ys) ≤ k
degree-merged k [] ys a b = b
degree-merged k (x ∷ xs) ys a b = degree-merged_from k x (merged xs) (omega arith) (λ zs h. degree-merged k xs zs (omega arith) h) ys b

degree-with_rows : (k : ℕ) (out xs ys : List Term) → degree out ≤ k → degree xs + degree ys ≤ k → degree (with_rows out xs ys) ≤ k
degree-with_rows k out [] ys a b = a
degree-with_rows k out (x ∷ xs) ys a b =
    let r : degree (row x ys) ≤ k = omega (arith, degree-row x ys) in
    degree-with_rows k (merged out (row x ys)) xs ys (degree-merged k out (row x ys) a r) (omega arith)

pub IsWithin-merged : (xs ys : List Term) → IsWithin (merged xs ys) (norm xs + norm ys) (max (degree xs) (degree ys)) (length xs + length ys)
IsWithin-merged xs ys = record {
  norm_le = norm-merged xs ys;
  degree_le = degree-merged (max (degree xs) (degree ys)) xs ys (omega arith) (omega arith);
  length_le = length-merged xs ys;
}

pub IsWithin-product : (xs ys : List Term) → IsWithin (with_rows [] xs ys) (norm xs * norm ys) (degree xs + degree ys) (length xs * length ys)
IsWithin-product xs ys = record {
  norm_le = omega (arith, norm-with_rows [] xs ys);
  degree_le = degree-with_rows (degree xs + degree ys) [] xs ys (omega arith) (omega arith);
  length_le = omega (arith, length-with_rows [] xs ys);
}

degree-scaled : (k : ℤ) (ts : List Term) → degree (scaled k ts) ≡ degree ts
degree-scaled k [] = refl
degree-scaled k (t ∷ ts) = ap (max (sum t.mono.powers)) (degree-scaled k ts)

pub IsWithin-scaled : (k : ℤ) (ts : List Term) → IsWithin (scaled k ts) (norm ts * unsigned_abs k) (degree ts) (length ts)
IsWithin-scaled k ts = record {
  norm_le = omega (arith, norm-scaled k ts);
  degree_le = omega (arith, degree-scaled k ts);
  length_le = omega (arith, length-map ts (term_times k));
}

only_at-times : (p q : Powers) (k c : ℤ) → only_at p q (k *ℤ c) ≡ k *ℤ only_at p q c
only_at-times [] [] k c = refl
only_at-times [] (y ∷ ys) k c = sym (*ℤ-zero k)
only_at-times (x ∷ xs) [] k c = sym (*ℤ-zero k)
only_at-times (x ∷ xs) (y ∷ ys) k c = case (x == y) (only_at-times xs ys k c)
  where
    case : (v : Bool) → only_at xs ys (k *ℤ c) ≡ k *ℤ only_at xs ys c → cond v (only_at xs ys (k *ℤ c)) (pos 0) ≡ k *ℤ cond v (only_at xs ys c) (pos 0)
    case true e = e
    case false e = sym (*ℤ-zero k)

pub coef-scaled : (k : ℤ) (ts : List Term) (m : Powers) → coef (scaled k ts) m ≡ k *ℤ coef ts m
coef-scaled k [] m = sym (*ℤ-zero k)
coef-scaled k (t ∷ ts) m =
    ap (λ (z : ℤ). z +ℤ coef (scaled k ts) m) (only_at-times t.mono.powers m k t.coef) ∙ ap (λ (z : ℤ). k *ℤ only_at t.mono.powers m t.coef +ℤ z) (coef-scaled k ts m)
    ∙ sym (mul-add k (only_at t.mono.powers m t.coef) (coef ts m))
