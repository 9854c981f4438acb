-- The places of sums, products and multiples: any property of exponents that products keep.
use Rattle.std.proofs.Common.{◌≡◌, ℕ, zero, suc, ◌+◌, ◌≤◌, Bool, true, false, IsTrue, nat_lt, List, [], ◌∷◌, refl, arith, ℤ, pos, ◌+ℤ◌, Some, None, if◌then◌else◌, slice_index}
use Rattle.std.specs.Ordering.{int_eq}
use Rattle.std.specs.List.{All}
use Rattle.std.specs.declared.cmp.Ordering.{Ordering}
use Rattle.std.specs.declared.cmp.Ordering.TheVariants.{Less, Equal, Greater}
use Rattle.std.proofs.lemmas.Bool.Decides.{nat_tests}
use Rattle.std.proofs.lemmas.List.Elements.{All-cons, All-tail}
use Rattle.vp_poly.specs.declared.mono.Term.{Term}
use Rattle.vp_poly.specs.Poly.{Powers, mono_cmp, scaled, term_times, unless_zero}
use Rattle.vp_poly.specs.Merge.{by_order, joined, with_first, merged_from, merged}
use Rattle.vp_poly.specs.Product.{added, term_product, row, with_rows}
use Rattle.vp_poly.specs.Places.{IsBelow, AreBelow, HasOnly, HaveOnly}

-- the exponents of the term have the property
abbrev pub of : (Powers → Type 0) → Term → Type 0
of P t = P t.mono.powers

abbrev pub Each : (Powers → Type 0) → List Term → Type 0
Each P ts = All (of P) ts

module _ (P : Powers → Type 0) where
  pub Each-nil : Each P []
  Each-nil k d h = absurd (omega arith)

  pub Each-cons : (t : Term) (ts : List Term) → P t.mono.powers → Each P ts → Each P (t ∷ ts)
  Each-cons t ts h r = All-cons (of P) t ts h r

  pub Each-first : (t : Term) (ts : List Term) → Each P (t ∷ ts) → P t.mono.powers
  Each-first t ts h = h 0 t (omega arith)

  pub Each-tail : (t : Term) (ts : List Term) → Each P (t ∷ ts) → Each P ts
  Each-tail t ts h = All-tail (of P) t ts h

  Each-joined : (x y : Term) (ts : List Term) → P x.mono.powers → Each P ts → Each P (with_first (joined x y) ts)
  Each-joined x y ts a b = case (int_eq (x.coef +ℤ y.coef) (pos 0))
    where
      case : (c : Bool) → Each P (with_first (if c then None else Some (record { mono = x.mono; coef = x.coef +ℤ y.coef })) ts)
      case true = b
      case false = Each-cons (record { mono = x.mono; coef = x.coef +ℤ y.coef }) ts a b

  Each-merged_from : (x : Term) (rest : List Term → List Term) → P x.mono.powers → ((zs : List Term) → Each P zs → Each P (rest zs)) → (ys : List Term) → Each P ys → Each P (merged_from x rest ys)
  Each-merged_from x rest a h [] b = Each-cons x (rest []) a (h [] b)
  Each-merged_from x rest a h (y ∷ ys) b = case (Each-merged_from x rest a h ys (Each-tail y ys b)) (mono_cmp x.mono y.mono)
    where
      case : Each P (merged_from x rest ys) → (o : Ordering) → Each P (by_order o (x ∷ rest (y ∷ ys)) (with_first (joined x y) (rest ys)) (y ∷ merged_from x rest ys))
      case more Less = Each-cons x (rest (y ∷ ys)) a (h (y ∷ ys) b)
      case more Equal = Each-joined x y (rest ys) a (h ys (Each-tail y ys b))
      case more Greater = Each-cons y (merged_from x rest ys) (Each-first y ys b) more

  pub Each-merged : (xs ys : List Term) → Each P xs → Each P ys → Each P (merged xs ys)
  Each-merged [] ys a b = b
  Each-merged (x ∷ xs) ys a b =
      Each-merged_from x (merged xs) (Each-first x xs a) (λ zs h. Each-merged xs zs (Each-tail x xs a) h) ys b

  pub Each-scaled : (k : ℤ) (ts : List Term) → Each P ts → Each P (scaled k ts)
  Each-scaled k [] h = Each-nil
  Each-scaled k (t ∷ ts) h = Each-cons (term_times k t) (scaled k ts) (Each-first t ts h) (Each-scaled k ts (Each-tail t ts h))

  pub Each-unless_zero : (t : Term) → P t.mono.powers → Each P (unless_zero t)
  Each-unless_zero t h = case (int_eq t.coef (pos 0))
    where
      case : (c : Bool) → Each P (if c then [] else t ∷ [])
      case true = Each-nil
      case false = Each-cons t [] h Each-nil

-- a property that products keep
abbrev pub Products : (Powers → Type 0) → Type 0
Products P = (p q : Powers) → P p → P q → P (added p q)

module _ (P : Powers → Type 0) (kept : Products P) where
  Each-row : (x : Term) (ys : List Term) → P x.mono.powers → Each P ys → Each P (row x ys)
  Each-row x [] a b = Each-nil P
  Each-row x (y ∷ ys) a b =
      Each-cons P (term_product x y) (row x ys) (kept x.mono.powers y.mono.powers a (Each-first P y ys b)) (Each-row x ys a (Each-tail P y ys b))

  Each-with_rows : (out xs ys : List Term) → Each P out → Each P xs → Each P ys → Each P (with_rows out xs ys)
  Each-with_rows out [] ys o a b = o
  Each-with_rows out (x ∷ xs) ys o a b =
      Each-with_rows (merged out (row x ys)) xs ys (Each-merged P out (row x ys) o (Each-row x ys (Each-first P x xs a) b)) (Each-tail P x xs a) b

  pub Each-product : (xs ys : List Term) → Each P xs → Each P ys → Each P (with_rows [] xs ys)
  Each-product xs ys a b = Each-with_rows [] xs ys (Each-nil P) a b

pub slice_index-added : (p q : Powers) (k : ℕ) → slice_index (added p q) k ≡ slice_index p k + slice_index q k
slice_index-added [] q k = omega arith
slice_index-added (x ∷ p) [] k = omega arith
slice_index-added (x ∷ p) (y ∷ q) zero = refl
slice_index-added (x ∷ p) (y ∷ q) (suc k) = slice_index-added p q k

-- ---- places below a number

pub AreBelow-nil : (v : ℕ) → AreBelow v []
AreBelow-nil v = Each-nil (IsBelow v)

pub AreBelow-cons : (v : ℕ) (t : Term) (ts : List Term) → IsBelow v t.mono.powers → AreBelow v ts → AreBelow v (t ∷ ts)
AreBelow-cons v = Each-cons (IsBelow v)

pub AreBelow-first : (v : ℕ) (t : Term) (ts : List Term) → AreBelow v (t ∷ ts) → IsBelow v t.mono.powers
AreBelow-first v = Each-first (IsBelow v)

pub AreBelow-tail : (v : ℕ) (t : Term) (ts : List Term) → AreBelow v (t ∷ ts) → AreBelow v ts
AreBelow-tail v = Each-tail (IsBelow v)

pub AreBelow-merged : (v : ℕ) (xs ys : List Term) → AreBelow v xs → AreBelow v ys → AreBelow v (merged xs ys)
AreBelow-merged v = Each-merged (IsBelow v)

pub IsBelow-added : (v : ℕ) (p q : Powers) → IsBelow v p → IsBelow v q → IsBelow v (added p q)
IsBelow-added v p q a b = record { none = λ k le. let e = a.none k le in let f = b.none k le in omega (arith, slice_index-added p q k) }

pub AreBelow-product : (v : ℕ) (xs ys : List Term) → AreBelow v xs → AreBelow v ys → AreBelow v (with_rows [] xs ys)
AreBelow-product v = Each-product (IsBelow v) (IsBelow-added v)

pub AreBelow-scaled : (v : ℕ) (k : ℤ) (ts : List Term) → AreBelow v ts → AreBelow v (scaled k ts)
AreBelow-scaled v = Each-scaled (IsBelow v)

pub AreBelow-unless_zero : (v : ℕ) (t : Term) → IsBelow v t.mono.powers → AreBelow v (unless_zero t)
AreBelow-unless_zero v = Each-unless_zero (IsBelow v)

-- ---- places that pass a test

pub HaveOnly-nil : (f : ℕ → Bool) → HaveOnly f []
HaveOnly-nil f = Each-nil (HasOnly f)

pub HaveOnly-cons : (f : ℕ → Bool) (t : Term) (ts : List Term) → HasOnly f t.mono.powers → HaveOnly f ts → HaveOnly f (t ∷ ts)
HaveOnly-cons f = Each-cons (HasOnly f)

pub HaveOnly-first : (f : ℕ → Bool) (t : Term) (ts : List Term) → HaveOnly f (t ∷ ts) → HasOnly f t.mono.powers
HaveOnly-first f = Each-first (HasOnly f)

pub HaveOnly-tail : (f : ℕ → Bool) (t : Term) (ts : List Term) → HaveOnly f (t ∷ ts) → HaveOnly f ts
HaveOnly-tail f = Each-tail (HasOnly f)

pub HaveOnly-merged : (f : ℕ → Bool) (xs ys : List Term) → HaveOnly f xs → HaveOnly f ys → HaveOnly f (merged xs ys)
HaveOnly-merged f = Each-merged (HasOnly f)

pub HasOnly-added : (f : ℕ → Bool) (p q : Powers) → HasOnly f p → HasOnly f q → HasOnly f (added p q)
HasOnly-added f p q a b = record { others = λ k no_place. let e = a.others k no_place in let g = b.others k no_place in omega (arith, slice_index-added p q k) }

pub HaveOnly-product : (f : ℕ → Bool) (xs ys : List Term) → HaveOnly f xs → HaveOnly f ys → HaveOnly f (with_rows [] xs ys)
HaveOnly-product f = Each-product (HasOnly f) (HasOnly-added f)

pub HaveOnly-scaled : (f : ℕ → Bool) (k : ℤ) (ts : List Term) → HaveOnly f ts → HaveOnly f (scaled k ts)
HaveOnly-scaled f = Each-scaled (HasOnly f)

pub HaveOnly-unless_zero : (f : ℕ → Bool) (t : Term) → HasOnly f t.mono.powers → HaveOnly f (unless_zero t)
HaveOnly-unless_zero f = Each-unless_zero (HasOnly f)

-- ---- one as the other

fails : (f g : Bool) → (IsTrue f → IsTrue g) → g ≡ false → f ≡ false
fails true g h e = absurd (let t = h refl in cc)
fails false g h e = refl

pub HaveOnly-weaker : (f g : ℕ → Bool) (ts : List Term) → ((k : ℕ) → IsTrue (f k) → IsTrue (g k)) → HaveOnly f ts → HaveOnly g ts
HaveOnly-weaker f g [] h a = HaveOnly-nil g
HaveOnly-weaker f g (t ∷ ts) h a =
    HaveOnly-cons g t ts (record { others = λ k e. (HaveOnly-first f t ts a).others k (fails (f k) (g k) (h k) e) }) (HaveOnly-weaker f g ts h (HaveOnly-tail f t ts a))

not_below : (k v : ℕ) → nat_lt k v ≡ false → v ≤ k
not_below k v e = grind (arith, nat_tests)

is_not_below : (k v : ℕ) → v ≤ k → nat_lt k v ≡ false
is_not_below k v h = grind (arith, nat_tests)

pub HaveOnly-below : (v : ℕ) (ts : List Term) → AreBelow v ts → HaveOnly (λ k. nat_lt k v) ts
HaveOnly-below v [] h = HaveOnly-nil (λ k. nat_lt k v)
HaveOnly-below v (t ∷ ts) h =
    HaveOnly-cons (λ k. nat_lt k v) t ts (record { others = λ k e. (AreBelow-first v t ts h).none k (not_below k v e) }) (HaveOnly-below v ts (AreBelow-tail v t ts h))

pub AreBelow-only : (v : ℕ) (ts : List Term) → HaveOnly (λ k. nat_lt k v) ts → AreBelow v ts
AreBelow-only v [] h = AreBelow-nil v
AreBelow-only v (t ∷ ts) h =
    AreBelow-cons v t ts (record { none = λ k le. (HaveOnly-first (λ j. nat_lt j v) t ts h).others k (is_not_below k v le) }) (AreBelow-only v ts (HaveOnly-tail (λ j. nat_lt j v) t ts h))
