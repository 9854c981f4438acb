-- Tests of lists, one item after the other.
use Rattle.std.proofs.Common.{◌≡◌, ℕ, suc, ◌+◌, ◌<◌, ◌≤◌, List, [], ◌∷◌, length, map, drop, get_or, refl, sym, ap, ◌∙◌, subst, arith, Some, Bool, true, false, IsTrue}
use Rattle.vp_poly.specs.Places.{HasOnly, HaveOnly}
use Rattle.vp_poly.proofs.BelowLaws.{HaveOnly-cons, HaveOnly-first, HaveOnly-tail}
use Rattle.vp_sandbox.specs.Fits.{EachFits, PolyFits, PolysFit, TreeFits}
use Rattle.std.specs.List.{slice_get}
use Rattle.std.proofs.lemmas.List.{drop_all, length-map}
use Rattle.std.proofs.Math.ListN.{get_or-map}
use Rattle.std.proofs.lemmas.Option.{get_or_from_slice_get}
use Rattle.std.proofs.Math.Seq.{drop-cons}

-- the list passes exactly where what is left from number i on does
pub record Left {A : Type 0} (P : List A → Type 0) (xs : List A) (i : ℕ) : Type 0 where
  pub there : P xs → P (drop i xs)
  pub back : P (drop i xs) → P xs

-- a list passes exactly where its first item and the others do
pub record Splits {A : Type 0} (P : List A → Type 0) (Q : A → Type 0) : Type 0 where
  pub first : (x : A) (xs : List A) → P (x ∷ xs) → Q x
  pub rest : (x : A) (xs : List A) → P (x ∷ xs) → P xs
  pub both : (x : A) (xs : List A) → Q x → P xs → P (x ∷ xs)

here_then : {A : Type 0} (xs : List A) (i : ℕ) (x : A) → i < length xs → x ≡ get_or xs i x → drop i xs ≡ x ∷ drop (i + 1) xs
here_then xs i x h e =
    let next : i + 1 ≡ suc i = omega arith in
    let at : get_or xs i x ≡ x = sym e in
    rw (next, drop-cons xs i x h, at) refl

pub Left-more : {A : Type 0} (P : List A → Type 0) (Q : A → Type 0) (xs : List A) (i : ℕ) (x : A) → Splits P Q → Left P xs i → i < length xs → x ≡ get_or xs i x → Q x → Left P xs (i + 1)
Left-more P Q xs i x s l h e q =
    let n : drop i xs ≡ x ∷ drop (i + 1) xs = here_then xs i x h e in
    record {
      there = λ p. s.rest x (drop (i + 1) xs) (subst P n (l.there p));
      back = λ p. l.back (subst P (sym n) (s.both x (drop (i + 1) xs) q p));
    }

pub Left-stop : {A : Type 0} (P : List A → Type 0) (Q : A → Type 0) (xs : List A) (i : ℕ) (x : A) → Splits P Q → Left P xs i → i < length xs → x ≡ get_or xs i x → (Q x → ⊥) → P xs → ⊥
Left-stop P Q xs i x s l h e fails p =
    let n : drop i xs ≡ x ∷ drop (i + 1) xs = here_then xs i x h e in
    fails (s.first x (drop (i + 1) xs) (subst P n (l.there p)))

pub Left-none : {A : Type 0} (P : List A → Type 0) (xs : List A) (i : ℕ) → P [] → Left P xs i → length xs ≤ i → P xs
Left-none P xs i p l h = l.back (subst P (sym (drop_all i xs h)) p)

-- the same for items that are read, and for those of a list that is mapped
pub read : {A : Type 0} (xs : List A) (i : ℕ) (x : A) → slice_get xs i ≡ Some x → x ≡ get_or xs i x
read xs i x h = sym (get_or_from_slice_get xs i x x h)

pub mapped : {A B : Type 0} (g : A → B) (xs : List A) (i : ℕ) (x : A) → x ≡ get_or xs i x → g x ≡ get_or (map g xs) i (g x)
mapped g xs i x h = ap g h ∙ sym (get_or-map g xs i x)

pub within : {A B : Type 0} (g : A → B) (xs : List A) (i : ℕ) → i < length xs → i < length (map g xs)
within g xs i h = rw length-map h

-- how the lists of a sandbox split
pub only-splits : (f : ℕ → Bool) → Splits (HaveOnly f) (λ t. HasOnly f t.mono.powers)
only-splits f = record { first = HaveOnly-first f; rest = HaveOnly-tail f; both = HaveOnly-cons f }

pub polys-split : (f : ℕ → Bool) → Splits (PolysFit f) (PolyFits f)
polys-split f = record { first = λ t ts h. h.0; rest = λ t ts h. h.1; both = λ t ts h k. (h, k) }

pub forms-split : (f : ℕ → Bool) → Splits (EachFits f) (TreeFits f)
forms-split f = record { first = λ t ts h. h.0; rest = λ t ts h. h.1; both = λ t ts h k. (h, k) }

-- a test that fails
pub fails : {P : Type 0} (b : Bool) → (IsTrue b → P) × (P → IsTrue b) → b ≡ false → P → ⊥
fails b h e p = let t = h.1 p in absurd (cc)

pub refused : {P : Type 0} → (P → ⊥) → (IsTrue false → P) × (P → IsTrue false)
refused h = (λ t. absurd (cc), λ p. absurd (h p))

pub passed : {P : Type 0} → P → (IsTrue true → P) × (P → IsTrue true)
passed p = (λ t. p, λ q. refl)

pub ruleset passing = (length-map)
