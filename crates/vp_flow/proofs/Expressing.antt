-- An expression with its variables replaced, as a polynomial with its places replaced.
use Rattle.std.proofs.Common.{◌≡◌, ℕ, zero, suc, ◌+◌, ◌-◌, ◌*◌, ◌^◌, ◌≤◌, ◌<◌, Bool, true, false, cond, ◌==◌, ◌&&◌, leb, [], ◌∷◌, length, sum, replicate, set, refl, sym, ap, ◌∙◌, subst, arith, ℤ, pos, ◌*ℤ◌, pow-suc}
use Rattle.std.proofs.Math.IntN.{*ℤ-zero}
use Rattle.std.proofs.Math.Nat.{pow-zero}
use Rattle.std.proofs.lemmas.Bool.{eq-eqb, leb-false}
use Rattle.std.proofs.lemmas.List.{length-set}
use Rattle.std.specs.Prelude.{IsTrue}
use Rattle.vp_terms.specs.Rational.{Rational, whole}
use Rattle.vp_terms.specs.Meaning.{rational}
use Rattle.vp_terms.specs.Places.{place, place_count, has_variable}
use Rattle.vp_terms.specs.Variables.{all_variables}
use Rattle.vp_terms.specs.declared.expr.Places.{Places}
use Rattle.vp_terms.specs.declared.expr.Var.{Var}
use Rattle.vp_terms.specs.declared.expr.Expr.{Expr}
use Rattle.vp_terms.specs.declared.expr.Expr.TheVariants.{Num, Var as Variable, Add', Sub', Mul', Pow'}
use Rattle.vp_terms.proofs.Agreeing.{both}
use Rattle.vp_poly.specs.Poly.{Powers, only_at}
use Rattle.vp_poly.specs.Product.{split_sum}
use Rattle.vp_poly.specs.Coefficient.{Coefficients, coefficients, constant, to_power}
use Rattle.vp_poly.specs.Canonical.{unit, variables}
use Rattle.vp_poly.specs.Times.{IsTimes}
use Rattle.vp_poly.proofs.SplitLaws.{split_sum-cong, split_sum-zero}
use Rattle.vp_poly.proofs.TimesLaws.{IsTimes-only_at, IsTimes-fraction}
use Rattle.vp_poly.proofs.Ring.{mul_comm}
use Rattle.vp_poly.proofs.RowLaws.{sum-cons}
use Rattle.vp_flow.specs.Whole.{conv}
use Rattle.vp_flow.proofs.Sums.{int_sum-single, test_off}
use Rattle.vp_flow.proofs.Lie.{left_none, right_none, times_one}
use Rattle.vp_flow.proofs.Replacing.{only-none}
use Rattle.vp_flow.proofs.Spreading.{Same, conv-one, conv-same, inside, monomial, one, one-conv, spread, spread-times}
use Rattle.vp_flow.proofs.Standing.{Stands, stands-difference, stands-product, stands-sum}

-- ---- one monomial alone

zeros : ℕ → Powers
zeros n = replicate n 0

-- only the monomial itself, with nothing left, counts in its own box
pub picked : (c : Powers) (g : Powers → Powers → ℤ) → split_sum c (λ a b. only_at c a (pos 1) *ℤ g a b) ≡ g c (replicate (length c) 0)
picked [] g = mul_comm (pos 1) (g [] []) ∙ times_one (g [] [])
picked (x ∷ c) g =
    int_sum-single x x (λ i. split_sum c (λ a b. cond (x == i) (only_at c a (pos 1)) (pos 0) *ℤ g (i ∷ a) ((x - i) ∷ b))) (omega arith)
    (λ i le ne. split_sum-zero c (λ a b. cond (x == i) (only_at c a (pos 1)) (pos 0) *ℤ g (i ∷ a) ((x - i) ∷ b))
    (λ a b. left_none (cond (x == i) (only_at c a (pos 1)) (pos 0)) (g (i ∷ a) ((x - i) ∷ b)) (ap (λ (v : Bool). cond v (only_at c a (pos 1)) (pos 0)) (test_off x i (λ q. ne (sym q))))))
    ∙ split_sum-cong c (λ a b. cond (x == x) (only_at c a (pos 1)) (pos 0) *ℤ g (x ∷ a) ((x - x) ∷ b)) (λ a b. only_at c a (pos 1) *ℤ g (x ∷ a) (0 ∷ b))
    (λ a b. ap (λ (v : Bool). cond v (only_at c a (pos 1)) (pos 0) *ℤ g (x ∷ a) ((x - x) ∷ b)) (eq-eqb x x refl) ∙ ap (λ (k : ℕ). only_at c a (pos 1) *ℤ g (x ∷ a) (k ∷ b)) (let z : x - x ≡ 0 = omega arith in z))
    ∙ picked c (λ a b. g (x ∷ a) (0 ∷ b))

no_sum : (k : ℕ) → sum (replicate k 0) ≡ 0
no_sum zero = refl
no_sum (suc k) = let more = no_sum k in omega (arith, sum-cons 0 (replicate k 0))

-- a coefficient is taken out
taken-out : (c a : Powers) (q : ℤ) → only_at c a q ≡ q *ℤ only_at c a (pos 1)
taken-out [] [] q = sym (times_one q)
taken-out [] (y ∷ a) q = sym (*ℤ-zero q)
taken-out (x ∷ c) [] q = sym (*ℤ-zero q)
taken-out (x ∷ c) (y ∷ a) q = at (x == y) (taken-out c a q)
  where
    at : (v : Bool) → only_at c a q ≡ q *ℤ only_at c a (pos 1) → cond v (only_at c a q) (pos 0) ≡ q *ℤ cond v (only_at c a (pos 1)) (pos 0)
    at true more = more
    at false more = sym (*ℤ-zero q)

same-inside : (c a : Powers) → inside a c ≡ false → only_at c a (pos 1) ≡ pos 0
same-inside c a o = only-none c a (pos 1) (λ e. clash (inside a c) (ap (λ (w : Powers). inside w c) (sym e) ∙ own c) o)
  where
    clash : (v : Bool) → v ≡ true → v ≡ false → ⊥
    clash v a b = cc

    own : (c : Powers) → inside c c ≡ true
    own [] = refl
    own (x ∷ c) = ap (λ (v : Bool). v && inside c c) (le x) ∙ own c
      where
        le : (x : ℕ) → leb x x ≡ true
        le x = at (leb x x) refl
          where
            at : (v : Bool) → leb x x ≡ v → v ≡ true
            at true t = refl
            at false t = let l = leb-false x x t in absurd (omega arith)

-- one monomial in its own box
spread-one : (z : ℕ → Powers → ℤ) (n : ℕ) (c : Powers) (m : Powers) → spread z n c (λ a. only_at c a (pos 1)) m ≡ monomial z 0 c m
spread-one z n c m =
    picked c (λ a b. pos (n ^ sum b) *ℤ monomial z 0 a m)
    ∙ ap (λ (k : ℕ). pos (n ^ k) *ℤ monomial z 0 c m) (no_sum (length c))
    ∙ ap (λ (k : ℕ). pos k *ℤ monomial z 0 c m) (pow-zero n)
    ∙ mul_comm (pos 1) (monomial z 0 c m) ∙ times_one (monomial z 0 c m)

monomial-none : (z : ℕ → Powers → ℤ) (k j : ℕ) → Same (monomial z k (replicate j 0)) one
monomial-none z k zero m e = refl
monomial-none z k (suc j) m e = one-conv (monomial z (suc k) (replicate j 0)) m e ∙ monomial-none z (suc k) j m e

monomial-unit : (z : ℕ → Powers → ℤ) (k j t : ℕ) → t < j → Same (monomial z k (set (replicate j 0) t 1)) (z (k + t))
monomial-unit z k zero t lt m e = absurd (omega arith)
monomial-unit z k (suc j) zero lt m e =
    conv-same (conv (z k) one) (z k) (monomial z (suc k) (replicate j 0)) one (λ a q. conv-one (z k) a q) (monomial-none z (suc k) j) m e
    ∙ conv-one (z k) m e
    ∙ ap (λ (i : ℕ). z i m) (let q : k ≡ k + 0 = omega arith in q)
monomial-unit z k (suc j) (suc t) lt m e =
    one-conv (monomial z (suc k) (set (replicate j 0) t 1)) m e
    ∙ monomial-unit z (suc k) j t (omega arith) m e
    ∙ ap (λ (i : ℕ). z i m) (let q : suc k + t ≡ k + suc t = omega arith in q)

-- ---- numbers and variables

pub stands-number : (z : ℕ → Powers → ℤ) (n : ℕ) (q : Rational) → Stands z n (constant q) (constant q)
stands-number z n q = record {
  box = replicate 32 0;
  den = q.den;
  f = λ a. q.num *ℤ only_at (replicate 32 0) a (pos 1);
  size = refl;
  positive = q.positive;
  within = record { outside = λ a o. right_none q.num (only_at (replicate 32 0) a (pos 1)) (same-inside (replicate 32 0) a o) };
  own = λ m. subst (λ (v : ℤ). IsTimes q.den (whole v) (constant q m)) (taken-out (replicate 32 0) m q.num) (IsTimes-only_at q.den (replicate 32 0) m q.num q (IsTimes-fraction q.den q refl));
  replaced = λ m e.
      let d : q.den ≡ q.den * n ^ sum (replicate 32 0) = omega (arith, ap (λ (k : ℕ). q.den * n ^ k) (no_sum 32), ap (λ (k : ℕ). q.den * k) (pow-zero n)) in
      let v : only_at (replicate 32 0) m q.num ≡ spread z n (replicate 32 0) (λ a. q.num *ℤ only_at (replicate 32 0) a (pos 1)) m =
      taken-out (replicate 32 0) m q.num ∙ ap (λ (w : ℤ). q.num *ℤ w) (sym (spread-one z n (replicate 32 0) m ∙ monomial-none z 0 32 m e)) ∙ sym (spread-times z n (replicate 32 0) q.num (λ a. only_at (replicate 32 0) a (pos 1)) m) in
      subst (λ (k : ℕ). IsTimes k (whole (spread z n (replicate 32 0) (λ a. q.num *ℤ only_at (replicate 32 0) a (pos 1)) m)) (constant q m)) d
      (subst (λ (w : ℤ). IsTimes q.den (whole w) (constant q m)) v (IsTimes-only_at q.den (replicate 32 0) m q.num q (IsTimes-fraction q.den q refl)));
}

unit_sum : (j t : ℕ) → t < j → sum (set (replicate j 0) t 1) ≡ 1
unit_sum zero t lt = absurd (omega arith)
unit_sum (suc j) zero lt = let more = no_sum j in omega (arith, sum-cons 1 (replicate j 0))
unit_sum (suc j) (suc t) lt = let more = unit_sum j t (omega arith) in omega (arith, sum-cons 0 (set (replicate j 0) t 1))

power_of_one : (n : ℕ) → n ^ 1 ≡ n
power_of_one n = omega (arith, pow-suc n 0, pow-zero n, ap (λ (k : ℕ). k * n) (pow-zero n))

pub stands-variable : (z : ℕ → Powers → ℤ) (n : ℕ) (p : Places) (v : Var) (h : Coefficients) → place p v < 32 → ((m : Powers) → length m ≡ 32 → IsTimes n (whole (z (place p v) m)) (h m)) → Stands z n (variables p v) h
stands-variable z n p v h lt x = record {
  box = unit (place p v);
  den = 1;
  f = λ a. only_at (unit (place p v)) a (pos 1);
  size = length-set (replicate 32 0) (place p v) 1;
  positive = omega arith;
  within = record { outside = λ a o. same-inside (unit (place p v)) a o };
  own = λ m. IsTimes-only_at 1 (unit (place p v)) m (pos 1) (whole (pos 1)) (IsTimes-fraction 1 (whole (pos 1)) refl);
  replaced = λ m e.
      let d : n ≡ 1 * n ^ sum (unit (place p v)) = omega (arith, ap (λ (k : ℕ). n ^ k) (unit_sum 32 (place p v) lt), power_of_one n) in
      subst (λ (k : ℕ). IsTimes k (whole (spread z n (unit (place p v)) (λ a. only_at (unit (place p v)) a (pos 1)) m)) (h m)) d
      (subst (λ (w : ℤ). IsTimes n (whole w) (h m)) (sym (spread-one z n (unit (place p v)) m ∙ monomial-unit z 0 32 (place p v) lt m e ∙ ap (λ (i : ℕ). z i m) (let q : 0 + place p v ≡ place p v = omega arith in q))) (x m e));
}

-- ---- expressions

pub stands-power : (z : ℕ → Powers → ℤ) (n : ℕ) (g h : Coefficients) (k : ℕ) → Stands z n g h → Stands z n (to_power g k) (to_power h k)
stands-power z n g h zero x = stands-number z n (whole (pos 1))
stands-power z n g h (suc k) x = stands-product z n g h (to_power g k) (to_power h k) x (stands-power z n g h k x)

-- where env has n-th parts of z at the places, the expression over env is its polynomial with the places replaced
pub stands-expression : (z : ℕ → Powers → ℤ) (n : ℕ) (p : Places) (env : Var → Coefficients) → 0 < n → place_count p ≤ 32 → ((v : Var) → IsTrue (has_variable p v) → place p v < 32) → ((v : Var) → IsTrue (has_variable p v) → (m : Powers) → length m ≡ 32 → IsTimes n (whole (z (place p v) m)) (env v m)) → (e : Expr) → IsTrue (all_variables (has_variable p) e) → Stands z n (coefficients (variables p) e) (coefficients env e)
stands-expression z n p env np few low x (Num r) a = stands-number z n (rational r)
stands-expression z n p env np few low x (Variable v) a = stands-variable z n p v (env v) (low v a) (x v a)
stands-expression z n p env np few low x (Add' b e c f) a =
    let s = both (all_variables (has_variable p) e) (all_variables (has_variable p) f) a in
    stands-sum z n (coefficients (variables p) e) (coefficients env e) (coefficients (variables p) f) (coefficients env f) np (stands-expression z n p env np few low x e s.0) (stands-expression z n p env np few low x f s.1)
stands-expression z n p env np few low x (Sub' b e c f) a =
    let s = both (all_variables (has_variable p) e) (all_variables (has_variable p) f) a in
    stands-difference z n (coefficients (variables p) e) (coefficients env e) (coefficients (variables p) f) (coefficients env f) np (stands-expression z n p env np few low x e s.0) (stands-expression z n p env np few low x f s.1)
stands-expression z n p env np few low x (Mul' b e c f) a =
    let s = both (all_variables (has_variable p) e) (all_variables (has_variable p) f) a in
    stands-product z n (coefficients (variables p) e) (coefficients env e) (coefficients (variables p) f) (coefficients env f) (stands-expression z n p env np few low x e s.0) (stands-expression z n p env np few low x f s.1)
stands-expression z n p env np few low x (Pow' b e k) a = stands-power z n (coefficients (variables p) e) (coefficients env e) k (stands-expression z n p env np few low x e a)
