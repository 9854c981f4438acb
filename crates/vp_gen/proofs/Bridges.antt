-- Intervals as the code computes them are those of the rules.
use Rattle.std.proofs.Common.{◌≡◌, ◌≢◌, ℕ, zero, suc, ◌-◌, ◌%◌, ◌≤◌, nat_eq, List, [], ◌∷◌, Bool, true, false, Option, None, Some, refl, ap, ◌∙◌, arith}
use Rattle.std.specs.Prelude.{ℤ, map, fold, if◌then◌else◌}
use Rattle.std.specs.List.{reduce}
use Rattle.std.proofs.lemmas.Bool.Decides.{nat_tests}
use Rattle.vp_words.specs.Number.{lower_product, upper_product}
use Rattle.vp_poly.specs.declared.mono.Term.{Term}
use Rattle.vp_layout.proofs.Kept.{both, boxed}
use Rattle.vp_interval.specs.Rounding.{Ends, point, sum, product, multiplied, least_size, greatest_size, even_power, power}
use Rattle.vp_interval.specs.Polynomial.{powers_of, joined, of_term, interval_of}
use Rattle.vp_gen.proofs.Values.{times_over, even_power as even_times, power as power_times, times_factors, front, times_point, of_term as term_value, add_terms, of_poly}

times_is : (f : ℤ → ℤ → ℤ) (a : ℤ) (n : ℕ) → times_over f a n ≡ multiplied f a (suc n)
times_is f a zero = refl
times_is f a (suc n) = ap (λ x. f x a) (times_is f a n)

even_is : (v : Ends) (k n : ℕ) → k - 1 ≡ suc n → even_times v n ≡ even_power v k
even_is v k n e = rw e (both boxed (times_is lower_product (least_size v) n) (times_is upper_product (greatest_size v) n))

pub power_is : (v : Ends) (k : ℕ) → k ≢ 0 → power_times v k ≡ power v k
power_is v k some = by_one (nat_eq k 1) refl
  where
    odd : (nat_eq (k % 2) 0 ≡ false) → k ≢ 1 → 3 ≤ k
    odd e ne = let o : k % 2 ≢ 0 = grind (arith, nat_tests) in omega (arith, o, ne, some)

    by_even : (b : Bool) → nat_eq (k % 2) 0 ≡ b → k ≢ 1
        → (if b then even_times v (k - 2) else product v (even_times v (k - 3))) ≡ (if b then even_power v k else product v (even_power v (k - 1)))
    by_even true e ne = even_is v k (k - 2) (omega (arith, ne, some))
    by_even false e ne =
        let le : 3 ≤ k = odd e ne in
        ap (product v) (even_is v (k - 1) (k - 3) (omega (arith, le)))

    by_one : (b : Bool) → nat_eq k 1 ≡ b
        → (if b then v else (if nat_eq (k % 2) 0 then even_times v (k - 2) else product v (even_times v (k - 3))))
        ≡ (if b then v else (if nat_eq (k % 2) 0 then even_power v k else product v (even_power v (k - 1))))
    by_one true e = refl
    by_one false e = by_even (nat_eq (k % 2) 0) refl (grind (arith, nat_tests))

chosen : {A : Type 0} (t : Bool) (x y : A) → t ≡ false → (if t then x else y) ≡ y
chosen true x y e = absurd cc
chosen false x y e = refl

no_zero : (n : ℕ) → nat_eq (suc n) 0 ≡ false
no_zero n = grind (arith, nat_tests)

factors_are : (v : Ends) (ks : List ℕ) (boxes : List Ends) → times_factors v ks boxes ≡ fold product v (powers_of ks boxes)
factors_are v [] boxes = refl
factors_are v (k ∷ ks) [] = refl
factors_are v (zero ∷ ks) (b ∷ bs) = factors_are v ks bs
factors_are v (suc n ∷ ks) (b ∷ bs) =
    let w = product v (power_times b (suc n)) in
    let here : w ≡ product v (power b (suc n)) = ap (product v) (power_is b (suc n) (λ e. absurd cc)) in
    ap (λ x. times_factors x ks bs) (chosen (nat_eq (suc n) 0) v w (no_zero n)) ∙ factors_are w ks bs ∙ ap (λ x. fold product x (powers_of ks bs)) here

front_is : (ks : List ℕ) (boxes : List Ends) → front ks boxes ≡ reduce product (powers_of ks boxes)
front_is [] boxes = refl
front_is (k ∷ ks) [] = refl
front_is (zero ∷ ks) (b ∷ bs) = front_is ks bs
front_is (suc n ∷ ks) (b ∷ bs) =
    let w = power_times b (suc n) in
    let here : w ≡ power b (suc n) = power_is b (suc n) (λ e. absurd cc) in
    chosen (nat_eq (suc n) 0) (front ks bs) (Some (times_factors w ks bs)) (no_zero n)
    ∙ ap Some (factors_are w ks bs ∙ ap (λ x. fold product x (powers_of ks bs)) here)

point_is : (o : Option Ends) (w : Ends) → times_point o w ≡ joined product o w
point_is None w = refl
point_is (Some v) w = refl

term_is : (t : Term) (boxes : List Ends) → term_value t boxes ≡ of_term boxes t
term_is t boxes = point_is (front t.mono.powers boxes) (point t.coef) ∙ ap (λ o. joined product o (point t.coef)) (front_is t.mono.powers boxes)

terms_are : (v : Ends) (ts : List Term) (boxes : List Ends) → add_terms v ts boxes ≡ fold sum v (map (of_term boxes) ts)
terms_are v [] boxes = refl
terms_are v (t ∷ ts) boxes = terms_are (sum v (term_value t boxes)) ts boxes ∙ ap (λ w. fold sum (sum v w) (map (of_term boxes) ts)) (term_is t boxes)

-- the interval of a polynomial
pub poly_is : (ts : List Term) (boxes : List Ends) → of_poly ts boxes ≡ interval_of boxes ts
poly_is [] boxes = refl
poly_is (t ∷ ts) boxes = terms_are (term_value t boxes) ts boxes ∙ ap (λ w. fold sum w (map (of_term boxes) ts)) (term_is t boxes)
