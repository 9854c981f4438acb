-- Which places a polynomial has, told by its coefficients.
use Rattle.std.proofs.Common.{◌≡◌, ◌≢◌, ℕ, zero, suc, ◌<◌, ◌==◌, Bool, true, false, List, [], ◌∷◌, length, get_or, refl, sym, ◌∙◌, arith, pos}
use Rattle.std.specs.Prelude.{slice_index}
use Rattle.std.proofs.lemmas.Bool.{eqb-true, eqb-false}
use Rattle.vp_poly.specs.declared.mono.Term.{Term}
use Rattle.vp_poly.specs.Poly.{Powers, IsOrdered, IsPoly, coef}
use Rattle.vp_poly.specs.Places.{HasOnly, HaveOnly}
use Rattle.vp_poly.proofs.Terms.{term-coefficient, term-nonzero}

size-at : (ts : List Term) (n : ℕ) (d : Term) → n < length ts → IsOrdered ts → length (get_or ts n d).mono.powers ≡ 32
size-at [] n d lt o = absurd (omega arith)
size-at (t ∷ ts) zero d lt o = o.0.places
size-at (t ∷ ts) (suc n) d lt o = size-at ts n d (omega arith) o.1

same-default : (ts : List Term) (n : ℕ) (d e : Term) → n < length ts → get_or ts n d ≡ get_or ts n e
same-default [] n d e lt = absurd (omega arith)
same-default (t ∷ ts) zero d e lt = refl
same-default (t ∷ ts) (suc n) d e lt = same-default ts n d e (omega arith)

-- a term with an exponent at such a place would have the coefficient 0
pub HaveOnly-told : (allowed : ℕ → Bool) (ts : List Term) → IsPoly ts → ((m : Powers) (k : ℕ) → length m ≡ 32 → allowed k ≡ false → slice_index m k ≢ 0 → coef ts m ≡ pos 0) → HaveOnly allowed ts
HaveOnly-told allowed ts p zero_at = λ n d lt. record { others = λ k off. at n d lt k off (slice_index (get_or ts n d).mono.powers k == 0) refl }
  where
    at : (n : ℕ) (d : Term) → n < length ts → (k : ℕ) → allowed k ≡ false → (v : Bool) → (slice_index (get_or ts n d).mono.powers k == 0) ≡ v → slice_index (get_or ts n d).mono.powers k ≡ 0
    at n d lt k off true e = eqb-true (slice_index (get_or ts n d).mono.powers k) 0 e
    at n d lt k off false e =
        let t = get_or ts n d in
        let ne = eqb-false (slice_index t.mono.powers k) 0 e in
        let here = same-default ts n d t lt in
        absurd (term-nonzero ts n t lt here p (sym (term-coefficient ts n t lt here p) ∙ zero_at t.mono.powers k (size-at ts n d lt p.ordered) off ne))
