-- What one term of a polynomial keeps.
use Rattle.std.proofs.Common.{◌≡◌, ◌≢◌, ℕ, zero, suc, ◌<◌, ◌≤◌, Bool, List, [], ◌∷◌, length, sum, get_or, take, max, ◌+◌, arith, pos, unsigned_abs, subst, sym}
use Rattle.std.proofs.lemmas.Int.{ints}
use Rattle.vp_poly.specs.declared.mono.Term.{Term}
use Rattle.vp_poly.specs.Poly.{coef, norm, degree, only_at, IsBefore, IsOrdered, IsPoly}
use Rattle.vp_poly.specs.Places.{IsBelow, AreBelow, HasOnly, HaveOnly}
use Rattle.vp_poly.proofs.PolyLaws.{coef-le-norm}
use Rattle.vp_poly.proofs.RowLaws.{degree-le}
use Rattle.vp_poly.proofs.Unique.{apart, coef-first, only_at-other}

nonzero_at : (ts : List Term) (i : ℕ) (d : Term) → i < length ts → IsOrdered ts → (get_or ts i d).coef ≢ pos 0
nonzero_at [] i d h o = absurd (omega arith)
nonzero_at (t ∷ ts) zero d h o = o.0.not_zero
nonzero_at (t ∷ ts) (suc i) d h o = nonzero_at ts i d (omega arith) o.1

pub term-nonzero : (ts : List Term) (i : ℕ) (t : Term) → i < length ts → t ≡ get_or ts i t → IsPoly ts → t.coef ≢ pos 0
term-nonzero ts i t h e p = subst (λ (u : Term). u.coef ≢ pos 0) (sym e) (nonzero_at ts i t h p.ordered)

pub term-small : (ts : List Term) (i : ℕ) (t : Term) → i < length ts → t ≡ get_or ts i t → unsigned_abs t.coef ≤ norm ts
term-small ts i t h e = subst (λ (u : Term). unsigned_abs u.coef ≤ norm ts) (sym e) (coef-le-norm ts i t h)

pub term-low : (ts : List Term) (i : ℕ) (t : Term) → i < length ts → t ≡ get_or ts i t → sum t.mono.powers ≤ degree ts
term-low ts i t h e = subst (λ (u : Term). sum u.mono.powers ≤ degree ts) (sym e) (degree-le ts i t h)

pub term-below : (ts : List Term) (i : ℕ) (t : Term) (v : ℕ) → i < length ts → t ≡ get_or ts i t → AreBelow v ts → IsBelow v t.mono.powers
term-below ts i t v h e b = subst (λ (u : Term). IsBelow v u.mono.powers) (sym e) (b i t h)

pub term-only : (ts : List Term) (i : ℕ) (t : Term) (f : ℕ → Bool) → i < length ts → t ≡ get_or ts i t → HaveOnly f ts → HasOnly f t.mono.powers
term-only ts i t f h e b = subst (λ (u : Term). HasOnly f u.mono.powers) (sym e) (b i t h)

-- a term that stands behind another has other exponents
stands_behind : (t : Term) (us : List Term) (i : ℕ) (d : Term) → i < length us → IsBefore t us → only_at t.mono.powers (get_or us i d).mono.powers t.coef ≡ pos 0
stands_behind t [] i d h b = absurd (omega arith)
stands_behind t (u ∷ us) zero d h b = only_at-other t.mono.powers u.mono.powers t.coef (λ e. apart t.mono u.mono b.0 (sym e))
stands_behind t (u ∷ us) (suc i) d h b = stands_behind t us i d (omega arith) b.1

coef_at : (ts : List Term) (i : ℕ) (d : Term) → i < length ts → IsOrdered ts → coef ts (get_or ts i d).mono.powers ≡ (get_or ts i d).coef
coef_at [] i d h o = absurd (omega arith)
coef_at (t ∷ ts) zero d h o = coef-first t ts o.0.before
coef_at (t ∷ ts) (suc i) d h o =
    let first = stands_behind t ts i d (omega arith) o.0.before in
    let rest = coef_at ts i d (omega arith) o.1 in
    omega (arith, ints)

pub term-coefficient : (ts : List Term) (i : ℕ) (t : Term) → i < length ts → t ≡ get_or ts i t → IsPoly ts → coef ts t.mono.powers ≡ t.coef
term-coefficient ts i t h e p = subst (λ (u : Term). coef ts u.mono.powers ≡ u.coef) (sym e) (coef_at ts i t h p.ordered)

pub ruleset terms = (term-nonzero, term-small, term-low, term-below, term-only, term-coefficient)

-- ---- the greatest degree, term by term

pub degree-next : (ts : List Term) (i : ℕ) (d : Term) → i < length ts → degree (take (i + 1) ts) ≡ max (degree (take i ts)) (sum (get_or ts i d).mono.powers)
degree-next [] i d h = absurd (omega arith)
degree-next (t ∷ ts) zero d h = omega arith
degree-next (t ∷ ts) (suc i) d h =
    let e : suc i + 1 ≡ suc (i + 1) = omega arith in
    rw e (omega (arith, degree-next ts i d (omega arith)))

-- the same as the loop has it
pub degree-more : (ts : List Term) (i : ℕ) (d : Term) (n k m : ℕ) → i < length ts → n ≡ degree (take i ts) → k ≡ sum (get_or ts i d).mono.powers → m ≡ max n k → m ≡ degree (take (i + 1) ts)
degree-more ts i d n k m h e f g = omega (arith, degree-next ts i d h)
