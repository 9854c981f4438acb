-- The flow of a model as a Lie series, over coefficients.
use Rattle.std.specs.Prelude.{ℕ, zero, suc, ◌*◌, ◌<◌, ◌==◌, cond, sum as sum_of, take, drop, slice_set, slice_index, replicate, pos}
use Rattle.std.proofs.Math.Nat.{mul-pos, zero-lt-suc}
use Rattle.vp_terms.specs.Rational.{Rational, whole, sum, product}
use Rattle.vp_terms.specs.Places.{place}
use Rattle.vp_terms.specs.declared.expr.Places.{Places}
use Rattle.vp_terms.specs.declared.expr.Var.TheVariants.{State, Tau}
use Rattle.vp_poly.specs.Poly.{Powers}
use Rattle.vp_poly.specs.Product.{sum_to}
use Rattle.vp_poly.specs.Coefficient.{Coefficients, fraction_at, times}
use Rattle.vp_poly.specs.Canonical.{variables}

-- the degree of a monomial in the states
abbrev pub state_degree : Places → Powers → ℕ
state_degree p m = sum_of (take p.states (drop p.params m))

-- the place of `tau`
abbrev pub tau_place : Places → ℕ
tau_place p = place p Tau

-- what the state j is multiplied by in a polynomial that is linear in the states
abbrev pub factor : Places → ℕ → Coefficients → Coefficients
factor p j f m = cond (state_degree p m == 0) (f (slice_set m (place p (State j)) 1)) (whole (pos 0))

-- the terms that have no state
abbrev pub stateless : Places → Coefficients → Coefficients
stateless p f m = cond (state_degree p m == 0) (f m) (whole (pos 0))

-- q 0, q 1 and so on to q (n - 1), added
abbrev pub sum_below : ℕ → (ℕ → Rational) → Rational
sum_below zero q = whole (pos 0)
sum_below (suc n) q = sum (sum_below n q) (q n)

-- a polynomial that is linear in the states, with each state j substituted by g j, and without the terms that had no state
abbrev pub with_states : Places → (ℕ → Coefficients) → Coefficients → Coefficients
with_states p g f m = sum_below p.states (λ j. times (factor p j f) (g j) m)

-- the Lie series of the state i, where `rates` are the right sides
abbrev pub lie : Places → (ℕ → Coefficients) → ℕ → ℕ → Coefficients
lie p rates i zero = variables p (State i)
lie p rates i (suc k) = with_states p rates (lie p rates i k)

abbrev pub factorial : ℕ → ℕ
factorial zero = 1
factorial (suc n) = suc n * factorial n

pub factorial_positive : (n : ℕ) → 0 < factorial n
factorial_positive zero = zero-lt-suc zero
factorial_positive (suc n) = mul-pos (zero-lt-suc n) (factorial_positive n)

-- the exponents of a power of `tau`
abbrev pub tau_powers : Places → ℕ → Powers
tau_powers p k = slice_set (replicate 32 0) (tau_place p) k

-- tau^k / k!
abbrev pub tau_power : Places → ℕ → Coefficients
tau_power p k m = fraction_at (tau_powers p k) m (record { num = pos 1; den = factorial k; positive = factorial_positive k })

-- the sum of lie(i, k) * tau^k / k! for k from 0 to h
abbrev pub flow_of : Places → (ℕ → Coefficients) → ℕ → ℕ → Coefficients
flow_of p rates i h m = sum_to sum h (λ k. times (lie p rates i k) (tau_power p k) m)

-- the derivative by `tau`
abbrev pub by_tau : Places → Coefficients → Coefficients
by_tau p f m = product (whole (pos (suc (slice_index m (tau_place p))))) (f (slice_set m (tau_place p) (suc (slice_index m (tau_place p)))))

-- the value at `tau` = 0
abbrev pub at_start : Places → Coefficients → Coefficients
at_start p f m = cond (slice_index m (tau_place p) == 0) (f m) (whole (pos 0))

-- a polynomial that is linear in the states, with each state j substituted by g j
abbrev pub substituted : Places → (ℕ → Coefficients) → Coefficients → Coefficients
substituted p g f m = sum (stateless p f m) (with_states p g f m)
