-- The coefficients of an expression as a polynomial in the places.
use Rattle.std.specs.Prelude.{ℕ, zero, suc, [], ◌∷◌, replicate, cond, ◌==◌, pos}
use Rattle.vp_terms.specs.Rational.{Rational, whole, sum, difference, product}
use Rattle.vp_terms.specs.Meaning.{rational}
use Rattle.vp_terms.specs.declared.expr.Var.{Var}
use Rattle.vp_terms.specs.declared.expr.Expr.{Expr}
use Rattle.vp_terms.specs.declared.expr.Expr.TheVariants.{Num, Var as Variable, Add', Sub', Mul', Pow'}
use Rattle.vp_poly.specs.Poly.{Powers}
use Rattle.vp_poly.specs.Product.{over_splits}

-- a coefficient for each monomial
abbrev pub Coefficients : Type 0
Coefficients = Powers → Rational

-- q where the exponents are the same, and else 0
abbrev pub fraction_at : Powers → Powers → Rational → Rational
fraction_at [] [] q = q
fraction_at [] (y ∷ ys) q = whole (pos 0)
fraction_at (x ∷ xs) [] q = whole (pos 0)
fraction_at (x ∷ xs) (y ∷ ys) q = cond (x == y) (fraction_at xs ys q) (whole (pos 0))

-- the constant q
abbrev pub constant : Rational → Coefficients
constant q m = fraction_at (replicate 32 0) m q

-- the sum over all splits of a monomial into two
abbrev pub times : Coefficients → Coefficients → Coefficients
times f g m = over_splits sum m (λ a b. product (f a) (g b))

abbrev pub to_power : Coefficients → ℕ → Coefficients
to_power f zero = constant (whole (pos 1))
to_power f (suc n) = times f (to_power f n)

-- with `env` the coefficients of what stands for each variable
abbrev pub coefficients : (Var → Coefficients) → Expr → Coefficients
coefficients env (Num r) = constant (rational r)
coefficients env (Variable v) = env v
coefficients env (Add' p e q f) = λ m. sum (coefficients env e m) (coefficients env f m)
coefficients env (Sub' p e q f) = λ m. difference (coefficients env e m) (coefficients env f m)
coefficients env (Mul' p e q f) = times (coefficients env e) (coefficients env f)
coefficients env (Pow' p e n) = to_power (coefficients env e) n
