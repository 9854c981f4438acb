-- Lists of terms.
use Rattle.std.specs.Prelude.{◌≡◌, ◌≢◌, ℕ, ◌<◌, ◌≤◌, ◌^◌, List, [], ◌∷◌, length, map, sum, sum_by, ℤ, pos, ◌+ℤ◌, ◌*ℤ◌, unsigned_abs, cond, ◌==◌, max, if◌then◌else◌}
use Rattle.std.specs.Cmp.Lexicographic.{slice_cmp}
use Rattle.std.specs.declared.cmp.Ordering.{Ordering}
use Rattle.std.specs.declared.cmp.Ordering.TheVariants.{Less}
use Rattle.std.specs.Ordering.{int_eq, nat_cmp, on, flip_args, then_cmp}
use Rattle.vp_poly.specs.declared.mono.Mono.{Mono}
use Rattle.vp_poly.specs.declared.mono.Term.{Term}

-- the order of monomials: by the greater degree, and then by the greater power at the first place that differs
abbrev pub mono_cmp : Mono → Mono → Ordering
mono_cmp = then_cmp (flip_args (on (λ m. sum m.powers) nat_cmp)) (flip_args (on (λ m. m.powers) (slice_cmp nat_cmp)))

-- the exponent of each place
abbrev pub Powers : Type 0
Powers = List ℕ

-- c where the exponents are the same, and else 0
abbrev pub only_at : Powers → Powers → ℤ → ℤ
only_at [] [] c = c
only_at [] (y ∷ ys) c = pos 0
only_at (x ∷ xs) [] c = pos 0
only_at (x ∷ xs) (y ∷ ys) c = cond (x == y) (only_at xs ys c) (pos 0)

-- the coefficient of a monomial
abbrev pub coef : List Term → Powers → ℤ
coef [] m = pos 0
coef (t ∷ ts) m = only_at t.mono.powers m t.coef +ℤ coef ts m

-- the greatest degree of a term
abbrev pub degree : List Term → ℕ
degree [] = 0
degree (t ∷ ts) = max (sum t.mono.powers) (degree ts)

-- the sum of the coefficients' sizes
abbrev pub norm : List Term → ℕ
norm ts = sum_by (λ t. unsigned_abs t.coef) ts

-- t stands before each of these
abbrev pub IsBefore : Term → List Term → Type 0
IsBefore t [] = Unit {0}
IsBefore t (u ∷ us) = (mono_cmp t.mono u.mono ≡ Less) × IsBefore t us

-- a term that may stand at the head of these
pub record IsHead (t : Term) (ts : List Term) : Type 0 where
  pub not_zero : t.coef ≢ pos 0
  pub low : sum t.mono.powers ≤ 48
  pub places : length t.mono.powers ≡ 32
  pub before : IsBefore t ts

-- in order, with no zero
abbrev pub IsOrdered : List Term → Type 0
IsOrdered [] = Unit {0}
IsOrdered (t ∷ ts) = IsHead t ts × IsOrdered ts

-- the terms of a polynomial
pub record IsPoly (ts : List Term) : Type 0 where
  pub ordered : IsOrdered ts
  pub small : norm ts < 2 ^ 126
  pub few : length ts < 2 ^ 32

-- a term's coefficient times k
abbrev pub term_times : ℤ → Term → Term
term_times k t = record { mono = t.mono; coef = k *ℤ t.coef }

-- each coefficient times k
abbrev pub scaled : ℤ → List Term → List Term
scaled k ts = map (term_times k) ts

-- a norm of at most n, a degree of at most g and at most t terms
pub record IsWithin (ts : List Term) (n g t : ℕ) : Type 0 where
  pub norm_le : norm ts ≤ n
  pub degree_le : degree ts ≤ g
  pub length_le : length ts ≤ t

-- the term, unless it is zero
abbrev pub unless_zero : Term → List Term
unless_zero t = if int_eq t.coef (pos 0) then [] else t ∷ []
