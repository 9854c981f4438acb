-- Which control values a program leads to.
use Rattle.std.specs.Prelude.{ℕ, ◌<◌, ◌≤◌, ◌≢◌, ◌⊎◌, IsTrue, pos}
use Rattle.vp_terms.specs.Rational.{Rational, whole, Equals}
use Rattle.vp_terms.specs.Meaning.{Assignment, value, holds}
use Rattle.vp_terms.specs.declared.expr.Var.TheVariants.{Param, State, Control, NextState, NextControl, Tau}
use Rattle.vp_terms.specs.declared.prog.Prog.{Prog}
use Rattle.vp_terms.specs.declared.prog.Prog.TheVariants.{Skip, Assign, Any, Test, Choice', Seq', If'}

-- a rational for each number of a variable of one kind
abbrev pub Values : Type 0
Values = ℕ → Rational

-- the assignment of parameters p, states x and controls u; other variables are 0
abbrev pub assigned : Values → Values → Values → Assignment
assigned p x u (Param i) = p i
assigned p x u (State i) = x i
assigned p x u (Control i) = u i
assigned p x u (NextState i) = whole (pos 0)
assigned p x u (NextControl i) = whole (pos 0)
assigned p x u Tau = whole (pos 0)

-- and all values over a round: the next controls v, the time t and the next states y too
abbrev pub changing : Values → Values → Values → Values → Rational → Values → Assignment
changing p x u v t y (Param i) = p i
changing p x u v t y (State i) = x i
changing p x u v t y (Control i) = u i
changing p x u v t y (NextState i) = y i
changing p x u v t y (NextControl i) = v i
changing p x u v t y Tau = t

-- the same values
pub record Same (u v : Values) : Type 0 where
  pub each : (k : ℕ) → Equals (u k) (v k)

-- the same values, but for that of c
pub record SameBut (c : ℕ) (u v : Values) : Type 0 where
  pub others : (k : ℕ) → k ≢ c → Equals (u k) (v k)

-- the same values for the numbers below n
abbrev pub AgreeBelow : ℕ → Values → Values → Type 0
AgreeBelow n u v = (k : ℕ) → k < n → Equals (u k) (v k)

-- and for those from n on
abbrev pub AgreeFrom : ℕ → Values → Values → Type 0
AgreeFrom n u v = (k : ℕ) → n ≤ k → Equals (u k) (v k)

-- v is u with the value q for c
pub record Sets (c : ℕ) (q : Rational) (u v : Values) : Type 0 where
  pub others : SameBut c u v
  pub set : Equals (v c) q

-- with parameters p and states x, the program leads from controls u to controls v
abbrev pub Ctrl : Prog → Values → Values → Values → Values → Type 0
Ctrl Skip p x u v = Same u v
Ctrl (Assign c e) p x u v = Sets c (value e (assigned p x u)) u v
Ctrl (Any c) p x u v = SameBut c u v
Ctrl (Test f) p x u v = Same u v × IsTrue (holds f (assigned p x u))
Ctrl (Choice' l a r b) p x u v = Ctrl a p x u v ⊎ Ctrl b p x u v
Ctrl (Seq' l a r b) p x u v = (w : Values) × Ctrl a p x u w × Ctrl b p x w v
Ctrl (If' f l a r b) p x u v =
    (IsTrue (holds f (assigned p x u)) × Ctrl a p x u v) ⊎ ((¬ IsTrue (holds f (assigned p x u))) × Ctrl b p x u v)
