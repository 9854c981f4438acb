-- Expressions and formulas have the same values under assignments that agree on their variables.
use Rattle.std.proofs.Common.{◌≡◌, Bool, true, false, ◌&&◌, ◌||◌, IsTrue, refl}
use Rattle.std.specs.Prelude.{⊤}
use Rattle.vp_terms.specs.Rational.{sum, difference, product, Equals}
use Rattle.vp_terms.specs.Meaning.{Assignment, value, holds}
use Rattle.vp_terms.specs.Evaluation.{PartsAreSmall, FormulaIsSmall}
use Rattle.vp_terms.specs.Variables.{all_variables, all_variables_of}
use Rattle.vp_terms.specs.WellFormed.{is_allowed, is_good_expr, is_good_formula}
use Rattle.vp_terms.specs.declared.expr.Places.{Places}
use Rattle.vp_terms.specs.declared.well_formed.Kinds.{Kinds}
use Rattle.vp_terms.specs.declared.expr.Var.{Var}
use Rattle.vp_terms.specs.declared.expr.Expr.{Expr}
use Rattle.vp_terms.specs.declared.expr.Expr.TheVariants.{Num, Var as Variable, Add', Sub', Mul', Pow'}
use Rattle.vp_terms.specs.declared.formula.Formula.{Formula}
use Rattle.vp_terms.specs.declared.formula.Formula.TheVariants.{True, Cmp as Compare, And', Or', Not'}
use Rattle.vp_terms.proofs.RationalLaws.{Equals-refl, Equals-sum, Equals-difference, Equals-product, Equals-power}
use Rattle.vp_terms.proofs.Orders.{same_comparison}
use Rattle.vp_terms.proofs.Evaluating.{small_over, powers_over}

pub both : (a b : Bool) → IsTrue (a && b) → IsTrue a × IsTrue b
both true b h = (refl, h)
both false b h = absurd (cc)

pub both_true : (a b : Bool) → IsTrue a → IsTrue b → IsTrue (a && b)
both_true true b h k = k
both_true false b h k = absurd (cc)

pub or_left : (a b : Bool) → IsTrue a → IsTrue (a || b)
or_left true b h = refl
or_left false b h = absurd (cc)

pub or_right : (a b : Bool) → IsTrue b → IsTrue (a || b)
or_right true b h = refl
or_right false b h = h

-- this holds of each variable of the expression
abbrev pub Each : (Var → Type 0) → Expr → Type 0
Each r (Num n) = ⊤
Each r (Variable v) = r v
Each r (Add' l e k f) = Each r e × Each r f
Each r (Sub' l e k f) = Each r e × Each r f
Each r (Mul' l e k f) = Each r e × Each r f
Each r (Pow' l e n) = Each r e

abbrev pub EachOf : (Var → Type 0) → Formula → Type 0
EachOf r True = ⊤
EachOf r (Compare c e f) = Each r e × Each r f
EachOf r (And' l f k g) = EachOf r f × EachOf r g
EachOf r (Or' l f k g) = EachOf r f × EachOf r g
EachOf r (Not' l f) = EachOf r f

-- the variables that pass a test
pub each_of : (t : Var → Bool) (r : Var → Type 0) (e : Expr) → ((v : Var) → IsTrue (t v) → r v) → IsTrue (all_variables t e) → Each r e
each_of t r (Num n) h g = tt
each_of t r (Variable v) h g = h v g
each_of t r (Add' l e k f) h g = let s = both _ _ g in (each_of t r e h s.0, each_of t r f h s.1)
each_of t r (Sub' l e k f) h g = let s = both _ _ g in (each_of t r e h s.0, each_of t r f h s.1)
each_of t r (Mul' l e k f) h g = let s = both _ _ g in (each_of t r e h s.0, each_of t r f h s.1)
each_of t r (Pow' l e n) h g = each_of t r e h g

pub each_of_formula : (t : Var → Bool) (r : Var → Type 0) (f : Formula) → ((v : Var) → IsTrue (t v) → r v) → IsTrue (all_variables_of t f) → EachOf r f
each_of_formula t r True h g = tt
each_of_formula t r (Compare c e f) h g = let s = both _ _ g in (each_of t r e h s.0, each_of t r f h s.1)
each_of_formula t r (And' l e k f) h g = let s = both _ _ g in (each_of_formula t r e h s.0, each_of_formula t r f h s.1)
each_of_formula t r (Or' l e k f) h g = let s = both _ _ g in (each_of_formula t r e h s.0, each_of_formula t r f h s.1)
each_of_formula t r (Not' l f) h g = each_of_formula t r f h g

-- all variables
pub each_all : (r : Var → Type 0) (e : Expr) → ((v : Var) → r v) → Each r e
each_all r (Num n) h = tt
each_all r (Variable v) h = h v
each_all r (Add' l e k f) h = (each_all r e h, each_all r f h)
each_all r (Sub' l e k f) h = (each_all r e h, each_all r f h)
each_all r (Mul' l e k f) h = (each_all r e h, each_all r f h)
each_all r (Pow' l e n) h = each_all r e h

pub each_all_of : (r : Var → Type 0) (f : Formula) → ((v : Var) → r v) → EachOf r f
each_all_of r True h = tt
each_all_of r (Compare c e f) h = (each_all r e h, each_all r f h)
each_all_of r (And' l f k g) h = (each_all_of r f h, each_all_of r g h)
each_all_of r (Or' l f k g) h = (each_all_of r f h, each_all_of r g h)
each_all_of r (Not' l f) h = each_all_of r f h

-- what a well formed expression has for variables
pub good_variables : (k : Kinds) (p : Places) (e : Expr) → IsTrue (is_good_expr k p e) → IsTrue (all_variables (is_allowed k p) e)
good_variables k p (Num n) h = refl
good_variables k p (Variable v) h = h
good_variables k p (Add' l e r f) h = let s = both _ _ h in both_true _ _ (good_variables k p e s.0) (good_variables k p f s.1)
good_variables k p (Sub' l e r f) h = let s = both _ _ h in both_true _ _ (good_variables k p e s.0) (good_variables k p f s.1)
good_variables k p (Mul' l e r f) h = let s = both _ _ h in both_true _ _ (good_variables k p e s.0) (good_variables k p f s.1)
good_variables k p (Pow' l e n) h = good_variables k p e (both _ _ h).0

pub good_variables_of : (k : Kinds) (p : Places) (f : Formula) → IsTrue (is_good_formula k p f) → IsTrue (all_variables_of (is_allowed k p) f)
good_variables_of k p True h = refl
good_variables_of k p (Compare c e f) h = let s = both _ _ h in both_true _ _ (good_variables k p e s.0) (good_variables k p f s.1)
good_variables_of k p (And' l e r f) h = let s = both _ _ h in both_true _ _ (good_variables_of k p e s.0) (good_variables_of k p f s.1)
good_variables_of k p (Or' l e r f) h = let s = both _ _ h in both_true _ _ (good_variables_of k p e s.0) (good_variables_of k p f s.1)
good_variables_of k p (Not' l f) h = good_variables_of k p f h

-- the two assignments give the variable the same value
abbrev pub Agree : Assignment → Assignment → Var → Type 0
Agree a b v = Equals (a v) (b v)

pub value_over : (e : Expr) (a b : Assignment) → Each (Agree a b) e → Equals (value e a) (value e b)
value_over (Num n) a b h = Equals-refl (value (Num n) a)
value_over (Variable v) a b h = h
value_over (Add' l e k f) a b h = Equals-sum (value e a) (value e b) (value f a) (value f b) (value_over e a b h.0) (value_over f a b h.1)
value_over (Sub' l e k f) a b h = Equals-difference (value e a) (value e b) (value f a) (value f b) (value_over e a b h.0) (value_over f a b h.1)
value_over (Mul' l e k f) a b h = Equals-product (value e a) (value e b) (value f a) (value f b) (value_over e a b h.0) (value_over f a b h.1)
value_over (Pow' l e n) a b h = Equals-power (value e a) (value e b) n (value_over e a b h)

pub holds_over : (f : Formula) (a b : Assignment) → EachOf (Agree a b) f → holds f a ≡ holds f b
holds_over True a b h = refl
holds_over (Compare c e f) a b h = same_comparison c (value e a) (value e b) (value f a) (value f b) (value_over e a b h.0) (value_over f a b h.1)
holds_over (And' l f k g) a b h = let s = holds_over f a b h.0 in let t = holds_over g a b h.1 in cc
holds_over (Or' l f k g) a b h = let s = holds_over f a b h.0 in let t = holds_over g a b h.1 in cc
holds_over (Not' l f) a b h = let s = holds_over f a b h in cc

-- the two assignments agree, and the variable is known in the second if it is in the first
abbrev pub AgreeKnown : (Var → Type 0) → (Var → Type 0) → Assignment → Assignment → Var → Type 0
AgreeKnown k m a b v = Equals (a v) (b v) × (k v → m v)

known_agree : (k m : Var → Type 0) (a b : Assignment) (e : Expr) → Each (AgreeKnown k m a b) e → Each (Agree a b) e
known_agree k m a b (Num n) h = tt
known_agree k m a b (Variable v) h = h.0
known_agree k m a b (Add' l e r f) h = (known_agree k m a b e h.0, known_agree k m a b f h.1)
known_agree k m a b (Sub' l e r f) h = (known_agree k m a b e h.0, known_agree k m a b f h.1)
known_agree k m a b (Mul' l e r f) h = (known_agree k m a b e h.0, known_agree k m a b f h.1)
known_agree k m a b (Pow' l e n) h = known_agree k m a b e h

pub parts_over : (k m : Var → Type 0) (a b : Assignment) (e : Expr) → Each (AgreeKnown k m a b) e → PartsAreSmall k a e → PartsAreSmall m b e
parts_over k m a b (Num n) h s = tt
parts_over k m a b (Variable v) h s = h.1 s
parts_over k m a b (Add' l e r f) h s = (
  parts_over k m a b e h.0 s.0,
  parts_over k m a b f h.1 s.1,
  small_over (sum (value e a) (value f a)) (sum (value e b) (value f b)) (value_over (Add' l e r f) a b (known_agree k m a b (Add' l e r f) h)) s.2,
)
parts_over k m a b (Sub' l e r f) h s = (
  parts_over k m a b e h.0 s.0,
  parts_over k m a b f h.1 s.1,
  small_over (difference (value e a) (value f a)) (difference (value e b) (value f b)) (value_over (Sub' l e r f) a b (known_agree k m a b (Sub' l e r f) h)) s.2,
)
parts_over k m a b (Mul' l e r f) h s = (
  parts_over k m a b e h.0 s.0,
  parts_over k m a b f h.1 s.1,
  small_over (product (value e a) (value f a)) (product (value e b) (value f b)) (value_over (Mul' l e r f) a b (known_agree k m a b (Mul' l e r f) h)) s.2,
)
parts_over k m a b (Pow' l e n) h s = (
  parts_over k m a b e h s.0,
  powers_over (value e a) (value e b) n (value_over e a b (known_agree k m a b e h)) s.1,
)

pub formula_over : (k m : Var → Type 0) (a b : Assignment) (f : Formula) → EachOf (AgreeKnown k m a b) f → FormulaIsSmall k a f → FormulaIsSmall m b f
formula_over k m a b True h s = tt
formula_over k m a b (Compare c e f) h s = (parts_over k m a b e h.0 s.0, parts_over k m a b f h.1 s.1)
formula_over k m a b (And' l f r g) h s = (formula_over k m a b f h.0 s.0, formula_over k m a b g h.1 s.1)
formula_over k m a b (Or' l f r g) h s = (formula_over k m a b f h.0 s.0, formula_over k m a b g h.1 s.1)
formula_over k m a b (Not' l f) h s = formula_over k m a b f h s
