-- Atoms and their negations.
use Rattle.std.proofs.Common.{◌≡◌, ℕ, not, ◌||◌, ◌&&◌, Bool, true, false, List, refl, ap, ◌∙◌, arith, ℤ, pos, negsuc, ◌*ℤ◌}
use Rattle.std.specs.Prelude.{int_le, int_lt}
use Rattle.std.specs.Ordering.{int_eq}
use Rattle.std.proofs.lemmas.Int.{ints}
use Rattle.vp_terms.specs.Rational.{Rational, whole, product, Equals}
use Rattle.vp_terms.specs.Meaning.{compares}
use Rattle.vp_terms.specs.declared.formula.Cmp.{Cmp}
use Rattle.vp_terms.specs.declared.formula.Cmp.TheVariants as cmp
use Rattle.vp_terms.proofs.Orders.{same_comparison}
use Rattle.vp_terms.proofs.RationalLaws.{Equals-refl}
use Rattle.vp_poly.specs.declared.mono.Term.{Term}
use Rattle.vp_poly.specs.Value.{Point, value_at}
use Rattle.vp_logic.specs.declared.norm.Rel.TheVariants.{Ge, Gt, Eq}
use Rattle.vp_logic.specs.declared.norm.Atom.{Atom}
use Rattle.vp_logic.specs.Truth.{atom_holds, rel_holds}

-- the negative of a rational
abbrev minus : Rational → Rational
minus q = product (whole (negsuc 0)) q

above_minus : (m : ℤ) (d e : ℕ) → int_lt (pos 0 *ℤ pos e) (negsuc 0 *ℤ m *ℤ pos 1) ≡ not (int_le (pos 0 *ℤ pos d) (m *ℤ pos 1))
above_minus m d e = grind (arith, ints)

least_minus : (m : ℤ) (d e : ℕ) → int_le (pos 0 *ℤ pos e) (negsuc 0 *ℤ m *ℤ pos 1) ≡ not (int_lt (pos 0 *ℤ pos d) (m *ℤ pos 1))
least_minus m d e = grind (arith, ints)

either_side : (m : ℤ) (d e : ℕ) → (int_lt (pos 0 *ℤ pos d) (m *ℤ pos 1) || int_lt (pos 0 *ℤ pos e) (negsuc 0 *ℤ m *ℤ pos 1)) ≡ not (int_eq (m *ℤ pos 1) (pos 0 *ℤ pos d))
either_side m d e = grind (arith, ints)

or_none : (b : Bool) → (b || false) ≡ b
or_none true = refl
or_none false = refl

module _ (q r : Rational) (h : Equals r (minus q)) where
  over : (c : Cmp) → compares c r (whole (pos 0)) ≡ compares c (minus q) (whole (pos 0))
  over c = same_comparison c r (minus q) (whole (pos 0)) (whole (pos 0)) h (Equals-refl (whole (pos 0)))

  above : rel_holds Gt r ≡ not (rel_holds Ge q)
  above = over cmp.Gt ∙ above_minus q.num q.den (minus q).den

  least : rel_holds Ge r ≡ not (rel_holds Gt q)
  least = over cmp.Ge ∙ least_minus q.num q.den (minus q).den

  either : (rel_holds Gt q || rel_holds Gt r) ≡ not (rel_holds Eq q)
  either = ap (λ (b : Bool). rel_holds Gt q || b) (over cmp.Gt) ∙ either_side q.num q.den (minus q).den

-- the atom with its relation known, and the polynomials that its negation has
module _ (a : Atom) (p : List Term) (x : Point) (h : Equals (value_at p x) (minus (value_at a.poly x))) where
  pub negated_ge : a.rel ≡ Ge → rel_holds Gt (value_at p x) ≡ not (atom_holds a x)
  negated_ge e = rw e (above (value_at a.poly x) (value_at p x) h)

  pub negated_gt : a.rel ≡ Gt → rel_holds Ge (value_at p x) ≡ not (atom_holds a x)
  negated_gt e = rw e (least (value_at a.poly x) (value_at p x) h)

  pub negated_eq : (q : List Term) → q ≡ a.poly → a.rel ≡ Eq → (rel_holds Gt (value_at q x) || (rel_holds Gt (value_at p x) || false)) ≡ not (atom_holds a x)
  negated_eq q f e = rw (e, f) (ap (λ (b : Bool). rel_holds Gt (value_at a.poly x) || b) (or_none (rel_holds Gt (value_at p x))) ∙ either (value_at a.poly x) (value_at p x) h)

pub none_of : (a b c d : Bool) → a ≡ not b → c ≡ not d → (a && c) ≡ not (b || d)
none_of a true c d e f = grind (arith)
none_of a false c d e f = grind (arith)

pub not_all : (a b c d : Bool) → a ≡ not b → c ≡ not d → (a || c) ≡ not (b && d)
not_all a true c d e f = grind (arith)
not_all a false c d e f = grind (arith)

pub ruleset negating = (none_of, not_all)
