-- Points at which the variables of a model have given values.
use Rattle.std.proofs.Common.{ℕ, ◌<◌, ◌≤◌, ◌⊎◌, inl, inr, IsTrue, sym, subst, arith, pos, List}
use Rattle.vp_terms.specs.Rational.{Rational, whole, Equals}
use Rattle.vp_terms.specs.Meaning.{Assignment}
use Rattle.vp_terms.specs.Places.{place, place_count, has_variable}
use Rattle.vp_terms.specs.declared.expr.Places.{Places}
use Rattle.vp_terms.specs.declared.expr.Var.{Var}
use Rattle.vp_terms.proofs.RationalLaws.{chain, Equals-refl, Equals-sym}
use Rattle.vp_terms.proofs.Standing.{below_or_not}
use Rattle.vp_terms.proofs.Spots.{place_is_below, places_tell, each_place}
use Rattle.vp_poly.specs.Value.{Point}
use Rattle.vp_poly.specs.Places.{point_before}
use Rattle.vp_poly.specs.Points.{IsAt, Sends}
use Rattle.vp_poly.specs.Canonical.{values_at}

value_for : (p : Places) (a : Assignment) (k : ℕ) → (k < place_count p) ⊎ (place_count p ≤ k) → Rational
value_for p a k (inl h) = a (each_place p k h).0
value_for p a k (inr h) = whole (pos 0)

-- each place has the value of its variable
point_for : Places → Assignment → Point
point_for p a k = value_for p a k (below_or_not k (place_count p))

found : (p : Places) (a : Assignment) (v : Var) → IsTrue (has_variable p v) → (s : (place p v < place_count p) ⊎ (place_count p ≤ place p v)) → Equals (value_for p a (place p v) s) (a v)
unfolding value_for
found p a v g (inl h) =
    let w = each_place p (place p v) h in
    let e = places_tell p v w.0 g w.1 (sym w.2) in
    subst (λ (u : Var). Equals (a u) (a v)) e (Equals-refl (a v))
found p a v g (inr h) = absurd (let b = place_is_below p v g in omega arith)

pub some_point : (p : Places) (a : Assignment) → (x : Point) × IsAt p x a
unfolding point_for
some_point p a = (point_for p a, record { each = λ v g. found p a v g (below_or_not (place p v) (place_count p)) })

pub own_values : (p : Places) (x : Point) → IsAt p x (values_at p x)
own_values p x = record { each = λ v g. Equals-refl (x (place p v)) }

pub same_places : (p : Places) (x y : Point) (a : Assignment) → ((k : ℕ) → k < place_count p → Equals (x k) (y k)) → IsAt p x a → IsAt p y a
same_places p x y a e h = record { each = λ v g. chain (Equals-sym _ _ (e (place p v) (place_is_below p v g))) (h.each v g) }

pub same_values : (p : Places) (x : Point) (a b : Assignment) → ((v : Var) → IsTrue (has_variable p v) → Equals (a v) (b v)) → IsAt p x a → IsAt p x b
same_values p x a b e h = record { each = λ v g. chain (h.each v g) (e v g) }

pub one_value : (p : Places) (x : Point) (a b : Assignment) → IsAt p x a → IsAt p x b → (v : Var) → IsTrue (has_variable p v) → Equals (a v) (b v)
one_value p x a b h k v g = chain (Equals-sym _ _ (h.each v g)) (k.each v g)

pub at_before : (p : Places) (to : List ℕ) (f : Var → Var) (x : Point) (a : Assignment) → Sends p to f → IsAt p x a → IsAt p (point_before to x) (λ v. a (f v))
at_before p to f x a s h = record { each = λ v g. subst (λ (k : ℕ). Equals (x k) (a (f v))) (sym (s.each v g)) (h.each (f v) (s.inside v g)) }
