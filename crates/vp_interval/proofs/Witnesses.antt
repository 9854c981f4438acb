-- Valid ends have something between them.
use Rattle.std.proofs.Common.{◌≡◌, ℕ, zero, suc, List, [], ◌∷◌, length, Some, arith, ℤ, pos, ◌≤ℤ◌}
use Rattle.std.proofs.lemmas.Int.{ints, clamps}
use Rattle.std.proofs.lemmas.List.Elements.{All-head, All-tail}
use Rattle.std.specs.Int.{int_min}
use Rattle.std.specs.List.{slice_get}
use Rattle.vp_words.specs.Ends.{IsFractionLowEnd, IsFractionHighEnd}
use Rattle.vp_words.specs.Number.{greatest}
use Rattle.vp_words.proofs.Pairs.{pair_parts}
use Rattle.vp_terms.specs.Rational.{Rational, whole}
use Rattle.vp_poly.specs.declared.mono.Term.{Term}
use Rattle.vp_poly.specs.Places.{AreBelow}
use Rattle.vp_poly.specs.Value.{Point}
use Rattle.vp_interval.specs.Polynomial.{AreSmall, interval_of}
use Rattle.vp_interval.specs.Represents.{Represents, RepresentEach, AreValid}
use Rattle.vp_interval.specs.Rounding.{IsValid, Ends}
use Rattle.vp_interval.proofs.Terms.{polynomial_holds}

-- the high end, or the greatest finite number where it is infinite
witness : Ends → Rational
witness v = whole (int_min v.hi greatest)

above_low : (a b : ℤ) → a ≤ℤ b → IsFractionLowEnd a (int_min b greatest) 1
above_low a b h f = let k = f.1 in omega (arith, ints, clamps)

below_high : (b : ℤ) → IsFractionHighEnd b (int_min b greatest) 1
below_high b f = let k = f.1 in omega (arith, ints, clamps)

witness_stands : (v : Ends) → IsValid v.lo v.hi → Represents v (witness v)
unfolding witness
witness_stands v h = record { low = above_low v.lo v.hi (pair_parts v.lo v.hi h.enclosed).0; high = below_high v.hi }

pub some_value : (v : Ends) → IsValid v.lo v.hi → (q : Rational) × Represents v q
some_value v h = (witness v, witness_stands v h)

witnesses : List Ends → Point
witnesses [] k = whole (pos 0)
witnesses (b ∷ bs) zero = witness b
witnesses (b ∷ bs) (suc k) = witnesses bs k

is_valid : Ends → Type 0
is_valid v = IsValid v.lo v.hi

each_stands : (bs : List Ends) → AreValid bs → (k : ℕ) (v : Ends) → slice_get bs k ≡ Some v → Represents v (witnesses bs k)
unfolding witnesses is_valid
each_stands [] a k v e = absurd (cc)
each_stands (b ∷ bs) a zero v e = let s : b ≡ v = cc in rw (← s) (witness_stands b (All-head is_valid b bs a))
each_stands (b ∷ bs) a (suc k) v e = each_stands bs (All-tail is_valid b bs a) k v e

pub some_values : (bs : List Ends) → AreValid bs → (x : Point) × RepresentEach bs x
some_values bs a = (witnesses bs, record { each = each_stands bs a })

pub valid_polynomial : (bs : List Ends) (ts : List Term) → AreValid bs → AreBelow (length bs) ts → AreSmall ts → IsValid (interval_of bs ts).lo (interval_of bs ts).hi
valid_polynomial bs ts a p s = let w = some_values bs a in (polynomial_holds bs ts w.0 a w.1 p s).valid
