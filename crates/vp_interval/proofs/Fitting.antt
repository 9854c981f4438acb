-- Polynomials whose interval may be taken.
use Rattle.std.proofs.Common.{◌≡◌, ℕ, ◌+◌, ◌<◌, ◌^◌, List, [], ◌∷◌, arith, unsigned_abs}
use Rattle.std.proofs.lemmas.List.Elements.{All-nil, All-cons}
use Rattle.std.proofs.lemmas.List.Sums.{sum_by-cons}
use Rattle.std.proofs.lemmas.List.{get_or_past}
use Rattle.vp_poly.specs.declared.mono.Term.{Term}
use Rattle.vp_poly.specs.Places.{IsBelow, AreBelow}
use Rattle.vp_poly.specs.Poly.{IsPoly, IsOrdered, norm}
use Rattle.vp_logic.specs.declared.norm.Atom.{Atom}
use Rattle.vp_interval.specs.Formula.{AtomFits}
use Rattle.vp_interval.specs.Polynomial.{AreSmall}

is_small : Term → Type 0
is_small t = unsigned_abs t.coef < 2 ^ 62

norm-cons : (t : Term) (ts : List Term) → norm (t ∷ ts) ≡ unsigned_abs t.coef + norm ts
norm-cons t ts = sum_by-cons (λ u. unsigned_abs u.coef) t ts

-- each coefficient is at most the norm
pub small_norm : (ts : List Term) → norm ts < 2 ^ 62 → AreSmall ts
unfolding is_small
small_norm [] h = All-nil is_small
small_norm (t ∷ ts) h =
    let e = norm-cons t ts in
    let first : unsigned_abs t.coef < 2 ^ 62 = omega arith in
    All-cons is_small t ts first (small_norm ts (omega arith))

is_below : Term → Type 0
is_below t = IsBelow 32 t.mono.powers

-- a monomial has 32 places
in_order : (ts : List Term) → IsOrdered ts → AreBelow 32 ts
unfolding is_below
in_order [] h = All-nil is_below
in_order (t ∷ ts) h =
    let n = h.0.places in
    All-cons is_below t ts (record { none = λ k l. get_or_past t.mono.powers k 0 (omega arith) }) (in_order ts h.1)

pub all_places : (ts : List Term) → IsPoly ts → AreBelow 32 ts
all_places ts h = in_order ts h.ordered

pub ruleset fitting = (small_norm, all_places)

-- an atom whose polynomial fits
pub atom_fits : (n : ℕ) (a : Atom) → n ≡ 32 → IsPoly a.poly → norm a.poly < 2 ^ 62 → AtomFits n a
atom_fits n a e h k = rw e (record { places = all_places a.poly h; small = small_norm a.poly k })
