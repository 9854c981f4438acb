-- What `scale` stands on.
use Rattle.std.proofs.Common.{◌≡◌, ◌≢◌, ◌*◌, ◌<◌, ◌^◌, List, [], arith, sym, ap, ◌∙◌, subst, length, ℤ, pos, ◌*ℤ◌, unsigned_abs, of_z}
use Rattle.std.specs.Int.{w128}
use Rattle.std.proofs.Math.IntN.{zero-*ℤ}
use Rattle.vp_terms.specs.Rational.{whole, product, Equals}
use Rattle.vp_terms.proofs.RationalLaws.{Equals-sym}
use Rattle.vp_poly.specs.declared.mono.Term.{Term}
use Rattle.vp_poly.specs.Poly.{Powers, coef, norm, degree, scaled, IsPoly, IsWithin}
use Rattle.vp_poly.specs.Value.{Point, value_at}
use Rattle.vp_poly.proofs.PolyLaws.{IsPoly-scaled}
use Rattle.vp_poly.proofs.BelowLaws.{AreBelow-scaled, AreBelow-nil, HaveOnly-scaled, HaveOnly-nil}
use Rattle.vp_poly.proofs.SizeLaws.{coef-scaled, IsWithin-scaled}
use Rattle.vp_poly.proofs.ProductValues.{value_at-scaled, zero-product}

-- no terms are 0 times any
pub coef-zero_times : (k : ℤ) (ts : List Term) (m : Powers) → k ≡ pos 0 → coef [] m ≡ k *ℤ coef ts m
coef-zero_times k ts m e = rw e (sym (zero-*ℤ (coef ts m)))

pub value_at-zero_times : (k : ℤ) (ts : List Term) (a : Point) → k ≡ pos 0 → Equals (value_at [] a) (product (whole k) (value_at ts a))
value_at-zero_times k ts a e = rw e (Equals-sym _ _ (zero-product (value_at ts a)))

pub IsPoly-none : IsPoly []
IsPoly-none = record { ordered = tt; small = omega arith; few = omega arith }

pub ruleset scaling = (IsPoly-scaled, coef-scaled, value_at-scaled, IsWithin-scaled, coef-zero_times, value_at-zero_times, IsPoly-none, AreBelow-scaled, AreBelow-nil, HaveOnly-scaled, HaveOnly-nil)

-- a word that isn't 0 stands for a number that isn't
pub nonzero_word : (z : ℤ) → (of_z w128 z ≡ 0 → ⊥) → z ≢ pos 0
nonzero_word z h e = h (ap (of_z w128) e)

-- `ts` is the slice, `ws` the vector's items, `vs` the value and `us` the new items
pub scaled-canonical : (k : ℤ) (ts ws vs us : List Term) → ts ≡ ws → ws ≡ vs → us ≡ scaled k ts → k ≢ pos 0 → norm vs * unsigned_abs k < 2 ^ 126 → IsPoly ws → IsPoly us
scaled-canonical k ts ws vs us e f g n small h =
    IsPoly-scaled k ws us (g ∙ ap (scaled k) e) n (subst (λ (l : List Term). norm l * unsigned_abs k < 2 ^ 126) (sym f) small) h

pub scaled-sizes : (k : ℤ) (ts ws vs us : List Term) → ts ≡ ws → ws ≡ vs → us ≡ scaled k ts → IsWithin us (norm vs * unsigned_abs k) (degree vs) (length vs)
scaled-sizes k ts ws vs us e f g = rw (g ∙ ap (scaled k) (e ∙ f)) (IsWithin-scaled k vs)
