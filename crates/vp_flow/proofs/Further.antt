-- Beyond the height of a state its Lie series is zero.
use Rattle.std.proofs.Common.{◌≡◌, inl, inr, ℕ, zero, suc, ◌+◌, ◌*◌, ◌/◌, ◌^◌, ◌≤◌, ◌<◌, Bool, true, false, cond, ◌==◌, List, [], ◌∷◌, length, set, get_or, refl, sym, ap, ◌∙◌, subst, arith, ℤ, pos, ◌*ℤ◌}
use Rattle.vp_terms.specs.Rational.{Equals, whole}
use Rattle.vp_terms.specs.WellFormed.{IsWellFormed}
use Rattle.vp_terms.specs.declared.package.Package.{Package}
use Rattle.vp_poly.specs.declared.mono.Term.{Term}
use Rattle.vp_poly.specs.declared.scaled.Scaled.{Scaled}
use Rattle.vp_poly.specs.Poly.{Powers, IsOrdered, coef}
use Rattle.vp_poly.specs.Times.{IsTimes}
use Rattle.vp_flow.specs.Series.{lie, state_degree}
use Rattle.vp_flow.specs.Whole.{state_place, zfactor, zlie}
use Rattle.vp_flow.specs.Sides.{AreHeights, AreRightSides, model, polys, rates_of}
use Rattle.vp_flow.specs.Order.{IsFree}
use Rattle.vp_flow.specs.Bounds.{common_den}
use Rattle.vp_flow.proofs.BoundLaws.{common-positive, exact-part}
use Rattle.vp_flow.proofs.Bridge.{IsTimes-lie}
use Rattle.vp_flow.proofs.Derivative.{IsTimes-zero, pow_positive}
use Rattle.vp_flow.proofs.Deriving.{whole-scaled}
use Rattle.vp_flow.proofs.Falling.{AreFalling, zlie-none_beyond}
use Rattle.vp_flow.proofs.HeightLaws.{falls}
use Rattle.vp_flow.proofs.Integrals.{coef-length, zfactor-free}
use Rattle.vp_flow.proofs.Lie.{right_none}
use Rattle.vp_flow.proofs.Outcomes.{compared}
use Rattle.vp_flow.proofs.SharingLaws.{nothing, polys-at, rate-is}
use Rattle.vp_flow.proofs.WeighLaws.{positive-sides, right-at}

-- ---- the right sides of a package over their common denominator

multiplied : List Scaled → ℕ → Powers → ℤ
multiplied qs j m = pos (common_den qs / (get_or qs j nothing).weight.den) *ℤ coef (get_or qs j nothing).poly m

missing : (qs : List Scaled) (j : ℕ) → length qs ≤ j → (get_or qs j nothing).poly ≡ []
unfolding nothing
missing [] j le = refl
missing (q ∷ qs) zero le = absurd (omega arith)
missing (q ∷ qs) (suc j) le = missing qs j (omega arith)

pub beyond : (pkg : Package) (qs : List Scaled) (h : ℕ → ℕ) → IsWellFormed pkg → AreRightSides pkg qs → AreHeights (model pkg) (polys qs) h → (i k : ℕ) → i < length pkg.names.states → h i < k → (m : Powers) → Equals (lie (model pkg) (rates_of pkg) i k m) (whole (pos 0))
unfolding multiplied
beyond pkg qs h good right are i k lt gt m =
    IsTimes-zero (common_den qs ^ k) (zlie (model pkg) (multiplied qs) i k m) (lie (model pkg) (rates_of pkg) i k m) (pow_positive (common_den qs) k (common-positive qs (positive-sides pkg qs right)))
    (zlie-none_beyond (model pkg) (multiplied qs) h falling k i lt gt m)
    (IsTimes-lie (model pkg) (common_den qs) (multiplied qs) (rates_of pkg) multiples k i m)
  where
    size : length qs ≡ length pkg.names.states
    size = right.count ∙ good.plant.rate_count

    few : (model pkg).params + (model pkg).states ≤ 32
    few = let f = good.names.few in omega arith

    multiples : (j : ℕ) → j < (model pkg).states → (n : Powers) → IsTimes (common_den qs) (whole (multiplied qs j n)) (rates_of pkg j n)
    multiples j j_lt n =
        let in_list : j < length qs = omega (arith, size, j_lt) in
        subst (λ (d : ℕ). IsTimes d (whole (multiplied qs j n)) (rates_of pkg j n)) (exact-part qs j nothing (positive-sides pkg qs right) in_list).0
        (whole-scaled (common_den qs / (get_or qs j nothing).weight.den) (get_or qs j nothing).weight.den (coef (get_or qs j nothing).poly n) (rates_of pkg j n) ((rate-is pkg qs j nothing right in_list).each n))

    ordered : (j : ℕ) → j < length qs → IsOrdered (get_or qs j nothing).poly
    ordered j j_lt = (right-at pkg qs j nothing right j_lt).1.canonical.poly.ordered

    gone : (j : ℕ) (n : Powers) → coef (get_or qs j nothing).poly n ≡ pos 0 → multiplied qs j n ≡ pos 0
    gone j n e = right_none (pos (common_den qs / (get_or qs j nothing).weight.den)) (coef (get_or qs j nothing).poly n) e

    free_factor : (j l : ℕ) (a : Powers) → zfactor (model pkg) l (coef (get_or qs j nothing).poly) a ≡ pos 0 → zfactor (model pkg) l (multiplied qs j) a ≡ pos 0
    free_factor j l a e = at (state_degree (model pkg) a == 0) e
      where
        at : (v : Bool) → cond v (coef (get_or qs j nothing).poly (set a (state_place (model pkg) l) 1)) (pos 0) ≡ pos 0 → cond v (multiplied qs j (set a (state_place (model pkg) l) 1)) (pos 0) ≡ pos 0
        at true z = gone j (set a (state_place (model pkg) l) 1) z
        at false z = refl

    falling : AreFalling (model pkg) (multiplied qs) h
    falling = record {
      right = record {
        few = few;
        none = λ j a ne. elim (compared j (length qs)) [
          | inl j_lt ↦ gone j a (coef-length (get_or qs j nothing).poly a (ordered j j_lt) ne)
          | inr le ↦ gone j a (ap (λ (ts : List Term). coef ts a) (missing qs j le))
        ];
      };
      flat = λ j j_lt z n. gone j n (ap (λ (ts : List Term). coef ts n) (sym (polys-at qs j nothing (omega (arith, size, j_lt))) ∙ (falls (model pkg) (polys qs) h are).zero_side j j_lt z));
      used = λ j l j_lt l_lt. elim ((falls (model pkg) (polys qs) h are).used j l j_lt l_lt) [
        | inl free ↦ inl (λ a. free_factor j l a (zfactor-free (model pkg) l (get_or qs j nothing).poly a few l_lt (ordered j (omega (arith, size, j_lt))) (subst (λ (ts : List Term). IsFree (model pkg) l ts) (polys-at qs j nothing (omega (arith, size, j_lt))) free)))
        | inr less ↦ inr less
      ];
    }
