-- Beyond its height a state's Lie series is zero.
use Rattle.std.proofs.Common.{◌≡◌, ◌⊎◌, inl, inr, ℕ, zero, suc, ◌<◌, List, ap, ◌∙◌, arith, ℤ, pos, ◌*ℤ◌}
use Rattle.vp_terms.specs.declared.expr.Places.{Places}
use Rattle.vp_poly.specs.declared.mono.Term.{Term}
use Rattle.vp_poly.specs.Poly.{Powers, coef}
use Rattle.vp_poly.specs.Places.{places_for}
use Rattle.vp_poly.proofs.SplitLaws.{split_sum-zero}
use Rattle.vp_flow.specs.Whole.{conv, zfactor, zlie}
use Rattle.vp_flow.specs.Parts.{AreSides, sides}
use Rattle.vp_flow.specs.Sides.{side}
use Rattle.vp_flow.specs.Order.{Fall}
use Rattle.vp_flow.specs.declared.rates.Rates.{Rates}
use Rattle.vp_flow.proofs.Convolution.{total-zero}
use Rattle.vp_flow.proofs.Lie.{AreRight, left_none, right_none, zlie-first, zlie-next}
use Rattle.vp_flow.proofs.Integrals.{sides-are_right, side-is, zfactor-free}

-- right sides as functions, and heights that fall along uses
pub record AreFalling (p : Places) (r : ℕ → Powers → ℤ) (h : ℕ → ℕ) : Type 0 where
  pub right : AreRight p r
  pub flat : (i : ℕ) → i < p.states → h i ≡ 0 → (m : Powers) → r i m ≡ pos 0
  pub used : (i j : ℕ) → i < p.states → j < p.states → ((a : Powers) → zfactor p j (r i) a ≡ pos 0) ⊎ (h j < h i)

pub zlie-none_beyond : (p : Places) (r : ℕ → Powers → ℤ) (h : ℕ → ℕ) → AreFalling p r h → (k i : ℕ) → i < p.states → h i < k → (m : Powers) → zlie p r i k m ≡ pos 0
zlie-none_beyond p r h f zero i lt beyond m = absurd (omega arith)
zlie-none_beyond p r h f (suc zero) i lt beyond m = zlie-first p r i f.right lt m ∙ f.flat i lt (omega arith) m
zlie-none_beyond p r h f (suc (suc k)) i lt beyond m =
    zlie-next p r k i f.right lt m
    ∙ total-zero p.states (λ j. conv (zfactor p j (r i)) (zlie p r j (suc k)) m) (λ j j_lt. each j (f.used i j lt j_lt) (λ below. zlie-none_beyond p r h f (suc k) j j_lt (omega arith)))
  where
    each : (j : ℕ) → ((a : Powers) → zfactor p j (r i) a ≡ pos 0) ⊎ (h j < h i) → (h j < h i → (n : Powers) → zlie p r j (suc k) n ≡ pos 0) → conv (zfactor p j (r i)) (zlie p r j (suc k)) m ≡ pos 0
    each j (inl free) more =
        split_sum-zero m (λ a b. zfactor p j (r i) a *ℤ zlie p r j (suc k) b) (λ x b. left_none (zfactor p j (r i) x) (zlie p r j (suc k) b) (free x))
    each j (inr below) more =
        split_sum-zero m (λ a b. zfactor p j (r i) a *ℤ zlie p r j (suc k) b) (λ x b. right_none (zfactor p j (r i) x) (zlie p r j (suc k) b) (more below b))

-- beyond its height
pub zlie-beyond : (r : Rates) (h : ℕ → ℕ) → AreSides r → Fall (places_for r.counts) r.sides h → (k i : ℕ) → i < r.counts.states → h i < k → (m : Powers) → zlie (places_for r.counts) (sides r) i k m ≡ pos 0
zlie-beyond r h a f = zlie-none_beyond (places_for r.counts) (sides r) h (record {
  right = sides-are_right r a;
  flat = λ i lt z m. ap (λ (ts : List Term). coef ts m) (f.zero_side i lt z);
  used = λ i j lt j_lt. elim (f.used i j lt j_lt) [
    | inl free ↦ inl (λ x. zfactor-free (places_for r.counts) j (side r.sides i) x a.few j_lt (side-is r i a lt).poly.ordered free)
    | inr less ↦ inr less
  ];
})
