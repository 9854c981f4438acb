-- The weights of all flows, and the right sides that they allow.
use Rattle.std.proofs.Common.{◌≡◌, ◌≢◌, ◌⊎◌, inl, inr, ℕ, zero, suc, ◌+◌, ◌*◌, ◌/◌, ◌^◌, ◌≤◌, ◌<◌, Bool, true, false, List, [], ◌∷◌, ◌++◌, length, get_or, Option, None, Some, MatchOption, slice_get, slice_index, unwrap_or, All, refl, sym, ap, ◌∙◌, subst, arith}
use Rattle.std.specs.Prelude.{IfSome}
use Rattle.std.proofs.Math.Nat.{pow-zero}
use Rattle.std.proofs.lemmas.List.{length-append}
use Rattle.vp_terms.specs.declared.expr.Expr.{Expr}
use Rattle.vp_terms.specs.declared.package.Package.{Package}
use Rattle.vp_poly.specs.declared.mono.Term.{Term}
use Rattle.vp_poly.specs.declared.scaled.Scaled.{Scaled}
use Rattle.vp_poly.specs.Canonical.{IsWeighed}
use Rattle.vp_poly.specs.Weights.{Weights, fits}
use Rattle.vp_flow.specs.Sides.{AreHeights, AreRightSides, IsPolynomialOf, model, polys}
use Rattle.vp_flow.specs.Bounds.{bounds_of, common_den}
use Rattle.vp_flow.specs.Weights.{flow_weight}
use Rattle.vp_flow.specs.Flows.{AreFlowsOf, AreOfBounds, IsFlow, IsOfBounds}
use Rattle.vp_flow.specs.Weighing.{AreBounds}
use Rattle.vp_flow.specs.Outcome.{AreLinear, IsWide}
use Rattle.vp_flow.specs.Parts.{AreFirst, IsLow}
use Rattle.vp_flow.specs.Filled.{AreFilled, row_at}
use Rattle.vp_flow.specs.Sharing.{IsShare, IsSuited}
use Rattle.vp_flow.specs.declared.bounds.Bounds.{Bounds}
use Rattle.vp_flow.specs.declared.rates.Rates.{Rates}
use Rattle.vp_flow.proofs.Assembling.{norm-none}
use Rattle.vp_flow.proofs.BoundLaws.{ArePositive, common-positive, exact-part, within-greatest}
use Rattle.vp_flow.proofs.Growing.{over-common}
use Rattle.vp_flow.proofs.HeightLaws.{falls}
use Rattle.vp_flow.proofs.RightLaws.{found}
use Rattle.vp_flow.proofs.SharingLaws.{polys-at}
use Rattle.vp_flow.proofs.Whole.{fits-below, low-where}

-- ---- one weight

abbrev made : ℕ → ℕ → ℕ → ℕ → Weights
made n d g t = record { norm = n; den = d; degree = g; terms = t }

-- a flow of height 0 has the same weight, whatever the right sides
pub flat-weight : (b : Bounds) → flow_weight b 0 ≡ record { norm = 1; den = 1; degree = 1; terms = 1 }
flat-weight b =
    ap (λ (n : ℕ). made n (b.common ^ 0 * 1) (1 + 0 * b.degree) (b.terms ^ 0)) (norm-none b)
    ∙ ap (λ (n : ℕ). made 1 n (1 + 0 * b.degree) (b.terms ^ 0)) (let e : b.common ^ 0 * 1 ≡ 1 = omega (arith, pow-zero b.common) in e)
    ∙ ap (λ (n : ℕ). made 1 1 n (b.terms ^ 0)) (let e : 1 + 0 * b.degree ≡ 1 = omega arith in e)
    ∙ ap (λ (n : ℕ). made 1 1 1 n) (pow-zero b.terms)

over-tall : (b : Bounds) (h : ℕ) → h ≢ 0 → 2 ^ 62 ≤ b.common → fits (flow_weight b h) ≡ false
over-tall b zero ne le = absurd (ne refl)
over-tall b (suc h) ne le = over-common b h le

pub none-weight : (qs : List Scaled) (o : Option Bounds) (h : ℕ) → o ≡ None → h ≢ 0 → AreBounds qs o → fits (flow_weight (bounds_of qs) h) ≡ false
none-weight qs o h e ne a = over-tall (bounds_of qs) h ne (subst (AreBounds qs) e a)

pub some-weight : (qs : List Scaled) (o : Option Bounds) (b : Bounds) (h : ℕ) (r : Option Weights) → o ≡ Some b → AreBounds qs o → MatchOption r (fits (flow_weight b h) ≡ false) (λ w. (w ≡ flow_weight b h) × (fits w ≡ true)) → MatchOption r (fits (flow_weight (bounds_of qs) h) ≡ false) (IsOfBounds (bounds_of qs) h)
some-weight qs o b h r e a m = at r (subst (λ (c : Bounds). MatchOption r (fits (flow_weight c h) ≡ false) (λ w. (w ≡ flow_weight c h) × (fits w ≡ true))) (subst (AreBounds qs) e a).0 m)
  where
    at : (r : Option Weights) → MatchOption r (fits (flow_weight (bounds_of qs) h) ≡ false) (λ w. (w ≡ flow_weight (bounds_of qs) h) × (fits w ≡ true)) → MatchOption r (fits (flow_weight (bounds_of qs) h) ≡ false) (IsOfBounds (bounds_of qs) h)
    at None m = m
    at (Some w) m = record { weight = m.0; fits = m.1 }

pub flat-of : (b : Bounds) (h : ℕ) → h ≡ 0 → IsOfBounds b h (record { norm = 1; den = 1; degree = 1; terms = 1 })
flat-of b h e = subst (λ (n : ℕ). IsOfBounds b n (record { norm = 1; den = 1; degree = 1; terms = 1 })) (sym e) (record { weight = sym (flat-weight b); fits = refl })

pub bounds-positive : (pkg : Package) (qs : List Scaled) (o : Option Bounds) → ArePositive qs → AreBounds qs o → IfSome o (λ b. 1 ≤ b.common)
bounds-positive pkg qs None h a = tt
bounds-positive pkg qs (Some b) h a = let c = common-positive qs h in subst (λ (x : Bounds). 1 ≤ x.common) (sym a.0) c

-- ---- all weights

pub of-bounds-none : (b : Bounds) (heights : List ℕ) (ws : List Weights) → ws ≡ [] → AreOfBounds b heights 0 ws
of-bounds-none b heights ws e = subst (AreOfBounds b heights 0) (sym e) (record { count = refl; each = λ i. tt })

push-each : {X : Type 0} → (P : ℕ → X → Type 0) (xs : List X) (x : X) → ((i : ℕ) → IfSome (slice_get xs i) (P i)) → P (length xs) x → (i : ℕ) → IfSome (slice_get (xs ++ x ∷ []) i) (P i)
push-each {X} P [] x h p zero = p
push-each {X} P [] x h p (suc i) = tt
push-each {X} P (y ∷ xs) x h p zero = h 0
push-each {X} P (y ∷ xs) x h p (suc i) = push-each (λ j. P (suc j)) xs x (λ j. h (suc j)) p i

pub of-bounds-more : (b : Bounds) (heights : List ℕ) (n h : ℕ) (ws new : List Weights) (w : Weights) → new ≡ ws ++ w ∷ [] → AreOfBounds b heights n ws → h ≡ slice_index heights n → IsOfBounds b h w → AreOfBounds b heights (n + 1) new
of-bounds-more b heights n h ws new w e x s own = subst (AreOfBounds b heights (n + 1)) (sym e) (record {
  count = length-append ws (w ∷ []) ∙ ap (λ (k : ℕ). k + 1) x.count;
  each = push-each (λ i w. IsOfBounds b (slice_index heights i) w) ws w x.each
      (subst (λ (k : ℕ). IsOfBounds b (slice_index heights k) w) (sym x.count) (subst (λ (k : ℕ). IsOfBounds b k w) s own));
})

pub weight-at : (b : Bounds) (heights : List ℕ) (n i : ℕ) (ws : List Weights) → AreOfBounds b heights n ws → i < n → IsOfBounds b (slice_index heights i) (get_or ws i (record { norm = 1; den = 1; degree = 1; terms = 1 }))
weight-at b heights n i ws x lt =
    subst (λ (o : Option Weights). IfSome o (IsOfBounds b (slice_index heights i))) (found ws i (record { norm = 1; den = 1; degree = 1; terms = 1 }) (let c = x.count in omega arith)) (x.each i)

pub weight-here : (b : Bounds) (heights : List ℕ) (n i h : ℕ) (ws : List Weights) (w : Weights) → AreOfBounds b heights n ws → i < length ws → w ≡ get_or ws i w → h ≡ slice_index heights i → IsOfBounds b h w
weight-here b heights n i h ws w x lt e s =
    let at = subst (λ (o : Option Weights). IfSome o (IsOfBounds b (slice_index heights i))) (found ws i w lt) (x.each i) in
    subst (λ (k : ℕ). IsOfBounds b k w) (sym s) (subst (IsOfBounds b (slice_index heights i)) (sym e) at)

clash : (v : Bool) → v ≡ true → v ≡ false → ⊥
clash v a b = cc

-- the first state whose flow is over
pub first-wide : (pkg : Package) (qs : List Scaled) (heights : List ℕ) (n h : ℕ) (ws : List Weights) (name : List ℕ) → AreRightSides pkg qs → AreLinear pkg qs → AreHeights (model pkg) (polys qs) (slice_index heights) → AreOfBounds (bounds_of qs) heights n ws → h ≡ slice_index heights n → fits (flow_weight (bounds_of qs) h) ≡ false → slice_get pkg.names.states n ≡ Some name → IsWide pkg name
first-wide pkg qs heights n h ws name right linear are x s over named = record {
  sides = qs;
  right = right;
  linear = linear;
  heights = slice_index heights;
  are_heights = are;
  first = record {
    state = n;
    named = named;
    has = subst (λ (k : ℕ). fits (flow_weight (bounds_of qs) k) ≡ false) s over;
    first = λ j lt o. let at = weight-at (bounds_of qs) heights n j ws x lt in clash (fits (flow_weight (bounds_of qs) (slice_index heights j))) (ap fits (sym at.weight) ∙ at.fits) o;
  };
}

-- each power up to a height is low
pub low-all : (b : Bounds) (heights : List ℕ) (n : ℕ) (ws : List Weights) → 1 ≤ b.common → AreOfBounds b heights n ws → (i k : ℕ) → i < n → k ≤ slice_index heights i → IsLow b k
low-all b heights n ws one x i k lt le =
    let at = weight-at b heights n i ws x lt in
    low-where b k (fits-below b k (slice_index heights i) one le (ap fits (sym at.weight) ∙ at.fits))

-- ---- the flows

pub first-of : (r : Rates) (h : ℕ → ℕ) (order : List ℕ) (series : List (List (List Term))) (i : ℕ) → ((j : ℕ) → j < r.counts.states → (t : ℕ) × (t < length order) × (slice_index order t ≡ j)) → AreFilled r h order (length order) series → i < r.counts.states → AreFirst r i (suc (h i)) (row_at series i)
first-of r h order series i all x lt =
    let t = all i lt in
    subst (λ (j : ℕ). AreFirst r j (suc (h j)) (row_at series j)) t.2 (x.done t.0 t.1)

pub flows-none : (r : Rates) (h : ℕ → ℕ) (fs : List Scaled) → fs ≡ [] → AreFlowsOf r h 0 fs
flows-none r h fs e = subst (AreFlowsOf r h 0) (sym e) (record { count = refl; each = λ i. tt })

pub flows-more : (r : Rates) (h : ℕ → ℕ) (n : ℕ) (fs new : List Scaled) (f : Scaled) → new ≡ fs ++ f ∷ [] → AreFlowsOf r h n fs → IsFlow r h n f → AreFlowsOf r h (n + 1) new
flows-more r h n fs new f e x own = subst (AreFlowsOf r h (n + 1)) (sym e) (record {
  count = length-append fs (f ∷ []) ∙ ap (λ (k : ℕ). k + 1) x.count;
  each = push-each (IsFlow r h) fs f x.each (subst (λ (k : ℕ). IsFlow r h k f) (sym x.count) own);
})

-- ---- which bounds are suited

pub right-at : (pkg : Package) (qs : List Scaled) (i : ℕ) (d : Scaled) → AreRightSides pkg qs → i < length qs → (e : Expr) × IsPolynomialOf (model pkg) e (get_or qs i d)
right-at pkg qs i d x lt = at (slice_get pkg.plant.rates i) refl (x.each i)
  where
    missing : {X : Type 0} → (xs : List X) (i : ℕ) → slice_get xs i ≡ None → length xs ≤ i
    missing {X} [] i e = omega arith
    missing {X} (y ∷ xs) zero e = absurd (cc)
    missing {X} (y ∷ xs) (suc i) e = let more = missing xs i e in omega arith

    at : (o : Option Expr) → slice_get pkg.plant.rates i ≡ o → IfSome o (λ e. IfSome (slice_get qs i) (IsPolynomialOf (model pkg) e)) → (e : Expr) × IsPolynomialOf (model pkg) e (get_or qs i d)
    at None s h = let m = missing pkg.plant.rates i s in let c = x.count in absurd (omega arith)
    at (Some e) s h = (e, subst (λ (o : Option Scaled). IfSome o (IsPolynomialOf (model pkg) e)) (found qs i d lt) h)

pub positive-sides : (pkg : Package) (qs : List Scaled) → AreRightSides pkg qs → ArePositive qs
positive-sides pkg qs x = λ i d lt. (right-at pkg qs i d x lt).1.positive

abbrev pub LEAST : Bounds
LEAST = record { common = 1; norm = 1; degree = 1; terms = 1 }

pub zero-height : (b : Bounds) (h : ℕ) → 2 ^ 62 ≤ b.common → fits (flow_weight b h) ≡ true → h ≡ 0
zero-height b zero le e = refl
zero-height b (suc h) le e = absurd (clash (fits (flow_weight b (suc h))) e (over-common b h le))

pub suited : (pkg : Package) (qs : List Scaled) (heights : List ℕ) (n : ℕ) (ws : List Weights) (o : Option Bounds) → AreRightSides pkg qs → n ≡ length qs → n ≡ (model pkg).states → AreHeights (model pkg) (polys qs) (slice_index heights) → AreOfBounds (bounds_of qs) heights n ws → AreBounds qs o → All (IsSuited (unwrap_or o LEAST)) qs
suited pkg qs heights n ws o right c m are x a = λ i d lt. record {
  weighed = (right-at pkg qs i d right lt).1.weighed;
  positive = (right-at pkg qs i d right lt).1.positive;
  shared = at i d lt o a;
}
  where
    share : (i : ℕ) (d : Scaled) → i < length qs → common_den qs < 2 ^ 62 → IsShare (bounds_of qs) (get_or qs i d)
    share i d lt small =
        let p = exact-part qs i d (positive-sides pkg qs right) lt in
        record {
          exact = p.0;
          positive = p.1;
          small = small;
          norm_le = within-greatest (λ q. q.weight.norm * (common_den qs / q.weight.den)) qs i d lt;
          degree_le = within-greatest (λ q. q.weight.degree) qs i d lt;
          terms_le = within-greatest (λ q. q.weight.terms) qs i d lt;
        }

    at : (i : ℕ) (d : Scaled) → i < length qs → (o : Option Bounds) → AreBounds qs o → ((get_or qs i d).poly ≡ []) ⊎ IsShare (unwrap_or o LEAST) (get_or qs i d)
    at i d lt None big =
        let w = weight-at (bounds_of qs) heights n i ws x (omega arith) in
        let z = zero-height (bounds_of qs) (slice_index heights i) big (ap fits (sym w.weight) ∙ w.fits) in
        inl (sym (polys-at qs i d lt) ∙ (falls (model pkg) (polys qs) (slice_index heights) are).zero_side i (omega arith) z)
    at i d lt (Some b) h =
        inr (subst (λ (v : Bounds). IsShare v (get_or qs i d)) (sym h.0) (share i d lt (subst (λ (v : Bounds). v.common < 2 ^ 62) h.0 h.1)))

pub weighed-sides : (pkg : Package) (qs : List Scaled) → AreRightSides pkg qs → All (λ q. IsWeighed q.poly q.weight) qs
weighed-sides pkg qs x = λ i d lt. (right-at pkg qs i d x lt).1.weighed
