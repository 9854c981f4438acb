-- A package has one outcome.
use Rattle.std.proofs.Common.{◌≡◌, ◌≢◌, ◌⊎◌, inl, inr, ◌↔◌, ℕ, zero, suc, ◌+◌, ◌≤◌, ◌<◌, Bool, true, false, cond, leb, List, [], ◌∷◌, length, Some, slice_get, refl, sym, ap, ◌∙◌, subst, arith}
use Rattle.std.specs.Prelude.{IfSome}
use Rattle.std.proofs.lemmas.Bool.{leb-true, leb-false}
use Rattle.vp_terms.specs.declared.expr.Expr.{Expr}
use Rattle.vp_terms.specs.declared.expr.Places.{Places}
use Rattle.vp_terms.specs.declared.package.Package.{Package}
use Rattle.vp_terms.specs.WellFormed.{IsWellFormed}
use Rattle.vp_poly.specs.declared.mono.Term.{Term}
use Rattle.vp_poly.specs.declared.scaled.Scaled.{Scaled}
use Rattle.vp_poly.specs.Coefficient.{Coefficients, coefficients}
use Rattle.vp_poly.specs.Canonical.{IsCanonical, own_weight, variables}
use Rattle.vp_poly.specs.Weights.{Weights, fits}
use Rattle.vp_flow.specs.Series.{flow_of}
use Rattle.vp_flow.specs.Sides.{AreHeights, AreRightSides, IsPolynomialOf, Reaches, height_from, is_linear, model, polys, rates_of, side, uses}
use Rattle.vp_flow.specs.Sides.Reaches.{Once, Again}
use Rattle.vp_flow.specs.Bounds.{bounds_of}
use Rattle.vp_flow.specs.Weights.{flow_weight}
use Rattle.vp_flow.specs.Outcome.{AreFlows, AreLinear, HasCycle, IsBent, IsFirstNamed, IsFlowOf, IsOver, IsWide, Refuses, named_where}
use Rattle.vp_flow.specs.declared.error.FlowErr.{FlowErr}
use Rattle.vp_flow.specs.declared.error.FlowErr.TheVariants as flow
use Rattle.vp_flow.proofs.HeightLaws.{falls}
use Rattle.vp_flow.proofs.Heightening.{greatest-same, not-free}
use Rattle.vp_flow.proofs.Reaching.{below}
use Rattle.vp_flow.proofs.Solved.{map-each}

-- coefficients have one canonical polynomial
abbrev pub Unique : Type 0
Unique = (d : ℕ) (f : Coefficients) (xs ys : List Term) → IsCanonical d xs f → IsCanonical d ys f → xs ≡ ys

pub clash : (v : Bool) → v ≡ true → v ≡ false → ⊥
clash v a b = cc

-- ---- right sides

same_scaled : (x y : Scaled) → x.poly ≡ y.poly → x.weight ≡ y.weight → x ≡ y
same_scaled x y e f =
    let S : List Term → Weights → Scaled = λ p w. record { poly = p; weight = w } in
    ap (λ (p : List Term). S p x.weight) e ∙ ap (S y.poly) f

one_polynomial : Unique → (p : Places) (e : Expr) (x y : Scaled) → IsPolynomialOf p e x → IsPolynomialOf p e y → x ≡ y
one_polynomial law p e x y a b =
    let w : x.weight ≡ y.weight = a.weight ∙ sym b.weight in
    same_scaled x y
    (law x.weight.den (coefficients (variables p) e) x.poly y.poly a.canonical (subst (λ (v : Weights). IsCanonical v.den y.poly (coefficients (variables p) e)) (sym w) b.canonical)) w

one_each : Unique → (p : Places) (es : List Expr) (xs ys : List Scaled) → length xs ≡ length es → length ys ≡ length es → ((i : ℕ) → IfSome (slice_get es i) (λ e. IfSome (slice_get xs i) (IsPolynomialOf p e))) → ((i : ℕ) → IfSome (slice_get es i) (λ e. IfSome (slice_get ys i) (IsPolynomialOf p e))) → xs ≡ ys
one_each law p [] [] [] m n h k = refl
one_each law p [] [] (y ∷ ys) m n h k = absurd (omega arith)
one_each law p [] (x ∷ xs) ys m n h k = absurd (omega arith)
one_each law p (e ∷ es) [] ys m n h k = absurd (omega arith)
one_each law p (e ∷ es) (x ∷ xs) [] m n h k = absurd (omega arith)
one_each law p (e ∷ es) (x ∷ xs) (y ∷ ys) m n h k =
    let first : x ≡ y = one_polynomial law p e x y (h 0) (k 0) in
    let rest : xs ≡ ys = one_each law p es xs ys (omega arith) (omega arith) (λ i. h (suc i)) (λ i. k (suc i)) in
    cc

pub one_list : Unique → (pkg : Package) (xs ys : List Scaled) → AreRightSides pkg xs → AreRightSides pkg ys → xs ≡ ys
one_list law pkg xs ys a b = one_each law (model pkg) pkg.plant.rates xs ys a.count b.count a.each b.each

-- no right side that has a polynomial is over
none_over : (p : Places) (es : List Expr) (qs : List Scaled) → length qs ≡ length es → ((i : ℕ) → IfSome (slice_get es i) (λ e. IfSome (slice_get qs i) (IsPolynomialOf p e))) → (i : ℕ) → i < length es → IfSome (slice_get es i) (λ e. fits (own_weight p e) ≡ false) → ⊥
none_over p [] qs n h i lt over = absurd (omega arith)
none_over p (e ∷ es) [] n h i lt over = absurd (omega arith)
none_over p (e ∷ es) (q ∷ qs) n h zero lt over =
    let a : IsPolynomialOf p e q = h 0 in
    clash (fits (own_weight p e)) (ap fits (sym a.weight) ∙ a.weighed.fits) over
none_over p (e ∷ es) (q ∷ qs) n h (suc i) lt over = none_over p es qs (omega arith) (λ j. h (suc j)) i (omega arith) over

-- ---- heights

-- a state that is used stands lower
lower : (p : Places) (ss : List (List Term)) (h : ℕ → ℕ) → AreHeights p ss h → (i j : ℕ) → i < p.states → j < p.states → uses p ss i j ≡ true → h j < h i
lower p ss h a i j lt j_lt u = elim ((falls p ss h a).used i j lt j_lt) [
  | inl free ↦ absurd (not-free p ss i j u free)
  | inr less ↦ less
]

equal_below : (p : Places) (ss : List (List Term)) (g h : ℕ → ℕ) → AreHeights p ss g → AreHeights p ss h → (n i : ℕ) → i < p.states → g i < n → g i ≡ h i
equal_below p ss g h a b zero i lt less = absurd (omega arith)
equal_below p ss g h a b (suc n) i lt less =
    a.each i lt
    ∙ ap (height_from (side ss i)) (greatest-same p.states (uses p ss i) (uses p ss i) g h (λ j j_lt. refl) (λ j j_lt u. equal_below p ss g h a b n j j_lt (let l = lower p ss g a i j lt j_lt u in omega arith)))
    ∙ sym (b.each i lt)

pub one_height : (p : Places) (ss : List (List Term)) (g h : ℕ → ℕ) → AreHeights p ss g → AreHeights p ss h → (i : ℕ) → i < p.states → g i ≡ h i
one_height p ss g h a b i lt = equal_below p ss g h a b (suc (g i)) i lt (omega arith)

target : (p : Places) (ss : List (List Term)) (i j : ℕ) → Reaches p ss i j → j < p.states
target p ss i j (Once a b u) = below p ss i j u
target p ss i j (Again a x b u rest) = target p ss x j rest

descends : (p : Places) (ss : List (List Term)) (h : ℕ → ℕ) → AreHeights p ss h → (i j : ℕ) → i < p.states → Reaches p ss i j → h j < h i
descends p ss h are i j lt (Once a b u) = lower p ss h are i j lt (below p ss i j u) u
descends p ss h are i j lt (Again a x b u rest) =
    let first = lower p ss h are i x lt (below p ss i x u) u in
    let more = descends p ss h are x j (below p ss i x u) rest in
    omega arith

-- where there are heights no state reaches itself
pub no_cycle : (p : Places) (ss : List (List Term)) (h : ℕ → ℕ) (i : ℕ) → AreHeights p ss h → Reaches p ss i i → ⊥
no_cycle p ss h i are r = absurd (let d = descends p ss h are i i (target p ss i i r) r in omega arith)

-- ---- first states

pub compared : (m n : ℕ) → (m < n) ⊎ (n ≤ m)
compared m n = at (leb (suc m) n) refl
  where
    at : (v : Bool) → leb (suc m) n ≡ v → (m < n) ⊎ (n ≤ m)
    at true e = inl (let l = leb-true (suc m) n e in omega arith)
    at false e = inr (let l = leb-false (suc m) n e in omega arith)

inside : (xs : List (List ℕ)) (k : ℕ) (x : List ℕ) → slice_get xs k ≡ Some x → k < length xs
inside [] k x e = absurd (cc)
inside (y ∷ xs) zero x e = omega arith
inside (y ∷ xs) (suc k) x e = let r = inside xs k x e in omega arith

some_same : (x y : List ℕ) → Some x ≡ Some y → x ≡ y
some_same x y e = cc

one_first : (names : List (List ℕ)) (P Q : ℕ → Type 0) (x y : List ℕ) → ((j : ℕ) → j < length names → P j → Q j) → ((j : ℕ) → j < length names → Q j → P j) → IsFirstNamed names P x → IsFirstNamed names Q y → x ≡ y
one_first names P Q x y to from a b = elim (compared a.state b.state) [
  | inl less ↦ absurd (b.first a.state less (to a.state (inside names a.state x a.named) a.has))
  | inr le ↦ elim (compared b.state a.state) [
    | inl less ↦ absurd (a.first b.state less (from b.state (inside names b.state y b.named) b.has))
    | inr ge ↦ some_same x y (sym a.named ∙ ap (slice_get names) (let e : a.state ≡ b.state = omega arith in e) ∙ b.named)
  ]
]

-- ---- cycles

named-same : (t u : ℕ → Bool) (k : ℕ) (names : List (List ℕ)) → ((i : ℕ) → k ≤ i → i < k + length names → t i ≡ u i) → named_where t k names ≡ named_where u k names
named-same t u k [] h = refl
named-same t u k (x ∷ xs) h =
    ap (λ (v : Bool). cond v (x ∷ named_where t (suc k) xs) (named_where t (suc k) xs)) (h k (omega arith) (omega arith))
    ∙ ap (λ (l : List (List ℕ)). cond (u k) (x ∷ l) l) (named-same t u (suc k) xs (λ i le lt. h i (omega arith) (omega arith)))

same_tests : (R : Type 0) (a b : Bool) → (a ≡ true) ↔ R → (b ≡ true) ↔ R → a ≡ b
same_tests R true true p q = refl
same_tests R true false p q = absurd (clash false (q.1 (p.0 refl)) refl)
same_tests R false true p q = absurd (clash false (p.1 (q.0 refl)) refl)
same_tests R false false p q = refl

-- where names are left there is a state that passes
passing : (t : ℕ → Bool) (k : ℕ) (names : List (List ℕ)) → named_where t k names ≢ [] → (i : ℕ) × (k ≤ i) × (i < k + length names) × (t i ≡ true)
passing t k [] ne = absurd (ne refl)
passing t k (x ∷ xs) ne = at (t k) refl ne (λ n. passing t (suc k) xs n)
  where
    at : (v : Bool) → t k ≡ v → cond v (x ∷ named_where t (suc k) xs) (named_where t (suc k) xs) ≢ [] → (named_where t (suc k) xs ≢ [] → (i : ℕ) × (suc k ≤ i) × (i < suc k + length xs) × (t i ≡ true)) → (i : ℕ) × (k ≤ i) × (i < k + length (x ∷ xs)) × (t i ≡ true)
    at true e n more = (k, omega arith, omega arith, e)
    at false e n more = let r = more n in (r.0, (let a = r.1 in omega arith), (let a = r.2 in omega arith), r.3)

cycle-clash : (pkg : Package) (names : List (List ℕ)) (h : ℕ → ℕ) (c : HasCycle pkg names) → AreHeights (model pkg) (polys c.sides) h → ⊥
cycle-clash pkg names h c are =
    let r = passing c.test 0 pkg.names.states (λ z. c.some (c.all ∙ z)) in
    no_cycle (model pkg) (polys c.sides) h r.0 are ((c.exact r.0 (let a = r.2 in omega arith)).0 r.3)

one_cycle : Unique → (pkg : Package) (xs ys : List (List ℕ)) → HasCycle pkg xs → HasCycle pkg ys → xs ≡ ys
one_cycle law pkg xs ys a b =
    let s = one_list law pkg b.sides a.sides b.right a.right in
    let other = subst (λ (qs : List Scaled). (i : ℕ) → i < length pkg.names.states → (b.test i ≡ true) ↔ Reaches (model pkg) (polys qs) i i) s b.exact in
    a.all
    ∙ named-same a.test b.test 0 pkg.names.states (λ i le lt. same_tests (Reaches (model pkg) (polys a.sides) i i) (a.test i) (b.test i) (a.exact i (omega arith)) (other i (omega arith)))
    ∙ sym b.all

-- ---- what excludes what

-- a right side that is over has no polynomial
over-clash : (pkg : Package) (name : List ℕ) (qs : List Scaled) → IsWellFormed pkg → IsFirstNamed pkg.names.states (IsOver pkg) name → AreRightSides pkg qs → ⊥
over-clash pkg name qs good a right =
    none_over (model pkg) pkg.plant.rates qs right.count right.each a.state (let l = inside pkg.names.states a.state name a.named in let n : length pkg.plant.rates ≡ length pkg.names.states = good.plant.rate_count in omega arith) a.has

bent-clash : Unique → (pkg : Package) (name : List ℕ) (qs : List Scaled) → IsBent pkg name → AreRightSides pkg qs → AreLinear pkg qs → ⊥
bent-clash law pkg name qs a right linear =
    let s = one_list law pkg qs a.sides right a.right in
    let l = subst (λ (rs : List Scaled). AreLinear pkg rs) s linear in
    clash (is_linear (model pkg) (side (polys a.sides) a.first.state)) (l.each a.first.state (inside pkg.names.states a.first.state name a.first.named)) a.first.has

bent-same : Unique → (pkg : Package) (x y : List ℕ) → IsBent pkg x → IsBent pkg y → x ≡ y
bent-same law pkg x y a b =
    let s = one_list law pkg b.sides a.sides b.right a.right in
    let other = subst (λ (qs : List Scaled). IsFirstNamed pkg.names.states (λ i. is_linear (model pkg) (side (polys qs) i) ≡ false) y) s b.first in
    let P : ℕ → Type 0 = λ i. is_linear (model pkg) (side (polys a.sides) i) ≡ false in
    one_first pkg.names.states P P x y (λ j lt p. p) (λ j lt p. p) a.first other

heights-same : Unique → (pkg : Package) (xs ys : List Scaled) (g h : ℕ → ℕ) → AreRightSides pkg xs → AreRightSides pkg ys → AreHeights (model pkg) (polys xs) g → AreHeights (model pkg) (polys ys) h → (i : ℕ) → i < length pkg.names.states → g i ≡ h i
heights-same law pkg xs ys g h a b are are' i lt =
    let s = one_list law pkg ys xs b a in
    one_height (model pkg) (polys xs) g h are (subst (λ (qs : List Scaled). AreHeights (model pkg) (polys qs) h) s are') i lt

wide-same : Unique → (pkg : Package) (x y : List ℕ) → IsWide pkg x → IsWide pkg y → x ≡ y
wide-same law pkg x y a b =
    let s = one_list law pkg b.sides a.sides b.right a.right in
    let other = subst (λ (qs : List Scaled). IsFirstNamed pkg.names.states (λ i. fits (flow_weight (bounds_of qs) (b.heights i)) ≡ false) y) s b.first in
    let same = heights-same law pkg a.sides b.sides a.heights b.heights a.right b.right a.are_heights b.are_heights in
    one_first pkg.names.states (λ i. fits (flow_weight (bounds_of a.sides) (a.heights i)) ≡ false) (λ i. fits (flow_weight (bounds_of a.sides) (b.heights i)) ≡ false) x y
    (λ j lt p. ap (λ (h : ℕ). fits (flow_weight (bounds_of a.sides) h)) (sym (same j lt)) ∙ p)
    (λ j lt p. ap (λ (h : ℕ). fits (flow_weight (bounds_of a.sides) h)) (same j lt) ∙ p)
    a.first other

-- heights that one outcome has exclude a cycle
cycle-heights : Unique → (pkg : Package) (names : List (List ℕ)) (qs : List Scaled) (h : ℕ → ℕ) → HasCycle pkg names → AreRightSides pkg qs → AreHeights (model pkg) (polys qs) h → ⊥
cycle-heights law pkg names qs h c right are =
    let s = one_list law pkg qs c.sides right c.right in
    cycle-clash pkg names h c (subst (λ (rs : List Scaled). AreHeights (model pkg) (polys rs) h) s are)

-- ---- flows

same_lists : {X : Type 0} → (P : ℕ → X → Type 0) (xs ys : List X) → length xs ≡ length ys → ((i : ℕ) (x y : X) → i < length xs → P i x → P i y → x ≡ y) → ((i : ℕ) → IfSome (slice_get xs i) (P i)) → ((i : ℕ) → IfSome (slice_get ys i) (P i)) → xs ≡ ys
same_lists {X} P [] [] n e h k = refl
same_lists {X} P [] (y ∷ ys) n e h k = absurd (omega arith)
same_lists {X} P (x ∷ xs) [] n e h k = absurd (omega arith)
same_lists {X} P (x ∷ xs) (y ∷ ys) n e h k =
    let first : x ≡ y = e 0 x y (omega arith) (h 0) (k 0) in
    let rest : xs ≡ ys = same_lists (λ j. P (suc j)) xs ys (omega arith) (λ i a b lt. e (suc i) a b (omega arith)) (λ j. h (suc j)) (λ j. k (suc j)) in
    cc

one_flow : Unique → (pkg : Package) (qs : List Scaled) (i h : ℕ) (x y : Scaled) → IsFlowOf pkg qs i h x → IsFlowOf pkg qs i h y → x ≡ y
one_flow law pkg qs i h x y a b =
    let w : x.weight ≡ y.weight = a.weight ∙ sym b.weight in
    same_scaled x y
    (law x.weight.den (flow_of (model pkg) (rates_of pkg) i h) x.poly y.poly a.canonical (subst (λ (v : Weights). IsCanonical v.den y.poly (flow_of (model pkg) (rates_of pkg) i h)) (sym w) b.canonical)) w

pub one_flows : Unique → (pkg : Package) (xs ys : List Scaled) → AreFlows pkg xs → AreFlows pkg ys → xs ≡ ys
one_flows law pkg xs ys a b =
    same_lists (λ i s. IsFlowOf pkg a.sides i (a.heights i) s) xs ys (omega (arith, a.count, b.count)) (λ i x y lt f g. one_flow law pkg a.sides i (a.heights i) x y f g) a.each
    (map-each (λ i s. IsFlowOf pkg b.sides i (b.heights i) s) (λ i s. IsFlowOf pkg a.sides i (a.heights i) s) ys (λ i s lt f. turned i s (omega (arith, lt, b.count)) f) b.each)
  where
    turned : (i : ℕ) (s : Scaled) → i < length pkg.names.states → IsFlowOf pkg b.sides i (b.heights i) s → IsFlowOf pkg a.sides i (a.heights i) s
    turned i s lt f =
        subst (λ (qs : List Scaled). IsFlowOf pkg qs i (a.heights i) s) (one_list law pkg b.sides a.sides b.right a.right)
        (subst (λ (h : ℕ). IsFlowOf pkg b.sides i h s) (sym (heights-same law pkg a.sides b.sides a.heights b.heights a.right b.right a.are_heights b.are_heights i lt)) f)

-- ---- one outcome

fitting : (pkg : Package) (xs : List Scaled) (name : List ℕ) (a : AreFlows pkg xs) → IsFirstNamed pkg.names.states (λ i. fits (flow_weight (bounds_of a.sides) (a.heights i)) ≡ false) name → ⊥
fitting pkg xs name a w =
    at xs w.state (let l = inside pkg.names.states w.state name w.named in let n = a.count in omega arith) (a.each w.state)
  where
    at : (fs : List Scaled) (k : ℕ) → k < length fs → IfSome (slice_get fs k) (IsFlowOf pkg a.sides w.state (a.heights w.state)) → ⊥
    at [] k lt f = absurd (omega arith)
    at (s ∷ fs) zero lt f = one f
      where
        one : IsFlowOf pkg a.sides w.state (a.heights w.state) s → ⊥
        one f = clash (fits (flow_weight (bounds_of a.sides) (a.heights w.state))) (ap fits (sym f.weight) ∙ f.weighed.fits) w.has
    at (s ∷ fs) (suc k) lt f = at fs k (omega arith) f

pub one_or_other : Unique → (pkg : Package) → IsWellFormed pkg → (xs : List Scaled) (e : FlowErr) → AreFlows pkg xs → Refuses pkg e → e ≡ flow.Memory
one_or_other law pkg good xs (flow.Rate name) a r = absurd (over-clash pkg name a.sides good r a.right)
one_or_other law pkg good xs (flow.NotLinear name) a r = absurd (bent-clash law pkg name a.sides r a.right a.linear)
one_or_other law pkg good xs (flow.Cycle names) a r = absurd (cycle-heights law pkg names a.sides a.heights r a.right a.are_heights)
one_or_other law pkg good xs (flow.Wide name) a r = absurd (wide r)
  where
    wide : IsWide pkg name → ⊥
    wide w =
        let s = one_list law pkg w.sides a.sides w.right a.right in
        let same = heights-same law pkg w.sides a.sides w.heights a.heights w.right a.right w.are_heights a.are_heights in
        fitting pkg xs name a (turned (subst (λ (qs : List Scaled). IsFirstNamed pkg.names.states (λ i. fits (flow_weight (bounds_of qs) (w.heights i)) ≡ false) name) s w.first) same)
      where
        turned : IsFirstNamed pkg.names.states (λ i. fits (flow_weight (bounds_of a.sides) (w.heights i)) ≡ false) name → ((i : ℕ) → i < length pkg.names.states → w.heights i ≡ a.heights i) → IsFirstNamed pkg.names.states (λ i. fits (flow_weight (bounds_of a.sides) (a.heights i)) ≡ false) name
        turned f same = record {
          state = f.state;
          named = f.named;
          has = ap (λ (h : ℕ). fits (flow_weight (bounds_of a.sides) h)) (sym (same f.state (inside pkg.names.states f.state name f.named))) ∙ f.has;
          first = λ j lt p. f.first j lt (ap (λ (h : ℕ). fits (flow_weight (bounds_of a.sides) h)) (same j (let l = inside pkg.names.states f.state name f.named in omega arith)) ∙ p);
        }
one_or_other law pkg good xs flow.Memory a r = refl

pub one_refusal : Unique → (pkg : Package) → IsWellFormed pkg → (e f : FlowErr) → e ≢ flow.Memory → f ≢ flow.Memory → Refuses pkg e → Refuses pkg f → e ≡ f
one_refusal law pkg good (flow.Rate x) (flow.Rate y) m n a b = ap (λ (s : List ℕ). flow.Rate s) (one_first pkg.names.states (IsOver pkg) (IsOver pkg) x y (λ j lt p. p) (λ j lt p. p) a b)
one_refusal law pkg good (flow.Rate x) (flow.NotLinear y) m n a b = absurd (over-clash pkg x b.sides good a b.right)
one_refusal law pkg good (flow.Rate x) (flow.Cycle ys) m n a b = absurd (over-clash pkg x b.sides good a b.right)
one_refusal law pkg good (flow.Rate x) (flow.Wide y) m n a b = absurd (over-clash pkg x b.sides good a b.right)
one_refusal law pkg good (flow.Rate x) flow.Memory m n a b = absurd (n refl)
one_refusal law pkg good (flow.NotLinear x) (flow.Rate y) m n a b = absurd (over-clash pkg y a.sides good b a.right)
one_refusal law pkg good (flow.NotLinear x) (flow.NotLinear y) m n a b = ap (λ (s : List ℕ). flow.NotLinear s) (bent-same law pkg x y a b)
one_refusal law pkg good (flow.NotLinear x) (flow.Cycle ys) m n a b = absurd (bent-clash law pkg x b.sides a b.right b.linear)
one_refusal law pkg good (flow.NotLinear x) (flow.Wide y) m n a b = absurd (bent-clash law pkg x b.sides a b.right b.linear)
one_refusal law pkg good (flow.NotLinear x) flow.Memory m n a b = absurd (n refl)
one_refusal law pkg good (flow.Cycle xs) (flow.Rate y) m n a b = absurd (over-clash pkg y a.sides good b a.right)
one_refusal law pkg good (flow.Cycle xs) (flow.NotLinear y) m n a b = absurd (bent-clash law pkg y a.sides b a.right a.linear)
one_refusal law pkg good (flow.Cycle xs) (flow.Cycle ys) m n a b = ap (λ (s : List (List ℕ)). flow.Cycle s) (one_cycle law pkg xs ys a b)
one_refusal law pkg good (flow.Cycle xs) (flow.Wide y) m n a b = absurd (cycle-heights law pkg xs b.sides b.heights a b.right b.are_heights)
one_refusal law pkg good (flow.Cycle xs) flow.Memory m n a b = absurd (n refl)
one_refusal law pkg good (flow.Wide x) (flow.Rate y) m n a b = absurd (over-clash pkg y a.sides good b a.right)
one_refusal law pkg good (flow.Wide x) (flow.NotLinear y) m n a b = absurd (bent-clash law pkg y a.sides b a.right a.linear)
one_refusal law pkg good (flow.Wide x) (flow.Cycle ys) m n a b = absurd (cycle-heights law pkg ys a.sides a.heights b a.right a.are_heights)
one_refusal law pkg good (flow.Wide x) (flow.Wide y) m n a b = ap (λ (s : List ℕ). flow.Wide s) (wide-same law pkg x y a b)
one_refusal law pkg good (flow.Wide x) flow.Memory m n a b = absurd (n refl)
one_refusal law pkg good flow.Memory f m n a b = absurd (m refl)
