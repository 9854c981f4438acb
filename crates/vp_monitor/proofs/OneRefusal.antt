-- A package has one refusal of its monitors, and none where nothing refuses them.
use Rattle.std.proofs.Common.{◌≡◌, ◌≢◌, ◌⊎◌, inl, inr, ℕ, zero, suc, ◌+◌, ◌<◌, ◌≤◌, Bool, true, false, leb, List, [], ◌∷◌, ◌++◌, length, length-append, Option, Some, None, slice_get, slice_index_or, refl, sym, ap, ◌∙◌, subst, arith}
use Rattle.std.proofs.lemmas.Bool.{leb-true, leb-false}
use Rattle.std.proofs.lemmas.Option.{slice_get_within}
use Rattle.vp_terms.specs.WellFormed.{IsWellFormed, all_names}
use Rattle.vp_terms.specs.declared.expr.Expr.{Expr}
use Rattle.vp_terms.specs.declared.expr.Expr.TheVariants.{Var as Variable}
use Rattle.vp_terms.specs.declared.expr.Var.TheVariants.{NextControl}
use Rattle.vp_terms.specs.declared.expr.Places.{Places}
use Rattle.vp_terms.specs.declared.package.Package.{Package}
use Rattle.vp_terms.specs.declared.package.Slack.{Slack}
use Rattle.vp_poly.specs.declared.scaled.Scaled.{Scaled}
use Rattle.vp_poly.specs.Weights.{Weights}
use Rattle.vp_ctrl.specs.Hidden.{first_hidden}
use Rattle.vp_ctrl.specs.Ways.{way_count, ways}
use Rattle.vp_flow.specs.declared.error.FlowErr.{FlowErr}
use Rattle.vp_flow.specs.declared.error.FlowErr.TheVariants as flow
use Rattle.vp_flow.specs.Outcome.{AreFlows, Refuses as RefusedFlow}
use Rattle.vp_flow.specs.Sides.{model}
use Rattle.vp_monitor.specs.declared.error.MonErr.{MonErr}
use Rattle.vp_monitor.specs.declared.error.MonErr.TheVariants.{Wide, Paths, Hidden, NotLinear, Cycle, Fraction, Cases, Memory}
use Rattle.vp_monitor.specs.declared.error.Place.TheVariants as at
use Rattle.vp_monitor.specs.Refusals.{BeforeFlow, CtrlPasses, FallbackGoodBelow, FlowPasses, FormulasPass, IsFallbackOver, IsFirstSlackOver, IsFraction, IsSlackOver, IsTimeOver, Passes, PlantPasses, Refuses, RefusesFallback, RefusesFlow, RefusesFormula, RefusesPaths, RefusesPlant, SlackFits, SlackFitsBelow, SlackPasses, TimePasses, difference_fits, weight_of_flow}
use Rattle.vp_monitor.proofs.OneList.{Known, one_weight}

clash : (b : Bool) → b ≡ true → b ≡ false → ⊥
clash b t f = absurd (cc)

over : (a b : ℕ) → a < b → b ≤ a → ⊥
over a b l k = absurd (omega arith)

some_same : {A : Type 0} (a b : A) (o : Option A) → o ≡ Some a → o ≡ Some b → a ≡ b
some_same a b o h k = cc

none_some : {A : Type 0} (a : A) (o : Option A) → o ≡ None → o ≡ Some a → ⊥
none_some a o h k = absurd (cc)

pub data Order (i j : ℕ) : Type 0 where
  Below : i < j → Order i j
  Same : i ≡ j → Order i j
  Above : j < i → Order i j

ordered : (i j : ℕ) → Order i j
ordered i j = first (leb (suc i) j) refl
  where
    second : (b : Bool) → leb (suc j) i ≡ b → j ≤ i → Order i j
    second true e l = Above (let k = leb-true (suc j) i e in omega arith)
    second false e l = Same (let k = leb-false (suc j) i e in omega arith)

    first : (b : Bool) → leb (suc i) j ≡ b → Order i j
    first true e = Below (let k = leb-true (suc i) j e in omega arith)
    first false e = second (leb (suc j) i) refl (let k = leb-false (suc i) j e in omega arith)

-- ---- formulas

formulas_alone : (pkg : Package) (e : MonErr) → FormulasPass pkg → RefusesFormula pkg e → e ≡ Memory
formulas_alone pkg (Wide at.Init) p r = absurd (clash _ p.init r)
formulas_alone pkg (Wide at.Inv) p r = absurd (clash _ p.inv r.1)
formulas_alone pkg (Wide at.Safe) p r = absurd (clash _ p.safe r.2)
formulas_alone pkg Memory p r = refl
formulas_alone pkg e p r = absurd r

one_formula : (pkg : Package) (e f : MonErr) → e ≢ Memory → f ≢ Memory → RefusesFormula pkg e → RefusesFormula pkg f → e ≡ f
one_formula pkg (Wide at.Init) (Wide at.Init) m n a b = refl
one_formula pkg (Wide at.Init) (Wide at.Inv) m n a b = absurd (clash _ b.0 a)
one_formula pkg (Wide at.Init) (Wide at.Safe) m n a b = absurd (clash _ b.0 a)
one_formula pkg (Wide at.Inv) (Wide at.Init) m n a b = absurd (clash _ a.0 b)
one_formula pkg (Wide at.Inv) (Wide at.Inv) m n a b = refl
one_formula pkg (Wide at.Inv) (Wide at.Safe) m n a b = absurd (clash _ b.1 a.1)
one_formula pkg (Wide at.Safe) (Wide at.Init) m n a b = absurd (clash _ a.0 b)
one_formula pkg (Wide at.Safe) (Wide at.Inv) m n a b = absurd (clash _ a.1 b.1)
one_formula pkg (Wide at.Safe) (Wide at.Safe) m n a b = refl
one_formula pkg Memory f m n a b = absurd (m refl)
one_formula pkg e Memory m n a b = absurd (n refl)
one_formula pkg (Wide at.Init) f m n a b = absurd b
one_formula pkg (Wide at.Inv) f m n a b = absurd b
one_formula pkg (Wide at.Safe) f m n a b = absurd b
one_formula pkg e f m n a b = absurd a

-- ---- the controller

paths_alone : (pkg : Package) (e : MonErr) → CtrlPasses pkg → RefusesPaths pkg e → e ≡ Memory
paths_alone pkg (Wide at.Ctrl) p r = absurd (clash _ p.narrow r.2)
paths_alone pkg (Paths count) p r = absurd (over 256 (way_count pkg.ctrl) r.0 p.few)
paths_alone pkg (Hidden name) p r = absurd (none_some r.1 (first_hidden (ways pkg.ctrl)) p.unhidden r.2)
paths_alone pkg Memory p r = refl
paths_alone pkg e p r = absurd r

one_hidden : (pkg : Package) (x y : List ℕ) (c d : ℕ) → first_hidden (ways pkg.ctrl) ≡ Some c → first_hidden (ways pkg.ctrl) ≡ Some d → slice_get pkg.names.controls c ≡ Some x → slice_get pkg.names.controls d ≡ Some y → x ≡ y
one_hidden pkg x y c d h k f g =
    let e : c ≡ d = some_same c d (first_hidden (ways pkg.ctrl)) h k in
    some_same x y (slice_get pkg.names.controls d) (ap (slice_get pkg.names.controls) (sym e) ∙ f) g

one_paths : (pkg : Package) (e f : MonErr) → e ≢ Memory → f ≢ Memory → RefusesPaths pkg e → RefusesPaths pkg f → e ≡ f
one_paths pkg (Wide at.Ctrl) (Wide at.Ctrl) m n a b = refl
one_paths pkg (Wide at.Ctrl) (Paths k) m n a b = absurd (over 256 (way_count pkg.ctrl) b.0 a.0)
one_paths pkg (Wide at.Ctrl) (Hidden y) m n a b = absurd (none_some b.1 (first_hidden (ways pkg.ctrl)) a.1 b.2)
one_paths pkg (Paths j) (Wide at.Ctrl) m n a b = absurd (over 256 (way_count pkg.ctrl) a.0 b.0)
one_paths pkg (Paths j) (Paths k) m n a b = ap Paths (a.1 ∙ sym b.1)
one_paths pkg (Paths j) (Hidden y) m n a b = absurd (over 256 (way_count pkg.ctrl) a.0 b.0)
one_paths pkg (Hidden x) (Wide at.Ctrl) m n a b = absurd (none_some a.1 (first_hidden (ways pkg.ctrl)) b.1 a.2)
one_paths pkg (Hidden x) (Paths k) m n a b = absurd (over 256 (way_count pkg.ctrl) b.0 a.0)
one_paths pkg (Hidden x) (Hidden y) m n a b = ap Hidden (one_hidden pkg x y a.1 b.1 a.2 b.2 a.3 b.3)
one_paths pkg Memory f m n a b = absurd (m refl)
one_paths pkg e Memory m n a b = absurd (n refl)
one_paths pkg (Wide at.Ctrl) f m n a b = absurd b
one_paths pkg (Paths j) f m n a b = absurd b
one_paths pkg (Hidden x) f m n a b = absurd b
one_paths pkg e f m n a b = absurd a

-- ---- the flow

-- what is known of flows: they have one refusal, and none where there are flows
pub record KnownFlows : Type 0 where
  pub alone : (pkg : Package) → IsWellFormed pkg → (xs : List Scaled) (e : FlowErr) → AreFlows pkg xs → RefusedFlow pkg e → e ≡ flow.Memory
  pub one : (pkg : Package) → IsWellFormed pkg → (e f : FlowErr) → e ≢ flow.Memory → f ≢ flow.Memory → RefusedFlow pkg e → RefusedFlow pkg f → e ≡ f

-- a refusal of the flow tells one of the flow's own
abbrev TellsFlow : Package → FlowErr → MonErr → Type 0
TellsFlow pkg (flow.Rate name) e = (i : ℕ) × (slice_get pkg.names.states i ≡ Some name) × (e ≡ Wide (at.Flow i))
TellsFlow pkg (flow.NotLinear name) e = e ≡ NotLinear name
TellsFlow pkg (flow.Cycle names) e = e ≡ Cycle names
TellsFlow pkg (flow.Wide name) e = (i : ℕ) × (slice_get pkg.names.states i ≡ Some name) × (e ≡ Wide (at.Flow i))
TellsFlow pkg flow.Memory e = ⊥

abbrev Told : Package → MonErr → Type 0
Told pkg e = (d : FlowErr) × (d ≢ flow.Memory) × RefusedFlow pkg d × TellsFlow pkg d e

told_wide : (pkg : Package) (i : ℕ) (name : List ℕ) → slice_get pkg.names.states i ≡ Some name → RefusedFlow pkg (flow.Rate name) ⊎ RefusedFlow pkg (flow.Wide name) → Told pkg (Wide (at.Flow i))
told_wide pkg i name e (inl r) = (flow.Rate name, (λ q. absurd (cc)), r, (i, e, refl))
told_wide pkg i name e (inr r) = (flow.Wide name, (λ q. absurd (cc)), r, (i, e, refl))

told : (pkg : Package) (e : MonErr) → e ≢ Memory → RefusesFlow pkg e → Told pkg e
told pkg (Wide (at.Flow i)) m r = told_wide pkg i r.0 r.1 r.2
told pkg (NotLinear name) m r = (flow.NotLinear name, (λ q. absurd (cc)), r, refl)
told pkg (Cycle names) m r = (flow.Cycle names, (λ q. absurd (cc)), r, refl)
told pkg Memory m r = absurd (m refl)
told pkg e m r = absurd r

-- what stands at a place of a list, and behind it
at_list : (xs ys : List (List ℕ)) (i : ℕ) (x : List ℕ) → slice_get xs i ≡ Some x → slice_index_or (xs ++ ys) i [] ≡ x
at_list [] ys i x e = absurd (cc)
at_list (y ∷ xs) ys zero x e = cc
at_list (y ∷ xs) ys (suc i) x e = at_list xs ys i x e

behind : (xs ys : List (List ℕ)) (k i : ℕ) → k ≡ length xs + i → slice_get (xs ++ ys) k ≡ slice_get ys i
behind [] ys k i e = let same : k ≡ i = omega arith in ap (slice_get ys) same
behind (x ∷ xs) ys zero i e = absurd (omega arith)
behind (x ∷ xs) ys (suc k) i e = behind xs ys k i (omega arith)

-- two states have different names
distinct_states : (pkg : Package) (name : List ℕ) (i j : ℕ) → IsWellFormed pkg → i < j → slice_get pkg.names.states i ≡ Some name → slice_get pkg.names.states j ≡ Some name → ⊥
distinct_states pkg name i j good l h k =
    let ps = pkg.names.params in
    let ss = pkg.names.states in
    let cs = pkg.names.controls in
    let b = slice_get_within ss j name k in
    let n = length-append ps ss in
    let r = length-append (ps ++ ss) cs in
    let first : slice_index_or (all_names pkg.names) (length ps + i) [] ≡ name = at_list (ps ++ ss) cs (length ps + i) name (behind ps ss (length ps + i) i refl ∙ h) in
    let second : slice_index_or (all_names pkg.names) (length ps + j) [] ≡ name = at_list (ps ++ ss) cs (length ps + j) name (behind ps ss (length ps + j) j refl ∙ k) in
    good.names.distinct (length ps + i) (length ps + j) [] (omega arith) (omega arith) (first ∙ sym second)

one_state : (pkg : Package) (name : List ℕ) (i j : ℕ) → IsWellFormed pkg → slice_get pkg.names.states i ≡ Some name → slice_get pkg.names.states j ≡ Some name → i ≡ j
one_state pkg name i j good h k = at_order (ordered i j)
  where
    at_order : Order i j → i ≡ j
    at_order (Below l) = absurd (distinct_states pkg name i j good l h k)
    at_order (Same e) = e
    at_order (Above l) = absurd (distinct_states pkg name j i good l k h)

one_told : (pkg : Package) (d : FlowErr) (e f : MonErr) → IsWellFormed pkg → TellsFlow pkg d e → TellsFlow pkg d f → e ≡ f
one_told pkg (flow.Rate name) e f good a b = a.2 ∙ ap (λ (i : ℕ). Wide (at.Flow i)) (one_state pkg name a.0 b.0 good a.1 b.1) ∙ sym b.2
one_told pkg (flow.NotLinear name) e f good a b = a ∙ sym b
one_told pkg (flow.Cycle names) e f good a b = a ∙ sym b
one_told pkg (flow.Wide name) e f good a b = a.2 ∙ ap (λ (i : ℕ). Wide (at.Flow i)) (one_state pkg name a.0 b.0 good a.1 b.1) ∙ sym b.2
one_told pkg flow.Memory e f good a b = absurd a

-- ---- slacks

slack_clash : (p : Places) (w : Weights) (s : Slack) → SlackFits p w s → IsSlackOver p w s → ⊥
slack_clash p w s f (inl o) = clash _ f.span o
slack_clash p w s f (inr (inl o)) = clash _ f.low o
slack_clash p w s f (inr (inr o)) = clash _ (f.high o.0) o.1

time_clash : (pkg : Package) → TimePasses (model pkg) pkg.plant → IsTimeOver (model pkg) pkg.plant → ⊥
time_clash pkg t (inl o) = clash _ t.low o
time_clash pkg t (inr o) = clash _ t.high o

-- ---- the fallback

fallback_clash : (p : Places) (es : List Expr) (j k : ℕ) → j < k → IsFallbackOver p es j → FallbackGoodBelow p es k → ⊥
fallback_clash p es j k l o g = clash _ (g j o.0 l o.1).fits o.2

fraction_clash : (p : Places) (es : List Expr) (j k : ℕ) → j < k → IsFraction p es j → FallbackGoodBelow p es k → ⊥
fraction_clash p es j k l o g = o.3 (g j o.0 l o.1).whole

fallback_alone : (pkg : Package) (e : MonErr) → FallbackGoodBelow (model pkg) pkg.fallback (length pkg.fallback) → RefusesFallback pkg e → e ≡ Memory
fallback_alone pkg (Wide (at.Fallback k)) g r = absurd (fallback_clash (model pkg) pkg.fallback k (length pkg.fallback) (slice_get_within pkg.fallback k r.0.0 r.0.1) r.0 g)
fallback_alone pkg (Fraction name) g r = absurd (fraction_clash (model pkg) pkg.fallback r.0 (length pkg.fallback) (slice_get_within pkg.fallback r.0 r.2.0 r.2.1) r.2 g)
fallback_alone pkg Memory g r = refl
fallback_alone pkg e g r = absurd r

over_over : (p : Places) (es : List Expr) (j k : ℕ) → IsFallbackOver p es j → FallbackGoodBelow p es j → IsFallbackOver p es k → FallbackGoodBelow p es k → j ≡ k
over_over p es j k a f b g = at_order (ordered j k)
  where
    at_order : Order j k → j ≡ k
    at_order (Below l) = absurd (fallback_clash p es j k l a g)
    at_order (Same e) = e
    at_order (Above l) = absurd (fallback_clash p es k j l b f)

over_fraction : (p : Places) (es : List Expr) (j k : ℕ) → IsFallbackOver p es j → FallbackGoodBelow p es j → IsFraction p es k → FallbackGoodBelow p es k → ⊥
over_fraction p es j k a f b g = at_order (ordered j k)
  where
    at_order : Order j k → ⊥
    at_order (Below l) = fallback_clash p es j k l a g
    at_order (Same e) =
        let same : a.0 ≡ b.0 = some_same a.0 b.0 (slice_get es k) (ap (slice_get es) (sym e) ∙ a.1) b.1 in
        clash (difference_fits p (Variable (NextControl k)) b.0) b.2
        (ap (λ (x : Expr). difference_fits p (Variable (NextControl k)) x) (sym same) ∙ ap (λ (i : ℕ). difference_fits p (Variable (NextControl i)) a.0) (sym e) ∙ a.2)
    at_order (Above l) = fraction_clash p es k j l b f

fraction_fraction : (p : Places) (es : List Expr) (j k : ℕ) → IsFraction p es j → FallbackGoodBelow p es j → IsFraction p es k → FallbackGoodBelow p es k → j ≡ k
fraction_fraction p es j k a f b g = at_order (ordered j k)
  where
    at_order : Order j k → j ≡ k
    at_order (Below l) = absurd (fraction_clash p es j k l a g)
    at_order (Same e) = e
    at_order (Above l) = absurd (fraction_clash p es k j l b f)

one_fallback : (pkg : Package) (e f : MonErr) → e ≢ Memory → f ≢ Memory → RefusesFallback pkg e → RefusesFallback pkg f → e ≡ f
one_fallback pkg (Wide (at.Fallback j)) (Wide (at.Fallback k)) m n a b = ap (λ (i : ℕ). Wide (at.Fallback i)) (over_over (model pkg) pkg.fallback j k a.0 a.1 b.0 b.1)
one_fallback pkg (Wide (at.Fallback j)) (Fraction y) m n a b = absurd (over_fraction (model pkg) pkg.fallback j b.0 a.0 a.1 b.2 b.3)
one_fallback pkg (Fraction x) (Wide (at.Fallback k)) m n a b = absurd (over_fraction (model pkg) pkg.fallback k a.0 b.0 b.1 a.2 a.3)
one_fallback pkg (Fraction x) (Fraction y) m n a b =
    let e = fraction_fraction (model pkg) pkg.fallback a.0 b.0 a.2 a.3 b.2 b.3 in
    ap Fraction (some_same x y (slice_get pkg.names.controls b.0) (ap (slice_get pkg.names.controls) (sym e) ∙ a.1) b.1)
one_fallback pkg Memory f m n a b = absurd (m refl)
one_fallback pkg e Memory m n a b = absurd (n refl)
one_fallback pkg (Wide (at.Fallback j)) f m n a b = absurd b
one_fallback pkg (Fraction x) f m n a b = absurd b
one_fallback pkg e f m n a b = absurd a

-- ---- all stages

-- what refuses stands in one of two places on either side
one_of : {A B C D : Type 0} (R : Type 0) → (A → C → R) → (A → D → R) → (B → C → R) → (B → D → R) → A ⊎ B → C ⊎ D → R
one_of R ac ad bc bd (inl a) (inl c) = ac a c
one_of R ac ad bc bd (inl a) (inr d) = ad a d
one_of R ac ad bc bd (inr b) (inl c) = bc b c
one_of R ac ad bc bd (inr b) (inr d) = bd b d

module _ (known : Known) (flows : KnownFlows) (pkg : Package) (good : IsWellFormed pkg) where
  flow_alone : (e : MonErr) → FlowPasses pkg → RefusesFlow pkg e → e ≢ Memory → ⊥
  flow_alone e p r m = let t = told pkg e m r in t.1 (flows.alone pkg good p.flows t.0 p.are_flows t.2)

  one_flow : (e f : MonErr) → e ≢ Memory → f ≢ Memory → RefusesFlow pkg e → RefusesFlow pkg f → e ≡ f
  one_flow e f m n a b =
      let t = told pkg e m a in
      let u = told pkg f n b in
      let same = flows.one pkg good t.0 u.0 t.1 u.1 t.2 u.2 in
      one_told pkg u.0 e f good (subst (λ (d : FlowErr). TellsFlow pkg d e) same t.3) u.3

  weights_are : (a b : FlowPasses pkg) (i : ℕ) → i < length pkg.plant.slack → weight_of_flow pkg a i ≡ weight_of_flow pkg b i
  weights_are a b i l =
      let n : length pkg.plant.slack ≡ length pkg.names.states = good.plant.slack_count in
      one_weight known pkg a.flows b.flows a.are_flows b.are_flows i (omega arith)

  first_clash : (a b : FlowPasses pkg) (j k : ℕ) → j < k → IsFirstSlackOver (model pkg) (weight_of_flow pkg a) pkg.plant.slack j → SlackFitsBelow (model pkg) (weight_of_flow pkg b) pkg.plant.slack k → ⊥
  first_clash a b j k l o f =
      slack_clash (model pkg) (weight_of_flow pkg b j) o.0 (f j o.0 l o.1)
      (subst (λ (w : Weights). IsSlackOver (model pkg) w o.0) (weights_are a b j (slice_get_within pkg.plant.slack j o.0 o.1)) o.2)

  one_first : (a b : FlowPasses pkg) (j k : ℕ) → IsFirstSlackOver (model pkg) (weight_of_flow pkg a) pkg.plant.slack j → IsFirstSlackOver (model pkg) (weight_of_flow pkg b) pkg.plant.slack k → j ≡ k
  one_first a b j k o r = at_order (ordered j k)
    where
      at_order : Order j k → j ≡ k
      at_order (Below l) = absurd (first_clash a b j k l o r.3)
      at_order (Same e) = e
      at_order (Above l) = absurd (first_clash b a k j l r o.3)

  no_slack : (a : FlowPasses pkg) (s : SlackPasses pkg (length pkg.plant.slack)) (j : ℕ) → IsFirstSlackOver (model pkg) (weight_of_flow pkg a) pkg.plant.slack j → ⊥
  no_slack a s j o = first_clash a s.flow j (length pkg.plant.slack) (slice_get_within pkg.plant.slack j o.0 o.1) o s.slack

  plant_alone : (e : MonErr) → PlantPasses pkg → RefusesPlant pkg e → e ≡ Memory
  plant_alone (Wide at.Time) p r = absurd (time_clash pkg p.slack.time r.1)
  plant_alone (Wide (at.Slack i)) p r = absurd (no_slack r.0 p.slack i r.2)
  plant_alone (Wide at.Domain) p r = absurd (clash _ p.domain r.1)
  plant_alone Memory p r = refl
  plant_alone e p r = absurd r

  one_plant : (e f : MonErr) → e ≢ Memory → f ≢ Memory → RefusesPlant pkg e → RefusesPlant pkg f → e ≡ f
  one_plant (Wide at.Time) (Wide at.Time) m n a b = refl
  one_plant (Wide at.Time) (Wide (at.Slack k)) m n a b = absurd (time_clash pkg b.1 a.1)
  one_plant (Wide at.Time) (Wide at.Domain) m n a b = absurd (time_clash pkg b.0.time a.1)
  one_plant (Wide (at.Slack j)) (Wide at.Time) m n a b = absurd (time_clash pkg a.1 b.1)
  one_plant (Wide (at.Slack j)) (Wide (at.Slack k)) m n a b = ap (λ (i : ℕ). Wide (at.Slack i)) (one_first a.0 b.0 j k a.2 b.2)
  one_plant (Wide (at.Slack j)) (Wide at.Domain) m n a b = absurd (no_slack a.0 b.0 j a.2)
  one_plant (Wide at.Domain) (Wide at.Time) m n a b = absurd (time_clash pkg a.0.time b.1)
  one_plant (Wide at.Domain) (Wide (at.Slack k)) m n a b = absurd (no_slack b.0 a.0 k b.2)
  one_plant (Wide at.Domain) (Wide at.Domain) m n a b = refl
  one_plant Memory f m n a b = absurd (m refl)
  one_plant e Memory m n a b = absurd (n refl)
  one_plant (Wide at.Time) f m n a b = absurd b
  one_plant (Wide (at.Slack j)) f m n a b = absurd b
  one_plant (Wide at.Domain) f m n a b = absurd b
  one_plant e f m n a b = absurd a

  -- where the plant is refused there are flows
  flows_before : (e : MonErr) → e ≢ Memory → RefusesPlant pkg e → FlowPasses pkg
  flows_before (Wide at.Time) m r = r.0
  flows_before (Wide (at.Slack i)) m r = r.0
  flows_before (Wide at.Domain) m r = r.0.flow
  flows_before Memory m r = absurd (m refl)
  flows_before e m r = absurd r

  abbrev FromFallback : MonErr → Type 0
  FromFallback e = BeforeFlow pkg × PlantPasses pkg × RefusesFallback pkg e

  abbrev FromPlant : MonErr → Type 0
  FromPlant e = (BeforeFlow pkg × RefusesPlant pkg e) ⊎ FromFallback e

  abbrev FromFlow : MonErr → Type 0
  FromFlow e = (BeforeFlow pkg × RefusesFlow pkg e) ⊎ FromPlant e

  abbrev FromPaths : MonErr → Type 0
  FromPaths e = (FormulasPass pkg × RefusesPaths pkg e) ⊎ FromFlow e

  plant_before : (e : MonErr) → e ≢ Memory → FromPlant e → FlowPasses pkg
  plant_before e m (inl r) = flows_before e m r.1
  plant_before e m (inr r) = r.1.slack.flow

  flow_before : (e : MonErr) → FromFlow e → BeforeFlow pkg
  flow_before e (inl r) = r.0
  flow_before e (inr (inl r)) = r.0
  flow_before e (inr (inr r)) = r.0

  paths_before : (e : MonErr) → FromPaths e → FormulasPass pkg
  paths_before e (inl r) = r.0
  paths_before e (inr r) = (flow_before e r).formulas

  module _ (e f : MonErr) (m : e ≢ Memory) (n : f ≢ Memory) where
    one_from_plant : FromPlant e → FromPlant f → e ≡ f
    one_from_plant a b =
        one_of (e ≡ f)
        (λ x y. one_plant e f m n x.1 y.1)
        (λ x y. absurd (m (plant_alone e y.1 x.1)))
        (λ x y. absurd (n (plant_alone f x.1 y.1)))
        (λ x y. one_fallback pkg e f m n x.2 y.2) a b

    one_from_flow : FromFlow e → FromFlow f → e ≡ f
    one_from_flow a b =
        one_of (e ≡ f)
        (λ x y. one_flow e f m n x.1 y.1)
        (λ x y. absurd (flow_alone e (plant_before f n y) x.1 m))
        (λ x y. absurd (flow_alone f (plant_before e m x) y.1 n)) one_from_plant a b

    one_from_paths : FromPaths e → FromPaths f → e ≡ f
    one_from_paths a b =
        one_of (e ≡ f)
        (λ x y. one_paths pkg e f m n x.1 y.1)
        (λ x y. absurd (m (paths_alone pkg e (flow_before f y).ctrl x.1)))
        (λ x y. absurd (n (paths_alone pkg f (flow_before e x).ctrl y.1))) one_from_flow a b

    pub one_refusal : Refuses pkg e → Refuses pkg f → e ≡ f
    one_refusal a b =
        one_of (e ≡ f)
        (λ x y. one_formula pkg e f m n x y)
        (λ x y. absurd (m (formulas_alone pkg e (paths_before f y) x)))
        (λ x y. absurd (n (formulas_alone pkg f (paths_before e x) y))) one_from_paths a b

  -- a refusal that is due to nothing but want of memory
  memory_or : (e : MonErr) → (e ≢ Memory → ⊥) → e ≡ Memory
  memory_or Memory h = refl
  memory_or (Wide place) h = absurd (h (λ q. absurd (cc)))
  memory_or (Paths count) h = absurd (h (λ q. absurd (cc)))
  memory_or (Hidden name) h = absurd (h (λ q. absurd (cc)))
  memory_or (NotLinear name) h = absurd (h (λ q. absurd (cc)))
  memory_or (Cycle names) h = absurd (h (λ q. absurd (cc)))
  memory_or (Fraction name) h = absurd (h (λ q. absurd (cc)))
  memory_or (Cases part count) h = absurd (h (λ q. absurd (cc)))

  pub passes_alone : (e : MonErr) → Passes pkg → Refuses pkg e → e ≡ Memory
  passes_alone e p (inl r) = formulas_alone pkg e p.before.formulas r
  passes_alone e p (inr (inl r)) = paths_alone pkg e p.before.ctrl r.1
  passes_alone e p (inr (inr (inl r))) = memory_or e (λ m. flow_alone e p.plant.slack.flow r.1 m)
  passes_alone e p (inr (inr (inr (inl r)))) = plant_alone e p.plant r.1
  passes_alone e p (inr (inr (inr (inr r)))) = fallback_alone pkg e p.fallback r.2
