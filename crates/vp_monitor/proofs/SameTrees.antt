-- Packages with one tree have the same monitors, obligations and refusals.
use Rattle.std.proofs.Common.{◌≡◌, ◌⊎◌, inl, inr, ℕ, suc, ◌<◌, ◌≤◌, ◌-◌, ◌^◌, min, Bool, true, false, List, [], ◌∷◌, length, map, Option, None, Some, slice_get, refl, sym, ap, ap₂, ◌∙◌, subst}
use Rattle.std.specs.Prelude.{IfSome, option_map}
use Rattle.std.proofs.Math.Path.{fun_ext}
use Rattle.std.proofs.lemmas.List.{length-map}
use Rattle.std.proofs.lemmas.Option.{slice_get-map}
use Rattle.vp_terms.specs.Packages.{PackageTree, package_tree, slack_tree}
use Rattle.vp_terms.specs.Places.{place_count}
use Rattle.vp_terms.specs.Rational.{Equals, difference}
use Rattle.vp_terms.specs.Tree.{ExprTree, expr_tree, formula_tree, prog_tree}
use Rattle.vp_terms.specs.declared.expr.Expr.{Expr}
use Rattle.vp_terms.specs.declared.expr.Expr.TheVariants.{Var as Variable}
use Rattle.vp_terms.specs.declared.expr.Places.{Places}
use Rattle.vp_terms.specs.declared.expr.Var.{Var}
use Rattle.vp_terms.specs.declared.expr.Var.TheVariants.{NextControl, Tau}
use Rattle.vp_terms.specs.declared.formula.Cmp.TheVariants as cmp
use Rattle.vp_terms.specs.declared.formula.Formula.{Formula}
use Rattle.vp_terms.specs.declared.formula.Formula.TheVariants.{Cmp as Compare}
use Rattle.vp_terms.specs.declared.package.Names.{Names}
use Rattle.vp_terms.specs.declared.package.Package.{Package}
use Rattle.vp_terms.specs.declared.package.Part.{Part}
use Rattle.vp_terms.specs.declared.package.Part.TheVariants.{Init, Safe, Step, Fallback}
use Rattle.vp_terms.specs.declared.package.Slack.{Slack}
use Rattle.vp_terms.specs.declared.prog.Prog.{Prog}
use Rattle.vp_poly.specs.declared.mono.Term.{Term}
use Rattle.vp_poly.specs.declared.scaled.Scaled.{Scaled}
use Rattle.vp_poly.specs.Canonical.{IsCanonical, own_weight, own_weights, variables}
use Rattle.vp_poly.specs.Coefficient.{Coefficients, coefficients}
use Rattle.vp_poly.specs.Places.{places_for}
use Rattle.vp_poly.specs.Replaced.{formula_replaced}
use Rattle.vp_poly.specs.Weights.{Weights, fits, weight, weight_at, weight_sum}
use Rattle.vp_logic.specs.declared.norm.Rel.TheVariants as rel
use Rattle.vp_logic.specs.Narrow.{is_narrow}
use Rattle.vp_logic.specs.Normal.{IsNormal}
use Rattle.vp_logic.specs.Tree.{Tree, tree}
use Rattle.vp_ctrl.specs.declared.path.Path.{Path}
use Rattle.vp_ctrl.specs.Hidden.{first_hidden}
use Rattle.vp_ctrl.specs.Paths.{ArePaths}
use Rattle.vp_ctrl.specs.Ways.{way_count, ways}
use Rattle.vp_ctrl.specs.Widths.{ways_are_narrow}
use Rattle.vp_flow.specs.declared.error.FlowErr.{FlowErr}
use Rattle.vp_flow.specs.declared.error.FlowErr.TheVariants as flow
use Rattle.vp_flow.specs.Outcome.{AreFlows, IsFlowOf, Refuses as RefusedFlow}
use Rattle.vp_flow.specs.Series.{flow_of}
use Rattle.vp_flow.specs.Sides.{AreRightSides, model, rates_of}
use Rattle.vp_monitor.specs.declared.error.MonErr.{MonErr}
use Rattle.vp_monitor.specs.declared.error.MonErr.TheVariants.{Wide, Paths, Hidden, NotLinear, Cycle, Fraction, Cases, Memory}
use Rattle.vp_monitor.specs.declared.error.Place.TheVariants as at
use Rattle.vp_monitor.specs.declared.types.Monitors.{Monitors}
use Rattle.vp_monitor.specs.declared.types.Obligation.{Obligation}
use Rattle.vp_monitor.specs.Monitors.{AreMonitors, ArePolynomialsOf}
use Rattle.vp_monitor.specs.Obligations.{AreEquations, AreObligations, AreObligationsOf, PartLists, RefusesCases, all_parts, parts_for}
use Rattle.vp_monitor.specs.Plant.{AreAllSlackConjuncts, ArePlantConjuncts, AreSlackConjuncts, IsAtomOf, IsOwnNormal, IsTight, above_low, above_low_weight, arrived, arriving, below_high, below_high_weight, drift, drift_weight, flow_coefficients, flow_weights, since_low, span_weight, until_high}
use Rattle.vp_monitor.specs.Refusals.{BeforeFlow, CtrlPasses, FallbackGoodBelow, FlowPasses, FormulasPass, IsFallbackGood, IsFallbackOver, IsFirstSlackOver, IsFraction, IsSlackOver, IsTimeOver, Passes, PlantPasses, Refuses, RefusesFallback, RefusesFlow, RefusesFormula, RefusesPaths, RefusesPlant, SlackFits, SlackFitsBelow, SlackPasses, TimePasses, difference_fits, fits_in, weight_of_flow}

-- ---- lists with the same trees

at_alike : {A B : Type 0} (f : A → B) (xs ys : List A) → map f xs ≡ map f ys → (i : ℕ) → option_map f (slice_get xs i) ≡ option_map f (slice_get ys i)
at_alike {A} {B} f xs ys h i = sym (slice_get-map f xs i) ∙ ap (λ (zs : List B). slice_get zs i) h ∙ slice_get-map f ys i

lengths_alike : {A B : Type 0} (f : A → B) (xs ys : List A) → map f xs ≡ map f ys → length xs ≡ length ys
lengths_alike {A} {B} f xs ys h = sym (length-map xs f) ∙ ap (λ (zs : List B). length zs) h ∙ length-map ys f

fellow_of : {A B : Type 0} (f : A → B) (o r : Option A) (y : A) → option_map f o ≡ option_map f r → r ≡ Some y → (x : A) × (o ≡ Some x) × (f x ≡ f y)
fellow_of f o None y h e = absurd (cc)
fellow_of f None (Some z) y h e = absurd (cc)
fellow_of f (Some x) (Some z) y h e = (x, refl, cc)

-- what stands at a place of one list has its fellow in the other
fellow : {A B : Type 0} (f : A → B) (xs ys : List A) → map f xs ≡ map f ys → (i : ℕ) (y : A) → slice_get ys i ≡ Some y → (x : A) × (slice_get xs i ≡ Some x) × (f x ≡ f y)
fellow f xs ys h i y e = fellow_of f (slice_get xs i) (slice_get ys i) y (at_alike f xs ys h i) e

-- ---- what is known of expressions, formulas, programs and packages with one tree

pub record Known : Type 0 where
  pub weights : (env : Var → Weights) (e f : Expr) → expr_tree e ≡ expr_tree f → weight env e ≡ weight env f
  pub coefficients_are : (env : Var → Coefficients) (e f : Expr) → expr_tree e ≡ expr_tree f → coefficients env e ≡ coefficients env f
  pub forms : (p : Places) (ws : List Weights) (c : Var → Coefficients) (f g : Formula) (t : Tree) → formula_tree f ≡ formula_tree g → IsNormal p ws c f t → IsNormal p ws c g t
  pub narrow : (p : Places) (ws : List Weights) (f g : Formula) → formula_tree f ≡ formula_tree g → is_narrow p ws f ≡ is_narrow p ws g
  pub replaced : (s t : Var → Expr) → ((v : Var) → expr_tree (s v) ≡ expr_tree (t v)) → (f g : Formula) → formula_tree f ≡ formula_tree g → formula_tree (formula_replaced s f) ≡ formula_tree (formula_replaced t g)
  pub counts : (a b : Prog) → prog_tree a ≡ prog_tree b → way_count a ≡ way_count b
  pub hidden : (a b : Prog) → prog_tree a ≡ prog_tree b → first_hidden (ways a) ≡ first_hidden (ways b)
  pub narrow_ways : (p : Places) (a b : Prog) → prog_tree a ≡ prog_tree b → ways_are_narrow p (ways a) ≡ ways_are_narrow p (ways b)
  pub paths : (p : Places) (a b : Prog) (xs : List Path) → prog_tree a ≡ prog_tree b → ArePaths p (ways a) xs → ArePaths p (ways b) xs
  pub sides : (p q : Package) → package_tree p ≡ package_tree q → (qs : List Scaled) → AreRightSides p qs → AreRightSides q qs
  pub rates : (p q : Package) → package_tree p ≡ package_tree q → rates_of p ≡ rates_of q
  pub flow_refusals : (p q : Package) → package_tree p ≡ package_tree q → (e : FlowErr) → RefusedFlow p e → RefusedFlow q e

-- the package with other names
abbrev with_names : Names → Package → Package
with_names names pkg = record {
  names = names;
  init = pkg.init;
  inv = pkg.inv;
  safe = pkg.safe;
  ctrl = pkg.ctrl;
  plant = pkg.plant;
  fallback = pkg.fallback;
  certs = pkg.certs;
}

-- ---- expressions and formulas of one model

module _ (known : Known) (p : Places) where
  own_weight-alike : (e f : Expr) → expr_tree e ≡ expr_tree f → own_weight p e ≡ own_weight p f
  own_weight-alike e f h = known.weights (weight_at p (own_weights (place_count p))) e f h

  coefficients-alike : (e f : Expr) → expr_tree e ≡ expr_tree f → coefficients (variables p) e ≡ coefficients (variables p) f
  coefficients-alike e f h = known.coefficients_are (variables p) e f h

  fits-alike : (f g : Formula) → formula_tree f ≡ formula_tree g → fits_in p f ≡ fits_in p g
  fits-alike f g h = known.narrow p (own_weights (place_count p)) f g h

  difference-alike : (a b c d : Expr) → expr_tree a ≡ expr_tree c → expr_tree b ≡ expr_tree d → difference_fits p a b ≡ difference_fits p c d
  difference-alike a b c d h k = ap₂ (λ (v w : Weights). fits (weight_sum v w)) (own_weight-alike a c h) (own_weight-alike b d k)

  own-alike : (f g : Formula) (t : Tree) → formula_tree f ≡ formula_tree g → IsOwnNormal p f t → IsOwnNormal p g t
  own-alike f g t h i = known.forms p (own_weights (place_count p)) (variables p) f g t h i

  -- ---- slacks

  module _ (s r : Slack) (h : slack_tree s ≡ slack_tree r) where
    low : expr_tree s.low ≡ expr_tree r.low
    low = ap (λ (b : ExprTree × ExprTree). b.0) h

    high : expr_tree s.high ≡ expr_tree r.high
    high = ap (λ (b : ExprTree × ExprTree). b.1) h

    tight-alike : IsTight p s → IsTight p r
    tight-alike t = record {
      same = λ m.
          subst (λ (c : Coefficients). Equals (c m) (coefficients (variables p) r.low m)) (coefficients-alike s.high r.high high)
          (subst (λ (c : Coefficients). Equals (coefficients (variables p) s.high m) (c m)) (coefficients-alike s.low r.low low) (t.same m));
    }

    span-alike : span_weight p s ≡ span_weight p r
    span-alike = ap₂ weight_sum (own_weight-alike s.high r.high high) (own_weight-alike s.low r.low low)

    above_weight-alike : (w : Weights) → above_low_weight p w s ≡ above_low_weight p w r
    above_weight-alike w = ap (weight_sum (drift_weight w)) (own_weight-alike s.low r.low low)

    below_weight-alike : (w : Weights) → below_high_weight p w s ≡ below_high_weight p w r
    below_weight-alike w = ap (λ (v : Weights). weight_sum v (drift_weight w)) (own_weight-alike s.high r.high high)

    above-alike : (i : ℕ) (f : Coefficients) → above_low p i f s ≡ above_low p i f r
    above-alike i f =
        let above : Coefficients → Coefficients = λ c m. difference (drift p i f m) (c m) in
        ap above (coefficients-alike s.low r.low low)

    below-alike : (i : ℕ) (f : Coefficients) → below_high p i f s ≡ below_high p i f r
    below-alike i f =
        let below : Coefficients → Coefficients = λ c m. difference (c m) (drift p i f m) in
        ap below (coefficients-alike s.high r.high high)

  tight-back : (s r : Slack) → slack_tree s ≡ slack_tree r → (¬ IsTight p s) → ¬ IsTight p r
  tight-back s r h n t = n (tight-alike r s (sym h) t)

  conjuncts-alike : (i : ℕ) (f : Coefficients) (w : Weights) (s r : Slack) (ts : List Tree) → slack_tree s ≡ slack_tree r → AreSlackConjuncts p i f w s ts → AreSlackConjuncts p i f w r ts
  conjuncts-alike i f w s r ts h (inl c) =
      let above = subst (λ (g : Coefficients). IsAtomOf (above_low_weight p w r) g rel.Eq c.1) (above-alike s r h i f) (subst (λ (v : Weights). IsAtomOf v (above_low p i f s) rel.Eq c.1) (above_weight-alike s r h w) c.3) in
      inl (tight-alike s r h c.0, c.1, c.2, above)
  conjuncts-alike i f w s r ts h (inr c) =
      let above = subst (λ (g : Coefficients). IsAtomOf (above_low_weight p w r) g rel.Ge c.1) (above-alike s r h i f) (subst (λ (v : Weights). IsAtomOf v (above_low p i f s) rel.Ge c.1) (above_weight-alike s r h w) c.4) in
      let below = subst (λ (g : Coefficients). IsAtomOf (below_high_weight p w r) g rel.Ge c.2) (below-alike s r h i f) (subst (λ (v : Weights). IsAtomOf v (below_high p i f s) rel.Ge c.2) (below_weight-alike s r h w) c.5) in
      inr (tight-back s r h c.0, c.1, c.2, c.3, above, below)

  all_conjuncts-alike : (f : ℕ → Coefficients) (w : ℕ → Weights) (i : ℕ) (ss rs : List Slack) (ts : List Tree) → map slack_tree ss ≡ map slack_tree rs → AreAllSlackConjuncts p f w i ss ts → AreAllSlackConjuncts p f w i rs ts
  all_conjuncts-alike f w i [] [] ts h c = c
  all_conjuncts-alike f w i [] (r ∷ rs) ts h c = absurd (cc)
  all_conjuncts-alike f w i (s ∷ ss) [] ts h c = absurd (cc)
  all_conjuncts-alike f w i (s ∷ ss) (r ∷ rs) ts h c =
      let first : slack_tree s ≡ slack_tree r = cc in
      let rest : map slack_tree ss ≡ map slack_tree rs = cc in
      (c.0, c.1, c.2, conjuncts-alike i (f i) (w i) s r c.0 first c.3, all_conjuncts-alike f w (suc i) ss rs c.1 rest c.4)

  over-alike : (w : Weights) (s r : Slack) → slack_tree s ≡ slack_tree r → IsSlackOver p w s → IsSlackOver p w r
  over-alike w s r h (inl o) = inl (ap fits (sym (span-alike s r h)) ∙ o)
  over-alike w s r h (inr (inl o)) = inr (inl (ap fits (sym (above_weight-alike s r h w)) ∙ o))
  over-alike w s r h (inr (inr o)) = inr (inr (tight-back s r h o.0, ap fits (sym (below_weight-alike s r h w)) ∙ o.1))

  slack_fits-alike : (w : Weights) (s r : Slack) → slack_tree s ≡ slack_tree r → SlackFits p w s → SlackFits p w r
  slack_fits-alike w s r h f = record {
    span = ap fits (sym (span-alike s r h)) ∙ f.span;
    low = ap fits (sym (above_weight-alike s r h w)) ∙ f.low;
    high = λ n. ap fits (sym (below_weight-alike s r h w)) ∙ f.high (tight-back r s (sym h) n);
  }

  fit_below-alike : (w : ℕ → Weights) (ss rs : List Slack) (n : ℕ) → map slack_tree ss ≡ map slack_tree rs → SlackFitsBelow p w ss n → SlackFitsBelow p w rs n
  fit_below-alike w ss rs n h f i r l e =
      let s = fellow slack_tree ss rs h i r e in
      slack_fits-alike (w i) s.0 r s.2 (f i s.0 l s.1)

  first_over-alike : (w : ℕ → Weights) (ss rs : List Slack) (i : ℕ) → map slack_tree ss ≡ map slack_tree rs → IsFirstSlackOver p w ss i → IsFirstSlackOver p w rs i
  first_over-alike w ss rs i h f =
      let r = fellow slack_tree rs ss (sym h) i f.0 f.1 in
      (r.0, r.1, over-alike (w i) f.0 r.0 (sym r.2) f.2, fit_below-alike w ss rs i h f.3)

  -- ---- the fallback

  polynomials-alike : (es fs : List Expr) (qs : List (List Term)) → map expr_tree es ≡ map expr_tree fs → ArePolynomialsOf p es qs → ArePolynomialsOf p fs qs
  polynomials-alike [] [] qs h a = a
  polynomials-alike [] (f ∷ fs) qs h a = absurd (cc)
  polynomials-alike (e ∷ es) [] qs h a = absurd (cc)
  polynomials-alike (e ∷ es) (f ∷ fs) [] h a = absurd a
  polynomials-alike (e ∷ es) (f ∷ fs) (q ∷ qs) h a =
      let first : expr_tree e ≡ expr_tree f = cc in
      let rest : map expr_tree es ≡ map expr_tree fs = cc in
      (subst (λ (c : Coefficients). IsCanonical 1 q c) (coefficients-alike e f first) a.0, polynomials-alike es fs qs rest a.1)

  equations-alike : (k : ℕ) (es fs : List Expr) (ts : List Tree) → map expr_tree es ≡ map expr_tree fs → AreEquations p k es ts → AreEquations p k fs ts
  equations-alike k [] [] ts h a = a
  equations-alike k [] (f ∷ fs) ts h a = absurd (cc)
  equations-alike k (e ∷ es) [] ts h a = absurd (cc)
  equations-alike k (e ∷ es) (f ∷ fs) [] h a = absurd a
  equations-alike k (e ∷ es) (f ∷ fs) (t ∷ ts) h a =
      let first : expr_tree e ≡ expr_tree f = cc in
      let rest : map expr_tree es ≡ map expr_tree fs = cc in
      let same : formula_tree (Compare cmp.Eq (Variable (NextControl k)) e) ≡ formula_tree (Compare cmp.Eq (Variable (NextControl k)) f) = cc in
      (own-alike (Compare cmp.Eq (Variable (NextControl k)) e) (Compare cmp.Eq (Variable (NextControl k)) f) t same a.0, equations-alike (suc k) es fs ts rest a.1)

  next-alike : (k : ℕ) (e f : Expr) → expr_tree e ≡ expr_tree f → difference_fits p (Variable (NextControl k)) e ≡ difference_fits p (Variable (NextControl k)) f
  next-alike k e f h = difference-alike (Variable (NextControl k)) e (Variable (NextControl k)) f refl h

  good-alike : (k : ℕ) (e f : Expr) → expr_tree e ≡ expr_tree f → IsFallbackGood p k e → IsFallbackGood p k f
  good-alike k e f h g = record { fits = sym (next-alike k e f h) ∙ g.fits; whole = sym (ap (λ (w : Weights). w.den) (own_weight-alike e f h)) ∙ g.whole }

  good_below-alike : (es fs : List Expr) (n : ℕ) → map expr_tree es ≡ map expr_tree fs → FallbackGoodBelow p es n → FallbackGoodBelow p fs n
  good_below-alike es fs n h g k f l q =
      let e = fellow expr_tree es fs h k f q in
      good-alike k e.0 f e.2 (g k e.0 l e.1)

  fallback_over-alike : (es fs : List Expr) (k : ℕ) → map expr_tree es ≡ map expr_tree fs → IsFallbackOver p es k → IsFallbackOver p fs k
  fallback_over-alike es fs k h o =
      let f = fellow expr_tree fs es (sym h) k o.0 o.1 in
      (f.0, f.1, next-alike k f.0 o.0 f.2 ∙ o.2)

  fraction-alike : (es fs : List Expr) (k : ℕ) → map expr_tree es ≡ map expr_tree fs → IsFraction p es k → IsFraction p fs k
  fraction-alike es fs k h o =
      let f = fellow expr_tree fs es (sym h) k o.0 o.1 in
      (f.0, f.1, next-alike k f.0 o.0 f.2 ∙ o.2, λ e. o.3 (sym (ap (λ (w : Weights). w.den) (own_weight-alike f.0 o.0 f.2)) ∙ e))

-- ---- packages with the same names

module _ (known : Known) (n : Names) (first second : Package) (h : package_tree (with_names n first) ≡ package_tree (with_names n second)) where
  abbrev p : Package
  p = with_names n first

  abbrev q : Package
  q = with_names n second

  init_is : formula_tree p.init ≡ formula_tree q.init
  init_is = ap (λ (k : PackageTree). k.init) h

  inv_is : formula_tree p.inv ≡ formula_tree q.inv
  inv_is = ap (λ (k : PackageTree). k.inv) h

  safe_is : formula_tree p.safe ≡ formula_tree q.safe
  safe_is = ap (λ (k : PackageTree). k.safe) h

  ctrl_is : prog_tree p.ctrl ≡ prog_tree q.ctrl
  ctrl_is = ap (λ (k : PackageTree). k.ctrl) h

  low_is : expr_tree p.plant.low ≡ expr_tree q.plant.low
  low_is = ap (λ (k : PackageTree). k.low) h

  high_is : expr_tree p.plant.high ≡ expr_tree q.plant.high
  high_is = ap (λ (k : PackageTree). k.high) h

  slack_is : map slack_tree p.plant.slack ≡ map slack_tree q.plant.slack
  slack_is = ap (λ (k : PackageTree). k.slack) h

  domain_is : formula_tree p.plant.domain ≡ formula_tree q.plant.domain
  domain_is = ap (λ (k : PackageTree). k.domain) h

  fallback_is : map expr_tree p.fallback ≡ map expr_tree q.fallback
  fallback_is = ap (λ (k : PackageTree). k.fallback) h

  arrived_is : formula_tree (arrived p.plant) ≡ formula_tree (arrived q.plant)
  arrived_is = known.replaced arriving arriving (λ v. refl) p.plant.domain q.plant.domain domain_is

  -- ---- flows

  flow_alike : (qs : List Scaled) (i k : ℕ) (o : Option Scaled) → IfSome o (IsFlowOf p qs i k) → IfSome o (IsFlowOf q qs i k)
  flow_alike qs i k None f = tt
  flow_alike qs i k (Some s) f = record {
    weight = f.weight;
    weighed = f.weighed;
    canonical = subst (λ (r : ℕ → Coefficients). IsCanonical s.weight.den s.poly (flow_of (model q) r i k)) (known.rates p q h) f.canonical;
  }

  abbrev flows_alike : (flows : List Scaled) → AreFlows p flows → AreFlows q flows
  flows_alike flows a = record {
    sides = a.sides;
    right = known.sides p q h a.sides a.right;
    linear = record { each = a.linear.each };
    heights = a.heights;
    are_heights = a.are_heights;
    count = a.count;
    each = λ i. flow_alike a.sides i (a.heights i) (slice_get flows i) (a.each i);
  }

  abbrev flow_passes : FlowPasses p → FlowPasses q
  flow_passes f = record { flows = f.flows; are_flows = flows_alike f.flows f.are_flows }

  -- ---- monitors

  plant_alike : (ts : List Tree) → ArePlantConjuncts p ts → ArePlantConjuncts q ts
  plant_alike ts a = record {
    flows = a.flows;
    are_flows = flows_alike a.flows a.are_flows;
    time = a.time;
    slack = a.slack;
    domain = a.domain;
    are = a.are;
    are_time = record {
      low = a.are_time.low;
      high = a.are_time.high;
      are = a.are_time.are;
      is_low = own-alike known (model q) (since_low p.plant) (since_low q.plant) a.are_time.low (let e = low_is in cc) a.are_time.is_low;
      is_high = own-alike known (model q) (until_high p.plant) (until_high q.plant) a.are_time.high (let e = high_is in cc) a.are_time.is_high;
    };
    are_slack = all_conjuncts-alike known (model q) (flow_coefficients q a.are_flows.heights) (flow_weights a.are_flows.sides a.are_flows.heights) 0 p.plant.slack q.plant.slack a.slack slack_is
        (subst (λ (r : ℕ → Coefficients). AreAllSlackConjuncts (model q) (λ i. flow_of (model q) r i (a.are_flows.heights i)) (flow_weights a.are_flows.sides a.are_flows.heights) 0 p.plant.slack a.slack) (known.rates p q h) a.are_slack);
    are_domain = record {
      form = a.are_domain.form;
      are = a.are_domain.are;
      is_form = own-alike known (model q) (arrived p.plant) (arrived q.plant) a.are_domain.form arrived_is a.are_domain.is_form;
    };
  }

  monitors_alike : (m : Monitors) → AreMonitors p m → AreMonitors q m
  monitors_alike m a = record {
    places = a.places;
    init = own-alike known (model q) p.init q.init (tree m.init) init_is a.init;
    inv = own-alike known (model q) p.inv q.inv (tree m.inv) inv_is a.inv;
    safe = own-alike known (model q) p.safe q.safe (tree m.safe) safe_is a.safe;
    paths = known.paths (model q) p.ctrl q.ctrl m.paths ctrl_is a.paths;
    plant = plant_alike (map tree m.plant) a.plant;
    fallback = polynomials-alike known (model q) p.fallback q.fallback m.fallback fallback_is a.fallback;
  }

  -- ---- what passes

  formulas_alike : FormulasPass p → FormulasPass q
  formulas_alike f = record {
    init = sym (fits-alike known (model q) p.init q.init init_is) ∙ f.init;
    inv = sym (fits-alike known (model q) p.inv q.inv inv_is) ∙ f.inv;
    safe = sym (fits-alike known (model q) p.safe q.safe safe_is) ∙ f.safe;
  }

  ctrl_alike : CtrlPasses p → CtrlPasses q
  ctrl_alike c = record {
    few = subst (λ (k : ℕ). k ≤ 256) (known.counts p.ctrl q.ctrl ctrl_is) c.few;
    unhidden = sym (known.hidden p.ctrl q.ctrl ctrl_is) ∙ c.unhidden;
    narrow = sym (known.narrow_ways (model q) p.ctrl q.ctrl ctrl_is) ∙ c.narrow;
  }

  before_alike : BeforeFlow p → BeforeFlow q
  before_alike b = record { formulas = formulas_alike b.formulas; ctrl = ctrl_alike b.ctrl }

  since_alike : difference_fits (model q) (Variable Tau) p.plant.low ≡ difference_fits (model q) (Variable Tau) q.plant.low
  since_alike = difference-alike known (model q) (Variable Tau) p.plant.low (Variable Tau) q.plant.low refl low_is

  until_alike : difference_fits (model q) p.plant.high (Variable Tau) ≡ difference_fits (model q) q.plant.high (Variable Tau)
  until_alike = difference-alike known (model q) p.plant.high (Variable Tau) q.plant.high (Variable Tau) high_is refl

  time_alike : TimePasses (model q) p.plant → TimePasses (model q) q.plant
  time_alike t = record { low = sym since_alike ∙ t.low; high = sym until_alike ∙ t.high }

  slack_alike : SlackPasses p (length p.plant.slack) → SlackPasses q (length q.plant.slack)
  slack_alike s = record {
    flow = flow_passes s.flow;
    time = time_alike s.time;
    slack = fit_below-alike known (model q) (weight_of_flow p s.flow) p.plant.slack q.plant.slack (length q.plant.slack) slack_is
        (subst (SlackFitsBelow (model q) (weight_of_flow p s.flow) p.plant.slack) (lengths_alike slack_tree p.plant.slack q.plant.slack slack_is) s.slack);
  }

  plant_passes : PlantPasses p → PlantPasses q
  plant_passes a = record { slack = slack_alike a.slack; domain = sym (fits-alike known (model q) (arrived p.plant) (arrived q.plant) arrived_is) ∙ a.domain }

  passes_alike : Passes p → Passes q
  passes_alike a = record {
    before = before_alike a.before;
    plant = plant_passes a.plant;
    fallback = good_below-alike known (model q) p.fallback q.fallback (length q.fallback) fallback_is
        (subst (FallbackGoodBelow (model q) p.fallback) (lengths_alike expr_tree p.fallback q.fallback fallback_is) a.fallback);
  }

  -- ---- refusals

  not_init : (b : Bool) → fits_in (model q) p.init ≡ b → fits_in (model q) q.init ≡ b
  not_init b e = sym (fits-alike known (model q) p.init q.init init_is) ∙ e

  not_inv : (b : Bool) → fits_in (model q) p.inv ≡ b → fits_in (model q) q.inv ≡ b
  not_inv b e = sym (fits-alike known (model q) p.inv q.inv inv_is) ∙ e

  refuses_formula : (e : MonErr) → RefusesFormula p e → RefusesFormula q e
  refuses_formula (Wide at.Init) r = not_init false r
  refuses_formula (Wide at.Inv) r = (not_init true r.0, not_inv false r.1)
  refuses_formula (Wide at.Safe) r = (not_init true r.0, not_inv true r.1, sym (fits-alike known (model q) p.safe q.safe safe_is) ∙ r.2)
  refuses_formula Memory r = tt
  refuses_formula e r = absurd r

  few_ways : way_count p.ctrl ≤ 256 → way_count q.ctrl ≤ 256
  few_ways l = subst (λ (k : ℕ). k ≤ 256) (known.counts p.ctrl q.ctrl ctrl_is) l

  refuses_paths : (e : MonErr) → RefusesPaths p e → RefusesPaths q e
  refuses_paths (Wide at.Ctrl) r =
      (few_ways r.0, sym (known.hidden p.ctrl q.ctrl ctrl_is) ∙ r.1, sym (known.narrow_ways (model q) p.ctrl q.ctrl ctrl_is) ∙ r.2)
  refuses_paths (Paths count) r =
      subst (λ (k : ℕ). (256 < k) × (count ≡ min k (2 ^ 64 - 1))) (known.counts p.ctrl q.ctrl ctrl_is) r
  refuses_paths (Hidden name) r = (few_ways r.0, r.1, sym (known.hidden p.ctrl q.ctrl ctrl_is) ∙ r.2, r.3)
  refuses_paths Memory r = tt
  refuses_paths e r = absurd r

  refuses_rates : (name : List ℕ) → RefusedFlow p (flow.Rate name) ⊎ RefusedFlow p (flow.Wide name) → RefusedFlow q (flow.Rate name) ⊎ RefusedFlow q (flow.Wide name)
  refuses_rates name (inl r) = inl (known.flow_refusals p q h (flow.Rate name) r)
  refuses_rates name (inr r) = inr (known.flow_refusals p q h (flow.Wide name) r)

  refuses_flow : (e : MonErr) → RefusesFlow p e → RefusesFlow q e
  refuses_flow (Wide (at.Flow i)) r = (r.0, r.1, refuses_rates r.0 r.2)
  refuses_flow (NotLinear name) r = known.flow_refusals p q h (flow.NotLinear name) r
  refuses_flow (Cycle names) r = known.flow_refusals p q h (flow.Cycle names) r
  refuses_flow Memory r = tt
  refuses_flow e r = absurd r

  time_over : IsTimeOver (model q) p.plant → IsTimeOver (model q) q.plant
  time_over (inl o) = inl (sym since_alike ∙ o)
  time_over (inr o) = inr (sym until_alike ∙ o)

  refuses_plant : (e : MonErr) → RefusesPlant p e → RefusesPlant q e
  refuses_plant (Wide at.Time) r = (flow_passes r.0, time_over r.1)
  refuses_plant (Wide (at.Slack i)) r =
      (flow_passes r.0, time_alike r.1, first_over-alike known (model q) (weight_of_flow p r.0) p.plant.slack q.plant.slack i slack_is r.2)
  refuses_plant (Wide at.Domain) r = (slack_alike r.0, sym (fits-alike known (model q) (arrived p.plant) (arrived q.plant) arrived_is) ∙ r.1)
  refuses_plant Memory r = tt
  refuses_plant e r = absurd r

  good_below : (k : ℕ) → FallbackGoodBelow (model q) p.fallback k → FallbackGoodBelow (model q) q.fallback k
  good_below k g = good_below-alike known (model q) p.fallback q.fallback k fallback_is g

  refuses_fallback : (e : MonErr) → RefusesFallback p e → RefusesFallback q e
  refuses_fallback (Wide (at.Fallback k)) r = (fallback_over-alike known (model q) p.fallback q.fallback k fallback_is r.0, good_below k r.1)
  refuses_fallback (Fraction name) r = (r.0, r.1, fraction-alike known (model q) p.fallback q.fallback r.0 fallback_is r.2, good_below r.0 r.3)
  refuses_fallback Memory r = tt
  refuses_fallback e r = absurd r

  refuses_alike : (e : MonErr) → Refuses p e → Refuses q e
  refuses_alike e (inl r) = inl (refuses_formula e r)
  refuses_alike e (inr (inl r)) = inr (inl (formulas_alike r.0, refuses_paths e r.1))
  refuses_alike e (inr (inr (inl r))) = inr (inr (inl (before_alike r.0, refuses_flow e r.1)))
  refuses_alike e (inr (inr (inr (inl r)))) = inr (inr (inr (inl (before_alike r.0, refuses_plant e r.1))))
  refuses_alike e (inr (inr (inr (inr r)))) = inr (inr (inr (inr (before_alike r.0, plant_passes r.1, refuses_fallback e r.2))))

-- ---- any packages with one tree

module _ (known : Known) (p q : Package) (h : package_tree p ≡ package_tree q) where
  names_are : p.names ≡ q.names
  names_are = ap (λ (k : PackageTree). k.names) h

  named : package_tree (with_names q.names p) ≡ package_tree (with_names q.names q)
  named = subst (λ (n : Names). package_tree (with_names n p) ≡ package_tree q) names_are h

  pub same_monitors : (m : Monitors) → AreMonitors p m → AreMonitors q m
  same_monitors m a = monitors_alike known q.names p q named m (subst (λ (n : Names). AreMonitors (with_names n p) m) names_are a)

  pub same_passes : Passes p → Passes q
  same_passes a = passes_alike known q.names p q named (subst (λ (n : Names). Passes (with_names n p)) names_are a)

  pub same_refusals : (e : MonErr) → Refuses p e → Refuses q e
  same_refusals e r = refuses_alike known q.names p q named e (subst (λ (n : Names). Refuses (with_names n p) e) names_are r)

  abbrev part_lists : (m : Monitors) → PartLists p m → PartLists q m
  part_lists m l = record {
    step = l.step;
    fallback = l.fallback;
    are_step = l.are_step;
    are_fallback = record {
      equations = l.are_fallback.equations;
      is = l.are_fallback.is;
      are_equations = equations-alike known (places_for m.counts) 0 p.fallback q.fallback l.are_fallback.equations (ap (λ (k : PackageTree). k.fallback) h) l.are_fallback.are_equations;
    };
  }

  pub same_obligations : (m : Monitors) (os : List Obligation) → AreObligations p m os → AreObligations q m os
  same_obligations m os a = record { lists_of = part_lists m a.lists_of; are = obligations_alike all_parts os a.are }
    where
      parts_alike : (part : Part) → parts_for a.lists_of part ≡ parts_for (part_lists m a.lists_of) part
      parts_alike Init = refl
      parts_alike Safe = refl
      parts_alike Step = refl
      parts_alike Fallback = refl

      obligations_alike : (ps : List Part) (rs : List Obligation) → AreObligationsOf (parts_for a.lists_of) ps rs → AreObligationsOf (parts_for (part_lists m a.lists_of)) ps rs
      obligations_alike ps rs b = subst (λ (f : Part → List Tree). AreObligationsOf f ps rs) (fun_ext parts_alike) b

  pub same_cases : (m : Monitors) (e : MonErr) → RefusesCases p m e → RefusesCases q m e
  same_cases m (Cases part count) r = (part_lists m r.0, r.1)
  same_cases m Memory r = tt
  same_cases m e r = absurd r
