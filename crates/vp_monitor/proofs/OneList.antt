-- A package has one list of monitors, but for boxes.
use Rattle.std.proofs.Common.{◌≡◌, inl, inr, ℕ, suc, ◌+◌, ◌<◌, List, [], ◌∷◌, ◌++◌, length, map, refl, sym, ap, ap₂, ◌∙◌, subst, arith}
use Rattle.vp_words.specs.declared.record.Counts.{Counts}
use Rattle.vp_terms.specs.Places.{place_count}
use Rattle.vp_terms.specs.WellFormed.{IsWellFormed}
use Rattle.vp_terms.specs.declared.expr.Expr.{Expr}
use Rattle.vp_terms.specs.declared.expr.Places.{Places}
use Rattle.vp_terms.specs.declared.expr.Var.{Var}
use Rattle.vp_terms.specs.declared.formula.Formula.{Formula}
use Rattle.vp_terms.specs.declared.package.Package.{Package}
use Rattle.vp_terms.specs.declared.package.Plant.{Plant}
use Rattle.vp_terms.specs.declared.package.Slack.{Slack}
use Rattle.vp_poly.specs.declared.mono.Term.{Term}
use Rattle.vp_poly.specs.declared.scaled.Scaled.{Scaled}
use Rattle.vp_poly.specs.Canonical.{IsCanonical, own_weights, variables}
use Rattle.vp_poly.specs.Coefficient.{Coefficients, coefficients}
use Rattle.vp_poly.specs.Places.{places_for}
use Rattle.vp_poly.specs.Weights.{Weights}
use Rattle.vp_logic.specs.declared.norm.Rel.{Rel}
use Rattle.vp_logic.specs.declared.norm.Rel.TheVariants.{Ge, Eq}
use Rattle.vp_logic.specs.Normal.{IsNormal}
use Rattle.vp_logic.specs.Tree.{Tree, atom, conjuncts_of, tree}
use Rattle.vp_ctrl.specs.declared.path.Path.{Path}
use Rattle.vp_ctrl.specs.Paths.{ArePaths, parts_of}
use Rattle.vp_ctrl.specs.Ways.{Way, ways}
use Rattle.vp_flow.specs.Bounds.{bounds_of}
use Rattle.vp_flow.specs.Series.{flow_of}
use Rattle.vp_flow.specs.Sides.{AreHeights, AreRightSides, model, polys, rates_of}
use Rattle.vp_flow.specs.Outcome.{AreFlows}
use Rattle.vp_flow.specs.Weights.{flow_weight}
use Rattle.vp_monitor.specs.declared.types.Monitors.{Monitors}
use Rattle.vp_monitor.specs.Monitors.{AreMonitors, ArePolynomialsOf}
use Rattle.vp_monitor.specs.Plant.{AreAllSlackConjuncts, ArePlantConjuncts, AreSlackConjuncts, AreTimeConjuncts, IsAtomOf, IsOwnNormal, above_low, above_low_weight, arrived, below_high, below_high_weight, flow_coefficients, flow_weights, since_low, until_high}
use Rattle.vp_monitor.specs.Same.{SameMonitors}

-- what is known: polynomials, normal forms, paths, right sides and heights are unique
pub record Known : Type 0 where
  pub canonical : (d : ℕ) (f : Coefficients) (xs ys : List Term) → IsCanonical d xs f → IsCanonical d ys f → xs ≡ ys
  pub forms : (p : Places) (ws : List Weights) (c : Var → Coefficients) (f : Formula) (t u : Tree) → IsNormal p ws c f t → IsNormal p ws c f u → t ≡ u
  pub paths : (p : Places) (ws : List Way) (xs ys : List Path) → ArePaths p ws xs → ArePaths p ws ys → map parts_of xs ≡ map parts_of ys
  pub sides : (pkg : Package) (xs ys : List Scaled) → AreRightSides pkg xs → AreRightSides pkg ys → xs ≡ ys
  pub heights : (p : Places) (ss : List (List Term)) (g h : ℕ → ℕ) → AreHeights p ss g → AreHeights p ss h → (i : ℕ) → i < p.states → g i ≡ h i

module _ (known : Known) where
  pub one_form : (p : Places) (f : Formula) (t u : Tree) → IsOwnNormal p f t → IsOwnNormal p f u → t ≡ u
  one_form p f t u a b = known.forms p (own_weights (place_count p)) (variables p) f t u a b

  -- ---- the plant

  one_atom : (w : Weights) (f : Coefficients) (rel : Rel) (t u : Tree) → IsAtomOf w f rel t → IsAtomOf w f rel u → t ≡ u
  one_atom w f rel t u a b = a.is ∙ ap (atom rel) (known.canonical w.den f a.poly b.poly a.canonical b.canonical) ∙ sym b.is

  one_slack : (p : Places) (i : ℕ) (f : Coefficients) (w : Weights) (s : Slack) (ts us : List Tree) → AreSlackConjuncts p i f w s ts → AreSlackConjuncts p i f w s us → ts ≡ us
  one_slack p i f w s ts us (inl a) (inl b) =
      a.2 ∙ ap (λ (t : Tree). t ∷ []) (one_atom (above_low_weight p w s) (above_low p i f s) Eq a.1 b.1 a.3 b.3) ∙ sym b.2
  one_slack p i f w s ts us (inl a) (inr b) = absurd (b.0 a.0)
  one_slack p i f w s ts us (inr a) (inl b) = absurd (a.0 b.0)
  one_slack p i f w s ts us (inr a) (inr b) =
      a.3
      ∙ ap₂ (λ (t u : Tree). t ∷ u ∷ []) (one_atom (above_low_weight p w s) (above_low p i f s) Ge a.1 b.1 a.4 b.4)
      (one_atom (below_high_weight p w s) (below_high p i f s) Ge a.2 b.2 a.5 b.5)
      ∙ sym b.3

  -- where coefficients and weights of flows are the same for the states from i on
  all_slack : (p : Places) (f g : ℕ → Coefficients) (w v : ℕ → Weights) (i : ℕ) (ss : List Slack) (ts us : List Tree) → ((j : ℕ) → j < i + length ss → f j ≡ g j) → ((j : ℕ) → j < i + length ss → w j ≡ v j) → AreAllSlackConjuncts p f w i ss ts → AreAllSlackConjuncts p g v i ss us → ts ≡ us
  all_slack p f g w v i [] ts us h k a b = a ∙ sym b
  all_slack p f g w v i (s ∷ ss) ts us h k a b =
      let here = subst (λ (c : Coefficients). AreSlackConjuncts p i c (v i) s a.0) (h i (omega arith)) (subst (λ (u : Weights). AreSlackConjuncts p i (f i) u s a.0) (k i (omega arith)) a.3) in
      a.2
      ∙ ap₂ (λ (x y : List Tree). x ++ y) (one_slack p i (g i) (v i) s a.0 b.0 here b.3)
      (all_slack p f g w v (suc i) ss a.1 b.1 (λ j l. h j (omega arith)) (λ j l. k j (omega arith)) a.4 b.4)
      ∙ sym b.2

  pub one_sides : (pkg : Package) (xs ys : List Scaled) (a : AreFlows pkg xs) (b : AreFlows pkg ys) → a.sides ≡ b.sides
  one_sides pkg xs ys a b = known.sides pkg a.sides b.sides a.right b.right

  pub one_heights : (pkg : Package) (xs ys : List Scaled) (a : AreFlows pkg xs) (b : AreFlows pkg ys) (i : ℕ) → i < length pkg.names.states → a.heights i ≡ b.heights i
  one_heights pkg xs ys a b i l =
      known.heights (model pkg) (polys b.sides) a.heights b.heights
      (subst (λ (qs : List Scaled). AreHeights (model pkg) (polys qs) a.heights) (one_sides pkg xs ys a b) a.are_heights) b.are_heights i l

  pub one_weight : (pkg : Package) (xs ys : List Scaled) (a : AreFlows pkg xs) (b : AreFlows pkg ys) (i : ℕ) → i < length pkg.names.states → flow_weights a.sides a.heights i ≡ flow_weights b.sides b.heights i
  one_weight pkg xs ys a b i l =
      ap (λ (qs : List Scaled). flow_weight (bounds_of qs) (a.heights i)) (one_sides pkg xs ys a b)
      ∙ ap (flow_weight (bounds_of b.sides)) (one_heights pkg xs ys a b i l)

  one_time : (p : Places) (plant : Plant) (ts us : List Tree) → AreTimeConjuncts p plant ts → AreTimeConjuncts p plant us → ts ≡ us
  one_time p plant ts us a b =
      a.are
      ∙ ap₂ (λ (t u : Tree). t ∷ u ∷ []) (one_form p (since_low plant) a.low b.low a.is_low b.is_low) (one_form p (until_high plant) a.high b.high a.is_high b.is_high)
      ∙ sym b.are

  one_plant : (pkg : Package) (ts us : List Tree) → IsWellFormed pkg → ArePlantConjuncts pkg ts → ArePlantConjuncts pkg us → ts ≡ us
  one_plant pkg ts us good a b =
      let within : length pkg.plant.slack ≡ length pkg.names.states = good.plant.slack_count in
      let time = one_time (model pkg) pkg.plant a.time b.time a.are_time b.are_time in
      let slack = all_slack (model pkg) (flow_coefficients pkg a.are_flows.heights) (flow_coefficients pkg b.are_flows.heights) (flow_weights a.are_flows.sides a.are_flows.heights) (flow_weights b.are_flows.sides b.are_flows.heights) 0 pkg.plant.slack a.slack b.slack
      (λ j l. ap (flow_of (model pkg) (rates_of pkg) j) (one_heights pkg a.flows b.flows a.are_flows b.are_flows j (omega arith)))
      (λ j l. one_weight pkg a.flows b.flows a.are_flows b.are_flows j (omega arith)) a.are_slack b.are_slack in
      let domain = a.are_domain.are ∙ ap conjuncts_of (one_form (model pkg) (arrived pkg.plant) a.are_domain.form b.are_domain.form a.are_domain.is_form b.are_domain.is_form) ∙ sym b.are_domain.are in
      a.are ∙ ap₂ (λ (x y : List Tree). x ++ y) (ap₂ (λ (x y : List Tree). x ++ y) time slack) domain ∙ sym b.are

  -- ---- the fallback

  one_fallback : (p : Places) (es : List Expr) (xs ys : List (List Term)) → ArePolynomialsOf p es xs → ArePolynomialsOf p es ys → xs ≡ ys
  one_fallback p [] [] [] a b = refl
  one_fallback p [] [] (y ∷ ys) a b = absurd b
  one_fallback p [] (x ∷ xs) ys a b = absurd a
  one_fallback p (e ∷ es) [] ys a b = absurd a
  one_fallback p (e ∷ es) (x ∷ xs) [] a b = absurd b
  one_fallback p (e ∷ es) (x ∷ xs) (y ∷ ys) a b =
      ap₂ (λ (z : List Term) (zs : List (List Term)). z ∷ zs) (known.canonical 1 (coefficients (variables p) e) x y a.0 b.0) (one_fallback p es xs ys a.1 b.1)

  -- ---- all

  counts_of : Places → Counts
  counts_of p = record { params = p.params; states = p.states; controls = p.controls }

  one_counts : (a b : Counts) → places_for a ≡ places_for b → a ≡ b
  unfolding counts_of
  one_counts a b e = ap counts_of e

  pub one_monitors : (pkg : Package) → IsWellFormed pkg → (m n : Monitors) → AreMonitors pkg m → AreMonitors pkg n → SameMonitors m n
  one_monitors pkg good m n a b = record {
    counts = one_counts m.counts n.counts (a.places ∙ sym b.places);
    init = one_form (model pkg) pkg.init (tree m.init) (tree n.init) a.init b.init;
    inv = one_form (model pkg) pkg.inv (tree m.inv) (tree n.inv) a.inv b.inv;
    safe = one_form (model pkg) pkg.safe (tree m.safe) (tree n.safe) a.safe b.safe;
    paths = known.paths (model pkg) (ways pkg.ctrl) m.paths n.paths a.paths b.paths;
    plant = one_plant pkg (map tree m.plant) (map tree n.plant) good a.plant b.plant;
    fallback = one_fallback (model pkg) pkg.fallback m.fallback n.fallback a.fallback b.fallback;
  }
