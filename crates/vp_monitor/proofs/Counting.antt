-- How many conjuncts the forms of a package have.
use Rattle.std.proofs.Common.{◌≡◌, inl, inr, ℕ, suc, ◌+◌, ◌*◌, ◌<◌, ◌≤◌, ◌^◌, List, [], ◌∷◌, ◌++◌, length, map, refl, ap, ap₂, ◌∙◌, arith, length-append}
use Rattle.vp_terms.specs.WellFormed.{IsWellFormed, comparisons}
use Rattle.vp_terms.specs.declared.expr.Expr.{Expr}
use Rattle.vp_terms.specs.declared.expr.Places.{Places}
use Rattle.vp_terms.specs.declared.expr.Var.{Var}
use Rattle.vp_terms.specs.declared.formula.Cmp.{Cmp}
use Rattle.vp_terms.specs.declared.formula.Cmp.TheVariants as cmp
use Rattle.vp_terms.specs.declared.formula.Formula.{Formula}
use Rattle.vp_terms.specs.declared.formula.Formula.TheVariants.{True, Cmp as Compare, And', Or', Not'}
use Rattle.vp_terms.specs.declared.package.Package.{Package}
use Rattle.vp_terms.specs.declared.package.Slack.{Slack}
use Rattle.vp_poly.specs.declared.mono.Term.{Term}
use Rattle.vp_poly.specs.Coefficient.{Coefficients}
use Rattle.vp_poly.specs.Replaced.{formula_replaced}
use Rattle.vp_poly.specs.Weights.{Weights}
use Rattle.vp_logic.specs.declared.norm.Norm.{Norm}
use Rattle.vp_logic.specs.declared.norm.Rel.{Rel}
use Rattle.vp_logic.specs.declared.norm.Rel.TheVariants.{Ge, Gt, Eq}
use Rattle.vp_logic.specs.Normal.{IsAtom, IsComparison, IsNormal}
use Rattle.vp_logic.specs.Tree.{Tree, Trees, One, AllOf, AnyOf, None, Then, conjuncts_of, each_conjunct, negated, negated_atom, negated_each, tree}
use Rattle.vp_flow.specs.Sides.{model}
use Rattle.vp_monitor.specs.declared.types.Monitors.{Monitors}
use Rattle.vp_monitor.specs.Monitors.{AreMonitors}
use Rattle.vp_monitor.specs.Plant.{AreAllSlackConjuncts, AreSlackConjuncts, arriving, flow_coefficients, flow_weights}

-- ---- a bound on conjuncts that negation keeps

abbrev rel_weight : Rel → ℕ
rel_weight Ge = 1
rel_weight Gt = 1
rel_weight Eq = 3

abbrev mutual
  weight : Tree → ℕ
  weight (One a) = rel_weight a.rel
  weight (AllOf ns) = weights ns
  weight (AnyOf ns) = weights ns

  weights : Trees → ℕ
  weights None = 1
  weights (Then n ns) = weight n + weights ns

some_rel : (r : Rel) → 1 ≤ rel_weight r
some_rel Ge = omega arith
some_rel Gt = omega arith
some_rel Eq = omega arith

some_weight : (ns : Trees) → 1 ≤ weights ns
some_weight None = omega arith
some_weight (Then n ns) = let a = some_weight ns in omega arith

mutual
  few_conjuncts : (t : Tree) → length (conjuncts_of t) ≤ weight t
  few_conjuncts (One a) = some_rel a.rel
  few_conjuncts (AllOf ns) = few_each ns
  few_conjuncts (AnyOf ns) = some_weight ns

  few_each : (ns : Trees) → length (each_conjunct ns) ≤ weights ns
  few_each None = omega arith
  few_each (Then n ns) = let a = few_conjuncts n in let b = few_each ns in let c = length-append (conjuncts_of n) (each_conjunct ns) in omega arith

atom_weight : (r : Rel) (p : List Term) → weight (negated_atom r p) ≡ rel_weight r
atom_weight Ge p = refl
atom_weight Gt p = refl
atom_weight Eq p = refl

mutual
  negated_weight : (t : Tree) → weight (negated t) ≡ weight t
  negated_weight (One a) = atom_weight a.rel a.poly
  negated_weight (AllOf ns) = negated_weights ns
  negated_weight (AnyOf ns) = negated_weights ns

  negated_weights : (ns : Trees) → weights (negated_each ns) ≡ weights ns
  negated_weights None = refl
  negated_weights (Then n ns) = ap₂ (λ (a b : ℕ). a + b) (negated_weight n) (negated_weights ns)

-- ---- normal forms

module _ (p : Places) (ws : List Weights) (f : Var → Coefficients) where
  atom_is : (rel : Rel) (a b : Expr) (t : Tree) → IsAtom p ws f rel a b t → weight t ≡ rel_weight rel
  atom_is rel a b t i = ap weight i.1 ∙ ap rel_weight i.2.rel_is

  comparison_weight : (c : Cmp) (a b : Expr) (t : Tree) → IsComparison p ws f c a b t → weight t ≤ 3
  comparison_weight cmp.Le a b t i = let e : weight t ≡ 1 = atom_is Ge b a t i in omega arith
  comparison_weight cmp.Lt a b t i = let e : weight t ≡ 1 = atom_is Gt b a t i in omega arith
  comparison_weight cmp.Ge a b t i = let e : weight t ≡ 1 = atom_is Ge a b t i in omega arith
  comparison_weight cmp.Gt a b t i = let e : weight t ≡ 1 = atom_is Gt a b t i in omega arith
  comparison_weight cmp.Eq a b t i = let e : weight t ≡ 3 = atom_is Eq a b t i in omega arith
  comparison_weight cmp.Ne a b t i =
      let e : weight i.0 ≡ 1 = atom_is Gt a b i.0 i.3 in
      let g : weight i.1 ≡ 1 = atom_is Gt b a i.1 i.4 in
      let s : weight t ≡ weight i.0 + (weight i.1 + 1) = ap weight i.2 in
      omega arith

  normal_weight : (g : Formula) (t : Tree) → IsNormal p ws f g t → weight t + 1 ≤ 4 * comparisons g
  normal_weight True t i = let s : weight t ≡ 1 = ap weight i in omega arith
  normal_weight (Compare c a b) t i = let s = comparison_weight c a b t i in omega arith
  normal_weight (And' l a r b) t i =
      let s : weight t ≡ weight i.0 + (weight i.1 + 1) = ap weight i.2 in
      omega (arith, normal_weight a i.0 i.3, normal_weight b i.1 i.4)
  normal_weight (Or' l a r b) t i =
      let s : weight t ≡ weight i.0 + (weight i.1 + 1) = ap weight i.2 in
      omega (arith, normal_weight a i.0 i.3, normal_weight b i.1 i.4)
  normal_weight (Not' l a) t i =
      let s : weight t ≡ weight i.0 = ap weight i.1 ∙ negated_weight i.0 in
      omega (arith, normal_weight a i.0 i.2)

  normal_conjuncts : (g : Formula) (t : Tree) → IsNormal p ws f g t → length (conjuncts_of t) ≤ 4 * comparisons g
  normal_conjuncts g t i = let a = few_conjuncts t in let b = normal_weight g t i in omega arith

replaced_size : (s : Var → Expr) (f : Formula) → comparisons (formula_replaced s f) ≡ comparisons f
replaced_size s True = refl
replaced_size s (Compare c a b) = refl
replaced_size s (And' l f r g) = ap₂ (λ (a b : ℕ). a + b) (replaced_size s f) (replaced_size s g)
replaced_size s (Or' l f r g) = ap₂ (λ (a b : ℕ). a + b) (replaced_size s f) (replaced_size s g)
replaced_size s (Not' l f) = replaced_size s f

-- ---- the conjuncts of a plant

one_slack : (p : Places) (i : ℕ) (f : Coefficients) (w : Weights) (s : Slack) (ts : List Tree) → AreSlackConjuncts p i f w s ts → length ts ≤ 2
one_slack p i f w s ts (inl h) = let e : length ts ≡ 1 = ap length h.2 in omega arith
one_slack p i f w s ts (inr h) = let e : length ts ≡ 2 = ap length h.3 in omega arith

all_slack : (p : Places) (f : ℕ → Coefficients) (w : ℕ → Weights) (i : ℕ) (ss : List Slack) (ts : List Tree) → AreAllSlackConjuncts p f w i ss ts → length ts ≤ 2 * length ss
all_slack p f w i [] ts h = let e : length ts ≡ 0 = ap length h in omega arith
all_slack p f w i (s ∷ ss) ts h =
    let e : length ts ≡ length h.0 + length h.1 = ap length h.2 ∙ length-append h.0 h.1 in
    let a = one_slack p i (f i) (w i) s h.0 h.3 in
    let b = all_slack p f w (suc i) ss h.1 h.4 in
    omega arith

trees_of : (ns : List Norm) → length (map tree ns) ≡ length ns
trees_of [] = refl
trees_of (n ∷ ns) = ap suc (trees_of ns)

module _ (pkg : Package) (m : Monitors) (good : IsWellFormed pkg) (are : AreMonitors pkg m) where
  pub init_is_few : length (conjuncts_of (tree m.init)) < 2 ^ 32
  init_is_few = let a = normal_conjuncts _ _ _ pkg.init (tree m.init) are.init in let b = good.init.size in omega arith

  pub plant_is_few : length m.plant < 2 ^ 32
  plant_is_few =
      let h = are.plant in
      let t : length h.time ≡ 2 = ap length h.are_time.are in
      let s = all_slack (model pkg) (flow_coefficients pkg h.are_flows.heights) (flow_weights h.are_flows.sides h.are_flows.heights) 0 pkg.plant.slack h.slack h.are_slack in
      let c = good.plant.slack_count in
      let f : length pkg.names.states ≤ 32 = (let a = good.names.few in omega arith) in
      let d : length h.domain ≡ length (conjuncts_of h.are_domain.form) = ap length h.are_domain.are in
      let n = normal_conjuncts _ _ _ (formula_replaced arriving pkg.plant.domain) h.are_domain.form h.are_domain.is_form in
      let r = replaced_size arriving pkg.plant.domain in
      let z = good.plant.domain_size in
      let e : length (map tree m.plant) ≡ length h.time + length h.slack + length h.domain =
      ap length h.are ∙ length-append (h.time ++ h.slack) h.domain ∙ ap (λ (k : ℕ). k + length h.domain) (length-append h.time h.slack) in
      let g = trees_of m.plant in
      omega arith
