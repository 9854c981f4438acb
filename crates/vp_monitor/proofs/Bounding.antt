-- How many atoms the parts of obligations have.
use Rattle.std.proofs.Common.{◌≡◌, inl, inr, ℕ, suc, ◌+◌, ◌*◌, ◌<◌, ◌≤◌, ◌^◌, List, [], ◌∷◌, ◌++◌, length, map, refl, sym, ap, ap₂, ◌∙◌, arith, append_assoc, length-append}
use Rattle.std.proofs.Math.Nat.{mul-le-mul_right}
use Rattle.vp_terms.specs.WellFormed.{IsWellFormed, comparisons as size_of, prog_comparisons}
use Rattle.vp_terms.specs.declared.expr.Expr.{Expr}
use Rattle.vp_terms.specs.declared.expr.Places.{Places}
use Rattle.vp_terms.specs.declared.expr.Var.{Var}
use Rattle.vp_terms.specs.declared.formula.Formula.{Formula}
use Rattle.vp_terms.specs.declared.formula.Formula.TheVariants.{True, Cmp as Compare, And', Or', Not'}
use Rattle.vp_terms.specs.declared.package.Package.{Package}
use Rattle.vp_terms.specs.declared.package.Slack.{Slack}
use Rattle.vp_terms.specs.declared.prog.Prog.{Prog}
use Rattle.vp_poly.specs.Coefficient.{Coefficients}
use Rattle.vp_poly.specs.Replaced.{formula_replaced}
use Rattle.vp_poly.specs.Weights.{Weights}
use Rattle.vp_logic.specs.declared.norm.Atom.{Atom}
use Rattle.vp_logic.specs.Narrow.{comparisons}
use Rattle.vp_logic.specs.Normal.{IsNormal}
use Rattle.vp_logic.specs.Renamed.{IsRenamed}
use Rattle.vp_logic.specs.Tree.{Tree, Trees, One, AllOf, AnyOf, None, Then, all_atoms, atoms_of, atoms_each, conjuncts_of, each_conjunct, members, negated, tree}
use Rattle.vp_ctrl.specs.declared.path.Path.{Path}
use Rattle.vp_ctrl.specs.Paths.{ArePaths, EachPathHasFew, parts_of}
use Rattle.vp_ctrl.specs.Ways.{Way, way_count, ways}
use Rattle.vp_flow.specs.Sides.{model}
use Rattle.vp_monitor.specs.declared.types.Monitors.{Monitors}
use Rattle.vp_monitor.specs.Monitors.{AreMonitors}
use Rattle.vp_monitor.specs.Obligations.{AreEquations, AreFallbackParts, AreStepParts, EachIsRenamed, init_parts, path_tree, safe_parts}
use Rattle.vp_monitor.specs.Plant.{AreAllSlackConjuncts, AreSlackConjuncts, IsOwnNormal, arriving, flow_coefficients, flow_weights}
use Rattle.vp_monitor.specs.Refusals.{Passes}

-- what is known of the number of atoms
pub record Bounds : Type 0 where
  pub normal : (p : Places) (ws : List Weights) (c : Var → Coefficients) (f : Formula) (t : Tree) → IsNormal p ws c f t → length (atoms_of t) ≤ 2 * comparisons f
  pub negates : (t : Tree) → length (atoms_of (negated t)) ≤ 2 * length (atoms_of t)
  pub renamed : (to : List ℕ) (t u : Tree) → IsRenamed to t u → length (atoms_of u) ≡ length (atoms_of t)
  pub path_count : (p : Places) (ws : List Way) (xs : List Path) → ArePaths p ws xs → length xs ≡ length ws
  pub path_atoms : (p : Places) (prog : Prog) (xs : List Path) → ArePaths p (ways prog) xs → EachPathHasFew (4 * (prog_comparisons prog + p.controls)) xs
  pub way_counts : (prog : Prog) → length (ways prog) ≡ way_count prog

-- ---- comparisons of formulas

few_comparisons : (f : Formula) → comparisons f ≤ size_of f
few_comparisons True = omega arith
few_comparisons (Compare c a b) = omega arith
few_comparisons (And' l f r g) = let a = few_comparisons f in let b = few_comparisons g in omega arith
few_comparisons (Or' l f r g) = let a = few_comparisons f in let b = few_comparisons g in omega arith
few_comparisons (Not' l f) = few_comparisons f

replaced_comparisons : (s : Var → Expr) (f : Formula) → comparisons (formula_replaced s f) ≡ comparisons f
replaced_comparisons s True = refl
replaced_comparisons s (Compare c a b) = refl
replaced_comparisons s (And' l f r g) = ap₂ (λ (a b : ℕ). a + b) (replaced_comparisons s f) (replaced_comparisons s g)
replaced_comparisons s (Or' l f r g) = ap₂ (λ (a b : ℕ). a + b) (replaced_comparisons s f) (replaced_comparisons s g)
replaced_comparisons s (Not' l f) = replaced_comparisons s f

-- ---- atoms of lists

pub atoms-append : (ts us : List Tree) → length (all_atoms (ts ++ us)) ≡ length (all_atoms ts) + length (all_atoms us)
atoms-append [] us = let e : length (all_atoms us) ≡ 0 + length (all_atoms us) = omega arith in e
atoms-append (t ∷ ts) us = let a = atoms-append ts us in let b = length-append (atoms_of t) (all_atoms (ts ++ us)) in let c = length-append (atoms_of t) (all_atoms ts) in omega arith

atoms-members : (ts : List Tree) → atoms_each (members ts) ≡ all_atoms ts
atoms-members [] = refl
atoms-members (t ∷ ts) = ap (λ (atoms : List Atom). atoms_of t ++ atoms) (atoms-members ts)

atoms-joined : (ts us : List Tree) → all_atoms (ts ++ us) ≡ all_atoms ts ++ all_atoms us
atoms-joined [] us = refl
atoms-joined (t ∷ ts) us = ap (λ (atoms : List Atom). atoms_of t ++ atoms) (atoms-joined ts us) ∙ sym (append_assoc (atoms_of t) (all_atoms ts) (all_atoms us))

no_more : (atoms : List Atom) → atoms ++ [] ≡ atoms
no_more [] = refl
no_more (a ∷ atoms) = ap (λ (bs : List Atom). a ∷ bs) (no_more atoms)

mutual
  conjunct_atoms : (t : Tree) → all_atoms (conjuncts_of t) ≡ atoms_of t
  conjunct_atoms (One a) = refl
  conjunct_atoms (AllOf ns) = each_conjunct_atoms ns
  conjunct_atoms (AnyOf ns) = no_more (atoms_each ns)

  each_conjunct_atoms : (ns : Trees) → all_atoms (each_conjunct ns) ≡ atoms_each ns
  each_conjunct_atoms None = refl
  each_conjunct_atoms (Then n ns) = atoms-joined (conjuncts_of n) (each_conjunct ns) ∙ ap₂ (λ (a b : List Atom). a ++ b) (conjunct_atoms n) (each_conjunct_atoms ns)

-- ---- atoms of paths

paths_atoms : (n : ℕ) (xs : List Path) → EachPathHasFew n xs → length (all_atoms (map path_tree xs)) ≤ length xs * n
paths_atoms n [] h = omega arith
paths_atoms n (x ∷ xs) h =
    let a = paths_atoms n xs h.1 in
    let b = length-append (atoms_of (path_tree x)) (all_atoms (map path_tree xs)) in
    let c : length (atoms_of (path_tree x)) ≡ length (all_atoms (parts_of x)) = ap length (atoms-members (parts_of x)) in
    let d = h.0 in
    let e : length (x ∷ xs) * n ≡ n + length xs * n = omega arith in
    omega arith

denied_atoms : Bounds → (xs : List Path) → length (all_atoms (map (λ path. negated (path_tree path)) xs)) ≤ 2 * length (all_atoms (map path_tree xs))
denied_atoms law [] = omega arith
denied_atoms law (x ∷ xs) =
    let a = denied_atoms law xs in
    let b = length-append (atoms_of (path_tree x)) (all_atoms (map path_tree xs)) in
    let c = length-append (atoms_of (negated (path_tree x))) (all_atoms (map (λ path. negated (path_tree path)) xs)) in
    let d = law.negates (path_tree x) in
    omega arith

-- ---- atoms of the other parts

renamed_atoms : Bounds → (to : List ℕ) (ts us : List Tree) → EachIsRenamed to ts us → length (all_atoms us) ≡ length (all_atoms ts)
renamed_atoms law to [] [] h = refl
renamed_atoms law to [] (u ∷ us) h = absurd h
renamed_atoms law to (t ∷ ts) [] h = absurd h
renamed_atoms law to (t ∷ ts) (u ∷ us) h =
    length-append (atoms_of u) (all_atoms us) ∙ ap₂ (λ (a b : ℕ). a + b) (law.renamed to t u h.0) (renamed_atoms law to ts us h.1) ∙ sym (length-append (atoms_of t) (all_atoms ts))

equation_atoms : (p : Places) (k : ℕ) (es : List Expr) (ts : List Tree) → AreEquations p k es ts → length (all_atoms ts) ≡ length es
equation_atoms p k [] [] h = refl
equation_atoms p k [] (t ∷ ts) h = absurd h
equation_atoms p k (e ∷ es) [] h = absurd h
equation_atoms p k (e ∷ es) (t ∷ ts) h =
    length-append (atoms_of t) (all_atoms ts) ∙ ap₂ (λ (a b : ℕ). a + b) (ap (λ (u : Tree). length (atoms_of u)) h.0.1) (equation_atoms p (suc k) es ts h.1) ∙ (let e : 1 + length es ≡ suc (length es) = omega arith in e)

slack_of_one : (p : Places) (i : ℕ) (f : Coefficients) (w : Weights) (s : Slack) (ts : List Tree) → AreSlackConjuncts p i f w s ts → length (all_atoms ts) ≤ 2
slack_of_one p i f w s ts (inl h) =
    let e : length (all_atoms ts) ≡ 1 = ap (λ (us : List Tree). length (all_atoms us)) (h.2 ∙ ap (λ (u : Tree). u ∷ []) h.3.is) in
    omega arith
slack_of_one p i f w s ts (inr h) =
    let e : length (all_atoms ts) ≡ 2 = ap (λ (us : List Tree). length (all_atoms us)) (h.3 ∙ ap₂ (λ (u v : Tree). u ∷ v ∷ []) h.4.is h.5.is) in
    omega arith

slack_atoms : (p : Places) (f : ℕ → Coefficients) (w : ℕ → Weights) (i : ℕ) (ss : List Slack) (ts : List Tree) → AreAllSlackConjuncts p f w i ss ts → length (all_atoms ts) ≤ 2 * length ss
slack_atoms p f w i [] ts h = let e : length (all_atoms ts) ≡ 0 = ap (λ (us : List Tree). length (all_atoms us)) h in omega arith
slack_atoms p f w i (s ∷ ss) ts h =
    let e : length (all_atoms ts) ≡ length (all_atoms h.0) + length (all_atoms h.1) = ap (λ (us : List Tree). length (all_atoms us)) h.2 ∙ atoms-append h.0 h.1 in
    let a = slack_of_one p i (f i) (w i) s h.0 h.3 in
    let b = slack_atoms p f w (suc i) ss h.1 h.4 in
    omega arith

-- ---- all parts

module _ (law : Bounds) (pkg : Package) (m : Monitors) (good : IsWellFormed pkg) (are : AreMonitors pkg m) (passes : Passes pkg) where
  of_formula : (f : Formula) (t : Tree) → IsOwnNormal (model pkg) f t → size_of f ≤ 2048 → length (atoms_of t) ≤ 4096
  of_formula f t h l = let a = law.normal _ _ _ f t h in let b = few_comparisons f in omega arith

  inv_atoms : length (atoms_of (tree m.inv)) ≤ 4096
  inv_atoms = of_formula pkg.inv (tree m.inv) are.inv good.inv.size

  few_paths : length m.paths ≤ 256
  few_paths = let a = law.path_count (model pkg) (ways pkg.ctrl) m.paths are.paths in let b = law.way_counts pkg.ctrl in let c = passes.before.ctrl.few in omega arith

  few_controls : length pkg.names.controls ≤ 32
  few_controls = let a = good.names.few in omega arith

  few_states : length pkg.names.states ≤ 32
  few_states = let a = good.names.few in omega arith

  all_paths : length (all_atoms (map path_tree m.paths)) ≤ 256 * 8320
  all_paths =
      let a = paths_atoms (4 * (prog_comparisons pkg.ctrl + length pkg.names.controls)) m.paths (law.path_atoms (model pkg) pkg.ctrl m.paths are.paths) in
      let b = good.ctrl_size in
      let c = few_controls in
      let d = few_paths in
      let e = mul-le-mul_right (4 * (prog_comparisons pkg.ctrl + length pkg.names.controls)) d in
      omega arith

  plant_atoms : length (all_atoms (map tree m.plant)) ≤ 5000
  plant_atoms =
      let h = are.plant in
      let t : length (all_atoms h.time) ≡ 2 = ap (λ (us : List Tree). length (all_atoms us)) (h.are_time.are ∙ ap₂ (λ (u v : Tree). u ∷ v ∷ []) h.are_time.is_low.1 h.are_time.is_high.1) in
      let s = slack_atoms (model pkg) (flow_coefficients pkg h.are_flows.heights) (flow_weights h.are_flows.sides h.are_flows.heights) 0 pkg.plant.slack h.slack h.are_slack in
      let c = good.plant.slack_count in
      let f = few_states in
      let d : length (all_atoms h.domain) ≡ length (atoms_of h.are_domain.form) = ap (λ (us : List Tree). length (all_atoms us)) h.are_domain.are ∙ ap length (conjunct_atoms h.are_domain.form) in
      let n = law.normal _ _ _ (formula_replaced arriving pkg.plant.domain) h.are_domain.form h.are_domain.is_form in
      let r = replaced_comparisons arriving pkg.plant.domain in
      let q = few_comparisons pkg.plant.domain in
      let z = good.plant.domain_size in
      let e : length (all_atoms (map tree m.plant)) ≡ length (all_atoms h.time) + length (all_atoms h.slack) + length (all_atoms h.domain) =
      ap (λ (us : List Tree). length (all_atoms us)) h.are ∙ atoms-append (h.time ++ h.slack) h.domain ∙ ap (λ (k : ℕ). k + length (all_atoms h.domain)) (atoms-append h.time h.slack) in
      omega arith

  two_atoms : (t u : Tree) → length (all_atoms (t ∷ u ∷ [])) ≡ length (atoms_of t) + length (atoms_of u)
  two_atoms t u = length-append (atoms_of t) (atoms_of u ++ []) ∙ ap (λ (atoms : List Atom). length (atoms_of t) + length atoms) (no_more (atoms_of u))

  pub init_few : length (all_atoms (init_parts m)) < 2 ^ 32
  init_few =
      let a = of_formula pkg.init (tree m.init) are.init good.init.size in
      let b = inv_atoms in
      let c = law.negates (tree m.inv) in
      let d = two_atoms (tree m.init) (negated (tree m.inv)) in
      omega arith

  pub safe_few : length (all_atoms (safe_parts m)) < 2 ^ 32
  safe_few =
      let a = of_formula pkg.safe (tree m.safe) are.safe good.safe.size in
      let b = inv_atoms in
      let c = law.negates (tree m.safe) in
      let d = two_atoms (tree m.inv) (negated (tree m.safe)) in
      omega arith

  pub step_few : (ts : List Tree) → AreStepParts m ts → length (all_atoms ts) < 2 ^ 32
  step_few ts h =
      let a = inv_atoms in
      let b = all_paths in
      let c = plant_atoms in
      let d = renamed_atoms law _ (map tree m.plant) h.plant h.actuated in
      let e = law.renamed _ (tree m.inv) h.inv h.primed in
      let f = law.negates h.inv in
      let p : length (atoms_of (AnyOf (members (map path_tree m.paths)))) ≡ length (all_atoms (map path_tree m.paths)) = ap length (atoms-members (map path_tree m.paths)) in
      let n = ap (λ (us : List Tree). length (all_atoms us)) h.is in
      let q = length-append (atoms_of (tree m.inv)) (all_atoms (AnyOf (members (map path_tree m.paths)) ∷ h.plant ++ negated h.inv ∷ [])) in
      let r = length-append (atoms_of (AnyOf (members (map path_tree m.paths)))) (all_atoms (h.plant ++ negated h.inv ∷ [])) in
      let s = atoms-append h.plant (negated h.inv ∷ []) in
      let t : length (all_atoms (negated h.inv ∷ [])) ≡ length (atoms_of (negated h.inv)) = ap length (no_more (atoms_of (negated h.inv))) in
      omega arith

  pub fallback_few : (ts : List Tree) → AreFallbackParts pkg m ts → length (all_atoms ts) < 2 ^ 32
  fallback_few ts h =
      let a = inv_atoms in
      let b = all_paths in
      let c = denied_atoms law m.paths in
      let d = equation_atoms _ 0 pkg.fallback h.equations h.are_equations in
      let e = good.fallback_count in
      let f = few_controls in
      let n = ap (λ (us : List Tree). length (all_atoms us)) h.is in
      let q = length-append (atoms_of (tree m.inv)) (all_atoms (h.equations ++ map (λ path. negated (path_tree path)) m.paths)) in
      let s = atoms-append h.equations (map (λ path. negated (path_tree path)) m.paths) in
      omega arith
