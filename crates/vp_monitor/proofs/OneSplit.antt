-- The same monitors have the same obligations, and one refusal of these.
use Rattle.std.proofs.Common.{◌≡◌, ◌≢◌, inl, inr, ℕ, suc, ◌<◌, ◌≤◌, Bool, true, false, ◌==◌, cond, List, [], ◌∷◌, ◌++◌, length, map, refl, sym, ap, ap₂, ◌∙◌, subst, arith, All, ℤ, pos}
use Rattle.std.proofs.Math.Path.{fun_ext}
use Rattle.std.proofs.lemmas.Bool.{eqb-true, eqb-false}
use Rattle.std.proofs.lemmas.Int.{ints}
use Rattle.vp_words.specs.declared.record.Counts.{Counts}
use Rattle.vp_terms.specs.Places.{place_count}
use Rattle.vp_terms.specs.declared.expr.Expr.{Expr}
use Rattle.vp_terms.specs.declared.expr.Expr.TheVariants.{Var as Variable}
use Rattle.vp_terms.specs.declared.expr.Places.{Places}
use Rattle.vp_terms.specs.declared.expr.Var.{Var}
use Rattle.vp_terms.specs.declared.expr.Var.TheVariants.{NextControl}
use Rattle.vp_terms.specs.declared.formula.Cmp.TheVariants as cmp
use Rattle.vp_terms.specs.declared.formula.Formula.{Formula}
use Rattle.vp_terms.specs.declared.formula.Formula.TheVariants.{Cmp as Compare}
use Rattle.vp_terms.specs.declared.package.Package.{Package}
use Rattle.vp_terms.specs.declared.package.Part.{Part}
use Rattle.vp_terms.specs.declared.package.Part.TheVariants.{Init, Safe, Step, Fallback}
use Rattle.vp_poly.specs.declared.mono.Term.{Term}
use Rattle.vp_poly.specs.Canonical.{own_weights, variables}
use Rattle.vp_poly.specs.Coefficient.{Coefficients}
use Rattle.vp_poly.specs.Places.{places_for}
use Rattle.vp_poly.specs.Poly.{IsOrdered, IsPoly, Powers, coef, only_at}
use Rattle.vp_poly.specs.Weights.{Weights}
use Rattle.vp_logic.specs.declared.norm.Atom.{Atom}
use Rattle.vp_logic.specs.declared.norm.Rel.{Rel}
use Rattle.vp_logic.specs.Cases.{lists, part_cases_from, part_count}
use Rattle.vp_logic.specs.Normal.{IsNormal}
use Rattle.vp_logic.specs.Renamed.{AreRenamed, IsRenamed, IsRenamedAtom}
use Rattle.vp_logic.specs.Tree.{Tree, Trees, One, AllOf, AnyOf, None, Then, members, negated, tree}
use Rattle.vp_ctrl.specs.declared.path.Path.{Path}
use Rattle.vp_ctrl.specs.Paths.{parts_of}
use Rattle.vp_monitor.specs.declared.error.MonErr.{MonErr}
use Rattle.vp_monitor.specs.declared.error.MonErr.TheVariants.{Cases, Memory}
use Rattle.vp_monitor.specs.declared.types.Monitors.{Monitors}
use Rattle.vp_monitor.specs.declared.types.Obligation.{Obligation}
use Rattle.vp_monitor.specs.Exchange.{actuating, priming}
use Rattle.vp_monitor.specs.Obligations.{AreEquations, AreFallbackParts, AreObligations, AreObligationsOf, AreStepParts, EachIsRenamed, HasFewCases, IsFirstOver, PartLists, RefusesCases, all_parts, init_parts, parts_for, path_tree, safe_parts}
use Rattle.vp_monitor.specs.Same.{SameMonitors, SameObligations}

-- ---- a renamed form is known by the form

other_only : (p m : Powers) (c : ℤ) → length p ≢ length m → only_at p m c ≡ pos 0
other_only [] [] c n = absurd (n refl)
other_only [] (y ∷ m) c n = refl
other_only (x ∷ p) [] c n = refl
other_only (x ∷ p) (y ∷ m) c n = case (x == y) (other_only p m c (λ e. n (ap suc e)))
  where
    case : (b : Bool) → only_at p m c ≡ pos 0 → cond b (only_at p m c) (pos 0) ≡ pos 0
    case true e = e
    case false e = refl

-- monomials of another length have no coefficient
other_coef : (ts : List Term) (m : Powers) → IsOrdered ts → length m ≢ 32 → coef ts m ≡ pos 0
other_coef [] m o n = refl
other_coef (t ∷ ts) m o n =
    let here = other_only t.mono.powers m t.coef (λ e. n (sym e ∙ o.0.places)) in
    let rest = other_coef ts m o.1 n in
    omega (arith, ints)

-- what is known: polynomials and normal forms are unique, and cases are counted
pub record Known : Type 0 where
  pub polynomials : (xs ys : List Term) → IsPoly xs → IsPoly ys → ((m : Powers) → coef xs m ≡ coef ys m) → xs ≡ ys
  pub forms : (p : Places) (ws : List Weights) (c : Var → Coefficients) (f : Formula) (t u : Tree) → IsNormal p ws c f t → IsNormal p ws c f u → t ≡ u
  pub counted : (k : ℕ) (ts : List Tree) → length (part_cases_from k ts) ≡ part_count ts

same_atom : (a b : Atom) → a.poly ≡ b.poly → a.rel ≡ b.rel → a ≡ b
same_atom a b e f =
    let A : List Term → Rel → Atom = λ p r. record { poly = p; rel = r } in
    ap (λ (p : List Term). A p a.rel) e ∙ ap (A b.poly) f

module _ (known : Known) where
  renamed_atom : (to : List ℕ) (a b c : Atom) → IsRenamedAtom to a b → IsRenamedAtom to a c → b ≡ c
  renamed_atom to a b c h k =
      same_atom b c (known.polynomials b.poly c.poly h.poly k.poly (λ m. at_length m (length m == 32) refl)) (h.same_rel ∙ sym k.same_rel)
    where
      at_length : (m : Powers) (v : Bool) → (length m == 32) ≡ v → coef b.poly m ≡ coef c.poly m
      at_length m true e = let l : length m ≡ 32 = eqb-true (length m) 32 e in h.moved m l ∙ sym (k.moved m l)
      at_length m false e =
          let n : length m ≢ 32 = eqb-false (length m) 32 e in
          other_coef b.poly m h.poly.ordered n ∙ sym (other_coef c.poly m k.poly.ordered n)

  mutual
    one_renamed : (to : List ℕ) (t u v : Tree) → IsRenamed to t u → IsRenamed to t v → u ≡ v
    one_renamed to (One a) (One b) (One c) h k = ap One (renamed_atom to a b c h k)
    one_renamed to (One a) (One b) (AllOf ls) h k = absurd k
    one_renamed to (One a) (One b) (AnyOf ls) h k = absurd k
    one_renamed to (One a) (AllOf ms) v h k = absurd h
    one_renamed to (One a) (AnyOf ms) v h k = absurd h
    one_renamed to (AllOf ns) (One b) v h k = absurd h
    one_renamed to (AllOf ns) (AllOf ms) (One c) h k = absurd k
    one_renamed to (AllOf ns) (AllOf ms) (AllOf ls) h k = ap AllOf (each_renamed to ns ms ls h k)
    one_renamed to (AllOf ns) (AllOf ms) (AnyOf ls) h k = absurd k
    one_renamed to (AllOf ns) (AnyOf ms) v h k = absurd h
    one_renamed to (AnyOf ns) (One b) v h k = absurd h
    one_renamed to (AnyOf ns) (AllOf ms) v h k = absurd h
    one_renamed to (AnyOf ns) (AnyOf ms) (One c) h k = absurd k
    one_renamed to (AnyOf ns) (AnyOf ms) (AllOf ls) h k = absurd k
    one_renamed to (AnyOf ns) (AnyOf ms) (AnyOf ls) h k = ap AnyOf (each_renamed to ns ms ls h k)

    each_renamed : (to : List ℕ) (ts us vs : Trees) → AreRenamed to ts us → AreRenamed to ts vs → us ≡ vs
    each_renamed to None None None h k = refl
    each_renamed to None None (Then v vs) h k = absurd k
    each_renamed to None (Then u us) vs h k = absurd h
    each_renamed to (Then t ts) None vs h k = absurd h
    each_renamed to (Then t ts) (Then u us) None h k = absurd k
    each_renamed to (Then t ts) (Then u us) (Then v vs) h k = ap₂ Then (one_renamed to t u v h.0 k.0) (each_renamed to ts us vs h.1 k.1)

  renamed_lists : (to : List ℕ) (ts us vs : List Tree) → EachIsRenamed to ts us → EachIsRenamed to ts vs → us ≡ vs
  renamed_lists to [] [] [] h k = refl
  renamed_lists to [] [] (v ∷ vs) h k = absurd k
  renamed_lists to [] (u ∷ us) vs h k = absurd h
  renamed_lists to (t ∷ ts) [] vs h k = absurd h
  renamed_lists to (t ∷ ts) (u ∷ us) [] h k = absurd k
  renamed_lists to (t ∷ ts) (u ∷ us) (v ∷ vs) h k = ap₂ (λ (x : Tree) (xs : List Tree). x ∷ xs) (one_renamed to t u v h.0 k.0) (renamed_lists to ts us vs h.1 k.1)

  -- ---- the parts of the four obligations

  one_equations : (p : Places) (k : ℕ) (es : List Expr) (ts us : List Tree) → AreEquations p k es ts → AreEquations p k es us → ts ≡ us
  one_equations p k [] [] [] a b = refl
  one_equations p k [] [] (u ∷ us) a b = absurd b
  one_equations p k [] (t ∷ ts) us a b = absurd a
  one_equations p k (e ∷ es) [] us a b = absurd a
  one_equations p k (e ∷ es) (t ∷ ts) [] a b = absurd b
  one_equations p k (e ∷ es) (t ∷ ts) (u ∷ us) a b =
      ap₂ (λ (x : Tree) (xs : List Tree). x ∷ xs)
      (known.forms p (own_weights (place_count p)) (variables p) (Compare cmp.Eq (Variable (NextControl k)) e) t u a.0 b.0)
      (one_equations p (suc k) es ts us a.1 b.1)

  -- what is made of the parts of each path
  each_path : (f : List Tree → Tree) (xs ys : List Path) → map parts_of xs ≡ map parts_of ys → map (λ x. f (parts_of x)) xs ≡ map (λ x. f (parts_of x)) ys
  each_path f [] [] h = refl
  each_path f [] (y ∷ ys) h = absurd (cc)
  each_path f (x ∷ xs) [] h = absurd (cc)
  each_path f (x ∷ xs) (y ∷ ys) h =
      let first : parts_of x ≡ parts_of y = cc in
      let rest : map parts_of xs ≡ map parts_of ys = cc in
      ap₂ (λ (t : Tree) (ts : List Tree). t ∷ ts) (ap f first) (each_path f xs ys rest)

  module _ (pkg : Package) (m n : Monitors) (same : SameMonitors m n) where
    one_init : init_parts m ≡ init_parts n
    one_init = ap₂ (λ (t u : Tree). t ∷ negated u ∷ []) same.init same.inv

    one_safe : safe_parts m ≡ safe_parts n
    one_safe = ap₂ (λ (t u : Tree). t ∷ negated u ∷ []) same.inv same.safe

    abbrev joined_step : Tree → List Tree → List Tree → Tree → List Tree
    joined_step inv paths plant primed = inv ∷ AnyOf (members paths) ∷ plant ++ negated primed ∷ []

    one_step : (ts us : List Tree) → AreStepParts m ts → AreStepParts n us → ts ≡ us
    one_step ts us a b =
        let plant = renamed_lists (actuating (places_for n.counts)) (map tree n.plant) a.plant b.plant
        (subst (λ (xs : List Tree). EachIsRenamed (actuating (places_for n.counts)) xs a.plant) same.plant (subst (λ (c : Counts). EachIsRenamed (actuating (places_for c)) (map tree m.plant) a.plant) same.counts a.actuated)) b.actuated in
        let primed = one_renamed (priming (places_for n.counts)) (tree n.inv) a.inv b.inv
        (subst (λ (x : Tree). IsRenamed (priming (places_for n.counts)) x a.inv) same.inv (subst (λ (c : Counts). IsRenamed (priming (places_for c)) (tree m.inv) a.inv) same.counts a.primed)) b.primed in
        let paths : map path_tree m.paths ≡ map path_tree n.paths = each_path (λ xs. AllOf (members xs)) m.paths n.paths same.paths in
        a.is
        ∙ ap (λ (x : Tree). joined_step x (map path_tree m.paths) a.plant a.inv) same.inv
        ∙ ap (λ (xs : List Tree). joined_step (tree n.inv) xs a.plant a.inv) paths
        ∙ ap₂ (λ (xs : List Tree) (x : Tree). joined_step (tree n.inv) (map path_tree n.paths) xs x) plant primed
        ∙ sym b.is

    one_fallback : (ts us : List Tree) → AreFallbackParts pkg m ts → AreFallbackParts pkg n us → ts ≡ us
    one_fallback ts us a b =
        let equations = one_equations (places_for n.counts) 0 pkg.fallback a.equations b.equations
        (subst (λ (c : Counts). AreEquations (places_for c) 0 pkg.fallback a.equations) same.counts a.are_equations) b.are_equations in
        let paths : map (λ path. negated (path_tree path)) m.paths ≡ map (λ path. negated (path_tree path)) n.paths = each_path (λ xs. negated (AllOf (members xs))) m.paths n.paths same.paths in
        a.is
        ∙ ap (λ (x : Tree). x ∷ a.equations ++ map (λ path. negated (path_tree path)) m.paths) same.inv
        ∙ ap₂ (λ (xs ys : List Tree). tree n.inv ∷ xs ++ ys) equations paths
        ∙ sym b.is

    one_part : (l : PartLists pkg m) (r : PartLists pkg n) (part : Part) → parts_for l part ≡ parts_for r part
    one_part l r Init = one_init
    one_part l r Safe = one_safe
    one_part l r Step = one_step l.step r.step l.are_step r.are_step
    one_part l r Fallback = one_fallback l.fallback r.fallback l.are_fallback r.are_fallback

    one_parts : (l : PartLists pkg m) (r : PartLists pkg n) → parts_for l ≡ parts_for r
    one_parts l r = fun_ext (one_part l r)

  -- ---- obligations of one list of parts, and their refusals

  same_each : (f : Part → List Tree) (ps : List Part) (os rs : List Obligation) → AreObligationsOf f ps os → AreObligationsOf f ps rs → SameObligations os rs
  same_each f [] [] [] a b = tt
  same_each f [] [] (r ∷ rs) a b = absurd b
  same_each f [] (o ∷ os) rs a b = absurd a
  same_each f (p ∷ ps) [] rs a b = absurd a
  same_each f (p ∷ ps) (o ∷ os) [] a b = absurd b
  same_each f (p ∷ ps) (o ∷ os) (r ∷ rs) a b =
      (record { part = a.0.part_is ∙ sym b.0.part_is; atoms = a.0.atoms ∙ sym b.0.atoms; cases = a.0.cases ∙ sym b.0.cases }, same_each f ps os rs a.1 b.1)

  few_clash : (a b : ℕ) → a < b → b ≤ a → ⊥
  few_clash a b l k = absurd (omega arith)

  one_over : (f : Part → List Tree) (ps : List Part) (x y : Part) (c d : ℕ) → IsFirstOver f ps x c → IsFirstOver f ps y d → Cases x c ≡ Cases y d
  one_over f [] x y c d a b = absurd a
  one_over f (p ∷ ps) x y c d (inl a) (inl b) = ap₂ Cases (a.0 ∙ sym b.0) (a.2 ∙ sym b.2)
  one_over f (p ∷ ps) x y c d (inl a) (inr b) = absurd (few_clash 256 (part_count (f p)) a.1 b.0)
  one_over f (p ∷ ps) x y c d (inr a) (inl b) = absurd (few_clash 256 (part_count (f p)) b.1 a.0)
  one_over f (p ∷ ps) x y c d (inr a) (inr b) = one_over f ps x y c d a.1 b.1

  none_over : (f : Part → List Tree) (ps : List Part) (os : List Obligation) (x : Part) (c : ℕ) → AreObligationsOf f ps os → All HasFewCases os → IsFirstOver f ps x c → ⊥
  none_over f [] os x c a few b = b
  none_over f (p ∷ ps) [] x c a few b = a
  none_over f (p ∷ ps) (o ∷ os) x c a few (inl b) =
      let here : length (lists o.cases) ≤ 256 = few 0 o (omega arith) in
      let size : length (lists o.cases) ≡ part_count (f p) = ap length a.0.cases ∙ known.counted 0 (f p) in
      few_clash 256 (part_count (f p)) b.1 (subst (λ (k : ℕ). k ≤ 256) size here)
  none_over f (p ∷ ps) (o ∷ os) x c a few (inr b) = none_over f ps os x c a.1 (λ k d l. few (suc k) d (omega arith)) b.1

  module _ (pkg : Package) (m n : Monitors) (same : SameMonitors m n) where
    pub one_obligations : (os ps : List Obligation) → AreObligations pkg m os → AreObligations pkg n ps → SameObligations os ps
    one_obligations os ps a b =
        same_each (parts_for b.lists_of) all_parts os ps
        (subst (λ (f : Part → List Tree). AreObligationsOf f all_parts os) (one_parts pkg m n same a.lists_of b.lists_of) a.are) b.are

    pub few_alone : (os : List Obligation) → AreObligations pkg m os → All HasFewCases os → (e : MonErr) → RefusesCases pkg n e → e ≡ Memory
    few_alone os a few (Cases part count) r =
        absurd (none_over (parts_for r.0) all_parts os part count
        (subst (λ (f : Part → List Tree). AreObligationsOf f all_parts os) (one_parts pkg m n same a.lists_of r.0) a.are) few r.1)
    few_alone os a few Memory r = refl
    few_alone os a few e r = absurd r

    pub one_refusal : (e f : MonErr) → e ≢ Memory → f ≢ Memory → RefusesCases pkg m e → RefusesCases pkg n f → e ≡ f
    one_refusal (Cases x c) (Cases y d) u v a b =
        one_over (parts_for b.0) all_parts x y c d
        (subst (λ (f : Part → List Tree). IsFirstOver f all_parts x c) (one_parts pkg m n same a.0 b.0) a.1) b.1
    one_refusal Memory f u v a b = absurd (u refl)
    one_refusal e Memory u v a b = absurd (v refl)
    one_refusal (Cases x c) f u v a b = absurd b
    one_refusal e f u v a b = absurd a
