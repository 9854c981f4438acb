-- Programs with one tree have the same paths, and ways that are narrow alike.
use Rattle.std.proofs.Common.{◌≡◌, ℕ, ◌+◌, Bool, ◌&&◌, nat_le, if◌then◌else◌, List, [], ◌∷◌, ◌++◌, map, refl, sym, ap, ap₂, ◌∙◌, subst}
use Rattle.std.specs.Prelude.{sum_by}
use Rattle.std.specs.List.{flat_map, list_all}
use Rattle.std.proofs.lemmas.List.{map-append}
use Rattle.std.proofs.lemmas.List.Sums.{sum_by-cons}
use Rattle.vp_terms.specs.Places.{place_count}
use Rattle.vp_terms.specs.Tree.{expr_tree, formula_tree, prog_tree}
use Rattle.vp_terms.specs.declared.expr.Places.{Places}
use Rattle.vp_terms.specs.declared.expr.Var.{Var}
use Rattle.vp_terms.specs.declared.expr.Expr.{Expr}
use Rattle.vp_terms.specs.declared.formula.Formula.{Formula}
use Rattle.vp_terms.specs.declared.formula.Formula.TheVariants.{True, Cmp as Compare, And', Or', Not'}
use Rattle.vp_terms.specs.declared.prog.Prog.{Prog}
use Rattle.vp_poly.specs.Canonical.{own_weights, variables}
use Rattle.vp_poly.specs.Coefficient.{Coefficients}
use Rattle.vp_poly.specs.Weights.{Weights, fits, weight, weight_at, weight_sum}
use Rattle.vp_logic.specs.Narrow.{comparisons_fit, terms_of}
use Rattle.vp_logic.specs.Normal.{IsNormal}
use Rattle.vp_logic.specs.Tree.{Tree, negated}
use Rattle.vp_ctrl.specs.declared.path.Path.{Path}
use Rattle.vp_ctrl.specs.Following.{Condition, at_first, conditions, right_sides}
use Rattle.vp_ctrl.specs.Paths.{AreParts, ArePaths, IsPart, parts_of}
use Rattle.vp_ctrl.specs.Ways.{Way, ways}
use Rattle.vp_ctrl.specs.Widths.{all_conditions, all_right_sides, are_narrow, condition_fits, condition_terms, is_small, ways_are_narrow}
use Rattle.vp_ctrl.proofs.Alike.{ConditionTree, condition_tree, conditions-alike, right_sides-alike, way_tree, way_trees, ways-alike}

-- ---- lists with the same trees

all-alike : {A B : Type 0} (tree : A → B) (t : A → Bool) → ((x y : A) → tree x ≡ tree y → t x ≡ t y) → (xs ys : List A) → map tree xs ≡ map tree ys → list_all t xs ≡ list_all t ys
all-alike tree t h [] [] g = refl
all-alike tree t h [] (y ∷ ys) g = absurd (cc)
all-alike tree t h (x ∷ xs) [] g = absurd (cc)
all-alike {A} {B} tree t h (x ∷ xs) (y ∷ ys) g =
    let first : tree x ≡ tree y = cc in
    let rest : map tree xs ≡ map tree ys = cc in
    ap₂ (λ (a b : Bool). a && b) (h x y first) (all-alike tree t h xs ys rest)

sum-alike : {A B : Type 0} (tree : A → B) (f : A → ℕ) → ((x y : A) → tree x ≡ tree y → f x ≡ f y) → (xs ys : List A) → map tree xs ≡ map tree ys → sum_by f xs ≡ sum_by f ys
sum-alike tree f h [] [] g = refl
sum-alike tree f h [] (y ∷ ys) g = absurd (cc)
sum-alike tree f h (x ∷ xs) [] g = absurd (cc)
sum-alike {A} {B} tree f h (x ∷ xs) (y ∷ ys) g =
    let first : tree x ≡ tree y = cc in
    let rest : map tree xs ≡ map tree ys = cc in
    sum_by-cons f x xs ∙ ap₂ (λ (m n : ℕ). m + n) (h x y first) (sum-alike tree f h xs ys rest) ∙ sym (sum_by-cons f y ys)

-- of each way a list; those of all ways
flat-alike : {A B : Type 0} (tree : A → B) (f : Way → List A) → ((w v : Way) → way_tree w ≡ way_tree v → map tree (f w) ≡ map tree (f v)) → (ws vs : List Way) → way_trees ws ≡ way_trees vs → map tree (flat_map f ws) ≡ map tree (flat_map f vs)
flat-alike tree f h [] [] g = refl
flat-alike tree f h [] (v ∷ vs) g = absurd (cc)
flat-alike tree f h (w ∷ ws) [] g = absurd (cc)
flat-alike {A} {B} tree f h (w ∷ ws) (v ∷ vs) g =
    let first : way_tree w ≡ way_tree v = cc in
    let rest : way_trees ws ≡ way_trees vs = cc in
    map-append tree (f w) (flat_map f ws) ∙ ap₂ (λ (xs ys : List B). xs ++ ys) (h w v first) (flat-alike tree f h ws vs rest) ∙ sym (map-append tree (f v) (flat_map f vs))

-- ---- what is known of expressions and formulas with one tree

pub record Known : Type 0 where
  pub weights : (env : Var → Weights) (e f : Expr) → expr_tree e ≡ expr_tree f → weight env e ≡ weight env f
  pub forms : (p : Places) (ws : List Weights) (c : Var → Coefficients) (f g : Formula) (t : Tree) → formula_tree f ≡ formula_tree g → IsNormal p ws c f t → IsNormal p ws c g t
  pub terms : (p : Places) (ws : List Weights) (f g : Formula) → formula_tree f ≡ formula_tree g → terms_of p ws f ≡ terms_of p ws g

module _ (known : Known) (p : Places) where
  small-alike : (e f : Expr) → expr_tree e ≡ expr_tree f → is_small p e ≡ is_small p f
  small-alike e f h = ap fits (known.weights (weight_at p (own_weights (place_count p))) e f h)

  fit-alike : (f g : Formula) → formula_tree f ≡ formula_tree g → comparisons_fit p (own_weights (place_count p)) f ≡ comparisons_fit p (own_weights (place_count p)) g
  fit-alike True True h = refl
  fit-alike (Compare c a b) (Compare d x y) h =
      let left : expr_tree a ≡ expr_tree x = cc in
      let right : expr_tree b ≡ expr_tree y = cc in
      let env = weight_at p (own_weights (place_count p)) in
      ap₂ (λ (u v : Weights). fits (weight_sum u v)) (known.weights env a x left) (known.weights env b y right)
  fit-alike (And' l a r b) (And' m x s y) h =
      let left : formula_tree a ≡ formula_tree x = cc in
      let right : formula_tree b ≡ formula_tree y = cc in
      ap₂ (λ (u v : Bool). u && v) (fit-alike a x left) (fit-alike b y right)
  fit-alike (Or' l a r b) (Or' m x s y) h =
      let left : formula_tree a ≡ formula_tree x = cc in
      let right : formula_tree b ≡ formula_tree y = cc in
      ap₂ (λ (u v : Bool). u && v) (fit-alike a x left) (fit-alike b y right)
  fit-alike (Not' l a) (Not' m x) h = let inner : formula_tree a ≡ formula_tree x = cc in fit-alike a x inner
  fit-alike _ _ h = absurd (cc)

  condition_fits-alike : (c d : Condition) → condition_tree c ≡ condition_tree d → condition_fits p c ≡ condition_fits p d
  condition_fits-alike c d h =
      let same = ap (λ (t : ConditionTree). t.formula) h in
      fit-alike c.formula d.formula same

  condition_terms-alike : (c d : Condition) → condition_tree c ≡ condition_tree d → condition_terms p c ≡ condition_terms p d
  condition_terms-alike c d h =
      let same = ap (λ (t : ConditionTree). t.formula) h in
      known.terms p (own_weights (place_count p)) c.formula d.formula same

  narrow-lists : (rs ss : List Expr) (cs ds : List Condition) → map expr_tree rs ≡ map expr_tree ss → map condition_tree cs ≡ map condition_tree ds → are_narrow p rs cs ≡ are_narrow p ss ds
  narrow-lists rs ss cs ds h k =
      ap₂ (λ (a b : Bool). a && b) (all-alike expr_tree (is_small p) small-alike rs ss h)
      (ap₂ (λ (a : Bool) (n : ℕ). a && nat_le n 65536) (all-alike condition_tree (condition_fits p) condition_fits-alike cs ds k) (sum-alike condition_tree (condition_terms p) condition_terms-alike cs ds k))

  pub narrow-alike : (a b : Prog) → prog_tree a ≡ prog_tree b → ways_are_narrow p (ways a) ≡ ways_are_narrow p (ways b)
  narrow-alike a b h =
      let g = ways-alike a b h in
      narrow-lists (all_right_sides (ways a)) (all_right_sides (ways b)) (all_conditions p (ways a)) (all_conditions p (ways b))
      (flat-alike expr_tree (right_sides at_first) right_sides-alike (ways a) (ways b) g)
      (flat-alike condition_tree (conditions p.controls) (conditions-alike p.controls) (ways a) (ways b) g)

  part-alike : (c d : Condition) (t : Tree) → condition_tree c ≡ condition_tree d → IsPart p c t → IsPart p d t
  part-alike c d t h i =
      let same = ap (λ (t : ConditionTree). t.formula) h in
      let denied = ap (λ (t : ConditionTree). t.denied) h in
      (i.0, subst (λ (b : Bool). t ≡ (if b then negated i.0 else i.0)) denied i.1, known.forms p (own_weights (place_count p)) (variables p) c.formula d.formula i.0 same i.2)

  parts-alike : (cs ds : List Condition) (ts : List Tree) → map condition_tree cs ≡ map condition_tree ds → AreParts p cs ts → AreParts p ds ts
  parts-alike [] [] ts h i = i
  parts-alike [] (d ∷ ds) ts h i = absurd (cc)
  parts-alike (c ∷ cs) [] ts h i = absurd (cc)
  parts-alike (c ∷ cs) (d ∷ ds) [] h i = absurd i
  parts-alike (c ∷ cs) (d ∷ ds) (t ∷ ts) h i =
      let first : condition_tree c ≡ condition_tree d = cc in
      let rest : map condition_tree cs ≡ map condition_tree ds = cc in
      (part-alike c d t first i.0, parts-alike cs ds ts rest i.1)

  way_paths-alike : (ws vs : List Way) (xs : List Path) → way_trees ws ≡ way_trees vs → ArePaths p ws xs → ArePaths p vs xs
  way_paths-alike [] [] xs h i = i
  way_paths-alike [] (v ∷ vs) xs h i = absurd (cc)
  way_paths-alike (w ∷ ws) [] xs h i = absurd (cc)
  way_paths-alike (w ∷ ws) (v ∷ vs) [] h i = absurd i
  way_paths-alike (w ∷ ws) (v ∷ vs) (x ∷ xs) h i =
      let first : way_tree w ≡ way_tree v = cc in
      let rest : way_trees ws ≡ way_trees vs = cc in
      (parts-alike (conditions p.controls w) (conditions p.controls v) (parts_of x) (conditions-alike p.controls w v first) i.0, way_paths-alike ws vs xs rest i.1)

  pub paths-alike : (a b : Prog) (xs : List Path) → prog_tree a ≡ prog_tree b → ArePaths p (ways a) xs → ArePaths p (ways b) xs
  paths-alike a b xs h = way_paths-alike (ways a) (ways b) xs (ways-alike a b h)
