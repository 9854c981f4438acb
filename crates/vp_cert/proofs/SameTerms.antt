-- Terms with one tree have the same factors.
use Rattle.std.proofs.Common.{◌≡◌, ℕ, ◌+◌, ◌&&◌, Bool, nat_le, nat_lt, List, [], ◌∷◌, ◌++◌, map, refl, sym, ap, ap₂, ◌∙◌, subst, pos}
use Rattle.std.specs.Prelude.{sum_by, ◌^◌}
use Rattle.std.specs.List.{list_all}
use Rattle.std.proofs.Math.Path.{fun_ext}
use Rattle.std.proofs.lemmas.List.Sums.{sum_by-cons}
use Rattle.vp_terms.specs.Meaning.{Assignment, value}
use Rattle.vp_terms.specs.Packages.{term_tree}
use Rattle.vp_terms.specs.Places.{place_count}
use Rattle.vp_terms.specs.Rational.{Equals, Rational, whole}
use Rattle.vp_terms.specs.Tree.{expr_tree}
use Rattle.vp_terms.specs.declared.expr.Expr.{Expr}
use Rattle.vp_terms.specs.declared.expr.Places.{Places}
use Rattle.vp_terms.specs.declared.expr.Var.{Var}
use Rattle.vp_terms.specs.declared.package.CertTerm.{CertTerm}
use Rattle.vp_terms.specs.declared.package.CertTerm.TheVariants.{Pos, Sum, Eq}
use Rattle.vp_poly.specs.Canonical.{own_weight, own_weights, values_at, variables}
use Rattle.vp_poly.specs.Coefficient.{Coefficients, coefficients}
use Rattle.vp_poly.specs.Value.{Point}
use Rattle.vp_poly.specs.Weights.{Weights, fits, weight, weight_at}
use Rattle.vp_cert.specs.Bounds.{expressions_fit, is_within_bounds, product_size, size_of_term}
use Rattle.vp_cert.specs.Certificate.{LabelAtoms, Refutes, Size, TermFactor, begins_strict, coefficient_sum, combined, expression_factor, factor_product, factors, is_any, is_equation, is_inequality, is_strict, label_factor, label_passes, labels_fit, labels_pass, number_factor, squared, term_is_strict, total_coefficients}
use Rattle.vp_cert.specs.Refusals.{Refuses}
use Rattle.vp_cert.specs.declared.error.CertErr.{CertErr}
use Rattle.vp_cert.specs.declared.error.CertErr.TheVariants.{Label, NotStrict, Wide, NotZero, Memory}

-- ---- lists with the same trees

all-alike : {A B : Type 0} (tree : A → B) (t : A → Bool) → ((x y : A) → tree x ≡ tree y → t x ≡ t y) → (xs ys : List A) → map tree xs ≡ map tree ys → list_all t xs ≡ list_all t ys
all-alike tree t h [] [] g = refl
all-alike tree t h [] (y ∷ ys) g = absurd (cc)
all-alike tree t h (x ∷ xs) [] g = absurd (cc)
all-alike {A} {B} tree t h (x ∷ xs) (y ∷ ys) g =
    let first : tree x ≡ tree y = cc in
    let rest : map tree xs ≡ map tree ys = cc in
    ap₂ (λ (a b : Bool). a && b) (h x y first) (all-alike tree t h xs ys rest)

sum-alike : {A B : Type 0} (tree : A → B) (f : A → ℕ) → ((x y : A) → tree x ≡ tree y → f x ≡ f y) → (xs ys : List A) → map tree xs ≡ map tree ys → sum_by f xs ≡ sum_by f ys
sum-alike tree f h [] [] g = refl
sum-alike tree f h [] (y ∷ ys) g = absurd (cc)
sum-alike tree f h (x ∷ xs) [] g = absurd (cc)
sum-alike {A} {B} tree f h (x ∷ xs) (y ∷ ys) g =
    let first : tree x ≡ tree y = cc in
    let rest : map tree xs ≡ map tree ys = cc in
    sum_by-cons f x xs ∙ ap₂ (λ (m n : ℕ). m + n) (h x y first) (sum-alike tree f h xs ys rest) ∙ sym (sum_by-cons f y ys)

map-alike : {A B C : Type 0} (tree : A → B) (f : A → C) → ((x y : A) → tree x ≡ tree y → f x ≡ f y) → (xs ys : List A) → map tree xs ≡ map tree ys → map f xs ≡ map f ys
map-alike tree f h [] [] g = refl
map-alike tree f h [] (y ∷ ys) g = absurd (cc)
map-alike tree f h (x ∷ xs) [] g = absurd (cc)
map-alike {A} {B} {C} tree f h (x ∷ xs) (y ∷ ys) g =
    let first : tree x ≡ tree y = cc in
    let rest : map tree xs ≡ map tree ys = cc in
    ap₂ (λ (z : C) (zs : List C). z ∷ zs) (h x y first) (map-alike tree f h xs ys rest)

-- what is known of expressions with one tree
pub record Known : Type 0 where
  pub weights : (env : Var → Weights) (e f : Expr) → expr_tree e ≡ expr_tree f → weight env e ≡ weight env f
  pub coefficients_are : (env : Var → Coefficients) (e f : Expr) → expr_tree e ≡ expr_tree f → coefficients env e ≡ coefficients env f
  pub values : (e f : Expr) → expr_tree e ≡ expr_tree f → (a : Assignment) → value e a ≡ value f a

module _ (known : Known) (p : Places) (h : LabelAtoms) where
  own-alike : (e f : Expr) → expr_tree e ≡ expr_tree f → own_weight p e ≡ own_weight p f
  own-alike e f g = known.weights (weight_at p (own_weights (place_count p))) e f g

  small-alike : (e f : Expr) → expr_tree e ≡ expr_tree f → fits (own_weight p e) ≡ fits (own_weight p f)
  small-alike e f g = ap fits (own-alike e f g)

  expression-alike : (e f : Expr) → expr_tree e ≡ expr_tree f → expression_factor p e ≡ expression_factor p f
  expression-alike e f g =
      let F : Coefficients → (Point → Rational) → Weights → TermFactor = λ c v w. record {
        coefficients = c;
        value = v;
        size = record { norm = w.norm; terms = w.terms; degree = w.degree };
      } in
      ap (λ (c : Coefficients). F c (λ x. value e (values_at p x)) (own_weight p e)) (known.coefficients_are (variables p) e f g)
      ∙ ap (λ (v : Point → Rational). F (coefficients (variables p) f) v (own_weight p e)) (fun_ext (λ x. known.values e f g (values_at p x)))
      ∙ ap (F (coefficients (variables p) f) (λ x. value f (values_at p x))) (own-alike e f g)

  -- ---- one term

  factors-alike : (t u : CertTerm) → term_tree t ≡ term_tree u → factors p h t ≡ factors p h u
  factors-alike (Pos n ls) (Pos k ms) g =
      let times : n ≡ k = cc in
      let labels : ls ≡ ms = cc in
      ap₂ (λ (i : ℕ) (js : List ℕ). number_factor i ∷ map (label_factor h) js) times labels
  factors-alike (Sum n es ls) (Sum k fs ms) g =
      let times : n ≡ k = cc in
      let squares : map expr_tree es ≡ map expr_tree fs = cc in
      let labels : ls ≡ ms = cc in
      ap (λ (xs : List TermFactor). number_factor n ∷ squared xs ++ map (label_factor h) ls) (map-alike expr_tree (expression_factor p) expression-alike es fs squares)
      ∙ ap₂ (λ (i : ℕ) (js : List ℕ). number_factor i ∷ squared (map (expression_factor p) fs) ++ map (label_factor h) js) times labels
  factors-alike (Eq l e) (Eq m f) g =
      let label : l ≡ m = cc in
      let times : expr_tree e ≡ expr_tree f = cc in
      ap₂ (λ (i : ℕ) (x : TermFactor). label_factor h i ∷ x ∷ []) label (expression-alike e f times)
  factors-alike _ _ g = absurd (cc)

  labels-alike : (t u : CertTerm) → term_tree t ≡ term_tree u → labels_fit h t ≡ labels_fit h u
  labels-alike (Pos n ls) (Pos k ms) g = let labels : ls ≡ ms = cc in ap (labels_pass h is_any) labels
  labels-alike (Sum n es ls) (Sum k fs ms) g = let labels : ls ≡ ms = cc in ap (labels_pass h is_inequality) labels
  labels-alike (Eq l e) (Eq m f) g = let label : l ≡ m = cc in ap (label_passes h is_equation) label
  labels-alike _ _ g = absurd (cc)

  strict-alike : (t u : CertTerm) → term_tree t ≡ term_tree u → term_is_strict h t ≡ term_is_strict h u
  strict-alike (Pos n ls) (Pos k ms) g =
      let times : n ≡ k = cc in
      let labels : ls ≡ ms = cc in
      ap₂ (λ (i : ℕ) (js : List ℕ). nat_lt 0 i && labels_pass h is_strict js) times labels
  strict-alike (Sum n es ls) (Sum k fs ms) g = refl
  strict-alike (Eq l e) (Eq m f) g = refl
  strict-alike _ _ g = absurd (cc)

  fit-alike : (t u : CertTerm) → term_tree t ≡ term_tree u → expressions_fit p t ≡ expressions_fit p u
  fit-alike (Pos n ls) (Pos k ms) g = refl
  fit-alike (Sum n es ls) (Sum k fs ms) g =
      let squares : map expr_tree es ≡ map expr_tree fs = cc in
      all-alike expr_tree (λ e. fits (own_weight p e)) small-alike es fs squares
  fit-alike (Eq l e) (Eq m f) g = let times : expr_tree e ≡ expr_tree f = cc in small-alike e f times
  fit-alike _ _ g = absurd (cc)

  size-alike : (t u : CertTerm) → term_tree t ≡ term_tree u → size_of_term p h t ≡ size_of_term p h u
  size-alike t u g = ap (λ (fs : List TermFactor). product_size (map (λ f. f.size) fs)) (factors-alike t u g)

  -- ---- all terms

  module _ (ts us : List CertTerm) (g : map term_tree ts ≡ map term_tree us) where
    all_labels : list_all (labels_fit h) ts ≡ list_all (labels_fit h) us
    all_labels = all-alike term_tree (labels_fit h) labels-alike ts us g

    pub same_bounds : is_within_bounds p h ts ≡ is_within_bounds p h us
    same_bounds =
        let fit = all-alike term_tree (expressions_fit p) fit-alike ts us g in
        let norms = sum-alike term_tree (λ t. (size_of_term p h t).norm) (λ t u e. ap (λ (z : Size). z.norm) (size-alike t u e)) ts us g in
        let counts = sum-alike term_tree (λ t. (size_of_term p h t).terms) (λ t u e. ap (λ (z : Size). z.terms) (size-alike t u e)) ts us g in
        let low = all-alike term_tree (λ t. nat_le (size_of_term p h t).degree 48) (λ t u e. ap (λ (z : Size). nat_le z.degree 48) (size-alike t u e)) ts us g in
        ap₂ (λ (a b : Bool). a && b) (ap₂ (λ (a b : Bool). a && b) (ap₂ (λ (a : Bool) (n : ℕ). a && nat_lt n (2 ^ 126)) fit norms) (ap (λ (n : ℕ). nat_le n 65536) counts)) low

    same_total : total_coefficients p h ts ≡ total_coefficients p h us
    same_total =
        ap (λ (cs : List Coefficients). combined coefficient_sum (λ m. whole (pos 0)) cs)
        (map-alike term_tree (λ t. factor_product (factors p h t)) (λ t u e. ap factor_product (factors-alike t u e)) ts us g)

  same_strict : (ts us : List CertTerm) → map term_tree ts ≡ map term_tree us → begins_strict h ts ≡ begins_strict h us
  same_strict [] [] g = refl
  same_strict [] (u ∷ us) g = absurd (cc)
  same_strict (t ∷ ts) [] g = absurd (cc)
  same_strict (t ∷ ts) (u ∷ us) g = let first : term_tree t ≡ term_tree u = cc in strict-alike t u first

  module _ (ts us : List CertTerm) (g : map term_tree ts ≡ map term_tree us) where
    pub same_refuted : Refutes p h ts → Refutes p h us
    same_refuted r = record {
      labels = sym (all_labels ts us g) ∙ r.labels;
      strict = sym (same_strict ts us g) ∙ r.strict;
      zero = λ m. subst (λ (c : Coefficients). Equals (c m) (whole (pos 0))) (same_total ts us g) (r.zero m);
    }

    pub same_refusals : (e : CertErr) → Refuses p h ts e → Refuses p h us e
    same_refusals Label r = sym (all_labels ts us g) ∙ r
    same_refusals NotStrict r = (sym (all_labels ts us g) ∙ r.0, sym (same_strict ts us g) ∙ r.1)
    same_refusals Wide r = (sym (all_labels ts us g) ∙ r.0, sym (same_strict ts us g) ∙ r.1, sym (same_bounds ts us g) ∙ r.2)
    same_refusals (NotZero m c) r = (
      record { labels = sym (all_labels ts us g) ∙ r.0.labels; strict = sym (same_strict ts us g) ∙ r.0.strict; within = sym (same_bounds ts us g) ∙ r.0.within },
      record {
        some = r.1.some;
        coefficient = subst (λ (d : Coefficients). Equals (d m.powers) (whole c)) (same_total ts us g) r.1.coefficient;
        before = λ n l. subst (λ (d : Coefficients). Equals (d n.powers) (whole (pos 0))) (same_total ts us g) (r.1.before n l);
      },
    )
    same_refusals Memory r = tt
