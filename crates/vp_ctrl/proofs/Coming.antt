-- What the calls of a walk add to what it has come to.
use Rattle.std.proofs.Common.{◌≡◌, ℕ, ◌+◌, ◌-◌, ◌^◌, ◌<◌, ◌≤◌, min, Bool, true, false, nat_le, IsTrue, List, [], ◌∷◌, ◌++◌, map, refl, sym, ap, subst, ◌∙◌, arith, append-nil}
use Rattle.std.specs.Prelude.{slice_set, Result, Ok, Err, OnOk}
use Rattle.std.proofs.lemmas.List.{map-append}
use Rattle.std.proofs.lemmas.List.Sums.{sum_by-append}
use Rattle.std.proofs.lemmas.Bool.Decides.{nat_tests}
use Rattle.vp_terms.specs.Places.{has_variable, place, place_count}
use Rattle.vp_terms.specs.Variables.{all_variables, all_variables_of}
use Rattle.vp_terms.specs.declared.expr.Places.{Places}
use Rattle.vp_terms.specs.declared.expr.Var.{Var}
use Rattle.vp_terms.specs.declared.expr.Var.TheVariants.{Control, NextControl}
use Rattle.vp_terms.specs.declared.expr.Expr.{Expr}
use Rattle.vp_terms.specs.declared.expr.Expr.TheVariants.{Var as Variable}
use Rattle.vp_terms.specs.declared.formula.Formula.{Formula}
use Rattle.vp_poly.specs.declared.scaled.Scaled.{Scaled}
use Rattle.vp_poly.specs.Places.{AreBelow, HaveOnly}
use Rattle.vp_poly.specs.Coefficient.{Coefficients, coefficients}
use Rattle.vp_poly.specs.Times.{HasCoefficients}
use Rattle.vp_poly.specs.Weights.{fits, weight_in}
use Rattle.vp_poly.specs.Canonical.{IsCanonical, IsWeighed, StandsFor, StandsWithin, own_weights, variables, weights_of}
use Rattle.vp_poly.specs.Replaced.{formula_replaced, replaced}
use Rattle.vp_logic.specs.declared.norm.Norm.{Norm}
use Rattle.vp_logic.specs.Tree.{tree, negated}
use Rattle.vp_logic.specs.Sized.{IsSized, TreeHasOnly}
use Rattle.vp_logic.specs.Narrow.{comparisons_fit, terms_of, is_narrow}
use Rattle.vp_logic.specs.Normal.{IsNormal}
use Rattle.vp_ctrl.specs.declared.walk.Walk.{Walk}
use Rattle.vp_ctrl.specs.Following.{StandIns, Condition, instead, stands, of_formula}
use Rattle.vp_ctrl.specs.Widths.{is_small, condition_fits, condition_terms}
use Rattle.vp_ctrl.specs.Paths.{AllowsPaths, IsPart, is_on_path}
use Rattle.vp_ctrl.specs.Walked.{AreNarrow, Follows, HasCome}
use Rattle.vp_ctrl.proofs.Known.{CoefficientsCompose, FormsCompose, Placed, TermsCompose, WeightsCompose}
use Rattle.vp_ctrl.proofs.Standing.{Follows-set, next_is_small, path_in_model, path_in_model_of, weight_stands}
use Rattle.vp_ctrl.proofs.Truths.{both}
use Rattle.vp_ctrl.proofs.Walking.{narrow_side, wide_side, narrow_condition, many_terms, all_back, HasParts-more}

-- ---- the environment

module _ (p : Places) (env : List Scaled) (s : StandIns) (h : Follows p env s) where
  side_fits : WeightsCompose → (e : Expr) → IsTrue (all_variables (has_variable p) e) → fits (weight_in p (weights_of env) e) ≡ is_small p (replaced (stands s) e)
  side_fits law e v = ap fits (weight_stands law p env s h e v)

  formula_terms : TermsCompose → (f : Formula) (d : Bool) → IsTrue (all_variables_of (has_variable p) f) → terms_of p (weights_of env) f ≡ condition_terms p (of_formula s f d)
  formula_terms law f d v = law p (weights_of env) (own_weights (place_count p)) (λ k. coefficients (variables p) (stands s k)) (variables p) (stands s) h.weights (λ k g. refl) f v

  -- a new polynomial for a control
  Follows-put : Placed → WeightsCompose → CoefficientsCompose → (c : ℕ) (e : Expr) (new : Scaled) → c < p.controls → IsTrue (all_variables (has_variable p) e) → new.weight ≡ weight_in p (weights_of env) e → AreBelow (place_count p) new.poly → IsWeighed new.poly new.weight → ((f : Var → Coefficients) → StandsFor p env f → IsCanonical new.weight.den new.poly (coefficients f e)) → ((allowed : ℕ → Bool) → AllowsPaths p allowed → HaveOnly allowed new.poly) → Follows p (slice_set env (place p (Control c)) new) (instead s c (replaced (stands s) e))
  Follows-put placed weigh compose c e new lt v w b i k o =
      let P : Coefficients → Type 0 = λ g. HasCoefficients new.weight.den new.poly g in
      Follows-set placed p env s c (replaced (stands s) e) new h lt
      (record { places = b; within = i.within })
      (w ∙ weight_stands weigh p env s h e v)
      (subst P (sym (compose (variables p) (stands s) e)) (k (λ z. coefficients (variables p) (stands s z)) h.stand_for).coefficients)
      o

  module _ (law : FormsCompose) (f : Formula) (v : IsTrue (all_variables_of (has_variable p) f)) where
    -- the normal form of a formula
    normal_stands : (n : Norm) → ((c : Var → Coefficients) → StandsFor p env c → IsNormal p (weights_of env) c f (tree n)) → IsNormal p (own_weights (place_count p)) (variables p) (formula_replaced (stands s) f) (tree n)
    normal_stands n k =
        law.forms p (weights_of env) (own_weights (place_count p)) (λ z. coefficients (variables p) (stands s z)) (variables p) (stands s) h.weights (λ z g. refl) f (tree n) v (k (λ z. coefficients (variables p) (stands s z)) h.stand_for)

    pub part_held : (n : Norm) → ((c : Var → Coefficients) → StandsFor p env c → IsNormal p (weights_of env) c f (tree n)) → IsPart p (of_formula s f false) (tree n)
    part_held n k = (tree n, refl, normal_stands n k)

    pub part_denied : (n m : Norm) → ((c : Var → Coefficients) → StandsFor p env c → IsNormal p (weights_of env) c f (tree n)) → tree m ≡ negated (tree n) → IsPart p (of_formula s f true) (tree m)
    part_denied n m k e = (tree n, e, normal_stands n k)

    narrow_stands : is_narrow p (weights_of env) f ≡ is_narrow p (own_weights (place_count p)) (formula_replaced (stands s) f)
    narrow_stands = law.narrow p (weights_of env) (own_weights (place_count p)) (λ k. coefficients (variables p) (stands s k)) (variables p) (stands s) h.weights (λ k g. refl) f v

    -- a formula that is too wide
    pub narrow_fits : (d : Bool) → is_narrow p (weights_of env) f ≡ true → condition_fits p (of_formula s f d) ≡ true
    narrow_fits d e = (both _ _ (sym narrow_stands ∙ e)).0

    pub wide_terms : (d : Bool) → is_narrow p (weights_of env) f ≡ false → condition_fits p (of_formula s f d) ≡ true → 65536 < condition_terms p (of_formula s f d)
    wide_terms d e k =
        let q : is_narrow p (own_weights (place_count p)) (formula_replaced (stands s) f) ≡ false = sym narrow_stands ∙ e in
        let c : comparisons_fit p (own_weights (place_count p)) (formula_replaced (stands s) f) ≡ true = k in
        let g : nat_le (terms_of p (own_weights (place_count p)) (formula_replaced (stands s) f)) 65536 ≡ false = rw c at q in
        over _ g
      where
        over : (n : ℕ) → nat_le n 65536 ≡ false → 65536 < n
        over n g = grind (arith, nat_tests)

-- ---- walks

module _ (p : Places) (walk new : Walk) (s : StandIns) (rs : List Expr) (cs : List Condition) (h : HasCome p walk s rs cs) where
  pub put_come : Placed → WeightsCompose → CoefficientsCompose → (c : ℕ) (e : Expr) (x : Scaled) → c < p.controls → IsTrue (all_variables (is_on_path p) e) → x.weight ≡ weight_in p (weights_of walk.env.items) e → fits (weight_in p (weights_of walk.env.items) e) ≡ true → AreBelow (place_count p) x.poly → IsWeighed x.poly x.weight → ((f : Var → Coefficients) → StandsFor p walk.env.items f → IsCanonical x.weight.den x.poly (coefficients f e)) → ((used : Var → Bool) (allowed : ℕ → Bool) → IsTrue (all_variables used e) → StandsWithin p walk.env.items used allowed → HaveOnly allowed x.poly) → new.env.items ≡ slice_set walk.env.items (place p (Control c)) x → new.parts ≡ walk.parts → new.terms ≡ walk.terms → HasCome p new (instead s c (replaced (stands s) e)) (rs ++ replaced (stands s) e ∷ []) cs
  put_come placed weigh compose c e x lt u w g b i k o q r t =
      let v = path_in_model p e u in record {
        follows = rw q (Follows-put p walk.env.items s h.follows placed weigh compose c e x lt v w b i k (λ allowed a. o (is_on_path p) allowed u (h.follows.only allowed a)));
        parts = rw r h.parts;
        narrow = narrow_side p rs cs (replaced (stands s) e) h.narrow (sym (side_fits p walk.env.items s h.follows weigh e v) ∙ g);
        terms = t ∙ h.terms;
      }

  pub put_wide : WeightsCompose → (e : Expr) → IsTrue (all_variables (is_on_path p) e) → fits (weight_in p (weights_of walk.env.items) e) ≡ false → ¬ AreNarrow p (rs ++ replaced (stands s) e ∷ []) cs
  put_wide weigh e u g = wide_side p rs cs (replaced (stands s) e) (sym (side_fits p walk.env.items s h.follows weigh e (path_in_model p e u)) ∙ g)

  module _ (law : TermsCompose) (f : Formula) (d : Bool) (u : IsTrue (all_variables_of (is_on_path p) f)) (n count : ℕ) (e : count ≡ min (terms_of p (weights_of walk.env.items) f) (2 ^ 64 - 1)) (all : n ≡ min (walk.terms + count) (2 ^ 64 - 1)) where
    pub test_come : (part : Norm) → n ≤ 65536 → IsPart p (of_formula s f d) (tree part) → condition_fits p (of_formula s f d) ≡ true → IsSized (place_count p) (tree part) → ((allowed : ℕ → Bool) → AllowsPaths p allowed → TreeHasOnly allowed (tree part)) → new.env ≡ walk.env → new.parts.items ≡ walk.parts.items ++ part ∷ [] → new.terms ≡ n → HasCome p new s rs (cs ++ of_formula s f d ∷ [])
    test_come part le i k z o q r t =
        let m = formula_terms p walk.env.items s h.follows law f d (path_in_model_of p f u) in
        let b = h.terms in
        let sum : walk.terms + condition_terms p (of_formula s f d) ≡ n = omega arith in
        let few : walk.terms + condition_terms p (of_formula s f d) ≤ 65536 = omega arith in record {
          follows = rw q h.follows;
          parts = rw (r, map-append tree walk.parts.items (part ∷ [])) (HasParts-more p cs (map tree walk.parts.items) (of_formula s f d) (tree part) h.parts i z o);
          narrow = narrow_condition p rs cs (of_formula s f d) walk.terms n h.narrow k h.terms few;
          terms = omega (arith, sum_by-append (condition_terms p) cs (of_formula s f d ∷ []));
        }

    pub test_many : 65536 < n → ¬ AreNarrow p rs (cs ++ of_formula s f d ∷ [])
    test_many lt =
        let m = formula_terms p walk.env.items s h.follows law f d (path_in_model_of p f u) in
        let over : 65536 < walk.terms + condition_terms p (of_formula s f d) = omega arith in
        many_terms p rs cs (of_formula s f d) walk.terms h.terms over

  pub test_wide : (c : Condition) → (condition_fits p c ≡ true → 65536 < condition_terms p c) → ¬ AreNarrow p rs (cs ++ c ∷ [])
  test_wide c k a =
      let z = (both _ _ (all_back (condition_fits p) cs (c ∷ []) a.fit)).0 in
      let l = k z in
      let f = a.few in
      absurd (omega (arith, sum_by-append (condition_terms p) cs (c ∷ [])))

-- ---- `:= *`

pub on_ok : {A E : Type 0} (r : Result A E) (P Q : Type 0) → (P → Q) → OnOk r P → OnOk r Q
on_ok (Ok x) P Q f h = f h
on_ok (Err e) P Q f h = h

pub any_come : (p : Places) (walk new : Walk) (s : StandIns) (rs : List Expr) (cs : List Condition) (c : ℕ) → HasCome p walk s rs cs → HasCome p new (instead s c (Variable (NextControl c))) (rs ++ Variable (NextControl c) ∷ []) cs → HasCome p new (instead s c (Variable (NextControl c))) (rs ++ []) (cs ++ [])
any_come p walk new s rs cs c h k =
    rw (append-nil rs, append-nil cs) (record { follows = k.follows; parts = k.parts; narrow = h.narrow; terms = k.terms })

pub any_wide : (p : Places) (rs : List Expr) (cs : List Condition) (c : ℕ) → c < p.controls → (¬ AreNarrow p (rs ++ Variable (NextControl c) ∷ []) cs) → ¬ AreNarrow p (rs ++ []) (cs ++ [])
any_wide p rs cs c lt f a =
    let b : AreNarrow p rs cs = rw (append-nil rs, append-nil cs) at a in
    f (narrow_side p rs cs (Variable (NextControl c)) b (next_is_small p c lt))
