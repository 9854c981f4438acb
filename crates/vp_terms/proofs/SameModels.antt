-- Packages with one tree are one model.
use Rattle.std.proofs.Common.{◌≡◌, ◌≤◌, List, length, map, Option, None, Some, IfSome, IsTrue, refl, sym, ap, subst, ◌∙◌}
use Rattle.std.specs.Prelude.{slice_get, option_map}
use Rattle.std.proofs.lemmas.List.{length-map}
use Rattle.std.proofs.lemmas.Option.{slice_get-map}
use Rattle.vp_terms.specs.Rational.{Rational, Equals}
use Rattle.vp_terms.specs.Meaning.{Assignment, holds, compares}
use Rattle.vp_terms.specs.Control.{Values, assigned}
use Rattle.vp_terms.specs.Plant.{Flow, IsWithin, PlantStep, timed}
use Rattle.vp_terms.specs.Model.{FallsBack, IsInductive, model_of}
use Rattle.vp_terms.specs.Packages.{PackageTree, package_tree, slack_tree}
use Rattle.vp_terms.specs.Tree.{ExprTree, expr_tree, formula_tree}
use Rattle.vp_terms.specs.declared.expr.Expr.{Expr}
use Rattle.vp_terms.specs.declared.formula.Cmp.TheVariants.{Le}
use Rattle.vp_terms.specs.declared.formula.Formula.{Formula}
use Rattle.vp_terms.specs.declared.package.Slack.{Slack}
use Rattle.vp_terms.specs.declared.package.Package.{Package}
use Rattle.vp_terms.proofs.Trees.{same_value, same_truth, same_program}

true_alike : (f g : Formula) (a : Assignment) → formula_tree f ≡ formula_tree g → IsTrue (holds f a) → IsTrue (holds g a)
true_alike f g a h t = sym (same_truth f g h a) ∙ t

within_alike : (s t : Slack) (a : Assignment) (d : Rational) → slack_tree s ≡ slack_tree t → IsWithin s a d → IsWithin t a d
within_alike s t a d h w = record {
  low = subst (λ q. IsTrue (compares Le q d)) (same_value s.low t.low (ap (λ (b : ExprTree × ExprTree). b.0) h) a) w.low;
  high = subst (λ q. IsTrue (compares Le d q)) (same_value s.high t.high (ap (λ (b : ExprTree × ExprTree). b.1) h) a) w.high;
}

each_within : (o r : Option Slack) (a : Assignment) (d : Rational) → option_map slack_tree o ≡ option_map slack_tree r → IfSome o (λ s. IsWithin s a d) → IfSome r (λ s. IsWithin s a d)
each_within None None a d h w = tt
each_within None (Some t) a d h w = absurd (cc)
each_within (Some s) None a d h w = tt
each_within (Some s) (Some t) a d h w = within_alike s t a d (cc) w

pub same_plant : (flow : Flow) (pkg other : Package) → package_tree pkg ≡ package_tree other → (p x u : Values) (t : Rational) (y : Values)
    → PlantStep flow pkg.plant p x u t y → PlantStep flow other.plant p x u t y
same_plant flow pkg other h p x u t y step =
    let slack : map slack_tree pkg.plant.slack ≡ map slack_tree other.plant.slack = ap (λ (k : PackageTree). k.slack) h in
    record {
      low = subst (λ q. IsTrue (compares Le q t)) (same_value pkg.plant.low other.plant.low (ap (λ (k : PackageTree). k.low) h) (timed p x u t)) step.low;
      high = subst (λ q. IsTrue (compares Le t q)) (same_value pkg.plant.high other.plant.high (ap (λ (k : PackageTree). k.high) h) (timed p x u t)) step.high;
      states = λ i. each_within (slice_get pkg.plant.slack i) (slice_get other.plant.slack i) _ _
          (sym (slice_get-map slack_tree pkg.plant.slack i) ∙ ap (λ s. slice_get s i) slack ∙ slice_get-map slack_tree other.plant.slack i) (step.states i);
      domain = true_alike pkg.plant.domain other.plant.domain (timed p y u t) (ap (λ (k : PackageTree). k.domain) h) step.domain;
    }

-- an expression of one list has its fellow in a list with the same trees
fellow : (o r : Option Expr) (e : Expr) → option_map expr_tree o ≡ option_map expr_tree r → o ≡ Some e → (f : Expr) × (r ≡ Some f) × (expr_tree f ≡ expr_tree e)
fellow None r e h s = absurd (cc)
fellow (Some d) None e h s = absurd (cc)
fellow (Some d) (Some f) e h s = (f, refl, cc)

same_fallback : (es fs : List Expr) (p x u v : Values) → map expr_tree es ≡ map expr_tree fs → FallsBack es p x u v → FallsBack fs p x u v
same_fallback es fs p x u v h b =
    let n : length es ≡ length fs = sym (length-map es expr_tree) ∙ ap (λ (ts : List ExprTree). length ts) h ∙ length-map fs expr_tree in
    record {
      each = λ k e s.
          let trees = sym (slice_get-map expr_tree fs k) ∙ ap (λ ts. slice_get ts k) (sym h) ∙ slice_get-map expr_tree es k in
          let f = fellow (slice_get fs k) (slice_get es k) e trees s in
          subst (λ q. Equals (v k) q) (same_value f.0 e f.2 (assigned p x u)) (b.each k f.0 f.1);
      others = λ k l. b.others k (subst (λ m. m ≤ k) (sym n) l);
    }

pub same_inductive : (flow : Flow) (pkg other : Package) → package_tree pkg ≡ package_tree other → IsInductive (model_of flow pkg) → IsInductive (model_of flow other)
same_inductive flow pkg other h m =
    let back = sym h in
    let init = ap (λ (k : PackageTree). k.init) back in
    let inv = ap (λ (k : PackageTree). k.inv) h in
    let inv_back = ap (λ (k : PackageTree). k.inv) back in
    let safe = ap (λ (k : PackageTree). k.safe) h in
    let ctrl = ap (λ (k : PackageTree). k.ctrl) h in
    let ctrl_back = ap (λ (k : PackageTree). k.ctrl) back in
    let fallback_back = ap (λ (k : PackageTree). k.fallback) back in
    record {
      starts = λ p x u i. true_alike pkg.inv other.inv (assigned p x u) inv (m.starts p x u (true_alike other.init pkg.init (assigned p x u) init i));
      is_safe = λ p x u i. true_alike pkg.safe other.safe (assigned p x u) safe (m.is_safe p x u (true_alike other.inv pkg.inv (assigned p x u) inv_back i));
      kept = λ p x u v y t i c s.
          true_alike pkg.inv other.inv (assigned p y v) inv
          (m.kept p x u v y t (true_alike other.inv pkg.inv (assigned p x u) inv_back i) (same_program other.ctrl pkg.ctrl ctrl_back p x u v c) (same_plant flow other pkg back p x v t y s));
      falls_back = λ p x u v i f.
          same_program pkg.ctrl other.ctrl ctrl p x u v
          (m.falls_back p x u v (true_alike other.inv pkg.inv (assigned p x u) inv_back i) (same_fallback other.fallback pkg.fallback p x u v fallback_back f));
    }
