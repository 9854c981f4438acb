-- The parts of a package's sandbox mean those of its model.
use Rattle.std.proofs.Common.{◌≡◌, ◌↔◌, ℕ, Bool, ◌&&◌, IsTrue, List, [], ◌∷◌, map, refl, sym, ap, ◌∙◌, subst}
use Rattle.std.specs.Prelude.{slice_get, Some}
use Rattle.vp_terms.specs.Control.{AgreeFrom, Values, changing}
use Rattle.vp_terms.specs.Model.{model_of}
use Rattle.vp_terms.specs.Plant.{Flow}
use Rattle.vp_terms.specs.Rational.{Rational, Equals}
use Rattle.vp_terms.specs.declared.package.Package.{Package}
use Rattle.vp_poly.specs.declared.mono.Term.{Term}
use Rattle.vp_poly.specs.Places.{places_for}
use Rattle.vp_poly.specs.Points.{IsAt}
use Rattle.vp_poly.specs.Value.{Point, value_at}
use Rattle.vp_words.specs.declared.record.Counts.{Counts}
use Rattle.vp_logic.specs.Tree.{Tree, AnyOf, conjuncts_of, members, tree}
use Rattle.vp_logic.specs.Truth.{all_hold, parts_hold, tree_holds}
use Rattle.vp_ctrl.specs.declared.path.Path.{Path}
use Rattle.vp_ctrl.specs.Paths.{parts_of, some_path_holds}
use Rattle.vp_history.specs.Means.{AreValues, Means}
use Rattle.vp_monitor.specs.Meaning.{Mean}
use Rattle.vp_monitor.specs.Obligations.{path_tree}
use Rattle.vp_monitor.specs.declared.types.Monitors.{Monitors}
use Rattle.vp_sandbox.specs.declared.sandbox.Sandbox.{Sandbox}
use Rattle.vp_synth.specs.Sandboxes.{IsMadeOf}

-- the `And` of parts holds where they do
all_members : (ts : List Tree) (z : Point) → all_hold (members ts) z ≡ parts_hold ts z
all_members [] z = refl
all_members (t ∷ ts) z = ap (λ (b : Bool). tree_holds t z && b) (all_members ts z)

-- the `Or` of paths holds where some path does
pub some_path : (xs : List Path) (z : Point) → tree_holds (AnyOf (members (map path_tree xs))) z ≡ some_path_holds z xs
some_path [] z = refl
some_path (x ∷ xs) z = let e = all_members (parts_of x) z in let f = some_path xs z in cc

-- equal truths
moved : (a b : Bool) (P : Type 0) → a ≡ b → IsTrue b ↔ P → IsTrue a ↔ P
moved a b P e h = subst (λ (c : Bool). IsTrue c ↔ P) (sym e) h

pub means : (flow : Flow) (pkg : Package) (m : Monitors) (s : Sandbox) → ((t : Tree) (x : Point) → parts_hold (conjuncts_of t) x ≡ tree_holds t x) → IsMadeOf m s → Mean flow pkg m → Means s (model_of flow pkg)
means flow pkg m s conjuncts h k = record {
  init = λ z p x u v y t a. moved _ _ _ (ap (λ (l : List Tree). parts_hold l z) h.init ∙ conjuncts (tree m.init) z) (k.init z p x u v y t (at z p x u v y t a));
  ctrl = λ z p x u v y t a g. moved _ _ _ (ap (λ (f : Tree). tree_holds f z) h.ctrl ∙ some_path m.paths z) (k.ctrl z p x u v y t (at z p x u v y t a) (agreed u v g));
  plant = λ z p x u v y t a. moved _ _ _ (ap (λ (l : List Tree). parts_hold l z) h.plant) (k.plant z p x u v y t (at z p x u v y t a));
  fallback = λ z p x u v y w t a g. values z w _ (k.fallback z p x u v y w t (at z p x u v y t a) (agreed u w g));
}
  where
    at : (z : Point) (p x u v y : Values) (t : Rational) → IsAt (places_for s.counts) z (changing p x u v t y) → IsAt (places_for m.counts) z (changing p x u v t y)
    at z p x u v y t a = subst (λ (c : Counts). IsAt (places_for c) z (changing p x u v t y)) h.counts a

    agreed : (u v : Values) → AgreeFrom s.counts.controls u v → AgreeFrom m.counts.controls u v
    agreed u v g = subst (λ (c : Counts). AgreeFrom c.controls u v) h.counts g

    values : (z : Point) (w : Values) (P : Type 0) → ((i : ℕ) (q : List Term) → slice_get m.fallback i ≡ Some q → Equals (w i) (value_at q z)) ↔ P → AreValues s.fallback z w ↔ P
    values z w P f = (λ g. f.0 (λ i q e. g.each i q (ap (λ (l : List (List Term)). slice_get l i) h.fallback ∙ e)), λ g. record { each = λ i q e. f.1 g i q (ap (λ (l : List (List Term)). slice_get l i) (sym h.fallback) ∙ e) })
