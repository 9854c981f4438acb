-- The sandbox that is made of a package's monitors fits.
use Rattle.std.proofs.Common.{◌≡◌, ℕ, suc, ◌+◌, ◌*◌, ◌<◌, ◌≤◌, ◌^◌, Bool, true, false, ◌&&◌, ◌||◌, ◌==◌, nat_lt, nat_le, IsTrue, List, [], ◌∷◌, length, map, refl, sym, ap, ◌∙◌, subst, arith}
use Rattle.std.specs.List.{All}
use Rattle.std.proofs.lemmas.List.{length-map}
use Rattle.std.proofs.lemmas.List.Elements.{All-head, All-tail}
use Rattle.vp_words.specs.Record.{IsValid}
use Rattle.vp_words.specs.declared.record.Counts.{Counts}
use Rattle.vp_terms.specs.Places.{place_count}
use Rattle.vp_terms.specs.WellFormed.{IsWellFormed}
use Rattle.vp_terms.specs.declared.package.Package.{Package}
use Rattle.vp_terms.specs.declared.expr.Var.TheVariants.{Param, State, Control, NextState, NextControl, Tau}
use Rattle.vp_terms.specs.declared.expr.Expr.{Expr}
use Rattle.vp_terms.specs.declared.expr.Places.{Places}
use Rattle.vp_poly.specs.declared.mono.Term.{Term}
use Rattle.vp_poly.specs.Places.{HaveOnly, places_for}
use Rattle.vp_logic.specs.Sized.{AreSized as AreSizedTrees, EachHasOnly, EachIsSized, IsSized, TreeHasOnly, TreesHaveOnly}
use Rattle.vp_logic.specs.Tree.{Tree, Trees, One, AllOf, AnyOf, None, Then, conjuncts_of, members, tree}
use Rattle.vp_ctrl.specs.declared.path.Path.{Path}
use Rattle.vp_ctrl.specs.Paths.{AllowsPaths, EachPathHasOnly, EachPathIsSized}
use Rattle.vp_monitor.specs.Meaning.{AllowsModel, AllowsPlant, AreSized, HaveOwnPlaces, IsSmall}
use Rattle.vp_monitor.specs.Monitors.{AreMonitors, ArePolynomialsOf}
use Rattle.vp_monitor.specs.declared.types.Monitors.{Monitors}
use Rattle.vp_monitor.specs.Obligations.{path_tree}
use Rattle.vp_sandbox.specs.Boxes.{first_next_state, first_next_control, tau_place}
use Rattle.vp_sandbox.specs.Fits.{EachFits, Fits, PolysFit, TreeFits, TreesFit, in_ctrl, in_init, in_plant}
use Rattle.vp_sandbox.specs.declared.sandbox.Sandbox.{Sandbox}
use Rattle.vp_synth.specs.Sandboxes.{IsMadeOf}

-- ---- forms

mutual
  pub tree_fits : (v : ℕ) (allowed : ℕ → Bool) (t : Tree) → IsSized v t → TreeHasOnly allowed t → TreeFits allowed t
  tree_fits v allowed (One a) s h = record { poly = s.poly; places = h; small = s.small; low = s.low }
  tree_fits v allowed (AllOf ns) s h = trees_fit v allowed ns s h
  tree_fits v allowed (AnyOf ns) s h = trees_fit v allowed ns s h

  pub trees_fit : (v : ℕ) (allowed : ℕ → Bool) (ns : Trees) → AreSizedTrees v ns → TreesHaveOnly allowed ns → TreesFit allowed ns
  trees_fit v allowed None s h = tt
  trees_fit v allowed (Then n ns) s h = (tree_fits v allowed n s.0 h.0, trees_fit v allowed ns s.1 h.1)

pub each_fits : (v : ℕ) (allowed : ℕ → Bool) (ts : List Tree) → EachIsSized v ts → EachHasOnly allowed ts → EachFits allowed ts
each_fits v allowed [] s h = tt
each_fits v allowed (t ∷ ts) s h = (tree_fits v allowed t s.0 h.0, each_fits v allowed ts s.1 h.1)

-- as members of one form
members_fit : (allowed : ℕ → Bool) (ts : List Tree) → EachFits allowed ts → TreesFit allowed (members ts)
members_fit allowed [] h = tt
members_fit allowed (t ∷ ts) h = (h.0, members_fit allowed ts h.1)

-- the `Or` of paths
pub paths_fit : (v : ℕ) (allowed : ℕ → Bool) (xs : List Path) → EachPathIsSized v xs → EachPathHasOnly allowed xs → TreeFits allowed (AnyOf (members (map path_tree xs)))
paths_fit v allowed [] s h = tt
paths_fit v allowed (x ∷ xs) s h = (members_fit allowed (map tree x.parts) (each_fits v allowed (map tree x.parts) s.0 h.0), paths_fit v allowed xs s.1 h.1)

pub polynomials_fit : (allowed : ℕ → Bool) (ps : List (List Term)) → All IsSmall ps → All (HaveOnly allowed) ps → PolysFit allowed ps
polynomials_fit allowed [] s h = tt
polynomials_fit allowed (p ∷ ps) s h =
    let q = All-head IsSmall p ps s in (
      record { poly = q.poly; places = All-head (HaveOnly allowed) p ps h; small = q.small; low = q.low },
      polynomials_fit allowed ps (All-tail IsSmall p ps s) (All-tail (HaveOnly allowed) p ps h),
    )

-- there is a polynomial for each expression
pub as_many : (p : Places) (es : List Expr) (qs : List (List Term)) → ArePolynomialsOf p es qs → length qs ≡ length es
as_many p [] [] h = refl
as_many p [] (q ∷ qs) h = absurd h
as_many p (e ∷ es) [] h = absurd h
as_many p (e ∷ es) (q ∷ qs) h = ap suc (as_many p es qs h.1)

-- ---- places

below : (a b : ℕ) → IsTrue (nat_lt a b) → a < b
below a b h = grind arith

is_below : (a b : ℕ) → a < b → IsTrue (nat_lt a b)
is_below a b h = grind arith

pub in_init_allows : (c : Counts) → AllowsModel (places_for c) (in_init c)
in_init_allows c (Param i) h = let l = below i c.params h in is_below _ _ (omega arith)
in_init_allows c (State i) h = let l = below i c.states h in is_below _ _ (omega arith)
in_init_allows c (Control i) h = let l = below i c.controls h in is_below _ _ (omega arith)
in_init_allows c (NextState i) h = absurd (cc)
in_init_allows c (NextControl i) h = absurd (cc)
in_init_allows c Tau h = absurd (cc)

at_left : (a b : Bool) → IsTrue a → IsTrue (a || b)
at_left true b h = refl
at_left false b h = absurd (cc)

at_right : (a b : Bool) → IsTrue b → IsTrue (a || b)
at_right true b h = refl
at_right false b h = h

both_hold : (a b : Bool) → IsTrue a → IsTrue b → IsTrue (a && b)
both_hold true b h k = k
both_hold false b h k = absurd (cc)

within : (a b : ℕ) → a ≤ b → IsTrue (nat_le a b)
within a b h = grind arith

same : (a : ℕ) → IsTrue (a == a)
same a = grind arith

in_front : (c : Counts) (k : ℕ) → k < first_next_state c → IsTrue (in_ctrl c k)
in_front c k h = at_left (nat_lt k (first_next_state c)) _ (is_below k (first_next_state c) h)

pub in_ctrl_allows : (c : Counts) → AllowsPaths (places_for c) (in_ctrl c)
in_ctrl_allows c (Param i) h = let l = below i c.params h in in_front c i (omega arith)
in_ctrl_allows c (State i) h = let l = below i c.states h in in_front c (c.params + i) (omega arith)
in_ctrl_allows c (Control i) h = let l = below i c.controls h in in_front c (c.params + c.states + i) (omega arith)
in_ctrl_allows c (NextState i) h = absurd (cc)
in_ctrl_allows c (NextControl i) h =
    let l = below i c.controls h in
    let k = c.params + 2 * c.states + c.controls + i in
    at_right (nat_lt k (first_next_state c)) _ (both_hold (nat_le (first_next_control c) k) _ (within (first_next_control c) k (omega arith)) (is_below k (tau_place c) (omega arith)))
in_ctrl_allows c Tau h = absurd (cc)

in_sensed : (c : Counts) (k : ℕ) → k < first_next_control c → IsTrue (in_plant c k)
in_sensed c k h = at_left (nat_lt k (first_next_control c)) _ (is_below k (first_next_control c) h)

pub in_plant_allows : (c : Counts) → AllowsPlant (places_for c) (in_plant c)
in_plant_allows c (Param i) h = let l = below i c.params h in in_sensed c i (omega arith)
in_plant_allows c (State i) h = let l = below i c.states h in in_sensed c (c.params + i) (omega arith)
in_plant_allows c (Control i) h = let l = below i c.controls h in in_sensed c (c.params + c.states + i) (omega arith)
in_plant_allows c (NextState i) h = let l = below i c.states h in in_sensed c (c.params + c.states + c.controls + i) (omega arith)
in_plant_allows c (NextControl i) h = absurd (cc)
in_plant_allows c Tau h = at_right (nat_lt (tau_place c) (first_next_control c)) _ (same (tau_place c))

-- ---- the sandbox

pub made_fits : (pkg : Package) (m : Monitors) (s : Sandbox) → ((v : ℕ) (t : Tree) → IsSized v t → EachIsSized v (conjuncts_of t)) → ((allowed : ℕ → Bool) (t : Tree) → TreeHasOnly allowed t → EachHasOnly allowed (conjuncts_of t)) →
    IsWellFormed pkg → AreMonitors pkg m → IsValid m.counts → AreSized m → HaveOwnPlaces m → length (conjuncts_of (tree m.init)) < 2 ^ 32 → length m.plant < 2 ^ 32 → IsMadeOf m s → Fits s
made_fits pkg m s sized only good are valid z o few few_plant h =
    let v = place_count (places_for m.counts) in
    let init : EachFits (in_init m.counts) (conjuncts_of (tree m.init)) =
    each_fits v (in_init m.counts) (conjuncts_of (tree m.init)) (sized v (tree m.init) z.init) (only (in_init m.counts) (tree m.init) (o.init (in_init m.counts) (in_init_allows m.counts))) in
    let ctrl : TreeFits (in_ctrl m.counts) (AnyOf (members (map path_tree m.paths))) = paths_fit v (in_ctrl m.counts) m.paths z.paths (o.paths (in_ctrl m.counts) (in_ctrl_allows m.counts)) in
    let plant : EachFits (in_plant m.counts) (map tree m.plant) = each_fits v (in_plant m.counts) (map tree m.plant) z.plant (o.plant (in_plant m.counts) (in_plant_allows m.counts)) in
    let fallback : PolysFit (in_init m.counts) m.fallback = polynomials_fit (in_init m.counts) m.fallback z.fallback (o.fallback (in_init m.counts) (in_init_allows m.counts)) in
    let back : m.counts ≡ s.counts = sym h.counts in
    record {
      counts = subst IsValid back valid;
      init_few = omega (arith, ap length h.init, length-map s.init tree, few);
      init = subst (λ (c : Counts). EachFits (in_init c) (map tree s.init)) back (subst (EachFits (in_init m.counts)) (sym h.init) init);
      ctrl = subst (λ (c : Counts). TreeFits (in_ctrl c) (tree s.ctrl)) back (subst (TreeFits (in_ctrl m.counts)) (sym h.ctrl) ctrl);
      plant_few = omega (arith, ap length h.plant, length-map s.plant tree, length-map m.plant tree, few_plant);
      plant = subst (λ (c : Counts). EachFits (in_plant c) (map tree s.plant)) back (subst (EachFits (in_plant m.counts)) (sym h.plant) plant);
      fallback_count = ap length h.fallback ∙ (as_many _ pkg.fallback m.fallback are.fallback ∙ (good.fallback_count ∙ (sym (ap (λ (p : Places). p.controls) are.places) ∙ ap (λ (c : Counts). c.controls) back)));
      fallback = subst (λ (c : Counts). PolysFit (in_init c) s.fallback) back (subst (PolysFit (in_init m.counts)) (sym h.fallback) fallback);
    }
