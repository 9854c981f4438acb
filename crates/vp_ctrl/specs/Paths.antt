-- What the paths of a controller are, and why there are none.
use Rattle.std.specs.Prelude.{◌≡◌, ⊤, ℕ, ◌-◌, ◌^◌, ◌<◌, ◌≤◌, min, Bool, false, nat_lt, IsTrue, if◌then◌else◌, List, [], ◌∷◌, length, map, slice_get, None, Some}
use Rattle.vp_terms.specs.Places.{place, place_count}
use Rattle.vp_terms.specs.WellFormed.{places_of}
use Rattle.vp_terms.specs.declared.expr.Places.{Places}
use Rattle.vp_terms.specs.declared.expr.Var.{Var}
use Rattle.vp_terms.specs.declared.expr.Var.TheVariants.{Param, State, Control, NextState, NextControl, Tau}
use Rattle.vp_terms.specs.declared.package.Package.{Package}
use Rattle.std.specs.List.{list_any}
use Rattle.vp_poly.specs.declared.canonical.PolyErr.{PolyErr}
use Rattle.vp_poly.specs.declared.canonical.PolyErr.TheVariants as poly
use Rattle.vp_poly.specs.Value.{Point}
use Rattle.vp_logic.specs.Sized.{EachHasOnly, EachIsSized}
use Rattle.vp_logic.specs.Truth.{parts_hold}
use Rattle.vp_poly.specs.Canonical.{own_weights, variables}
use Rattle.vp_logic.specs.Tree.{Tree, all_atoms, tree, negated}
use Rattle.vp_logic.specs.Normal.{IsNormal}
use Rattle.vp_ctrl.specs.declared.path.Path.{Path}
use Rattle.vp_ctrl.specs.declared.path.PathErr.{PathErr}
use Rattle.vp_ctrl.specs.declared.path.PathErr.TheVariants.{Paths, Hidden, Wide, Memory}
use Rattle.vp_ctrl.specs.Ways.{Way, ways, way_count}
use Rattle.vp_ctrl.specs.Hidden.{first_hidden}
use Rattle.vp_ctrl.specs.Following.{Condition, conditions}
use Rattle.vp_ctrl.specs.Widths.{ways_are_narrow}

-- the tree is the normal form of the condition's formula, negated where the formula has to fail
abbrev pub IsPart : Places → Condition → Tree → Type 0
IsPart p c t = (u : Tree) × (t ≡ (if c.denied then negated u else u)) × IsNormal p (own_weights (place_count p)) (variables p) c.formula u

-- each tree is that of its condition
abbrev pub AreParts : Places → List Condition → List Tree → Type 0
AreParts p [] [] = ⊤
AreParts p [] (t ∷ ts) = ⊥
AreParts p (c ∷ cs) [] = ⊥
AreParts p (c ∷ cs) (t ∷ ts) = IsPart p c t × AreParts p cs ts

-- the parts of a path
abbrev pub parts_of : Path → List Tree
parts_of path = map tree path.parts

-- each path has the parts of its way
abbrev pub ArePaths : Places → List Way → List Path → Type 0
ArePaths p [] [] = ⊤
ArePaths p [] (x ∷ xs) = ⊥
ArePaths p (w ∷ ws) [] = ⊥
ArePaths p (w ∷ ws) (x ∷ xs) = AreParts p (conditions p.controls w) (parts_of x) × ArePaths p ws xs

-- whether all parts of some path hold
abbrev pub some_path_holds : Point → List Path → Bool
some_path_holds a paths = list_any (λ path. parts_hold (parts_of path) a) paths

-- the polynomials of all parts are small
abbrev pub EachPathIsSized : ℕ → List Path → Type 0
EachPathIsSized v [] = ⊤
EachPathIsSized v (x ∷ xs) = EachIsSized v (parts_of x) × EachPathIsSized v xs

-- the variables that a path may have: parameters, states, controls and next controls of the model
abbrev pub is_on_path : Places → Var → Bool
is_on_path p (Param i) = nat_lt i p.params
is_on_path p (State i) = nat_lt i p.states
is_on_path p (Control i) = nat_lt i p.controls
is_on_path p (NextState i) = false
is_on_path p (NextControl i) = nat_lt i p.controls
is_on_path p Tau = false

-- the places of all of these pass the test
abbrev pub AllowsPaths : Places → (ℕ → Bool) → Type 0
AllowsPaths p allowed = (v : Var) → IsTrue (is_on_path p v) → IsTrue (allowed (place p v))

-- the polynomials of all parts have places alone that pass the test
abbrev pub EachPathHasOnly : (ℕ → Bool) → List Path → Type 0
EachPathHasOnly allowed [] = ⊤
EachPathHasOnly allowed (x ∷ xs) = EachHasOnly allowed (parts_of x) × EachPathHasOnly allowed xs

-- each path has at most n atoms
abbrev pub EachPathHasFew : ℕ → List Path → Type 0
EachPathHasFew n [] = ⊤
EachPathHasFew n (x ∷ xs) = (length (all_atoms (parts_of x)) ≤ n) × EachPathHasFew n xs

-- why a polynomial couldn't be made, as why there are no paths
abbrev pub of_poly : PolyErr → PathErr
of_poly poly.Wide = Wide
of_poly poly.Memory = Memory

-- the refusal is due: the first of the three conditions that holds; want of memory always may be
abbrev pub Refuses : Package → PathErr → Type 0
Refuses pkg (Paths count) = (256 < way_count pkg.ctrl) × (count ≡ min (way_count pkg.ctrl) (2 ^ 64 - 1))
Refuses pkg (Hidden name) =
    (way_count pkg.ctrl ≤ 256) × (c : ℕ) × (first_hidden (ways pkg.ctrl) ≡ Some c) × (slice_get pkg.names.controls c ≡ Some name)
Refuses pkg Wide =
    (way_count pkg.ctrl ≤ 256) × (first_hidden (ways pkg.ctrl) ≡ None) × (ways_are_narrow (places_of pkg.names) (ways pkg.ctrl) ≡ false)
Refuses pkg Memory = ⊤
