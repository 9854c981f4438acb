-- The refusals of the layers below, as those of monitors.
use Rattle.std.specs.Prelude.{◌≡◌, ⊤, ℕ, List, Some, slice_get}
use Rattle.vp_poly.specs.declared.canonical.PolyErr.{PolyErr}
use Rattle.vp_poly.specs.declared.canonical.PolyErr.TheVariants as poly
use Rattle.vp_ctrl.specs.declared.path.PathErr.{PathErr}
use Rattle.vp_ctrl.specs.declared.path.PathErr.TheVariants as path
use Rattle.vp_monitor.specs.declared.error.MonErr.{MonErr}
use Rattle.vp_monitor.specs.declared.error.MonErr.TheVariants.{Wide, Paths, Hidden, Memory}
use Rattle.vp_monitor.specs.declared.error.Place.{Place}
use Rattle.vp_monitor.specs.declared.error.Place.TheVariants.{Ctrl, Flow}

-- why a polynomial couldn't be made at this place
abbrev pub of_poly : Place → PolyErr → MonErr
of_poly place poly.Wide = Wide place
of_poly place poly.Memory = Memory

-- why there are no paths
abbrev pub of_paths : PathErr → MonErr
of_paths (path.Paths count) = Paths count
of_paths (path.Hidden name) = Hidden name
of_paths path.Wide = Wide Ctrl
of_paths path.Memory = Memory

-- the refusal tells that this place is over, which is so where P is; want of memory tells nothing
abbrev pub Tells : Place → Type 0 → MonErr → Type 0
Tells place P (Wide at) = (at ≡ place) × P
Tells place P Memory = ⊤
Tells place P e = ⊥

-- the refusal tells that the flow of a state of this name is over, by its number
abbrev pub IsFlowOver : List (List ℕ) → List ℕ → MonErr → Type 0
IsFlowOver names name e = (i : ℕ) × (slice_get names i ≡ Some name) × (e ≡ Wide (Flow i))
