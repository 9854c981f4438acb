-- The weights of all flows.
use Rattle.std.specs.Prelude.{◌≡◌, ◌<◌, ◌≤◌, ◌^◌, List, MatchOption, Option}
use Rattle.vp_poly.specs.declared.scaled.Scaled.{Scaled}
use Rattle.vp_flow.specs.Bounds.{bounds_of}
use Rattle.vp_flow.specs.declared.bounds.Bounds.{Bounds}

-- the four numbers, unless their common denominator is over
abbrev pub AreBounds : List Scaled → Option Bounds → Type 0
AreBounds qs o = MatchOption o (2 ^ 62 ≤ (bounds_of qs).common) (λ b. (b ≡ bounds_of qs) × (b.common < 2 ^ 62))
