use Rattle.std.proofs.Common.{◌≡◌, drop, map}
use Rattle.std.specs.List.{reduce}
use Rattle.std.specs.Option.{option_map}
use Rattle.vp_interval.specs.Interval.{ends}
use Rattle.vp_interval.specs.Polynomial.{of_term}
use Rattle.vp_interval.specs.Rounding.{sum}
use Rattle.vp_interval.proofs.Joining.{with_rest}
use Rattle.vp_interval.proofs.polynomial.of_poly.Given as goal

abbrev pub invariant-loop-k : goal.invariant-loop-k
invariant-loop-k l =
    with_rest sum (option_map ends l.total) (map (of_term (map ends l.boxes)) (drop l.k l.p))
    ≡ reduce sum (map (of_term (map ends l.boxes)) l.p)
