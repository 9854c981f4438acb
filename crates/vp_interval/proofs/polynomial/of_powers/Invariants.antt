use Rattle.std.proofs.Common.{◌≡◌, drop, map}
use Rattle.std.specs.List.{reduce}
use Rattle.std.specs.Option.{option_map}
use Rattle.vp_interval.specs.Interval.{ends}
use Rattle.vp_interval.specs.Polynomial.{powers_of}
use Rattle.vp_interval.specs.Rounding.{product}
use Rattle.vp_interval.proofs.Joining.{with_rest}
use Rattle.vp_interval.proofs.polynomial.of_powers.Given as goal

abbrev pub invariant-loop-place : goal.invariant-loop-place
invariant-loop-place l =
    with_rest product (option_map ends l.total) (powers_of (drop l.place l.powers) (drop l.place (map ends l.boxes)))
    ≡ reduce product (powers_of l.powers (map ends l.boxes))
