-- What an interval shows.
use Rattle.vp_interval.specs.declared.interval.Interval.{Interval}
use Rattle.vp_interval.specs.Rounding.{Ends}

-- the ends of an interval
abbrev pub ends : Interval → Ends
ends v = record { lo = v.lo; hi = v.hi }
