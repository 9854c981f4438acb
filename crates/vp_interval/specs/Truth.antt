-- Three truths, and what an interval tells of a number's sign.
use Rattle.std.specs.Prelude.{◌≡◌, Bool, true, false, ◌&&◌, ◌||◌, pos, int_le, int_lt, if◌then◌else◌}
use Rattle.std.specs.Ordering.{int_eq}
use Rattle.vp_interval.specs.declared.truth.Truth.{Truth}
use Rattle.vp_interval.specs.declared.truth.Truth.TheVariants.{No, Maybe, Yes}
use Rattle.vp_interval.specs.Rounding.{Ends}

-- the lesser in the order No, Maybe, Yes
abbrev pub least : Truth → Truth → Truth
least No t = No
least Maybe No = No
least Maybe Maybe = Maybe
least Maybe Yes = Maybe
least Yes t = t

-- the greater
abbrev pub greatest : Truth → Truth → Truth
greatest No t = t
greatest Maybe No = Maybe
greatest Maybe Maybe = Maybe
greatest Maybe Yes = Yes
greatest Yes t = Yes

-- whether what stands between the ends is at least 0
abbrev pub at_least_zero : Ends → Truth
at_least_zero v = if int_le (pos 0) v.lo then Yes else (if int_lt v.hi (pos 0) then No else Maybe)

-- whether it is above 0
abbrev pub above_zero : Ends → Truth
above_zero v = if int_lt (pos 0) v.lo then Yes else (if int_le v.hi (pos 0) then No else Maybe)

-- whether it is 0
abbrev pub equal_to_zero : Ends → Truth
equal_to_zero v =
    if int_eq v.lo (pos 0) && int_eq v.hi (pos 0) then Yes
    else (if int_lt (pos 0) v.lo || int_lt v.hi (pos 0) then No else Maybe)

-- what a truth tells of a statement: Yes that it holds, No that it doesn't, Maybe nothing
abbrev pub Tells : Truth → Bool → Type 0
Tells No b = b ≡ false
Tells Maybe b = Unit {0}
Tells Yes b = b ≡ true
