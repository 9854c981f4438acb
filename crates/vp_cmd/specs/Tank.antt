-- The package of `demo`: a tank that a flow fills and empties.
use Rattle.std.specs.Prelude.{ℕ, List, codes}

unfoldable pub tank : List ℕ
tank = codes "package 1;\nparams H;\nstates x;\ncontrols f;\ninit x <= H;\ninv x <= H;\nsafe x <= H;\nctrl {f := *; ?f >= -3 & x + 10*f + 10 <= H;} ++ {f := -3;};\ntime 0 to 10;\nflow x' = f;\nslack x from -tau to tau;\ndomain true;\nfallback f = -3;\ncert init 1 {pos 1 of 2; sum 1 of 1;};\ncert safe 1 {pos 1 of 2; sum 1 of 1;};\ncert step 1 {pos 10 of 8; sum 1 of 5*1; sum 1 of 4*3; sum 10 of 7;};\ncert step 2 {pos 1 of 7; sum 1 of 1; sum 1 of 6; sum 2 of 3; eq 2 times (-tau);};\ncert fallback 1 {pos 1 of 4; eq 2 times (-1);};\ncert fallback 2 {pos 1 of 4; eq 2 times (1);};\ncert fallback 3 {pos 1 of 4; eq 2 times (-1);};\ncert fallback 4 {pos 1 of 4; eq 2 times (1);};\n"
