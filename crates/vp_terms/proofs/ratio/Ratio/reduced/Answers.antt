use Rattle.std.proofs.Common.{arith}
use Rattle.std.proofs.lemmas.Int.{to_z-of_z}
use Rattle.vp_terms.proofs.Reduced.{lowest_sizes, same_value_sizes, small_sizes, fits}
use Rattle.vp_terms.proofs.ratio.Ratio.reduced.Goals as goal
use Rattle.vp_terms.proofs.ratio.Ratio.reduced.Goals.{then-size-ge-LIMIT-via-then-size-ge-LIMIT, then-size-ge-LIMIT-via-else-size-ge-LIMIT+then-below-ge-LIMIT}

pub returns-then-size-ge-LIMIT-clause-exact : goal.returns-then-size-ge-LIMIT-clause-exact
returns-then-size-ge-LIMIT-clause-exact c r q =
    let num_fits = c.ranges.num in
    let den_fits = c.ranges.den in
    let above = simp to_z-of_z at c.unsigned_abs-above.ensures.value in
    let under = simp to_z-of_z at c.unsigned_abs-under.ensures.value in
    let s = small_sizes c.args.num c.args.den _ _ _ r c.requires above under c.gcd-divisor.ensures q in
    elim c.then-size-ge-LIMIT.branch [ then-size-ge-LIMIT-via-then-size-ge-LIMIT w ↦ omega arith | then-size-ge-LIMIT-via-else-size-ge-LIMIT+then-below-ge-LIMIT w ↦ omega arith ]

pub invariant_of-result : goal.invariant_of-result
invariant_of-result c =
    let num_fits = c.ranges.num in
    let den_fits = c.ranges.den in
    let above = simp to_z-of_z at c.unsigned_abs-above.ensures.value in
    let under = simp to_z-of_z at c.unsigned_abs-under.ensures.value in
    let num_is = simp to_z-of_z at c.with_sign_of-num.ensures in
    let den_is = simp to_z-of_z at c.with_sign_of-den.ensures in
    let num_ok = fits c.args.num _ c.with_sign_of-num.result num_is c.if-size-ge-LIMIT.false in
    let den_ok = fits c.args.den _ c.with_sign_of-den.result den_is c.if-below-ge-LIMIT.false in
    let l = lowest_sizes c.args.num c.args.den _ _ _ c.requires above under c.gcd-divisor.ensures c.if-size-ge-LIMIT.false c.if-below-ge-LIMIT.false in
    simp to_z-of_z (rw (num_is, den_is) (record { lowest = l }))

pub returns-clause-exact : goal.returns-clause-exact
returns-clause-exact c =
    let num_fits = c.ranges.num in
    let den_fits = c.ranges.den in
    let above = simp to_z-of_z at c.unsigned_abs-above.ensures.value in
    let under = simp to_z-of_z at c.unsigned_abs-under.ensures.value in
    let num_is = simp to_z-of_z at c.with_sign_of-num.ensures in
    let den_is = simp to_z-of_z at c.with_sign_of-den.ensures in
    let num_ok = fits c.args.num _ c.with_sign_of-num.result num_is c.if-size-ge-LIMIT.false in
    let den_ok = fits c.args.den _ c.with_sign_of-den.result den_is c.if-below-ge-LIMIT.false in
    let v = same_value_sizes c.args.num c.args.den _ _ _ c.requires above under c.gcd-divisor.ensures in
    simp to_z-of_z (rw (num_is, den_is) v)
