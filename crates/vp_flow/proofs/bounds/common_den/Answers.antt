use Rattle.std.proofs.Common.{◌≡◌, ◌≤◌, ◌<◌, ◌^◌, ℕ, arith, subst}
use Rattle.vp_poly.specs.Lcm.{lcm}
use Rattle.vp_flow.specs.Bounds.{common_den}
use Rattle.vp_flow.proofs.BoundLaws.{last-grows}
use Rattle.vp_flow.proofs.TestLaws.{none-answer}
use Rattle.vp_flow.proofs.bounds.common_den.Goals as goal

pub returns-in_err-common : goal.returns-in_err-common
returns-in_err-common c =
    none-answer c.from_residual.result (2 ^ 62 ≤ common_den c.args.sides.now) (λ n. (n ≡ common_den c.args.sides.now) × (n < 2 ^ 62)) c.from_residual.ensures
    (let g = last-grows c.args.sides.now c.loop-k.k c.loop-k.common c.index-sides-sides.result c.requires c.loop-k-test.true c.index-sides-sides.is c.loop-k.invariant.0 in
    let big = subst (λ (n : ℕ). 2 ^ 128 ≤ lcm n c.loop-k.common) c.den_of.ensures.value c.in_err-common.ensures.exact in
    omega (arith, g, big))

pub returns-then-common-ge-LIMIT : goal.returns-then-common-ge-LIMIT
returns-then-common-ge-LIMIT c =
    let g = last-grows c.args.sides.now c.loop-k.k c.loop-k.common c.index-sides-sides.result c.requires c.loop-k-test.true c.index-sides-sides.is c.loop-k.invariant.0 in
    let same = subst (λ (n : ℕ). c.in_ok-common.common ≡ lcm n c.loop-k.common) c.den_of.ensures.value c.in_ok-common.ensures.exact in
    omega (arith, g, same, c.if-common-ge-LIMIT.true)
