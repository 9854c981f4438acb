use Rattle.std.proofs.Common.{refl}
use Rattle.vp_terms.proofs.Evaluating.{sum_result, difference_result, product_result, all_small, power_over, powers_small}
use Rattle.vp_terms.proofs.evaluate.+value_at.Goals as goal

pub returns-in_ok-right-in-Add-clause-small : goal.returns-in_ok-right-in-Add-clause-small
returns-in_ok-right-in-Add-clause-small t c =
    let l = c.in_ok-left-in-Add.ensures in
    let r = c.in_ok-right-in-Add.ensures in
    let s = sum_result _ _ c.in_ok-left-in-Add.left c.in_ok-right-in-Add.right c.plus.result l.exact r.exact c.plus.ensures in
    rw (c.in-Add.is, ← c.deref.ensures, ← c.deref-in-Add.ensures) (all_small _ _ _ c.plus.result (l.small.0 refl) (r.small.0 refl) s)

pub returns-in_ok-right-in-Sub-clause-small : goal.returns-in_ok-right-in-Sub-clause-small
returns-in_ok-right-in-Sub-clause-small t c =
    let l = c.in_ok-left-in-Sub.ensures in
    let r = c.in_ok-right-in-Sub.ensures in
    let s = difference_result _ _ c.in_ok-left-in-Sub.left c.in_ok-right-in-Sub.right c.minus.result l.exact r.exact c.minus.ensures in
    rw (c.in-Sub.is, ← c.deref-in-Sub.ensures, ← c.deref-in-Sub-2.ensures) (all_small _ _ _ c.minus.result (l.small.0 refl) (r.small.0 refl) s)

pub returns-in_ok-right-in-Mul-clause-small : goal.returns-in_ok-right-in-Mul-clause-small
returns-in_ok-right-in-Mul-clause-small t c =
    let l = c.in_ok-left-in-Mul.ensures in
    let r = c.in_ok-right-in-Mul.ensures in
    let s = product_result _ _ c.in_ok-left-in-Mul.left c.in_ok-right-in-Mul.right c.times.result l.exact r.exact c.times.ensures in
    rw (c.in-Mul.is, ← c.deref-in-Mul.ensures, ← c.deref-in-Mul-2.ensures) (all_small _ _ _ c.times.result (l.small.0 refl) (r.small.0 refl) s)

pub returns-in_ok-value_at-in-Pow-clause-exact : goal.returns-in_ok-value_at-in-Pow-clause-exact
returns-in_ok-value_at-in-Pow-clause-exact t c =
    let b = c.in_ok-value_at-in-Pow.ensures in
    rw (c.in-Pow.is, ← c.deref-in-Pow.ensures) (power_over _ c.in_ok-value_at-in-Pow.field-0 _ c.to_power.result b.exact c.to_power.ensures.exact)

pub returns-in_ok-value_at-in-Pow-clause-small : goal.returns-in_ok-value_at-in-Pow-clause-small
returns-in_ok-value_at-in-Pow-clause-small t c =
    let b = c.in_ok-value_at-in-Pow.ensures in
    rw (c.in-Pow.is, ← c.deref-in-Pow.ensures) (powers_small _ _ c.in_ok-value_at-in-Pow.field-0 _ c.to_power.result (b.small.0 refl) b.exact c.to_power.ensures.small)
