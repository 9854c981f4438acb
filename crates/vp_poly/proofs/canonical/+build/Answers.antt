use Rattle.vp_terms.proofs.Agreeing.{both}
use Rattle.vp_poly.proofs.canonical.+build.Goals as goal

pub returns-in_ok-sum-in-Add-clause-coefficients : goal.returns-in_ok-sum-in-Add-clause-coefficients
returns-in_ok-sum-in-Add-clause-coefficients t c = λ f h s.
    let g = both _ _ (rw c.in-Add.is at h) in
    rw (c.in-Add.is, ← c.deref.ensures, ← c.deref-in-Add.ensures) (c.in_ok-sum-in-Add.ensures.coefficients _ _ (c.in_ok-a-in-Add.ensures.coefficients f (rw c.deref.ensures g.0) s) (c.in_ok-b-in-Add.ensures.coefficients f (rw c.deref-in-Add.ensures g.1) s))

pub returns-in_ok-sum-in-Add-clause-values : goal.returns-in_ok-sum-in-Add-clause-values
returns-in_ok-sum-in-Add-clause-values t c = λ x y h s.
    let g = both _ _ (rw c.in-Add.is at h) in
    rw (c.in-Add.is, ← c.deref.ensures, ← c.deref-in-Add.ensures) (c.in_ok-sum-in-Add.ensures.values x _ _ (c.in_ok-a-in-Add.ensures.values x y (rw c.deref.ensures g.0) s) (c.in_ok-b-in-Add.ensures.values x y (rw c.deref-in-Add.ensures g.1) s))

pub returns-in_ok-sum-in-Add-clause-only : goal.returns-in_ok-sum-in-Add-clause-only
returns-in_ok-sum-in-Add-clause-only t c = λ used allowed h s.
    let g = both _ _ (rw c.in-Add.is at h) in
    c.in_ok-sum-in-Add.ensures.only allowed (c.in_ok-a-in-Add.ensures.only used allowed (rw c.deref.ensures g.0) s) (c.in_ok-b-in-Add.ensures.only used allowed (rw c.deref-in-Add.ensures g.1) s)

pub returns-in_ok-rest-in-Sub-clause-coefficients : goal.returns-in_ok-rest-in-Sub-clause-coefficients
returns-in_ok-rest-in-Sub-clause-coefficients t c = λ f h s.
    let g = both _ _ (rw c.in-Sub.is at h) in
    rw (c.in-Sub.is, ← c.deref-in-Sub.ensures, ← c.deref-in-Sub-2.ensures) (c.in_ok-rest-in-Sub.ensures.coefficients _ _ (c.in_ok-a-in-Sub.ensures.coefficients f (rw c.deref-in-Sub.ensures g.0) s) (c.in_ok-b-in-Sub.ensures.coefficients f (rw c.deref-in-Sub-2.ensures g.1) s))

pub returns-in_ok-rest-in-Sub-clause-values : goal.returns-in_ok-rest-in-Sub-clause-values
returns-in_ok-rest-in-Sub-clause-values t c = λ x y h s.
    let g = both _ _ (rw c.in-Sub.is at h) in
    rw (c.in-Sub.is, ← c.deref-in-Sub.ensures, ← c.deref-in-Sub-2.ensures) (c.in_ok-rest-in-Sub.ensures.values x _ _ (c.in_ok-a-in-Sub.ensures.values x y (rw c.deref-in-Sub.ensures g.0) s) (c.in_ok-b-in-Sub.ensures.values x y (rw c.deref-in-Sub-2.ensures g.1) s))

pub returns-in_ok-rest-in-Sub-clause-only : goal.returns-in_ok-rest-in-Sub-clause-only
returns-in_ok-rest-in-Sub-clause-only t c = λ used allowed h s.
    let g = both _ _ (rw c.in-Sub.is at h) in
    c.in_ok-rest-in-Sub.ensures.only allowed (c.in_ok-a-in-Sub.ensures.only used allowed (rw c.deref-in-Sub.ensures g.0) s) (c.in_ok-b-in-Sub.ensures.only used allowed (rw c.deref-in-Sub-2.ensures g.1) s)

pub returns-in_ok-multiple-in-Mul-clause-coefficients : goal.returns-in_ok-multiple-in-Mul-clause-coefficients
returns-in_ok-multiple-in-Mul-clause-coefficients t c = λ f h s.
    let g = both _ _ (rw c.in-Mul.is at h) in
    rw (c.in-Mul.is, ← c.deref-in-Mul.ensures, ← c.deref-in-Mul-2.ensures) (c.in_ok-multiple-in-Mul.ensures.coefficients _ _ (c.in_ok-a-in-Mul.ensures.coefficients f (rw c.deref-in-Mul.ensures g.0) s) (c.in_ok-b-in-Mul.ensures.coefficients f (rw c.deref-in-Mul-2.ensures g.1) s))

pub returns-in_ok-multiple-in-Mul-clause-values : goal.returns-in_ok-multiple-in-Mul-clause-values
returns-in_ok-multiple-in-Mul-clause-values t c = λ x y h s.
    let g = both _ _ (rw c.in-Mul.is at h) in
    rw (c.in-Mul.is, ← c.deref-in-Mul.ensures, ← c.deref-in-Mul-2.ensures) (c.in_ok-multiple-in-Mul.ensures.values x _ _ (c.in_ok-a-in-Mul.ensures.values x y (rw c.deref-in-Mul.ensures g.0) s) (c.in_ok-b-in-Mul.ensures.values x y (rw c.deref-in-Mul-2.ensures g.1) s))

pub returns-in_ok-multiple-in-Mul-clause-only : goal.returns-in_ok-multiple-in-Mul-clause-only
returns-in_ok-multiple-in-Mul-clause-only t c = λ used allowed h s.
    let g = both _ _ (rw c.in-Mul.is at h) in
    c.in_ok-multiple-in-Mul.ensures.only allowed (c.in_ok-a-in-Mul.ensures.only used allowed (rw c.deref-in-Mul.ensures g.0) s) (c.in_ok-b-in-Mul.ensures.only used allowed (rw c.deref-in-Mul-2.ensures g.1) s)
