use Rattle.vp_terms.proofs.Agreeing.{both}
use Rattle.vp_logic.specs.Tree.{tree}
use Rattle.vp_logic.proofs.TwoMembers.{both_hold, either_holds}
use Rattle.vp_logic.proofs.forming.+form.Goals as goal

pub returns-in-Cmp-clause-form : goal.returns-in-Cmp-clause-form
returns-in-Cmp-clause-form t c = λ f h s.
    let g = both _ _ (rw c.in-Cmp.is at h) in
    rw c.in-Cmp.is (c.compare.ensures.form f g.0 g.1 s)

pub returns-in-Cmp-clause-holds : goal.returns-in-Cmp-clause-holds
returns-in-Cmp-clause-holds t c = λ x a h s.
    let g = both _ _ (rw c.in-Cmp.is at h) in
    rw c.in-Cmp.is (c.compare.ensures.holds x a g.0 g.1 s)

pub returns-in-Cmp-clause-only : goal.returns-in-Cmp-clause-only
returns-in-Cmp-clause-only t c = λ used allowed h s.
    let g = both _ _ (rw c.in-Cmp.is at h) in
    c.compare.ensures.only used allowed g.0 g.1 s

pub returns-in_ok-n-in-And-clause-form : goal.returns-in_ok-n-in-And-clause-form
returns-in_ok-n-in-And-clause-form t c = λ f h s.
    let g = both _ _ (rw c.in-And.is at h) in
    rw (c.in-And.is, ← c.deref.ensures, ← c.deref-in-And.ensures) (tree c.in_ok-left-in-And.left, tree c.in_ok-right-in-And.right, c.in_ok-n-in-And.ensures, c.in_ok-left-in-And.ensures.form f (rw c.deref.ensures g.0) s, c.in_ok-right-in-And.ensures.form f (rw c.deref-in-And.ensures g.1) s)

pub returns-in_ok-n-in-And-clause-holds : goal.returns-in_ok-n-in-And-clause-holds
returns-in_ok-n-in-And-clause-holds t c = λ x a h s.
    let g = both _ _ (rw c.in-And.is at h) in
    rw (c.in_ok-n-in-And.ensures, c.in-And.is, ← c.deref.ensures, ← c.deref-in-And.ensures) (both_hold _ _ _ _ (c.in_ok-left-in-And.ensures.holds x a (rw c.deref.ensures g.0) s) (c.in_ok-right-in-And.ensures.holds x a (rw c.deref-in-And.ensures g.1) s))

pub returns-in_ok-n-in-And-clause-only : goal.returns-in_ok-n-in-And-clause-only
returns-in_ok-n-in-And-clause-only t c = λ used allowed h s.
    let g = both _ _ (rw c.in-And.is at h) in
    rw c.in_ok-n-in-And.ensures (c.in_ok-left-in-And.ensures.only used allowed (rw c.deref.ensures g.0) s, (c.in_ok-right-in-And.ensures.only used allowed (rw c.deref-in-And.ensures g.1) s, tt))

pub returns-in_ok-n-in-Or-clause-form : goal.returns-in_ok-n-in-Or-clause-form
returns-in_ok-n-in-Or-clause-form t c = λ f h s.
    let g = both _ _ (rw c.in-Or.is at h) in
    rw (c.in-Or.is, ← c.deref-in-Or.ensures, ← c.deref-in-Or-2.ensures) (tree c.in_ok-left-in-Or.left, tree c.in_ok-right-in-Or.right, c.in_ok-n-in-Or.ensures, c.in_ok-left-in-Or.ensures.form f (rw c.deref-in-Or.ensures g.0) s, c.in_ok-right-in-Or.ensures.form f (rw c.deref-in-Or-2.ensures g.1) s)

pub returns-in_ok-n-in-Or-clause-holds : goal.returns-in_ok-n-in-Or-clause-holds
returns-in_ok-n-in-Or-clause-holds t c = λ x a h s.
    let g = both _ _ (rw c.in-Or.is at h) in
    rw (c.in_ok-n-in-Or.ensures, c.in-Or.is, ← c.deref-in-Or.ensures, ← c.deref-in-Or-2.ensures) (either_holds _ _ _ _ (c.in_ok-left-in-Or.ensures.holds x a (rw c.deref-in-Or.ensures g.0) s) (c.in_ok-right-in-Or.ensures.holds x a (rw c.deref-in-Or-2.ensures g.1) s))

pub returns-in_ok-n-in-Or-clause-only : goal.returns-in_ok-n-in-Or-clause-only
returns-in_ok-n-in-Or-clause-only t c = λ used allowed h s.
    let g = both _ _ (rw c.in-Or.is at h) in
    rw c.in_ok-n-in-Or.ensures (c.in_ok-left-in-Or.ensures.only used allowed (rw c.deref-in-Or.ensures g.0) s, (c.in_ok-right-in-Or.ensures.only used allowed (rw c.deref-in-Or-2.ensures g.1) s, tt))
