use Rattle.std.proofs.Common.{◌∙◌, ap}
use Rattle.std.proofs.lemmas.Result.{err_from_is_err_and}
use Rattle.vp_terms.specs.Meaning.{value}
use Rattle.vp_poly.specs.Weights.{fits, weight_in}
use Rattle.vp_poly.specs.Places.{places_for}
use Rattle.vp_poly.specs.Canonical.{weights_of}
use Rattle.vp_logic.proofs.Comparing.{sum_turned, ok_holds, le_is, lt_is, ge_is, gt_is, eq_is, ne_is}
use Rattle.vp_logic.proofs.forming.compare.Goals as goal

pub returns-in-Le-clause-within : goal.returns-in-Le-clause-within
returns-in-Le-clause-within c =
    λ o. ap fits (sum_turned (weight_in (places_for c.args.counts) (weights_of c.args.env.now) c.args.a.now) (weight_in (places_for c.args.counts) (weights_of c.args.env.now) c.args.b.now)) ∙ c.difference.ensures.within o

pub returns-in-Le-clause-wide : goal.returns-in-Le-clause-wide
returns-in-Le-clause-wide c =
    λ o. ap fits (sum_turned (weight_in (places_for c.args.counts) (weights_of c.args.env.now) c.args.a.now) (weight_in (places_for c.args.counts) (weights_of c.args.env.now) c.args.b.now)) ∙ c.difference.ensures.wide o

pub returns-in-Le-clause-holds : goal.returns-in-Le-clause-holds
returns-in-Le-clause-holds c = λ x v g h s. rw c.in-Le.is (ok_holds c.difference.result x _ _ (le_is (value c.args.a.now v) (value c.args.b.now v)) (c.difference.ensures.holds x v h g s))

pub returns-in-Lt-clause-within : goal.returns-in-Lt-clause-within
returns-in-Lt-clause-within c =
    λ o. ap fits (sum_turned (weight_in (places_for c.args.counts) (weights_of c.args.env.now) c.args.a.now) (weight_in (places_for c.args.counts) (weights_of c.args.env.now) c.args.b.now)) ∙ c.difference-in-Lt.ensures.within o

pub returns-in-Lt-clause-wide : goal.returns-in-Lt-clause-wide
returns-in-Lt-clause-wide c =
    λ o. ap fits (sum_turned (weight_in (places_for c.args.counts) (weights_of c.args.env.now) c.args.a.now) (weight_in (places_for c.args.counts) (weights_of c.args.env.now) c.args.b.now)) ∙ c.difference-in-Lt.ensures.wide o

pub returns-in-Lt-clause-holds : goal.returns-in-Lt-clause-holds
returns-in-Lt-clause-holds c = λ x v g h s. rw c.in-Lt.is (ok_holds c.difference-in-Lt.result x _ _ (lt_is (value c.args.a.now v) (value c.args.b.now v)) (c.difference-in-Lt.ensures.holds x v h g s))

pub returns-in-Ge-clause-holds : goal.returns-in-Ge-clause-holds
returns-in-Ge-clause-holds c = λ x v g h s. rw c.in-Ge.is (ok_holds c.difference-in-Ge.result x _ _ (ge_is (value c.args.a.now v) (value c.args.b.now v)) (c.difference-in-Ge.ensures.holds x v g h s))

pub returns-in-Gt-clause-holds : goal.returns-in-Gt-clause-holds
returns-in-Gt-clause-holds c = λ x v g h s. rw c.in-Gt.is (ok_holds c.difference-in-Gt.result x _ _ (gt_is (value c.args.a.now v) (value c.args.b.now v)) (c.difference-in-Gt.ensures.holds x v g h s))

pub returns-in-Eq-clause-holds : goal.returns-in-Eq-clause-holds
returns-in-Eq-clause-holds c = λ x v g h s. rw c.in-Eq.is (ok_holds c.difference-in-Eq.result x _ _ (eq_is (value c.args.a.now v) (value c.args.b.now v)) (c.difference-in-Eq.ensures.holds x v g h s))

pub returns-in_err-below-in-Ne-clause-wide : goal.returns-in_err-below-in-Ne-clause-wide
returns-in_err-below-in-Ne-clause-wide c =
    λ e.
    let p = err_from_is_err_and c.from_residual-in_err-below-in-Ne.result c.from_residual-in_err-below-in-Ne.ensures.1 in
    ap fits (sum_turned (weight_in (places_for c.args.counts) (weights_of c.args.env.now) c.args.a.now) (weight_in (places_for c.args.counts) (weights_of c.args.env.now) c.args.b.now)) ∙ c.in_err-below-in-Ne.ensures.wide (cc)

pub returns-in_ok-n-in-Ne-clause-holds : goal.returns-in_ok-n-in-Ne-clause-holds
returns-in_ok-n-in-Ne-clause-holds c =
    λ x v g h s.
    rw (c.in_ok-n-in-Ne.ensures, c.in-Ne.is, c.in_ok-above-in-Ne.ensures.holds x v g h s, c.in_ok-below-in-Ne.ensures.holds x v h g s) (ne_is (value c.args.a.now v) (value c.args.b.now v))
