use Rattle.std.proofs.Common.{◌≡◌, refl, ◌+◌, Some, None, map}
use Rattle.vp_logic.specs.Tree.{tree}
use Rattle.vp_interval.specs.declared.truth.Truth.TheVariants.{Yes}
use Rattle.vp_interval.specs.Formula.{truths, first_from}
use Rattle.vp_interval.specs.Interval.{ends}
use Rattle.vp_interval.proofs.Atoms.{part_fits}
use Rattle.vp_interval.proofs.Verdicts.{none_exactly, some_exactly, all_hold_in, found, passed, none_left}
use Rattle.vp_interval.proofs.formula.first_not_yes.Goals as goal

pub truth_of-truth-requires : goal.truth_of-truth-requires
truth_of-truth-requires c = part_fits _ c.args.parts.now c.loop-index.index c.index-parts-index.result c.index-parts-index.is c.loop-index-test.true c.requires.fits

some_is : (c : goal.Then-not-is_yes) → Some (c.loop-index.index + 1, c.truth_of-truth.result) ≡ first_from 1 (truths (map ends c.args.boxes.now) (map tree c.args.parts.now))
some_is c =
    let not_yes : c.truth_of-truth.result ≡ Yes → ⊥ = λ e. let t = c.is_yes.ensures.1 e in let f = c.if-not-is_yes.true in absurd (cc) in
    found (map ends c.args.boxes.now) c.args.parts.now c.loop-index.index (c.loop-index.index + 1) c.index-parts-index.result c.truth_of-truth.result (truths (map ends c.args.boxes.now) (map tree c.args.parts.now)) refl
    c.index-parts-index.is c.loop-index-test.true c.truth_of-truth.ensures.exact not_yes c.loop-index.invariant

pub returns-then-not-is_yes-clause-exact : goal.returns-then-not-is_yes-clause-exact
returns-then-not-is_yes-clause-exact c = some_is c

pub returns-then-not-is_yes-clause-none : goal.returns-then-not-is_yes-clause-none
returns-then-not-is_yes-clause-none c = none_exactly (Some (c.loop-index.index + 1, c.truth_of-truth.result)) _ (some_is c)

pub returns-then-not-is_yes-clause-some : goal.returns-then-not-is_yes-clause-some
returns-then-not-is_yes-clause-some c = some_exactly (c.loop-index.index + 1) c.truth_of-truth.result _ (some_is c)

pub loop-index-preserved : goal.loop-index-preserved
loop-index-preserved c =
    passed (map ends c.args.boxes.now) c.args.parts.now c.loop-index.index (c.loop-index.index + 1) c.index-parts-index.result c.truth_of-truth.result (truths (map ends c.args.boxes.now) (map tree c.args.parts.now)) refl
    c.index-parts-index.is c.loop-index-test.true c.truth_of-truth.ensures.exact (c.is_yes.ensures.0 c.if-not-is_yes.false) c.loop-index.invariant

none_is : (c : goal.After-loop-index) → None ≡ first_from 1 (truths (map ends c.args.boxes.now) (map tree c.args.parts.now))
none_is c = none_left (map ends c.args.boxes.now) c.args.parts.now c.loop-index.index (c.loop-index.index + 1) (truths (map ends c.args.boxes.now) (map tree c.args.parts.now)) c.loop-index-test.false c.loop-index.invariant

pub returns-clause-none : goal.returns-clause-none
returns-clause-none c = none_exactly None _ (none_is c)

pub returns-clause-meaning : goal.returns-clause-meaning
returns-clause-meaning c = λ x r. all_hold_in c.args.boxes.now (map tree c.args.parts.now) x r c.requires.fits (none_is c)
