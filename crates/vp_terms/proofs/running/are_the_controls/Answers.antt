use Rattle.std.proofs.Common.{◌+◌, ◌-◌, ◌<◌, arith, refl, sym, ◌∙◌, length, drop, length-take, length-drop}
use Rattle.vp_terms.specs.Meaning.{rational}
use Rattle.vp_terms.proofs.Standing as standing
use Rattle.vp_terms.proofs.running.are_the_controls.Goals as goal

pub returns-then-not-compares : goal.returns-then-not-compares
returns-then-not-compares c =
    let vs = c.args.values.now in
    let first = c.args.places.params + c.args.places.states in
    let i = c.loop-i.i in
    let a = c.index-controls-i.result in
    let b = c.index-after-i.result in
    let h = c.loop-i-test.true in
    let inside = standing.part_inside vs (length vs - first) first i h in
    let short : i < c.args.places.controls = omega arith in
    let beside : i < length c.args.after.now = omega arith in
    let e = standing.part_index vs (length vs - first) first i a h c.index-controls-i.is in
    let n = standing.are_not_equal (rational a) (rational b) (sym c.compares.ensures ∙ c.if-not-compares.true) in
    ((λ y. absurd (cc)), λ f. absurd (standing.one_differs vs c.args.after.now first i a b inside beside e c.index-after-i.is n (f i short)))

pub loop-i-preserved : goal.loop-i-preserved
loop-i-preserved c =
    let vs = c.args.values.now in
    let first = c.args.places.params + c.args.places.states in
    let i = c.loop-i.i in
    let a = c.index-controls-i.result in
    let b = c.index-after-i.result in
    let h = c.loop-i-test.true in
    let inside = standing.part_inside vs (length vs - first) first i h in
    let beside : i < length c.args.after.now = omega arith in
    let e = standing.part_index vs (length vs - first) first i a h c.index-controls-i.is in
    let q = standing.are_equal (rational a) (rational b) (sym c.compares.ensures ∙ c.if-not-compares.false) in
    standing.one_more vs c.args.after.now first i a b inside beside e c.index-after-i.is q c.loop-i.invariant

pub returns : goal.returns
returns c =
    let vs = c.args.values.now in
    let first = c.args.places.params + c.args.places.states in
    let t = length-take (length vs - first) (drop first vs) in
    let d = length-drop first vs in
    let h = c.loop-i-test.false in
    ((λ y k m. c.loop-i.invariant k (omega arith)), λ f. refl)
