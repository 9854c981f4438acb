use Rattle.vp_poly.specs.Places.{places_for}
use Rattle.vp_flow.specs.Whole.{part_at}
use Rattle.vp_flow.proofs.Steps.{next-dropped, next-missing, next-joined, next-small, next-sums}
use Rattle.vp_flow.proofs.series.with_term.Goals as goal

pub returns-in_default : goal.returns-in_default
returns-in_default c = next-dropped (places_for c.args.counts) (λ j. part_at c.args.series.now j c.args.k) c.args.rate.now c.args.out c.args.n c.term-term.result (record { exact = c.term-term.ensures.exact; poly = c.requires.poly; few = c.requires.few; linear = c.requires.linear; room = c.requires.room; before = c.requires.before }) c.in_default.ensures

pub returns-in_default-part_of : goal.returns-in_default-part_of
returns-in_default-part_of c = next-missing (places_for c.args.counts) (λ j. part_at c.args.series.now j c.args.k) c.args.rate.now c.args.out c.args.n c.term-term.result c.in-Some.j (record { exact = c.term-term.ensures.exact; poly = c.requires.poly; few = c.requires.few; linear = c.requires.linear; room = c.requires.room; before = c.requires.before }) c.in-Some.ensures c.in_default-part_of.ensures

pub mul-requires-clause-small : goal.mul-requires-clause-small
mul-requires-clause-small c = (next-small (places_for c.args.counts) (λ j. part_at c.args.series.now j c.args.k) c.args.rate.now c.args.out c.args.n c.term-term.result c.in-Some.j c.in_ok-factor.factor c.in-Some-part_of.part.now c.without.result (record { exact = c.term-term.ensures.exact; poly = c.requires.poly; few = c.requires.few; linear = c.requires.linear; room = c.requires.room; before = c.requires.before }) c.in-Some.ensures c.in-Some-part_of.ensures c.without.ensures.powers c.without.ensures.coef c.in_ok-factor.ensures.sizes).norms

pub mul-requires-clause-few : goal.mul-requires-clause-few
mul-requires-clause-few c = (next-small (places_for c.args.counts) (λ j. part_at c.args.series.now j c.args.k) c.args.rate.now c.args.out c.args.n c.term-term.result c.in-Some.j c.in_ok-factor.factor c.in-Some-part_of.part.now c.without.result (record { exact = c.term-term.ensures.exact; poly = c.requires.poly; few = c.requires.few; linear = c.requires.linear; room = c.requires.room; before = c.requires.before }) c.in-Some.ensures c.in-Some-part_of.ensures c.without.ensures.powers c.without.ensures.coef c.in_ok-factor.ensures.sizes).lengths

pub mul-requires-clause-low : goal.mul-requires-clause-low
mul-requires-clause-low c = (next-small (places_for c.args.counts) (λ j. part_at c.args.series.now j c.args.k) c.args.rate.now c.args.out c.args.n c.term-term.result c.in-Some.j c.in_ok-factor.factor c.in-Some-part_of.part.now c.without.result (record { exact = c.term-term.ensures.exact; poly = c.requires.poly; few = c.requires.few; linear = c.requires.linear; room = c.requires.room; before = c.requires.before }) c.in-Some.ensures c.in-Some-part_of.ensures c.without.ensures.powers c.without.ensures.coef c.in_ok-factor.ensures.sizes).degrees

pub add-requires-clause-small : goal.add-requires-clause-small
add-requires-clause-small c = (next-sums (places_for c.args.counts) (λ j. part_at c.args.series.now j c.args.k) c.args.rate.now c.args.out c.args.n c.term-term.result c.in-Some.j c.in_ok-factor.factor c.in-Some-part_of.part.now c.in_ok-multiple.multiple c.without.result (record { exact = c.term-term.ensures.exact; poly = c.requires.poly; few = c.requires.few; linear = c.requires.linear; room = c.requires.room; before = c.requires.before }) c.in-Some.ensures c.in-Some-part_of.ensures c.without.ensures.coef c.in_ok-factor.ensures.sizes c.in_ok-multiple.ensures.sizes).0

pub add-requires-clause-few : goal.add-requires-clause-few
add-requires-clause-few c = (next-sums (places_for c.args.counts) (λ j. part_at c.args.series.now j c.args.k) c.args.rate.now c.args.out c.args.n c.term-term.result c.in-Some.j c.in_ok-factor.factor c.in-Some-part_of.part.now c.in_ok-multiple.multiple c.without.result (record { exact = c.term-term.ensures.exact; poly = c.requires.poly; few = c.requires.few; linear = c.requires.linear; room = c.requires.room; before = c.requires.before }) c.in-Some.ensures c.in-Some-part_of.ensures c.without.ensures.coef c.in_ok-factor.ensures.sizes c.in_ok-multiple.ensures.sizes).1

pub returns : goal.returns
returns c = next-joined (places_for c.args.counts) (λ j. part_at c.args.series.now j c.args.k) c.args.rate.now c.args.out c.args.n c.term-term.result c.in-Some.j c.in_ok-factor.factor c.in-Some-part_of.part.now c.in_ok-multiple.multiple c.in_ok-sum.sum c.without.result (record { exact = c.term-term.ensures.exact; poly = c.requires.poly; few = c.requires.few; linear = c.requires.linear; room = c.requires.room; before = c.requires.before }) c.in-Some.ensures c.in-Some-part_of.ensures c.without.ensures.powers c.without.ensures.coef c.in_ok-factor.ensures.coefficients c.in_ok-multiple.ensures.coefficients c.in_ok-sum.ensures.coefficients c.in_ok-factor.ensures.sizes c.in_ok-multiple.ensures.sizes c.in_ok-sum.ensures.sizes
