use Rattle.std.proofs.Common.{◌<◌, ◌≤◌, ℕ, List, length, take, subst}
use Rattle.std.specs.List.{All}
use Rattle.std.proofs.lemmas.List.{take_all}
use Rattle.std.proofs.lemmas.List.Elements.{All-more}
use Rattle.vp_cert_tests.proofs.tests.are_places.Goals as goal

whole : (P : ℕ → Type 0) (xs : List ℕ) (i : ℕ) → length xs ≤ i → All P (take i xs) → All P xs
whole P xs i h a = subst (All P) (take_all i xs h) a

pub loop-place-preserved : goal.loop-place-preserved
loop-place-preserved c = All-more (λ (k : ℕ). k < c.args.count) c.args.places.now c.loop-place.place-index 0 c.loop-place-test.true c.loop-place.invariant c.if-place-count.false

pub returns : goal.returns
returns c = λ e. whole (λ (k : ℕ). k < c.args.count) c.args.places.now c.loop-place.place-index c.loop-place-test.false c.loop-place.invariant
