use Rattle.std.proofs.Common.{◌<◌, ◌^◌, ◌≤◌, ℕ, List, length, take, subst, arith}
use Rattle.std.specs.List.{All}
use Rattle.std.proofs.lemmas.Int.{ints}
use Rattle.std.proofs.lemmas.List.{take_all}
use Rattle.std.proofs.lemmas.List.Elements.{All-more}
use Rattle.vp_logic.specs.declared.norm.Atom.{Atom}
use Rattle.vp_poly.specs.Poly.{IsPoly, norm}
use Rattle.vp_cert_tests.proofs.tests.are_small.Goals as goal

whole : (P : Atom → Type 0) (xs : List Atom) (i : ℕ) → length xs ≤ i → All P (take i xs) → All P xs
whole P xs i h a = subst (All P) (take_all i xs h) a

pub loop-atom-preserved : goal.loop-atom-preserved
loop-atom-preserved c = record {
  polynomials = All-more (λ (a : Atom). IsPoly a.poly) c.args.atoms.now c.loop-atom.atom-index c.atom-item.result c.loop-atom-test.true c.loop-atom.invariant.polynomials (subst (λ (a : Atom). IsPoly a.poly) c.atom-item.is c.norm.ensures.canonical);
  small = All-more (λ (a : Atom). norm a.poly < 2 ^ 62) c.args.atoms.now c.loop-atom.atom-index c.atom-item.result c.loop-atom-test.true c.loop-atom.invariant.small (subst (λ (a : Atom). norm a.poly < 2 ^ 62) c.atom-item.is (omega (arith, ints, c.norm.ensures.value, c.if-norm.false)));
}

pub returns-clause-polynomials : goal.returns-clause-polynomials
returns-clause-polynomials c = λ e. whole (λ (a : Atom). IsPoly a.poly) c.args.atoms.now c.loop-atom.atom-index c.loop-atom-test.false c.loop-atom.invariant.polynomials

pub returns-clause-small : goal.returns-clause-small
returns-clause-small c = λ e. whole (λ (a : Atom). norm a.poly < 2 ^ 62) c.args.atoms.now c.loop-atom.atom-index c.loop-atom-test.false c.loop-atom.invariant.small
