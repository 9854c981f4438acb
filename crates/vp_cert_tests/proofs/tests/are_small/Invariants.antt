use Rattle.std.proofs.Common.{◌<◌, ◌^◌, take}
use Rattle.std.specs.List.{All}
use Rattle.vp_logic.specs.declared.norm.Atom.{Atom}
use Rattle.vp_poly.specs.Poly.{IsPoly, norm}
use Rattle.vp_cert_tests.proofs.tests.are_small.Given as goal

abbrev pub invariant-loop-atom : goal.invariant-loop-atom
invariant-loop-atom l = record {
  polynomials : All (λ (a : Atom). IsPoly a.poly) (take l.atom-index l.atoms);
  small : All (λ (a : Atom). norm a.poly < 2 ^ 62) (take l.atom-index l.atoms);
}
