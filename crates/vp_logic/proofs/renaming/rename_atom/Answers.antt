use Rattle.std.proofs.Common.{List, ap, arith}
use Rattle.vp_poly.specs.declared.mono.Term.{Term}
use Rattle.vp_logic.specs.declared.norm.Atom.{Atom}
use Rattle.vp_logic.proofs.Moved.{same_poly, renaming_length}
use Rattle.vp_logic.proofs.renaming.rename_atom.Goals as goal

pub returns-clause-copy : goal.returns-clause-copy
returns-clause-copy c =
    λ k.
    let atom : List Term → Atom = λ p. record { poly = p; rel = c.args.atom.now.rel } in
    ap atom (same_poly c.args.to.now c.args.atom.now.poly c.in_ok-poly.poly (renaming_length c.args.to.now c.requires) k c.len-terms.ensures.canonical c.in_ok-poly.ensures.canonical c.in_ok-poly.ensures.coefficients)

pub returns-clause-sized : goal.returns-clause-sized
returns-clause-sized c =
    λ v w s k.
    let z = c.in_ok-poly.ensures.sizes in
    record {
      poly = c.in_ok-poly.ensures.canonical;
      places = c.in_ok-poly.ensures.places v w s.places k;
      small = omega (arith, z.norm_le, s.small);
      low = omega (arith, z.degree_le, s.low);
    }
