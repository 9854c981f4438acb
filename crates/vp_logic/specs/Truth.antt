-- Where normal forms hold.
use Rattle.std.specs.Prelude.{Bool, true, false, ◌&&◌, ◌||◌, pos, List}
use Rattle.std.specs.List.{list_all}
use Rattle.vp_terms.specs.Rational.{Rational, whole}
use Rattle.vp_terms.specs.Meaning.{compares}
use Rattle.vp_terms.specs.declared.formula.Cmp.TheVariants as cmp
use Rattle.vp_poly.specs.Value.{Point, value_at}
use Rattle.vp_logic.specs.declared.norm.Rel.{Rel}
use Rattle.vp_logic.specs.declared.norm.Rel.TheVariants.{Ge, Gt, Eq}
use Rattle.vp_logic.specs.declared.norm.Atom.{Atom}
use Rattle.vp_logic.specs.Tree.{Tree, Trees, One, AllOf, AnyOf, None, Then}

-- whether a value has this relation to 0
abbrev pub rel_holds : Rel → Rational → Bool
rel_holds Ge q = compares cmp.Ge q (whole (pos 0))
rel_holds Gt q = compares cmp.Gt q (whole (pos 0))
rel_holds Eq q = compares cmp.Eq q (whole (pos 0))

-- whether the atom holds at a point
abbrev pub atom_holds : Atom → Point → Bool
atom_holds atom a = rel_holds atom.rel (value_at atom.poly a)

-- whether all members of an `And` hold, or some member of an `Or`
abbrev mutual
  pub tree_holds : Tree → Point → Bool
  tree_holds (One atom) a = atom_holds atom a
  tree_holds (AllOf ns) a = all_hold ns a
  tree_holds (AnyOf ns) a = any_holds ns a

  pub all_hold : Trees → Point → Bool
  all_hold None a = true
  all_hold (Then n ns) a = tree_holds n a && all_hold ns a

  pub any_holds : Trees → Point → Bool
  any_holds None a = false
  any_holds (Then n ns) a = tree_holds n a || any_holds ns a

-- whether all parts hold
abbrev pub parts_hold : List Tree → Point → Bool
parts_hold ts a = list_all (λ t. tree_holds t a) ts
