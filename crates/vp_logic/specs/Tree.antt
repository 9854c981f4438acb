-- Normal forms without the boxes that hold their members, and the functions on them.
use Rattle.std.specs.Prelude.{List, [], ◌∷◌, ◌++◌, negsuc}
use Rattle.vp_poly.specs.declared.mono.Term.{Term}
use Rattle.vp_poly.specs.Poly.{scaled}
use Rattle.vp_logic.specs.declared.norm.Rel.{Rel}
use Rattle.vp_logic.specs.declared.norm.Rel.TheVariants.{Ge, Gt, Eq}
use Rattle.vp_logic.specs.declared.norm.Atom.{Atom}
use Rattle.vp_logic.specs.declared.norm.Norm.{Norm}
use Rattle.vp_logic.specs.declared.norm.Norm.TheVariants.{Atom as AtomOf, And', Or'}
use Rattle.vp_logic.specs.declared.norm.Norms.{Norms}
use Rattle.vp_logic.specs.declared.norm.Norms.TheVariants.{End, More'}

-- an atom, an `And` or an `Or` of members in order
mutual
  pub data Tree : Type 0 where
    One : Atom → Tree
    AllOf : Trees → Tree
    AnyOf : Trees → Tree

  pub data Trees : Type 0 where
    None : Trees
    Then : Tree → Trees → Trees

abbrev mutual
  pub tree : Norm → Tree
  tree (AtomOf atom) = One atom
  tree (And' p ns) = AllOf (trees ns)
  tree (Or' p ns) = AnyOf (trees ns)

  pub trees : Norms → Trees
  trees End = None
  trees (More' n p ns) = Then (tree n) (trees ns)

-- these forms as members
abbrev pub members : List Tree → Trees
members [] = None
members (t ∷ ts) = Then t (members ts)

-- the atom p with this relation to 0
abbrev pub atom : Rel → List Term → Tree
atom rel p = One (record { poly = p; rel = rel })

-- `p >= 0` becomes `-p > 0`, `p > 0` becomes `-p >= 0`, `p = 0` becomes `p > 0` or `-p > 0`
abbrev pub negated_atom : Rel → List Term → Tree
negated_atom Ge p = atom Gt (scaled (negsuc 0) p)
negated_atom Gt p = atom Ge (scaled (negsuc 0) p)
negated_atom Eq p = AnyOf (Then (atom Gt p) (Then (atom Gt (scaled (negsuc 0) p)) None))

-- `And` becomes `Or` of the negated members in order, and `Or` becomes `And`
abbrev mutual
  pub negated : Tree → Tree
  negated (One a) = negated_atom a.rel a.poly
  negated (AllOf ns) = AnyOf (negated_each ns)
  negated (AnyOf ns) = AllOf (negated_each ns)

  pub negated_each : Trees → Trees
  negated_each None = None
  negated_each (Then n ns) = Then (negated n) (negated_each ns)

-- the conjuncts of an `And` are those of its members in order; any other form is its own one
abbrev mutual
  pub conjuncts_of : Tree → List Tree
  conjuncts_of (One a) = One a ∷ []
  conjuncts_of (AllOf ns) = each_conjunct ns
  conjuncts_of (AnyOf ns) = AnyOf ns ∷ []

  pub each_conjunct : Trees → List Tree
  each_conjunct None = []
  each_conjunct (Then n ns) = conjuncts_of n ++ each_conjunct ns

-- all atoms from left to right
abbrev mutual
  pub atoms_of : Tree → List Atom
  atoms_of (One a) = a ∷ []
  atoms_of (AllOf ns) = atoms_each ns
  atoms_of (AnyOf ns) = atoms_each ns

  pub atoms_each : Trees → List Atom
  atoms_each None = []
  atoms_each (Then n ns) = atoms_of n ++ atoms_each ns

-- those of a list of parts
abbrev pub all_atoms : List Tree → List Atom
all_atoms [] = []
all_atoms (t ∷ ts) = atoms_of t ++ all_atoms ts
