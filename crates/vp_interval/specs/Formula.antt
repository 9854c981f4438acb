-- The truth of a normal form where each place has a box.
use Rattle.std.specs.Prelude.{◌≡◌, ◌≢◌, ℕ, suc, ◌+◌, ◌-◌, ◌<◌, ◌≤◌, List, [], ◌∷◌, map, slice_get, Option, None, Some}
use Rattle.vp_poly.specs.Places.{AreBelow}
use Rattle.vp_logic.specs.declared.norm.Rel.{Rel}
use Rattle.vp_logic.specs.declared.norm.Rel.TheVariants.{Ge, Gt, Eq}
use Rattle.vp_logic.specs.declared.norm.Atom.{Atom}
use Rattle.vp_logic.specs.Tree.{Tree, Trees, One, AllOf, AnyOf, None as Done, Then}
use Rattle.vp_interval.specs.declared.truth.Truth.{Truth}
use Rattle.vp_interval.specs.declared.truth.Truth.TheVariants.{No, Maybe, Yes}
use Rattle.vp_interval.specs.Polynomial.{AreSmall, interval_of}
use Rattle.vp_interval.specs.Rounding.{Ends}
use Rattle.vp_interval.specs.Truth.{least, greatest, at_least_zero, above_zero, equal_to_zero}

-- what an interval tells of an atom whose polynomial it encloses
abbrev pub of_relation : Rel → Ends → Truth
of_relation Ge v = at_least_zero v
of_relation Gt v = above_zero v
of_relation Eq v = equal_to_zero v

-- all of a list is as true as its least member, of none Yes; some of it as its greatest, of none No
abbrev mutual
  pub truth : List Ends → Tree → Truth
  truth boxes (One atom) = of_relation atom.rel (interval_of boxes atom.poly)
  truth boxes (AllOf ns) = truth_of_all boxes ns
  truth boxes (AnyOf ns) = truth_of_any boxes ns

  pub truth_of_all : List Ends → Trees → Truth
  truth_of_all boxes Done = Yes
  truth_of_all boxes (Then n ns) = least (truth boxes n) (truth_of_all boxes ns)

  pub truth_of_any : List Ends → Trees → Truth
  truth_of_any boxes Done = No
  truth_of_any boxes (Then n ns) = greatest (truth boxes n) (truth_of_any boxes ns)

-- the variables of the polynomial are among n places, and its coefficients below 2^62 in size
pub record AtomFits (n : ℕ) (a : Atom) : Type 0 where
  pub places : AreBelow n a.poly
  pub small : AreSmall a.poly

-- and so each atom of a form
abbrev mutual
  pub FormFits : ℕ → Tree → Type 0
  FormFits n (One a) = AtomFits n a
  FormFits n (AllOf ns) = MembersFit n ns
  FormFits n (AnyOf ns) = MembersFit n ns

  pub MembersFit : ℕ → Trees → Type 0
  MembersFit n Done = Unit {0}
  MembersFit n (Then t ns) = FormFits n t × MembersFit n ns

-- and so each form of a list
abbrev pub PartsFit : ℕ → List Tree → Type 0
PartsFit n [] = Unit {0}
PartsFit n (t ∷ ts) = FormFits n t × PartsFit n ts

-- the truth of each part
abbrev pub truths : List Ends → List Tree → List Truth
truths boxes parts = map (truth boxes) parts

-- the first truth that isn't Yes, with its number, where the first of all has number k
abbrev pub first_from : ℕ → List Truth → Option (ℕ × Truth)
first_from k [] = None
first_from k (No ∷ ts) = Some (k, No)
first_from k (Maybe ∷ ts) = Some (k, Maybe)
first_from k (Yes ∷ ts) = first_from (suc k) ts

-- t is the first truth that isn't Yes, and has number k, from 1
pub record IsFirst (ts : List Truth) (k : ℕ) (t : Truth) : Type 0 where
  pub some : 1 ≤ k
  pub at : slice_get ts (k - 1) ≡ Some t
  pub not_yes : t ≢ Yes
  pub before : (i : ℕ) → i + 1 < k → slice_get ts i ≡ Some Yes
