-- Normal forms whose polynomials are small, and those with some places alone.
use Rattle.std.specs.Prelude.{⊤, ℕ, Bool, ◌<◌, ◌≤◌, ◌^◌, List, [], ◌∷◌}
use Rattle.vp_poly.specs.Poly.{IsPoly, degree, norm}
use Rattle.vp_poly.specs.Places.{AreBelow, HaveOnly}
use Rattle.vp_logic.specs.declared.norm.Atom.{Atom}
use Rattle.vp_logic.specs.Tree.{Tree, Trees, One, AllOf, AnyOf, None, Then}

-- a polynomial with places below v, a norm below 2^62 and a degree of at most 12
pub record IsSizedAtom (v : ℕ) (a : Atom) : Type 0 where
  pub poly : IsPoly a.poly
  pub places : AreBelow v a.poly
  pub small : norm a.poly < 2 ^ 62
  pub low : degree a.poly ≤ 12

-- and so each atom
abbrev mutual
  pub IsSized : ℕ → Tree → Type 0
  IsSized v (One a) = IsSizedAtom v a
  IsSized v (AllOf ns) = AreSized v ns
  IsSized v (AnyOf ns) = AreSized v ns

  pub AreSized : ℕ → Trees → Type 0
  AreSized v None = ⊤
  AreSized v (Then n ns) = IsSized v n × AreSized v ns

-- and so each form of a list
abbrev pub EachIsSized : ℕ → List Tree → Type 0
EachIsSized v [] = ⊤
EachIsSized v (t ∷ ts) = IsSized v t × EachIsSized v ts

-- the polynomial of each atom has places alone that pass the test
abbrev mutual
  pub TreeHasOnly : (ℕ → Bool) → Tree → Type 0
  TreeHasOnly allowed (One a) = HaveOnly allowed a.poly
  TreeHasOnly allowed (AllOf ns) = TreesHaveOnly allowed ns
  TreeHasOnly allowed (AnyOf ns) = TreesHaveOnly allowed ns

  pub TreesHaveOnly : (ℕ → Bool) → Trees → Type 0
  TreesHaveOnly allowed None = ⊤
  TreesHaveOnly allowed (Then n ns) = TreeHasOnly allowed n × TreesHaveOnly allowed ns

-- and so in each form of a list
abbrev pub EachHasOnly : (ℕ → Bool) → List Tree → Type 0
EachHasOnly allowed [] = ⊤
EachHasOnly allowed (t ∷ ts) = TreeHasOnly allowed t × EachHasOnly allowed ts
