-- Normal forms with their places renamed.
use Rattle.std.specs.Prelude.{◌≡◌, ⊤, ℕ, ◌<◌, List, length, slice_index}
use Rattle.vp_poly.specs.Poly.{Powers, IsPoly, coef}
use Rattle.vp_poly.specs.Places.{before_renaming}
use Rattle.vp_logic.specs.declared.norm.Atom.{Atom}
use Rattle.vp_logic.specs.Tree.{Tree, Trees, One, AllOf, AnyOf, None, Then}

-- the same relation, and the polynomial with the exponent of each place k moved to the place `to[k]`
pub record IsRenamedAtom (to : List ℕ) (a b : Atom) : Type 0 where
  pub same_rel : b.rel ≡ a.rel
  pub poly : IsPoly b.poly
  pub moved : (m : Powers) → length m ≡ 32 → coef b.poly m ≡ coef a.poly (before_renaming to m)

-- the second form is the first with each atom renamed
abbrev mutual
  pub IsRenamed : List ℕ → Tree → Tree → Type 0
  IsRenamed to (One a) (One b) = IsRenamedAtom to a b
  IsRenamed to (One a) (AllOf ms) = ⊥
  IsRenamed to (One a) (AnyOf ms) = ⊥
  IsRenamed to (AllOf ns) (One b) = ⊥
  IsRenamed to (AllOf ns) (AllOf ms) = AreRenamed to ns ms
  IsRenamed to (AllOf ns) (AnyOf ms) = ⊥
  IsRenamed to (AnyOf ns) (One b) = ⊥
  IsRenamed to (AnyOf ns) (AllOf ms) = ⊥
  IsRenamed to (AnyOf ns) (AnyOf ms) = AreRenamed to ns ms

  pub AreRenamed : List ℕ → Trees → Trees → Type 0
  AreRenamed to None None = ⊤
  AreRenamed to None (Then m ms) = ⊥
  AreRenamed to (Then n ns) None = ⊥
  AreRenamed to (Then n ns) (Then m ms) = IsRenamed to n m × AreRenamed to ns ms

-- each place is sent to itself
abbrev pub KeepsPlaces : List ℕ → Type 0
KeepsPlaces to = (k : ℕ) → k < 32 → slice_index to k ≡ k

-- each place below v is sent to one below w
abbrev pub SendsBelow : List ℕ → ℕ → ℕ → Type 0
SendsBelow to v w = (k : ℕ) → k < v → slice_index to k < w
