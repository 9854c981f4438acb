-- The parts of lists of forms, and forms with small polynomials.
use Rattle.std.proofs.Common.{◌≡◌, sym, subst, ℕ, zero, suc, ◌<◌, ◌≤◌, List, [], ◌∷◌, length, get_or, map, arith}
use Rattle.std.proofs.lemmas.List.Elements.{All-nil, All-cons, All-head, All-tail}
use Rattle.vp_poly.specs.declared.mono.Term.{Term}
use Rattle.vp_poly.specs.Places.{IsBelow, AreBelow}
use Rattle.vp_logic.specs.declared.norm.Atom.{Atom}
use Rattle.vp_logic.specs.declared.norm.Norm.{Norm}
use Rattle.vp_logic.specs.Sized.{IsSizedAtom, IsSized, AreSized, EachIsSized}
use Rattle.vp_logic.specs.Tree.{Tree, Trees, One, AllOf, AnyOf, None, Then, tree}
use Rattle.vp_interval.specs.Formula.{AtomFits, FormFits, MembersFit, PartsFit}
use Rattle.vp_interval.proofs.Fitting.{small_norm}

pub part_fits : (n : ℕ) (ps : List Norm) (i : ℕ) (p : Norm) → p ≡ get_or ps i p → i < length ps → PartsFit n (map tree ps) → FormFits n (tree p)
part_fits n [] i p e l h = absurd (omega arith)
part_fits n (q ∷ ps) zero p e l h = subst (λ r. FormFits n (tree r)) (sym e) h.0
part_fits n (q ∷ ps) (suc i) p e l h = part_fits n ps i p e (omega arith) h.1

-- places below v are below n
below : ℕ → Term → Type 0
below n t = IsBelow n t.mono.powers

pub below_more : (v n : ℕ) (ts : List Term) → v ≤ n → AreBelow v ts → AreBelow n ts
unfolding below
below_more v n [] l h = All-nil (below n)
below_more v n (t ∷ ts) l h =
    let first = All-head (below v) t ts h in
    All-cons (below n) t ts (record { none = λ k m. first.none k (omega arith) }) (below_more v n ts l (All-tail (below v) t ts h))

atom_fits : (v n : ℕ) (a : Atom) → v ≤ n → IsSizedAtom v a → AtomFits n a
atom_fits v n a l h = record { places = below_more v n a.poly l h.places; small = small_norm a.poly h.small }

mutual
  pub sized_fits : (v n : ℕ) (t : Tree) → v ≤ n → IsSized v t → FormFits n t
  sized_fits v n (One a) l h = atom_fits v n a l h
  sized_fits v n (AllOf ns) l h = members_fit v n ns l h
  sized_fits v n (AnyOf ns) l h = members_fit v n ns l h

  members_fit : (v n : ℕ) (ns : Trees) → v ≤ n → AreSized v ns → MembersFit n ns
  members_fit v n None l h = tt
  members_fit v n (Then t ns) l h = (sized_fits v n t l h.0, members_fit v n ns l h.1)

pub parts_fit : (v n : ℕ) (ts : List Tree) → v ≤ n → EachIsSized v ts → PartsFit n ts
parts_fit v n [] l h = tt
parts_fit v n (t ∷ ts) l h = (sized_fits v n t l h.0, parts_fit v n ts l h.1)
