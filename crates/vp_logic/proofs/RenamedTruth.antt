-- A renamed form holds at a point exactly where the form does at the point before.
use Rattle.std.proofs.Common.{◌≡◌, ℕ, ◌&&◌, ◌||◌, List, refl, ap, ap₂, ◌∙◌, pos}
use Rattle.vp_terms.specs.Rational.{Rational, whole, Equals}
use Rattle.vp_terms.specs.declared.formula.Cmp.TheVariants as cmp
use Rattle.vp_terms.proofs.RationalLaws.{Equals-refl}
use Rattle.vp_terms.proofs.Orders.{same_comparison}
use Rattle.vp_poly.specs.Value.{Point, value_at}
use Rattle.vp_poly.specs.Places.{IsRenaming, point_before}
use Rattle.vp_poly.proofs.Renaming.{value_at-renamed}
use Rattle.vp_logic.specs.declared.norm.Atom.{Atom}
use Rattle.vp_logic.specs.declared.norm.Rel.{Rel}
use Rattle.vp_logic.specs.declared.norm.Rel.TheVariants.{Ge, Gt, Eq}
use Rattle.vp_logic.specs.Renamed.{IsRenamed, AreRenamed, IsRenamedAtom}
use Rattle.vp_logic.specs.Sized.{IsSized, AreSized, IsSizedAtom}
use Rattle.vp_logic.specs.Tree.{Tree, Trees, One, AllOf, AnyOf, None, Then}
use Rattle.vp_logic.specs.Truth.{atom_holds, rel_holds, tree_holds, all_hold, any_holds}

same_relation : (r : Rel) (u v : Rational) → Equals u v → rel_holds r u ≡ rel_holds r v
same_relation Ge u v e = same_comparison cmp.Ge u v (whole (pos 0)) (whole (pos 0)) e (Equals-refl (whole (pos 0)))
same_relation Gt u v e = same_comparison cmp.Gt u v (whole (pos 0)) (whole (pos 0)) e (Equals-refl (whole (pos 0)))
same_relation Eq u v e = same_comparison cmp.Eq u v (whole (pos 0)) (whole (pos 0)) e (Equals-refl (whole (pos 0)))

module _ (v : ℕ) (to : List ℕ) (x : Point) (r : IsRenaming to) where
  atom_before : (a b : Atom) → IsSizedAtom v a → IsRenamedAtom to a b → atom_holds b x ≡ atom_holds a (point_before to x)
  atom_before a b s h =
      ap (λ (k : Rel). rel_holds k (value_at b.poly x)) h.same_rel
      ∙ same_relation a.rel (value_at b.poly x) (value_at a.poly (point_before to x)) (value_at-renamed to a.poly b.poly x r s.poly h.poly h.moved)

  mutual
    pub holds_before : (t u : Tree) → IsSized v t → IsRenamed to t u → tree_holds u x ≡ tree_holds t (point_before to x)
    holds_before (One a) (One b) s h = atom_before a b s h
    holds_before (One a) (AllOf ms) s h = absurd h
    holds_before (One a) (AnyOf ms) s h = absurd h
    holds_before (AllOf ns) (One b) s h = absurd h
    holds_before (AllOf ns) (AllOf ms) s h = all_before ns ms s h
    holds_before (AllOf ns) (AnyOf ms) s h = absurd h
    holds_before (AnyOf ns) (One b) s h = absurd h
    holds_before (AnyOf ns) (AllOf ms) s h = absurd h
    holds_before (AnyOf ns) (AnyOf ms) s h = any_before ns ms s h

    all_before : (ns ms : Trees) → AreSized v ns → AreRenamed to ns ms → all_hold ms x ≡ all_hold ns (point_before to x)
    all_before None None s h = refl
    all_before None (Then m ms) s h = absurd h
    all_before (Then n ns) None s h = absurd h
    all_before (Then n ns) (Then m ms) s h = ap₂ (λ a b. a && b) (holds_before n m s.0 h.0) (all_before ns ms s.1 h.1)

    any_before : (ns ms : Trees) → AreSized v ns → AreRenamed to ns ms → any_holds ms x ≡ any_holds ns (point_before to x)
    any_before None None s h = refl
    any_before None (Then m ms) s h = absurd h
    any_before (Then n ns) None s h = absurd h
    any_before (Then n ns) (Then m ms) s h = ap₂ (λ a b. a || b) (holds_before n m s.0 h.0) (any_before ns ms s.1 h.1)
