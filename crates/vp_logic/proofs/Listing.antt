-- Lists of parts, one part at a time.
use Rattle.std.proofs.Common.{◌≡◌, ℕ, suc, ◌+◌, ◌<◌, ◌≤◌, Bool, true, false, ◌&&◌, List, [], ◌++◌, length, map, drop, get_or, refl, sym, ap, ◌∙◌, append_assoc, append-nil, drop-cons}
use Rattle.std.proofs.Math.Numerals.{add-one}
use Rattle.std.proofs.Math.ListN.{drop_of_length-le}
use Rattle.std.proofs.lemmas.List.Folds.{list_all-append}
use Rattle.vp_poly.specs.Value.{Point}
use Rattle.vp_logic.specs.declared.norm.Atom.{Atom}
use Rattle.vp_logic.specs.declared.norm.Norm.{Norm}
use Rattle.vp_logic.specs.Tree.{Tree, Trees, One, AllOf, AnyOf, None, Then, tree, conjuncts_of, each_conjunct, atoms_of, all_atoms}
use Rattle.vp_logic.specs.Truth.{tree_holds, all_hold, parts_hold}

-- the atoms of the parts from one on are those of that part and of the parts behind it
pub atoms_next : (ns : List Norm) (i : ℕ) (d : Norm) → i < length ns → all_atoms (map tree (drop i ns)) ≡ atoms_of (tree (get_or ns i d)) ++ all_atoms (map tree (drop (suc i) ns))
atoms_next ns i d h = rw (drop-cons ns i d h) refl

pub atoms_step : (ns : List Norm) (i : ℕ) (d : Norm) (out new all : List Atom) → i < length ns → out ++ all_atoms (map tree (drop i ns)) ≡ all → new ≡ out ++ atoms_of (tree (get_or ns i d)) → new ++ all_atoms (map tree (drop (i + 1) ns)) ≡ all
atoms_step ns i d out new all h e f =
    rw f (append_assoc out (atoms_of (tree (get_or ns i d))) (all_atoms (map tree (drop (i + 1) ns))) ∙ (rw add-one (ap (λ (l : List Atom). out ++ l) (sym (atoms_next ns i d h)) ∙ e)))

pub atoms_end : (ns : List Norm) (i : ℕ) (out all : List Atom) → length ns ≤ i → out ++ all_atoms (map tree (drop i ns)) ≡ all → out ≡ all
atoms_end ns i out all h e =
    let n : drop i ns ≡ [] = drop_of_length-le ns h in
    let f = rw n at e in
    sym (append-nil out) ∙ f

last : (b : Bool) → (b && true) ≡ b
last true = refl
last false = refl

-- the conjuncts hold where the form does
mutual
  pub conjuncts_hold : (t : Tree) (x : Point) → parts_hold (conjuncts_of t) x ≡ tree_holds t x
  conjuncts_hold (One a) x = last (tree_holds (One a) x)
  conjuncts_hold (AllOf ns) x = each_holds ns x
  conjuncts_hold (AnyOf ns) x = last (tree_holds (AnyOf ns) x)

  each_holds : (ns : Trees) (x : Point) → parts_hold (each_conjunct ns) x ≡ all_hold ns x
  each_holds None x = refl
  each_holds (Then n ns) x = let e = conjuncts_hold n x in let f = each_holds ns x in list_all-append (λ t. tree_holds t x) (conjuncts_of n) (each_conjunct ns) ∙ cc

pub ruleset listing = (atoms_step, atoms_end, conjuncts_hold)
