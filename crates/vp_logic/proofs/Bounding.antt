-- How many atoms normal forms have, which places cases have, and the atoms of sized forms.
use Rattle.std.proofs.Common.{◌≡◌, ℕ, ◌+◌, ◌*◌, ◌<◌, ◌≤◌, Bool, List, [], ◌∷◌, ◌++◌, length, map, length-append, refl, ap, ◌∙◌, arith}
use Rattle.std.specs.List.{All}
use Rattle.std.proofs.lemmas.List.Elements.{All-append, All-cons, All-nil, All-head, All-tail}
use Rattle.vp_terms.specs.declared.expr.Places.{Places}
use Rattle.vp_terms.specs.declared.expr.Var.{Var}
use Rattle.vp_terms.specs.declared.expr.Expr.{Expr}
use Rattle.vp_terms.specs.declared.formula.Cmp.{Cmp}
use Rattle.vp_terms.specs.declared.formula.Cmp.TheVariants as cmp
use Rattle.vp_terms.specs.declared.formula.Formula.{Formula}
use Rattle.vp_terms.specs.declared.formula.Formula.TheVariants.{True, Cmp as Compare, And', Or', Not'}
use Rattle.vp_poly.specs.declared.mono.Term.{Term}
use Rattle.vp_poly.specs.Weights.{Weights}
use Rattle.vp_poly.specs.Coefficient.{Coefficients}
use Rattle.vp_logic.specs.declared.norm.Rel.{Rel}
use Rattle.vp_logic.specs.declared.norm.Rel.TheVariants.{Ge, Gt, Eq}
use Rattle.vp_logic.specs.Cases.{Case, AreWithin, joined, cases_from, all_cases_from, any_cases_from, part_cases_from}
use Rattle.vp_logic.specs.Narrow.{comparisons}
use Rattle.vp_logic.specs.Normal.{IsAtom, IsComparison, IsNormal}
use Rattle.vp_logic.specs.Renamed.{IsRenamed, AreRenamed}
use Rattle.vp_logic.specs.Sized.{IsSizedAtom, IsSized, AreSized, EachIsSized, TreeHasOnly, TreesHaveOnly, EachHasOnly}
use Rattle.vp_logic.specs.Tree.{Tree, Trees, One, AllOf, AnyOf, None, Then, negated_atom, negated, negated_each, conjuncts_of, each_conjunct, atoms_of, atoms_each, all_atoms}

-- ---- atoms, of which an equation counts twice

abbrev rel_size : Rel → ℕ
rel_size Ge = 1
rel_size Gt = 1
rel_size Eq = 2

abbrev mutual
  size : Tree → ℕ
  size (One a) = rel_size a.rel
  size (AllOf ns) = sizes ns
  size (AnyOf ns) = sizes ns

  sizes : Trees → ℕ
  sizes None = 0
  sizes (Then n ns) = size n + sizes ns

rel_some : (r : Rel) → (1 ≤ rel_size r) × (rel_size r ≤ 2)
rel_some Ge = (omega arith, omega arith)
rel_some Gt = (omega arith, omega arith)
rel_some Eq = (omega arith, omega arith)

mutual
  atoms_size : (t : Tree) → (length (atoms_of t) ≤ size t) × (size t ≤ 2 * length (atoms_of t))
  atoms_size (One a) = let r = rel_some a.rel in (omega arith, omega arith)
  atoms_size (AllOf ns) = atoms_sizes ns
  atoms_size (AnyOf ns) = atoms_sizes ns

  atoms_sizes : (ns : Trees) → (length (atoms_each ns) ≤ sizes ns) × (sizes ns ≤ 2 * length (atoms_each ns))
  atoms_sizes None = (omega arith, omega arith)
  atoms_sizes (Then n ns) =
      let a = atoms_size n in
      let b = atoms_sizes ns in
      let e = length-append (atoms_of n) (atoms_each ns) in
      (omega arith, omega arith)

negated_atom_size : (r : Rel) (p : List Term) → size (negated_atom r p) ≤ rel_size r
negated_atom_size Ge p = omega arith
negated_atom_size Gt p = omega arith
negated_atom_size Eq p = omega arith

mutual
  negated_size : (t : Tree) → size (negated t) ≤ size t
  negated_size (One a) = negated_atom_size a.rel a.poly
  negated_size (AllOf ns) = negated_sizes ns
  negated_size (AnyOf ns) = negated_sizes ns

  negated_sizes : (ns : Trees) → sizes (negated_each ns) ≤ sizes ns
  negated_sizes None = omega arith
  negated_sizes (Then n ns) = let a = negated_size n in let b = negated_sizes ns in omega arith

pub negated_doubles : (t : Tree) → length (atoms_of (negated t)) ≤ 2 * length (atoms_of t)
negated_doubles t = let a = atoms_size (negated t) in let b = negated_size t in let c = atoms_size t in omega (arith, a.0, b, c.1)

module _ (p : Places) (ws : List Weights) (f : Var → Coefficients) where
  atom_is : (rel : Rel) (a b : Expr) (t : Tree) → IsAtom p ws f rel a b t → size t ≡ rel_size rel
  atom_is rel a b t i = ap size i.1 ∙ ap rel_size i.2.rel_is

  comparison_size : (c : Cmp) (a b : Expr) (t : Tree) → IsComparison p ws f c a b t → size t ≤ 2
  comparison_size cmp.Le a b t i = let e : size t ≡ 1 = atom_is Ge b a t i in omega arith
  comparison_size cmp.Lt a b t i = let e : size t ≡ 1 = atom_is Gt b a t i in omega arith
  comparison_size cmp.Ge a b t i = let e : size t ≡ 1 = atom_is Ge a b t i in omega arith
  comparison_size cmp.Gt a b t i = let e : size t ≡ 1 = atom_is Gt a b t i in omega arith
  comparison_size cmp.Eq a b t i = let e : size t ≡ 2 = atom_is Eq a b t i in omega arith
  comparison_size cmp.Ne a b t i =
      let e : size i.0 ≡ 1 = atom_is Gt a b i.0 i.3 in
      let g : size i.1 ≡ 1 = atom_is Gt b a i.1 i.4 in
      let s : size t ≡ size i.0 + (size i.1 + 0) = ap size i.2 in
      omega arith

  normal_size : (g : Formula) (t : Tree) → IsNormal p ws f g t → size t ≤ 2 * comparisons g
  normal_size True t i = let s : size t ≡ 0 = ap size i in omega arith
  normal_size (Compare c a b) t i = omega (arith, comparison_size c a b t i)
  normal_size (And' l a r b) t i =
      let s : size t ≡ size i.0 + (size i.1 + 0) = ap size i.2 in
      omega (arith, normal_size a i.0 i.3, normal_size b i.1 i.4)
  normal_size (Or' l a r b) t i =
      let s : size t ≡ size i.0 + (size i.1 + 0) = ap size i.2 in
      omega (arith, normal_size a i.0 i.3, normal_size b i.1 i.4)
  normal_size (Not' l a) t i =
      let s : size t ≡ size (negated i.0) = ap size i.1 in
      omega (arith, negated_size i.0, normal_size a i.0 i.2)

  pub normal_atoms : (g : Formula) (t : Tree) → IsNormal p ws f g t → length (atoms_of t) ≤ 2 * comparisons g
  normal_atoms g t i = let a = atoms_size t in omega (arith, a.0, normal_size g t i)

mutual
  pub renamed_atoms : (to : List ℕ) (t u : Tree) → IsRenamed to t u → length (atoms_of u) ≡ length (atoms_of t)
  renamed_atoms to (One a) (One b) h = refl
  renamed_atoms to (One a) (AllOf ms) h = absurd h
  renamed_atoms to (One a) (AnyOf ms) h = absurd h
  renamed_atoms to (AllOf ns) (One b) h = absurd h
  renamed_atoms to (AllOf ns) (AllOf ms) h = renamed_atoms_each to ns ms h
  renamed_atoms to (AllOf ns) (AnyOf ms) h = absurd h
  renamed_atoms to (AnyOf ns) (One b) h = absurd h
  renamed_atoms to (AnyOf ns) (AllOf ms) h = absurd h
  renamed_atoms to (AnyOf ns) (AnyOf ms) h = renamed_atoms_each to ns ms h

  renamed_atoms_each : (to : List ℕ) (ns ms : Trees) → AreRenamed to ns ms → length (atoms_each ms) ≡ length (atoms_each ns)
  renamed_atoms_each to None None h = refl
  renamed_atoms_each to None (Then m ms) h = absurd h
  renamed_atoms_each to (Then n ns) None h = absurd h
  renamed_atoms_each to (Then n ns) (Then m ms) h =
      omega (arith, length-append (atoms_of m) (atoms_each ms), length-append (atoms_of n) (atoms_each ns), renamed_atoms to n m h.0, renamed_atoms_each to ns ms h.1)

-- ---- the places of cases

Below : ℕ → Case → Type 0
Below n c = All (λ k. k < n) c

within_one : (n : ℕ) (c : Case) (ds : List Case) → Below n c → AreWithin n ds → AreWithin n (map (λ d. c ++ d) ds)
unfolding Below
within_one n c [] h k = All-nil (λ (d : Case). All (λ i. i < n) d)
within_one n c (d ∷ ds) h k =
    let Q : Case → Type 0 = λ d. All (λ i. i < n) d in
    All-cons Q (c ++ d) (map (λ d. c ++ d) ds) (All-append (λ i. i < n) c d h (All-head Q d ds k)) (within_one n c ds h (All-tail Q d ds k))

within_joined : (n : ℕ) (cs ds : List Case) → AreWithin n cs → AreWithin n ds → AreWithin n (joined cs ds)
unfolding Below
within_joined n [] ds h k = All-nil (λ (d : Case). All (λ i. i < n) d)
within_joined n (c ∷ cs) ds h k =
    let Q : Case → Type 0 = λ d. All (λ i. i < n) d in
    All-append Q (map (λ d. c ++ d) ds) (joined cs ds) (within_one n c ds (All-head Q c cs h) k) (within_joined n cs ds (All-tail Q c cs h) k)

within_single : (n k : ℕ) → k < n → AreWithin n ((k ∷ []) ∷ [])
within_single n k h =
    let Q : Case → Type 0 = λ d. All (λ i. i < n) d in
    All-cons Q (k ∷ []) [] (All-cons (λ i. i < n) k [] h (All-nil (λ i. i < n))) (All-nil Q)

within_empty : (n : ℕ) → AreWithin n ([] ∷ [])
within_empty n =
    let Q : Case → Type 0 = λ d. All (λ i. i < n) d in
    All-cons Q [] [] (All-nil (λ i. i < n)) (All-nil Q)

mutual
  cases_within : (n k : ℕ) (t : Tree) → k + length (atoms_of t) ≤ n → AreWithin n (cases_from k t)
  cases_within n k (One a) h = within_single n k (omega arith)
  cases_within n k (AllOf ns) h = all_within n k ns h
  cases_within n k (AnyOf ns) h = any_within n k ns h

  all_within : (n k : ℕ) (ns : Trees) → k + length (atoms_each ns) ≤ n → AreWithin n (all_cases_from k ns)
  all_within n k None h = within_empty n
  all_within n k (Then t ns) h =
      let e = length-append (atoms_of t) (atoms_each ns) in
      within_joined n (cases_from k t) (all_cases_from (k + length (atoms_of t)) ns) (cases_within n k t (omega arith)) (all_within n (k + length (atoms_of t)) ns (omega arith))

  any_within : (n k : ℕ) (ns : Trees) → k + length (atoms_each ns) ≤ n → AreWithin n (any_cases_from k ns)
  any_within n k None h = All-nil (λ (d : Case). All (λ i. i < n) d)
  any_within n k (Then t ns) h =
      let Q : Case → Type 0 = λ d. All (λ i. i < n) d in
      let e = length-append (atoms_of t) (atoms_each ns) in
      All-append Q (cases_from k t) (any_cases_from (k + length (atoms_of t)) ns) (cases_within n k t (omega arith)) (any_within n (k + length (atoms_of t)) ns (omega arith))

pub part_cases_within : (n k : ℕ) (ts : List Tree) → k + length (all_atoms ts) ≤ n → AreWithin n (part_cases_from k ts)
part_cases_within n k [] h = within_empty n
part_cases_within n k (t ∷ ts) h =
    let e = length-append (atoms_of t) (all_atoms ts) in
    within_joined n (cases_from k t) (part_cases_from (k + length (atoms_of t)) ts) (cases_within n k t (omega arith)) (part_cases_within n (k + length (atoms_of t)) ts (omega arith))

pub cases_have_atoms : (ts : List Tree) → AreWithin (length (all_atoms ts)) (part_cases_from 0 ts)
cases_have_atoms ts = part_cases_within (length (all_atoms ts)) 0 ts (omega arith)

-- ---- the atoms of sized forms

mutual
  atoms_sized : (v : ℕ) (t : Tree) → IsSized v t → All (IsSizedAtom v) (atoms_of t)
  atoms_sized v (One a) h = All-cons (IsSizedAtom v) a [] h (All-nil (IsSizedAtom v))
  atoms_sized v (AllOf ns) h = atoms_each_sized v ns h
  atoms_sized v (AnyOf ns) h = atoms_each_sized v ns h

  atoms_each_sized : (v : ℕ) (ns : Trees) → AreSized v ns → All (IsSizedAtom v) (atoms_each ns)
  atoms_each_sized v None h = All-nil (IsSizedAtom v)
  atoms_each_sized v (Then n ns) h = All-append (IsSizedAtom v) (atoms_of n) (atoms_each ns) (atoms_sized v n h.0) (atoms_each_sized v ns h.1)

pub all_atoms_sized : (v : ℕ) (ts : List Tree) → EachIsSized v ts → All (IsSizedAtom v) (all_atoms ts)
all_atoms_sized v [] h = All-nil (IsSizedAtom v)
all_atoms_sized v (t ∷ ts) h = All-append (IsSizedAtom v) (atoms_of t) (all_atoms ts) (atoms_sized v t h.0) (all_atoms_sized v ts h.1)

-- ---- the places of conjuncts

only_append : (f : ℕ → Bool) (xs ys : List Tree) → EachHasOnly f xs → EachHasOnly f ys → EachHasOnly f (xs ++ ys)
only_append f [] ys h k = k
only_append f (x ∷ xs) ys h k = (h.0, only_append f xs ys h.1 k)

mutual
  pub conjuncts_only : (f : ℕ → Bool) (t : Tree) → TreeHasOnly f t → EachHasOnly f (conjuncts_of t)
  conjuncts_only f (One a) h = (h, tt)
  conjuncts_only f (AllOf ns) h = each_only f ns h
  conjuncts_only f (AnyOf ns) h = (h, tt)

  each_only : (f : ℕ → Bool) (ns : Trees) → TreesHaveOnly f ns → EachHasOnly f (each_conjunct ns)
  each_only f None h = tt
  each_only f (Then n ns) h = only_append f (conjuncts_of n) (each_conjunct ns) (conjuncts_only f n h.0) (each_only f ns h.1)
