-- All parts hold exactly where all atoms of some case do.
use Rattle.std.proofs.Common.{◌≡◌, ℕ, ◌+◌, Bool, true, false, ◌&&◌, ◌||◌, List, [], ◌∷◌, ◌++◌, length, Some, refl, sym, ap, ◌∙◌, arith, append_assoc, length-append}
use Rattle.std.specs.Prelude.{slice_get}
use Rattle.std.specs.List.{list_any}
use Rattle.std.specs.Option.{option_map_or}
use Rattle.std.proofs.lemmas.List.Folds.{list_all-append}
use Rattle.vp_poly.specs.Value.{Point}
use Rattle.vp_logic.specs.declared.norm.Atom.{Atom}
use Rattle.vp_logic.specs.Tree.{Tree, Trees, One, AllOf, AnyOf, None, Then, atoms_of, atoms_each, all_atoms}
use Rattle.vp_logic.specs.Truth.{atom_holds, tree_holds, all_hold, any_holds, parts_hold}
use Rattle.vp_logic.specs.Cases.{Case, joined, cases_from, all_cases_from, any_cases_from, part_cases_from, case_holds}
use Rattle.vp_logic.proofs.Joining.{with_each}

-- the element behind the first ones
element : (before : List Atom) (a : Atom) (after : List Atom) → slice_get (before ++ (a ∷ after)) (length before) ≡ Some a
element [] a after = refl
element (b ∷ before) a after = element before a after

any-append : (p : Case → Bool) (xs ys : List Case) → list_any p (xs ++ ys) ≡ (list_any p xs || list_any p ys)
any-append p [] ys = refl
any-append p (x ∷ xs) ys = step (p x) (any-append p xs ys)
  where
    step : (b : Bool) → list_any p (xs ++ ys) ≡ (list_any p xs || list_any p ys) → (b || list_any p (xs ++ ys)) ≡ ((b || list_any p xs) || list_any p ys)
    step true e = refl
    step false e = e

last : (b : Bool) → ((b && true) || false) ≡ b
last true = refl
last false = refl

moved : (a b c d : List Atom) → a ++ ((b ++ c) ++ d) ≡ (a ++ b) ++ (c ++ d)
moved a b c d = ap (λ (l : List Atom). a ++ l) (append_assoc b c d) ∙ sym (append_assoc a b (c ++ d))

longer : (a b : List Atom) (k : ℕ) → k ≡ length a → k + length b ≡ length (a ++ b)
longer a b k f = omega (arith, length-append a b)

module _ (atoms : List Atom) (x : Point) where
  with_each_holds : (c : Case) (ds : List Case) → list_any (case_holds atoms x) (with_each c ds) ≡ (case_holds atoms x c && list_any (case_holds atoms x) ds)
  with_each_holds c [] = nothing (case_holds atoms x c)
    where
      nothing : (b : Bool) → false ≡ (b && false)
      nothing true = refl
      nothing false = refl
  with_each_holds c (d ∷ ds) =
      let e = list_all-append (λ k. option_map_or (λ a. atom_holds a x) (slice_get atoms k) false) c d in
      let f = with_each_holds c ds in
      step (case_holds atoms x c) (case_holds atoms x d) (case_holds atoms x (c ++ d)) _ _ e f
    where
      step : (b e g r s : Bool) → g ≡ (b && e) → r ≡ (b && s) → (g || r) ≡ (b && (e || s))
      step true e g r s p q = cc
      step false e g r s p q = cc

  joined_holds : (cs ds : List Case) → list_any (case_holds atoms x) (joined cs ds) ≡ (list_any (case_holds atoms x) cs && list_any (case_holds atoms x) ds)
  joined_holds [] ds = refl
  joined_holds (c ∷ cs) ds =
      let e = with_each_holds c ds in
      let f = joined_holds cs ds in
      any-append (case_holds atoms x) (with_each c ds) (joined cs ds) ∙ step (case_holds atoms x c) _ _ _ _ e f
    where
      step : (b r s t u : Bool) → r ≡ (b && s) → t ≡ (u && s) → (r || t) ≡ ((b || u) && s)
      step true true true t u p q = cc
      step true false s t u p q = grind arith
      step true r false t u p q = grind arith
      step false r s t u p q = cc

  mutual
    cases_hold : (before : List Atom) (t : Tree) (after : List Atom) (k : ℕ) → atoms ≡ before ++ (atoms_of t ++ after) → k ≡ length before → list_any (case_holds atoms x) (cases_from k t) ≡ tree_holds t x
    cases_hold before (One a) after k e f =
        let g : slice_get atoms k ≡ Some a = rw (e, f) (element before a after) in
        rw g (last (atom_holds a x))
    cases_hold before (AllOf ns) after k e f = all_cases_hold before ns after k e f
    cases_hold before (AnyOf ns) after k e f = any_cases_hold before ns after k e f

    all_cases_hold : (before : List Atom) (ns : Trees) (after : List Atom) (k : ℕ) → atoms ≡ before ++ (atoms_each ns ++ after) → k ≡ length before → list_any (case_holds atoms x) (all_cases_from k ns) ≡ all_hold ns x
    all_cases_hold before None after k e f = refl
    all_cases_hold before (Then n ns) after k e f =
        let p = cases_hold before n (atoms_each ns ++ after) k (e ∙ ap (λ (l : List Atom). before ++ l) (append_assoc (atoms_of n) (atoms_each ns) after)) f in
        let q = all_cases_hold (before ++ atoms_of n) ns after (k + length (atoms_of n)) (e ∙ moved before (atoms_of n) (atoms_each ns) after) (longer before (atoms_of n) k f) in
        joined_holds (cases_from k n) (all_cases_from (k + length (atoms_of n)) ns) ∙ cc

    any_cases_hold : (before : List Atom) (ns : Trees) (after : List Atom) (k : ℕ) → atoms ≡ before ++ (atoms_each ns ++ after) → k ≡ length before → list_any (case_holds atoms x) (any_cases_from k ns) ≡ any_holds ns x
    any_cases_hold before None after k e f = refl
    any_cases_hold before (Then n ns) after k e f =
        let p = cases_hold before n (atoms_each ns ++ after) k (e ∙ ap (λ (l : List Atom). before ++ l) (append_assoc (atoms_of n) (atoms_each ns) after)) f in
        let q = any_cases_hold (before ++ atoms_of n) ns after (k + length (atoms_of n)) (e ∙ moved before (atoms_of n) (atoms_each ns) after) (longer before (atoms_of n) k f) in
        any-append (case_holds atoms x) (cases_from k n) (any_cases_from (k + length (atoms_of n)) ns) ∙ cc

  parts_hold_from : (before : List Atom) (ts : List Tree) (k : ℕ) → atoms ≡ before ++ all_atoms ts → k ≡ length before → list_any (case_holds atoms x) (part_cases_from k ts) ≡ parts_hold ts x
  parts_hold_from before [] k e f = refl
  parts_hold_from before (t ∷ ts) k e f =
      let p = cases_hold before t (all_atoms ts) k e f in
      let q = parts_hold_from (before ++ atoms_of t) ts (k + length (atoms_of t)) (e ∙ sym (append_assoc before (atoms_of t) (all_atoms ts))) (longer before (atoms_of t) k f) in
      joined_holds (cases_from k t) (part_cases_from (k + length (atoms_of t)) ts) ∙ cc

pub some_case_holds : (ts : List Tree) (x : Point) → list_any (case_holds (all_atoms ts) x) (part_cases_from 0 ts) ≡ parts_hold ts x
some_case_holds ts x = parts_hold_from (all_atoms ts) x [] ts 0 refl refl

pub some_listed_holds : (ts : List Tree) (x : Point) (cs : List Case) → cs ≡ part_cases_from 0 ts → list_any (case_holds (all_atoms ts) x) cs ≡ parts_hold ts x
some_listed_holds ts x cs e = ap (list_any (case_holds (all_atoms ts) x)) e ∙ some_case_holds ts x

pub ruleset splitting = (some_listed_holds)
