-- How many paths there are, and how many atoms each has.
use Rattle.std.proofs.Common.{◌≡◌, ℕ, zero, suc, ◌+◌, ◌*◌, ◌≤◌, Bool, true, false, List, [], ◌∷◌, ◌++◌, length, length-append, map, refl, ap, ap₂, arith}
use Rattle.std.specs.List.{flat_map, range_with_len}
use Rattle.vp_terms.specs.WellFormed.{comparisons as formula_comparisons, prog_comparisons}
use Rattle.vp_terms.specs.declared.expr.Places.{Places}
use Rattle.vp_terms.specs.declared.expr.Var.{Var}
use Rattle.vp_terms.specs.declared.expr.Expr.{Expr}
use Rattle.vp_terms.specs.declared.formula.Formula.{Formula}
use Rattle.vp_terms.specs.declared.formula.Formula.TheVariants.{True, Cmp as Compare, And', Or', Not'}
use Rattle.vp_terms.specs.declared.prog.Prog.{Prog}
use Rattle.vp_terms.specs.declared.prog.Prog.TheVariants.{Skip, Assign, Any, Test, Choice', Seq', If'}
use Rattle.vp_poly.specs.Coefficient.{Coefficients}
use Rattle.vp_poly.specs.Replaced.{formula_replaced}
use Rattle.vp_poly.specs.Weights.{Weights}
use Rattle.vp_logic.specs.Narrow.{comparisons}
use Rattle.vp_logic.specs.Normal.{IsNormal}
use Rattle.vp_logic.specs.Tree.{Tree, all_atoms, atoms_of, negated}
use Rattle.vp_ctrl.specs.declared.path.Path.{Path}
use Rattle.vp_ctrl.specs.Ways.{Move, Gives, GivesAny, Passes, Fails, Way, joined, ways}
use Rattle.vp_ctrl.specs.Following.{Condition, StandIns, after, after_all, at_first, conditions, equation, is_given_last, stands, tests}
use Rattle.vp_ctrl.specs.Paths.{ArePaths, AreParts, EachPathHasFew, IsPart, parts_of}

pub record FewAtoms : Type 0 where
  pub normal : (p : Places) (ws : List Weights) (c : Var → Coefficients) (f : Formula) (t : Tree) → IsNormal p ws c f t → length (atoms_of t) ≤ 2 * comparisons f
  pub negated : (t : Tree) → length (atoms_of (negated t)) ≤ 2 * length (atoms_of t)

-- ---- the comparisons of conditions and of ways

abbrev total : List Condition → ℕ
total [] = 0
total (c ∷ cs) = comparisons c.formula + total cs

abbrev way_size : Way → ℕ
way_size [] = 0
way_size (Gives c e ∷ w) = way_size w
way_size (GivesAny c ∷ w) = way_size w
way_size (Passes f ∷ w) = comparisons f + way_size w
way_size (Fails f ∷ w) = comparisons f + way_size w

abbrev EachWayIs : ℕ → List Way → Type 0
EachWayIs n [] = Unit {0}
EachWayIs n (w ∷ ws) = (way_size w ≤ n) × EachWayIs n ws

total-append : (xs ys : List Condition) → total (xs ++ ys) ≡ total xs + total ys
total-append [] ys = omega arith
total-append (x ∷ xs) ys = let e = total-append xs ys in omega arith

replaced_size : (r : Var → Expr) (f : Formula) → comparisons (formula_replaced r f) ≡ comparisons f
replaced_size r True = refl
replaced_size r (Compare c a b) = refl
replaced_size r (And' l f k g) = ap₂ (λ x y. x + y) (replaced_size r f) (replaced_size r g)
replaced_size r (Or' l f k g) = ap₂ (λ x y. x + y) (replaced_size r f) (replaced_size r g)
replaced_size r (Not' l f) = replaced_size r f

tests_total : (w : Way) (s : StandIns) → total (tests s w) ≡ way_size w
tests_total [] s = refl
tests_total (Gives c e ∷ w) s = tests_total w (after s (Gives c e))
tests_total (GivesAny c ∷ w) s = tests_total w (after s (GivesAny c))
tests_total (Passes f ∷ w) s = ap₂ (λ x y. x + y) (replaced_size (stands s) f) (tests_total w s)
tests_total (Fails f ∷ w) s = ap₂ (λ x y. x + y) (replaced_size (stands s) f) (tests_total w s)

equation_total : (s : StandIns) (w : Way) (k : ℕ) → total (equation s w k) ≤ 1
equation_total s w k = cases (is_given_last k false w) refl
  where
    cases : (b : Bool) → is_given_last k false w ≡ b → total (equation s w k) ≤ 1
    cases true r = rw r (omega arith)
    cases false r = rw r (omega arith)

equations_total : (g : ℕ → List Condition) → ((k : ℕ) → total (g k) ≤ 1) → (n a : ℕ) → total (flat_map g (range_with_len a n)) ≤ n
equations_total g h zero a = none
  where
    none : total [] ≤ 0
    none = omega arith
equations_total g h (suc n) a =
    let e = total-append (g a) (flat_map g (range_with_len (a + 1) n)) in
    let f = h a in
    let k = equations_total g h n (a + 1) in
    omega arith

conditions_total : (n : ℕ) (w : Way) → total (conditions n w) ≤ way_size w + n
conditions_total n w =
    let g = equation (after_all at_first w) w in
    let e = total-append (tests at_first w) (flat_map g (range_with_len 0 n)) in
    let f = tests_total w at_first in
    let k = equations_total g (equation_total (after_all at_first w) w) n 0 in
    omega arith

-- ---- the ways of a program

size-append : (w v : Way) → way_size (w ++ v) ≡ way_size w + way_size v
size-append [] v = omega arith
size-append (Gives c e ∷ w) v = size-append w v
size-append (GivesAny c ∷ w) v = size-append w v
size-append (Passes f ∷ w) v = let e = size-append w v in omega arith
size-append (Fails f ∷ w) v = let e = size-append w v in omega arith

each_wider : (n m : ℕ) (ws : List Way) → n ≤ m → EachWayIs n ws → EachWayIs m ws
each_wider n m [] le h = tt
each_wider n m (w ∷ ws) le h = let k = h.0 in (omega arith, each_wider n m ws le h.1)

each_both : (n : ℕ) (ws vs : List Way) → EachWayIs n ws → EachWayIs n vs → EachWayIs n (ws ++ vs)
each_both n [] vs h k = k
each_both n (w ∷ ws) vs h k = (h.0, each_both n ws vs h.1 k)

each_with : (n m : ℕ) (w : Way) (vs : List Way) → way_size w ≤ n → EachWayIs m vs → EachWayIs (n + m) (map (λ v. w ++ v) vs)
each_with n m w [] h k = tt
each_with n m w (v ∷ vs) h k = let e = size-append w v in let l = k.0 in (omega arith, each_with n m w vs h k.1)

each_joined : (n m : ℕ) (ws vs : List Way) → EachWayIs n ws → EachWayIs m vs → EachWayIs (n + m) (joined ws vs)
each_joined n m [] vs h k = tt
each_joined n m (w ∷ ws) vs h k = each_both (n + m) (map (λ v. w ++ v) vs) (joined ws vs) (each_with n m w vs h.0 k) (each_joined n m ws vs h.1 k)

each_behind : (n m : ℕ) (q : Move) (ws : List Way) → way_size (q ∷ []) ≤ n → EachWayIs m ws → EachWayIs (n + m) (map (λ w. q ∷ w) ws)
each_behind n m q [] h k = tt
each_behind n m q (w ∷ ws) h k = let e = size-append (q ∷ []) w in let l = k.0 in (omega arith, each_behind n m q ws h k.1)

-- `True` counts among the comparisons of a program
formula_size : (f : Formula) → comparisons f ≤ formula_comparisons f
formula_size True = omega arith
formula_size (Compare c a b) = omega arith
formula_size (And' l f k g) = let x = formula_size f in let y = formula_size g in omega arith
formula_size (Or' l f k g) = let x = formula_size f in let y = formula_size g in omega arith
formula_size (Not' l f) = formula_size f

test_size : (f : Formula) → (way_size (Passes f ∷ []) ≤ formula_comparisons f) × (way_size (Fails f ∷ []) ≤ formula_comparisons f)
test_size f = let x = formula_size f in (omega arith, omega arith)

ways_size : (prog : Prog) → EachWayIs (prog_comparisons prog) (ways prog)
ways_size Skip = (omega arith, tt)
ways_size (Assign c e) = (omega arith, tt)
ways_size (Any c) = (omega arith, tt)
ways_size (Test f) = let x = formula_size f in (omega arith, tt)
ways_size (Choice' l a r b) =
    let n = prog_comparisons a in
    let m = prog_comparisons b in
    each_both (n + m) (ways a) (ways b) (each_wider n (n + m) (ways a) (omega arith) (ways_size a)) (each_wider m (n + m) (ways b) (omega arith) (ways_size b))
ways_size (Seq' l a r b) = each_joined (prog_comparisons a) (prog_comparisons b) (ways a) (ways b) (ways_size a) (ways_size b)
ways_size (If' f l a r b) =
    let k = formula_comparisons f in
    let n = prog_comparisons a in
    let m = prog_comparisons b in
    let t = test_size f in
    let yes = map (λ w. Passes f ∷ w) (ways a) in
    let no = map (λ w. Fails f ∷ w) (ways b) in
    each_both (k + (n + m)) yes no
    (each_wider (k + n) (k + (n + m)) yes (omega arith) (each_behind k n (Passes f) (ways a) t.0 (ways_size a)))
    (each_wider (k + m) (k + (n + m)) no (omega arith) (each_behind k m (Fails f) (ways b) t.1 (ways_size b)))

-- ---- the atoms of paths

module _ (law : FewAtoms) (p : Places) where
  part_few : (c : Condition) (t : Tree) → IsPart p c t → length (atoms_of t) ≤ 4 * comparisons c.formula
  part_few c t h = cases c.denied refl
    where
      cases : (b : Bool) → c.denied ≡ b → length (atoms_of t) ≤ 4 * comparisons c.formula
      cases true r =
          let e : t ≡ negated h.0 = rw r at h.1 in
          let x = law.normal p _ _ c.formula h.0 h.2 in
          let y = law.negated h.0 in
          rw e (omega arith)
      cases false r =
          let e : t ≡ h.0 = rw r at h.1 in
          let x = law.normal p _ _ c.formula h.0 h.2 in
          rw e (omega arith)

  parts_few : (cs : List Condition) (ts : List Tree) → AreParts p cs ts → length (all_atoms ts) ≤ 4 * total cs
  parts_few [] [] h = omega arith
  parts_few [] (t ∷ ts) h = absurd h
  parts_few (c ∷ cs) [] h = absurd h
  parts_few (c ∷ cs) (t ∷ ts) h =
      let e = length-append (atoms_of t) (all_atoms ts) in
      let x = part_few c t h.0 in
      let y = parts_few cs ts h.1 in
      omega arith

  few_each : (n : ℕ) (ws : List Way) (xs : List Path) → EachWayIs n ws → ArePaths p ws xs → EachPathHasFew (4 * (n + p.controls)) xs
  few_each n [] [] g h = tt
  few_each n [] (x ∷ xs) g h = absurd h
  few_each n (w ∷ ws) [] g h = absurd h
  few_each n (w ∷ ws) (x ∷ xs) g h =
      let a = parts_few (conditions p.controls w) (parts_of x) h.0 in
      let b = conditions_total p.controls w in
      let c = g.0 in
      (omega arith, few_each n ws xs g.1 h.1)

-- what the law says
pub paths_few : FewAtoms → (p : Places) (prog : Prog) (xs : List Path) → ArePaths p (ways prog) xs → EachPathHasFew (4 * (prog_comparisons prog + p.controls)) xs
paths_few law p prog xs h = few_each law p (prog_comparisons prog) (ways prog) xs (ways_size prog) h

pub as_many : (p : Places) (ws : List Way) (xs : List Path) → ArePaths p ws xs → length xs ≡ length ws
as_many p [] [] h = refl
as_many p [] (x ∷ xs) h = absurd h
as_many p (w ∷ ws) [] h = absurd h
as_many p (w ∷ ws) (x ∷ xs) h = ap suc (as_many p ws xs h.1)
