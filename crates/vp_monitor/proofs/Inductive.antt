-- Where no case of any obligation can be met, the invariant is inductive.
use Rattle.std.proofs.Common.{◌≡◌, ◌⊎◌, inl, inr, ℕ, zero, suc, ◌+◌, ◌<◌, ◌≤◌, Bool, true, false, not, ◌&&◌, ◌||◌, IsTrue, refl, sym, ap, ap₂, ◌∙◌, subst, arith, List, [], ◌∷◌, map, length, slice_get, Some, ℤ, pos, ◌*ℤ◌, nat_lt, All}
use Rattle.std.specs.Prelude.{◌==◌}
use Rattle.std.specs.List.{list_all, list_any}
use Rattle.std.specs.Ordering.{int_eq}
use Rattle.std.proofs.lemmas.List.Folds.{list_all-append}
use Rattle.std.proofs.lemmas.Option.{slice_get_within}
use Rattle.std.proofs.lemmas.Bool.Decides.{nat_tests}
use Rattle.std.proofs.lemmas.Int.{ints}
use Rattle.vp_terms.specs.Rational.{Rational, whole, Equals}
use Rattle.vp_terms.specs.Meaning.{Assignment, compares, holds, value}
use Rattle.vp_terms.specs.Control.{AgreeFrom, Ctrl, Values, assigned, changing}
use Rattle.vp_terms.specs.Model.{IsInductive, model_of}
use Rattle.vp_terms.specs.Places.{place_count, has_variable}
use Rattle.vp_terms.specs.Plant.{Flow}
use Rattle.vp_terms.specs.Running.{may_change}
use Rattle.vp_terms.specs.Variables.{all_variables, all_variables_of}
use Rattle.vp_terms.specs.WellFormed.{IsWellFormed, in_model, is_allowed, is_good_expr, is_good_prog}
use Rattle.vp_terms.specs.declared.well_formed.Kinds.{Kinds}
use Rattle.vp_terms.specs.declared.expr.Places.{Places}
use Rattle.vp_terms.specs.declared.expr.Expr.{Expr}
use Rattle.vp_terms.specs.declared.expr.Expr.TheVariants.{Var as Variable}
use Rattle.vp_terms.specs.declared.expr.Var.{Var}
use Rattle.vp_terms.specs.declared.expr.Var.TheVariants.{Param, State, Control, NextState, NextControl, Tau}
use Rattle.vp_terms.specs.declared.formula.Cmp.TheVariants as cmp
use Rattle.vp_terms.specs.declared.formula.Formula.{Formula}
use Rattle.vp_terms.specs.declared.formula.Formula.TheVariants.{Cmp as Compare}
use Rattle.vp_terms.specs.declared.package.Part.{Part}
use Rattle.vp_terms.specs.declared.package.Package.{Package}
use Rattle.vp_terms.specs.declared.prog.Prog.{Prog}
use Rattle.vp_terms.specs.declared.prog.Prog.TheVariants.{Skip, Assign, Any, Test, Choice', Seq', If'}
use Rattle.vp_terms.proofs.Orders.{same_comparison}
use Rattle.vp_terms.proofs.RationalLaws.{Equals-refl, chain}
use Rattle.vp_terms.proofs.Standing.{below}
use Rattle.vp_poly.specs.Canonical.{own_weights, variables}
use Rattle.vp_poly.specs.Places.{IsRenaming, places_for, point_before}
use Rattle.vp_poly.specs.Points.{IsAt, Sends}
use Rattle.vp_poly.specs.Value.{Point}
use Rattle.vp_logic.specs.declared.norm.Atom.{Atom}
use Rattle.vp_logic.specs.Cases.{Case, case_holds, lists, part_cases_from}
use Rattle.vp_logic.specs.Narrow.{comparisons_fit}
use Rattle.vp_logic.specs.Normal.{IsNormal}
use Rattle.vp_logic.specs.Renamed.{IsRenamed}
use Rattle.vp_logic.specs.Sized.{EachIsSized, IsSized}
use Rattle.vp_logic.specs.Tree.{Tree, AnyOf, all_atoms, members, negated, tree}
use Rattle.vp_logic.specs.Truth.{parts_hold, tree_holds}
use Rattle.vp_logic.proofs.AllMembers.{all_hold-members, any_holds-members}
use Rattle.vp_ctrl.specs.declared.path.Path.{Path}
use Rattle.vp_ctrl.specs.Paths.{parts_of, some_path_holds}
use Rattle.vp_flow.specs.Sides.{model}
use Rattle.vp_monitor.specs.declared.types.Monitors.{Monitors}
use Rattle.vp_monitor.specs.declared.types.Obligation.{Obligation}
use Rattle.vp_monitor.specs.Exchange.{actuated, actuating, primed, priming}
use Rattle.vp_monitor.specs.Meaning.{AreSized, Mean}
use Rattle.vp_monitor.specs.Monitors.{AreMonitors}
use Rattle.vp_monitor.specs.Obligations.{AreEquations, AreNeverMet, AreObligations, AreObligationsOf, EachIsRenamed, IsNeverMet, IsObligation, all_parts, parts_for, path_tree}
use Rattle.vp_monitor.specs.Plant.{IsOwnNormal}
use Rattle.vp_monitor.specs.Refusals.{IsFallbackGood, Passes}
use Rattle.vp_monitor.proofs.Exchanging.{Renames, actuating_sends, exchanging_renames, priming_sends}

-- what is known of points, forms and formulas
pub record Known : Type 0 where
  pub renames : Renames
  pub some : (p : Places) (a : Assignment) → (x : Point) × IsAt p x a
  pub moved : (p : Places) (to : List ℕ) (g : Var → Var) (x : Point) (a : Assignment) → Sends p to g → IsAt p x a → IsAt p (point_before to x) (λ v. a (g v))
  pub same : (p : Places) (x : Point) (a b : Assignment) → ((v : Var) → IsTrue (has_variable p v) → Equals (a v) (b v)) → IsAt p x a → IsAt p x b
  pub negates : (t : Tree) (x : Point) → tree_holds (negated t) x ≡ not (tree_holds t x)
  pub holds_before : (v : ℕ) (to : List ℕ) (x : Point) → IsRenaming to → (t u : Tree) → IsSized v t → IsRenamed to t u → tree_holds u x ≡ tree_holds t (point_before to x)
  pub as_formula : (p : Places) → place_count p ≤ 32 → (x : Point) (a : Assignment) → IsAt p x a → (f : Formula) (t : Tree) → IsTrue (all_variables_of (has_variable p) f) →
      comparisons_fit p (own_weights (place_count p)) f ≡ true → IsNormal p (own_weights (place_count p)) (variables p) f t → tree_holds t x ≡ holds f a
  pub cases : (ts : List Tree) (x : Point) → list_any (case_holds (all_atoms ts) x) (part_cases_from 0 ts) ≡ parts_hold ts x
  pub values : (t : Var → Bool) (e : Expr) (a b : Assignment) → IsTrue (all_variables t e) → ((v : Var) → IsTrue (t v) → Equals (a v) (b v)) → Equals (value e a) (value e b)
  pub good : (k : Kinds) (p : Places) (e : Expr) → IsTrue (is_good_expr k p e) → IsTrue (all_variables (is_allowed k p) e)
  pub weaker : (t u : Var → Bool) (e : Expr) → ((v : Var) → IsTrue (t v) → IsTrue (u v)) → IsTrue (all_variables t e) → IsTrue (all_variables u e)
  pub allowed : (k : Kinds) (p : Places) (v : Var) → IsTrue (is_allowed k p v) → IsTrue (has_variable p v)
  pub kept : (prog : Prog) (k : ℕ) (p x u v : Values) → Ctrl prog p x u v → (¬ IsTrue (may_change prog k)) → Equals (u k) (v k)

-- ---- a program changes the model's controls alone

or_yes : (a b : Bool) → IsTrue (a || b) → IsTrue a ⊎ IsTrue b
or_yes true b h = inl refl
or_yes false b h = inr h

pub and_left : (a b : Bool) → IsTrue (a && b) → IsTrue a
and_left true b h = refl
and_left false b h = h

pub and_right : (a b : Bool) → IsTrue (a && b) → IsTrue b
and_right true b h = h
and_right false b h = absurd (cc)

the_same : (c k : ℕ) → IsTrue (c == k) → c ≡ k
the_same c k h = grind (arith, nat_tests)

pub changes_controls : (p : Places) (prog : Prog) (k : ℕ) → IsTrue (is_good_prog p prog) → IsTrue (may_change prog k) → k < p.controls
changes_controls p Skip k g h = absurd (cc)
changes_controls p (Assign c e) k g h = let b = below c p.controls (and_left (nat_lt c p.controls) (is_good_expr in_model p e) g) in let s = the_same c k h in omega arith
changes_controls p (Any c) k g h = let b = below c p.controls g in let s = the_same c k h in omega arith
changes_controls p (Test f) k g h = absurd (cc)
changes_controls p (Choice' l a r b) k g h = elim (or_yes (may_change a k) (may_change b k) h) [
  | inl i ↦ changes_controls p a k (and_left (is_good_prog p a) (is_good_prog p b) g) i
  | inr i ↦ changes_controls p b k (and_right (is_good_prog p a) (is_good_prog p b) g) i
]
changes_controls p (Seq' l a r b) k g h = elim (or_yes (may_change a k) (may_change b k) h) [
  | inl i ↦ changes_controls p a k (and_left (is_good_prog p a) (is_good_prog p b) g) i
  | inr i ↦ changes_controls p b k (and_right (is_good_prog p a) (is_good_prog p b) g) i
]
changes_controls p (If' f l a r b) k g h =
    let m = and_right _ (is_good_prog p a && is_good_prog p b) g in
    elim (or_yes (may_change a k) (may_change b k) h) [
      | inl i ↦ changes_controls p a k (and_left (is_good_prog p a) (is_good_prog p b) m) i
      | inr i ↦ changes_controls p b k (and_right (is_good_prog p a) (is_good_prog p b) m) i
    ]

pub keeps_others : Known → (p : Places) (prog : Prog) (q x u v : Values) → IsTrue (is_good_prog p prog) → Ctrl prog q x u v → AgreeFrom p.controls u v
keeps_others known p prog q x u v g h = λ k l. known.kept prog k q x u v h (λ c. let b = changes_controls p prog k g c in absurd (omega arith))

-- ---- cases that are never met

abbrev NeverMet : List Tree → Type 0
NeverMet ts = (z : Point) → parts_hold ts z ≡ false

none_passes : {A : Type 0} (f : A → Bool) (xs : List A) → All (λ (a : A). f a ≡ false) xs → list_any f xs ≡ false
none_passes f [] h = refl
none_passes f (x ∷ xs) h = ap₂ (λ (a b : Bool). a || b) (h zero x (omega arith)) (none_passes f xs (λ k d l. h (suc k) d (omega arith)))

pub never_met : Known → (q : Part) (ts : List Tree) (o : Obligation) → IsObligation q ts o → IsNeverMet o → NeverMet ts
never_met known q ts o h n = λ z.
    sym (known.cases ts z)
    ∙ ap₂ (λ (a : List Atom) (c : List Case). list_any (case_holds a z) c) (sym h.atoms) (sym h.cases)
    ∙ none_passes (case_holds o.atoms z) (lists o.cases) (λ k d l. n k d l z)

-- ---- paths

some_path : (ps : List Path) (z : Point) → list_any (λ t. tree_holds t z) (map path_tree ps) ≡ some_path_holds z ps
some_path [] z = refl
some_path (p ∷ ps) z = ap₂ (λ (a b : Bool). a || b) (all_hold-members (parts_of p) z) (some_path ps z)

pub any_path : (ps : List Path) (z : Point) → tree_holds (AnyOf (members (map path_tree ps))) z ≡ some_path_holds z ps
any_path ps z = any_holds-members (map path_tree ps) z ∙ some_path ps z

turned : (a b : Bool) → (not a && not b) ≡ not (a || b)
turned true b = refl
turned false b = refl

pub denied : Known → (ps : List Path) (z : Point) → parts_hold (map (λ path. negated (path_tree path)) ps) z ≡ not (some_path_holds z ps)
denied known [] z = refl
denied known (p ∷ ps) z =
    ap₂ (λ (a b : Bool). a && b) (known.negates (path_tree p) z ∙ ap not (all_hold-members (parts_of p) z)) (denied known ps z)
    ∙ turned (parts_hold (parts_of p) z) (some_path_holds z ps)

-- ---- renamed lists

pub renamed_hold : Known → (v : ℕ) (to : List ℕ) (z : Point) → IsRenaming to → (ts us : List Tree) → EachIsSized v ts → EachIsRenamed to ts us → parts_hold us z ≡ parts_hold ts (point_before to z)
renamed_hold known v to z r [] [] s h = refl
renamed_hold known v to z r [] (u ∷ us) s h = absurd h
renamed_hold known v to z r (t ∷ ts) [] s h = absurd h
renamed_hold known v to z r (t ∷ ts) (u ∷ us) s h =
    ap₂ (λ (a b : Bool). a && b) (known.holds_before v to z r t u s.0 h.0) (renamed_hold known v to z r ts us s.1 h.1)

-- ---- equations of the fallback

same_numbers : (q r : Rational) → Equals q r → compares cmp.Eq q r ≡ true
same_numbers q r e = same_comparison cmp.Eq q r r r e (Equals-refl r) ∙ itself (r.num *ℤ pos r.den)
  where
    itself : (z : ℤ) → int_eq z z ≡ true
    itself z = grind (arith, ints)

equation_holds : Known → (p : Places) → place_count p ≤ 32 → (k : ℕ) (e : Expr) (t : Tree) (z : Point) (a : Assignment) → k < p.controls → IsTrue (is_good_expr in_model p e) →
    IsFallbackGood p k e → IsOwnNormal p (Compare cmp.Eq (Variable (NextControl k)) e) t → IsAt p z a → Equals (a (NextControl k)) (value e a) → tree_holds t z ≡ true
equation_holds known p few k e t z a below_it good fits normal at same =
    known.as_formula p few z a at (Compare cmp.Eq (Variable (NextControl k)) e) t (both (nat_lt k p.controls) (all_variables (has_variable p) e) (yes k p.controls below_it)
    (known.weaker (is_allowed in_model p) (has_variable p) e (known.allowed in_model p) (known.good in_model p e good))) fits.fits normal
    ∙ same_numbers (a (NextControl k)) (value e a) same
  where
    both : (a b : Bool) → IsTrue a → IsTrue b → IsTrue (a && b)
    both true b h i = i
    both false b h i = absurd (cc)

    yes : (i n : ℕ) → i < n → IsTrue (nat_lt i n)
    yes i n h = grind (arith, nat_tests)

pub equations_hold : Known → (p : Places) → place_count p ≤ 32 → (k : ℕ) (es : List Expr) (ts : List Tree) (z : Point) (a : Assignment) → k + length es ≤ p.controls → IsTrue (list_all (is_good_expr in_model p) es) →
    ((i : ℕ) (e : Expr) → slice_get es i ≡ Some e → IsFallbackGood p (k + i) e) → AreEquations p k es ts → IsAt p z a →
    ((i : ℕ) (e : Expr) → slice_get es i ≡ Some e → Equals (a (NextControl (k + i))) (value e a)) → parts_hold ts z ≡ true
equations_hold known p few k [] [] z a l g f h at v = refl
equations_hold known p few k [] (t ∷ ts) z a l g f h at v = absurd h
equations_hold known p few k (e ∷ es) [] z a l g f h at v = absurd h
equations_hold known p few k (e ∷ es) (t ∷ ts) z a l g f h at v =
    ap₂ (λ (b c : Bool). b && c)
    (equation_holds known p few k e t z a (omega arith) (and_left (is_good_expr in_model p e) (list_all (is_good_expr in_model p) es) g)
    (subst (λ (n : ℕ). IsFallbackGood p n e) none (f 0 e refl)) h.0 at (subst (λ (n : ℕ). Equals (a (NextControl n)) (value e a)) none (v 0 e refl)))
    (equations_hold known p few (suc k) es ts z a (omega arith) (and_right (is_good_expr in_model p e) (list_all (is_good_expr in_model p) es) g)
    (λ i d s. subst (λ (n : ℕ). IsFallbackGood p n d) (one i) (f (suc i) d s)) h.1 at (λ i d s. subst (λ (n : ℕ). Equals (a (NextControl n)) (value d a)) (one i) (v (suc i) d s)))
  where
    none : k + 0 ≡ k
    none = omega arith

    one : (i : ℕ) → k + suc i ≡ suc k + i
    one i = omega arith

-- each element of a list passes
pub good_at : {A : Type 0} (f : A → Bool) (xs : List A) (i : ℕ) (x : A) → IsTrue (list_all f xs) → slice_get xs i ≡ Some x → IsTrue (f x)
good_at f [] i x h e = absurd (cc)
good_at f (y ∷ ys) zero x h e = let s : y ≡ x = cc in subst (λ (a : _). IsTrue (f a)) s (and_left (f y) (list_all f ys) h)
good_at f (y ∷ ys) (suc i) x h e = good_at f ys i x (and_right (f y) (list_all f ys) h) e

-- ---- truths of parts

second_of : (a b : Bool) → IsTrue a → (a && (not b && true)) ≡ false → IsTrue b
second_of true true h e = refl
second_of true false h e = absurd (cc)
second_of false b h e = absurd (cc)

last_of : (a b c d : Bool) → IsTrue a → IsTrue b → IsTrue c → (a && (b && (c && (not d && true)))) ≡ false → IsTrue d
last_of true true true true f g h e = refl
last_of true true true false f g h e = absurd (cc)
last_of true true false d f g h e = absurd (cc)
last_of true false c d f g h e = absurd (cc)
last_of false b c d f g h e = absurd (cc)

middle_of : (a b c : Bool) → IsTrue a → IsTrue b → (a && (b && not c)) ≡ false → IsTrue c
middle_of true true true f g e = refl
middle_of true true false f g e = absurd (cc)
middle_of true false c f g e = absurd (cc)
middle_of false b c f g e = absurd (cc)

-- ---- all obligations

abbrev EachNever : (Part → List Tree) → List Part → Type 0
EachNever f [] = Unit {0}
EachNever f (q ∷ qs) = NeverMet (f q) × EachNever f qs

each_never : Known → (f : Part → List Tree) (qs : List Part) (os : List Obligation) → AreObligationsOf f qs os → AreNeverMet os → EachNever f qs
each_never known f [] [] h n = tt
each_never known f [] (o ∷ os) h n = absurd h
each_never known f (q ∷ qs) [] h n = absurd h
each_never known f (q ∷ qs) (o ∷ os) h n = (never_met known q (f q) o h.0 (n zero o (omega arith)), each_never known f qs os h.1 (λ k d l. n (suc k) d (omega arith)))

-- ---- the four

module _ (known : Known) (flow : Flow) (pkg : Package) (m : Monitors) (os : List Obligation) (good : IsWellFormed pkg) (are : AreMonitors pkg m) (passes : Passes pkg) (sized : AreSized m) (mean : Mean flow pkg m) (h : AreObligations pkg m os) (never : AreNeverMet os) where
  places : Places
  places = places_for m.counts

  few : place_count places ≤ 32
  unfolding places
  few = subst (λ (p : Places). place_count p ≤ 32) (sym are.places) good.names.few

  is_controls : m.counts.controls ≡ length pkg.names.controls
  is_controls = ap (λ (p : Places). p.controls) are.places

  -- a form implies another where it and the negated other are never met together
  implied : (s t : Tree) → NeverMet (s ∷ negated t ∷ []) → (z : Point) → IsTrue (tree_holds s z) → IsTrue (tree_holds t z)
  implied s t n z i =
      second_of (tree_holds s z) (tree_holds t z) i (sym (ap (λ (b : Bool). tree_holds s z && (b && true)) (known.negates t z)) ∙ n z)

  -- at the start of a round that changes nothing
  still : Values → Values → Values → Assignment
  still p x u = changing p x u u (whole (pos 0)) x

  all : EachNever (parts_for h.lists_of) all_parts
  all = each_never known (parts_for h.lists_of) all_parts os h.are never

  pub starts : (p x u : Values) → (model_of flow pkg).init p x u → (model_of flow pkg).inv p x u
  unfolding places still
  starts p x u i =
      let w = known.some places (still p x u) in
      (mean.inv w.0 p x u u x (whole (pos 0)) w.1).0 (implied (tree m.init) (tree m.inv) all.0 w.0 ((mean.init w.0 p x u u x (whole (pos 0)) w.1).1 i))

  pub is_safe : (p x u : Values) → (model_of flow pkg).inv p x u → (model_of flow pkg).safe p x u
  unfolding places still
  is_safe p x u i =
      let w = known.some places (still p x u) in
      (mean.safe w.0 p x u u x (whole (pos 0)) w.1).0 (implied (tree m.inv) (tree m.safe) all.1.0 w.0 ((mean.inv w.0 p x u u x (whole (pos 0)) w.1).1 i))

  -- the point at which controls are the next ones, and the one at which states are too
  at_actuated : (p x u v y : Values) (t : Rational) (z : Point) → IsAt places z (changing p x u v t y) → IsAt places (point_before (actuating places) z) (changing p x v u t y)
  unfolding places
  at_actuated p x u v y t z at =
      known.same places (point_before (actuating places) z) (λ w. changing p x u v t y (actuated w)) (changing p x v u t y) (λ w i. same w)
      (known.moved places (actuating places) actuated z (changing p x u v t y) (actuating_sends places few) at)
    where
      same : (w : Var) → Equals (changing p x u v t y (actuated w)) (changing p x v u t y w)
      same (Param i) = Equals-refl (p i)
      same (State i) = Equals-refl (x i)
      same (Control i) = Equals-refl (v i)
      same (NextState i) = Equals-refl (y i)
      same (NextControl i) = Equals-refl (u i)
      same Tau = Equals-refl t

  at_primed : (p x u v y : Values) (t : Rational) (z : Point) → IsAt places z (changing p x u v t y) → IsAt places (point_before (priming places) z) (changing p y v u t x)
  unfolding places
  at_primed p x u v y t z at =
      known.same places (point_before (priming places) z) (λ w. changing p x u v t y (primed w)) (changing p y v u t x) (λ w i. same w)
      (known.moved places (priming places) primed z (changing p x u v t y) (priming_sends places few) at)
    where
      same : (w : Var) → Equals (changing p x u v t y (primed w)) (changing p y v u t x w)
      same (Param i) = Equals-refl (p i)
      same (State i) = Equals-refl (y i)
      same (Control i) = Equals-refl (v i)
      same (NextState i) = Equals-refl (x i)
      same (NextControl i) = Equals-refl (u i)
      same Tau = Equals-refl t

  pub kept : (p x u v y : Values) (t : Rational) → (model_of flow pkg).inv p x u → (model_of flow pkg).ctrl p x u v → (model_of flow pkg).plant p x v t y → (model_of flow pkg).inv p y v
  unfolding places
  kept p x u v y t inv ctrl plant =
      let w = known.some places (changing p x u v t y) in
      let s = h.lists_of.are_step in
      let z = w.0 in
      let paths = AnyOf (members (map path_tree m.paths)) in
      let plant_here : IsTrue (parts_hold s.plant z) = renamed_hold known (place_count places) (actuating places) z (exchanging_renames known.renames (places.params + places.states) places.controls (places.states + places.controls) (let f = few in omega arith) (let f = few in omega arith)) (map tree m.plant) s.plant sized.plant s.actuated
      ∙ (mean.plant (point_before (actuating places) z) p x v u y t (at_actuated p x u v y t z w.1)).1 plant in
      let inv_here : tree_holds s.inv z ≡ tree_holds (tree m.inv) (point_before (priming places) z) = known.holds_before (place_count places) (priming places) z (exchanging_renames known.renames places.params (places.states + places.controls) (places.states + places.controls) (let f = few in omega arith) (let f = few in omega arith)) (tree m.inv) s.inv sized.inv s.primed in
      (mean.inv (point_before (priming places) z) p y v u x t (at_primed p x u v y t z w.1)).0
      (last_of (tree_holds (tree m.inv) z) (tree_holds paths z) (parts_hold s.plant z) (tree_holds (tree m.inv) (point_before (priming places) z))
      ((mean.inv z p x u v y t w.1).1 inv)
      (any_path m.paths z ∙ (mean.ctrl z p x u v y t w.1 (others p x u v ctrl)).1 ctrl)
      plant_here
      (sym (ap (λ (b : Bool). tree_holds (tree m.inv) z && (tree_holds paths z && b)) (list_all-append (λ r. tree_holds r z) s.plant (negated s.inv ∷ []) ∙ ap (λ (b : Bool). parts_hold s.plant z && (b && true)) (known.negates s.inv z ∙ ap not inv_here)))
      ∙ subst (λ (ts : List Tree). parts_hold ts z ≡ false) s.is (all.1.1.0 z)))
    where
      others : (p x u v : Values) → Ctrl pkg.ctrl p x u v → AgreeFrom m.counts.controls u v
      others p x u v c = keeps_others known places pkg.ctrl p x u v (subst (λ (q : Places). IsTrue (is_good_prog q pkg.ctrl)) (sym are.places) good.ctrl) c

  pub falls_back : (p x u v : Values) → (model_of flow pkg).inv p x u → (model_of flow pkg).fallback p x u v → (model_of flow pkg).ctrl p x u v
  unfolding places
  falls_back p x u v inv back =
      let w = known.some places (changing p x u v (whole (pos 0)) x) in
      let s = h.lists_of.are_fallback in
      let z = w.0 in
      (mean.ctrl z p x u v x (whole (pos 0)) w.1 rest).0
      (middle_of (tree_holds (tree m.inv) z) (parts_hold s.equations z) (some_path_holds z m.paths)
      ((mean.inv z p x u v x (whole (pos 0)) w.1).1 inv)
      (equations_hold known places few 0 pkg.fallback s.equations z (changing p x u v (whole (pos 0)) x) enough (subst (λ (q : Places). IsTrue (list_all (is_good_expr in_model q) pkg.fallback)) (sym are.places) good.fallback) fit s.are_equations w.1 given)
      (sym (ap (λ (b : Bool). tree_holds (tree m.inv) z && b) (list_all-append (λ r. tree_holds r z) s.equations (map (λ path. negated (path_tree path)) m.paths) ∙ ap (λ (b : Bool). parts_hold s.equations z && b) (denied known m.paths z)))
      ∙ subst (λ (ts : List Tree). parts_hold ts z ≡ false) s.is (all.1.1.1.0 z)))
    where
      size : length pkg.fallback ≡ m.counts.controls
      size = good.fallback_count ∙ sym is_controls

      rest : AgreeFrom m.counts.controls u v
      rest = λ k l. back.others k (let s = size in omega arith)

      enough : 0 + length pkg.fallback ≤ m.counts.controls
      enough = let s = size in omega arith

      fit : (i : ℕ) (e : Expr) → slice_get pkg.fallback i ≡ Some e → IsFallbackGood places (0 + i) e
      fit i e g = subst (λ (q : Places). IsFallbackGood q (0 + i) e) (sym are.places) (subst (λ (n : ℕ). IsFallbackGood (model pkg) n e) (let n : i ≡ 0 + i = omega arith in n) (passes.fallback i e (slice_get_within pkg.fallback i e g) g))

      given : (i : ℕ) (e : Expr) → slice_get pkg.fallback i ≡ Some e → Equals (v (0 + i)) (value e (changing p x u v (whole (pos 0)) x))
      given i e g = subst (λ (n : ℕ). Equals (v n) (value e (changing p x u v (whole (pos 0)) x))) (let n : i ≡ 0 + i = omega arith in n) (chain (back.each i e g) (known.values (is_allowed in_model (model pkg)) e (assigned p x u) (changing p x u v (whole (pos 0)) x) (known.good in_model (model pkg) e (good_at (is_good_expr in_model (model pkg)) pkg.fallback i e good.fallback g)) (λ w k. same w k)))
        where
          same : (w : Var) → IsTrue (is_allowed in_model (model pkg) w) → Equals (assigned p x u w) (changing p x u v (whole (pos 0)) x w)
          same (Param j) k = Equals-refl (p j)
          same (State j) k = Equals-refl (x j)
          same (Control j) k = Equals-refl (u j)
          same (NextState j) k = absurd (cc)
          same (NextControl j) k = absurd (cc)
          same Tau k = absurd (cc)

  pub inductive : IsInductive (model_of flow pkg)
  inductive = record { starts = starts; is_safe = is_safe; kept = kept; falls_back = falls_back }
