-- The parts of the obligations, one after the other.
use Rattle.std.proofs.Common.{◌≡◌, ℕ, zero, suc, ◌+◌, ◌<◌, ◌≤◌, IsTrue, List, [], ◌∷◌, ◌++◌, length, map, take, get_or, sym, ap, ap₂, ◌∙◌, subst, arith}
use Rattle.std.specs.Prelude.{slice_index}
use Rattle.std.proofs.lemmas.List.{map-append, take_all, take_more}
use Rattle.vp_terms.specs.Places.{has_variable, place, place_count}
use Rattle.vp_terms.specs.declared.expr.Expr.{Expr}
use Rattle.vp_terms.specs.declared.expr.Expr.TheVariants.{Var as Variable}
use Rattle.vp_terms.specs.declared.expr.Places.{Places}
use Rattle.vp_terms.specs.declared.expr.Var.{Var}
use Rattle.vp_terms.specs.declared.expr.Var.TheVariants.{NextControl}
use Rattle.vp_terms.specs.declared.formula.Cmp.TheVariants as cmp
use Rattle.vp_terms.specs.declared.formula.Formula.TheVariants.{Cmp as Compare}
use Rattle.vp_poly.specs.Points.{Sends}
use Rattle.vp_poly.specs.Places.{places_for}
use Rattle.vp_logic.specs.declared.norm.Norm.{Norm}
use Rattle.vp_logic.specs.Renamed.{IsRenamed, SendsBelow}
use Rattle.vp_logic.specs.Sized.{EachIsSized, IsSized}
use Rattle.vp_logic.specs.Tree.{Tree, AnyOf, members, negated, tree}
use Rattle.vp_logic.proofs.AllMembers.{AreSized-members}
use Rattle.vp_ctrl.specs.declared.path.Path.{Path}
use Rattle.vp_ctrl.specs.Paths.{EachPathIsSized, parts_of}
use Rattle.vp_monitor.specs.declared.types.Monitors.{Monitors}
use Rattle.vp_monitor.specs.Exchange.{actuating, priming}
use Rattle.vp_monitor.specs.Obligations.{AreEquations, AreStepParts, EachIsRenamed, path_tree}
use Rattle.vp_monitor.specs.Plant.{IsOwnNormal}
use Rattle.vp_monitor.proofs.States.{length-front}

-- ---- lists that are made one element after the other

-- as many results as elements so far
pub mapped_more : {A C : Type 0} (f : A → Tree) (g : C → Tree) (xs : List A) (i : ℕ) (a : A) (ys zs : List C) (c : C) → i < length xs → a ≡ get_or xs i a → map g ys ≡ map f (take i xs) → g c ≡ f a → zs ≡ ys ++ c ∷ [] → map g zs ≡ map f (take (i + 1) xs)
mapped_more f g xs i a ys zs c l e h k q =
    ap (map g) q ∙ map-append g ys (c ∷ []) ∙ ap₂ (λ (ts : List Tree) (t : Tree). ts ++ t ∷ []) h (k ∙ ap f e) ∙ sym (map-append f (take i xs) (get_or xs i a ∷ [])) ∙ ap (map f) (sym (take_more xs i a l))

pub mapped_all : {A : Type 0} (f : A → Tree) (xs : List A) (i : ℕ) (ts : List Tree) → length xs ≤ i → ts ≡ map f (take i xs) → ts ≡ map f xs
mapped_all f xs i ts l h = h ∙ ap (map f) (take_all i xs l)

EachIsRenamed-append : (to : List ℕ) (ts us : List Tree) (t u : Tree) → EachIsRenamed to ts us → IsRenamed to t u → EachIsRenamed to (ts ++ t ∷ []) (us ++ u ∷ [])
EachIsRenamed-append to [] [] t u h r = (r, tt)
EachIsRenamed-append to [] (v ∷ us) t u h r = absurd h
EachIsRenamed-append to (s ∷ ts) [] t u h r = absurd h
EachIsRenamed-append to (s ∷ ts) (v ∷ us) t u h r = (h.0, EachIsRenamed-append to ts us t u h.1 r)

pub renamed_more : (to : List ℕ) (xs : List Norm) (i : ℕ) (a : Norm) (ys zs : List Norm) (c : Norm) → i < length xs → a ≡ get_or xs i a → EachIsRenamed to (map tree (take i xs)) (map tree ys) → IsRenamed to (tree a) (tree c) → zs ≡ ys ++ c ∷ [] → EachIsRenamed to (map tree (take (i + 1) xs)) (map tree zs)
renamed_more to xs i a ys zs c l e h r q =
    subst (λ (ts : List Tree). EachIsRenamed to ts (map tree zs)) (sym (ap (map tree) (take_more xs i a l) ∙ map-append tree (take i xs) (get_or xs i a ∷ []) ∙ ap (λ (n : Norm). map tree (take i xs) ++ tree n ∷ []) (sym e)))
    (subst (λ (us : List Tree). EachIsRenamed to (map tree (take i xs) ++ tree a ∷ []) us) (sym (ap (map tree) q ∙ map-append tree ys (c ∷ []))) (EachIsRenamed-append to (map tree (take i xs)) (map tree ys) (tree a) (tree c) h r))

pub renamed_all : (to : List ℕ) (xs : List Norm) (i : ℕ) (us : List Tree) → length xs ≤ i → EachIsRenamed to (map tree (take i xs)) us → EachIsRenamed to (map tree xs) us
renamed_all to xs i us l h = subst (λ (ns : List Norm). EachIsRenamed to (map tree ns) us) (take_all i xs l) h

-- ---- sizes

pub EachIsSized-append : (n : ℕ) (ts us : List Tree) → EachIsSized n ts → EachIsSized n us → EachIsSized n (ts ++ us)
EachIsSized-append n [] us h k = k
EachIsSized-append n (t ∷ ts) us h k = (h.0, EachIsSized-append n ts us h.1 k)

pub sized_more : (n : ℕ) (ys zs : List Norm) (c : Norm) → EachIsSized n (map tree ys) → IsSized n (tree c) → zs ≡ ys ++ c ∷ [] → EachIsSized n (map tree zs)
sized_more n ys zs c h k q =
    subst (λ (us : List Tree). EachIsSized n us) (sym (ap (map tree) q ∙ map-append tree ys (c ∷ []))) (EachIsSized-append n (map tree ys) (tree c ∷ []) h (k, tt))

pub sized_at : (n : ℕ) (xs : List Norm) (i : ℕ) (a : Norm) → i < length xs → a ≡ get_or xs i a → EachIsSized n (map tree xs) → IsSized n (tree a)
sized_at n [] i a l e h = absurd (omega arith)
sized_at n (x ∷ xs) zero a l e h = subst (λ (b : Norm). IsSized n (tree b)) (sym e) h.0
sized_at n (x ∷ xs) (suc i) a l e h = sized_at n xs i a (omega arith) e h.1

pub path_sized_at : (n : ℕ) (xs : List Path) (i : ℕ) (a : Path) → i < length xs → a ≡ get_or xs i a → EachPathIsSized n xs → EachIsSized n (parts_of a)
path_sized_at n [] i a l e h = absurd (omega arith)
path_sized_at n (x ∷ xs) zero a l e h = subst (λ (b : Path). EachIsSized n (parts_of b)) (sym e) h.0
path_sized_at n (x ∷ xs) (suc i) a l e h = path_sized_at n xs i a (omega arith) e h.1

pub paths_sized : (n : ℕ) (xs : List Path) → EachPathIsSized n xs → EachIsSized n (map path_tree xs)
paths_sized n [] h = tt
paths_sized n (x ∷ xs) h = (AreSized-members n (parts_of x) h.0, paths_sized n xs h.1)

-- ---- renamings send places of the model to places of the model

pub sends_below : ((p : Places) (k : ℕ) → k < place_count p → (v : Var) × IsTrue (has_variable p v) × (place p v ≡ k)) → ((p : Places) (v : Var) → IsTrue (has_variable p v) → place p v < place_count p) →
    (p : Places) (to : List ℕ) (g : Var → Var) → Sends p to g → SendsBelow to (place_count p) (place_count p)
sends_below used inside p to g s = λ k l.
    let w = used p k l in
    subst (λ (n : ℕ). n < place_count p) (sym (s.each w.0 w.1) ∙ ap (slice_index to) w.2) (inside p (g w.0) (s.inside w.0 w.1))

-- ---- the parts of Step

pub step_parts_are : (m : Monitors) (inv paths next denied : Norm) (plant all : List Norm) → tree inv ≡ tree m.inv → tree paths ≡ AnyOf (members (map path_tree m.paths)) →
    EachIsRenamed (actuating (places_for m.counts)) (map tree m.plant) (map tree plant) → IsRenamed (priming (places_for m.counts)) (tree m.inv) (tree next) → tree denied ≡ negated (tree next) →
    all ≡ inv ∷ paths ∷ plant ++ denied ∷ [] → AreStepParts m (map tree all)
step_parts_are m inv paths next denied plant all h k r s d q = record {
  plant = map tree plant;
  inv = tree next;
  is = ap (map tree) q ∙ ap₂ (λ (a b : Tree). a ∷ b ∷ map tree (plant ++ denied ∷ [])) h k ∙ ap (λ (ts : List Tree). tree m.inv ∷ AnyOf (members (map path_tree m.paths)) ∷ ts) (map-append tree plant (denied ∷ []) ∙ ap (λ (t : Tree). map tree plant ++ t ∷ []) d);
  actuated = r;
  primed = s;
}

-- ---- lists that are joined

pub joined_step : (inv paths denied : Norm) (plant none one two three all : List Norm) → none ≡ [] → one ≡ none ++ inv ∷ [] → two ≡ one ++ paths ∷ [] → three ≡ two ++ plant → all ≡ three ++ denied ∷ [] → all ≡ inv ∷ paths ∷ plant ++ denied ∷ []
joined_step inv paths denied plant none one two three all e f g h k =
    k ∙ ap (λ (ns : List Norm). ns ++ denied ∷ []) (h ∙ ap (λ (ns : List Norm). ns ++ plant) (g ∙ ap (λ (ns : List Norm). ns ++ paths ∷ []) (f ∙ ap (λ (ns : List Norm). ns ++ inv ∷ []) e)))

pub joined_fallback : (inv : Norm) (equations denials none one two all : List Norm) → none ≡ [] → one ≡ none ++ inv ∷ [] → two ≡ one ++ equations → all ≡ two ++ denials → all ≡ inv ∷ equations ++ denials
joined_fallback inv equations denials none one two all e f g h =
    h ∙ ap (λ (ns : List Norm). ns ++ denials) (g ∙ ap (λ (ns : List Norm). ns ++ equations) (f ∙ ap (λ (ns : List Norm). ns ++ inv ∷ []) e))

pub step_sized : (n : ℕ) (inv paths denied : Norm) (plant all : List Norm) → all ≡ inv ∷ paths ∷ plant ++ denied ∷ [] → IsSized n (tree inv) → IsSized n (tree paths) → EachIsSized n (map tree plant) → IsSized n (tree denied) → EachIsSized n (map tree all)
step_sized n inv paths denied plant all e i p s d =
    subst (λ (ns : List Norm). EachIsSized n (map tree ns)) (sym e) (i, (p, subst (EachIsSized n) (sym (map-append tree plant (denied ∷ []))) (EachIsSized-append n (map tree plant) (tree denied ∷ []) s (d, tt))))

pub fallback_sized : (n : ℕ) (inv : Norm) (equations denials all : List Norm) → all ≡ inv ∷ equations ++ denials → IsSized n (tree inv) → EachIsSized n (map tree equations) → EachIsSized n (map tree denials) → EachIsSized n (map tree all)
fallback_sized n inv equations denials all e i s d =
    subst (λ (ns : List Norm). EachIsSized n (map tree ns)) (sym e) (i, subst (EachIsSized n) (sym (map-append tree equations denials)) (EachIsSized-append n (map tree equations) (map tree denials) s d))

-- ---- equations of the fallback

AreEquations-append : (p : Places) (k j : ℕ) (es : List Expr) (ts : List Tree) (e : Expr) (t : Tree) → j ≡ k + length es → AreEquations p k es ts → IsOwnNormal p (Compare cmp.Eq (Variable (NextControl j)) e) t → AreEquations p k (es ++ e ∷ []) (ts ++ t ∷ [])
AreEquations-append p k j [] [] e t q h i = (subst (λ (n : ℕ). IsOwnNormal p (Compare cmp.Eq (Variable (NextControl n)) e) t) (let r : j ≡ k = omega arith in r) i, tt)
AreEquations-append p k j [] (u ∷ ts) e t q h i = absurd h
AreEquations-append p k j (d ∷ es) [] e t q h i = absurd h
AreEquations-append p k j (d ∷ es) (u ∷ ts) e t q h i = (h.0, AreEquations-append p (suc k) j es ts e t (omega arith) h.1 i)

pub equations_more : (p : Places) (xs : List Expr) (i : ℕ) (e : Expr) (ys zs : List Norm) (c : Norm) → i < length xs → e ≡ get_or xs i e → AreEquations p 0 (take i xs) (map tree ys) → IsOwnNormal p (Compare cmp.Eq (Variable (NextControl i)) e) (tree c) → zs ≡ ys ++ c ∷ [] →
    AreEquations p 0 (take (i + 1) xs) (map tree zs)
equations_more p xs i e ys zs c l is h n q =
    subst (λ (ds : List Expr). AreEquations p 0 ds (map tree zs)) (sym (take_more xs i e l ∙ ap (λ (d : Expr). take i xs ++ d ∷ []) (sym is)))
    (subst (λ (us : List Tree). AreEquations p 0 (take i xs ++ e ∷ []) us) (sym (ap (map tree) q ∙ map-append tree ys (c ∷ [])))
    (AreEquations-append p 0 i (take i xs) (map tree ys) e (tree c) (let t = length-front i xs (let r : i ≤ length xs = omega arith in r) in omega arith) h n))

pub equations_all : (p : Places) (xs : List Expr) (i : ℕ) (ts : List Tree) → length xs ≤ i → AreEquations p 0 (take i xs) ts → AreEquations p 0 xs ts
equations_all p xs i ts l h = subst (λ (ds : List Expr). AreEquations p 0 ds ts) (take_all i xs l) h
