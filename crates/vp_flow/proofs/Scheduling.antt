-- The order of integration, from the table of which states reach which.
use Rattle.std.proofs.Common.{◌≡◌, ◌≢◌, ℕ, zero, suc, ◌+◌, ◌≤◌, ◌<◌, Bool, true, false, ◌==◌, List, [], ◌∷◌, ◌++◌, String, Global, string_bytes, map, drop, length, get_or, slice_index, slice_get, unwrap_or, refl, sym, ap, ◌∙◌, subst, arith}
use Rattle.std.proofs.lemmas.Bool.{eqb-true, eqb-false}
use Rattle.vp_terms.specs.declared.expr.Places.{Places}
use Rattle.vp_terms.specs.declared.package.Package.{Package}
use Rattle.vp_poly.specs.declared.mono.Term.{Term}
use Rattle.vp_poly.specs.declared.scaled.Scaled.{Scaled}
use Rattle.vp_flow.specs.Sides.{AreRightSides, Reaches, model, polys, uses}
use Rattle.vp_flow.specs.Order.{IsByRank, IsOrder, count_below, rank, via}
use Rattle.vp_flow.specs.Matrix.{HasRows, IsMatrix, cell}
use Rattle.vp_flow.specs.Outcome.{AreLinear, HasCycle, named_where}
use Rattle.vp_flow.proofs.GraphLaws.{by-rank-same, count-most, count-same, named-more, named-none, named-skip, via-same}
use Rattle.vp_flow.proofs.Ordering.{is-order}
use Rattle.vp_flow.proofs.Reaching.{reaching}
use Rattle.vp_flow.proofs.Tables.{row-size}

-- the table of what reaches what is the same for a table of uses
pub reach-rows : (p : Places) (ss : List (List Term)) (n : ℕ) (table rows : List (List Bool)) → n ≡ p.states → HasRows p.states p.states (uses p ss) table → HasRows n n (via (cell table) n) rows → HasRows p.states p.states (via (uses p ss) p.states) rows
reach-rows p ss n table rows e h x = subst (λ (k : ℕ). HasRows k k (via (uses p ss) k) rows) e (record {
  count = x.count;
  each = λ i lt. record {
    size = (x.each i lt).size;
    each = λ j j_lt. (x.each i lt).each j j_lt ∙ via-same (cell table) (uses p ss) n n (λ a b a_lt b_lt. (h.each a (omega arith)).each b (omega arith)) (omega arith) i j lt j_lt;
  };
})

-- no state reaches itself where no name is found
pub acyclic : (p : Places) (ss : List (List Term)) (rows : List (List Bool)) (names : List (List ℕ)) → length names ≡ p.states → HasRows p.states p.states (via (uses p ss) p.states) rows → named_where (λ i. cell rows i i) 0 names ≡ [] → (j : ℕ) → j < p.states → Reaches p ss j j → ⊥
acyclic p ss rows names n x e j lt r =
    let z : 0 + j ≡ j = omega arith in
    let off = sym (ap (λ (i : ℕ). cell rows i i) z) ∙ named-none (λ i. cell rows i i) 0 names e j (omega arith) in
    let on = (x.each j lt).each j lt ∙ (reaching p ss j j).1 r in
    clash (cell rows j j) on off
  where
    clash : (v : Bool) → v ≡ true → v ≡ false → ⊥
    clash v a b = cc

pub has-cycle : (pkg : Package) (qs : List Scaled) (rows : List (List Bool)) (found : List (List ℕ)) → AreRightSides pkg qs → AreLinear pkg qs → HasRows (length pkg.names.states) (length pkg.names.states) (via (uses (model pkg) (polys qs)) (length pkg.names.states)) rows → found ≡ named_where (λ i. cell rows i i) 0 pkg.names.states → found ≢ [] → HasCycle pkg found
has-cycle pkg qs rows found right linear x e some = record {
  sides = qs;
  right = right;
  linear = linear;
  test = λ i. cell rows i i;
  exact = λ i lt.
      let here = (x.each i lt).each i lt in
      let r = reaching (model pkg) (polys qs) i i in
      ((λ t. r.0 (sym here ∙ t)), (λ t. here ∙ r.1 t));
  all = e;
  some = some;
}

pub rank-most : (n k : ℕ) (ranks : List ℕ) (rows : List (List Bool)) → length ranks ≡ n → n ≡ length rows → ((i : ℕ) → i < length rows → slice_index ranks i ≡ count_below (length rows) (cell rows i)) → k < length ranks → slice_index ranks k ≤ length ranks
rank-most n k ranks rows e f h lt = let m = count-most (length rows) (cell rows k) in let s = h k (omega arith) in omega (arith, m, s, e, f)

-- the order by ranks is one of dependencies
pub ordered : (p : Places) (ss : List (List Term)) (rows : List (List Bool)) (ranks order : List ℕ) → HasRows p.states p.states (via (uses p ss) p.states) rows → length ranks ≡ length rows → ((i : ℕ) → i < length rows → slice_index ranks i ≡ count_below (length rows) (cell rows i)) → ((j : ℕ) → j < p.states → Reaches p ss j j → ⊥) → IsByRank (slice_index ranks) (length ranks) order → IsOrder p ss order
ordered p ss rows ranks order x e h free b =
    let n : length ranks ≡ p.states = e ∙ x.count in
    let c = x.count in
    is-order p ss order free
    (by-rank-same (slice_index ranks) (rank p ss) p.states order
    (λ j lt.
    h j (omega arith) ∙ ap (λ (k : ℕ). count_below k (cell rows j)) x.count
    ∙ count-same p.states (cell rows j) (via (uses p ss) p.states j) (λ i i_lt. (x.each j lt).each i i_lt))
    (subst (λ (k : ℕ). IsByRank (slice_index ranks) k order) n b))

pub rows-of : (pkg : Package) (p : Places) (ss : List (List Term)) (rows : List (List Bool)) → p ≡ model pkg → HasRows p.states p.states (via (uses p ss) p.states) rows → HasRows (length pkg.names.states) (length pkg.names.states) (via (uses (model pkg) ss) (length pkg.names.states)) rows
rows-of pkg p ss rows e h = subst (λ (q : Places). HasRows q.states q.states (via (uses q ss) q.states) rows) e h

-- ---- lists of names

pub map-size : {X Y : Type 0} → (f : X → Y) (xs : List X) → length (map f xs) ≡ length xs
map-size f [] = refl
map-size f (x ∷ xs) = ap suc (map-size f xs)

pub no-names : {X : Type 0} → (f : X → List ℕ) (xs : List X) (n : ℕ) (r : Bool) → r ≡ (n == 0) → r ≡ true → n ≡ length xs → map f xs ≡ []
no-names {X} f [] n r e t s = refl
no-names {X} f (x ∷ xs) n r e t s = let z = eqb-true n 0 (sym e ∙ t) in absurd (omega arith)

pub some-names : {X : Type 0} → (f : X → List ℕ) (xs : List X) (found : List (List ℕ)) (n : ℕ) (r : Bool) → found ≡ map f xs → r ≡ (n == 0) → r ≡ false → n ≡ length xs → found ≢ []
some-names {X} f [] found n r e s t c = λ z. eqb-false n 0 (sym s ∙ t) (let q : n ≡ 0 = omega arith in q)
some-names {X} f (x ∷ xs) found n r e s t c = λ z. none (sym e ∙ z)
  where
    none : map f (x ∷ xs) ≡ [] → ⊥
    none q = cc

pub cycle-push : (t : ℕ → Bool) (k : ℕ) (all target : List (List ℕ)) (strings items new : List (String Global)) (s name : String Global) → map string_bytes strings ≡ all → k < length strings → name ≡ get_or strings k name → string_bytes s ≡ string_bytes name → new ≡ items ++ s ∷ [] → t k ≡ true → target ≡ named_where t 0 all → map string_bytes items ++ named_where t k (drop k all) ≡ target → map string_bytes new ++ named_where t (k + 1) (drop (k + 1) all) ≡ target
cycle-push t k all target strings items new s name e lt is same n on w h =
    ap (λ (l : List (String Global)). map string_bytes l ++ named_where t (k + 1) (drop (k + 1) all)) n
    ∙ ap (λ (l : List (List ℕ)). l ++ named_where t (k + 1) (drop (k + 1) all)) (map-push string_bytes items s)
    ∙ named-more t k all (map string_bytes items) (string_bytes s) (let c = ap (λ (l : List (List ℕ)). length l) e in let d = map-size string_bytes strings in omega arith) (item e) on (h ∙ w) ∙ sym w
  where
    mapped : {X Y : Type 0} → (f : X → Y) (xs : List X) (k : ℕ) (d : X) (y : Y) → k < length xs → f (get_or xs k d) ≡ get_or (map f xs) k y
    mapped f [] k d y lt = absurd (omega arith)
    mapped f (x ∷ xs) zero d y lt = refl
    mapped f (x ∷ xs) (suc k) d y lt = mapped f xs k d y (omega arith)

    map-push : {X Y : Type 0} → (f : X → Y) (xs : List X) (x : X) → map f (xs ++ x ∷ []) ≡ map f xs ++ f x ∷ []
    map-push f [] x = refl
    map-push f (y ∷ xs) x = ap (λ l. f y ∷ l) (map-push f xs x)

    item : map string_bytes strings ≡ all → string_bytes s ≡ get_or all k (string_bytes s)
    item q = same ∙ ap string_bytes is ∙ mapped string_bytes strings k name (string_bytes s) lt ∙ ap (λ (l : List (List ℕ)). get_or l k (string_bytes s)) q

pub cycle-skip : (t : ℕ → Bool) (k : ℕ) (all target : List (List ℕ)) (strings items new : List (String Global)) → map string_bytes strings ≡ all → k < length strings → new ≡ items → t k ≡ false → target ≡ named_where t 0 all → map string_bytes items ++ named_where t k (drop k all) ≡ target → map string_bytes new ++ named_where t (k + 1) (drop (k + 1) all) ≡ target
cycle-skip t k all target strings items new e lt n off w h =
    ap (λ (l : List (String Global)). map string_bytes l ++ named_where t (k + 1) (drop (k + 1) all)) n
    ∙ named-skip t k all (map string_bytes items) [] (let c = ap (λ (l : List (List ℕ)). length l) e in let d = map-size string_bytes strings in omega arith) off (h ∙ w) ∙ sym w

pub cell-at : (rows : List (List Bool)) (k : ℕ) (v d : Bool) (row own : List Bool) → IsMatrix (length rows) rows → k < length rows → row ≡ own → own ≡ get_or rows k own → get_or row k d ≡ v → cell rows k k ≡ v
cell-at rows k v d row own m lt e is at =
    let s = row-size (length rows) rows k row own m lt e is in
    ap (λ (r : List Bool). unwrap_or (slice_get r k) false) (sym s.1) ∙ here row k d (omega (arith, s.0)) ∙ at
  where
    here : (xs : List Bool) (k : ℕ) (d : Bool) → k < length xs → unwrap_or (slice_get xs k) false ≡ get_or xs k d
    here [] k d lt = absurd (omega arith)
    here (x ∷ xs) zero d lt = refl
    here (x ∷ xs) (suc k) d lt = here xs k d (omega arith)

-- ---- the steps together

-- how many states each row reaches
pub record AreRanks (rows : List (List Bool)) (ranks : List ℕ) : Type 0 where
  pub count : length ranks ≡ length rows
  pub each : (i : ℕ) → i < length rows → slice_index ranks i ≡ count_below (length rows) (cell rows i)

pub ranks-of : (rows : List (List Bool)) (ranks lent : List ℕ) → lent ≡ ranks → length ranks ≡ length rows → ((i : ℕ) → i < length rows → slice_index ranks i ≡ count_below (length rows) (cell rows i)) → AreRanks rows lent
ranks-of rows ranks lent e n h = subst (AreRanks rows) (sym e) (record { count = n; each = h })

pub reach-of : (p : Places) (ss : List (List Term)) (table lent rows seen : List (List Bool)) → HasRows p.states p.states (uses p ss) table → lent ≡ table → HasRows (length lent) (length lent) (via (cell lent) (length lent)) rows → seen ≡ rows → HasRows p.states p.states (via (uses p ss) p.states) seen
reach-of p ss table lent rows seen h e x f =
    let own = subst (λ (t : List (List Bool)). HasRows p.states p.states (uses p ss) t) (sym e) h in
    subst (λ (r : List (List Bool)). HasRows p.states p.states (via (uses p ss) p.states) r) (sym f) (reach-rows p ss (length lent) lent rows own.count own x)

pub order-of : (p : Places) (ss : List (List Term)) (rows : List (List Bool)) (ranks order lent : List ℕ) → HasRows p.states p.states (via (uses p ss) p.states) rows → AreRanks rows ranks → ((j : ℕ) → j < p.states → Reaches p ss j j → ⊥) → IsByRank (slice_index ranks) (length ranks) order → lent ≡ order → IsOrder p ss lent
order-of p ss rows ranks order lent x r free b e = subst (IsOrder p ss) (sym e) (ordered p ss rows ranks order x r.count r.each free b)

pub all-in-order : (p : Places) (order lent : List ℕ) (n : ℕ) → n ≡ p.states → lent ≡ order → ((j : ℕ) → j < n → (s : ℕ) × (s < length order) × (slice_index order s ≡ j)) → (j : ℕ) → j < p.states → (s : ℕ) × (s < length lent) × (slice_index lent s ≡ j)
all-in-order p order lent n c e h j lt = subst (λ (l : List ℕ). (s : ℕ) × (s < length l) × (slice_index l s ≡ j)) (sym e) (h j (omega arith))
