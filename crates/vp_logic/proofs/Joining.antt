-- Lists of cases: joining them, and how many there are.
use Rattle.std.proofs.Common.{◌≡◌, ℕ, ◌+◌, ◌*◌, ◌<◌, ◌≤◌, List, [], ◌∷◌, ◌++◌, length, map, drop, get_or, refl, sym, ap, ◌∙◌, arith, drop-cons, append_assoc, append-nil, length-append}
use Rattle.std.proofs.lemmas.List.{length-map}
use Rattle.std.proofs.Math.Numerals.{add-one}
use Rattle.std.proofs.Math.ListN.{drop_of_length-le}
use Rattle.std.specs.Prelude.{Vec}
use Rattle.std.specs.declared.alloc.Global.{Global}
use Rattle.vp_logic.specs.declared.norm.Norm.{Norm}
use Rattle.vp_logic.specs.Tree.{Tree, Trees, One, AllOf, AnyOf, None, Then, tree, atoms_of, all_atoms}
use Rattle.vp_logic.specs.Cases.{Case, joined, cases_from, all_cases_from, any_cases_from, part_cases_from, case_count, all_count, any_count, part_count, lists}

-- this case with each of those
abbrev pub with_each : Case → List Case → List Case
with_each c ds = map (λ d. c ++ d) ds

with_each-append : (c : Case) (ds es : List Case) → with_each c (ds ++ es) ≡ with_each c ds ++ with_each c es
with_each-append c [] es = refl
with_each-append c (d ∷ ds) es = ap (λ (l : List Case). (c ++ d) ∷ l) (with_each-append c ds es)

joined-append : (bs cs ds : List Case) → joined (bs ++ cs) ds ≡ joined bs ds ++ joined cs ds
joined-append [] cs ds = refl
joined-append (b ∷ bs) cs ds =
    ap (λ (l : List Case). with_each b ds ++ l) (joined-append bs cs ds) ∙ sym (append_assoc (with_each b ds) (joined bs ds) (joined cs ds))

with_each_twice : (b c : Case) (ds : List Case) → with_each b (with_each c ds) ≡ with_each (b ++ c) ds
with_each_twice b c [] = refl
with_each_twice b c (d ∷ ds) = rw (append_assoc b c d) (ap (λ (l : List Case). (b ++ (c ++ d)) ∷ l) (with_each_twice b c ds))

with_each_joined : (b : Case) (cs ds : List Case) → with_each b (joined cs ds) ≡ joined (with_each b cs) ds
with_each_joined b [] ds = refl
with_each_joined b (c ∷ cs) ds =
    with_each-append b (with_each c ds) (joined cs ds)
    ∙ ap (λ (l : List Case). l ++ with_each b (joined cs ds)) (with_each_twice b c ds)
    ∙ ap (λ (l : List Case). with_each (b ++ c) ds ++ l) (with_each_joined b cs ds)

pub joined_assoc : (bs cs ds : List Case) → joined bs (joined cs ds) ≡ joined (joined bs cs) ds
joined_assoc [] cs ds = refl
joined_assoc (b ∷ bs) cs ds =
    ap (λ (l : List Case). l ++ joined bs (joined cs ds)) (with_each_joined b cs ds)
    ∙ ap (λ (l : List Case). joined (with_each b cs) ds ++ l) (joined_assoc bs cs ds)
    ∙ sym (joined-append (with_each b cs) (joined bs cs) ds)

with_each_nothing : (ds : List Case) → with_each [] ds ≡ ds
with_each_nothing [] = refl
with_each_nothing (d ∷ ds) = ap (λ (l : List Case). d ∷ l) (with_each_nothing ds)

pub nothing_joined : (ds : List Case) → joined ([] ∷ []) ds ≡ ds
nothing_joined ds = append-nil (with_each [] ds) ∙ with_each_nothing ds

pub joined_nothing : (cs : List Case) → joined cs ([] ∷ []) ≡ cs
joined_nothing [] = refl
joined_nothing (c ∷ cs) = rw (append-nil c) (ap (λ (l : List Case). c ∷ l) (joined_nothing cs))

-- how many
length-joined : (cs ds : List Case) → length (joined cs ds) ≡ length cs * length ds
length-joined [] ds = omega arith
length-joined (c ∷ cs) ds =
    length-append (with_each c ds) (joined cs ds) ∙ (omega (arith, length-map ds (λ d. c ++ d), length-joined cs ds))

mutual
  pub count_is : (k : ℕ) (t : Tree) → length (cases_from k t) ≡ case_count t
  count_is k (One a) = refl
  count_is k (AllOf ns) = all_count_is k ns
  count_is k (AnyOf ns) = any_count_is k ns

  pub all_count_is : (k : ℕ) (ns : Trees) → length (all_cases_from k ns) ≡ all_count ns
  all_count_is k None = refl
  all_count_is k (Then n ns) =
      let e = count_is k n in
      let f = all_count_is (k + length (atoms_of n)) ns in
      length-joined (cases_from k n) (all_cases_from (k + length (atoms_of n)) ns) ∙ cc

  any_count_is : (k : ℕ) (ns : Trees) → length (any_cases_from k ns) ≡ any_count ns
  any_count_is k None = refl
  any_count_is k (Then n ns) =
      let e = count_is k n in
      let f = any_count_is (k + length (atoms_of n)) ns in
      length-append (cases_from k n) (any_cases_from (k + length (atoms_of n)) ns) ∙ cc

pub part_count_is : (k : ℕ) (ts : List Tree) → length (part_cases_from k ts) ≡ part_count ts
part_count_is k [] = refl
part_count_is k (t ∷ ts) =
    let e = count_is k t in
    let f = part_count_is (k + length (atoms_of t)) ts in
    length-joined (cases_from k t) (part_cases_from (k + length (atoms_of t)) ts) ∙ cc

empty : (cs : List Case) → length cs ≡ 0 → cs ≡ []
empty [] e = refl
empty (c ∷ cs) e = absurd (omega arith)

pub no_parts : (ts : List Tree) → part_count ts ≡ 0 → part_cases_from 0 ts ≡ []
no_parts ts e = empty (part_cases_from 0 ts) (part_count_is 0 ts ∙ e)

pub no_all : (k : ℕ) (ns : Trees) → all_count ns ≡ 0 → all_cases_from k ns ≡ []
no_all k ns e = empty (all_cases_from k ns) (all_count_is k ns ∙ e)

-- ---- loops

pub join_step : (hs : List (Vec ℕ Global)) (i : ℕ) (d : Vec ℕ Global) (out new ds all : List Case) → i < length hs → out ++ joined (lists (drop i hs)) ds ≡ all → new ≡ out ++ map (λ t. (get_or hs i d).items ++ t) ds → new ++ joined (lists (drop (i + 1) hs)) ds ≡ all
join_step hs i d out new ds all h e f =
    let g : joined (lists (drop i hs)) ds ≡ with_each (get_or hs i d).items ds ++ joined (lists (drop (i + 1) hs)) ds = rw (add-one, drop-cons hs i d h) refl in
    rw f (append_assoc out (with_each (get_or hs i d).items ds) (joined (lists (drop (i + 1) hs)) ds) ∙ ap (λ (l : List Case). out ++ l) (sym g) ∙ e)

pub join_end : (hs : List (Vec ℕ Global)) (i : ℕ) (out ds all : List Case) → length hs ≤ i → out ++ joined (lists (drop i hs)) ds ≡ all → out ≡ all
join_end hs i out ds all h e =
    let n : drop i hs ≡ [] = drop_of_length-le hs h in
    let f = rw n at e in
    sym (append-nil out) ∙ f

pub each_step : (ts : List (Vec ℕ Global)) (i : ℕ) (d : Vec ℕ Global) (out new all : List Case) (c : Case) → i < length ts → out ++ with_each c (lists (drop i ts)) ≡ all → new ≡ out ++ (c ++ (get_or ts i d).items) ∷ [] → new ++ with_each c (lists (drop (i + 1) ts)) ≡ all
each_step ts i d out new all c h e f =
    let g : with_each c (lists (drop i ts)) ≡ (c ++ (get_or ts i d).items) ∷ with_each c (lists (drop (i + 1) ts)) = rw (add-one, drop-cons ts i d h) refl in
    rw f (append_assoc out ((c ++ (get_or ts i d).items) ∷ []) (with_each c (lists (drop (i + 1) ts))) ∙ ap (λ (l : List Case). out ++ l) (sym g) ∙ e)

pub each_end : (ts : List (Vec ℕ Global)) (i : ℕ) (out all : List Case) (c : Case) → length ts ≤ i → out ++ with_each c (lists (drop i ts)) ≡ all → out ≡ all
each_end ts i out all c h e =
    let n : drop i ts ≡ [] = drop_of_length-le ts h in
    let f = rw n at e in
    sym (append-nil out) ∙ f

-- the cases so far with those of the parts from i on, whose first atom has the place k
pub record HasParts (ns : List Norm) (out : List Case) (i k : ℕ) : Type 0 where
  pub cases : joined out (part_cases_from k (map tree (drop i ns))) ≡ part_cases_from 0 (map tree ns)
  pub places : k + length (all_atoms (map tree (drop i ns))) ≡ length (all_atoms (map tree ns))

pub HasParts-none : (ns : List Norm) (out : List Case) → out ≡ [] ∷ [] → HasParts ns out 0 0
HasParts-none ns out e = record { cases = rw e (nothing_joined (part_cases_from 0 (map tree ns))); places = omega arith }

pub HasParts-more : (ns : List Norm) (out more new : List Case) (i k n : ℕ) (d : Norm) → i < length ns → HasParts ns out i k → more ≡ cases_from k (tree (get_or ns i d)) → new ≡ joined out more → n ≡ length (atoms_of (tree (get_or ns i d))) → HasParts ns new (i + 1) (k + n)
HasParts-more ns out more new i k n d h p e f g =
    let t = tree (get_or ns i d) in
    let split : drop i ns ≡ get_or ns i d ∷ drop (i + 1) ns = rw add-one (drop-cons ns i d h) in
    let rest = part_cases_from (k + length (atoms_of t)) (map tree (drop (i + 1) ns)) in
    let q = rw split at p.cases in
    let r = rw split at p.places in
    record {
      cases = rw (f, e, g) (sym (joined_assoc out (cases_from k t) rest) ∙ q);
      places = omega (arith, length-append (atoms_of t) (all_atoms (map tree (drop (i + 1) ns))));
    }

pub HasParts-all : (ns : List Norm) (out : List Case) (i k : ℕ) → length ns ≤ i → HasParts ns out i k → out ≡ part_cases_from 0 (map tree ns)
HasParts-all ns out i k h p =
    let n : drop i ns ≡ [] = drop_of_length-le ns h in
    let q = rw n at p.cases in
    sym (joined_nothing out) ∙ q

-- the places of a part are below the number of all atoms
pub HasParts-room : (ns : List Norm) (out : List Case) (i k : ℕ) (d : Norm) → i < length ns → HasParts ns out i k → k + length (atoms_of (tree (get_or ns i d))) ≤ length (all_atoms (map tree ns))
HasParts-room ns out i k d h p =
    let t = tree (get_or ns i d) in
    let split : drop i ns ≡ get_or ns i d ∷ drop (i + 1) ns = rw add-one (drop-cons ns i d h) in
    let r = rw split at p.places in
    omega (arith, length-append (atoms_of t) (all_atoms (map tree (drop (i + 1) ns))))

pub ruleset joining = (join_step, join_end, each_step, each_end)

pub ruleset parts = (HasParts-none, HasParts-more, HasParts-all, HasParts-room)
