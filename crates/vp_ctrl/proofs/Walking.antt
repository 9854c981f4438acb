-- Walks along ways: what is added to right sides, conditions and parts.
use Rattle.std.proofs.Common.{◌≡◌, ℕ, zero, suc, ◌+◌, ◌-◌, ◌<◌, ◌≤◌, nat_le, Bool, true, false, List, [], ◌∷◌, ◌++◌, length, map, take, drop, get_or, refl, sym, ap, subst, ◌∙◌, arith, append_assoc, append-nil}
use Rattle.std.specs.Prelude.{sum_by, Vec}
use Rattle.std.specs.declared.alloc.Global.{Global}
use Rattle.std.specs.List.{list_all, flat_map, range_with_len}
use Rattle.std.proofs.lemmas.List.{map_more, take_all}
use Rattle.std.proofs.lemmas.Bool.Decides.{nat_tests}
use Rattle.std.proofs.lemmas.List.Folds.{list_all-append}
use Rattle.std.proofs.lemmas.List.Sums.{sum_by-append}
use Rattle.std.proofs.lemmas.Grind.{flat_map-append}
use Rattle.vp_terms.specs.Places.{place_count}
use Rattle.vp_terms.specs.declared.expr.Places.{Places}
use Rattle.vp_terms.specs.declared.expr.Expr.{Expr}
use Rattle.vp_logic.specs.Tree.{Tree, tree}
use Rattle.vp_logic.specs.Sized.{IsSized, EachIsSized, TreeHasOnly, EachHasOnly}
use Rattle.vp_ctrl.specs.declared.ways.Step.{Step}
use Rattle.vp_ctrl.specs.declared.path.Path.{Path}
use Rattle.vp_ctrl.specs.declared.walk.Walk.{Walk}
use Rattle.vp_ctrl.specs.Steps.{move, moves, listed}
use Rattle.vp_ctrl.specs.Ways.{Move, Way}
use Rattle.vp_ctrl.specs.Following.{StandIns, at_first, after, after_all, Condition, right_side, right_sides, test, tests, equation, conditions}
use Rattle.vp_ctrl.specs.Widths.{is_small, condition_fits, condition_terms, are_narrow, all_right_sides, all_conditions}
use Rattle.vp_ctrl.specs.Paths.{AllowsPaths, IsPart, AreParts, ArePaths, EachPathHasOnly, EachPathIsSized, parts_of}
use Rattle.vp_ctrl.specs.Walked.{AreNarrow, WaysAreNarrow, HasParts, HasCome, HaveCome}
use Rattle.vp_ctrl.proofs.Truths.{both, both_true}

-- ---- narrow lists

pub not_both : (b : Bool) → b ≡ true → b ≡ false → ⊥
not_both true h k = absurd (cc)
not_both false h k = absurd (cc)

pub all_front : {A : Type 0} (t : A → Bool) (xs ys : List A) → list_all t (xs ++ ys) ≡ true → list_all t xs ≡ true
all_front t xs ys h = (both _ _ (sym (list_all-append t xs ys) ∙ h)).0

pub all_back : {A : Type 0} (t : A → Bool) (xs ys : List A) → list_all t (xs ++ ys) ≡ true → list_all t ys ≡ true
all_back t xs ys h = (both _ _ (sym (list_all-append t xs ys) ∙ h)).1

pub all_joined : {A : Type 0} (t : A → Bool) (xs ys : List A) → list_all t xs ≡ true → list_all t ys ≡ true → list_all t (xs ++ ys) ≡ true
all_joined t xs ys h k = list_all-append t xs ys ∙ both_true _ _ h k

at_most : (a b : ℕ) → nat_le a b ≡ true → a ≤ b
at_most a b h = grind (arith, nat_tests)

module _ (p : Places) where
  pub narrow_front : (rs qs : List Expr) (cs ds : List Condition) → AreNarrow p (rs ++ qs) (cs ++ ds) → AreNarrow p rs cs
  narrow_front rs qs cs ds h = record {
    small = all_front (is_small p) rs qs h.small;
    fit = all_front (condition_fits p) cs ds h.fit;
    few = let f = h.few in omega (arith, sum_by-append (condition_terms p) cs ds);
  }

  pub narrow_back : (rs qs : List Expr) (cs ds : List Condition) → AreNarrow p (rs ++ qs) (cs ++ ds) → AreNarrow p qs ds
  narrow_back rs qs cs ds h = record {
    small = all_back (is_small p) rs qs h.small;
    fit = all_back (condition_fits p) cs ds h.fit;
    few = let f = h.few in omega (arith, sum_by-append (condition_terms p) cs ds);
  }

  -- the test says so
  pub narrow_tested : (rs : List Expr) (cs : List Condition) → AreNarrow p rs cs → are_narrow p rs cs ≡ true
  narrow_tested rs cs h =
      let f = h.few in
      let few : nat_le (sum_by (condition_terms p) cs) 65536 ≡ true = grind (arith, nat_tests) in
      both_true _ _ h.small (both_true _ _ h.fit few)

  pub wide_tested : (rs : List Expr) (cs : List Condition) → (¬ AreNarrow p rs cs) → are_narrow p rs cs ≡ false
  wide_tested rs cs h = cases (are_narrow p rs cs) refl
    where
      narrow : are_narrow p rs cs ≡ true → AreNarrow p rs cs
      narrow e =
          let s = both (list_all (is_small p) rs) _ e in
          let t = both (list_all (condition_fits p) cs) _ s.1 in
          let k : nat_le (sum_by (condition_terms p) cs) 65536 ≡ true = t.1 in
          record { small = s.0; fit = t.0; few = at_most _ _ k }

      cases : (b : Bool) → are_narrow p rs cs ≡ b → are_narrow p rs cs ≡ false
      cases true e = absurd (h (narrow e))
      cases false e = e

  pub narrow_none : AreNarrow p [] []
  narrow_none = record { small = refl; fit = refl; few = omega arith }

  -- one more right side
  pub narrow_side : (rs : List Expr) (cs : List Condition) (e : Expr) → AreNarrow p rs cs → is_small p e ≡ true → AreNarrow p (rs ++ e ∷ []) cs
  narrow_side rs cs e h k = record { small = all_joined (is_small p) rs (e ∷ []) h.small (both_true _ _ k refl); fit = h.fit; few = h.few }

  pub wide_side : (rs : List Expr) (cs : List Condition) (e : Expr) → is_small p e ≡ false → ¬ AreNarrow p (rs ++ e ∷ []) cs
  wide_side rs cs e k h = not_both (is_small p e) (both (is_small p e) true (all_back (is_small p) rs (e ∷ []) h.small)).0 k

  -- one more condition
  pub narrow_condition : (rs : List Expr) (cs : List Condition) (c : Condition) (t n : ℕ) → AreNarrow p rs cs → condition_fits p c ≡ true → t ≡ sum_by (condition_terms p) cs → t + condition_terms p c ≤ 65536 → AreNarrow p rs (cs ++ c ∷ [])
  narrow_condition rs cs c t n h k e l = record {
    small = h.small;
    fit = all_joined (condition_fits p) cs (c ∷ []) h.fit (both_true _ _ k refl);
    few = omega (arith, sum_by-append (condition_terms p) cs (c ∷ []));
  }

  pub wide_condition : (rs : List Expr) (cs : List Condition) (c : Condition) → condition_fits p c ≡ false → ¬ AreNarrow p rs (cs ++ c ∷ [])
  wide_condition rs cs c k h = not_both (condition_fits p c) (both (condition_fits p c) true (all_back (condition_fits p) cs (c ∷ []) h.fit)).0 k

  pub many_terms : (rs : List Expr) (cs : List Condition) (c : Condition) (t : ℕ) → t ≡ sum_by (condition_terms p) cs → 65536 < t + condition_terms p c → ¬ AreNarrow p rs (cs ++ c ∷ [])
  many_terms rs cs c t e l h = let f = h.few in absurd (omega (arith, sum_by-append (condition_terms p) cs (c ∷ [])))

  -- ---- parts

  pub AreParts-more : (cs : List Condition) (ts : List Tree) (c : Condition) (t : Tree) → AreParts p cs ts → IsPart p c t → AreParts p (cs ++ c ∷ []) (ts ++ t ∷ [])
  AreParts-more [] [] c t h k = (k, tt)
  AreParts-more [] (u ∷ ts) c t h k = absurd h
  AreParts-more (d ∷ cs) [] c t h k = absurd h
  AreParts-more (d ∷ cs) (u ∷ ts) c t h k = (h.0, AreParts-more cs ts c t h.1 k)

  sized-more : (n : ℕ) (ts : List Tree) (t : Tree) → EachIsSized n ts → IsSized n t → EachIsSized n (ts ++ t ∷ [])
  sized-more n [] t h k = (k, tt)
  sized-more n (u ∷ ts) t h k = (h.0, sized-more n ts t h.1 k)

  only-more : (allowed : ℕ → Bool) (ts : List Tree) (t : Tree) → EachHasOnly allowed ts → TreeHasOnly allowed t → EachHasOnly allowed (ts ++ t ∷ [])
  only-more allowed [] t h k = (k, tt)
  only-more allowed (u ∷ ts) t h k = (h.0, only-more allowed ts t h.1 k)

  pub HasParts-none : HasParts p [] []
  HasParts-none = record { are = tt; sized = tt; only = λ allowed a. tt }

  pub HasParts-more : (cs : List Condition) (ts : List Tree) (c : Condition) (t : Tree) → HasParts p cs ts → IsPart p c t → IsSized (place_count p) t → ((allowed : ℕ → Bool) → AllowsPaths p allowed → TreeHasOnly allowed t) → HasParts p (cs ++ c ∷ []) (ts ++ t ∷ [])
  HasParts-more cs ts c t h i s o = record {
    are = AreParts-more cs ts c t h.are i;
    sized = sized-more (place_count p) ts t h.sized s;
    only = λ allowed a. only-more allowed ts t (h.only allowed a) (o allowed a);
  }

-- ---- one more move

pub after-more : (w : Way) (s : StandIns) (m : Move) → after_all s (w ++ m ∷ []) ≡ after (after_all s w) m
after-more [] s m = refl
after-more (n ∷ w) s m = after-more w (after s n) m

pub sides-both : (w v : Way) (s : StandIns) → right_sides s (w ++ v) ≡ right_sides s w ++ right_sides (after_all s w) v
sides-both [] v s = refl
sides-both (n ∷ w) v s = ap (λ (l : List Expr). right_side s n ++ l) (sides-both w v (after s n)) ∙ sym (append_assoc (right_side s n) (right_sides (after s n) w) (right_sides (after_all (after s n) w) v))

pub tests-both : (w v : Way) (s : StandIns) → tests s (w ++ v) ≡ tests s w ++ tests (after_all s w) v
tests-both [] v s = refl
tests-both (n ∷ w) v s = ap (λ (l : List Condition). test s n ++ l) (tests-both w v (after s n)) ∙ sym (append_assoc (test s n) (tests (after s n) w) (tests (after_all (after s n) w) v))

pub sides-more : (w : Way) (s : StandIns) (m : Move) → right_sides s (w ++ m ∷ []) ≡ right_sides s w ++ right_side (after_all s w) m
sides-more w s m = sides-both w (m ∷ []) s ∙ ap (λ (l : List Expr). right_sides s w ++ l) (append-nil (right_side (after_all s w) m))

pub tests-more : (w : Way) (s : StandIns) (m : Move) → tests s (w ++ m ∷ []) ≡ tests s w ++ test (after_all s w) m
tests-more w s m = tests-both w (m ∷ []) s ∙ ap (λ (l : List Condition). tests s w ++ l) (append-nil (test (after_all s w) m))

-- a list is its front and its rest
pub front_and_rest : {A : Type 0} (xs : List A) (n : ℕ) → xs ≡ take n xs ++ drop n xs
front_and_rest [] zero = refl
front_and_rest [] (suc n) = refl
front_and_rest (x ∷ xs) zero = refl
front_and_rest (x ∷ xs) (suc n) = ap (λ (l : List _). x ∷ l) (front_and_rest xs n)

pub moves_apart : (ss : List Step) (n : ℕ) → moves ss ≡ moves (take n ss) ++ moves (drop n ss)
moves_apart ss n = ap moves (front_and_rest ss n) ∙ each (take n ss) (drop n ss)
  where
    each : (xs ys : List Step) → moves (xs ++ ys) ≡ moves xs ++ moves ys
    each [] ys = refl
    each (x ∷ xs) ys = ap (λ (l : Way). move x ∷ l) (each xs ys)

-- the statements up to one more
pub moves_more : (ss : List Step) (i : ℕ) (d : Step) → i < length ss → moves (take (i + 1) ss) ≡ moves (take i ss) ++ move (get_or ss i d) ∷ []
moves_more ss i d h = map_more move ss i d h

-- ---- along the statements of a way

module _ (p : Places) (way : List Step) where
  -- the walk has come along the first i statements
  pub record CameBy (i : ℕ) (walk : Walk) : Type 0 where
    pub come : HasCome p walk (after_all at_first (moves (take i way))) (right_sides at_first (moves (take i way))) (tests at_first (moves (take i way)))

  pub CameBy-more : (i : ℕ) (d : Step) (walk : Walk) → i < length way → (let w = moves (take i way) in let s = after_all at_first w in let m = move (get_or way i d) in HasCome p walk (after s m) (right_sides at_first w ++ right_side s m) (tests at_first w ++ test s m)) → CameBy (i + 1) walk
  CameBy-more i d walk h k =
      let w = moves (take i way) in
      let m = move (get_or way i d) in record {
        come = rw (moves_more way i d h, after-more w at_first m, sides-more w at_first m, tests-more w at_first m) k;
      }

  pub CameBy-all : (i : ℕ) (walk : Walk) → length way ≤ i → CameBy i walk → HasCome p walk (after_all at_first (moves way)) (right_sides at_first (moves way)) (tests at_first (moves way))
  CameBy-all i walk h k = let e : take i way ≡ way = take_all i way h in rw e at k.come

  -- the walk is too wide at a statement
  pub wide_by : (n i : ℕ) (d : Step) → i < length way → (let w = moves (take i way) in let s = after_all at_first w in let m = move (get_or way i d) in ¬ AreNarrow p (right_sides at_first w ++ right_side s m) (tests at_first w ++ test s m)) → ¬ AreNarrow p (right_sides at_first (moves way)) (conditions n (moves way))
  wide_by n i d h k a =
      let w = moves (take i way) in
      let m = move (get_or way i d) in
      let rest = moves (drop (i + 1) way) in
      let all : moves way ≡ (w ++ m ∷ []) ++ rest = moves_apart way (i + 1) ∙ ap (λ (l : Way). l ++ rest) (moves_more way i d h) in
      let sides : right_sides at_first (moves way) ≡ (right_sides at_first w ++ right_side (after_all at_first w) m) ++ right_sides (after_all at_first (w ++ m ∷ [])) rest =
      ap (right_sides at_first) all ∙ sides-both (w ++ m ∷ []) rest at_first ∙ ap (λ (l : List Expr). l ++ right_sides (after_all at_first (w ++ m ∷ [])) rest) (sides-more w at_first m) in
      let those : tests at_first (moves way) ≡ (tests at_first w ++ test (after_all at_first w) m) ++ tests (after_all at_first (w ++ m ∷ [])) rest =
      ap (tests at_first) all ∙ tests-both (w ++ m ∷ []) rest at_first ∙ ap (λ (l : List Condition). l ++ tests (after_all at_first (w ++ m ∷ [])) rest) (tests-more w at_first m) in
      let ends = flat_map (equation (after_all at_first (moves way)) (moves way)) (range_with_len 0 n) in
      let b : AreNarrow p (right_sides at_first (moves way)) (tests at_first (moves way)) = narrow_front p (right_sides at_first (moves way)) [] (tests at_first (moves way)) ends (rw append-nil a) in
      let P : List Expr → List Condition → Type 0 = λ r c. AreNarrow p r c in
      let q = subst (λ (r : List Expr). P r (tests at_first (moves way))) sides b in
      let t = subst (λ (c : List Condition). P ((right_sides at_first w ++ right_side (after_all at_first w) m) ++ right_sides (after_all at_first (w ++ m ∷ [])) rest) c) those q in
      k (narrow_front p _ _ _ _ t)

-- ---- along the equations at the end

range_apart : (n m a : ℕ) → range_with_len a (n + m) ≡ range_with_len a n ++ range_with_len (a + n) m
range_apart zero m a = let e : zero + m ≡ m = omega arith in let f : a + zero ≡ a = omega arith in rw (e, f) refl
range_apart (suc n) m a =
    let e : suc n + m ≡ suc (n + m) = omega arith in
    let f : a + suc n ≡ a + 1 + n = omega arith in
    rw (e, f) (ap (λ (l : List ℕ). a ∷ l) (range_apart n m (a + 1)))

module _ (p : Places) (w : Way) where
  -- the conditions with the equations of the first n controls
  abbrev pub up_to : ℕ → List Condition
  up_to n = tests at_first w ++ flat_map (equation (after_all at_first w) w) (range_with_len 0 n)

  up_to-apart : (n m : ℕ) → up_to (n + m) ≡ up_to n ++ flat_map (equation (after_all at_first w) w) (range_with_len n m)
  up_to-apart n m =
      let g = equation (after_all at_first w) w in
      let e : 0 + n ≡ n = omega arith in
      ap (λ (l : List ℕ). tests at_first w ++ flat_map g l) (range_apart n m 0)
      ∙ ap (λ (l : List Condition). tests at_first w ++ l) (flat_map-append g (range_with_len 0 n) (range_with_len (0 + n) m))
      ∙ sym (append_assoc (tests at_first w) (flat_map g (range_with_len 0 n)) (flat_map g (range_with_len (0 + n) m)))
      ∙ ap (λ (k : ℕ). up_to n ++ flat_map g (range_with_len k m)) e

  up_to-more : (n : ℕ) → up_to (n + 1) ≡ up_to n ++ equation (after_all at_first w) w n
  up_to-more n = up_to-apart n 1 ∙ ap (λ (l : List Condition). up_to n ++ l) (append-nil (equation (after_all at_first w) w n))

  -- the walk has come through the equations of the first n controls
  pub record Ended (n : ℕ) (walk : Walk) : Type 0 where
    pub come : HasCome p walk (after_all at_first w) (right_sides at_first w) (up_to n)

  pub Ended-none : (walk : Walk) → HasCome p walk (after_all at_first w) (right_sides at_first w) (tests at_first w) → Ended 0 walk
  Ended-none walk h = record { come = rw append-nil h }

  pub Ended-more : (n : ℕ) (walk : Walk) → HasCome p walk (after_all at_first w) (right_sides at_first w) (up_to n ++ equation (after_all at_first w) w n) → Ended (n + 1) walk
  Ended-more n walk h = record { come = rw (up_to-more n) h }

  pub wide_end : (n k : ℕ) → k < n → (¬ AreNarrow p (right_sides at_first w) (up_to k ++ equation (after_all at_first w) w k)) → ¬ AreNarrow p (right_sides at_first w) (conditions n w)
  wide_end n k h f a =
      let e : n ≡ k + 1 + (n - (k + 1)) = omega arith in
      let g = equation (after_all at_first w) w in
      let split : up_to n ≡ (up_to k ++ g k) ++ flat_map g (range_with_len (k + 1) (n - (k + 1))) =
      ap up_to e ∙ up_to-apart (k + 1) (n - (k + 1)) ∙ ap (λ (l : List Condition). l ++ flat_map g (range_with_len (k + 1) (n - (k + 1)))) (up_to-more k) in
      let P : List Condition → Type 0 = λ c. AreNarrow p (right_sides at_first w) c in
      let b = subst P split a in
      f (narrow_front p (right_sides at_first w) [] (up_to k ++ g k) (flat_map g (range_with_len (k + 1) (n - (k + 1)))) (rw append-nil b))

-- ---- all ways

module _ (p : Places) where
  ArePaths-more : (ws : List Way) (xs : List Path) (w : Way) (x : Path) → ArePaths p ws xs → AreParts p (conditions p.controls w) (parts_of x) → ArePaths p (ws ++ w ∷ []) (xs ++ x ∷ [])
  ArePaths-more [] [] w x h k = (k, tt)
  ArePaths-more [] (y ∷ xs) w x h k = absurd h
  ArePaths-more (v ∷ ws) [] w x h k = absurd h
  ArePaths-more (v ∷ ws) (y ∷ xs) w x h k = (h.0, ArePaths-more ws xs w x h.1 k)

  EachPathHasOnly-more : (allowed : ℕ → Bool) (xs : List Path) (x : Path) → EachPathHasOnly allowed xs → EachHasOnly allowed (parts_of x) → EachPathHasOnly allowed (xs ++ x ∷ [])
  EachPathHasOnly-more allowed [] x h k = (k, tt)
  EachPathHasOnly-more allowed (y ∷ xs) x h k = (h.0, EachPathHasOnly-more allowed xs x h.1 k)

  EachPathIsSized-more : (n : ℕ) (xs : List Path) (x : Path) → EachPathIsSized n xs → EachIsSized n (parts_of x) → EachPathIsSized n (xs ++ x ∷ [])
  EachPathIsSized-more n [] x h k = (k, tt)
  EachPathIsSized-more n (y ∷ xs) x h k = (h.0, EachPathIsSized-more n xs x h.1 k)

  -- the paths of the first i ways, whose comparisons have so many terms
  pub record HaveComeBy (ways : List (Vec Step Global)) (i : ℕ) (paths : List Path) (terms : ℕ) : Type 0 where
    pub come : HaveCome p (listed (take i ways)) paths
    pub count : terms ≡ sum_by (condition_terms p) (all_conditions p (listed (take i ways)))

  pub HaveComeBy-none : (ways : List (Vec Step Global)) (paths : List Path) → paths ≡ [] → HaveComeBy ways 0 paths 0
  HaveComeBy-none ways paths e = rw e (record { come = record { are = tt; sized = tt; only = λ allowed a. tt; narrow = narrow_none p }; count = refl })

  listed_more : (ways : List (Vec Step Global)) (i : ℕ) (d : Vec Step Global) → i < length ways → listed (take (i + 1) ways) ≡ listed (take i ways) ++ moves (get_or ways i d).items ∷ []
  listed_more ways i d h = map_more (λ v. moves v.items) ways i d h

  sides_more : (ws : List Way) (w : Way) → all_right_sides (ws ++ w ∷ []) ≡ all_right_sides ws ++ right_sides at_first w
  sides_more ws w = flat_map-append (right_sides at_first) ws (w ∷ []) ∙ ap (λ (l : List Expr). all_right_sides ws ++ l) (append-nil (right_sides at_first w))

  conditions_more : (ws : List Way) (w : Way) → all_conditions p (ws ++ w ∷ []) ≡ all_conditions p ws ++ conditions p.controls w
  conditions_more ws w = flat_map-append (conditions p.controls) ws (w ∷ []) ∙ ap (λ (l : List Condition). all_conditions p ws ++ l) (append-nil (conditions p.controls w))

  narrow_both : (rs qs : List Expr) (cs ds : List Condition) → AreNarrow p rs cs → AreNarrow p qs ds → sum_by (condition_terms p) cs + sum_by (condition_terms p) ds ≤ 65536 → AreNarrow p (rs ++ qs) (cs ++ ds)
  narrow_both rs qs cs ds h k l = record {
    small = all_joined (is_small p) rs qs h.small k.small;
    fit = all_joined (condition_fits p) cs ds h.fit k.fit;
    few = omega (arith, sum_by-append (condition_terms p) cs ds);
  }

  pub HaveComeBy-more : (ways : List (Vec Step Global)) (i : ℕ) (d : Vec Step Global) (paths new : List Path) (terms all : ℕ) (x : Path) (walk : Walk) → i < length ways → HaveComeBy ways i paths terms → (let w = moves (get_or ways i d).items in HasCome p walk (after_all at_first w) (right_sides at_first w) (conditions p.controls w)) → parts_of x ≡ map tree walk.parts.items → all ≡ terms + walk.terms → all ≤ 65536 → new ≡ paths ++ x ∷ [] → HaveComeBy ways (i + 1) new all
  HaveComeBy-more ways i d paths new terms all x walk h k c e f l g =
      let ws = listed (take i ways) in
      let w = moves (get_or ways i d).items in
      let t = c.terms in
      let q = k.count in
      let few : sum_by (condition_terms p) (all_conditions p ws) + sum_by (condition_terms p) (conditions p.controls w) ≤ 65536 = omega arith in
      let P : List Path → List Way → Type 0 = λ xs vs. HaveCome p vs xs in
      let come : HaveCome p (ws ++ w ∷ []) (paths ++ x ∷ []) = record {
        are = ArePaths-more ws paths w x k.come.are (rw e c.parts.are);
        sized = EachPathIsSized-more (place_count p) paths x k.come.sized (rw e c.parts.sized);
        only = λ allowed a. EachPathHasOnly-more allowed paths x (k.come.only allowed a) (rw e (c.parts.only allowed a));
        narrow = rw (sides_more ws w, conditions_more ws w) (narrow_both (all_right_sides ws) (right_sides at_first w) (all_conditions p ws) (conditions p.controls w) k.come.narrow c.narrow few);
      } in
      let count : all ≡ sum_by (condition_terms p) (all_conditions p (ws ++ w ∷ [])) = rw (conditions_more ws w) (omega (arith, sum_by-append (condition_terms p) (all_conditions p ws) (conditions p.controls w))) in record {
        come = subst (λ (xs : List Path). P xs (listed (take (i + 1) ways))) (sym g) (subst (λ (vs : List Way). P (paths ++ x ∷ []) vs) (sym (listed_more ways i d h)) come);
        count = subst (λ (vs : List Way). all ≡ sum_by (condition_terms p) (all_conditions p vs)) (sym (listed_more ways i d h)) count;
      }

  pub HaveComeBy-all : (ways : List (Vec Step Global)) (i : ℕ) (paths : List Path) (terms : ℕ) → length ways ≤ i → HaveComeBy ways i paths terms → HaveCome p (listed ways) paths
  HaveComeBy-all ways i paths terms h k = let e : take i ways ≡ ways = take_all i ways h in rw e at k.come

  -- the first ways up to one are too wide
  listed_apart : (ways : List (Vec Step Global)) (n : ℕ) → listed ways ≡ listed (take n ways) ++ listed (drop n ways)
  listed_apart ways n = ap listed (front_and_rest ways n) ∙ each (take n ways) (drop n ways)
    where
      each : (xs ys : List (Vec Step Global)) → listed (xs ++ ys) ≡ listed xs ++ listed ys
      each [] ys = refl
      each (x ∷ xs) ys = ap (λ (l : List Way). moves x.items ∷ l) (each xs ys)

  narrow_ways : (ways : List (Vec Step Global)) (i : ℕ) (d : Vec Step Global) → i < length ways → WaysAreNarrow p (listed ways) → (let ws = listed (take i ways) in let w = moves (get_or ways i d).items in AreNarrow p (all_right_sides ws ++ right_sides at_first w) (all_conditions p ws ++ conditions p.controls w))
  narrow_ways ways i d h a =
      let ws = listed (take i ways) in
      let w = moves (get_or ways i d).items in
      let rest = listed (drop (i + 1) ways) in
      let all : listed ways ≡ (ws ++ w ∷ []) ++ rest = listed_apart ways (i + 1) ∙ ap (λ (l : List Way). l ++ rest) (listed_more ways i d h) in
      let b : WaysAreNarrow p ((ws ++ w ∷ []) ++ rest) = subst (WaysAreNarrow p) all a in
      let c = rw (flat_map-append (right_sides at_first) (ws ++ w ∷ []) rest, flat_map-append (conditions p.controls) (ws ++ w ∷ []) rest) at b in
      let e = narrow_front p (all_right_sides (ws ++ w ∷ [])) (all_right_sides rest) (all_conditions p (ws ++ w ∷ [])) (all_conditions p rest) c in
      rw (sides_more ws w, conditions_more ws w) at e

  pub wide_way : (ways : List (Vec Step Global)) (i : ℕ) (d : Vec Step Global) → i < length ways → (let w = moves (get_or ways i d).items in ¬ AreNarrow p (right_sides at_first w) (conditions p.controls w)) → ¬ WaysAreNarrow p (listed ways)
  wide_way ways i d h f a =
      let ws = listed (take i ways) in
      let w = moves (get_or ways i d).items in
      f (narrow_back p (all_right_sides ws) (right_sides at_first w) (all_conditions p ws) (conditions p.controls w) (narrow_ways ways i d h a))

  pub wide_sum : (ways : List (Vec Step Global)) (i : ℕ) (d : Vec Step Global) (paths : List Path) (terms : ℕ) (walk : Walk) → i < length ways → HaveComeBy ways i paths terms → (let w = moves (get_or ways i d).items in HasCome p walk (after_all at_first w) (right_sides at_first w) (conditions p.controls w)) → 65536 < terms + walk.terms → ¬ WaysAreNarrow p (listed ways)
  wide_sum ways i d paths terms walk h k c l a =
      let ws = listed (take i ways) in
      let w = moves (get_or ways i d).items in
      let b = (narrow_ways ways i d h a).few in
      let q = k.count in
      let t = c.terms in
      absurd (omega (arith, sum_by-append (condition_terms p) (all_conditions p ws) (conditions p.controls w)))
