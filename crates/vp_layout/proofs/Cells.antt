-- Words in cells, and boxes in homes.
use Rattle.std.proofs.Common.{◌≡◌, true, ℕ, zero, suc, ◌+◌, ◌*◌, ◌-◌, ◌<◌, ◌≤◌, List, [], ◌∷◌, ◌++◌, length, map, take, drop, get_or, refl, sym, ap, ◌∙◌, subst, arith, append_assoc, length-append, length-drop}
use Rattle.std.specs.Prelude.{ℤ, pos, slice_set, replicate}
use Rattle.std.proofs.lemmas.List.{get_or_append_left, get_or-append_right, get_or-append-add, get_or-take, get_or-drop, length-take, length-map, map-append, drop_more}
use Rattle.std.proofs.Math.Seq.{set-append_seam}
use Rattle.vp_isa.specs.Machine.{cell}
use Rattle.vp_isa.specs.Block.{after, are_plain}
use Rattle.vp_interval.specs.Rounding.{Ends, point}
use Rattle.vp_sandbox.specs.Boxes.{boxes_of, placed}
use Rattle.vp_layout.specs.declared.home.Home.{Home}
use Rattle.vp_layout.specs.Homes.{box_at, boxes_in, pair_homes, point_homes}
use Rattle.vp_layout.specs.Blocks.{copies}
use Rattle.vp_layout.specs.Cells.{StandAt, Within}
use Rattle.vp_layout.proofs.Writes.{wrote}
use Rattle.vp_layout.proofs.Kept.{both, boxed}

pub within_none : (lo hi : ℕ) (c : List ℤ) → Within lo hi c c
within_none lo hi c = record { same_length = refl; low = λ i h. refl; high = λ i h. refl }

pub stand_same : (c c' : List ℤ) (at : ℕ) (ws : List ℤ) → ((i : ℕ) → at ≤ i → i < at + length ws → cell c' i ≡ cell c i) → StandAt c at ws → StandAt c' at ws
stand_same c c' at [] same h = tt
stand_same c c' at (w ∷ ws) same h =
    (same at (omega arith) (omega arith) ∙ h.0, stand_same c c' (at + 1) ws (λ i le lt. same i (omega arith) (omega arith)) h.1)

-- words by their places
pub stand_by : (c : List ℤ) (at : ℕ) (ws : List ℤ) → ((i : ℕ) → i < length ws → cell c (at + i) ≡ get_or ws i (pos 0)) → StandAt c at ws
stand_by c at [] h = tt
stand_by c at (w ∷ ws) h =
    let here : at ≡ at + 0 = omega arith in
    (ap (cell c) here ∙ h 0 (omega arith), stand_by c (at + 1) ws (λ i lt. ap (cell c) (omega arith) ∙ h (suc i) (omega arith)))

-- what a TAKE does to the cells
pub spliced_words : (c ws : List ℤ) (d : ℕ) → d + length ws ≤ length c → StandAt (take d c ++ ws ++ drop (d + length ws) c) d ws
spliced_words c ws d h =
    let front : length (take d c) ≡ d = simp length-take (omega arith) in
    let both_ : length (take d c ++ ws) ≡ d + length ws = omega (arith, length-append (take d c) ws, front) in
    stand_by _ d ws (λ i lt.
    let at : d + i ≡ length (take d c) + i = omega (arith, front) in
    let lt' : d + i < length (take d c ++ ws) = omega (arith, both_) in
    get_or_append_left (take d c ++ ws) (drop (d + length ws) c) (pos 0) (d + i) lt'
    ∙ ap (cell (take d c ++ ws)) at
    ∙ get_or-append-add (take d c) ws i (pos 0))

pub spliced_within : (c ws : List ℤ) (d : ℕ) → d + length ws ≤ length c → Within d (d + length ws) c (take d c ++ ws ++ drop (d + length ws) c)
spliced_within c ws d h =
    let front : length (take d c) ≡ d = simp length-take (omega arith) in
    let both_ : length (take d c ++ ws) ≡ d + length ws = omega (arith, length-append (take d c) ws, front) in
    record {
      same_length = simp (length-append, length-take, length-drop) (omega arith);
      low = λ i lt.
          let lt1 : i < length (take d c) = omega (arith, front) in
          let lt2 : i < length (take d c ++ ws) = omega (arith, both_) in
          get_or_append_left (take d c ++ ws) (drop (d + length ws) c) (pos 0) i lt2
          ∙ get_or_append_left (take d c) ws (pos 0) i lt1 ∙ get_or-take d c i (pos 0) lt;
      high = λ i le.
          let e : d + length ws + (i - (d + length ws)) ≡ i = omega arith in
          get_or-append_right (take d c ++ ws) (drop (d + length ws) c) (d + length ws) i (pos 0) both_ le
          ∙ get_or-drop (d + length ws) c (i - (d + length ws)) (pos 0) ∙ ap (cell c) e;
    }

-- copies of words to other cells
pub copied_within : (c : List ℤ) (to from n : ℕ) → to + n ≤ length c → Within to (to + n) c (after (copies to from n) c)
copied_within c to from zero h = within_none to (to + 0) c
copied_within c to from (suc n) h =
    let c1 = slice_set c to (cell c from) in
    let one = wrote c to (cell c from) (omega arith) in
    let len : length c1 ≡ length c = one.same_length in
    let rest = copied_within c1 (to + 1) (from + 1) n (omega (arith, len)) in
    record {
      same_length = rest.same_length ∙ len;
      low = λ i lt. rest.low i (omega arith) ∙ one.others i (omega arith);
      high = λ i le. rest.high i (omega arith) ∙ one.others i (omega arith);
    }

pub copied_words : (c : List ℤ) (to from : ℕ) (ws : List ℤ) → to + length ws ≤ from → from + length ws ≤ length c → StandAt c from ws
    → StandAt (after (copies to from (length ws)) c) to ws
copied_words c to from [] apart room h = tt
copied_words c to from (w ∷ ws) apart room h =
    let c1 = slice_set c to (cell c from) in
    let one = wrote c to (cell c from) (omega arith) in
    let len : length c1 ≡ length c = one.same_length in
    let kept : StandAt c1 (from + 1) ws = stand_same c c1 (from + 1) ws (λ i le lt. one.others i (omega arith)) h.1 in
    let within = copied_within c1 (to + 1) (from + 1) (length ws) (omega (arith, len)) in
    (within.low to (omega arith) ∙ one.here ∙ h.0, copied_words c1 (to + 1) (from + 1) ws (omega arith) (omega (arith, len)) kept)

-- words that stand from a cell on are a piece of the cells
pub stand_take : (c : List ℤ) (at : ℕ) (ws : List ℤ) → at + length ws ≤ length c → StandAt c at ws → take (length ws) (drop at c) ≡ ws
stand_take c at [] room h = refl
stand_take c at (w ∷ ws) room h =
    let more : drop at c ≡ cell c at ∷ drop (at + 1) c = drop_more c at (pos 0) (omega arith) in
    ap (take (suc (length ws))) more ∙ both cons h.0 (stand_take c (at + 1) ws (omega arith) h.1)
  where
    cons : ℤ → List ℤ → List ℤ
    cons x xs = x ∷ xs

-- Boxes in homes.

abbrev cons_box : Ends → List Ends → List Ends
cons_box x xs = x ∷ xs

pub pairs_same : (c c' : List ℤ) (at n : ℕ) → ((i : ℕ) → at ≤ i → i < at + 2 * n → cell c' i ≡ cell c i) → boxes_in c' (pair_homes at n) ≡ boxes_in c (pair_homes at n)
pairs_same c c' at zero same = refl
pairs_same c c' at (suc n) same =
    both cons_box (both boxed (same at (omega arith) (omega arith)) (same (at + 1) (omega arith) (omega arith)))
    (pairs_same c c' (at + 2) n (λ i le lt. same i (omega arith) (omega arith)))

pub points_same : (c c' : List ℤ) (at n : ℕ) → ((i : ℕ) → at ≤ i → i < at + n → cell c' i ≡ cell c i) → boxes_in c' (point_homes at n) ≡ boxes_in c (point_homes at n)
points_same c c' at zero same = refl
points_same c c' at (suc n) same =
    both cons_box (both boxed (same at (omega arith) (omega arith)) (same at (omega arith) (omega arith)))
    (points_same c c' (at + 1) n (λ i le lt. same i (omega arith) (omega arith)))

pub repeated_same : (c c' : List ℤ) (h : Home) (n : ℕ) → box_at c' h ≡ box_at c h → boxes_in c' (replicate n h) ≡ boxes_in c (replicate n h)
repeated_same c c' h zero same = refl
repeated_same c c' h (suc n) same = both cons_box same (repeated_same c c' h n same)

pub joined_same : (c c' : List ℤ) (A B : List Home) → boxes_in c' A ≡ boxes_in c A → boxes_in c' B ≡ boxes_in c B → boxes_in c' (A ++ B) ≡ boxes_in c (A ++ B)
joined_same c c' A B e f = map-append (box_at c') A B ∙ both (λ x y. x ++ y) e f ∙ sym (map-append (box_at c) A B)

-- the boxes of words
pub points_read : (c : List ℤ) (at n : ℕ) (ws : List ℤ) → length ws ≡ n → StandAt c at ws → boxes_in c (point_homes at n) ≡ map point ws
points_read c at zero [] e h = refl
points_read c at zero (w ∷ ws) e h = absurd (omega arith)
points_read c at (suc n) [] e h = absurd (omega arith)
points_read c at (suc n) (w ∷ ws) e h = both cons_box (ap point h.0) (points_read c (at + 1) n ws (omega arith) h.1)

pub pairs_read : (c : List ℤ) (at n k : ℕ) (ws : List ℤ) → length ws ≡ 2 * n + k → StandAt c at ws
    → boxes_in c (pair_homes at n ++ point_homes (at + 2 * n) k) ≡ boxes_of n ws
pairs_read c at zero k ws e h =
    let here : at + 2 * 0 ≡ at = omega arith in
    rw here (points_read c at k ws (omega arith) h)
pairs_read c at (suc n) k [] e h = absurd (omega arith)
pairs_read c at (suc n) k (lo ∷ []) e h = absurd (omega arith)
pairs_read c at (suc n) k (lo ∷ hi ∷ ws) e h =
    let next : at + 1 + 1 ≡ at + 2 = omega arith in
    let there : at + 2 * suc n ≡ at + 2 + 2 * n = omega arith in
    rw there (both cons_box (both boxed h.0 h.1.0) (pairs_read c (at + 2) n k ws (omega arith) (subst (λ a. StandAt c a ws) next h.1.1)))

-- new boxes in the middle
pub placed_between : (X Y Z vs : List Ends) → length vs ≡ length Y → placed (length X) vs (X ++ (Y ++ Z)) ≡ X ++ (vs ++ Z)
placed_between X [] Z [] e = refl
placed_between X (y ∷ Y) Z [] e = absurd (omega arith)
placed_between X [] Z (v ∷ vs) e = absurd (omega arith)
placed_between X (y ∷ Y) Z (v ∷ vs) e =
    let len : length (X ++ v ∷ []) ≡ suc (length X) = length-append X (v ∷ []) ∙ omega arith in
    let front : (xs : List Ends) → (X ++ v ∷ []) ++ xs ≡ X ++ (v ∷ xs) = λ xs. append_assoc X (v ∷ []) xs in
    ap (placed (suc (length X)) vs) (set-append_seam X y (Y ++ Z) v ∙ sym (front (Y ++ Z)))
    ∙ ap (λ k. placed k vs ((X ++ v ∷ []) ++ (Y ++ Z))) (sym len)
    ∙ placed_between (X ++ v ∷ []) Y Z vs (omega arith) ∙ front (vs ++ Z)

-- the boxes where those of the homes in the middle are new
pub placed_homes : (c c' : List ℤ) (A B C : List Home) (k : ℕ) (vs : List Ends) → k ≡ length A
    → boxes_in c' A ≡ boxes_in c A → boxes_in c' B ≡ vs → boxes_in c' C ≡ boxes_in c C
    → boxes_in c' (A ++ (B ++ C)) ≡ placed k vs (boxes_in c (A ++ (B ++ C)))
placed_homes c c' A B C k vs place front here back =
    let X = boxes_in c A in
    let Y = boxes_in c B in
    let Z = boxes_in c C in
    let size : length vs ≡ length Y = ap length (sym here) ∙ length-map B (box_at c') ∙ sym (length-map B (box_at c)) in
    let at : k ≡ length X = place ∙ sym (length-map A (box_at c)) in
    let split : (c : List ℤ) → boxes_in c (A ++ (B ++ C)) ≡ boxes_in c A ++ (boxes_in c B ++ boxes_in c C) =
    λ c. map-append (box_at c) A (B ++ C) ∙ ap (λ t. boxes_in c A ++ t) (map-append (box_at c) B C) in
    split c' ∙ both (λ x y. x ++ y) front (both (λ x y. x ++ y) here back)
    ∙ sym (ap (placed k vs) (split c) ∙ ap (λ n. placed n vs (X ++ (Y ++ Z))) at ∙ placed_between X Y Z vs size)

pub length-pairs : (at n : ℕ) → length (pair_homes at n) ≡ n
length-pairs at zero = refl
length-pairs at (suc n) = ap suc (length-pairs (at + 2) n)

pub length-points : (at n : ℕ) → length (point_homes at n) ≡ n
length-points at zero = refl
length-points at (suc n) = ap suc (length-points (at + 1) n)

pub pairs_split : (at m n : ℕ) → pair_homes at (m + n) ≡ pair_homes at m ++ pair_homes (at + 2 * m) n
pairs_split at zero n = let none : 0 + n ≡ n = omega arith in let here : at ≡ at + 2 * 0 = omega arith in
    ap (pair_homes at) none ∙ ap (λ a. pair_homes a n) here
pairs_split at (suc m) n =
    let more : suc m + n ≡ suc (m + n) = omega arith in
    ap (pair_homes at) more ∙ ap (λ hs. record { lo = at; hi = at + 1 } ∷ hs) (pairs_split (at + 2) m n ∙ ap (λ a. pair_homes (at + 2) m ++ pair_homes a n) (omega arith))

pub plain-copies : (to from n : ℕ) → are_plain (copies to from n) ≡ true
plain-copies to from zero = refl
plain-copies to from (suc n) = plain-copies (to + 1) (from + 1) n

pub length-copies : (to from n : ℕ) → length (copies to from n) ≡ n
length-copies to from zero = refl
length-copies to from (suc n) = ap suc (length-copies (to + 1) (from + 1) n)
