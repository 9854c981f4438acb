-- The homes of a model's boxes.
use Rattle.std.proofs.Common.{◌≡◌, ℕ, zero, suc, ◌+◌, ◌*◌, ◌-◌, ◌<◌, ◌≤◌, List, [], ◌∷◌, ◌++◌, length, map, get_or, refl, sym, ap, ◌∙◌, arith, append_assoc, length-append}
use Rattle.std.specs.Prelude.{ℤ, pos, replicate}
use Rattle.std.proofs.lemmas.List.{length-replicate}
use Rattle.vp_words.specs.declared.record.Counts.{Counts}
use Rattle.vp_words.specs.Record.{IsValid, place_count}
use Rattle.vp_isa.specs.Machine.{cell}
use Rattle.vp_interval.specs.Rounding.{Ends, point}
use Rattle.vp_sandbox.specs.Boxes.{boxes_of, placed, first_state, first_control, first_next_state, first_next_control, tau_place}
use Rattle.vp_layout.specs.declared.home.Home.{Home}
use Rattle.vp_layout.specs.Homes.{boxes_in, pair_homes, point_homes, homes_of, state_cell, control_cell, next_control_cell, tau_cell, next_state_cell}
use Rattle.vp_layout.specs.Cells.{HomesAreBelow, HomeIsBelow, StandAt, Within}
use Rattle.vp_layout.proofs.Kept.{both, boxed}
use Rattle.vp_layout.proofs.Cells.{pairs_same, points_same, repeated_same, joined_same, points_read, pairs_read, placed_homes, length-pairs, length-points, pairs_split}
use Rattle.vp_layout.proofs.Drafts.{nil_right}

pairs_below : (d at n : ℕ) → at + 2 * n ≤ d → HomesAreBelow d (pair_homes at n)
pairs_below d at zero h = tt
pairs_below d at (suc n) h = (record { lo = omega arith; hi = omega arith }, pairs_below d (at + 2) n (omega arith))

points_below : (d at n : ℕ) → at + n ≤ d → HomesAreBelow d (point_homes at n)
points_below d at zero h = tt
points_below d at (suc n) h = (record { lo = omega arith; hi = omega arith }, points_below d (at + 1) n (omega arith))

repeated_below : (d n : ℕ) (h : Home) → HomeIsBelow d h → HomesAreBelow d (replicate n h)
repeated_below d zero h b = tt
repeated_below d (suc n) h b = (b, repeated_below d n h b)

joined_below : (d : ℕ) (A B : List Home) → HomesAreBelow d A → HomesAreBelow d B → HomesAreBelow d (A ++ B)
joined_below d [] B a b = b
joined_below d (h ∷ A) B a b = (a.0, joined_below d A B a.1 b)

-- the parts of the homes
abbrev pub old_states : Counts → List Home
old_states c = pair_homes 0 (c.params + c.states)

abbrev pub old_controls : Counts → List Home
old_controls c = point_homes (control_cell c) c.controls

abbrev pub new_states : Counts → List Home
new_states c = pair_homes (next_state_cell c) c.states

abbrev pub new_controls : Counts → List Home
new_controls c = point_homes (next_control_cell c) c.controls

abbrev pub time : Counts → List Home
time c = pair_homes (tau_cell c) 1

abbrev pub none : Counts → List Home
none c = replicate (32 - place_count c) (record { lo = 64; hi = 64 })

-- the cells of the boxes stand below the constants
pub cells_fit : (c : Counts) → IsValid c → next_state_cell c + 2 * c.states ≤ 64
cells_fit c v = let le : place_count c ≤ 32 = v.2 in omega arith

pub homes_below : (c : Counts) → IsValid c → HomesAreBelow 65 (homes_of c)
homes_below c v =
    let fit : next_state_cell c + 2 * c.states ≤ 64 = cells_fit c v in
    joined_below 65 (old_states c) _ (pairs_below 65 0 (c.params + c.states) (omega arith))
    (joined_below 65 (old_controls c) _ (points_below 65 (control_cell c) c.controls (omega arith))
    (joined_below 65 (new_states c) _ (pairs_below 65 (next_state_cell c) c.states (omega arith))
    (joined_below 65 (new_controls c) _ (points_below 65 (next_control_cell c) c.controls (omega arith))
    (joined_below 65 (time c) _ (pairs_below 65 (tau_cell c) 1 (omega arith))
    (repeated_below 65 (32 - place_count c) (record { lo = 64; hi = 64 }) (record { lo = omega arith; hi = omega arith }))))))

pub homes_count : (c : Counts) → IsValid c → length (homes_of c) ≡ 32
homes_count c v =
    let le : place_count c ≤ 32 = v.2 in
    simp (length-append, length-pairs, length-points, length-replicate) (omega arith)

-- Cells that have not changed. All below are of cells c and c', where the two agree but for the cells from lo to hi.

-- a part of the homes whose cells have not changed
states_same : (c : Counts) (a b : List ℤ) → ((i : ℕ) → i < control_cell c → cell b i ≡ cell a i) → boxes_in b (old_states c) ≡ boxes_in a (old_states c)
states_same c a b same = pairs_same a b 0 (c.params + c.states) (λ i le lt. same i (omega arith))

-- an init record: the first boxes are new
pub init_boxes : (c : Counts) (a b ws : List ℤ) → IsValid c → length ws ≡ 2 * c.params + 2 * c.states + c.controls → StandAt b 0 ws
    → ((i : ℕ) → length ws ≤ i → i < 65 → cell b i ≡ cell a i)
    → boxes_in b (homes_of c) ≡ placed 0 (boxes_of (c.params + c.states) ws) (boxes_in a (homes_of c))
init_boxes c a b ws v count stands same =
    let fit : next_state_cell c + 2 * c.states ≤ 64 = cells_fit c v in
    let rest = new_states c ++ (new_controls c ++ (time c ++ none c)) in
    let split : homes_of c ≡ (old_states c ++ old_controls c) ++ rest = sym (append_assoc (old_states c) (old_controls c) rest) in
    let here : boxes_in b (old_states c ++ old_controls c) ≡ boxes_of (c.params + c.states) ws =
    let at : control_cell c ≡ 0 + 2 * (c.params + c.states) = omega arith in
    ap (λ n. boxes_in b (old_states c ++ point_homes n c.controls)) at ∙ pairs_read b 0 (c.params + c.states) c.controls ws (omega arith) stands in
    let back : boxes_in b rest ≡ boxes_in a rest =
    joined_same a b (new_states c) _ (pairs_same a b (next_state_cell c) c.states (λ i le lt. same i (omega arith) (omega arith)))
    (joined_same a b (new_controls c) _ (points_same a b (next_control_cell c) c.controls (λ i le lt. same i (omega arith) (omega arith)))
    (joined_same a b (time c) _ (pairs_same a b (tau_cell c) 1 (λ i le lt. same i (omega arith) (omega arith)))
    (repeated_same a b (record { lo = 64; hi = 64 }) (32 - place_count c) (both boxed (same 64 (omega arith) (omega arith)) (same 64 (omega arith) (omega arith)))))) in
    ap (boxes_in b) split ∙ placed_homes a b [] (old_states c ++ old_controls c) rest 0 _ refl refl here back
    ∙ ap (λ hs. placed 0 (boxes_of (c.params + c.states) ws) (boxes_in a hs)) (sym split)

-- a choice: the next controls are new
pub choice_boxes : (c : Counts) (a b ws : List ℤ) → IsValid c → length ws ≡ c.controls → StandAt b (next_control_cell c) ws
    → Within (next_control_cell c) (tau_cell c) a b
    → boxes_in b (homes_of c) ≡ placed (first_next_control c) (map point ws) (boxes_in a (homes_of c))
choice_boxes c a b ws v count stands w =
    let fit : next_state_cell c + 2 * c.states ≤ 64 = cells_fit c v in
    let front = old_states c ++ (old_controls c ++ new_states c) in
    let back = time c ++ none c in
    let split : homes_of c ≡ front ++ (new_controls c ++ back) =
    ap (λ hs. old_states c ++ hs) (sym (append_assoc (old_controls c) (new_states c) (new_controls c ++ back)))
    ∙ sym (append_assoc (old_states c) (old_controls c ++ new_states c) (new_controls c ++ back)) in
    let place : first_next_control c ≡ length front = simp (length-append, length-pairs, length-points) (omega arith) in
    let before : boxes_in b front ≡ boxes_in a front =
    joined_same a b (old_states c) _ (states_same c a b (λ i lt. w.low i (omega arith)))
    (joined_same a b (old_controls c) (new_states c) (points_same a b (control_cell c) c.controls (λ i le lt. w.low i (omega arith)))
    (pairs_same a b (next_state_cell c) c.states (λ i le lt. w.high i (omega arith)))) in
    let here : boxes_in b (new_controls c) ≡ map point ws = points_read b (next_control_cell c) c.controls ws count stands in
    let behind : boxes_in b back ≡ boxes_in a back =
    joined_same a b (time c) (none c) (pairs_same a b (tau_cell c) 1 (λ i le lt. w.high i (omega arith)))
    (repeated_same a b (record { lo = 64; hi = 64 }) (32 - place_count c) (both boxed (w.high 64 (omega arith)) (w.high 64 (omega arith)))) in
    ap (boxes_in b) split ∙ placed_homes a b front (new_controls c) back (first_next_control c) _ place before here behind
    ∙ ap (λ hs. placed (first_next_control c) (map point ws) (boxes_in a hs)) (sym split)

-- an act: the controls are new
pub act_boxes : (c : Counts) (a b ws : List ℤ) → IsValid c → length ws ≡ c.controls → StandAt b (control_cell c) ws
    → Within (control_cell c) (next_control_cell c) a b
    → boxes_in b (homes_of c) ≡ placed (first_control c) (map point ws) (boxes_in a (homes_of c))
act_boxes c a b ws v count stands w =
    let fit : next_state_cell c + 2 * c.states ≤ 64 = cells_fit c v in
    let back = new_states c ++ (new_controls c ++ (time c ++ none c)) in
    let behind : boxes_in b back ≡ boxes_in a back =
    joined_same a b (new_states c) _ (pairs_same a b (next_state_cell c) c.states (λ i le lt. w.high i (omega arith)))
    (joined_same a b (new_controls c) _ (points_same a b (next_control_cell c) c.controls (λ i le lt. w.high i (omega arith)))
    (joined_same a b (time c) _ (pairs_same a b (tau_cell c) 1 (λ i le lt. w.high i (omega arith)))
    (repeated_same a b (record { lo = 64; hi = 64 }) (32 - place_count c) (both boxed (w.high 64 (omega arith)) (w.high 64 (omega arith)))))) in
    placed_homes a b (old_states c) (old_controls c) back (first_control c) (map point ws) (sym (length-pairs 0 (c.params + c.states)))
    (states_same c a b (λ i lt. w.low i lt)) (points_read b (control_cell c) c.controls ws count stands) behind

pairs_only : (c : List ℤ) (at n : ℕ) (ws : List ℤ) → length ws ≡ 2 * n → StandAt c at ws → boxes_in c (pair_homes at n) ≡ boxes_of n ws
pairs_only c at n ws e h = ap (boxes_in c) (sym (nil_right (pair_homes at n))) ∙ pairs_read c at n 0 ws (omega arith) h

-- a time: `tau` is new
pub time_boxes : (c : Counts) (a b ws : List ℤ) → IsValid c → length ws ≡ 2 → StandAt b (tau_cell c) ws
    → Within (tau_cell c) (next_state_cell c) a b
    → boxes_in b (homes_of c) ≡ placed (tau_place c) (boxes_of 1 ws) (boxes_in a (homes_of c))
time_boxes c a b ws v count stands w =
    let fit : next_state_cell c + 2 * c.states ≤ 64 = cells_fit c v in
    let front = old_states c ++ (old_controls c ++ (new_states c ++ new_controls c)) in
    let split : homes_of c ≡ front ++ (time c ++ none c) =
    ap (λ hs. old_states c ++ (old_controls c ++ hs)) (sym (append_assoc (new_states c) (new_controls c) (time c ++ none c)))
    ∙ ap (λ hs. old_states c ++ hs) (sym (append_assoc (old_controls c) (new_states c ++ new_controls c) (time c ++ none c)))
    ∙ sym (append_assoc (old_states c) (old_controls c ++ (new_states c ++ new_controls c)) (time c ++ none c)) in
    let place : tau_place c ≡ length front = simp (length-append, length-pairs, length-points) (omega arith) in
    let before : boxes_in b front ≡ boxes_in a front =
    joined_same a b (old_states c) _ (states_same c a b (λ i lt. w.low i (omega arith)))
    (joined_same a b (old_controls c) _ (points_same a b (control_cell c) c.controls (λ i le lt. w.low i (omega arith)))
    (joined_same a b (new_states c) (new_controls c) (pairs_same a b (next_state_cell c) c.states (λ i le lt. w.high i (omega arith)))
    (points_same a b (next_control_cell c) c.controls (λ i le lt. w.low i (omega arith))))) in
    let here : boxes_in b (time c) ≡ boxes_of 1 ws = pairs_only b (tau_cell c) 1 ws (omega arith) stands in
    let behind : boxes_in b (none c) ≡ boxes_in a (none c) =
    repeated_same a b (record { lo = 64; hi = 64 }) (32 - place_count c) (both boxed (w.high 64 (omega arith)) (w.high 64 (omega arith))) in
    ap (boxes_in b) split ∙ placed_homes a b front (time c) (none c) (tau_place c) _ place before here behind
    ∙ ap (λ hs. placed (tau_place c) (boxes_of 1 ws) (boxes_in a hs)) (sym split)

-- what was sensed: the next states are new
pub sensed_boxes : (c : Counts) (a b ws : List ℤ) → IsValid c → length ws ≡ 2 * c.states → StandAt b (next_state_cell c) ws
    → Within (next_state_cell c) (next_state_cell c + 2 * c.states) a b
    → boxes_in b (homes_of c) ≡ placed (first_next_state c) (boxes_of c.states ws) (boxes_in a (homes_of c))
sensed_boxes c a b ws v count stands w =
    let fit : next_state_cell c + 2 * c.states ≤ 64 = cells_fit c v in
    let front = old_states c ++ old_controls c in
    let back = new_controls c ++ (time c ++ none c) in
    let split : homes_of c ≡ front ++ (new_states c ++ back) = sym (append_assoc (old_states c) (old_controls c) (new_states c ++ back)) in
    let place : first_next_state c ≡ length front = simp (length-append, length-pairs, length-points) (omega arith) in
    let before : boxes_in b front ≡ boxes_in a front =
    joined_same a b (old_states c) (old_controls c) (states_same c a b (λ i lt. w.low i (omega arith)))
    (points_same a b (control_cell c) c.controls (λ i le lt. w.low i (omega arith))) in
    let here : boxes_in b (new_states c) ≡ boxes_of c.states ws = pairs_only b (next_state_cell c) c.states ws count stands in
    let behind : boxes_in b back ≡ boxes_in a back =
    joined_same a b (new_controls c) _ (points_same a b (next_control_cell c) c.controls (λ i le lt. w.low i (omega arith)))
    (joined_same a b (time c) (none c) (pairs_same a b (tau_cell c) 1 (λ i le lt. w.low i (omega arith)))
    (repeated_same a b (record { lo = 64; hi = 64 }) (32 - place_count c) (both boxed (w.high 64 (omega arith)) (w.high 64 (omega arith))))) in
    ap (boxes_in b) split ∙ placed_homes a b front (new_states c) back (first_next_state c) _ place before here behind
    ∙ ap (λ hs. placed (first_next_state c) (boxes_of c.states ws) (boxes_in a hs)) (sym split)

-- after an `Ok` sensing: the states are new
pub state_boxes : (c : Counts) (a b ws : List ℤ) → IsValid c → length ws ≡ 2 * c.states → StandAt b (state_cell c) ws
    → Within (state_cell c) (control_cell c) a b
    → boxes_in b (homes_of c) ≡ placed (first_state c) (boxes_of c.states ws) (boxes_in a (homes_of c))
state_boxes c a b ws v count stands w =
    let fit : next_state_cell c + 2 * c.states ≤ 64 = cells_fit c v in
    let front = pair_homes 0 c.params in
    let middle = pair_homes (state_cell c) c.states in
    let back = old_controls c ++ (new_states c ++ (new_controls c ++ (time c ++ none c))) in
    let split : homes_of c ≡ front ++ (middle ++ back) =
    let at : 0 + 2 * c.params ≡ state_cell c = omega arith in
    ap (λ hs. hs ++ back) (pairs_split 0 c.params c.states) ∙ ap (λ n. front ++ pair_homes n c.states ++ back) at ∙ append_assoc front middle back in
    let before : boxes_in b front ≡ boxes_in a front = pairs_same a b 0 c.params (λ i le lt. w.low i (omega arith)) in
    let here : boxes_in b middle ≡ boxes_of c.states ws = pairs_only b (state_cell c) c.states ws count stands in
    let behind : boxes_in b back ≡ boxes_in a back =
    joined_same a b (old_controls c) _ (points_same a b (control_cell c) c.controls (λ i le lt. w.high i (omega arith)))
    (joined_same a b (new_states c) _ (pairs_same a b (next_state_cell c) c.states (λ i le lt. w.high i (omega arith)))
    (joined_same a b (new_controls c) _ (points_same a b (next_control_cell c) c.controls (λ i le lt. w.high i (omega arith)))
    (joined_same a b (time c) _ (pairs_same a b (tau_cell c) 1 (λ i le lt. w.high i (omega arith)))
    (repeated_same a b (record { lo = 64; hi = 64 }) (32 - place_count c) (both boxed (w.high 64 (omega arith)) (w.high 64 (omega arith))))))) in
    ap (boxes_in b) split ∙ placed_homes a b front middle back (first_state c) _ (sym (length-pairs 0 c.params)) before here behind
    ∙ ap (λ hs. placed (first_state c) (boxes_of c.states ws) (boxes_in a hs)) (sym split)

-- at first all boxes are 0
zero_cell_is : (n i : ℕ) → get_or (replicate n (pos 0)) i (pos 0) ≡ pos 0
zero_cell_is zero i = refl
zero_cell_is (suc n) zero = refl
zero_cell_is (suc n) (suc i) = zero_cell_is n i

zero_boxes : (n : ℕ) (hs : List Home) → boxes_in (replicate n (pos 0)) hs ≡ replicate (length hs) (point (pos 0))
zero_boxes n [] = refl
zero_boxes n (h ∷ hs) = both cons (both boxed (zero_cell_is n h.lo) (zero_cell_is n h.hi)) (zero_boxes n hs)
  where
    cons : Ends → List Ends → List Ends
    cons x xs = x ∷ xs

pub first_zero : (n i : ℕ) → cell (replicate n (pos 0)) i ≡ pos 0
first_zero n i = zero_cell_is n i

pub first_boxes : (n : ℕ) (c : Counts) → IsValid c → boxes_in (replicate n (pos 0)) (homes_of c) ≡ replicate 32 (point (pos 0))
first_boxes n c v = zero_boxes n (homes_of c) ∙ ap (λ k. replicate k (point (pos 0))) (homes_count c v)
