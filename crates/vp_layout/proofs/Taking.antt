-- From a TAKE to the place behind the constants.
use Rattle.std.proofs.Common.{◌≡◌, ℕ, ◌+◌, ◌*◌, ◌<◌, ◌≤◌, List, [], ◌∷◌, ◌++◌, length, take, drop, nat_lt, Bool, true, false, refl, sym, ap, ◌∙◌, subst, arith}
use Rattle.std.specs.Prelude.{ℤ, pos, negsuc, slice_set}
use Rattle.std.proofs.lemmas.Bool.Decides.{nat_tests}
use Rattle.vp_words.specs.declared.record.Counts.{Counts}
use Rattle.vp_words.specs.declared.record.Kind.{Kind}
use Rattle.vp_words.specs.declared.record.Kind.TheVariants.{Init, Choice, Sense}
use Rattle.vp_words.specs.Record.{IsValid, field_count}
use Rattle.vp_isa.specs.declared.code.Code.{Code}
use Rattle.vp_isa.specs.Machine.{MachineState, cell, effect, step}
use Rattle.vp_isa.specs.Block.{after, HasAt}
use Rattle.vp_isa.specs.Runs.{Comes}
use Rattle.vp_interval.specs.Rounding.{Ends}
use Rattle.vp_sandbox.specs.Boxes.{boxes_of, placed, tested, first_next_state}
use Rattle.vp_layout.specs.Blocks.{constants_code, take_code}
use Rattle.vp_layout.specs.Cells.{Constants, Keeps, StandAt, Within}
use Rattle.vp_layout.specs.Homes.{boxes_in, homes_of, next_control_cell, next_state_cell, record_cell, tau_cell}
use Rattle.vp_layout.proofs.Machines.{Runs}
use Rattle.vp_layout.specs.Ties.{Stands, Taken, standing}
use Rattle.vp_layout.proofs.Writes.{wrote}
use Rattle.vp_layout.proofs.Kept.{boxes_kept}
use Rattle.vp_layout.proofs.Cells.{spliced_words, spliced_within, stand_same}
use Rattle.vp_layout.proofs.HomeLaws.{cells_fit, homes_below, init_boxes, choice_boxes, time_boxes, sensed_boxes}

-- the cells with these words from cell d on
abbrev spliced : ℕ → List ℤ → List ℤ → List ℤ
spliced d ws c = take d c ++ ws ++ drop (d + length ws) c

-- a record's cells stand below the constants
pub record_fits : (n : Counts) (kind : Kind) → IsValid n → record_cell kind n + field_count kind n ≤ 64
record_fits n Init v = let fit : next_state_cell n + 2 * n.states ≤ 64 = cells_fit n v in omega arith
record_fits n Choice v = let fit : next_state_cell n + 2 * n.states ≤ 64 = cells_fit n v in omega arith
record_fits n Sense v = let fit : next_state_cell n + 2 * n.states ≤ 64 = cells_fit n v in omega arith

-- the constants, behind the words
with_constants : (c : List ℤ) → 68 ≤ length c → Constants (after constants_code c) × Within 64 68 c (after constants_code c)
with_constants c long =
    let c1 = slice_set c 64 (pos 0) in
    let w1 = wrote c 64 (pos 0) (omega (arith, long)) in
    let c2 = slice_set c1 65 (pos 1) in
    let w2 = wrote c1 65 (pos 1) (omega (arith, long, w1.same_length)) in
    let c3 = slice_set c2 66 (pos 2) in
    let w3 = wrote c2 66 (pos 2) (omega (arith, long, w1.same_length, w2.same_length)) in
    let w4 = wrote c3 67 (negsuc 0) (omega (arith, long, w1.same_length, w2.same_length, w3.same_length)) in (
      record {
        zero_is = w4.others 64 (omega arith) ∙ w3.others 64 (omega arith) ∙ w2.others 64 (omega arith) ∙ w1.here;
        one_is = w4.others 65 (omega arith) ∙ w3.others 65 (omega arith) ∙ w2.here;
        two_is = w4.others 66 (omega arith) ∙ w3.here;
        minus_is = w4.here;
      },
      record {
        same_length = w4.same_length ∙ w3.same_length ∙ w2.same_length ∙ w1.same_length;
        low = λ i lt. w4.others i (omega arith) ∙ w3.others i (omega arith) ∙ w2.others i (omega arith) ∙ w1.others i (omega arith);
        high = λ i le. w4.others i (omega arith) ∙ w3.others i (omega arith) ∙ w2.others i (omega arith) ∙ w1.others i (omega arith);
      },
    )

-- The two parts of a sensing.

-- the first two words, and the others
record Split (c : List ℤ) (at n : ℕ) (ws : List ℤ) : Type 0 where
  front : StandAt c at (take 2 ws)
  back : StandAt c (at + 2) (drop 2 ws)
  two : length (take 2 ws) ≡ 2
  count : length (drop 2 ws) ≡ n

stand_split : (c : List ℤ) (at n : ℕ) (ws : List ℤ) → length ws ≡ 2 + n → StandAt c at ws → Split c at n ws
stand_split c at n [] e h = absurd (omega arith)
stand_split c at n (a ∷ []) e h = absurd (omega arith)
stand_split c at n (a ∷ b ∷ us) e h =
    let next : at + 1 + 1 ≡ at + 2 = omega arith in
    record { front = (h.0, (h.1.0, tt)); back = subst (λ p. StandAt c p us) next h.1.1; two = refl; count = omega arith }

-- cells with the same words are the same
stand_equal : (a b : List ℤ) (at : ℕ) (ws : List ℤ) (i : ℕ) → StandAt a at ws → StandAt b at ws → at ≤ i → i < at + length ws → cell a i ≡ cell b i
stand_equal a b at [] i f g le lt = absurd (omega arith)
stand_equal a b at (w ∷ ws) i f g le lt = by_place (nat_lt at i) refl (λ le'. stand_equal a b (at + 1) ws i f.1 g.1 le' (omega arith))
  where
    by_place : (t : Bool) → nat_lt at i ≡ t → (at + 1 ≤ i → cell a i ≡ cell b i) → cell a i ≡ cell b i
    by_place true e rest = let le' : at + 1 ≤ i = grind (arith, nat_tests) in rest le'
    by_place false e rest = let same : i ≡ at = grind (arith, nat_tests) in rw same (f.0 ∙ sym g.0)

low_same : (c cm c1 ts : List ℤ) (d i : ℕ) → length ts ≡ 2 → i < d + 2 → Within d (d + 2) c cm → ((j : ℕ) → j < d → cell c1 j ≡ cell c j) → StandAt c1 d ts → StandAt cm d ts
    → cell c1 i ≡ cell cm i
low_same c cm c1 ts d i two lt wm low f g = by_place (nat_lt i d) refl
  where
    by_place : (t : Bool) → nat_lt i d ≡ t → cell c1 i ≡ cell cm i
    by_place true e = let lt' : i < d = grind (arith, nat_tests) in low i lt' ∙ sym (wm.low i lt')
    by_place false e = let le : d ≤ i = grind (arith, nat_tests) in stand_equal c1 cm d ts i f g le (omega (arith, two))

-- the boxes over which a record is tested are those of the cells with its words
tested_boxes : (n : Counts) (kind : Kind) (c ws : List ℤ) → IsValid n → length ws ≡ field_count kind n → record_cell kind n + length ws ≤ length c
    → boxes_in (spliced (record_cell kind n) ws c) (homes_of n) ≡ tested n kind ws (boxes_in c (homes_of n))
tested_boxes n Init c ws v count room =
    let w1 = spliced_within c ws 0 room in
    init_boxes n c (spliced 0 ws c) ws v count (spliced_words c ws 0 room) (λ i le lt. w1.high i (omega arith))
tested_boxes n Choice c ws v count room =
    let d = next_control_cell n in
    let w1 : Within d (tau_cell n) c (spliced d ws c) = subst (λ e. Within d (d + e) c (spliced d ws c)) count (spliced_within c ws d room) in
    choice_boxes n c (spliced d ws c) ws v count (spliced_words c ws d room) w1
tested_boxes n Sense c ws v count room =
    let d = tau_cell n in
    let c1 = spliced d ws c in
    let w1 = spliced_within c ws d room in
    let parts = stand_split c1 d (2 * n.states) ws count (spliced_words c ws d room) in
    let ts = take 2 ws in
    let us = drop 2 ws in
    let cm = spliced d ts c in
    let two = parts.two in
    let roomm : d + length ts ≤ length c = omega (arith, two, count, room) in
    let wordsm = spliced_words c ts d roomm in
    let wm : Within d (next_state_cell n) c cm = subst (λ e. Within d (d + e) c cm) two (spliced_within c ts d roomm) in
    let ws1 : Within (next_state_cell n) (next_state_cell n + 2 * n.states) cm c1 = record {
      same_length = w1.same_length ∙ sym wm.same_length;
      low = λ i lt. low_same c cm c1 ts d i two lt wm w1.low parts.front wordsm;
      high = λ i le. w1.high i (omega (arith, count)) ∙ sym (wm.high i (omega arith));
    } in
    sensed_boxes n cm c1 us v parts.count parts.back ws1 ∙ ap (placed (first_next_state n) (boxes_of n.states us)) (time_boxes n c cm ts v two wordsm wm)

-- the constants change nothing below them, and cell 64 was 0
kept_below : (c c1 c2 : List ℤ) (d e : ℕ) → e ≤ 64 → cell c 64 ≡ pos 0 → Within d e c c1 → Within 64 68 c1 c2 → Constants c2 → Keeps 65 c1 c2
kept_below c c1 c2 d e le zero_is w1 w2 k = record { same_length = w2.same_length; below = λ i lt. by_place i lt (nat_lt i 64) refl }
  where
    by_place : (i : ℕ) → i < 65 → (b : Bool) → nat_lt i 64 ≡ b → cell c2 i ≡ cell c1 i
    by_place i lt true e = let lt' : i < 64 = grind (arith, nat_tests) in w2.low i lt'
    by_place i lt false e =
        let at : i ≡ 64 = grind (arith, nat_tests) in
        ap (cell c2) at ∙ k.zero_is ∙ sym zero_is ∙ sym (w1.high 64 (omega arith)) ∙ ap (cell c1) (sym at)

-- a record is taken
pub taken : (law : Runs) (code : Code) (p : ℕ) (kind : Kind) (ws : List ℤ) (boxes : List Ends) (m : MachineState) → IsValid code.counts → 68 ≤ code.cells
    → length ws ≡ field_count kind code.counts → HasAt code p (take_code code.counts kind) → Stands code p boxes m → Taken code p kind ws boxes m
taken law code p kind ws boxes m v size count h s =
    let n = code.counts in
    let d = record_cell kind n in
    let c = s.cells in
    let long : length c ≡ code.cells = s.keeping.long in
    let fits : d + length ws ≤ 64 = omega (arith, count, record_fits n kind v) in
    let room : d + length ws ≤ length c = omega arith in
    let c1 = spliced d ws c in
    let took : step code ws m ≡ standing c1 (p + 1) = ap (step code ws) s.is ∙ ap (λ o. effect code ws o (standing c p)) h.0 in
    let w1 = spliced_within c ws d room in
    let long1 : length c1 ≡ length c = w1.same_length in
    let c2 = after constants_code c1 in
    let more = with_constants c1 (omega arith) in
    let kept = kept_below c c1 c2 d (d + length ws) fits s.keeping.zero_is w1 more.1 more.0 in
    let run : Comes code (standing c1 (p + 1)) (standing c2 (p + 1 + 4)) = law.block code constants_code (standing c1 (p + 1)) refl h.1 refl in
    let end : p + 1 + 4 ≡ p + 5 = omega arith in
    record {
      cells = c2;
      comes = rw took (subst (λ q. Comes code (standing c1 (p + 1)) (standing c2 q)) end run);
      keeping = record {
        long = kept.same_length ∙ long1 ∙ long;
        zero_is = more.0.zero_is;
        held = boxes_kept c1 c2 65 (homes_of n) kept (homes_below n v) ∙ tested_boxes n kind c ws v count room ∙ ap (tested n kind ws) s.keeping.held;
      };
      constants = more.0;
      stand = stand_same c1 c2 d ws (λ i le lt. kept.below i (omega arith)) (spliced_words c ws d room);
    }

-- the words of the next states
pub record Rest (c : List ℤ) (n : Counts) (us : List ℤ) : Type 0 where
  pub count : length us ≡ 2 * n.states
  pub stand : StandAt c (next_state_cell n) us

pub stand_rest : (c : List ℤ) (n : Counts) (ws : List ℤ) → length ws ≡ 2 + 2 * n.states → StandAt c (tau_cell n) ws → Rest c n (drop 2 ws)
stand_rest c n ws count h = let parts = stand_split c (tau_cell n) (2 * n.states) ws count h in record { count = parts.count; stand = parts.back }
