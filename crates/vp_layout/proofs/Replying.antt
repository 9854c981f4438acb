-- How a record ends: a violation, an act, or an accepted record.
use Rattle.std.proofs.Common.{◌≡◌, ℕ, ◌+◌, ◌*◌, ◌≤◌, List, [], ◌∷◌, ◌++◌, length, map, take, drop, Bool, Some, refl, ap, ◌∙◌, subst, arith}
use Rattle.std.specs.Prelude.{ℤ, slice_get}
use Rattle.vp_words.specs.declared.record.Counts.{Counts}
use Rattle.vp_words.specs.declared.record.Due.TheVariants as due
use Rattle.vp_words.specs.declared.record.Kind.TheVariants as kind
use Rattle.vp_words.specs.declared.record.Reply.TheVariants as reply
use Rattle.vp_words.specs.Record.{IsValid, padded}
use Rattle.vp_isa.specs.declared.code.Code.{Code}
use Rattle.vp_isa.specs.declared.instr.Mon.{Mon}
use Rattle.vp_isa.specs.declared.instr.Instr.TheVariants.{Act, Jmp}
use Rattle.vp_isa.specs.Machine.{MachineState, why_of}
use Rattle.vp_isa.specs.Block.{after, HasAt}
use Rattle.vp_isa.specs.Runs.{Comes}
use Rattle.vp_interval.specs.Rounding.{Ends, point}
use Rattle.vp_sandbox.specs.Answer.{Answered}
use Rattle.vp_sandbox.specs.Boxes.{boxes_of, placed, first_state, first_control}
use Rattle.vp_layout.specs.Blocks.{act_code, copies}
use Rattle.vp_layout.specs.Cells.{Keeps, StandAt, Within}
use Rattle.vp_layout.specs.Homes.{boxes_in, homes_of, state_cell, control_cell, next_control_cell, tau_cell, next_state_cell}
use Rattle.vp_layout.proofs.Machines.{Runs}
use Rattle.vp_layout.specs.Ties.{Acted, Halted, Keeping, Replies, Takes, accepted, acting, standing}
use Rattle.vp_layout.proofs.Kept.{boxes_kept}
use Rattle.vp_layout.proofs.Cells.{stand_take, copied_within, copied_words, plain-copies}
use Rattle.vp_layout.proofs.HomeLaws.{cells_fit, homes_below, act_boxes, state_boxes}
use Rattle.vp_layout.proofs.Running.{goes, jumped, stops_at}

-- an act: its words become the controls, and a sensing is due
abbrev pub has_acted : Counts → List Ends → List ℤ → Bool → Answered
has_acted n boxes words fallback = record {
  reply = reply.Act (padded 16 words) n.controls fallback;
  next = record { boxes = placed (first_control n) (map point words) boxes; due = due.Sense };
}

pub replies_after : (law : Runs) (code : Code) (sense : ℕ) (from m : MachineState) (a : Answered) → Comes code from m → Replies code sense m a → Replies code sense from a
replies_after law code sense from m a c r =
    record { last = r.last; comes = law.both code from m r.last c r.comes; stop = r.stop; reply = r.reply; tied = r.tied }

-- an end is a reply
pub halted_replies : (code : Code) (sense : ℕ) (from : MachineState) (mon : Mon) (a : Answered) → Halted code from mon → reply.Violation (why_of mon) ≡ a.reply → a.next.due ≡ due.Ended
    → Replies code sense from a
halted_replies code sense from mon a h e ended = record {
  last = h.last;
  comes = h.comes;
  stop = rw h.ended refl;
  reply = h.reply ∙ e;
  tied = rw ended h.ended;
}

-- what comes to the head with nothing to report has accepted the record
pub passed_replies : (code : Code) (sense : ℕ) (from : MachineState) (boxes : List Ends) (c : List ℤ) → Takes code sense → Comes code from (standing c code.head) → Keeping code boxes c
    → Replies code sense from (accepted boxes)
passed_replies code sense from boxes c t comes k = record {
  last = standing c code.head;
  comes = comes;
  stop = stops_at code c code.head reply.Ok kind.Choice (next_control_cell code.counts) t.choice.0;
  reply = refl;
  tied = record { cells = c; is = refl; keeping = k };
}

-- what comes to the place of the sensing with an act to report has acted
pub acted_replies : (code : Code) (sense : ℕ) (from : MachineState) (boxes : List Ends) (words : List ℤ) (fallback : Bool) → Takes code sense → Acted code boxes words fallback from sense
    → Replies code sense from (has_acted code.counts boxes words fallback)
acted_replies code sense from boxes words fallback t a = record {
  last = acting a.cells sense words code.counts.controls fallback;
  comes = a.comes;
  stop = stops_at code a.cells sense (reply.Act (padded 16 words) code.counts.controls fallback) kind.Sense (tau_cell code.counts) t.sensing.0;
  reply = refl;
  tied = record { cells = a.cells; is = refl; keeping = a.keeping };
}

-- what only the cells from 65 on have changed keeps
pub keeping_on : (code : Code) (boxes : List Ends) (c c' : List ℤ) → IsValid code.counts → Keeps 65 c c' → Keeping code boxes c → Keeping code boxes c'
keeping_on code boxes c c' v kept k = record {
  long = kept.same_length ∙ k.long;
  zero_is = kept.below 64 (omega arith) ∙ k.zero_is;
  held = boxes_kept c c' 65 (homes_of code.counts) kept (homes_below code.counts v) ∙ k.held;
}

-- the words from cell d on are reported, and become the controls
pub acts : (law : Runs) (code : Code) (boxes : List Ends) (c ws : List ℤ) (p d : ℕ) (fallback : Bool) → IsValid code.counts → length ws ≡ code.counts.controls
    → next_control_cell code.counts ≤ d → d + code.counts.controls ≤ code.cells → 68 ≤ code.cells → Keeping code boxes c → StandAt c d ws → HasAt code p (act_code code.counts fallback d)
    → Acted code boxes ws fallback (standing c p) (p + length (act_code code.counts fallback d))
acts law code boxes c ws p d fallback v count apart room size k stands h =
    let n = code.counts in
    let to = control_cell n in
    let fit : next_state_cell n + 2 * n.states ≤ 64 = cells_fit n v in
    let block = copies to d n.controls in
    let c1 = after block c in
    let words : take n.controls (drop d c) ≡ ws = subst (λ m. take m (drop d c) ≡ ws) count (stand_take c d ws (omega (arith, count, k.long)) stands) in
    let first : Comes code (standing c p) (acting c (p + 1) ws n.controls fallback) =
    goes law code c p (Act fallback d) _ h.0 refl (ap (λ xs. acting c (p + 1) xs n.controls fallback) words) in
    let second = law.block code block (acting c (p + 1) ws n.controls fallback) refl h.1 (plain-copies to d n.controls) in
    let w = copied_within c to d n.controls (omega (arith, k.long)) in
    let copied : StandAt c1 to ws = subst (λ m. StandAt (after (copies to d m) c) to ws) count (copied_words c to d ws (omega (arith, count)) (omega (arith, count, k.long)) stands) in
    let now : boxes_in c1 (homes_of n) ≡ placed (first_control n) (map point ws) boxes =
    act_boxes n c c1 ws v count copied w ∙ ap (placed (first_control n) (map point ws)) k.held in
    let end : p + 1 + length block ≡ p + length (act_code n fallback d) = omega arith in
    record {
      cells = c1;
      keeping = record { long = w.same_length ∙ k.long; zero_is = w.high 64 (omega arith) ∙ k.zero_is; held = now };
      comes = law.both code _ _ _ first (subst (λ q. Comes code (acting c (p + 1) ws n.controls fallback) (acting c1 q ws n.controls fallback)) end second);
    }

-- a jump on the way to the place of the sensing
pub acted_on : (law : Runs) (code : Code) (boxes : List Ends) (ws : List ℤ) (fallback : Bool) (from : MachineState) (p t : ℕ) → slice_get code.instrs p ≡ Some (Jmp t)
    → Acted code boxes ws fallback from p → Acted code boxes ws fallback from t
acted_on law code boxes ws fallback from p t at a = record {
  cells = a.cells;
  keeping = a.keeping;
  comes = law.both code _ _ _ a.comes (jumped law code (acting a.cells p ws code.counts.controls fallback) t refl at);
}

-- the code by which the next states become the states, and the round ends
abbrev pub states_code : Code → ℕ → Type 0
states_code code p = HasAt code p (copies (state_cell code.counts) (next_state_cell code.counts) (2 * code.counts.states) ++ Jmp code.head ∷ [])

pub states_reply : (law : Runs) (code : Code) (sense : ℕ) (boxes : List Ends) (c us : List ℤ) (p : ℕ) → IsValid code.counts → Takes code sense → Keeping code boxes c → 68 ≤ code.cells
    → length us ≡ 2 * code.counts.states → StandAt c (next_state_cell code.counts) us → states_code code p
    → Replies code sense (standing c p) (accepted (placed (first_state code.counts) (boxes_of code.counts.states us) boxes))
states_reply law code sense boxes c us p v t k room count stands h =
    let n = code.counts in
    let to = state_cell n in
    let from = next_state_cell n in
    let size = 2 * n.states in
    let fit : from + size ≤ 64 = cells_fit n v in
    let block = copies to from size in
    let c1 = after block c in
    let runs = law.block code block (standing c p) refl (law.front code p block (Jmp code.head ∷ []) h) (plain-copies to from size) in
    let w = copied_within c to from size (omega (arith, k.long)) in
    let copied : StandAt c1 to us = subst (λ m. StandAt (after (copies to from m) c) to us) count (copied_words c to from us (omega (arith, count)) (omega (arith, count, k.long)) stands) in
    let top : to + size ≡ control_cell n = omega arith in
    let w' : Within to (control_cell n) c c1 = subst (λ e. Within to e c c1) top w in
    let now = placed (first_state n) (boxes_of n.states us) boxes in
    let held : boxes_in c1 (homes_of n) ≡ now = state_boxes n c c1 us v count copied w' ∙ ap (placed (first_state n) (boxes_of n.states us)) k.held in
    let k1 : Keeping code now c1 = record { long = w.same_length ∙ k.long; zero_is = w'.high 64 (omega arith) ∙ k.zero_is; held = held } in
    let there = law.back code p block (Jmp code.head ∷ []) h in
    let on : Comes code (standing c1 (p + length block)) (standing c1 code.head) = jumped law code (standing c1 (p + length block)) code.head refl there.0 in
    passed_replies code sense (standing c p) now c1 t (law.both code _ _ _ runs on) k1
