-- The code of a sandbox replies to each record as the sandbox does.
use Rattle.std.proofs.Common.{◌≡◌, ℕ, ◌+◌, ◌*◌, ◌≤◌, List, [], ◌∷◌, ◌++◌, length, map, drop, true, false, not, Option, Some, None, refl, sym, ap, ◌∙◌, subst, arith, length-append}
use Rattle.std.specs.Prelude.{ℤ, pos, int_lt}
use Rattle.std.proofs.lemmas.List.{length-map}
use Rattle.vp_words.specs.declared.record.Kind.TheVariants as kind
use Rattle.vp_words.specs.Record.{IsValid, field_count, place_count}
use Rattle.vp_isa.specs.declared.code.Code.{Code}
use Rattle.vp_isa.specs.declared.instr.Instr.{Instr}
use Rattle.vp_isa.specs.declared.instr.Instr.TheVariants.{Jmp, Jge}
use Rattle.vp_isa.specs.declared.instr.Mon.TheVariants as mon
use Rattle.vp_isa.specs.Machine.{MachineState, cell, step}
use Rattle.vp_isa.specs.Block.{after, HasAt}
use Rattle.vp_isa.specs.Runs.{Comes}
use Rattle.vp_logic.specs.Tree.{tree}
use Rattle.vp_interval.specs.declared.truth.Truth.{Truth}
use Rattle.vp_interval.specs.declared.truth.Truth.TheVariants.{No, Maybe, Yes}
use Rattle.vp_interval.specs.Rounding.{Ends}
use Rattle.vp_interval.specs.Polynomial.{interval_of}
use Rattle.vp_interval.specs.Formula.{truth, truths, first_from}
use Rattle.vp_sandbox.specs.declared.sandbox.Sandbox.{Sandbox}
use Rattle.vp_sandbox.specs.Boxes.{first_next_state, point_words, tested}
use Rattle.vp_sandbox.specs.Fits.{PolysFit, in_init}
use Rattle.vp_sandbox.specs.Answer.{is_unknown, init_verdict, init_answer, fallback_verdict, choice_verdict, choice_answer, sense_verdict, sense_answer}
use Rattle.vp_layout.specs.declared.block.Monitor.TheVariants as monitor
use Rattle.vp_layout.specs.Blocks.{act_code, copies, take_code}
use Rattle.vp_layout.specs.Cells.{Constants, HomesAreBelow, Keeps, StandAt}
use Rattle.vp_layout.specs.Drafts.{mon_of}
use Rattle.vp_layout.specs.Homes.{box_at, boxes_in, homes_of, state_cell, next_control_cell, next_state_cell}
use Rattle.vp_layout.proofs.Drafts.{nil_right}
use Rattle.vp_layout.proofs.Machines.{Runs}
use Rattle.vp_layout.specs.Ties.{Acted, Gains, Keeping, Leads, Replies, Stands, Takes, standing}
use Rattle.vp_layout.specs.Truths.{number, need, AllNeed}
use Rattle.vp_layout.proofs.Writes.{keeps_all, keeps_fewer}
use Rattle.vp_layout.proofs.Kept.{are_below_more, constants_kept}
use Rattle.vp_layout.proofs.Cells.{stand_same}
use Rattle.vp_layout.proofs.HomeLaws.{cells_fit, homes_below, homes_count}
use Rattle.vp_layout.proofs.Running.{jumps, named}
use Rattle.vp_layout.proofs.Taking.{stand_rest}
use Rattle.vp_layout.proofs.Replying.{acted_on, acted_replies, halted_replies, keeping_on, passed_replies, replies_after}
use Rattle.vp_gen.specs.FormCode.{form_code}
use Rattle.vp_gen.specs.CheckCode.{checks_code}
use Rattle.vp_gen.specs.SandboxCode.{words_code, init_code, fallback_code, chosen_code, test_code, choice_code, sense_code, head_of, sense_of, code_of}
use Rattle.vp_gen.proofs.Powers.{Fits}
use Rattle.vp_gen.proofs.Formulas.{Ready, ready_after, form_holds}
use Rattle.vp_gen.proofs.Checks.{form_runs, checks_lead}
use Rattle.vp_gen.proofs.Known.{Known}
use Rattle.vp_gen.proofs.Words.{length-words, words_lead}

-- what the code of a sandbox needs of it
pub record Compiles (s : Sandbox) : Type 0 where
  pub counts : IsValid s.counts
  pub init : AllNeed 16 (map tree s.init)
  pub ctrl : need (tree s.ctrl) ≤ 16
  pub plant : AllNeed 16 (map tree s.plant)
  pub words : length s.fallback ≡ s.counts.controls
  pub fallback : PolysFit (in_init s.counts) s.fallback

-- The parts of the code stand at their places.

has_all : (law : Runs) (code : Code) → HasAt code 0 code.instrs
has_all law code = law.piece code [] code.instrs [] (sym (nil_right code.instrs))

has_init : (law : Runs) (s : Sandbox) → HasAt (code_of s) 0 (init_code s)
has_init law s = law.front (code_of s) 0 (init_code s) _ (has_all law (code_of s))

has_rest : (law : Runs) (s : Sandbox) → HasAt (code_of s) (head_of s) (choice_code s (head_of s) ++ sense_code s (head_of s) (sense_of s))
has_rest law s =
    let at : 0 + head_of s ≡ head_of s = omega arith in
    subst (λ p. HasAt (code_of s) p (choice_code s (head_of s) ++ sense_code s (head_of s) (sense_of s))) at
    (law.back (code_of s) 0 (init_code s) (choice_code s (head_of s) ++ sense_code s (head_of s) (sense_of s)) (has_all law (code_of s)))

pub has_choice : (law : Runs) (s : Sandbox) → HasAt (code_of s) (head_of s) (choice_code s (head_of s))
has_choice law s = law.front (code_of s) (head_of s) (choice_code s (head_of s)) _ (has_rest law s)

has_sense : (law : Runs) (s : Sandbox) → HasAt (code_of s) (sense_of s) (sense_code s (head_of s) (sense_of s))
has_sense law s = law.back (code_of s) (head_of s) (choice_code s (head_of s)) _ (has_rest law s)

-- where the truth of a choice is known, and where the choice is actuated
abbrev pub test_end : Sandbox → ℕ
test_end s = head_of s + length (test_code s)

abbrev pub chosen_place : Sandbox → ℕ
chosen_place s = test_end s + 1 + length (fallback_code s (test_end s + 1)) + 1

-- what follows the fallback's words, and what follows the truth of a choice
abbrev pub after_fallback : Sandbox → List Instr
after_fallback s = Jmp (chosen_place s + length (chosen_code s)) ∷ chosen_code s

abbrev pub branches : Sandbox → List Instr
branches s = Jge 84 66 (chosen_place s) ∷ (fallback_code s (test_end s + 1) ++ after_fallback s)

pub chosen_end : (s : Sandbox) → chosen_place s + length (chosen_code s) ≡ sense_of s
chosen_end s = omega (arith, length-append (test_code s) (branches s), length-append (fallback_code s (test_end s + 1)) (after_fallback s))

-- the conjuncts of a monitor, and what follows those of the plant
abbrev init_checks : Sandbox → List Instr
init_checks s = checks_code 5 84 (mon_of monitor.Init) 1 (map tree s.init) (homes_of s.counts)

abbrev plant_checks : Sandbox → List Instr
plant_checks s = checks_code (sense_of s + 5) 84 (mon_of monitor.Plant) 1 (map tree s.plant) (homes_of s.counts)

abbrev tested_end : Sandbox → ℕ
tested_end s = sense_of s + 5 + length (plant_checks s)

abbrev round_end : Sandbox → List Instr
round_end s = copies (state_cell s.counts) (next_state_cell s.counts) (2 * s.counts.states) ++ Jmp (head_of s) ∷ []

-- each record is taken at its place
pub takes : (law : Runs) (s : Sandbox) → Takes (code_of s) (sense_of s)
takes law s =
    let code = code_of s in
    let n = s.counts in
    record {
      init = law.front code 0 (take_code n kind.Init) (init_checks s) (has_init law s);
      choice = law.front code (head_of s) (take_code n kind.Choice) (form_code 84 (tree s.ctrl) (homes_of n))
          (law.front code (head_of s) (test_code s) (branches s) (has_choice law s));
      sensing = law.front code (sense_of s) (take_code n kind.Sense) (plant_checks s ++ round_end s) (has_sense law s);
    }

-- cells from which forms are worked out
ready : (s : Sandbox) (boxes : List Ends) (c : List ℤ) → IsValid s.counts → Keeping (code_of s) boxes c → Constants c → Ready 84 (16 + 12) (homes_of s.counts) c
ready s boxes c v k constants = record {
  above = omega arith;
  room = omega (arith, k.long);
  constants = constants;
  homes = are_below_more 65 84 (homes_of s.counts) (omega arith) (homes_below s.counts v);
}

kept : (s : Sandbox) (boxes : List Ends) (c c' : List ℤ) (d : ℕ) → 65 ≤ d → IsValid s.counts → Keeps d c c' → Keeping (code_of s) boxes c → Keeping (code_of s) boxes c'
kept s boxes c c' d le v keeps k = keeping_on (code_of s) boxes c c' v (keeps_fewer 65 d c c' le keeps) k

-- An init record.

init_end : (known : Known) (s : Sandbox) (boxes : List Ends) (c : List ℤ) (o : Option (ℕ × Truth)) → IsValid s.counts → Keeping (code_of s) boxes c
    → Leads (code_of s) 84 c 5 (head_of s) (named (mon_of monitor.Init) o) → Replies (code_of s) (sense_of s) (standing c 5) (init_verdict boxes o)
init_end known s boxes c None v k l = passed_replies (code_of s) (sense_of s) (standing c 5) boxes l.cells (takes known.runs s) l.comes (kept s boxes c l.cells 84 (omega arith) v l.keeps k)
init_end known s boxes c (Some r) v k l = halted_replies (code_of s) (sense_of s) (standing c 5) (mon.Init r.0 (is_unknown r.1)) (init_verdict boxes (Some r)) l refl refl

pub init_replies : (known : Known) (s : Sandbox) (boxes : List Ends) (m : MachineState) (ws : List ℤ) → Compiles s → Stands (code_of s) 0 boxes m
    → length ws ≡ field_count kind.Init s.counts → Replies (code_of s) (sense_of s) (step (code_of s) ws m) (init_answer s boxes ws)
init_replies known s boxes m ws ok tied count =
    let code = code_of s in
    let n = s.counts in
    let v = ok.counts in
    let t = known.taken code 0 kind.Init ws boxes m v (omega arith) count (takes known.runs s).init tied in
    let c = t.cells in
    let new = tested n kind.Init ws boxes in
    let checks = init_checks s in
    let at : 0 + 5 ≡ 5 = refl in
    let comes : Comes code (step code ws m) (standing c 5) = subst (λ p. Comes code (step code ws m) (standing c p)) at t.comes in
    let there : HasAt code 5 checks = known.runs.back code 0 (take_code n kind.Init) checks (has_init known.runs s) in
    let leads = checks_lead known.runs code 5 84 (mon_of monitor.Init) 1 16 (map tree s.init) (homes_of n) c (omega arith) ok.init (ready s new c v t.keeping t.constants) there in
    let end : 5 + length checks ≡ head_of s = omega (arith, length-append (take_code n kind.Init) checks) in
    let leads' : Leads code 84 c 5 (head_of s) (named (mon_of monitor.Init) (first_from 1 (truths new (map tree s.init)))) =
    subst (λ q. Leads code 84 c 5 q (named (mon_of monitor.Init) (first_from 1 (truths new (map tree s.init))))) end
    (subst (λ b. Leads code 84 c 5 (5 + length checks) (named (mon_of monitor.Init) (first_from 1 (truths b (map tree s.init))))) t.keeping.held leads) in
    replies_after known.runs code (sense_of s) (step code ws m) (standing c 5) (init_answer s boxes ws) comes (init_end known s new c (first_from 1 (truths new (map tree s.init))) v t.keeping leads')

-- A choice.

fallback_end : (known : Known) (s : Sandbox) (new : List Ends) (c : List ℤ) (o : Option (List ℤ)) → Compiles s → Keeping (code_of s) new c
    → Gains (code_of s) 68 c (test_end s + 1) (test_end s + 1 + length (words_code (test_end s + 1) 68 s.fallback (homes_of s.counts))) o
    → ((ws : List ℤ) → o ≡ Some ws → length ws ≡ s.counts.controls)
    → HasAt (code_of s) (test_end s + 1) (fallback_code s (test_end s + 1) ++ after_fallback s)
    → Replies (code_of s) (sense_of s) (standing c (test_end s + 1)) (fallback_verdict s new o)
fallback_end known s new c None ok k g count h = halted_replies (code_of s) (sense_of s) _ mon.Fallback (fallback_verdict s new None) g refl refl
fallback_end known s new c (Some ws) ok k g count h =
    let code = code_of s in
    let q = test_end s + 1 in
    let words = words_code q 68 s.fallback (homes_of s.counts) in
    let act = act_code s.counts true 68 in
    let fit : next_state_cell s.counts + 2 * s.counts.states ≤ 64 = cells_fit s.counts ok.counts in
    let k1 = kept s new c g.cells 68 (omega arith) ok.counts g.keeps k in
    let mine = known.runs.front code q (fallback_code s q) (after_fallback s) h in
    let a = known.acts code new g.cells ws (q + length words) 68 true ok.counts (count ws refl) (omega arith) (omega arith) (omega arith) k1 g.stand (known.runs.back code q words act mine) in
    let end : q + length words + length act ≡ q + length (fallback_code s q) = omega (arith, length-append words act) in
    let a1 : Acted code new ws true (standing g.cells (q + length words)) (q + length (fallback_code s q)) = subst (λ p. Acted code new ws true (standing g.cells (q + length words)) p) end a in
    let there = known.runs.back code q (fallback_code s q) (after_fallback s) h in
    let a2 = acted_on known.runs code new ws true (standing g.cells (q + length words)) (q + length (fallback_code s q)) (chosen_place s + length (chosen_code s)) there.0 a1 in
    let a3 : Acted code new ws true (standing g.cells (q + length words)) (sense_of s) = subst (λ p. Acted code new ws true (standing g.cells (q + length words)) p) (chosen_end s) a2 in
    replies_after known.runs code (sense_of s) _ _ _ g.comes (acted_replies code (sense_of s) _ new ws true (takes known.runs s) a3)

choice_end : (known : Known) (s : Sandbox) (old new : List Ends) (c ws : List ℤ) (t : Truth) → Compiles s → Keeping (code_of s) new c → Constants c → length ws ≡ s.counts.controls
    → StandAt c (next_control_cell s.counts) ws → cell c 84 ≡ number t → map (interval_of new) s.fallback ≡ map (interval_of old) s.fallback
    → HasAt (code_of s) (test_end s) (branches s)
    → Replies (code_of s) (sense_of s) (standing c (test_end s)) (choice_verdict s old new ws t)
choice_end known s old new c ws t ok k constants count stands is same h = by_truth t is
  where
    falls : (u : Truth) → cell c 84 ≡ number u → not (int_lt (number u) (pos 2)) ≡ false
        → Replies (code_of s) (sense_of s) (standing c (test_end s)) (fallback_verdict s new (point_words (map (interval_of old) s.fallback)))
    falls u is less =
        let code = code_of s in
        let q = test_end s + 1 in
        let one = jumps known.runs code 84 66 (chosen_place s) c (test_end s) false h.0 (rw (is, constants.two_is) less) in
        let fits : Fits 84 11 c = record { above = omega arith; room = omega (arith, k.long); zero_is = constants.zero_is } in
        let words = words_code q 68 s.fallback (homes_of s.counts) in
        let fit : next_state_cell s.counts + 2 * s.counts.states ≤ 64 = cells_fit s.counts ok.counts in
        let le : place_count s.counts ≤ 32 = ok.counts.2 in
        let homes : HomesAreBelow 68 (homes_of s.counts) = are_below_more 65 68 (homes_of s.counts) (omega arith) (homes_below s.counts ok.counts) in
        let mine = known.runs.front code q words (act_code s.counts true 68) (known.runs.front code q (fallback_code s q) (after_fallback s) h.1) in
        let g = words_lead known.runs code q 68 s.fallback (homes_of s.counts) c (omega arith) (omega (arith, ok.words)) fits homes mine in
        let told : map (interval_of (boxes_in c (homes_of s.counts))) s.fallback ≡ map (interval_of old) s.fallback = ap (λ b. map (interval_of b) s.fallback) k.held ∙ same in
        let g' : Gains code 68 c q (q + length words) (point_words (map (interval_of old) s.fallback)) =
        subst (λ vs. Gains code 68 c q (q + length words) (point_words vs)) told g in
        let size : (us : List ℤ) → point_words (map (interval_of old) s.fallback) ≡ Some us → length us ≡ s.counts.controls =
        λ us e. length-words (map (interval_of old) s.fallback) us e ∙ length-map s.fallback (interval_of old) ∙ ok.words in
        replies_after known.runs code (sense_of s) _ _ _ one (fallback_end known s new c (point_words (map (interval_of old) s.fallback)) ok k g' size h.1)

    by_truth : (u : Truth) → cell c 84 ≡ number u → Replies (code_of s) (sense_of s) (standing c (test_end s)) (choice_verdict s old new ws u)
    by_truth No is = falls No is refl
    by_truth Maybe is = falls Maybe is refl
    by_truth Yes is =
        let code = code_of s in
        let q = test_end s + 1 in
        let one = jumps known.runs code 84 66 (chosen_place s) c (test_end s) true h.0 (rw (is, constants.two_is) refl) in
        let fit : next_state_cell s.counts + 2 * s.counts.states ≤ 64 = cells_fit s.counts ok.counts in
        let there = known.runs.back code q (fallback_code s q) (after_fallback s) h.1 in
        let a = known.acts code new c ws (chosen_place s) (next_control_cell s.counts) false ok.counts count (omega arith) (omega arith) (omega arith) k stands there.1 in
        let a' : Acted code new ws false (standing c (chosen_place s)) (sense_of s) = subst (λ p. Acted code new ws false (standing c (chosen_place s)) p) (chosen_end s) a in
        replies_after known.runs code (sense_of s) _ _ _ one (acted_replies code (sense_of s) _ new ws false (takes known.runs s) a')

pub choice_replies : (known : Known) (s : Sandbox) (boxes : List Ends) (m : MachineState) (ws : List ℤ) → Compiles s → Stands (code_of s) (head_of s) boxes m
    → length ws ≡ s.counts.controls → Replies (code_of s) (sense_of s) (step (code_of s) ws m) (choice_answer s boxes ws)
choice_replies known s boxes m ws ok tied count =
    let code = code_of s in
    let n = s.counts in
    let v = ok.counts in
    let d = next_control_cell n in
    let fit : next_state_cell n + 2 * n.states ≤ 64 = cells_fit n v in
    let t = known.taken code (head_of s) kind.Choice ws boxes m v (omega arith) count (takes known.runs s).choice tied in
    let c1 = t.cells in
    let new = tested n kind.Choice ws boxes in
    let form = form_code 84 (tree s.ctrl) (homes_of n) in
    let c2 = after form c1 in
    let need_le : need (tree s.ctrl) ≤ 16 = ok.ctrl in
    let r1 = ready s new c1 v t.keeping t.constants in
    let held = form_holds (tree s.ctrl) 84 (homes_of n) (omega arith) c1 (ready_after 84 (16 + 12) 84 (need (tree s.ctrl) + 12) (homes_of n) c1 c1 (omega arith) (omega arith) r1 (keeps_all 84 c1)) in
    let k2 = kept s new c1 c2 84 (omega arith) v held.keeps t.keeping in
    let constants2 = constants_kept 84 c1 c2 (omega arith) held.keeps t.constants in
    let is : cell c2 84 ≡ number (truth new (tree s.ctrl)) = held.here ∙ ap (λ b. number (truth b (tree s.ctrl))) t.keeping.held in
    let words2 : StandAt c2 d ws = stand_same c1 c2 d ws (λ i le lt. held.keeps.below i (omega (arith, count))) t.stand in
    let long : first_next_state n ≤ length boxes =
    omega (arith, ap length (sym tied.keeping.held), length-map (homes_of n) (box_at tied.cells), homes_count n v, v.2) in
    let same = known.fallback n boxes ws s.fallback long ok.fallback in
    let h = has_choice known.runs s in
    let mine : HasAt code (head_of s + 5) form = known.runs.back code (head_of s) (take_code n kind.Choice) form (known.runs.front code (head_of s) (test_code s) (branches s) h) in
    let runs = form_runs known.runs code (head_of s + 5) 84 (tree s.ctrl) (homes_of n) c1 mine in
    let at : head_of s + 5 + length form ≡ test_end s = omega (arith, length-append (take_code n kind.Choice) form) in
    let runs' : Comes code (standing c1 (head_of s + 5)) (standing c2 (test_end s)) = subst (λ p. Comes code (standing c1 (head_of s + 5)) (standing c2 p)) at runs in
    replies_after known.runs code (sense_of s) _ _ _ t.comes
    (replies_after known.runs code (sense_of s) _ _ _ runs' (choice_end known s boxes new c2 ws (truth new (tree s.ctrl)) ok k2 constants2 count words2 is same (known.runs.back code (head_of s) (test_code s) (branches s) h)))

-- A sensing.

sense_end : (known : Known) (s : Sandbox) (new : List Ends) (c us : List ℤ) (o : Option (ℕ × Truth)) → IsValid s.counts → Keeping (code_of s) new c
    → length us ≡ 2 * s.counts.states → StandAt c (next_state_cell s.counts) us → HasAt (code_of s) (tested_end s) (round_end s)
    → Leads (code_of s) 84 c (sense_of s + 5) (tested_end s) (named (mon_of monitor.Plant) o)
    → Replies (code_of s) (sense_of s) (standing c (sense_of s + 5)) (sense_verdict s new us o)
sense_end known s new c us (Some r) v k count stands h l = halted_replies (code_of s) (sense_of s) _ (mon.Plant r.0 (is_unknown r.1)) (sense_verdict s new us (Some r)) l refl refl
sense_end known s new c us None v k count stands h l =
    let code = code_of s in
    let n = s.counts in
    let fit : next_state_cell n + 2 * n.states ≤ 64 = cells_fit n v in
    let k2 = kept s new c l.cells 84 (omega arith) v l.keeps k in
    let words2 : StandAt l.cells (next_state_cell n) us = stand_same c l.cells (next_state_cell n) us (λ i le lt. l.keeps.below i (omega (arith, count))) stands in
    replies_after known.runs code (sense_of s) _ _ _ l.comes (known.states code (sense_of s) new l.cells us (tested_end s) v (takes known.runs s) k2 (omega arith) count words2 h)

pub sense_replies : (known : Known) (s : Sandbox) (boxes : List Ends) (m : MachineState) (ws : List ℤ) → Compiles s → Stands (code_of s) (sense_of s) boxes m
    → length ws ≡ 2 + 2 * s.counts.states → Replies (code_of s) (sense_of s) (step (code_of s) ws m) (sense_answer s boxes ws)
sense_replies known s boxes m ws ok tied count =
    let code = code_of s in
    let n = s.counts in
    let v = ok.counts in
    let t = known.taken code (sense_of s) kind.Sense ws boxes m v (omega arith) count (takes known.runs s).sensing tied in
    let c = t.cells in
    let new = tested n kind.Sense ws boxes in
    let h = has_sense known.runs s in
    let there : HasAt code (sense_of s + 5) (plant_checks s ++ round_end s) = known.runs.back code (sense_of s) (take_code n kind.Sense) (plant_checks s ++ round_end s) h in
    let leads = checks_lead known.runs code (sense_of s + 5) 84 (mon_of monitor.Plant) 1 16 (map tree s.plant) (homes_of n) c (omega arith) ok.plant (ready s new c v t.keeping t.constants)
    (known.runs.front code (sense_of s + 5) (plant_checks s) (round_end s) there) in
    let leads' : Leads code 84 c (sense_of s + 5) (tested_end s) (named (mon_of monitor.Plant) (first_from 1 (truths new (map tree s.plant)))) =
    subst (λ b. Leads code 84 c (sense_of s + 5) (tested_end s) (named (mon_of monitor.Plant) (first_from 1 (truths b (map tree s.plant))))) t.keeping.held leads in
    let rest = stand_rest c n ws count t.stand in
    replies_after known.runs code (sense_of s) _ _ _ t.comes
    (sense_end known s new c (drop 2 ws) (first_from 1 (truths new (map tree s.plant))) v t.keeping rest.count rest.stand (known.runs.back code (sense_of s + 5) (plant_checks s) (round_end s) there) leads')
