-- A machine at work on a record.
use Rattle.std.proofs.Common.{◌≡◌, ℕ, zero, suc, ◌+◌, List, [], ◌∷◌, length, slice_get, Bool, true, false, cond, Option, Some, None, IfSome, ◌↔◌, refl, sym, ap, ◌∙◌, subst}
use Rattle.std.specs.Prelude.{ℤ, IsSomeAnd, IsTrue}
use Rattle.vp_words.specs.declared.record.Due.TheVariants as due
use Rattle.vp_words.specs.declared.record.Kind.{Kind}
use Rattle.vp_words.specs.Exchanges.{IsRecordOf, IsDueRecord, AreDue, state_after}
use Rattle.vp_words.specs.Record.{field_count, is_violation, kind_due}
use Rattle.vp_isa.specs.declared.code.Code.{Code}
use Rattle.vp_isa.specs.declared.instr.Instr.{Instr}
use Rattle.vp_isa.specs.declared.instr.Instr.TheVariants.{Take, Act, Halt}
use Rattle.vp_isa.specs.Valid.{IsValid, is_take}
use Rattle.vp_isa.specs.Answering.{machine_of}
use Rattle.vp_isa.specs.Machine.{MachineState, effect, step, stopped, run_to_stop, answer, due_of, HasDueCount, IsReady, IsStanding}
use Rattle.vp_isa.specs.Runs.{Comes, IsAtWork}
use Rattle.vp_isa.proofs.Runs.{moves_from, step_leads, effect_length, at_take, took_within, took_cells, answer_stands, ended_due}

-- a machine is ended exactly where its reply is a violation
abbrev pub Reports : MachineState → Type 0
Reports m = m.ended ≡ is_violation m.reply

effect_reports : (code : Code) (o : Option Instr) (m : MachineState) → is_take o ≡ false → m.ended ≡ false → Reports m → Reports (effect code [] o m)
effect_reports code None m h on r = r
effect_reports code (Some (Take kind d)) m h on r = absurd cc
effect_reports code (Some (Act fallback d)) m h on r = on
effect_reports code (Some (Halt mon)) m h on r = refl
effect_reports code (Some i) m h on r = r

run_reports : (code : Code) (n : ℕ) (m : MachineState) → Reports m → Reports (run_to_stop code n m)
run_reports code zero m r = r
run_reports code (suc n) m r = by_stop (stopped code m) refl (run_reports code n (step code [] m))
  where
    by_stop : (b : Bool) → stopped code m ≡ b → (Reports (step code [] m) → Reports (run_to_stop code n (step code [] m)))
        → Reports (cond (stopped code m) m (run_to_stop code n (step code [] m)))
    by_stop true e rest = rw e r
    by_stop false e rest =
        let moves = moves_from code m e in
        rw e (rest (effect_reports code (slice_get code.instrs m.place) m moves.no_take moves.on r))

took_reports : (code : Code) (words : List ℤ) (m : MachineState) → IsReady code m → Reports (step code words m)
took_reports code words m ready =
    let t = at_take code m ready.going ready.stands.stands in
    rw t.is_there (ready.going ∙ sym (ap is_violation ready.stands.reply))

-- an answer ends the machine exactly where it is a violation
pub answer_reports : (code : Code) (words : List ℤ) (m : MachineState) → IsReady code m → (answer code words m).next.ended ≡ is_violation (answer code words m).reply
answer_reports code words m ready = run_reports code (length code.instrs) (step code words m) (took_reports code words m ready)

pub violation_ends : (code : Code) (words : List ℤ) (m : MachineState) → IsReady code m → HasDueCount code m words
    → (due_of code (answer code words m).next ≡ due.Ended) ↔ IsTrue (is_violation (answer code words m).reply)
violation_ends code words m ready counted =
    let reports = answer_reports code words m ready in
    let ended = ended_due code (answer code words m).next (answer_stands code words m ready.valid ready.stands ready.going counted) in
    (λ h. sym reports ∙ ended.0 h, λ h. ended.1 (reports ∙ h))

-- A machine at work stays so.

work_step : (code : Code) (m : MachineState) → IsValid code → IsAtWork code m → stopped code m ≡ false → IsAtWork code (step code [] m)
work_step code m v a moving =
    let moves = moves_from code m moving in record {
      cells = effect_length code (slice_get code.instrs m.place) m moves.no_take ∙ a.cells;
      within = (step_leads code m v a.within moving).within;
      ended = effect_reports code (slice_get code.instrs m.place) m moves.no_take moves.on a.ended;
    }

pub work_run : (code : Code) (n : ℕ) (m : MachineState) → IsValid code → IsAtWork code m → IsAtWork code (run_to_stop code n m)
work_run code zero m v a = a
work_run code (suc n) m v a = by_stop (stopped code m) refl (work_run code n (step code [] m) v)
  where
    by_stop : (b : Bool) → stopped code m ≡ b → (IsAtWork code (step code [] m) → IsAtWork code (run_to_stop code n (step code [] m)))
        → IsAtWork code (cond (stopped code m) m (run_to_stop code n (step code [] m)))
    by_stop true e rest = rw e a
    by_stop false e rest = rw e (rest (work_step code m v a e))

pub work_took : (code : Code) (words : List ℤ) (m : MachineState) → IsReady code m → HasDueCount code m words → IsAtWork code (step code words m)
work_took code words m ready counted = record {
  cells = took_cells code words m ready.valid ready.stands ready.going counted;
  within = took_within code words m ready.valid ready.stands ready.going;
  ended = took_reports code words m ready;
}

pub work_comes : (code : Code) (m n : MachineState) → IsValid code → IsAtWork code m → Comes code m n → IsAtWork code n
work_comes code m n v a c = subst (λ s. IsAtWork code s) (c.by 0) (work_run code (c.steps + 0) m v a)

-- A machine stands after records that were due.

record_stands : (code : Code) (words : List ℤ) (m : MachineState) → IsValid code → IsStanding code m → IsDueRecord (machine_of code) m words → IsStanding code (answer code words m).next
record_stands code words m v s d = answer_stands code words m v s (going m.ended refl) (counted (kind_due (due_of code m)) d)
  where
    counted : (o : Option Kind) → IsSomeAnd o (λ kind. IsRecordOf code.counts kind words) → IfSome o (λ kind. length words ≡ field_count kind code.counts)
    counted None h = absurd h
    counted (Some kind) h = h.count

    going : (b : Bool) → m.ended ≡ b → m.ended ≡ false
    going false e = e
    going true e = absurd (rw e at d)

pub records_stand : (code : Code) (records : List (List ℤ)) (m : MachineState) → IsValid code → IsStanding code m → AreDue (machine_of code) m records → IsStanding code (state_after (machine_of code) m records)
records_stand code [] m v s d = s
records_stand code (words ∷ more) m v s d = records_stand code more (answer code words m).next v (record_stands code words m v s d.0) d.1
