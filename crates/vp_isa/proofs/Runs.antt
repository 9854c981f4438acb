-- Runs of the machine.
use Rattle.std.proofs.Common.{◌≡◌, ◌⊎◌, ℕ, zero, suc, ◌+◌, ◌-◌, ◌<◌, ◌≤◌, List, [], ◌∷◌, ◌++◌, length, slice_get, Bool, true, false, cond, not, ◌&&◌, ◌||◌, Option, Some, None, IfSome, ◌↔◌, inl, inr, refl, sym, ap, ◌∙◌, subst, arith, take, drop, length-append, append_assoc, length-drop}
use Rattle.std.specs.Prelude.{ℤ, pos, int_lt}
use Rattle.std.specs.Ordering.{int_eq}
use Rattle.std.proofs.Math.ListN.{length-set}
use Rattle.std.proofs.lemmas.List.{length-take, length-replicate}
use Rattle.vp_words.specs.declared.record.Kind.{Kind}
use Rattle.vp_words.specs.declared.record.Kind.TheVariants as kind
use Rattle.vp_words.specs.declared.record.Due.TheVariants.{Ended}
use Rattle.vp_words.specs.Record.{due_for, field_count, kind_due}
use Rattle.vp_isa.specs.declared.code.Code.{Code}
use Rattle.vp_isa.specs.declared.instr.Instr.{Instr}
use Rattle.vp_isa.specs.declared.instr.Instr.TheVariants.{Const, Copy, Neg, Min, Max, AddD, AddU, MulD, MulU, Jmp, Jge, Jgt, Jeq, Take, Act, Halt}
use Rattle.vp_isa.specs.Valid.{IsValid, IsFine, TargetFits, is_take, never_falls}
use Rattle.vp_isa.specs.Machine.{MachineState, cell, written, jump, effect, step, stopped, run_to_stop, steps_to_stop, answer, due_of, HasDueCount, IsStanding, fresh}
use Rattle.vp_isa.specs.Block.{is_plain, are_plain, after, HasAt}
use Rattle.vp_isa.specs.Runs.{Comes, IsWithin}

-- a stopped machine stays
pub run_stays : (code : Code) (n : ℕ) (m : MachineState) → stopped code m ≡ true → run_to_stop code n m ≡ m
run_stays code zero m h = refl
run_stays code (suc n) m h = rw h refl

pub steps_none : (code : Code) (n : ℕ) (m : MachineState) → stopped code m ≡ true → steps_to_stop code n m ≡ 0
steps_none code zero m h = refl
steps_none code (suc n) m h = rw h refl

-- one step of a run
pub run_step : (code : Code) (n : ℕ) (m : MachineState) → 0 < n → stopped code m ≡ false → run_to_stop code n m ≡ run_to_stop code (n - 1) (step code [] m)
run_step code zero m more h = absurd (omega arith)
run_step code (suc n) m more h = rw h (ap (λ k. run_to_stop code k (step code [] m)) (omega arith))

pub steps_step : (code : Code) (n : ℕ) (m : MachineState) → 0 < n → stopped code m ≡ false → steps_to_stop code n m ≡ steps_to_stop code (n - 1) (step code [] m) + 1
steps_step code zero m more h = absurd (omega arith)
steps_step code (suc n) m more h = rw h (ap (λ k. steps_to_stop code k (step code [] m) + 1) (omega arith))

-- more steps than lead to a stop change nothing
pub run_more : (code : Code) (n k : ℕ) (m : MachineState) → stopped code (run_to_stop code n m) ≡ true → run_to_stop code (n + k) m ≡ run_to_stop code n m
run_more code zero k m h = ap (λ i. run_to_stop code i m) (omega arith) ∙ run_stays code k m h
run_more code (suc n) k m h =
    let e : suc n + k ≡ suc (n + k) = omega arith in
    ap (λ i. run_to_stop code i m) e ∙ by_stop (stopped code m) h (λ g. run_more code n k (step code [] m) g)
  where
    by_stop : (b : Bool) → stopped code (cond b m (run_to_stop code n (step code [] m))) ≡ true
        → (stopped code (run_to_stop code n (step code [] m)) ≡ true → run_to_stop code (n + k) (step code [] m) ≡ run_to_stop code n (step code [] m))
        → cond b m (run_to_stop code (n + k) (step code [] m)) ≡ cond b m (run_to_stop code n (step code [] m))
    by_stop true g more = refl
    by_stop false g more = more g

-- where a step leads: on, to the head, or to an end
pub record Leads (code : Code) (from : ℕ) (n : MachineState) : Type 0 where
  pub within : IsWithin code n
  pub moved : (stopped code n ≡ true) ⊎ (from < n.place)

-- to the following place, after an instruction that can be followed
leads_on : (code : Code) (at : ℕ) (i : Instr) (n : MachineState) → at < length code.instrs → IsFine code at i → never_falls (Some i) ≡ false → n.place ≡ at + 1 → Leads code at n
leads_on code at i n lt fine falls e =
    let inside : at + 1 ≡ length code.instrs → ⊥ = λ last. absurd (true_is_false (sym (fine.falls last) ∙ falls)) in
    record { within = λ _. omega (arith, inside); moved = inr (omega arith) }
  where
    true_is_false : true ≡ false → ⊥
    true_is_false h = absurd cc

-- to the target of a jump
leads_to : (code : Code) (at t : ℕ) (n : MachineState) → IsValid code → TargetFits code at t → n.ended ≡ false → n.place ≡ t → Leads code at n
leads_to code at t n v fits on e = record {
  within = λ _. omega (arith, fits.within);
  moved = elim fits.forward [ inl forward ↦ inr (omega arith) | inr back ↦ inl (at_head (e ∙ back)) ];
}
  where
    at_head : n.place ≡ code.head → stopped code n ≡ true
    at_head h = rw (on, h) v.at_head

leads_if : (code : Code) (i : Instr) (t : ℕ) (test : Bool) (m : MachineState) → IsValid code → IsFine code m.place i → TargetFits code m.place t → never_falls (Some i) ≡ false → m.ended ≡ false → m.place < length code.instrs
    → Leads code m.place (jump test t m)
leads_if code i t true m v fine fits falls on lt = leads_to code m.place t (jump true t m) v fits on refl
leads_if code i t false m v fine fits falls on lt = leads_on code m.place i (jump false t m) lt fine falls refl

-- one instruction of valid code
pub effect_leads : (code : Code) (i : Instr) (m : MachineState) → IsValid code → IsFine code m.place i → is_take (Some i) ≡ false → m.ended ≡ false → m.place < length code.instrs
    → Leads code m.place (effect code [] (Some i) m)
effect_leads code (Const d w) m v fine moving on lt = leads_on code m.place (Const d w) _ lt fine refl refl
effect_leads code (Copy d a) m v fine moving on lt = leads_on code m.place (Copy d a) _ lt fine refl refl
effect_leads code (Neg d a) m v fine moving on lt = leads_on code m.place (Neg d a) _ lt fine refl refl
effect_leads code (Min d a b) m v fine moving on lt = leads_on code m.place (Min d a b) _ lt fine refl refl
effect_leads code (Max d a b) m v fine moving on lt = leads_on code m.place (Max d a b) _ lt fine refl refl
effect_leads code (AddD d a b) m v fine moving on lt = leads_on code m.place (AddD d a b) _ lt fine refl refl
effect_leads code (AddU d a b) m v fine moving on lt = leads_on code m.place (AddU d a b) _ lt fine refl refl
effect_leads code (MulD d a b) m v fine moving on lt = leads_on code m.place (MulD d a b) _ lt fine refl refl
effect_leads code (MulU d a b) m v fine moving on lt = leads_on code m.place (MulU d a b) _ lt fine refl refl
effect_leads code (Act fallback d) m v fine moving on lt = leads_on code m.place (Act fallback d) _ lt fine refl refl
effect_leads code (Jmp t) m v fine moving on lt = leads_to code m.place t _ v fine.target on refl
effect_leads code (Jge a b t) m v fine moving on lt = leads_if code (Jge a b t) t (not (int_lt (cell m.cells a) (cell m.cells b))) m v fine fine.target refl on lt
effect_leads code (Jgt a b t) m v fine moving on lt = leads_if code (Jgt a b t) t (int_lt (cell m.cells b) (cell m.cells a)) m v fine fine.target refl on lt
effect_leads code (Jeq a b t) m v fine moving on lt = leads_if code (Jeq a b t) t (int_eq (cell m.cells a) (cell m.cells b)) m v fine fine.target refl on lt
effect_leads code (Take kind d) m v fine moving on lt = absurd cc
effect_leads code (Halt mon) m v fine moving on lt = record { within = λ h. absurd cc; moved = inl refl }

-- what a machine that has not stopped is
pub record Moves (code : Code) (m : MachineState) : Type 0 where
  pub on : m.ended ≡ false
  pub no_take : is_take (slice_get code.instrs m.place) ≡ false

pub moves_from : (code : Code) (m : MachineState) → stopped code m ≡ false → Moves code m
moves_from code m h = by_parts m.ended (is_take (slice_get code.instrs m.place)) refl refl h
  where
    by_parts : (a b : Bool) → m.ended ≡ a → is_take (slice_get code.instrs m.place) ≡ b → (a || b) ≡ false → Moves code m
    by_parts true b e f h = absurd cc
    by_parts false true e f h = absurd cc
    by_parts false false e f h = record { on = e; no_take = f }

-- there is an instruction at each place of the code
record Found (is : List Instr) (at : ℕ) : Type 0 where
  instr : Instr
  is_there : slice_get is at ≡ Some instr

found : (is : List Instr) (at : ℕ) → at < length is → Found is at
found [] at lt = absurd (omega arith)
found (i ∷ is) zero lt = record { instr = i; is_there = refl }
found (i ∷ is) (suc at) lt = let rest = found is at (omega arith) in record { instr = rest.instr; is_there = rest.is_there }

pub step_leads : (code : Code) (m : MachineState) → IsValid code → IsWithin code m → stopped code m ≡ false → Leads code m.place (step code [] m)
step_leads code m v within h =
    let moves = moves_from code m h in
    let lt = within moves.on in
    let f = found code.instrs m.place lt in
    let no_take : is_take (Some f.instr) ≡ false = ap is_take (sym f.is_there) ∙ moves.no_take in
    subst (λ o. Leads code m.place (effect code [] o m)) (sym f.is_there) (effect_leads code f.instr m v (v.each m.place f.instr f.is_there) no_take moves.on lt)

-- a machine of valid code stops
pub stops : (code : Code) (n : ℕ) (m : MachineState) → IsValid code → IsWithin code m → length code.instrs ≤ m.place + n → stopped code (run_to_stop code n m) ≡ true
stops code zero m v within enough = by_end m.ended refl
  where
    by_end : (b : Bool) → m.ended ≡ b → stopped code m ≡ true
    by_end true e = rw e refl
    by_end false e = absurd (omega (arith, within e))
stops code (suc n) m v within enough = by_stop (stopped code m) refl (stops code n (step code [] m) v)
  where
    on_from : Leads code m.place (step code [] m)
        → (IsWithin code (step code [] m) → length code.instrs ≤ (step code [] m).place + n → stopped code (run_to_stop code n (step code [] m)) ≡ true)
        → stopped code (run_to_stop code n (step code [] m)) ≡ true
    on_from l rest = elim l.moved [
      | inl at_stop ↦ rw (run_stays code n (step code [] m) at_stop) at_stop
      | inr forward ↦ rest l.within (omega (arith, enough, forward))
    ]

    by_stop : (b : Bool) → stopped code m ≡ b
        → (IsWithin code (step code [] m) → length code.instrs ≤ (step code [] m).place + n → stopped code (run_to_stop code n (step code [] m)) ≡ true)
        → stopped code (cond (stopped code m) m (run_to_stop code n (step code [] m))) ≡ true
    by_stop true e rest = rw e e
    by_stop false e rest = rw e (on_from (step_leads code m v within e) rest)

-- in at most as many steps as there are instructions from its place on
pub steps_bound : (code : Code) (n : ℕ) (m : MachineState) → IsValid code → IsWithin code m → steps_to_stop code n m ≤ length code.instrs - m.place
steps_bound code zero m v within = omega arith
steps_bound code (suc n) m v within = by_stop (stopped code m) refl (steps_bound code n (step code [] m) v)
  where
    on_from : m.ended ≡ false → Leads code m.place (step code [] m)
        → (IsWithin code (step code [] m) → steps_to_stop code n (step code [] m) ≤ length code.instrs - (step code [] m).place)
        → steps_to_stop code n (step code [] m) + 1 ≤ length code.instrs - m.place
    on_from on l rest = elim l.moved [
      | inl at_stop ↦ omega (arith, steps_none code n (step code [] m) at_stop, within on)
      | inr forward ↦ omega (arith, rest l.within, forward, within on)
    ]

    by_stop : (b : Bool) → stopped code m ≡ b
        → (IsWithin code (step code [] m) → steps_to_stop code n (step code [] m) ≤ length code.instrs - (step code [] m).place)
        → cond (stopped code m) 0 (steps_to_stop code n (step code [] m) + 1) ≤ length code.instrs - m.place
    by_stop true e rest = rw e (omega arith)
    by_stop false e rest = rw e (on_from (moves_from code m e).on (step_leads code m v within e) rest)

-- Runs that compose.

pub no_steps : (code : Code) (m : MachineState) → Comes code m m
no_steps code m = record { steps = 0; by = λ k. ap (λ n. run_to_stop code n m) (omega arith) }

pub comes_on : (code : Code) (a b c : MachineState) → Comes code a b → Comes code b c → Comes code a c
comes_on code a b c f g = record {
  steps = f.steps + g.steps;
  by = λ k. let e : f.steps + g.steps + k ≡ f.steps + (g.steps + k) = omega arith in
      ap (λ n. run_to_stop code n a) e ∙ f.by (g.steps + k) ∙ g.by k;
}

pub one_step : (code : Code) (m : MachineState) → stopped code m ≡ false → Comes code m (step code [] m)
one_step code m h = record {
  steps = 1;
  by = λ k. let e : (1 + k) - 1 ≡ k = omega arith in
      run_step code (1 + k) m (omega arith) h ∙ ap (λ n. run_to_stop code n (step code [] m)) e;
}

-- a run that comes to a stop gives it
pub run_settles : (code : Code) (n : ℕ) (a b : MachineState) → stopped code (run_to_stop code n a) ≡ true → Comes code a b → stopped code b ≡ true → run_to_stop code n a ≡ b
run_settles code n a b stop c h =
    let e : n + c.steps ≡ c.steps + n = omega arith in
    sym (run_more code n c.steps a stop) ∙ ap (λ k. run_to_stop code k a) e ∙ c.by n ∙ run_stays code n b h

-- Blocks.

-- a piece of the code stands where it is
pub has_piece : (code : Code) (before block behind : List Instr) → code.instrs ≡ before ++ (block ++ behind) → HasAt code (length before) block
has_piece code before [] behind e = tt
has_piece code before (i ∷ block) behind e =
    let joined : (before ++ i ∷ []) ++ (block ++ behind) ≡ before ++ (i ∷ (block ++ behind)) = append_assoc before (i ∷ []) (block ++ behind) in
    let more : code.instrs ≡ (before ++ i ∷ []) ++ (block ++ behind) = e ∙ sym joined in
    let place : length (before ++ i ∷ []) ≡ length before + 1 = length-append before (i ∷ []) in (
      ap (λ (is : List Instr). slice_get is (length before)) e ∙ at_seam before (block ++ behind),
      subst (λ p. HasAt code p block) place (has_piece code (before ++ i ∷ []) block behind more),
    )
  where
    at_seam : (xs ys : List Instr) → slice_get (xs ++ i ∷ ys) (length xs) ≡ Some i
    at_seam [] ys = refl
    at_seam (x ∷ xs) ys = at_seam xs ys

pub has_front : (code : Code) (p : ℕ) (a b : List Instr) → HasAt code p (a ++ b) → HasAt code p a
has_front code p [] b h = tt
has_front code p (i ∷ a) b h = (h.0, has_front code (p + 1) a b h.1)

pub has_back : (code : Code) (p : ℕ) (a b : List Instr) → HasAt code p (a ++ b) → HasAt code (p + length a) b
has_back code p [] b h = let e : p ≡ p + 0 = omega arith in subst (λ n. HasAt code n b) e h
has_back code p (i ∷ a) b h =
    let e : p + 1 + length a ≡ p + length (i ∷ a) = omega arith in
    subst (λ n. HasAt code n b) e (has_back code (p + 1) a b h.1)

pub after-append : (a b : List Instr) (c : List ℤ) → after (a ++ b) c ≡ after b (after a c)
after-append [] b c = refl
after-append (i ∷ a) b c = after-append a b _

pub plain-append : (a b : List Instr) → are_plain (a ++ b) ≡ (are_plain a && are_plain b)
plain-append [] b = refl
plain-append (i ∷ a) b = ap (λ x. is_plain i && x) (plain-append a b) ∙ and_on (is_plain i) (are_plain a) (are_plain b)
  where
    and_on : (x y z : Bool) → (x && (y && z)) ≡ ((x && y) && z)
    and_on true y z = refl
    and_on false y z = refl

-- a plain instruction
plain_effect : (code : Code) (i : Instr) (m : MachineState) → is_plain i ≡ true → effect code [] (Some i) m ≡ record m { cells = written i m.cells; place = m.place + 1 }
plain_effect code (Const d w) m h = refl
plain_effect code (Copy d x) m h = refl
plain_effect code (Neg d x) m h = refl
plain_effect code (Min d x y) m h = refl
plain_effect code (Max d x y) m h = refl
plain_effect code (AddD d x y) m h = refl
plain_effect code (AddU d x y) m h = refl
plain_effect code (MulD d x y) m h = refl
plain_effect code (MulU d x y) m h = refl
plain_effect code (Jmp t) m h = absurd cc
plain_effect code (Jge x y t) m h = absurd cc
plain_effect code (Jgt x y t) m h = absurd cc
plain_effect code (Jeq x y t) m h = absurd cc
plain_effect code (Take kind d) m h = absurd cc
plain_effect code (Act fallback d) m h = absurd cc
plain_effect code (Halt mon) m h = absurd cc

plain_no_take : (i : Instr) → is_plain i ≡ true → is_take (Some i) ≡ false
plain_no_take (Take kind d) h = absurd cc
plain_no_take _ h = refl

both_true : (a b : Bool) → (a && b) ≡ true → (a ≡ true) × (b ≡ true)
both_true true b h = (refl, h)
both_true false b h = absurd cc

-- the machine runs a block
pub block_runs : (code : Code) (block : List Instr) (m : MachineState) → m.ended ≡ false → HasAt code m.place block → are_plain block ≡ true
    → Comes code m (record m { cells = after block m.cells; place = m.place + length block })
block_runs code [] m on h plain =
    let e : m.place ≡ m.place + 0 = omega arith in
    subst (λ n. Comes code m (record m { place = n })) e (no_steps code m)
block_runs code (i ∷ is) m on h plain =
    let parts = both_true (is_plain i) (are_plain is) plain in
    let next : MachineState = record m { cells = written i m.cells; place = m.place + 1 } in
    let moving : stopped code m ≡ false = rw on (ap is_take h.0 ∙ plain_no_take i parts.0) in
    let stepped : step code [] m ≡ next = ap (λ o. effect code [] o m) h.0 ∙ plain_effect code i m parts.0 in
    let one : Comes code m next = subst (λ n. Comes code m n) stepped (one_step code m moving) in
    let rest = block_runs code is next on h.1 parts.1 in
    let e : m.place + 1 + length is ≡ m.place + length (i ∷ is) = omega arith in
    subst (λ n. Comes code m (record m { cells = after (i ∷ is) m.cells; place = n })) e (comes_on code m next _ one rest)

-- Answers.

-- a machine that stands and isn't ended has a TAKE at its place
pub record AtTake (code : Code) (m : MachineState) : Type 0 where
  pub kind : Kind
  pub d : ℕ
  pub is_there : slice_get code.instrs m.place ≡ Some (Take kind d)

pub at_take : (code : Code) (m : MachineState) → m.ended ≡ false → stopped code m ≡ true → AtTake code m
at_take code m on h = by_instr (slice_get code.instrs m.place) refl
  where
    takes : is_take (slice_get code.instrs m.place) ≡ true
    takes = rw on at h

    by_instr : (o : Option Instr) → slice_get code.instrs m.place ≡ o → AtTake code m
    by_instr (Some (Take kind d)) e = record { kind = kind; d = d; is_there = e }
    by_instr None e = absurd cc
    by_instr (Some i) e = absurd cc

-- after its TAKE a machine of valid code stands in the code, behind its first place
pub took : (code : Code) (words : List ℤ) (m : MachineState) → IsValid code → IsStanding code m → m.ended ≡ false
    → ((step code words m).ended ≡ false) × ((step code words m).place ≡ m.place + 1) × (m.place + 1 < length code.instrs)
took code words m v s on =
    let t = at_take code m on s.stands in
    let fine = v.each m.place (Take t.kind t.d) t.is_there in
    let inside : m.place + 1 ≡ length code.instrs → ⊥ = λ last. absurd (true_is_false (sym (fine.falls last))) in
    rw t.is_there (on, refl, omega (arith, inside, s.within on))
  where
    true_is_false : true ≡ false → ⊥
    true_is_false h = absurd cc

pub took_within : (code : Code) (words : List ℤ) (m : MachineState) → IsValid code → IsStanding code m → m.ended ≡ false → IsWithin code (step code words m)
took_within code words m v s on = let t = took code words m v s on in λ _. omega (arith, t.1, t.2)

pub answer_stops : (code : Code) (words : List ℤ) (m : MachineState) → IsValid code → IsStanding code m → m.ended ≡ false
    → stopped code (run_to_stop code (length code.instrs) (step code words m)) ≡ true
answer_stops code words m v s on = stops code (length code.instrs) (step code words m) v (took_within code words m v s on) (omega arith)

-- the answer is the stop that the machine comes to
pub run_answers : (code : Code) (words : List ℤ) (m n : MachineState) → IsValid code → IsStanding code m → m.ended ≡ false → Comes code (step code words m) n → stopped code n ≡ true
    → run_to_stop code (length code.instrs) (step code words m) ≡ n
run_answers code words m n v s on c h = run_settles code (length code.instrs) (step code words m) n (answer_stops code words m v s on) c h

pub answer_bound : (code : Code) (words : List ℤ) (m : MachineState) → IsValid code → IsStanding code m → m.ended ≡ false → (answer code words m).ran ≤ length code.instrs
answer_bound code words m v s on =
    let t = took code words m v s on in
    omega (arith, steps_bound code (length code.instrs) (step code words m) v (took_within code words m v s on), t.1, t.2)

-- No step changes how many cells there are.

pub written_length : (i : Instr) (c : List ℤ) → length (written i c) ≡ length c
written_length (Const d w) c = length-set c d w
written_length (Copy d a) c = length-set c d _
written_length (Neg d a) c = length-set c d _
written_length (Min d a b) c = length-set c d _
written_length (Max d a b) c = length-set c d _
written_length (AddD d a b) c = length-set c d _
written_length (AddU d a b) c = length-set c d _
written_length (MulD d a b) c = length-set c d _
written_length (MulU d a b) c = length-set c d _
written_length (Jmp t) c = refl
written_length (Jge a b t) c = refl
written_length (Jgt a b t) c = refl
written_length (Jeq a b t) c = refl
written_length (Take kind d) c = refl
written_length (Act fallback d) c = refl
written_length (Halt mon) c = refl

pub effect_length : (code : Code) (o : Option Instr) (m : MachineState) → is_take o ≡ false → length (effect code [] o m).cells ≡ length m.cells
effect_length code None m h = refl
effect_length code (Some (Take kind d)) m h = absurd cc
effect_length code (Some (Jmp t)) m h = refl
effect_length code (Some (Jge a b t)) m h = refl
effect_length code (Some (Jgt a b t)) m h = refl
effect_length code (Some (Jeq a b t)) m h = refl
effect_length code (Some (Act fallback d)) m h = refl
effect_length code (Some (Halt mon)) m h = refl
effect_length code (Some (Const d w)) m h = written_length (Const d w) m.cells
effect_length code (Some (Copy d a)) m h = written_length (Copy d a) m.cells
effect_length code (Some (Neg d a)) m h = written_length (Neg d a) m.cells
effect_length code (Some (Min d a b)) m h = written_length (Min d a b) m.cells
effect_length code (Some (Max d a b)) m h = written_length (Max d a b) m.cells
effect_length code (Some (AddD d a b)) m h = written_length (AddD d a b) m.cells
effect_length code (Some (AddU d a b)) m h = written_length (AddU d a b) m.cells
effect_length code (Some (MulD d a b)) m h = written_length (MulD d a b) m.cells
effect_length code (Some (MulU d a b)) m h = written_length (MulU d a b) m.cells

run_length : (code : Code) (n : ℕ) (m : MachineState) → length (run_to_stop code n m).cells ≡ length m.cells
run_length code zero m = refl
run_length code (suc n) m = by_stop (stopped code m) refl (run_length code n (step code [] m))
  where
    by_stop : (b : Bool) → stopped code m ≡ b → length (run_to_stop code n (step code [] m)).cells ≡ length (step code [] m).cells
        → length (cond (stopped code m) m (run_to_stop code n (step code [] m))).cells ≡ length m.cells
    by_stop true e rest = rw e refl
    by_stop false e rest = rw e (rest ∙ effect_length code (slice_get code.instrs m.place) m (moves_from code m e).no_take)

spliced_length : (c words : List ℤ) (d : ℕ) → d + length words ≤ length c → length (take d c ++ words ++ drop (d + length words) c) ≡ length c
spliced_length c words d h = simp (length-append, length-take, length-drop) (omega arith)

-- the machine within the code, wherever it runs to
run_within : (code : Code) (n : ℕ) (m : MachineState) → IsValid code → IsWithin code m → IsWithin code (run_to_stop code n m)
run_within code zero m v within = within
run_within code (suc n) m v within = by_stop (stopped code m) refl (run_within code n (step code [] m) v)
  where
    by_stop : (b : Bool) → stopped code m ≡ b → (IsWithin code (step code [] m) → IsWithin code (run_to_stop code n (step code [] m)))
        → IsWithin code (cond (stopped code m) m (run_to_stop code n (step code [] m)))
    by_stop true e rest = rw e within
    by_stop false e rest = rw e (rest (step_leads code m v within e).within)

-- how many words the TAKE where a machine stands takes
pub due_words : (code : Code) (m : MachineState) (words : List ℤ) (k : Kind) (d : ℕ) → m.ended ≡ false → slice_get code.instrs m.place ≡ Some (Take k d) → HasDueCount code m words
    → length words ≡ field_count k code.counts
due_words code m words k d on e due = by_kind k (rw (on, e) at due)
  where
    by_kind : (k : Kind) → IfSome (kind_due (due_for k)) (λ j. length words ≡ field_count j code.counts) → length words ≡ field_count k code.counts
    by_kind kind.Init h = h
    by_kind kind.Choice h = h
    by_kind kind.Sense h = h

-- the TAKE leaves as many cells as there were
pub took_cells : (code : Code) (words : List ℤ) (m : MachineState) → IsValid code → IsStanding code m → m.ended ≡ false → HasDueCount code m words → length (step code words m).cells ≡ code.cells
took_cells code words m v s on due =
    let t = at_take code m on s.stands in
    let fine = v.each m.place (Take t.kind t.d) t.is_there in
    let count : length words ≡ field_count t.kind code.counts = due_words code m words t.kind t.d on t.is_there due in
    let long : length (step code words m).cells ≡ length m.cells = rw t.is_there (spliced_length m.cells words t.d (omega (arith, fine.cells, count, s.cells))) in
    long ∙ s.cells

pub fresh_stands : (code : Code) → IsValid code → IsStanding code (fresh code)
fresh_stands code v = record {
  cells = length-replicate code.cells (pos 0);
  within = λ _. v.some;
  stands = v.first;
  reply = refl;
}

pub answer_stands : (code : Code) (words : List ℤ) (m : MachineState) → IsValid code → IsStanding code m → m.ended ≡ false → HasDueCount code m words → IsStanding code (answer code words m).next
answer_stands code words m v s on due =
    let first = step code words m in
    record {
      cells = run_length code (length code.instrs) first ∙ took_cells code words m v s on due;
      within = run_within code (length code.instrs) first v (took_within code words m v s on);
      stands = answer_stops code words m v s on;
      reply = refl;
    }

pub ended_due : (code : Code) (m : MachineState) → IsStanding code m → (due_of code m ≡ Ended) ↔ (m.ended ≡ true)
ended_due code m s = (by_end m.ended refl, λ e. rw e refl)
  where
    no_kind : (k : Kind) → due_for k ≡ Ended → ⊥
    no_kind kind.Init h = absurd cc
    no_kind kind.Choice h = absurd cc
    no_kind kind.Sense h = absurd cc

    by_end : (b : Bool) → m.ended ≡ b → due_of code m ≡ Ended → m.ended ≡ true
    by_end true e h = e
    by_end false e h =
        let t = at_take code m e s.stands in
        absurd (no_kind t.kind (rw (e, t.is_there) at h))
