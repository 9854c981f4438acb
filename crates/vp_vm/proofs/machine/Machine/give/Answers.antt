use Rattle.std.proofs.Common.{◌≡◌, ◌+◌, ◌≤◌, List, false, length, ap, sym, ◌∙◌, subst, arith}
use Rattle.std.specs.Prelude.{ℤ}
use Rattle.vp_words.specs.declared.record.Reply.TheVariants.{Ok}
use Rattle.vp_isa.specs.declared.code.Code.{Code}
use Rattle.vp_isa.specs.Machine.{Running, HasDueCount, IsStanding, step, run_to_stop, steps_to_stop}
use Rattle.vp_vm.specs.Parts.{state}
use Rattle.vp_vm.proofs.Turns.{turn_stands, turn_bound, all_cells}
use Rattle.vp_vm.proofs.machine.Machine.give.Given.{Over}
use Rattle.vp_vm.proofs.machine.Machine.give.Goals as goal

-- what the TAKE does to the machine as it was
taken : (g : Over) (c : goal.After-at-2-1 g)
    → step c.self.inside.code c.args.words.now (state c.self.inside.cells.items c.self.inside.at Ok) ≡ state c.deref_mut-2.result.now (record { place = c.take_words-start.result; ended = false }) Ok
taken g c =
    let a = c.take_words-start.ensures in
    let long : length c.take_words-start.new.cells ≡ c.self.inside.cells.len =
    omega (arith, a.cells, c.deref_mut.ensures.len, ap length c.deref_mut.ensures.value, c.self.invariant.1.cells, ap (λ (k : Code). k.cells) c.code-code.ensures.code) in
    let whole = all_cells c.self.inside.cells.len c.take_words-start.new.cells _ long in
    ap (λ (k : Code). step k c.args.words.now (state c.self.inside.cells.items c.self.inside.at Ok)) (sym c.code-code.ensures.code)
    ∙ ap (λ e. step c.code-code.result.now c.args.words.now (state c.self.inside.cells.items (record { place = c.self.inside.at.place; ended = e }) Ok)) c.if-self.false
    ∙ ap (λ (cells : List ℤ). step c.code-code.result.now c.args.words.now (state cells (record { place = c.self.inside.at.place; ended = false }) Ok)) (sym c.deref_mut.ensures.value)
    ∙ a.state
    ∙ ap (λ (cells : List ℤ). state cells (record { place = c.take_words-start.result; ended = false }) Ok) (sym (c.deref_mut-2.ensures.value ∙ whole))

pub invariant_of-self : goal.invariant_of-self
invariant_of-self g c =
    let due : HasDueCount c.self.inside.code (state c.self.inside.cells.items c.self.inside.at Ok) c.args.words.now =
    subst (λ (r : Running). HasDueCount r.code r.state c.args.words.now) (sym c.self.view_is) c.requires in
    let ran = subst (λ (k : Code). run_to_stop k (length k.instrs) (state c.deref_mut-2.result.now (record { place = c.take_words-start.result; ended = false }) Ok) ≡ state c.run_to_stop-ran.new.cells c.run_to_stop-ran.result.0 c.run_to_stop-ran.new.reply) c.code-code.ensures.code c.run_to_stop-ran.ensures.state in
    let stands = turn_stands c.self.inside.code c.args.words.now _ _ _ c.self.invariant.0 c.self.invariant.1 c.if-self.false due (taken g c) ran in
    let whole = all_cells c.self.inside.cells.len c.run_to_stop-ran.new.cells _ (c.run_to_stop-ran.auto.cells ∙ c.deref_mut-2.ensures.len) in
    (c.self.invariant.0, subst (λ (cells : List ℤ). IsStanding c.self.inside.code (state cells c.run_to_stop-ran.result.0 Ok)) (sym whole) stands)

pub returns-clause-ran : goal.returns-clause-ran
returns-clause-ran g c = λ _.
    let count = subst (λ (k : Code). steps_to_stop k (length k.instrs) (state c.deref_mut-2.result.now (record { place = c.take_words-start.result; ended = false }) Ok) ≡ c.run_to_stop-ran.result.1) c.code-code.ensures.code c.run_to_stop-ran.ensures.ran in
    let bound : c.run_to_stop-ran.result.1 + 1 ≤ length c.self.inside.code.instrs = turn_bound c.self.inside.code c.args.words.now _ _ _ c.self.invariant.0 c.self.invariant.1 c.if-self.false (taken g c) count in
    subst (λ (r : Running). c.run_to_stop-ran.result.1 + 1 ≤ length r.code.instrs) c.self.view_is bound
