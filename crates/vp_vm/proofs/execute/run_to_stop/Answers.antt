use Rattle.std.proofs.Common.{◌≡◌, ◌-◌, ◌+◌, ◌<◌, ◌≤◌, true, false, length, [], ap, sym, subst, ◌∙◌, inl, inr, arith}
use Rattle.vp_isa.specs.Machine.{MachineState, run_to_stop, steps_to_stop, step, stopped}
use Rattle.vp_isa.specs.Runs.{IsWithin}
use Rattle.vp_isa.proofs.Runs.{moves_from, step_leads, run_step, steps_step}
use Rattle.vp_vm.specs.Parts.{state}
use Rattle.vp_vm.proofs.execute.run_to_stop.Goals as goal

pub steps-preserved : goal.steps-preserved
steps-preserved g c =
    let code = c.args.code.now in
    let len = length c.args.code.now.instrs in
    let now : MachineState = state c.steps.cells c.steps.at c.steps.reply in
    let then : MachineState = state c.advance-at.new.cells c.advance-at.result c.advance-at.new.reply in
    let moving : stopped code now ≡ false = sym c.has_stopped.ensures ∙ c.steps-test.true in
    let on : c.steps.at.ended ≡ false = (moves_from code now moving).on in
    let place : c.steps.at.place < len = c.steps.invariant.within on in
    let behind : c.steps.ran ≤ c.steps.at.place = elim c.steps.invariant.behind [ inl stop ↦ absurd cc | inr past ↦ past ] in
    let more : 0 < len - c.steps.ran = omega (arith, place, behind) in
    let fewer : len - (c.steps.ran + 1) ≡ (len - c.steps.ran) - 1 = omega arith in
    let stepped : step code [] now ≡ then =
    ap (λ e. step code [] (state c.steps.cells (record { place = c.steps.at.place; ended = e }) c.steps.reply)) on ∙ c.advance-at.ensures.state in
    let leads = step_leads code now c.requires.valid c.steps.invariant.within moving in
    let count : steps_to_stop code (len - c.steps.ran) now ≡ steps_to_stop code (len - (c.steps.ran + 1)) then + 1 =
    steps_step code (len - c.steps.ran) now more moving
    ∙ ap (λ s. steps_to_stop code ((len - c.steps.ran) - 1) s + 1) stepped
    ∙ ap (λ n. steps_to_stop code n then + 1) (sym fewer) in
    record {
      cells = c.advance-at.auto.cells ∙ c.steps.invariant.cells;
      act = c.advance-at.ensures.act;
      within = subst (λ n. IsWithin code n) stepped leads.within;
      behind = elim leads.moved [ inl stop ↦ inl (subst (λ n. stopped code n ≡ true) stepped stop) | inr forward ↦ inr (omega (arith, behind, ap (λ (s : MachineState). s.place) stepped)) ];
      few = omega (arith, place, behind);
      runs = ap (λ n. run_to_stop code n then) fewer ∙ ap (run_to_stop code ((len - c.steps.ran) - 1)) (sym stepped)
          ∙ sym (run_step code (len - c.steps.ran) now more moving) ∙ c.steps.invariant.runs;
      count = omega (arith, count, c.steps.invariant.count);
      ledger = omega (arith, c.advance-at.ensures.steps, c.steps.invariant.ledger);
    }
