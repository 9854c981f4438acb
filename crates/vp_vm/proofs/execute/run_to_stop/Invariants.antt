use Rattle.std.proofs.Common.{◌≡◌, ◌⊎◌, ◌+◌, ◌-◌, ◌≤◌, true, false, length}
use Rattle.vp_words.specs.Record.{ActFits}
use Rattle.vp_isa.specs.Machine.{stopped, run_to_stop, steps_to_stop}
use Rattle.vp_isa.specs.Runs.{IsWithin}
use Rattle.vp_vm.specs.Parts.{state}
use Rattle.vp_vm.proofs.execute.run_to_stop.Given as goal

abbrev pub invariant-steps : goal.invariant-steps
invariant-steps g l = record {
  cells : length l.cells ≡ l.code.cells;
  act : ActFits l.reply;
  within : IsWithin l.code (state l.cells l.at l.reply);
  behind : (stopped l.code (state l.cells l.at l.reply) ≡ true) ⊎ (l.ran ≤ l.at.place);
  few : l.ran ≤ length l.code.instrs;
  runs : run_to_stop l.code (length l.code.instrs - l.ran) (state l.cells l.at l.reply)
      ≡ run_to_stop l.code (length l.code.instrs) (state l.fn.cells (record { place = l.start; ended = false }) l.fn.reply);
  count : steps_to_stop l.code (length l.code.instrs - l.ran) (state l.cells l.at l.reply) + l.ran
      ≡ steps_to_stop l.code (length l.code.instrs) (state l.fn.cells (record { place = l.start; ended = false }) l.fn.reply);
  ledger : l.steps ≡ l.fn.steps + l.ran;
}

abbrev pub decreases-steps : goal.decreases-steps
decreases-steps g l = length l.code.instrs - l.ran
