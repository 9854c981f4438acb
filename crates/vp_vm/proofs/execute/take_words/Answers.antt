use Rattle.std.proofs.Common.{false, refl, arith}
use Rattle.vp_words.specs.declared.record.Reply.TheVariants.{Ok}
use Rattle.vp_isa.specs.Machine.{MachineState}
use Rattle.vp_vm.specs.Parts.{state}
use Rattle.vp_isa.proofs.Runs.{due_words, took}
use Rattle.vp_vm.proofs.execute.take_words.Goals as goal

pub slice_bounds-copy_from_slice-end : goal.slice_bounds-copy_from_slice-end
slice_bounds-copy_from_slice-end g c =
    let fits = (c.requires.valid.each c.args.place _ c.in-Take.ensures).cells in
    let m : MachineState = state c.args.cells.now (record { place = c.args.place; ended = false }) Ok in
    let count = due_words c.args.code.now m c.args.words.now _ _ refl c.in-Take.ensures c.requires.words in
    omega (arith, fits, count, c.requires.standing.cells)

pub returns-clause-within : goal.returns-clause-within
returns-clause-within g c = (took c.args.code.now c.args.words.now _ c.requires.valid c.requires.standing refl).2
