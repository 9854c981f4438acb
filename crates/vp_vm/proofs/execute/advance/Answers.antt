use Rattle.vp_vm.proofs.execute.advance.Goals as goal

pub execute-requires-clause-fits : goal.execute-requires-clause-fits
execute-requires-clause-fits g c = rw c.requires.cells (c.requires.valid.each _ _ c.instr_at-instr.ensures).cells
