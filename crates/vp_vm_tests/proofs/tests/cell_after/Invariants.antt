use Rattle.vp_vm_tests.proofs.tests.cell_after.Given as goal

abbrev pub ghosts-answers : goal.ghosts-answers
ghosts-answers a = record { name = a.blank.name; parts = a.blank.parts }
