use Rattle.vp_vm_tests.proofs.tests.guard_passes.Given as goal

abbrev pub ghosts-answers : goal.ghosts-answers
ghosts-answers g a = record { name = a.blank.name; parts = a.blank.parts }
