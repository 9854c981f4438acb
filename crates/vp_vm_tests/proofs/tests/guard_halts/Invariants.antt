use Rattle.vp_vm_tests.proofs.tests.guard_halts.Given as goal

abbrev pub ghosts-turn_after : goal.ghosts-turn_after
ghosts-turn_after g a = record { name = a.blank.name; parts = a.blank.parts }
