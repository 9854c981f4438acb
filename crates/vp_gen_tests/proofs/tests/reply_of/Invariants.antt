use Rattle.vp_gen_tests.proofs.tests.reply_of.Given as goal

abbrev pub ghosts-last_reply : goal.ghosts-last_reply
ghosts-last_reply a = record { name = a.blank.name; parts = a.blank.parts }
