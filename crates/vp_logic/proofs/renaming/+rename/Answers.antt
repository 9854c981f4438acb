use Rattle.vp_logic.proofs.renaming.+rename.Goals as goal

pub rename-returns-in_ok-rename_atom-in-Atom-clause-only : goal.rename-returns-in_ok-rename_atom-in-Atom-clause-only
rename-returns-in_ok-rename_atom-in-Atom-clause-only t c = λ allowed kept h s. c.in_ok-rename_atom-in-Atom.ensures.only allowed kept (rw c.in-Atom.is at h) s
