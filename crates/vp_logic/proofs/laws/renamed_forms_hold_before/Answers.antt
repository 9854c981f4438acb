use Rattle.vp_logic.proofs.RenamedTruth.{holds_before}
use Rattle.vp_logic.proofs.laws.renamed_forms_hold_before.Goals as goal

pub returns : goal.returns
returns c = holds_before
