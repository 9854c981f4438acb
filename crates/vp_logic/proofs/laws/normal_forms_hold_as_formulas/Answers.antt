use Rattle.vp_logic.proofs.Holding.{holds_as}
use Rattle.vp_logic.proofs.laws.normal_forms_hold_as_formulas.Goals as goal

pub returns : goal.returns
returns c = λ p few x a at f t h ok i. holds_as p few x a at f t h ok i
