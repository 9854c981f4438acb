use Rattle.vp_lex.proofs.Filling.{one_filling}
use Rattle.vp_lex.proofs.laws.one_tokenization.Goals as goal

pub returns : goal.returns
returns c = λ text r s a b. one_filling text r s a b
