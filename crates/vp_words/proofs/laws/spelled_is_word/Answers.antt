use Rattle.vp_words.proofs.Spelled.{spelled_word}
use Rattle.vp_words.proofs.laws.spelled_is_word.Goals as goal

pub returns : goal.returns
returns c = λ text z. spelled_word text z
