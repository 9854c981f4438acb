use Rattle.vp_words.proofs.Written.{text_tells, text_visible}
use Rattle.vp_words.proofs.laws.texts_of_words.Goals as goal

pub returns : goal.returns
returns c = record { told = text_tells; visible = text_visible }
