use Rattle.vp_stream.proofs.OneLine.{replies_told}
use Rattle.vp_stream.proofs.laws.text_tells_replies.Goals as goal

pub returns : goal.returns
returns c = replies_told c.texts_of_words.ensures
