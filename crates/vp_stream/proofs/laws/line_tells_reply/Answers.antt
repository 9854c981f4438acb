use Rattle.vp_stream.proofs.Telling.{reply_told}
use Rattle.vp_stream.proofs.laws.line_tells_reply.Goals as goal

pub returns : goal.returns
returns c = reply_told c.texts_of_words.ensures
