use Rattle.vp_stream.proofs.OneLine.{reply_is_line}
use Rattle.vp_stream.proofs.laws.reply_is_one_line.Goals as goal

pub returns : goal.returns
returns c = reply_is_line c.texts_of_words.ensures
