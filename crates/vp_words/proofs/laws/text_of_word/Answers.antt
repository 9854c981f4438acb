use Rattle.std.proofs.Common.{rules}
use Rattle.vp_words.specs.Number.{IsWord}
use Rattle.vp_words.proofs.Written.{text_read_back, text_some, text_room, text_visible}
use Rattle.vp_words.proofs.laws.text_of_word.Goals as goal

pub returns-clause-read_back : goal.returns-clause-read_back
returns-clause-read_back c = let w : IsWord c.args.word = search rules in text_read_back c.args.word w

pub returns-clause-some : goal.returns-clause-some
returns-clause-some c = let w : IsWord c.args.word = search rules in text_some c.args.word w

pub returns-clause-room : goal.returns-clause-room
returns-clause-room c = let w : IsWord c.args.word = search rules in text_room c.args.word w

pub returns-clause-visible : goal.returns-clause-visible
returns-clause-visible c = let w : IsWord c.args.word = search rules in text_visible c.args.word w
