use Rattle.vp_words.proofs.Enclosure.{negative_low_end, negative_high_end}
use Rattle.vp_words.proofs.laws.negative_of_ends.Goals as goal

pub returns-clause-fraction : goal.returns-clause-fraction
returns-clause-fraction c = λ n d h. (negative_low_end _ n d h.1, negative_high_end _ n d h.0)
