use Rattle.vp_terms.specs.WellFormed.{in_time}
use Rattle.vp_grammar.proofs.GoodEntries.{times_good}
use Rattle.vp_grammar.proofs.NoStrays.{all_stand}
use Rattle.vp_grammar.proofs.entry_laws.good_times.Goals as goal

pub returns : goal.returns
returns c = λ p e f ts s h. times_good p e f ts s (all_stand in_time p 0 ts h)
