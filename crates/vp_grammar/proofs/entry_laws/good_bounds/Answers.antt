use Rattle.vp_grammar.specs.declared.strays.Rule.TheVariants.{Slack}
use Rattle.vp_grammar.proofs.GoodEntries.{bounds_good}
use Rattle.vp_grammar.proofs.NoStrays.{all_enter}
use Rattle.vp_grammar.proofs.entry_laws.good_bounds.Goals as goal

pub returns : goal.returns
returns c = λ p ts ss s h. bounds_good p ts ss s (all_enter Slack p 0 ts h)
