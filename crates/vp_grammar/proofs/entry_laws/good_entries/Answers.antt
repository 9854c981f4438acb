use Rattle.vp_terms.specs.WellFormed.{in_model}
use Rattle.vp_grammar.specs.declared.strays.Rule.TheVariants.{Flow, Fallback}
use Rattle.vp_grammar.proofs.GoodEntries.{rates_good, settings_good}
use Rattle.vp_grammar.proofs.NoStrays.{all_enter}
use Rattle.vp_grammar.proofs.entry_laws.good_entries.Goals as goal

pub returns-clause-rates : goal.returns-clause-rates
returns-clause-rates c = λ p w ts es s h. rates_good in_model p w ts es s (all_enter Flow p 0 ts h)

pub returns-clause-settings : goal.returns-clause-settings
returns-clause-settings c = λ p w ts es s h. settings_good in_model p w ts es s (all_enter Fallback p 0 ts h)
