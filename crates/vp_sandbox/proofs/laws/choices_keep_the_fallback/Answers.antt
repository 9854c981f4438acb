use Rattle.vp_sandbox.proofs.Falling.{same_fallback}
use Rattle.vp_sandbox.proofs.laws.choices_keep_the_fallback.Goals as goal

pub returns : goal.returns
returns c = λ n boxes words fallback long fits. same_fallback c.intervals_depend_on_places.ensures n boxes words long fallback fits
