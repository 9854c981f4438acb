use Rattle.vp_interval.proofs.Atoms.{below_more, sized_fits, parts_fit}
use Rattle.vp_interval.proofs.Fitting.{small_norm, all_places}
use Rattle.vp_interval.proofs.laws.small_forms_fit.Goals as goal

pub returns : goal.returns
returns c = record { small = small_norm; all_places = all_places; more_places = below_more; form = sized_fits; parts = parts_fit }
