use Rattle.vp_terms.proofs.Spots.{place_is_below, places_tell, each_place}
use Rattle.vp_terms.proofs.laws.places_tell_variables.Goals as goal

pub returns : goal.returns
returns c = record { in_range = place_is_below; different = places_tell; used = each_place }
