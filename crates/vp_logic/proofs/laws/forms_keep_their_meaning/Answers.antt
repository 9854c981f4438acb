use Rattle.vp_logic.proofs.Lawful.{negated_holds}
use Rattle.vp_logic.proofs.Listing.{conjuncts_hold}
use Rattle.vp_logic.proofs.laws.forms_keep_their_meaning.Goals as goal

pub returns : goal.returns
returns c = record { negated = negated_holds; conjuncts = conjuncts_hold }
