use Rattle.vp_terms.proofs.Unique.{same_num, same_den}
use Rattle.vp_terms.proofs.laws.lowest_terms_are_unique.Goals as goal

pub returns : goal.returns
returns c = record { num = same_num c.args.a c.args.b c.requires; den = same_den c.args.a c.args.b c.requires }
