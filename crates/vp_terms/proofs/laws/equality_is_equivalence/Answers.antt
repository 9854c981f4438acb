use Rattle.vp_terms.proofs.RationalLaws.{Equals-refl, Equals-sym, Equals-trans}
use Rattle.vp_terms.proofs.laws.equality_is_equivalence.Goals as goal

pub returns : goal.returns
returns c = record { reflexive = Equals-refl; symmetric = Equals-sym; transitive = Equals-trans }
