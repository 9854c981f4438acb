use Rattle.vp_terms.specs.Model.{model_of}
use Rattle.vp_terms.proofs.Claims.{inductive_claims}
use Rattle.vp_terms.proofs.laws.inductive_models_keep_their_claim.Goals as goal

pub returns : goal.returns
returns c = λ flow pkg. inductive_claims (model_of flow pkg)
