-- An inductive invariant gives the model's claim.
use Rattle.std.proofs.Common.{List, [], ◌∷◌}
use Rattle.vp_terms.specs.Control.{Values}
use Rattle.vp_terms.specs.Model.{Model, IsInductive, Round, SampledRun, EachIsSafe, Claim}

rounds_are_safe : (m : Model) (p x u : Values) (rounds : List Round) → IsInductive m → m.inv p x u → SampledRun m p x u rounds → EachIsSafe m p rounds
rounds_are_safe m p x u [] inductive inv run = tt
rounds_are_safe m p x u (r ∷ rs) inductive inv run =
    let kept = inductive.kept p x u r.controls r.states r.time inv run.0 run.1 in
    (inductive.is_safe p r.states r.controls kept, rounds_are_safe m p r.states r.controls rs inductive kept run.2)

pub inductive_claims : (m : Model) → IsInductive m → Claim m
inductive_claims m inductive p x u rounds init run =
    let inv = inductive.starts p x u init in
    (inductive.is_safe p x u inv, rounds_are_safe m p x u rounds inductive inv run)
