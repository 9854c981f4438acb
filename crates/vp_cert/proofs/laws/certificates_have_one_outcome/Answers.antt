use Rattle.vp_cert.proofs.OneRefusal.{Known, one_refusal, refuted_alone}
use Rattle.vp_cert.proofs.laws.certificates_have_one_outcome.Goals as goal

pub returns : goal.returns
returns c =
    let known : Known = record { symmetric = c.equality_is_equivalence.ensures.symmetric; transitive = c.equality_is_equivalence.ensures.transitive } in
    record { refuted_alone = refuted_alone known; refusals = one_refusal known }
