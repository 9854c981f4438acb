use Rattle.std.proofs.lemmas.Result.{err_from_is_err_and}
use Rattle.vp_synth.proofs.Accepted.{accepted, own_never_met, refused_by}
use Rattle.vp_synth.proofs.accepting.accept.Goals as goal

pub returns-clause-passes : goal.returns-clause-passes
returns-clause-passes c =
    accepted c.args.text.now c.in_ok-prepared.prepared.package c.in_ok-prepared.prepared.obligations c.get.result.now c.in_ok-prepared.prepared.sandbox c.get-2.result.now c.get.ensures c.get-2.ensures
    c.in_ok-prepared.ensures.package c.in_ok-prepared.ensures.made c.in_ok-certify.ensures.certifies

pub returns-clause-inductive : goal.returns-clause-inductive
returns-clause-inductive c =
    λ flow exact.
    c.in_ok-prepared.ensures.inductive flow exact (own_never_met c.in_ok-prepared.prepared.obligations c.get.result.now c.get.ensures c.in_ok-certify.ensures.sound)

pub returns-clause-claim : goal.returns-clause-claim
returns-clause-claim c =
    λ flow exact.
    c.inductive_models_keep_their_claim.ensures flow c.in_ok-prepared.prepared.package
    (c.in_ok-prepared.ensures.inductive flow exact (own_never_met c.in_ok-prepared.prepared.obligations c.get.result.now c.get.ensures c.in_ok-certify.ensures.sound))

pub returns-in_err-certify-clause-refused : goal.returns-in_err-certify-clause-refused
returns-in_err-certify-clause-refused c =
    let q = err_from_is_err_and c.from_residual-in_err-certify.result c.from_residual-in_err-certify.ensures.1 in
    rw q.1 (refused_by c.args.text.now c.in_ok-prepared.prepared.package c.in_ok-prepared.prepared.obligations c.get.result.now c.in_ok-prepared.prepared.sandbox c.get-2.result.now q.0 c.in_err-certify.field-0.0 c.get.ensures c.get-2.ensures
    c.in_ok-prepared.ensures.package c.in_ok-prepared.ensures.made q.2 c.in_err-certify.ensures.refused)
