use Rattle.vp_cmd.proofs.Files.{passed_size}
use Rattle.vp_cmd.proofs.Guarding.{image_made}
use Rattle.vp_cmd.proofs.packages.image_of.Goals as goal

pub returns-clause-made : goal.returns-clause-made
returns-clause-made c =
    image_made c.image_with.result (λ v. v.items) c.args.text.now c.in_ok-prepared.prepared.package c.in_ok-prepared.prepared.obligations c.in_ok-prepared.prepared.sandbox
    c.in_ok-prepared.ensures.opened c.in_ok-prepared.ensures.made c.in_ok-prepared.ensures.guarded c.image_with.ensures.made c.image_with.ensures.room

pub returns-clause-halted : goal.returns-clause-halted
returns-clause-halted c =
    passed_size c.image_with.result c.args.text.now c.in_ok-prepared.prepared.package c.in_ok-prepared.prepared.obligations c.in_ok-prepared.prepared.sandbox
    c.in_ok-prepared.ensures.opened c.in_ok-prepared.ensures.made c.image_with.ensures.halted
