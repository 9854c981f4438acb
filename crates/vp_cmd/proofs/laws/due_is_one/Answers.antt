use Rattle.vp_cmd.proofs.OneDue.{images_alike, one_due}
use Rattle.vp_cmd.proofs.laws.due_is_one.Goals as goal

pub returns : goal.returns
returns c = record {
  one = one_due c.one_verdict.ensures.refused c.one_verdict.ensures.apart c.one_reading.ensures.packages c.one_listing.ensures c.one_sandbox.ensures c.alike_sandboxes_agree.ensures;
  images = images_alike c.one_verdict.ensures.refused c.one_verdict.ensures.apart c.one_reading.ensures.packages c.one_sandbox.ensures c.alike_sandboxes_agree.ensures;
}
