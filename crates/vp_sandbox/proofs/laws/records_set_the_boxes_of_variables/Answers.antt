use Rattle.vp_sandbox.proofs.Answered.{tested_boxes, tested_others, after_boxes}
use Rattle.vp_sandbox.proofs.laws.records_set_the_boxes_of_variables.Goals as goal

pub returns : goal.returns
returns c = record {
  tested = tested_boxes;
  others = tested_others;
  after = λ s st kind words fits size d e v h. after_boxes s fits.counts fits.fallback_count st.boxes size words v h st.due kind d e;
}
