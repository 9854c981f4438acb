use Rattle.vp_layout.proofs.Answering.{agrees}
use Rattle.vp_layout.proofs.Machines.{Answers}
use Rattle.vp_layout.proofs.laws.codes_that_reply_agree.Goals as goal

pub returns : goal.returns
returns c =
    let answers : Answers = record {
      reply = c.run_is_answer.ensures.reply;
      next = c.run_is_answer.ensures.next;
      new = c.machine_stands.ensures.new;
      stands = c.machine_stands.ensures.next;
    } in
    λ s code sense valid takes counts replies. agrees answers s code sense valid takes replies counts
