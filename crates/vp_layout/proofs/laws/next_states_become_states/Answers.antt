use Rattle.vp_layout.proofs.Machines.{Runs}
use Rattle.vp_layout.proofs.Replying.{states_reply}
use Rattle.vp_layout.proofs.laws.next_states_become_states.Goals as goal

pub returns : goal.returns
returns c =
    let runs : Runs = record {
      none = c.runs_compose.ensures.none;
      one = c.runs_compose.ensures.one;
      both = c.runs_compose.ensures.both;
      block = c.block_is_run.ensures;
      piece = c.blocks_split.ensures.piece;
      front = c.blocks_split.ensures.front;
      back = c.blocks_split.ensures.back;
    } in
    states_reply runs
