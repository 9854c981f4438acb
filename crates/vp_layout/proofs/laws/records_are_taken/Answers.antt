use Rattle.vp_layout.proofs.Machines.{Runs}
use Rattle.vp_layout.proofs.Taking.{taken}
use Rattle.vp_layout.proofs.laws.records_are_taken.Goals as goal

pub returns : goal.returns
returns c =
    let runs : Runs = record {
      none = c.runs_compose.ensures.none;
      one = c.runs_compose.ensures.one;
      both = c.runs_compose.ensures.both;
      block = c.block_is_run.ensures;
      piece = c.blocks_split.ensures.piece;
      front = c.blocks_split.ensures.front;
      back = c.blocks_split.ensures.back;
    } in
    taken runs
