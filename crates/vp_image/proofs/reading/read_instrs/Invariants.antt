use Rattle.std.proofs.Common.{◌≡◌, ◌-◌, ◌*◌, ◌≤◌, length}
use Rattle.vp_image.specs.Image.{instrs_read}
use Rattle.vp_image.proofs.Loop.{with_front}
use Rattle.vp_image.proofs.reading.read_instrs.Given as goal

abbrev pub invariant-loop-at : goal.invariant-loop-at
invariant-loop-at l = record {
  long : 12 * (l.count - l.at) ≤ length l.rest;
  rest : with_front l.instrs.items (instrs_read (l.count - l.at) l.at l.rest) ≡ instrs_read l.count 0 l.bytes;
}
