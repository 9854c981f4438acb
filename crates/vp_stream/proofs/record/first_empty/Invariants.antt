use Rattle.std.proofs.Common.{◌≡◌, ◌+◌, ◌-◌, ◌*◌, length}
use Rattle.vp_stream.specs.Reading.{first_empty}
use Rattle.vp_stream.proofs.record.first_empty.Given as goal

abbrev pub invariant-loop-pair : goal.invariant-loop-pair
invariant-loop-pair l = record {
  number : l.number ≡ 1 + 2 * l._pair;
  left : length l.rest + 2 * l._pair ≡ length l.words;
  rest : first_empty (l.pairs - l._pair) l.number l.rest ≡ first_empty l.pairs 1 l.words;
}
