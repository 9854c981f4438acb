use Rattle.std.proofs.Common.{◌≡◌, ◌+◌, drop}
use Rattle.vp_stream.specs.Reading.{first_empty}
use Rattle.vp_stream.proofs.record.first_infinite.Given as goal

abbrev pub invariant-loop-word : goal.invariant-loop-word
invariant-loop-word l = record {
  number : l.number ≡ l.first + l.word-index;
  rest : first_empty 0 l.number (drop l.word-index l.words) ≡ first_empty 0 l.first l.words;
}
