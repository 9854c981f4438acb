use Rattle.std.proofs.Common.{◌≡◌, ◌+◌, length, take}
use Rattle.vp_stream.specs.Lines.{fields_of}
use Rattle.vp_stream.specs.Reading.{words_of}
use Rattle.vp_stream.proofs.Words.{behind}
use Rattle.vp_stream.proofs.record.read_words.Given as goal

abbrev pub invariant-fields : goal.invariant-fields
invariant-fields l = record {
  counted : l.read + length (fields_of l.rest) ≡ length l.words;
  same : length l.words ≡ length l.fn.words;
  words : behind (take l.read l.words) (words_of (l.read + 1) (fields_of l.rest)) ≡ words_of 1 (fields_of l.line);
}

abbrev pub decreases-fields : goal.decreases-fields
decreases-fields l = length l.rest
