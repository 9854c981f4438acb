use Rattle.std.proofs.Common.{◌≡◌, ◌+◌, ◌*◌, ◌≤◌, ◌++◌, length, take}
use Rattle.std.specs.List.{flat_map}
use Rattle.vp_stream.specs.Printing.{spaced_word}
use Rattle.vp_stream.proofs.reply.append_words.Given as goal

abbrev pub invariant-loop-word : goal.invariant-loop-word
invariant-loop-word l = record {
  end : l.at ≡ l.start + length (flat_map spaced_word (take l.word-index l.words));
  short : l.at ≤ l.start + 21 * l.word-index;
  text : take l.at l.out ≡ take l.start l.fn.out ++ flat_map spaced_word (take l.word-index l.words);
}
