use Rattle.std.proofs.Common.{map}
use Rattle.vp_interval.specs.Interval.{ends}
use Rattle.vp_interval.specs.Polynomial.{interval_of}
use Rattle.vp_sandbox.proofs.Pointing.{HasWords}
use Rattle.vp_sandbox.proofs.answering.fallback_words.Given as goal

abbrev pub invariant-loop-i : goal.invariant-loop-i
invariant-loop-i l = HasWords (interval_of (map ends l.boxes)) l.s.fallback l.i l.words
