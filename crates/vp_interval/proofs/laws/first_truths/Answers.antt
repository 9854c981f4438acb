use Rattle.std.proofs.Common.{sym}
use Rattle.vp_interval.proofs.Verdicts.{none_first, first_none, some_exactly}
use Rattle.vp_interval.proofs.laws.first_truths.Goals as goal

pub returns : goal.returns
returns c = record { none = λ ts. (none_first 1 ts, first_none 1 ts); some = λ ts k t e. some_exactly k t ts (sym e) }
