use Rattle.std.proofs.Common.{◌≡◌, ◌++◌, map, drop, string_bytes}
use Rattle.vp_flow.specs.Matrix.{cell}
use Rattle.vp_flow.specs.Outcome.{named_where}
use Rattle.vp_flow.proofs.schedule.cycling.Given as goal

abbrev pub invariant-loop-k : goal.invariant-loop-k
invariant-loop-k l = map string_bytes l.names.items ++ named_where (λ i. cell l.reach i i) l.k (drop l.k l.states) ≡ named_where (λ i. cell l.reach i i) 0 l.states
