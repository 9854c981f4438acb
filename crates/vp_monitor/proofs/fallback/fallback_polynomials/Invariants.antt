use Rattle.vp_monitor.proofs.Falling.{HaveCome}
use Rattle.vp_monitor.proofs.fallback.fallback_polynomials.Given as goal

abbrev pub invariant-loop-k : goal.invariant-loop-k
invariant-loop-k l = HaveCome l.counts l.pkg.fallback l.k l.all.items
