use Rattle.std.proofs.Common.{◌≡◌, ℕ, ◌<◌, ◌-◌, get_or, length}
use Rattle.vp_monitor.specs.Exchange.{exchanging}
use Rattle.vp_monitor.proofs.exchange.exchange.Given as goal

abbrev pub invariant-loop-k : goal.invariant-loop-k
invariant-loop-k l = record { size : length l.to ≡ 32; each : (i : ℕ) → i < l.k → get_or l.to i 0 ≡ i }

abbrev pub invariant-loop-k-2 : goal.invariant-loop-k-2
invariant-loop-k-2 l = l.to ≡ exchanging l.first (l.k - l.first) l.by
