use Rattle.std.proofs.Common.{subst, sym}
use Rattle.vp_logic.specs.Renamed.{KeepsPlaces}
use Rattle.vp_monitor.proofs.Exchanging.{keeps_places}
use Rattle.vp_monitor.proofs.exchange.keeping.Goals as goal

pub returns-clause-places : goal.returns-clause-places
returns-clause-places c = subst KeepsPlaces (sym c.exchange.ensures.exact) (keeps_places 0 0)
