use Rattle.vp_poly.proofs.Saturation.{saturates}
use Rattle.vp_poly.proofs.laws.saturation_keeps_over.Goals as goal

pub returns : goal.returns
returns c = record { over = λ env e. (saturates env e).over; same = λ env e. (saturates env e).same }
