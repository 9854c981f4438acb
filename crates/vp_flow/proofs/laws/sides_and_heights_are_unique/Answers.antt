use Rattle.vp_flow.proofs.Outcomes.{one_list, one_height, no_cycle}
use Rattle.vp_flow.proofs.laws.sides_and_heights_are_unique.Goals as goal

pub returns : goal.returns
returns c = record { sides = one_list c.polynomials_are_unique.ensures.canonical; heights = one_height; cycles = no_cycle }
