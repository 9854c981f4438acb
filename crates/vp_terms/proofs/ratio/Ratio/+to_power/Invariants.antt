use Rattle.vp_terms.proofs.ratio.Ratio.+to_power.Given as goal

abbrev pub decreases-to_power : goal.decreases-to_power
decreases-to_power l = l.exponent
