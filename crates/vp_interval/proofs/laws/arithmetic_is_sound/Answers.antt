use Rattle.vp_interval.proofs.Powers.{valid_power, represented_power}
use Rattle.vp_interval.proofs.Represented.{represented_sum, represented_product}
use Rattle.vp_interval.proofs.Validity.{valid_sum, valid_product}
use Rattle.vp_interval.proofs.laws.arithmetic_is_sound.Goals as goal

pub returns : goal.returns
returns c = record { valid_sum = valid_sum; valid_product = valid_product; valid_power = valid_power; sums = represented_sum; products = represented_product; powers = represented_power }
