use Rattle.std.proofs.Common.{◌≡◌, map, min, take}
use Rattle.vp_cert.specs.Bounds.{product_size}
use Rattle.vp_cert.specs.Capped.{greatest, scaled_size}
use Rattle.vp_cert.proofs.size.product_size.Given as goal

abbrev pub invariant-loop-factor : goal.invariant-loop-factor
invariant-loop-factor l = record {
  norm : l.norm ≡ min (product_size (map scaled_size (take l.factor-index l.factors))).norm greatest;
  terms : l.terms ≡ min (product_size (map scaled_size (take l.factor-index l.factors))).terms greatest;
  degree : l.degree ≡ min (product_size (map scaled_size (take l.factor-index l.factors))).degree greatest;
}
