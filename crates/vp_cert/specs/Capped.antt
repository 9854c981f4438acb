-- Sizes that stop at the greatest number of 128 bits.
use Rattle.std.specs.Prelude.{ℕ, ◌-◌, ◌^◌}
use Rattle.vp_poly.specs.declared.scaled.Scaled.{Scaled}
use Rattle.vp_poly.specs.Poly.{IsWithin}
use Rattle.vp_cert.specs.Certificate.{Size}

-- where sizes stop
abbrev pub greatest : ℕ
greatest = 2 ^ 128 - 1

-- the size that the weight of a polynomial gives
abbrev pub scaled_size : Scaled → Size
scaled_size s = record { norm = s.weight.norm; terms = s.weight.terms; degree = s.weight.degree }

-- the polynomial is within its weight
abbrev pub IsWithinWeight : Scaled → Type 0
IsWithinWeight s = IsWithin s.poly s.weight.norm s.weight.degree s.weight.terms
